-- A listing's chart is written correctly, for all texts.
-- Assumes nothing.
use Rattle.std.specs.Prelude.{◌≡◌, refl, List, ℕ, drop, Ok}
use Rattle.std.proofs.Math.Option.{none, some}
use Rattle.std.proofs.Math.ListN.{length}
use Rattle.std.proofs.Common.{drop_at}
use Rattle.chart.specs.Refusal.{first_of}
use Rattle.output.specs.Output.{written, content, written_by, left_by, number_of}
use Rattle.theory_listing.specs.Grammar.{listed}
use Rattle.theory_listing.specs.Call.{block_read, listing_bytes, listing_rows, listing_written, listing_left}
use Rattle.theory_listing.proofs.CallLaws.{listing-read, listing-decoded, listing-admitted}
use Rattle.theory_listing.specs.ListingCorrect.{ListingCorrect}
use Rattle.chart.specs.declared.format.Refusal.{Refusal}

module _ (text old : List ℕ) where
  refused : (refusal : Refusal) → first_of (listing_rows text (length old)) ≡ some refusal → (number_of (listing_written text old) ≡ number_of (written (some refusal) 0)) × (listing_left text old ≡ old)
  unfolding listing_written listing_left written_by left_by content written
  refused row h = rw h (refl, refl)

  wrote : first_of (listing_rows text (length old)) ≡ none → listing_written text old ≡ Ok (length (listing_bytes text))
  unfolding listing_written written_by written
  wrote h = rw h

  past : first_of (listing_rows text (length old)) ≡ none → drop (length (listing_bytes text)) (listing_left text old) ≡ drop (length (listing_bytes text)) old
  unfolding listing_left left_by content
  past h = rw h (drop_at (listing_bytes text) (drop (length (listing_bytes text)) old) (length (listing_bytes text)) refl)

  -- What 02 asks of the call.
  pub listing-correct : ListingCorrect text old (number_of (listing_written text old)) (listing_left text old)
  unfolding number_of written
  listing-correct = record {
    refuses = refused;
    writes = λ h.
        let size = length (listing_bytes text) in
        let w = wrote h in (
          size,
          (
            rw w,
            record {
              block = block_read (listed text);
              read = (listing-read text old size w).0;
              admitted = listing-admitted text old size w;
              means = listing-decoded text old size w;
              rest = past h;
            },
          ),
        );
  }
