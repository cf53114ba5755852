-- What 02 asks of a listing's chart (Note 2), for a buyer: what the number and the bytes say in the block that the text means. It rests on the
-- grammar and the meaning of a listing (specs/Grammar.antt, specs/Meaning.antt), on how a chart's bytes are read (crate chart) and on the table
-- of refusals.
-- Assumes nothing.
use Rattle.std.specs.Prelude.{◌≡◌, List, ℕ, ℤ, pos, neg_ℤ, length, take, drop}
use Rattle.std.proofs.Math.Option.{none, some}
use Rattle.chart.specs.Format.{decode}
use Rattle.chart.specs.Refusal.{first_of, row_number}
use Rattle.theory_paths.specs.Admission.{Admitted}
use Rattle.theory_listing.specs.Tree.{Block}
use Rattle.theory_listing.specs.Grammar.{up_to, listed}
use Rattle.theory_listing.specs.Meaning.{block_chart}
use Rattle.theory_listing.specs.Call.{listing_rows}
use Rattle.chart.specs.declared.format.Refusal.{Refusal}

-- The whole text is a block; a chart of `size` bytes was written, which is admitted and decodes to the chart that the block means.
pub record ListingChart (text old new : List ℕ) (size : ℕ) : Type 0 where
  pub block : Block
  pub read : listed text ≡ up_to block (length text)
  pub admitted : Admitted (take size new)
  pub means : decode (take size new) ≡ block_chart block
  pub rest : drop size new ≡ drop size old

-- The number and the lent bytes afterwards are right for a text and the lent bytes before.
pub record ListingCorrect (text old : List ℕ) (number : ℤ) (new : List ℕ) : Type 0 where
  pub refuses : (refusal : Refusal) → first_of (listing_rows text (length old)) ≡ some refusal → (number ≡ neg_ℤ (pos (row_number refusal))) × (new ≡ old)
  pub writes : first_of (listing_rows text (length old)) ≡ none → (size : ℕ) × ((number ≡ pos size) × ListingChart text old new size)
