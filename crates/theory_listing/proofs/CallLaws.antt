-- What the call writes: the chart that the whole text means, which is admitted (02, Note 2: "every chart written is admitted").
-- Assumes nothing.
use Rattle.std.specs.Prelude.{◌≡◌, false, List, ℕ, length, take, drop, Ok}
use Rattle.std.proofs.Common.{ap, ◌∙◌, inl, inr, arith, take_at, eq-eqb}
use Rattle.std.proofs.Math.Option.{none}
use Rattle.lists.specs.Truth.{clash}
use Rattle.chart.specs.Format.{decode}
use Rattle.chart.specs.Refusal.{first_of}
use Rattle.chart.proofs.Rows.{none-applies, both-pass}
use Rattle.theory_paths.specs.Admission.{Admitted}
use Rattle.output.specs.Output.{output_rows, written_by, left_by, content}
use Rattle.output.proofs.Outputs.{bytes-none}
use Rattle.theory_listing.specs.Tree.{Block}
use Rattle.theory_listing.specs.Grammar.{Read, up_to, stopped, listed}
use Rattle.theory_listing.specs.Meaning.{block_chart, block_bytes}
use Rattle.theory_listing.specs.Call.{block_read, stopped_by, block_rows, listing_bytes, listing_rows, listing_written, listing_left}
use Rattle.theory_listing.proofs.Admitted.{block-decoded, block-admitted}
use Rattle.theory_listing.specs.GrammarLaws.{Kinds, Fine, listed-fine}

-- reading that did not stop with 14 or 15 did not stop
read_whole : (n : ℕ) (read : Read Block) → Fine Kinds n n read → stopped_by 14 read ≡ false → stopped_by 15 read ≡ false
    → (read ≡ up_to (block_read read) n) × Kinds (block_read read)
unfolding block_read stopped_by
read_whole n (up_to b next) h f g = (ap (up_to b) (omega (arith, h.1.0, h.1.1)), h.0)
read_whole n (stopped number) (inl e) f g = absurd (clash (eq-eqb number 14 e) f)
read_whole n (stopped number) (inr e) f g = absurd (clash (eq-eqb number 15 e) g)

module _ (text out : List ℕ) (size : ℕ) (h : listing_written text out ≡ Ok size) where
  abbrev b : Block
  b = block_read (listed text)

  passes : (first_of (listing_rows text (length out)) ≡ none) × (length (listing_bytes text) ≡ size)
  unfolding listing_written written_by
  passes = bytes-none (first_of (listing_rows text (length out))) h

  pub listing-read : (listed text ≡ up_to b (length text)) × Kinds b
  unfolding listing_rows output_rows block_rows
  listing-read =
      let rows = none-applies _ (both-pass (block_rows (listed text)) _ passes.0).0 in
      read_whole (length text) (listed text) (listed-fine text) rows.0 rows.1.0

  pub listing-front : take size (listing_left text out) ≡ block_bytes b
  unfolding listing_left left_by content listing_bytes
  listing-front = rw passes.0 (take_at (block_bytes b) (drop (length (block_bytes b)) out) size passes.1)

  -- What was written decodes to the chart that the text means.
  pub listing-decoded : decode (take size (listing_left text out)) ≡ block_chart b
  listing-decoded = ap decode listing-front ∙ block-decoded b

  -- Every chart written is admitted.
  pub listing-admitted : Admitted (take size (listing_left text out))
  unfolding listing_rows output_rows block_rows
  listing-admitted =
      let rows = none-applies _ (both-pass (block_rows (listed text)) _ passes.0).0 in
      rw listing-front (block-admitted b listing-read.1 rows.1.1.0 rows.1.1.1.0 rows.1.1.1.1.0 rows.1.1.1.1.1.0)
