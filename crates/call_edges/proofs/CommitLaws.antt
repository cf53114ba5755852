-- Commit: rows 17 and 18 after those of asking.
-- Assumes nothing.
use Rattle.std.specs.Prelude.{Result, Err}
use mathlib.Core.Path.{◌≡◌, ◌∙◌}
use mathlib.Core.Logic.{◌≢◌}
use mathlib.Core.List.{List, [], ◌∷◌}
use mathlib.Core.Option.{none, some}
use Prim.Native.Nat.{ℕ, ◌+◌, ◌≤◌, ◌<◌}
use lib.ListN.{length, take}
use borrow.Author.Tests.{lt-ltb, le-ltb, eq-eqb, ne_eqb}
use Rattle.chart.specs.Refusal.{first_of}
use Rattle.chart.proofs.Rows.{first-decides, second-decides}
use Rattle.output.specs.Output.{written_by, left_by}
use Rattle.output.proofs.Outputs.{refused}
use Rattle.theory_edits.specs.Splice.{inserted}
use Rattle.theory_edits.specs.Edits.{ask_rows, receipt_for, receipt_row, space_row, commit_rows, insert_written, insert_left}
use Rattle.theory_edits.specs.declared.Receipt.{Receipt}
use Rattle.call_edges.specs.Inserting.{late_rows}
use Rattle.chart.specs.declared.format.Refusal.{Refusal}
use Rattle.chart.specs.declared.format.Refusal.TheVariants.{OldReceipt, NoSpace}

module _ (room : ℕ) (receipt present : Receipt) where
  pub other_length : receipt.length ≢ present.length → first_of (late_rows room receipt present) ≡ some OldReceipt
  unfolding receipt_row first_of
  other_length n = rw (ne_eqb _ _ n)

  module _ (same : receipt.length ≡ present.length) where
    pub other_place : receipt.place ≢ present.place → first_of (late_rows room receipt present) ≡ some OldReceipt
    unfolding receipt_row first_of
    other_place n = rw (eq-eqb _ _ same, ne_eqb _ _ n)

    module _ (agrees : receipt.place ≡ present.place) where
      pub no-space : room < present.length + 2 → first_of (late_rows room receipt present) ≡ some NoSpace
      unfolding receipt_row space_row first_of
      no-space l = rw (eq-eqb _ _ same, eq-eqb _ _ agrees, lt-ltb _ _ l)

      pub space : present.length + 2 ≤ room → first_of (late_rows room receipt present) ≡ none
      unfolding receipt_row space_row first_of
      space l = rw (eq-eqb _ _ same, eq-eqb _ _ agrees, le-ltb _ _ l)

-- after the rows of asking
module _ (buffer : List ℕ) (len : ℕ) (receipt : Receipt) (x y : ℕ) where
  pub asking-refused : (refusal : Refusal) → first_of (ask_rows buffer len x y) ≡ some refusal
      → (Err refusal ≡ insert_written buffer len receipt x y) × (buffer ≡ insert_left buffer len receipt x y)
  unfolding insert_written insert_left commit_rows
  asking-refused refusal h = refused _ _ _ buffer (first-decides (ask_rows buffer len x y) _ refusal h)

  pub asking-passed : (scratch : List ℕ) {present : Receipt} {r : Result ℕ Refusal} {new : List ℕ} → first_of (ask_rows buffer len x y) ≡ none → present ≡ receipt_for buffer len x y
      → take (len + 2) scratch ≡ inserted (take len buffer) x y
      → r ≡ written_by (late_rows (length buffer) receipt present) (present.length + 2)
      → new ≡ left_by (late_rows (length buffer) receipt present) (take (present.length + 2) scratch) buffer
      → (r ≡ insert_written buffer len receipt x y) × (new ≡ insert_left buffer len receipt x y)
  unfolding insert_written insert_left commit_rows written_by left_by receipt_for
  asking-passed scratch h e q a b =
      let late = second-decides (ask_rows buffer len x y) (receipt_row receipt (receipt_for buffer len x y) ∷ space_row (length buffer) len ∷ []) h in
      (rw e at a ∙ rw late, rw (e, q) at b ∙ rw late)
