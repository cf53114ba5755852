-- Removal: the rows of the present chart, row 19 and the rows of the shorter chart, which is copied to the front of the buffer.
-- Assumes nothing.
use Rattle.std.specs.Prelude.{Result, Ok, Err}
use mathlib.Core.Path.{◌≡◌, ap, sym, ◌∙◌}
use mathlib.Core.Logic.{inl, inr}
use mathlib.Core.Bool.{true, false, not}
use mathlib.Core.List.{List, [], ◌∷◌, ◌++◌}
use mathlib.Core.Option.{none, some}
use Prim.Native.Nat.{ℕ, ◌-◌, min}
use native.Mathlib.Omega.{arith}
use lib.ListN.{length, take}
use lib.Seq.{take-take, take_at}
use borrow.Author.Tests.{not-false}
use Rattle.lists.specs.Truth.{bad}
use Rattle.chart.specs.Format.{decode}
use Rattle.chart.specs.Reading.{edge_in}
use Rattle.chart.specs.Refusal.{first_of}
use Rattle.chart.specs.declared.format.Refusal.{Refusal}
use Rattle.chart.proofs.Rows.{first-decides, second-decides}
use Rattle.theory_paths.specs.Admission.{admit_rows, Admitted}
use Rattle.output.specs.Output.{content, written_by, left_by}
use Rattle.output.proofs.Outputs.{refused}
use Rattle.theory_edits.specs.Splice.{removed}
use Rattle.theory_edits.specs.Edits.{no_edge_row, remove_rows, remove_written, remove_left}
use Rattle.theory_edits.proofs.SpliceLaws.{removed-length}
use Rattle.theory_edits.proofs.EditLaws.{admitted-laid, admitted-rising}
use Rattle.theory_edits.proofs.NoNode.{no-node-lacking, as_bytes}
use Rattle.call_edges.specs.Asking.{front_rows}
use Rattle.call_edges.proofs.CheckLaws.{within, front-admitted}
use Rattle.call_edges.specs.Removing.{short_rows, short_left}
use Rattle.chart.specs.declared.format.Refusal.TheVariants.{NoEdge}

pub apart : {refusal : Refusal} {count : ℕ} → Err refusal ≡ Ok count → ⊥
apart h = bad (cc)

module _ (s : List ℕ) (x y : ℕ) where
  pub no_edge : not (edge_in (decode s).edges x y) ≡ true → first_of (short_rows s x y) ≡ some NoEdge
  unfolding no_edge_row first_of
  no_edge h = rw h

  module _ (there : not (edge_in (decode s).edges x y) ≡ false) where
    edge-there : first_of (short_rows s x y) ≡ first_of (admit_rows (removed s x y))
    unfolding no_edge_row first_of
    edge-there = rw there

    -- the shorter chart, in front of the two freed bytes
    pub short-front : Admitted s → (l : List ℕ) → take (length s) l ≡ short_left s x y → first_of (front_rows l (length s - 2)) ≡ first_of (short_rows s x y)
    short-front admits l h =
        let two = removed-length s (admitted-laid s admits) x y (admitted-rising s admits) (not-false _ there) in
        let size : length (removed s x y) ≡ length s - 2 = omega arith in
        let front = sym (take-take (length s - 2) (length s) l (omega arith)) ∙ ap (take (length s - 2)) h ∙ take_at (removed s x y) (0 ∷ 0 ∷ []) (length s - 2) size in
        within l (length s - 2) front size ∙ sym edge-there

-- after the rows of the present chart
module _ (buffer : List ℕ) (len x y : ℕ) where
  abbrev s : List ℕ
  s = take len buffer

  pub front-refused : (refusal : Refusal) → first_of (front_rows buffer len) ≡ some refusal
      → (Err refusal ≡ remove_written buffer len x y) × (buffer ≡ remove_left buffer len x y)
  unfolding remove_written remove_left remove_rows
  front-refused refusal h = refused (front_rows buffer len ++ short_rows s x y) _ _ buffer (first-decides (front_rows buffer len) (short_rows s x y) refusal h)

  -- numbers that fit no byte name no edge
  pub front-passed : {r : Result ℕ Refusal} {new : List ℕ} → first_of (front_rows buffer len) ≡ none → r ≡ written_by (short_rows s (min x 255) (min y 255)) (len - 2)
      → new ≡ left_by (short_rows s (min x 255) (min y 255)) (short_left s (min x 255) (min y 255)) buffer
      → (r ≡ remove_written buffer len x y) × (new ≡ remove_left buffer len x y)
  unfolding remove_written remove_left remove_rows written_by left_by content
  front-passed h p q =
      let rows = second-decides (front_rows buffer len) (short_rows s x y) h in
      let admits = (front-admitted buffer len h).1 in
      elim (as_bytes s admits (λ u v. not (edge_in (decode s).edges u v) ≡ true) (no-node-lacking s admits) x y) [
        | inl (a, b) ↦ (rw (a, b) at p ∙ rw rows, rw (a, b) at q ∙ rw rows)
        | inr (a, b) ↦ (rw (no_edge s _ _ a) at p ∙ rw (rows, no_edge s x y b), rw (no_edge s _ _ a) at q ∙ rw (rows, no_edge s x y b))
      ]
