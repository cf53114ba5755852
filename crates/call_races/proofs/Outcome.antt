-- What the call answers and leaves, by what decides: rows 1 to 10 and 23, row 20, or row 11 and the bytes.
-- Assumes nothing.
use Rattle.std.specs.Prelude.{Result, Err}
use mathlib.Core.Path.{◌≡◌, ap, ◌∙◌}
use mathlib.Core.Bool.{true, false}
use mathlib.Core.List.{List, [], ◌∷◌, ◌++◌, append_assoc}
use mathlib.Core.Option.{none, some}
use Prim.Native.Nat.{ℕ}
use lib.ListN.{length}
use Rattle.chart.specs.Format.{decode}
use Rattle.chart.specs.Region.{Region}
use Rattle.chart.specs.Reading.{region_of}
use Rattle.chart.specs.Refusal.{Row, first_of}
use Rattle.chart.proofs.Rows.{first-decides, second-decides}
use Rattle.theory_paths.specs.Admission.{region_rows}
use Rattle.output.specs.Output.{output_rows, written_by, left_by}
use Rattle.output.proofs.Outputs.{refused-before, passed-before}
use Rattle.theory_calls.specs.Access.{bad_accesses, accesses_row}
use Rattle.theory_calls.specs.Races.{races, list_rows, races_written, races_left}
use Rattle.chart.specs.declared.format.Refusal.{Refusal}
use Rattle.chart.specs.declared.format.Refusal.TheVariants.{BadAccesses}

module _ (R : Region) (list old : List ℕ) where
  abbrev size : ℕ
  size = length (races R list)

  abbrev rows : List Row
  rows = accesses_row R list ∷ []

  pub list-refused : bad_accesses R list ≡ true
      → (Err BadAccesses ≡ written_by (output_rows (accesses_row R list ∷ []) (length old) (length (races R list)) []) (length (races R list)))
      × (old ≡ left_by (output_rows (accesses_row R list ∷ []) (length old) (length (races R list)) []) (races R list) old)
  unfolding first_of accesses_row
  list-refused h = refused-before rows [] size (races R list) old BadAccesses (rw h)

  pub list-passed : bad_accesses R list ≡ false
      → (written_by (output_rows (accesses_row R list ∷ []) (length old) (length (races R list)) []) (length (races R list))
      ≡ written_by (output_rows [] (length old) (length (races R list)) []) (length (races R list)))
      × (left_by (output_rows (accesses_row R list ∷ []) (length old) (length (races R list)) []) (races R list) old
      ≡ left_by (output_rows [] (length old) (length (races R list)) []) (races R list) old)
  unfolding first_of accesses_row
  list-passed h = passed-before rows [] size (races R list) old (rw h)

module _ (s : List ℕ) (p : ℕ) (list old : List ℕ) where
  pub chart-refused : (refusal : Refusal) → first_of (region_rows s p) ≡ some refusal
      → (Err refusal ≡ races_written s p list old) × (old ≡ races_left s p list old)
  unfolding list_rows
  chart-refused number h =
      let R = region_of p (decode s) in
      refused-before (list_rows s p list) [] (length (races R list)) (races R list) old number (first-decides (region_rows s p) (accesses_row R list ∷ []) number h)

  -- what is answered of what was read is what is answered of what was named
  pub chart-passed : {read : ℕ} → read ≡ p → first_of (region_rows s p) ≡ none → {r : Result ℕ Refusal} {new : List ℕ} → let R = region_of read (decode s) in
      let size = length (races R list) in
      r ≡ written_by (output_rows (accesses_row R list ∷ []) (length old) size []) size
      → new ≡ left_by (output_rows (accesses_row R list ∷ []) (length old) size []) (races R list) old
      → (r ≡ races_written s p list old) × (new ≡ races_left s p list old)
  unfolding list_rows output_rows written_by left_by
  chart-passed q passes h k = let d = decided in (rw q at h ∙ rw d, rw q at k ∙ rw d)
    where
      R : Region
      R = region_of p (decode s)

      more : List Row
      more = output_rows (accesses_row R list ∷ []) (length old) (length (races R list)) []

      decided : first_of (output_rows (region_rows s p ++ (accesses_row R list ∷ [])) (length old) (length (races R list)) []) ≡ first_of more
      decided = ap first_of (append_assoc (region_rows s p) (accesses_row R list ∷ []) _) ∙ second-decides (region_rows s p) more passes
