-- Calls that write a result: what they answer and leave by the outcome of their rows, and what an answer says of these.
-- Assumes nothing.
use Rattle.std.specs.Prelude.{Result, Ok, Err}
use mathlib.Core.Path.{◌≡◌, refl, ap, sym, ◌∙◌}
use mathlib.Core.List.{List, [], ◌∷◌, ◌++◌}
use mathlib.Core.Option.{Option, none, some}
use Prim.Native.Nat.{ℕ, ◌≤◌}
use lib.ListN.{length, drop}
use borrow.Author.Tests.{ltb-false}
use Rattle.lists.specs.Truth.{bad}
use Rattle.chart.specs.Refusal.{Row, first_of}
use Rattle.chart.specs.declared.format.Refusal.{Refusal}
use Rattle.chart.proofs.Rows.{none-applies, both-pass, first-decides, second-decides}
use Rattle.output.specs.Output.{room_row, output_rows, written, content, written_by, left_by}

-- an answer read backwards
pub bytes-none : (o : Option Refusal) {size count : ℕ} → written o size ≡ Ok count → (o ≡ none) × (size ≡ count)
unfolding written
bytes-none none h = (refl, cc)
bytes-none (some refusal) h = absurd (bad (cc))

pub refused-some : (o : Option Refusal) (size : ℕ) {refusal : Refusal} → written o size ≡ Err refusal → o ≡ some refusal
unfolding written
refused-some none size h = absurd (bad (cc))
refused-some (some given) size {refusal} h = ap some same
  where
    same : given ≡ refusal
    same = cc

-- a result that was written had room
pub had-room : (before after : List Row) (room size : ℕ) {count : ℕ} → written_by (output_rows before room size after) size ≡ Ok count
    → (size ≡ count) × (size ≤ room)
unfolding written_by output_rows room_row
had-room before after room size h =
    let (passes, same) = bytes-none (first_of (before ++ (room_row room size ∷ after))) h in
    (same, ltb-false room size (none-applies _ (both-pass before _ passes).1).0)

-- the rows before row 11 decide, or leave it to the others

module _ (before after : List Row) (size : ℕ) (result old : List ℕ) where
  abbrev rows : List Row
  rows = output_rows before (length old) size after

  pub refused-before : (refusal : Refusal) → first_of before ≡ some refusal
      → (Err refusal ≡ written_by rows size) × (old ≡ left_by rows result old)
  unfolding written_by left_by output_rows written content
  refused-before number h = let q = first-decides before (room_row (length old) size ∷ after) number h in (rw q, rw q)

  pub passed-before : first_of before ≡ none → (written_by rows size ≡ written_by (output_rows [] (length old) size after) size)
      × (left_by rows result old ≡ left_by (output_rows [] (length old) size after) result old)
  unfolding written_by left_by output_rows
  passed-before h = let q = second-decides before (room_row (length old) size ∷ after) h in (rw q, rw q)

-- row 11 decides, or leaves it to the rows after it

module _ (room size : ℕ) (after : List Row) where
  pub room-refused : {refusal : Refusal} → written_by (output_rows [] room size []) size ≡ Err refusal
      → first_of (output_rows [] room size after) ≡ some refusal
  unfolding written_by output_rows
  room-refused h = first-decides (room_row room size ∷ []) after _ (refused-some (first_of (room_row room size ∷ [])) size h)

  pub room-passed : {count : ℕ} → written_by (output_rows [] room size []) size ≡ Ok count
      → (first_of (output_rows [] room size after) ≡ first_of after) × (size ≡ count)
  unfolding written_by output_rows
  room-passed h = let (p, q) = bytes-none (first_of (room_row room size ∷ [])) h in (second-decides (room_row room size ∷ []) after p, q)

-- by the first row that applies, and by an answer

module _ (rows : List Row) (size : ℕ) (result old : List ℕ) where
  pub refused : {refusal : Refusal} → first_of rows ≡ some refusal → (Err refusal ≡ written_by rows size) × (old ≡ left_by rows result old)
  unfolding written_by left_by written content
  refused h = (rw h, rw h)

  pub passed : {count : ℕ} → size ≡ count → first_of rows ≡ none → (Ok count ≡ written_by rows size) × (result ++ drop (length result) old ≡ left_by rows result old)
  unfolding written_by left_by written content
  passed q h = (rw (h, q), rw h)

  pub kept : {refusal : Refusal} → written_by rows size ≡ Err refusal → old ≡ left_by rows result old
  unfolding written_by left_by content
  kept h = rw (refused-some (first_of rows) size h)

  pub put : {count : ℕ} → written_by rows size ≡ Ok count → result ++ drop (length result) old ≡ left_by rows result old
  unfolding written_by left_by content
  put h = rw (bytes-none (first_of rows) h).0

-- where the rows before row 11 let pass: what is answered of what was read is what is answered of what was named
pub passed-named : (before after : List Row) (result : ℕ → List ℕ) (old : List ℕ) {read named : ℕ} → read ≡ named → first_of before ≡ none
    → {r : Result ℕ Refusal} {new : List ℕ} → let size = length (result read) in r ≡ written_by (output_rows [] (length old) size after) size
    → new ≡ left_by (output_rows [] (length old) size after) (result read) old
    → let full = length (result named) in (r ≡ written_by (output_rows before (length old) full after) full)
    × (new ≡ left_by (output_rows before (length old) full after) (result named) old)
passed-named before after result old {named = named} q passes h k =
    let b = passed-before before after (length (result named)) (result named) old passes in
    (rw q at h ∙ sym b.0, rw q at k ∙ sym b.1)
