-- What the answer of rows 1 to 10 says, of a chart that is all of its bytes and of one in the front of a buffer.
-- Assumes nothing.
use Rattle.std.specs.Prelude.{Ok, Err}
use mathlib.Core.Path.{◌≡◌, refl, ap}
use mathlib.Core.List.{List}
use mathlib.Core.Option.{Option, none, some}
use Prim.Native.Nat.{ℕ, ◌≤◌, ◌<◌}
use native.Mathlib.Omega.{arith}
use lib.ListN.{length, take, length-take}
use borrow.Author.Tests.{lt-ltb, le-ltb, ltb-false}
use Rattle.lists.specs.Truth.{bad}
use Rattle.chart.specs.Refusal.{first_of, trailer_rows, chart_rows}
use Rattle.chart.specs.Checked.{checked_by}
use Rattle.chart.specs.declared.format.Chart.{Chart}
use Rattle.chart.specs.declared.format.Refusal.{Refusal}
use Rattle.chart.proofs.Rows.{none-applies, both-pass}
use Rattle.theory_paths.specs.Admission.{admit_rows, Admitted}
use Rattle.theory_edits.specs.Edits.{length_row}
use Rattle.call_edges.proofs.Splicing.{room}
use Rattle.call_edges.specs.Asking.{front_rows}
use Rattle.chart.specs.declared.format.Refusal.TheVariants.{BadLengths}

-- an answer read backwards
pub passed_none : (o : Option Refusal) (counts : Chart) {chart : Chart} → checked_by o counts ≡ Ok chart → (o ≡ none) × (chart ≡ counts)
unfolding checked_by
passed_none none counts h = (refl, cc)
passed_none (some refusal) counts h = absurd (bad (cc))

pub refused-some : (o : Option Refusal) (counts : Chart) {refusal : Refusal} → checked_by o counts ≡ Err refusal → o ≡ some refusal
unfolding checked_by
refused-some none counts h = absurd (bad (cc))
refused-some (some given) counts {refusal} h = ap some same
  where
    same : given ≡ refusal
    same = cc

module _ (s : List ℕ) (admits : Admitted s) where
  pub trailer-passes : first_of (trailer_rows s) ≡ none
  unfolding admit_rows chart_rows
  trailer-passes = (both-pass (trailer_rows s) _ (both-pass (chart_rows s) _ admits).0).0

  pub chart-least : 16 ≤ length s
  chart-least = omega (arith, (room s trailer-passes 0 (omega arith)).whole)

  pub chart-most : length s ≤ 3120
  chart-most = (room s trailer-passes 0 (omega arith)).most

module _ (buffer : List ℕ) (len : ℕ) where
  pub beyond : length buffer < len → first_of (front_rows buffer len) ≡ some BadLengths
  unfolding length_row first_of
  beyond l = rw (lt-ltb (length buffer) len l)

  pub within : {front : List ℕ} → take len buffer ≡ front → length front ≡ len → first_of (front_rows buffer len) ≡ first_of (admit_rows front)
  unfolding length_row first_of
  within e q =
      let l : len ≤ length buffer = omega (arith, ap length e, q, length-take len buffer) in
      rw (le-ltb (length buffer) len l, e)

  pub front-admitted : first_of (front_rows buffer len) ≡ none → (len ≤ length buffer) × Admitted (take len buffer)
  unfolding length_row first_of
  front-admitted h =
      let l = ltb-false (length buffer) len (none-applies (front_rows buffer len) h).0 in
      (l, rw (le-ltb (length buffer) len l) at h)
