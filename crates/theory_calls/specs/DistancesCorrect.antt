-- What 02 asks of Distances (Note 13), for a buyer: what its number and bytes say in barriers and barrier-free paths (`BarrierFree` in crate
-- theory_paths). It rests on how a chart's bytes are read for a region (crate chart) and on the table of refusals; it mentions no search.
-- Assumes nothing.
use Rattle.std.specs.Prelude.{◌≡◌, ◌↔◌, List, [], ℕ, ◌≤◌, ◌<◌, ℤ, length, get_or}
use Rattle.chart.specs.Format.{decode}
use Rattle.chart.specs.Region.{barrier, Region}
use Rattle.chart.specs.Reading.{region_of}
use Rattle.theory_paths.specs.Path.{edges, BarrierFree}
use Rattle.theory_paths.specs.Admission.{region_rows}
use Rattle.theory_answers.specs.Numbers.{Asked}
use Rattle.output.specs.Output.{output_rows}
use Rattle.output.specs.OutputCorrect.{OutputCorrect}

-- A barrier-free path of so many edges leads from some barrier to node x, and every barrier-free path from a barrier to x has at least as many.
pub record Behind (R : Region) (x count : ℕ) : Type 0 where
  pub from : ℕ
  pub is-barrier : R.role from ≡ barrier
  pub path : BarrierFree R from x
  pub long : edges path ≡ count
  pub least : (b : ℕ) → R.role b ≡ barrier → (w : BarrierFree R b x) → count ≤ edges w

-- Distances: a byte for each node, which is 255 exactly for barriers and for nodes outside the region, and tells the fewest edges otherwise.
pub record DistanceBytes (R : Region) (new : List ℕ) : Type 0 where
  pub barriers : (x : ℕ) → x < R.nodes → (get_or new x 0 ≡ 255) ↔ (Asked R x → ⊥)
  pub fewest : (x : ℕ) → Asked R x → Behind R x (get_or new x 0)

-- The number and the lent bytes afterwards are right for the bytes of a chart, the number of a region and the lent bytes before.
abbrev pub DistancesCorrect : List ℕ → ℕ → List ℕ → ℤ → List ℕ → Type 0
DistancesCorrect s p old =
    let R = region_of p (decode s) in
    OutputCorrect (output_rows (region_rows s p) (length old) R.nodes []) R.nodes (DistanceBytes R) old
