-- For each start the union of the ends of the nodes that have it, as the phase count makes them.
-- Assumes nothing.
use Rattle.std.specs.Prelude.{◌≡◌, Bool, ◌&&◌, List, ℕ, ◌<◌, length, get_or}
use Rattle.lists.specs.Range.{any}
use Rattle.lists.specs.Mask.{mask_of}
use Rattle.chart.specs.Region.{Region}
use Rattle.theory_paths.specs.Phases.{forward, backward, barriers, marked}

-- The ends c of the first n nodes that have the start b.
abbrev pub among : Region → ℕ → ℕ → ℕ → Bool
among R n b c = any n (λ x. marked forward R x b && marked backward R x c)

abbrev pub United : Region → ℕ → List ℕ → Type 0
United R n unions = (b : ℕ) → b < 64 → b < length (barriers R) → get_or unions b 0 ≡ mask_of (among R n b) (length (barriers R))
