-- What writing the phases of a region rests on.
-- Assumes nothing.
use Rattle.std.specs.Prelude.{◌≡◌, List, [], ℕ, length}
use Rattle.chart.specs.Region.{Region}
use Rattle.chart.specs.Refusal.{Row}
use Rattle.theory_paths.specs.Phases.{forward, backward}
use Rattle.mark_tables.specs.Tables.{Masks}
use Rattle.output.specs.Output.{output_rows}
use Rattle.theory_calls.specs.Phases.{phases_result}

-- It holds of every region of n nodes whose starts and ends these masks are.
abbrev pub OfMasks : ℕ → List ℕ → List ℕ → (Region → Type 0) → Type 0
OfMasks n starts ends P = (R : Region) → R.nodes ≡ n → Masks forward R starts → Masks backward R ends → P R

-- Row 11, for the phases of a region.
abbrev pub phases_rows : Region → List ℕ → List Row
phases_rows R out = output_rows [] (length out) (length (phases_result R)) []
