-- What is promised of distances by levels.
-- Assumes nothing.
use Rattle.std.specs.Prelude.{◌≡◌, List, ℕ}
use Rattle.chart.specs.Region.{Region}
use Rattle.theory_paths.specs.Phases.{forward}
use Rattle.mark_tables.specs.Tables.{Closed, Levels}

-- It holds of every region of n nodes whose closed nodes and levels these are.
abbrev pub OfLevels : ℕ → List ℕ → List ℕ → (Region → Type 0) → Type 0
OfLevels n closed levels P = (R : Region) → R.nodes ≡ n → Closed R closed → Levels forward R levels → P R
