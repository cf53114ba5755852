-- Row 21 of the refusals, of a team size that a call is handed (02, Note 10: sizes are 1 to 1,024).
-- Assumes nothing.
use Rattle.std.specs.Prelude.{◌||◌, List, [], ◌∷◌, ℕ, ltb}
use Rattle.chart.specs.Refusal.{Row}
use Rattle.theory_answers.specs.declared.Size.{Size}
use Rattle.theory_answers.specs.declared.Size.TheVariants.{Any, Of}
use Rattle.chart.specs.declared.format.Refusal.TheVariants.{BadSize}

unfoldable pub size_row : ℕ → Row
size_row m = record { refusal = BadSize; applies = ltb m 1 || ltb 1024 m }

-- A call without a size has no such row.
abbrev pub size_rows : Size → List Row
size_rows Any = []
size_rows (Of m) = size_row m ∷ []
