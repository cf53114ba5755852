-- What is promised of a list of claims by masks.
-- Assumes nothing.
use Rattle.std.specs.Prelude.{◌≡◌, false, List, ℕ}
use Rattle.chart.specs.Region.{Region}
use Rattle.theory_answers.specs.declared.Size.{Size}
use Rattle.answer_constructs.specs.Marks.{Sized, Marks}
use Rattle.answer_constructs.specs.declared.mask_table.MaskTable.{MaskTable}
use Rattle.answer_constructs.specs.declared.kinds.Sets.{Sets}
use Rattle.theory_calls.specs.Claims.{bad_numbers}

-- It holds of every region and size that these masks and sets are of, and that row 13 takes the claims for.
abbrev pub OfMarks : MaskTable → Sets → List ℕ → (Region → Size → Type 0) → Type 0
OfMarks marks sets claims P = (R : Region) (size : Size) → Marks R marks sets.kinds → Sized R size sets → bad_numbers R claims ≡ false → P R size
