-- The verdict on a list of claims that is not refused: the index of the first false one, where there is one.
-- Assumes nothing.
use Rattle.std.specs.Prelude.{ℕ, Option}

abbrev pub Verdict : Type 0
Verdict = Option ℕ
