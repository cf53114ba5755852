-- The bytes of a row, from the line of its node.
-- Assumes nothing.
use Rattle.std.specs.Prelude.{List, ℕ, ◌+◌}
use Rattle.theory_calls.specs.Access.{access_at}
use Rattle.answer_races.specs.declared.rows.Line.{Line}
use Rattle.answer_races.specs.Bytes.{line_at, by_line}

-- Byte k of row i.
abbrev pub line_byte : List Line → List ℕ → ℕ → ℕ → ℕ
line_byte lines list i k = by_line (line_at lines (access_at list i).node) (access_at list i) (access_at list (i + k))
