-- The byte of two accesses, from the line of the first one's node: two sets of nodes, of which the byte tells how many have the other's node.
-- Assumes nothing.
use Rattle.std.specs.Prelude.{cond, List, [], ℕ, ◌+◌, ◌/◌, ◌%◌, ◌^◌, get_or}
use Rattle.theory_calls.specs.declared.Access.{Access}
use Rattle.theory_calls.specs.Races.{harmless}
use Rattle.answer_races.specs.declared.rows.Line.{Line}

-- What stands past the end of a table of lines: none of its values matters.
abbrev pub no_line : Line
no_line = record { meet = []; free = [] }

-- The line of node a.
abbrev pub line_at : List Line → ℕ → Line
line_at lines a = get_or lines a no_line

-- By the nodes alone, the other one b.
unfoldable pub line_race : Line → ℕ → ℕ
line_race line b = get_or line.meet (b / 64) 0 / 2 ^ (b % 64) % 2 + get_or line.free (b / 64) 0 / 2 ^ (b % 64) % 2

unfoldable pub by_line : Line → Access → Access → ℕ
by_line line i j = cond (harmless i j) 0 (line_race line j.node)
