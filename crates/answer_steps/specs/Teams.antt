-- The table of a team, by thread and construct.
-- Assumes nothing.
use Rattle.std.specs.Prelude.{[], ℕ, get_or}
use Rattle.theory_traces.specs.declared.Thread.{Thread}
use Rattle.answer_steps.specs.declared.tables.TeamTable.{TeamTable}

-- What stands past the threads: none of its values matters.
abbrev pub unknown : Thread
unknown = record { node = 0; counts = []; taken = [] }

abbrev pub thread_at : TeamTable → ℕ → Thread
thread_at team t = get_or team.threads t unknown

-- How often thread t has left the begin of c.
abbrev pub count_at : TeamTable → ℕ → ℕ → ℕ
count_at team t c = get_or (thread_at team t).counts c 0

-- The mask of the sections that it has taken of c.
abbrev pub taken_at : TeamTable → ℕ → ℕ → ℕ
taken_at team t c = get_or (thread_at team t).taken c 0
