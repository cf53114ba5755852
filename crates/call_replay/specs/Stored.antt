-- Records stored over others, one after the other.
-- Assumes nothing.
use Rattle.std.specs.Prelude.{List, [], ℕ, zero, suc, get_or, set}
use Rattle.theory_traces.specs.declared.Thread.{Thread}

-- What stands past the end of a list of records: none of its values matters.
abbrev pub blank : Thread
blank = record { node = 0; counts = []; taken = [] }

-- The first n records of ys become those of xs.
unfoldable pub stored : List Thread → ℕ → List Thread → List Thread
stored xs zero ys = ys
stored xs (suc n) ys = set (stored xs n ys) n (get_or xs n blank)
