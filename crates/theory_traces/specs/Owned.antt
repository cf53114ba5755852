-- What a replay keeps of the state that it has come to.
-- Assumes nothing.
use Rattle.std.specs.Prelude.{◌≡◌, true, ℕ}
use Rattle.theory_traces.specs.Legal.{Together}
use Rattle.theory_traces.specs.Replay.{Play}

-- What is met in the state is marked.
abbrev pub Own : ℕ → Play → Type 0
Own m P = (a b : ℕ) → Together m P.state a b → P.met a b ≡ true
