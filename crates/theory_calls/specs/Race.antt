-- What two accesses are to each other (02, Note 9), in variables, writes, finished runs and criticals. It mentions no answer.
-- Assumes nothing.
use Rattle.std.specs.Prelude.{◌≡◌, ◌⊎◌, ◌≢◌, ℕ}
use Rattle.chart.specs.Region.{Region}
use Rattle.theory_team.specs.Run.{Concurrent}
use Rattle.theory_team.specs.Locks.{InCritical}
use Rattle.theory_calls.specs.declared.Access.{Access}

-- 02: "Two accesses have no race if the variables differ, both read, or the nodes never meet".
abbrev pub NoRace : Region → Access → Access → Type 0
NoRace R i j = (i.variable ≢ j.variable) ⊎ (((i.write ≡ 0) × (j.write ≡ 0)) ⊎ (Concurrent R i.node j.node → ⊥))

-- Otherwise one variable is accessed by both and written by one of them, and the nodes are concurrent (01: met).
abbrev pub Racing : Region → Access → Access → Type 0
Racing R i j = (i.variable ≡ j.variable) × (((i.write ≡ 1) ⊎ (j.write ≡ 1)) × Concurrent R i.node j.node)

-- Both nodes are inside criticals of a common name.
abbrev pub CommonName : Region → ℕ → ℕ → Type 0
CommonName R a b = (name : ℕ) × (InCritical R a name × InCritical R b name)

-- The byte of two accesses.
pub data Race (R : Region) (i j : Access) : ℕ → Type 0 where
  no_race : NoRace R i j → Race R i j 0
  synchronization : Racing R i j → CommonName R i.node j.node → Race R i j 1
  data-race : Racing R i j → (CommonName R i.node j.node → ⊥) → Race R i j 2
