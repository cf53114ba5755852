-- What a release sets back in the table of a team.
-- Assumes nothing.
use Rattle.std.specs.Prelude.{◌≡◌, ℕ, ◌≤◌, ◌<◌, length, set}
use Rattle.theory_traces.specs.declared.Thread.{Thread}
use Rattle.answer_steps.specs.declared.tables.TeamTable.{TeamTable}
use Rattle.answer_steps.specs.Teams.{thread_at, count_at, taken_at}

-- Nothing is counted and nothing taken of construct c.
abbrev pub without : ℕ → Thread → Thread
without c r = record { node = r.node; counts = set r.counts c 0; taken = set r.taken c 0 }

-- Of construct c, the first n threads' count and mask are 0; all else is as it was.
pub record SetBack (n c : ℕ) (old new : TeamTable) : Type 0 where
  pub long : length new.threads ≡ length old.threads
  pub at : (t : ℕ) → t < n → thread_at new t ≡ without c (thread_at old t)
  pub rest : (t : ℕ) → n ≤ t → thread_at new t ≡ thread_at old t
  pub chosen : new.chosen ≡ old.chosen
  pub pending : new.pending ≡ old.pending
  pub left : new.left ≡ old.left

-- Of every construct they are, and none is left to set back; nodes, what is chosen and how far a release is are as they were.
pub record AllBack (old new : TeamTable) : Type 0 where
  pub long : length new.threads ≡ 8
  pub wide : (t : ℕ) → t < 8 → (length (thread_at new t).counts ≡ 48) × (length (thread_at new t).taken ≡ 48)
  pub node : (t : ℕ) → t < 8 → (thread_at new t).node ≡ (thread_at old t).node
  pub chosen : new.chosen ≡ old.chosen
  pub pending : new.pending ≡ old.pending
  pub none : new.left ≡ 0
  pub done : (t c : ℕ) → t < 8 → c < 48 → (count_at new t c ≡ 0) × (taken_at new t c ≡ 0)
