-- The sheet of the pairs met, or some rows of it.
-- Assumes nothing.
use Rattle.std.specs.Prelude.{◌≡◌, Bool, ◌&&◌, ◌||◌, not, cond, List, ℕ, ◌+◌, ◌-◌, ◌*◌, ◌≤◌, ◌<◌, eqb, ltb, length, get_or}
use Rattle.lists.specs.Range.{any}
use Rattle.theory_team.specs.State.{State}
use Rattle.answer_steps.specs.declared.tables.TeamTable.{TeamTable}
use Rattle.answer_steps.specs.Tables.{Shows}
use Rattle.call_replay.specs.declared.pairs_met.Rows.{Rows}

-- Threads t and k are two, and one of them stands at a and the other at b.
abbrev pub meet : State → ℕ → ℕ → ℕ → ℕ → Bool
meet σ t k a b = not (eqb t k) && ((eqb (σ.node t) a && eqb (σ.node k) b) || (eqb (σ.node k) a && eqb (σ.node t) b))

-- Thread t, and one of the first m.
abbrev pub meets : ℕ → State → ℕ → ℕ → ℕ → Bool
meets m σ t a b = any m (λ k. meet σ t k a b)

-- The k-th thread after t, round a team of m.
abbrev pub next_thread : ℕ → ℕ → ℕ → ℕ
next_thread m t k = cond (ltb (t + k) m) (t + k) (t + k - m)

-- The rows kept, one after the other, of n entries each.
pub record Sheet (n : ℕ) (rows : Rows) (met : ℕ → ℕ → Bool) (out : List ℕ) : Type 0 where
  pub at : (i b : ℕ) → i < rows.count → b < n → get_or out (i * n + b) 0 ≡ cond (met (rows.first + i) b) 1 0

-- Bytes past the first ones keep their values.
pub record Kept (size : ℕ) (old new : List ℕ) : Type 0 where
  pub long : length new ≡ length old
  pub past : (j : ℕ) → size ≤ j → get_or new j 0 ≡ get_or old j 0

-- The first bytes are 0, and those past them keep their values.
abbrev pub Cleared : ℕ → List ℕ → List ℕ → Type 0
Cleared size old new = (length new ≡ length old) × ((j : ℕ) → j < size → get_or new j 0 ≡ 0) × ((j : ℕ) → size ≤ j → get_or new j 0 ≡ get_or old j 0)

-- What a state has is marked, for every state that the table of the team shows, and the bytes past the rows are as they were.
abbrev pub Marks : (State → ℕ → ℕ → Bool) → ℕ → Rows → TeamTable → List ℕ → List ℕ → Type 0
Marks has n rows team old new =
    ((σ : State) (met : ℕ → ℕ → Bool) → Shows σ team → Sheet n rows met old → Sheet n rows (λ a b. met a b || has σ a b) new) × Kept (rows.count * n) old new
