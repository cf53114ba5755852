-- A list of accesses, from each of them to those after it that it may race with.
-- Assumes nothing.
use Rattle.std.specs.Prelude.{◌≡◌, List, ℕ, ◌+◌, ◌%◌, ◌≤◌, ◌<◌, get_or, set}
use Rattle.theory_calls.specs.Access.{total, access_at}
use Rattle.answer_races.specs.declared.same_variable.NextTwo.{NextTwo}

-- k is the first number from i on that P holds for; if it is not below n, there is none below n.
pub record FirstFrom (P : ℕ → Type 0) (n i k : ℕ) : Type 0 where
  pub from : i ≤ k
  pub own : k < n → P k
  pub none : (x : ℕ) → i ≤ x → x < k → x < n → P x → ⊥

-- Access x is of this variable.
abbrev pub Same : List ℕ → ℕ → ℕ → Type 0
Same list variable x = (access_at list x).variable ≡ variable

-- And it is a write, or the access of that variable with this write byte is.
abbrev pub Beside : List ℕ → ℕ → ℕ → ℕ → Type 0
Beside list write variable x = Same list variable x × (0 < write + (access_at list x).write)

-- The bucket of access j. Accesses of one variable lie in one bucket.
unfoldable pub bucket : List ℕ → ℕ → ℕ
bucket list j = (access_at list j).variable % 1021

-- Entry j is the first access after j of its bucket.
pub record Chained (list under : List ℕ) : Type 0 where
  pub after : (j : ℕ) → j < total list → FirstFrom (λ x. bucket list x ≡ bucket list j) (total list) (j + 1) (get_or under j 0)

-- The links past the end: none of their values matters.
abbrev pub none : NextTwo
none = record { first = 0; second = 0 }

-- The links of access j.
abbrev pub link_at : List NextTwo → ℕ → NextTwo
link_at links j = get_or links j none

-- Of accesses from i on: the links of access j are the first after j that one of its variable with this write byte may race with, and the second.
pub record Linked (list : List ℕ) (write i : ℕ) (links : List NextTwo) : Type 0 where
  pub next : (j : ℕ) → i ≤ j → j < total list → FirstFrom (Beside list write (access_at list j).variable) (total list) (j + 1) (link_at links j).first
  pub second : (j : ℕ) → i ≤ j → j < total list → (link_at links j).first < total list
      → FirstFrom (Beside list write (access_at list j).variable) (total list) ((link_at links j).first + 1) (link_at links j).second
  pub small : (j : ℕ) → i ≤ j → j < total list → (link_at links j).first ≤ 1024

-- The links once k is stored as the place after j, and with it the one after that.
abbrev pub linked_to : List NextTwo → ℕ → ℕ → List NextTwo
linked_to links j k = set links j (record { first = k; second = (link_at links k).first })
