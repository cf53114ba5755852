-- What the pair rules say, in paths and constructs: the condition of each rule, and what they leave open, that a and b are excluded by none
-- of them. This is what 01's answer 0 stands for.
-- Assumes nothing.
use Rattle.std.specs.Prelude.{◌≡◌, ◌⊎◌, ◌≢◌, true, ℕ, ◌≤◌, ◌<◌}
use Rattle.chart.specs.Region.{Kind, single, master, Region}
use Rattle.chart.specs.InOrdered.{InOrdered}
use Rattle.chart.specs.InSection.{InSection}
use Rattle.theory_paths.specs.Path.{BarrierFree}
use Rattle.theory_paths.specs.Phases.{Direction, Boundary}
use Rattle.theory_answers.specs.declared.Size.{Size}
use Rattle.theory_answers.specs.declared.Size.TheVariants.{Any, Of}

-- A barrier-free path leads from the construct's end to its begin (01: it returns).
abbrev pub Returns : Region → ℕ → Type 0
Returns R c = BarrierFree R (R.end c) (R.begin c)

-- One is common to a and b: a start, an end.
abbrev pub Common : (ℕ → ℕ → Type 0) → ℕ → ℕ → Type 0
Common P a b = (s : ℕ) × (P a s × P b s)

-- x is inside c, a construct of this kind.
abbrev pub In : Region → Kind → ℕ → ℕ → Type 0
In R kind x c = (R.kind c ≡ kind) × (R.inside x c ≡ true)

-- The rules, with their numbers in 01's list, which are also the answers; the fifth is 02's (Note 1).
pub data Rule : Type 0 where
  by-phase by-master by-single by-ordered by-section : Rule

abbrev pub number : Rule → ℕ
number by-phase = 1
number by-master = 2
number by-single = 3
number by-ordered = 4
number by-section = 5

-- The condition of each rule by itself, whether or not that of an earlier rule holds too. Of rule 1: no common start (forward), or no
-- common end (backward).
abbrev pub Excludes : Region → ℕ → ℕ → Rule → Type 0
Excludes R a b by-phase = (d : Direction) × (Common (Boundary d R) a b → ⊥)
Excludes R a b by-master = (c : ℕ) × ((d : ℕ) × ((In R master a c × In R master b d) × (R.thread c ≡ R.thread d)))
Excludes R a b by-single = (c : ℕ) × ((In R single a c × In R single b c) × (Returns R c → ⊥))
Excludes R a b by-ordered = (d : ℕ) × ((InOrdered R a d × InOrdered R b d) × (Returns R d → ⊥))
Excludes R a b by-section = (s : ℕ) × ((InSection R a s × InSection R b s) × (Returns R (R.parent s) → ⊥))

-- The number of the first rule whose condition P holds, and 0 where none does.
pub data First (P : Rule → Type 0) : ℕ → Type 0 where
  first : (r : Rule) → P r → ((s : Rule) → number s < number r → P s → ⊥) → First P (number r)
  none : ((r : Rule) → P r → ⊥) → First P 0

-- k is the answer for a and b (01: the first that applies).
abbrev pub Answers : Region → ℕ → ℕ → ℕ → Type 0
Answers R a b k = First (Excludes R a b) k

-- x is inside a master whose thread a team of m lacks; and there is none such, so that a team of m has the threads of all masters around x.
abbrev pub Lacks : Region → ℕ → ℕ → Type 0
Lacks R m x = (c : ℕ) × (In R master x c × (m ≤ R.thread c))

abbrev pub HasThreads : Region → ℕ → ℕ → Type 0
HasThreads R m x = (c : ℕ) → R.kind c ≡ master → R.inside x c ≡ true → R.thread c < m

-- k is the answer for a and b in teams of m threads (02, Note 10): 6 and 7 go ahead of all other rules.
pub data AnswersIn (R : Region) (m a b : ℕ) : ℕ → Type 0 where
  alone : m ≤ 1 → AnswersIn R m a b 6
  lacking : 2 ≤ m → Lacks R m a ⊎ Lacks R m b → AnswersIn R m a b 7
  fitting : {k : ℕ} → 2 ≤ m → HasThreads R m a → HasThreads R m b → Answers R a b k → AnswersIn R m a b k

-- k is the answer for a and b in the teams of a size, or in all.
abbrev pub AnswersFor : Region → Size → ℕ → ℕ → ℕ → Type 0
AnswersFor R Any a b k = Answers R a b k
AnswersFor R (Of m) a b k = AnswersIn R m a b k

-- What is left to the pairs that no rule excludes.
pub record Unexcluded (R : Region) (a b : ℕ) : Type 0 where
  -- rule 1: a common start (forward) and a common end (backward)
  pub common : (d : Direction) → Common (Boundary d R) a b
  -- rule 2: masters that enclose a and b are for different threads. With one thread for all, as in edition 1, not both are in a master.
  pub masters : (c d : ℕ) → R.kind c ≡ master → R.kind d ≡ master → R.inside a c ≡ true → R.inside b d ≡ true → R.thread c ≢ R.thread d
  -- rule 3: a single that encloses both returns
  pub singles : (c : ℕ) → R.kind c ≡ single → R.inside a c ≡ true → R.inside b c ≡ true → Returns R c
  -- rule 4: a do with both inside its ordereds returns
  pub ordereds : (d : ℕ) → InOrdered R a d → InOrdered R b d → Returns R d
  -- rule 5: the sections construct of a section with both inside returns
  pub sections : (s : ℕ) → InSection R a s → InSection R b s → Returns R (R.parent s)
