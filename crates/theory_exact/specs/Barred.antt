-- The rules that exclude two nodes in every run, finished or not: all but "no common end". That one speaks of the barrier that all threads go on
-- to, and so of finished runs alone; what the other rules speak of has happened by the time that two threads stand at the nodes. That no run at all
-- meets what these exclude, and some run all else, is in proofs/Unmet.antt and proofs/Exact.antt.
-- Assumes nothing.
use Rattle.std.specs.Prelude.{◌≡◌, ◌⊎◌, ◌≢◌, Bool, true, ◌||◌, ℕ, ◌≤◌, leb}
use Rattle.chart.specs.Region.{single, master, Region}
use Rattle.chart.specs.InOrdered.{InOrdered}
use Rattle.chart.specs.InSection.{InSection}
use Rattle.theory_paths.specs.Phases.{forward, Boundary}
use Rattle.theory_answers.specs.Answer.{no_common, both_in_masters, both_in_single, both_in_ordereds, both_in_section, lacks_thread}
use Rattle.theory_answers.specs.Unexcluded.{Returns, Common, Rule, number, Excludes, Lacks, Unexcluded}
use Rattle.theory_answers.specs.declared.Size.{Size}
use Rattle.theory_answers.specs.declared.Size.TheVariants.{Any, Of}

-- a and b are excluded by "no common start" (of rule 1), or by one of rules 2 to 5.
pub data Barred (R : Region) (a b : ℕ) : Type 0 where
  no_start : (Common (Boundary forward R) a b → ⊥) → Barred R a b
  by-rule : (r : Rule) → 2 ≤ number r → Excludes R a b r → Barred R a b

-- The same in teams of m threads, with rules 6 and 7 (02, Note 10).
pub data BarredIn (R : Region) (m a b : ℕ) : Type 0 where
  one-thread : m ≤ 1 → BarredIn R m a b
  no-thread : Lacks R m a ⊎ Lacks R m b → BarredIn R m a b
  in_all : Barred R a b → BarredIn R m a b

-- The same in the teams of a size, or in all.
abbrev pub BarredFor : Region → Size → ℕ → ℕ → Type 0
BarredFor R Any a b = Barred R a b
BarredFor R (Of m) a b = BarredIn R m a b

-- What is left to the pairs that none of these excludes: all that `Unexcluded` has but a common end.
pub record Unbarred (R : Region) (a b : ℕ) : Type 0 where
  pub start : Common (Boundary forward R) a b
  pub masters : (c d : ℕ) → R.kind c ≡ master → R.kind d ≡ master → R.inside a c ≡ true → R.inside b d ≡ true → R.thread c ≢ R.thread d
  pub singles : (c : ℕ) → R.kind c ≡ single → R.inside a c ≡ true → R.inside b c ≡ true → Returns R c
  pub ordereds : (d : ℕ) → InOrdered R a d → InOrdered R b d → Returns R d
  pub sections : (s : ℕ) → InSection R a s → InSection R b s → Returns R (R.parent s)

pub unexcluded-unbarred : {R : Region} {a b : ℕ} → Unexcluded R a b → Unbarred R a b
unexcluded-unbarred U = record { start = U.common forward; masters = U.masters; singles = U.singles; ordereds = U.ordereds; sections = U.sections }

-- By computation.
unfoldable pub is_barred : Region → ℕ → ℕ → Bool
is_barred R a b = no_common forward R a b || (both_in_masters R a b || (both_in_single R a b || (both_in_ordereds R a b || both_in_section R a b)))

unfoldable pub is_barred_in : Region → ℕ → ℕ → ℕ → Bool
is_barred_in R m a b = leb m 1 || ((lacks_thread R m a || lacks_thread R m b) || is_barred R a b)

abbrev pub is_barred_for : Region → Size → ℕ → ℕ → Bool
is_barred_for R Any = is_barred R
is_barred_for R (Of m) = is_barred_in R m
