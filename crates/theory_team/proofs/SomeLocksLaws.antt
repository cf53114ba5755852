-- With all criticals locking, the rules of specs/SomeLocks.antt are those with locks, and with none of them every run keeps them.
-- Assumes nothing.
use Rattle.std.specs.Prelude.{refl, ◌↔◌, true, false, ℕ}
use Rattle.lists.specs.Truth.{bad}
use Rattle.chart.specs.Region.{Region}
use Rattle.theory_team.specs.State.{State}
use Rattle.theory_team.specs.Step.{Step, one, release}
use Rattle.theory_team.specs.Run.{Run, done, step}
use Rattle.theory_team.specs.Locks.{InCritical, Keeps, Locked}
use Rattle.theory_team.specs.SomeLocks.{InLocking, KeepsSome, LockedSome}

module _ {R : Region} where
  -- with all locks
  pub all_in : {x name : ℕ} → InLocking R (λ c. true) x name ↔ InCritical R x name
  all_in = (
    (λ a. record { construct = a.construct; is-critical = a.is-critical; of-name = a.of-name; within = a.within }),
    λ a. record { construct = a.construct; is-critical = a.is-critical; is-locking = refl; of-name = a.of-name; within = a.within },
  )

  pub all_keep : {m : ℕ} {σ τ : State} (s : Step R m σ τ) → KeepsSome (λ c. true) s ↔ Keeps s
  all_keep (one l s) = ((λ K c o q k i n a. K c o q refl k i n (all_in.1 a)), λ K c o q z k i n a. K c o q k i n (all_in.0 a))
  all_keep (release b to h n all edges) = ((λ z. tt), λ z. tt)

  pub all-locked : {m : ℕ} {σ τ : State} (r : Run R m σ τ) → LockedSome (λ c. true) r ↔ Locked r
  all-locked done = ((λ z. tt), λ z. tt)
  all-locked (step s r) = let a = all_keep s in let b = all-locked r in ((λ K. (a.0 K.0, b.0 K.1)), λ K. (a.1 K.0, b.1 K.1))

  -- with none
  none-keep : {m : ℕ} {σ τ : State} (s : Step R m σ τ) → KeepsSome (λ c. false) s
  none-keep (one l s) = λ c o q z k i n a. bad (cc)
  none-keep (release b to h n all edges) = tt

  pub none-locked : {m : ℕ} {σ τ : State} (r : Run R m σ τ) → LockedSome (λ c. false) r
  none-locked done = tt
  none-locked (step s r) = (none-keep s, none-locked r)
