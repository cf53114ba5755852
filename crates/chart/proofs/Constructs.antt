-- Past the last construct stands one of no kind: what has a kind is a construct of the chart.
-- Assumes nothing.
use mathlib.Core.Path.{◌≡◌, ap, subst}
use mathlib.Core.Logic.{◌≢◌}
use mathlib.Core.Bool.{true}
use mathlib.Core.List.{List}
use Prim.Native.Nat.{ℕ, ◌≤◌, ◌<◌}
use native.Mathlib.Omega.{arith}
use native.Mathlib.Decide.{dec_lt}
use lib.Dec.{eqb}
use lib.ListN.{length, get_or-eq_default}
use borrow.Author.Tests.{eqb-true}
use Rattle.lists.specs.Range.{at-any}
use Rattle.chart.specs.Format.{outside, Construct, no_construct, construct_at}
use Rattle.chart.specs.Scope.{parallel_byte}
use Rattle.chart.specs.Nested.{is_parallel}
use Rattle.chart.specs.Refusal.{any_of}

module _ (constructs : List Construct) (c : ℕ) where
  pub no-construct : length constructs ≤ c → (construct_at constructs c).kind ≡ 0
  unfolding construct_at
  no-construct l = ap (λ (k : Construct). k.kind) (get_or-eq_default constructs no_construct l)

  pub kind-below : 1 ≤ (construct_at constructs c).kind → c < length constructs
  kind-below k = elim (dec_lt c (length constructs)) [ yes l ↦ l | no l ↦ absurd (none (subst (λ (n : ℕ). 1 ≤ n) (no-construct (omega arith)) k)) ]
    where
      none : 1 ≤ 0 → ⊥
      none l = omega arith

  pub parallel-below : is_parallel constructs c ≡ true → c < length constructs
  unfolding is_parallel
  parallel-below h = let q = eqb-true (construct_at constructs c).kind parallel_byte h in kind-below (omega arith)

  pub parallel-inner : length constructs ≤ outside → is_parallel constructs c ≡ true → c ≢ outside
  parallel-inner few h q = let l = parallel-below h in omega arith

  pub kind-occurs : (kind : ℕ) → 1 ≤ kind → eqb (construct_at constructs c).kind kind ≡ true → any_of constructs kind ≡ true
  unfolding any_of
  kind-occurs kind l h =
      let q = eqb-true _ kind h in
      at-any (length constructs) (λ c. eqb (construct_at constructs c).kind kind) c (kind-below (omega arith)) h
