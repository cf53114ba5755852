-- The invariants and measures of `answer_claims::numbers::bad_numbers`.
use mathlib.Core.Path.{◌≡◌}
use mathlib.Core.Bool.{Bool, false}
use mathlib.Core.List.{List}
use Prim.Native.Nat.{ℕ, ◌<◌}
use lib.ListN.{get_or}
use Rattle.lists.specs.Range.{any}
use Rattle.chart.specs.Region.{Region}
use Rattle.theory_answers.specs.Numbers.{bad_number}
use Rattle.answer_claims.proofs.numbers.bad_numbers.Given as goal

abbrev pub is_bad : Region → List ℕ → ℕ → Bool
is_bad R claims j = bad_number R (get_or claims j 0)

abbrev pub invariant-loop-x : goal.invariant-loop-x
invariant-loop-x l =
    (R : Region) → ((x : ℕ) → x < 256 → get_or l.bad x false ≡ bad_number R x) → l.found ≡ any l.x-index (is_bad R l.claims)
