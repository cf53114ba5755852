-- The invariants and measures of `answer_claims::list::first_false`.
use mathlib.Core.Path.{◌≡◌}
use mathlib.Core.Bool.{false}
use Prim.Native.Nat.{◌/◌, ◌≤◌}
use lib.ListN.{length}
use Rattle.lists.specs.Range.{any}
use Rattle.theory_answers.specs.Answer.{answer_for}
use Rattle.theory_calls.specs.Claims.{is_false}
use Rattle.answer_claims.specs.OfMarks.{OfMarks}
use Rattle.answer_claims.proofs.list.first_false.Given as goal

abbrev pub invariant-loop-k : goal.invariant-loop-k
invariant-loop-k l =
    (l.k ≤ length l.claims / 2) × OfMarks l.marks l.sets l.claims (λ R size. any l.k (is_false (answer_for R size) l.claims) ≡ false)
