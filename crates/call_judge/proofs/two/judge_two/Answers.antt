-- `call_judge::two::judge_two` meets its contract.
-- Assumes nothing.
use Rattle.std.specs.Prelude.{Result, Ok, Some}
use mathlib.Core.Path.{◌≡◌, ap, sym, subst, ◌∙◌}
use mathlib.Core.List.{List}
use Prim.Native.Nat.{ℕ, ◌+◌, ◌*◌, ◌≤◌}
use native.Mathlib.Omega.{arith}
use lib.IntN.{ℤ}
use lib.ListN.{length}
use mir.Val.{to_z, of_z}
use mir.Syntax.{w64}
use borrow.Author.Rules.{rules}
use Rattle.theory_answers.specs.declared.Size.TheVariants.{Any}
use Rattle.theory_calls.specs.Claims.{total}
use Rattle.theory_calls.specs.Verdict.{Verdict}
use Rattle.theory_calls.specs.Judged.{judged, number_of}
use Rattle.theory_calls.specs.Correct.{Correct}
use Rattle.theory_calls.proofs.CorrectLaws.{correct-any}
use Rattle.call_judge.proofs.Facts.{failed-below}
use Rattle.call_judge.proofs.PartsLaws.{failed-there}
use Rattle.call_judge.specs.Two.{numbers, false_part, false_place}
use Rattle.call_judge.proofs.two.judge_two.Goals as goal
use Rattle.chart.specs.declared.format.Refusal.{Refusal}

-- a list fails at one of its claims, so that the part is a part of it and the number fits
within : (s : List ℕ) (p : ℕ) (claims : List ℕ) (v : Result Verdict Refusal) → v ≡ judged s p claims → (index : ℕ) → v ≡ Ok (Some index) → 2 * index + 2 ≤ length claims
unfolding total
within s p claims v q index h = omega (arith, failed-below s p Any claims index (sym q ∙ h))

pub number_of-requires : goal.number_of-requires
number_of-requires c index h =
    omega (arith, within c.args.s.now c.args.region c.args.x.now c.judge_both-verdicts.result.first c.judge_both-verdicts.ensures.0 index h)

pub number_of-requires-2 : goal.number_of-requires-2
number_of-requires-2 c index h =
    omega (arith, within c.args.s.now c.args.region c.args.y.now c.judge_both-verdicts.result.second c.judge_both-verdicts.ensures.1 index h)

pub false_part-requires : goal.false_part-requires
false_part-requires c =
    let s = c.args.s.now in
    let p = c.args.region in
    record {
      by_index = λ i h. omega (arith, within s p c.args.x.now c.judge_both-verdicts.result.first c.judge_both-verdicts.ensures.0 i (failed-there _ i (sym c.failed_at.ensures ∙ h)));
      by_index_2 = λ j h. omega (arith, within s p c.args.y.now c.judge_both-verdicts.result.second c.judge_both-verdicts.ensures.1 j (failed-there _ j (sym c.failed_at-2.ensures ∙ h)));
    }

-- the number of a verdict that is the definition's is correct
correct : (s : List ℕ) (p : ℕ) (claims : List ℕ) (number : ℤ) → number ≡ number_of (judged s p claims) → Correct s p claims number
correct s p claims number q = subst (Correct s p claims) (sym q) (correct-any s p claims)

pub returns : goal.returns
unfolding numbers false_part false_place
returns c =
    let (one, other) = c.judge_both-verdicts.ensures in
    let a : to_z w64 (of_z w64 c.number_of.result) ≡ c.number_of.result = search rules in
    let b : to_z w64 (of_z w64 c.number_of-2.result) ≡ c.number_of-2.result = search rules in
    let first = a ∙ c.number_of.ensures ∙ ap number_of one in
    let second = b ∙ c.number_of-2.ensures ∙ ap number_of other in
    let (bytes, place) = c.false_part.ensures in
    record { first_after = first; second_after = second; result_value = rw (c.failed_at.ensures, c.failed_at-2.ensures, one, other) at bytes; ref_ptr_value = rw (c.failed_at.ensures, c.failed_at-2.ensures, one, other) at place; correct = correct _ _ _ _ first; correct_2 = correct _ _ _ _ second }
