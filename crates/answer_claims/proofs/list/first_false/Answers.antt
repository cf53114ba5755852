-- `answer_claims::list::first_false` meets its contract. The loop's invariant: none of the claims passed is false.
-- Assumes nothing.
use mathlib.Core.Path.{◌≡◌, refl, ap, sym, ◌∙◌}
use Prim.Native.Nat.{ℕ, ◌/◌}
use native.Mathlib.Omega.{arith}
use lib.ListN.{length}
use Rattle.lists.specs.Range.{any, at-any, any-more, first-is}
use Rattle.theory_answers.specs.Answer.{answer_for}
use Rattle.theory_calls.specs.Claims.{total, is_false}
use Rattle.theory_calls.specs.Judged.{verdict}
use Rattle.answer_claims.proofs.list.first_false.Goals as goal

pub loop-k-init : goal.loop-k-init
unfolding any
loop-k-init c = (omega arith, λ R size M Z h. refl)

pub returns-then-is_false : goal.returns-then-is_false
unfolding verdict total
returns-then-is_false c R size M Z h =
    let claims = c.args.claims.now in
    let p = sym (c.is_false.ensures R size M Z h) ∙ c.if-is_false.true in
    rw (at-any (length claims / 2) (is_false (answer_for R size) claims) c.loop-k.k (omega arith) p, first-is (length claims / 2) (is_false (answer_for R size) claims) c.loop-k.k (omega arith) p (c.loop-k.invariant.1 R size M Z h))

pub loop-k-preserved : goal.loop-k-preserved
loop-k-preserved c =
    (omega arith, λ R size M Z h. any-more _ _ (c.loop-k.invariant.1 R size M Z h) (sym (c.is_false.ensures R size M Z h) ∙ c.if-is_false.false))

pub returns : goal.returns
unfolding verdict total
returns c R size M Z h =
    let claims = c.args.claims.now in
    let q : length claims / 2 ≡ c.loop-k.k = omega arith in
    rw (ap (λ (n : ℕ). any n (is_false (answer_for R size) claims)) q ∙ c.loop-k.invariant.1 R size M Z h)
