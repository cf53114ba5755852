-- `answer_claims::numbers::mark_bad` meets its contract: after x turns the first x nodes are looked at.
-- Assumes nothing.
use mathlib.Core.Path.{◌≡◌, subst}
use Prim.Native.Nat.{ℕ}
use native.Mathlib.Omega.{arith}
use Rattle.answer_claims.proofs.Marked.{Marked, marked-none, marked_all}
use Rattle.answer_claims.proofs.numbers.mark_bad.Goals as goal

pub loop-x-init : goal.loop-x-init
loop-x-init c = (omega arith, λ R W q C. marked-none R)

pub returns : goal.returns
returns c R W q C =
    let all : c.loop-x.x ≡ R.nodes = omega (arith, q) in
    marked_all R c.loop-x.bad W (subst (λ (k : ℕ). Marked R k c.loop-x.bad) all (c.loop-x.invariant.1 R W q C))
