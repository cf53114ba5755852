-- `answer_constructs::passing::passing` meets its contract. The loop's invariant: the mask has the numbers passed.
-- Assumes nothing.
use Rattle.std.proofs.Common.{◌≡◌, Bool, true, false, ℕ, ◌+◌, ◌^◌, refl, sym, ◌∙◌, subst, arith}
use Rattle.std.specs.Int.Bits.{bit_or}
use Rattle.std.proofs.lemmas.Nat.{or_comm}
use Rattle.lists.specs.Mask.{mask_of}
use Rattle.lists.specs.Bits.{mask_next}
use Rattle.answer_constructs.proofs.passing.passing.Goals as goal
use Rattle.answer_constructs.proofs.passing.passing.Goals.{then-test, else-test}

more : (f : ℕ → Bool) (c : ℕ) → f c ≡ true → bit_or (mask_of f c) (2 ^ c) ≡ mask_of f (c + 1)
more f c h = rw (mask_next f c, h) (or_comm (mask_of f c) (2 ^ c))

same : (f : ℕ → Bool) (c : ℕ) → f c ≡ false → mask_of f c ≡ mask_of f (c + 1)
same f c h = rw (mask_next f c, h)

pub loop-c-init : goal.loop-c-init
unfolding mask_of
loop-c-init g c f h = refl

pub loop-c-preserved : goal.loop-c-preserved
loop-c-preserved g c f h =
    let k = c.loop-c.c in
    let q : c.loop-c.mask ≡ mask_of f k = c.loop-c.invariant f h in
    let t : c.test.result ≡ f k = h k c.test.result (omega arith) (subst (λ (m : ℕ). goal.F-post g c.args.test k m c.test.result) q c.test.ensures) in
    elim c.if-test.branch [
      | then-test w ↦ cc (more f k (sym t ∙ w.if-test.true), w.mask-is, w.bit-mask.ensures)
      | else-test w ↦ cc (same f k (sym t ∙ w.if-test.false), w.mask-is)
    ]
