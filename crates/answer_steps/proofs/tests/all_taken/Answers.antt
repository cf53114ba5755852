-- `answer_steps::tests::all_taken` meets its contract. The loop's invariant: the mask has what the threads passed have taken.
-- Assumes nothing.
use mathlib.Core.Path.{◌≡◌, refl, ◌∙◌, ap}
use mathlib.Core.Logic.{◌⊎◌, inl, inr, ⊎_elim, ◌↔◌}
use mathlib.Core.Bool.{Bool, true, false}
use Prim.Native.Nat.{ℕ, ◌+◌, ◌-◌}
use native.Mathlib.Omega.{arith}
use lib.Bits.{bit_and, bit_or}
use lib.Dec.{eqb}
use Rattle.lists.specs.Truth.{truth, clash, false-if}
use Rattle.lists.specs.Mask.{Has, has-none, or_cases, or_left, or_right}
use Rattle.lists.specs.Range.{every, every-at}
use Rattle.theory_traces.proofs.TestsLaws.{own, every_of}
use Rattle.theory_traces.specs.Tests.{is_untaken, is_section_of, all_taken}
use Rattle.answer_steps.specs.Tables.{untaken_by}
use Rattle.answer_steps.proofs.Laws.{every_more, every-fails}
use Rattle.answer_steps.proofs.Sorts.{all-covered}
use Rattle.answer_steps.proofs.tests.all_taken.Goals as goal

-- one thread more
more : (f : ℕ → Bool) (n a b x : ℕ) → Has a x ↔ (every n f ≡ false) → Has b x ↔ (f n ≡ false) → Has (bit_or a b) x ↔ (every (n + 1) f ≡ false)
more f n a b x p q = (
  (λ h. ⊎_elim (λ g. false-if (λ e. clash (at-every-before e) (p.0 g))) (λ g. every-fails (n + 1) f n (omega arith) (q.0 g)) (or_cases a b x h)),
  λ h. go h (truth (every n f)) (truth (f n)),
)
  where
    at-every-before : every (n + 1) f ≡ true → every n f ≡ true
    at-every-before e = (every_of n (λ k. own (f k))).1 (λ k l. every-at (n + 1) f e k (omega arith))

    go : every (n + 1) f ≡ false → (every n f ≡ true) ⊎ (every n f ≡ false) → (f n ≡ true) ⊎ (f n ≡ false) → Has (bit_or a b) x
    go h (inr g) t = or_left a b x (p.1 g)
    go h (inl g) (inr t) = or_right a b x (q.1 t)
    go h (inl g) (inl t) = absurd (clash (every_more n f g t) h)

pub loop-t-init : goal.loop-t-init
unfolding every
loop-t-init c = (omega arith, λ R σ T S x l h. ((λ g. absurd (has-none x g)), λ g. absurd (clash refl g)))

pub loop-t-preserved : goal.loop-t-preserved
loop-t-preserved c = (
  omega arith,
  λ R σ T S x k h. more (untaken_by σ c.args.c c.args.instance x) c.loop-t.t c.loop-t.taken c.taken_by-taken.result x (c.loop-t.invariant.1 R σ T S x k h) (c.taken_by-taken.ensures R σ T S x k h),
)

pub returns : goal.returns
unfolding all_taken is_untaken
returns c =
    λ R σ T S.
    let q : c.loop-t.t ≡ c.args.m = omega arith in
    ap (λ (w : ℕ). eqb (bit_and c.loop-t.taken w) w) (T.sections c.args.c c.requires.2)
    ∙ all-covered c.loop-t.taken (is_section_of R c.args.c) R.constructs (λ x. every c.args.m (untaken_by σ c.args.c c.args.instance x)) (rw q at (c.loop-t.invariant.1 R σ T S))
