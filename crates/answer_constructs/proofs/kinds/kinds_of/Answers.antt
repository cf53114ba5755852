-- `answer_constructs::kinds::kinds_of` meets its contract. The loop's invariant: the masks of the kinds passed are there.
-- Assumes nothing.
use mathlib.Core.Path.{◌≡◌, refl, ◌∙◌}
use native.Mathlib.Omega.{arith}
use native.Mathlib.Decide.{ℕ_discrete}
use lib.ListN.{length-set}
use lib.Seq.{get_or-set_same, get_or-set_other}
use Rattle.answer_constructs.proofs.Constructs.{of-rule}
use Rattle.answer_constructs.proofs.kinds.kinds_of.Goals as goal

pub loop-k-init : goal.loop-k-init
loop-k-init c = (omega arith, refl, λ j l. absurd (omega arith))

pub loop-k-preserved : goal.loop-k-preserved
loop-k-preserved c =
    let k = c.loop-k.k in
    let (few, long, before) = c.loop-k.invariant in (
      omega arith,
      length-set c.loop-k.kinds k _ ∙ long,
      λ j l. elim (ℕ_discrete j k) [
        | yes q ↦ rw q (get_or-set_same c.loop-k.kinds k _ 0 (omega (arith, long)) ∙ c.of_kind.ensures)
        | no n ↦ get_or-set_other c.loop-k.kinds k j _ 0 n ∙ before j (omega arith)
      ],
    )

pub returns : goal.returns
returns c j l =
    let q : c.loop-k.k ≡ 4 = omega arith in
    rw (c.loop-k.invariant.2 j (omega arith)) (of-rule _ c.args.chart c.requires j l)
