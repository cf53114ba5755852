-- `answer_pairs::rules::answer_by` meets its contract.
-- Assumes nothing.
use mathlib.Core.Path.{◌≡◌, sym, ◌∙◌}
use mathlib.Core.Bool.{false}
use lib.Bits.{bit_or}
use Rattle.answer_pairs.specs.Rules.{by_size, answer_by, sized-by, lacks-none}
use Rattle.answer_pairs.proofs.rules.answer_by.Goals as goal
use Rattle.answer_pairs.proofs.rules.answer_by.Goals.{else-sets-ne0-via-then-sets-ne0+else-common, else-sets-ne0-via-else-sets-ne0}

pub returns-then-sets : goal.returns-then-sets
unfolding answer_by by_size
returns-then-sets c = rw c.if-sets.true

pub returns-then-common : goal.returns-then-common
returns-then-common c =
    let two : c.args.sets.alone ≡ false =
    c.if-sets.false in
    sym (sized-by _ _ _ two (sym c.common.ensures ∙ c.if-common.true))

pub returns-else-sets-ne0 : goal.returns-else-sets-ne0
returns-else-sets-ne0 c =
    let s = c.args in
    elim c.else-sets-ne0.branch [
      | else-sets-ne0-via-then-sets-ne0+else-common w ↦ c.ruled_by.ensures ∙ sym (sized-by _ _ _ c.if-sets.false (sym w.common.ensures ∙ w.if-common.false))
      | else-sets-ne0-via-else-sets-ne0 w ↦ c.ruled_by.ensures ∙ sym (sized-by s.sets s.x s.y c.if-sets.false (lacks-none (bit_or s.x.held s.y.held) w.if-sets-ne0.false))
    ]
