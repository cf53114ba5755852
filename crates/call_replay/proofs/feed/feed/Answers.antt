-- `call_replay::feed::feed` meets its contract.
-- Assumes nothing.
use mathlib.Core.Path.{sym, ◌∙◌}
use Rattle.call_replay.proofs.feed.feed.Goals as goal

pub is_due-requires : goal.is_due-requires
is_due-requires c = (c.requires.ready.0, c.requires.ready.1.state, c.requires.ready.2, c.requires.ready.3.state, c.requires.ready.4)

pub choose-requires : goal.choose-requires
choose-requires c = c.requires.ready

pub shape_of-out-then-is_due : goal.shape_of-out-then-is_due
shape_of-out-then-is_due c =
    let (R, P, T, L, few, low, room) = c.requires.ready in
    (c.choose.ensures R P T L (sym (c.is_due.ensures _ _ R P T L) ∙ c.if-is_due.true)).1.long

pub returns-then-is_due : goal.returns-then-is_due
returns-then-is_due c = λ R P T L. c.choose.ensures R P T L (sym (c.is_due.ensures _ _ R P T L) ∙ c.if-is_due.true)

pub step-requires : goal.step-requires
step-requires c = record { ready = c.requires.ready; by_index = c.requires.by_index }

pub shape_of-out : goal.shape_of-out
shape_of-out c =
    let (R, P, T, L, few, low, room) = c.requires.ready in
    (c.step.ensures R P T L (sym (c.is_due.ensures _ _ R P T L) ∙ c.if-is_due.false)).1.long

pub returns : goal.returns
returns c = λ R P T L. c.step.ensures R P T L (sym (c.is_due.ensures _ _ R P T L) ∙ c.if-is_due.false)
