-- `answer_constructs::sizes::sets_for` meets its contract.
-- Assumes nothing.
use mathlib.Core.Path.{refl}
use Rattle.answer_constructs.proofs.Lacked.{over-lacked}
use Rattle.answer_constructs.proofs.sizes.sets_for.Goals as goal

pub returns-in-Of : goal.returns-in-Of
returns-in-Of c =
    record { sized = rw c.in-Of.is (refl, rw c.missing_of.ensures (over-lacked _ c.args.chart c.requires _)); kinds_value = refl }
