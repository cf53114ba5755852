-- `bohrali::c::bohrali_locks` meets its contract.
-- Assumes nothing.
use mathlib.Core.Path.{◌≡◌, ◌∙◌}
use borrow.Author.Rules.{rules}
use mir.Syntax.{w64}
use mir.Val.{to_z, of_z}
use Rattle.theory_calls.specs.LocksCorrect.{LocksCorrect}
use Rattle.theory_calls.proofs.LocksCorrectLaws.{locks-correct}
use Rattle.output.proofs.OutputCorrectLaws.{carried}
use Rattle.bohrali.proofs.c.bohrali_locks.Goals as goal

pub returns : goal.returns
returns c =
    let e : to_z w64 (of_z w64 c.locks.result) ≡ c.locks.result = search rules in
    let both = carried (LocksCorrect _ _ _) (e ∙ c.locks.ensures.value) c.locks.ensures.out_after (locks-correct _ _ _ _) in
    record { value = both.0; out_after = both.1.0; locks_correct = both.1.1 }
