-- `answer_sheet::rows::work_phase_row` meets its contract.
-- Assumes nothing.
use mathlib.Core.Path.{◌≡◌, ◌∙◌}
use Prim.Native.Nat.{◌+◌, ◌*◌}
use native.Mathlib.Omega.{arith}
use lib.ListN.{get_or}
use Rattle.answer_nodes.proofs.Joining.{three-words}
use Rattle.answer_sheet.specs.Sheet.{row_of}
use Rattle.answer_sheet.proofs.RowSets.{phase-word}
use Rattle.answer_sheet.proofs.rows.work_phase_row.Goals as goal

pub put_phase-requires : goal.put_phase-requires
put_phase-requires c = (omega arith, c.requires.0, c.requires.1)

pub put_phase-requires-2 : goal.put_phase-requires-2
put_phase-requires-2 c = (omega arith, c.requires.0, c.put_phase.ensures.0)

pub put_phase-requires-3 : goal.put_phase-requires-3
put_phase-requires-3 c =
    (omega arith, c.requires.0, c.put_phase-2.ensures.0)

pub returns : goal.returns
returns c = (
  c.put_phase-3.ensures.0,
  λ closed marks sets own F S E O.
      three-words (λ j. get_or c.put_phase-3.new.row j 0 ≡ row_of closed sets marks own j)
      (λ j l. c.put_phase-3.ensures.2 (64 * 0 + j) (omega arith) ∙ c.put_phase-2.ensures.2 (64 * 0 + j) (omega arith) ∙ c.put_phase.ensures.1 closed F j l
      ∙ phase-word closed marks sets own 0 _ _ O S.low E.low j l)
      (λ j l. c.put_phase-3.ensures.2 (64 * 1 + j) (omega arith) ∙ c.put_phase-2.ensures.1 closed F j l
      ∙ phase-word closed marks sets own 1 _ _ O S.middle E.middle j l)
      (λ j l. c.put_phase-3.ensures.1 closed F j l ∙ phase-word closed marks sets own 2 _ _ O S.high E.high j l),
)
