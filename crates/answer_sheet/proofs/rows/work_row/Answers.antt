-- `answer_sheet::rows::work_row` meets its contract.
-- Assumes nothing.
use mathlib.Core.Path.{◌≡◌, ◌∙◌}
use Prim.Native.Nat.{◌+◌, ◌*◌}
use native.Mathlib.Omega.{arith}
use lib.ListN.{get_or}
use Rattle.answer_nodes.proofs.Joining.{three-words}
use Rattle.answer_sheet.specs.Sheet.{row_of}
use Rattle.answer_sheet.proofs.RowSets.{low-row, middle-row, high-row}
use Rattle.answer_sheet.proofs.rows.work_row.Goals as goal

-- where all sets were found, and where the function was called
pub work_phase_row-requires : goal.work_phase_row-requires
work_phase_row-requires c = c.requires

pub returns-then-phase_only : goal.returns-then-phase_only
returns-then-phase_only c =
    let e = c.args in (
      c.work_phase_row.ensures.0,
      λ closed marks I F. c.work_phase_row.ensures.1 closed marks e.sets e.own F (c.sharing-s.ensures closed marks.starts I.starts) (c.sharing-e.ensures closed marks.ends I.ends)
          (c.phase_only.ensures c.if-phase_only.true),
    )

pub put_word-requires : goal.put_word-requires
put_word-requires c = (omega arith, c.requires.0, c.requires.1)

pub put_word-requires-2 : goal.put_word-requires-2
put_word-requires-2 c = (omega arith, c.requires.0, c.put_word.ensures.0)

pub put_word-requires-3 : goal.put_word-requires-3
put_word-requires-3 c = (omega arith, c.requires.0, c.put_word-2.ensures.0)

pub returns : goal.returns
returns c =
    let e = c.args in (
      c.put_word-3.ensures.0,
      λ closed marks I F.
          let S = c.sharing-s.ensures closed marks.starts I.starts in
          let E = c.sharing-e.ensures closed marks.ends I.ends in
          let T = c.fill_rules.ensures closed marks I in
          let Z = c.sharing-z.ensures closed marks.held I.held in
          let L = c.common-lacks.ensures in
          three-words (λ j. get_or c.put_word-3.new.row j 0 ≡ row_of closed e.sets marks e.own j)
          (λ j l. c.put_word-3.ensures.2 (64 * 0 + j) (omega arith) ∙ c.put_word-2.ensures.2 (64 * 0 + j) (omega arith) ∙ c.put_word.ensures.1 closed F j l
          ∙ low-row closed marks e.sets e.own S E T Z L _ _ c.planes.ensures c.ahead-first.ensures j l)
          (λ j l. c.put_word-3.ensures.2 (64 * 1 + j) (omega arith) ∙ c.put_word-2.ensures.1 closed F j l
          ∙ middle-row closed marks e.sets e.own S E T Z L _ _ c.planes-2.ensures c.ahead-second.ensures j l)
          (λ j l. c.put_word-3.ensures.1 closed F j l ∙ high-row closed marks e.sets e.own S E T Z L _ _ c.planes-3.ensures c.ahead-third.ensures j l),
    )
