-- `answer_sheet::rows::phase_only` meets its contract.
-- Assumes nothing.
use Rattle.std.proofs.Common.{eqb-true, rules, tests}
use Rattle.answer_sheet.proofs.RowSets.{or-none}
use Rattle.answer_sheet.proofs.rows.phase_only.Goals as goal

pub returns-then-not-sets : goal.returns-then-not-sets
returns-then-not-sets c h =
    let (held, missing) = or-none _ _ (eqb-true _ 0 h) in record {
      several = search (rules, tests);
      holds-none = held;
      lacks-none = missing;
    }
