-- `answer_locks::put_found` meets its contract.
-- Assumes nothing.
use mathlib.Core.Path.{refl, ◌∙◌}
use native.Mathlib.Omega.{arith}
use Rattle.lists.specs.Store.{zeros}
use Rattle.chart.proofs.Records.{nodes-length}
use Rattle.answer_nodes.proofs.Joining.{rows-past}
use Rattle.answer_locks.proofs.Written.{locks-put}
use Rattle.answer_locks.proofs.put_found.Goals as goal

pub gather_all-requires : goal.gather_all-requires
gather_all-requires c =
    (rows-past c.requires.1 (nodes-length _ c.args.chart c.requires.0.laid), refl)

pub gather_sets-requires : goal.gather_sets-requires
gather_sets-requires c =
    let n = nodes-length _ c.args.chart c.requires.0.laid in
    (λ x l m. c.spread.ensures.past x (omega arith) ∙ zeros 192 x, refl)

pub returns : goal.returns
returns c =
    locks-put _ c.args.chart c.requires.0 c.requires.1 c.args.size c.sets_for-sets.ensures.sized c.load_closed.ensures c.close_lacking.ensures c.fill_given.ensures
    c.spread.ensures c.fill_around-criticals.ensures.in_criticals (c.search-found.ensures _ c.gather_sets.ensures) c.fill_around-criticals.ensures.criticals c.requires.2 c.put_bytes.ensures
