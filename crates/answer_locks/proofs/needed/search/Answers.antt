-- `answer_locks::needed::search` meets its contract. The loop's invariant: the nodes passed are tried.
-- Assumes nothing.
use mathlib.Core.Path.{subst}
use native.Mathlib.Omega.{arith}
use lib.ListN.{get_or}
use Rattle.answer_pairs.specs.declared.rules.Profile.{Profile}
use Rattle.answer_locks.specs.Search.{Tries}
use Rattle.answer_locks.proofs.Turns.{searched-none, searched-more}
use Rattle.answer_locks.proofs.needed.search.Goals as goal

pub loop-x-init : goal.loop-x-init
loop-x-init c = (omega arith, λ names N. searched-none _ _)

pub loop-x-preserved : goal.loop-x-preserved
loop-x-preserved c =
    let closed = c.args.closed.now in
    let marks = c.args.marks.now in
    let x = c.loop-x.x in (
      omega arith,
      λ names N.
          let S = c.loop-x.invariant.1 names N in
          searched-more S (subst (λ (own : Profile). Tries closed marks names (get_or closed x 0) own (get_or c.args.around.now x 0) c.loop-x.tried c.try_node-tried.result) c.profile_of-in-loop-x.ensures
          (c.try_node-tried.ensures closed marks names c.requires.1 N S.kept)),
    )
