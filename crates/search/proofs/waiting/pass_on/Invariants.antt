-- The invariants and measures of `search::waiting::pass_on`.
use Prim.Native.Nat.{◌≤◌}
use Rattle.lists.specs.Store.{filled}
use Rattle.search.specs.Waiting.{Walk}
use Rattle.search.proofs.waiting.pass_on.Given as goal

abbrev pub invariant-loop-j : goal.invariant-loop-j
invariant-loop-j l =
    (l.j ≤ 1024) × (l.waiting ≤ filled l.held) × Walk l.values l.before l.sent.bits l.head l.sent.first l.initial.masks l.initial.held l.initial.ring l.initial.waiting l.j l.masks l.held l.ring l.waiting

abbrev pub decreases-loop-j : goal.decreases-loop-j
decreases-loop-j l = l.j
