-- `check_edges::scope` meets its contract.
-- Assumes nothing.
use Rattle.std.proofs.Common.{arith}
use Rattle.std.proofs.lemmas.Bool.Decides.{nat_tests}
use Rattle.chart.specs.Scope.{scope_at, scope, lies_in, parent_of}
use Rattle.chart.specs.Format.{decode}
use Rattle.chart.proofs.Records.{nodes-length, constructs-length}
use Rattle.check_edges.proofs.Scopes.{frame_below}
use Rattle.check_edges.proofs.scope.Goals as goal

pub returns-then-kind-lt-BEGIN : goal.returns-then-kind-lt-BEGIN
unfolding scope_at scope lies_in
returns-then-kind-lt-BEGIN c = grind (arith, nat_tests)

pub read-requires : goal.read-requires
read-requires c =
    let low = frame_below (decode c.args.s.now) c.args.x c.requires.2 (omega (arith, nodes-length _ c.args.chart c.requires.0, c.requires.1)) in
    (c.requires.0, omega (arith, low (omega (arith, c.read-kind.ensures.0, c.if-kind-lt-BEGIN.false.1)), constructs-length _ c.args.chart c.requires.0, c.read-kind.ensures.1, c.from.ensures))

pub returns-else-kind-lt-BEGIN : goal.returns-else-kind-lt-BEGIN
unfolding scope_at scope lies_in parent_of
returns-else-kind-lt-BEGIN c = grind (arith, nat_tests)
