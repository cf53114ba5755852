-- `check_nodes::nodes::bad_node` meets its contract.
-- Assumes nothing.
use Rattle.std.proofs.Common.{arith}
use Rattle.std.proofs.lemmas.Bool.Decides.{nat_tests}
use Rattle.chart.specs.Nested.{is_parallel}
use Rattle.chart.specs.Refusal.{bad_node}
use Rattle.chart.proofs.Records.{constructs-length}
use Rattle.check_nodes.proofs.nodes.bad_node.Goals as goal

pub returns-then-number : goal.returns-then-number
unfolding bad_node is_parallel
returns-then-number c = let many = constructs-length _ c.args.chart c.requires in grind (arith, nat_tests, many)

pub returns-then-chart-c : goal.returns-then-chart-c
unfolding bad_node is_parallel
returns-then-chart-c c = let many = constructs-length _ c.args.chart c.requires in grind (arith, nat_tests, many)

pub returns-then-kind-eq-BARRIER : goal.returns-then-kind-eq-BARRIER
unfolding bad_node is_parallel
returns-then-kind-eq-BARRIER c = let many = constructs-length _ c.args.chart c.requires in grind (arith, nat_tests, many)

pub returns-else-kind-eq-BARRIER : goal.returns-else-kind-eq-BARRIER
unfolding bad_node is_parallel
returns-else-kind-eq-BARRIER c = let many = constructs-length _ c.args.chart c.requires in grind (arith, nat_tests, many)
