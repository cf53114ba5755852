-- `check_nodes::counts::crowded_at` meets its contract.
-- Assumes nothing.
use Rattle.std.proofs.Common.{arith}
use Rattle.std.proofs.lemmas.Bool.Decides.{nat_tests}
use Rattle.chart.specs.Nested.{is_parallel}
use Rattle.check_nodes.proofs.Counted.{many}
use Rattle.check_nodes.proofs.counts.crowded_at.Goals as goal

pub returns-then-from-gt-BARRIERS : goal.returns-then-from-gt-BARRIERS
unfolding is_parallel
returns-then-from-gt-BARRIERS c = let tested = many _ c.args.chart c.requires.0 c.requires.1 c.args.c in grind (arith, nat_tests, tested)

pub returns-else-from-gt-BARRIERS : goal.returns-else-from-gt-BARRIERS
unfolding is_parallel
returns-else-from-gt-BARRIERS c = let tested = many _ c.args.chart c.requires.0 c.requires.1 c.args.c in grind (arith, nat_tests, tested)
