-- `check_nodes::counts::bad_barriers` meets its contract.
-- Assumes nothing.
use Rattle.std.proofs.Common.{refl, arith}
use Rattle.std.proofs.lemmas.Bool.Decides.{nat_tests}
use Rattle.lists.specs.Range.{count}
use Rattle.lists.specs.Store.{zeros}
use Rattle.chart.specs.Format.{decode}
use Rattle.chart.specs.Refusal.{is_barrier, too_many_in, bad_barriers}
use Rattle.chart.proofs.Records.{nodes-length}
use Rattle.check_nodes.proofs.Counted.{none-crowded}
use Rattle.check_nodes.proofs.counts.bad_barriers.Goals as goal

pub count_barriers-requires : goal.count_barriers-requires
unfolding count
count_barriers-requires c = (c.requires, record { long = refl; at = zeros 256 })

pub returns-then-read-ne-BARRIER : goal.returns-then-read-ne-BARRIER
unfolding bad_barriers is_barrier too_many_in
returns-then-read-ne-BARRIER c = let n = nodes-length _ c.args.chart c.requires in grind (arith, nat_tests, n)

pub returns-then-not-occurs : goal.returns-then-not-occurs
unfolding bad_barriers is_barrier too_many_in
returns-then-not-occurs c = let n = nodes-length _ c.args.chart c.requires in grind (arith, nat_tests, n, none-crowded (decode c.args.s.now))

pub returns : goal.returns
unfolding bad_barriers is_barrier too_many_in
returns c = let n = nodes-length _ c.args.chart c.requires in grind (arith, nat_tests, n)
