-- `check_edges::bad_edges` meets its contract.
-- Assumes nothing.
use Rattle.std.proofs.Common.{arith}
use Rattle.std.proofs.lemmas.Bool.Decides.{nat_tests}
use Rattle.chart.specs.Format.{decode}
use Rattle.chart.specs.Refusal.{bad_edges}
use Rattle.check_edges.proofs.Sections.{no_joins}
use Rattle.check_edges.proofs.bad_edges.Goals as goal

pub returns-then-bad_scopes : goal.returns-then-bad_scopes
unfolding bad_edges
returns-then-bad_scopes c = grind (arith, nat_tests)

pub returns-then-occurs : goal.returns-then-occurs
unfolding bad_edges
returns-then-occurs c = grind (arith, nat_tests)

pub returns-else-occurs : goal.returns-else-occurs
unfolding bad_edges
returns-else-occurs c = grind (arith, nat_tests, no_joins (decode c.args.s.now))
