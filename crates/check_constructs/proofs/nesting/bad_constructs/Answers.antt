-- `check_constructs::nesting::bad_constructs` meets its contract.
-- Assumes nothing.
use mathlib.Core.Path.{◌≡◌, refl, sym}
use mathlib.Core.Bool.{Bool, true, false, ◌||◌}
use Rattle.std.proofs.Common.{arith}
use Rattle.std.proofs.lemmas.Bool.Decides.{nat_tests}
use lib.ListN.{length}
use Rattle.lists.specs.Range.{every, any}
use Rattle.chart.specs.Format.{Decoded, decode}
use Rattle.chart.specs.Nesting.{may_enclose, misnested}
use Rattle.chart.specs.Refusal.{bad_alone, stray_node, bad_constructs}
use Rattle.chart.specs.Scope.{kind_of}
use Rattle.check_constructs.proofs.StrayLaws.{no_stray}
use Rattle.check_constructs.proofs.Table.{agrees, tested}
use Rattle.check_constructs.proofs.nesting.bad_constructs.Goals as goal

-- row 6 in two parts
parts : (a b c : Bool) → ((a || b) || c) ≡ (a || (b || c))
parts true b c = refl
parts false b c = refl

joined : (D : Decoded) → bad_constructs D ≡ ((any (length D.constructs) (bad_alone D.constructs) || any (length D.constructs) (misnested D.constructs)) || any (length D.nodes) (stray_node D))
unfolding bad_constructs
joined D =
    let cs = D.constructs in
    sym (parts (any (length cs) (bad_alone cs)) (any (length cs) (misnested cs)) (any (length D.nodes) (stray_node D)))

pub bad_nesting-requires : goal.bad_nesting-requires
unfolding every agrees may_enclose kind_of
bad_nesting-requires c = (c.requires, tested _ refl)

pub returns-then-bad_nesting : goal.returns-then-bad_nesting
returns-then-bad_nesting c = let row = joined (decode c.args.s.now) in grind (arith, nat_tests, row)

pub returns-then-occurs : goal.returns-then-occurs
returns-then-occurs c = let row = joined (decode c.args.s.now) in grind (arith, nat_tests, row)

pub returns-else-occurs : goal.returns-else-occurs
returns-else-occurs c = let row = joined (decode c.args.s.now) in grind (arith, nat_tests, row, no_stray (decode c.args.s.now))
