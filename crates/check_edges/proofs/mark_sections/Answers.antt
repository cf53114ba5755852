-- `check_edges::mark_sections` meets its contract: after c turns the begins and the ends of the first c constructs are noted.
-- Assumes nothing.
use mathlib.Core.Path.{◌≡◌, ◌∙◌}
use mathlib.Core.Bool.{cond}
use Prim.Native.Nat.{◌<◌}
use native.Mathlib.Omega.{arith}
use lib.Dec.{eqb}
use lib.ListN.{length}
use Rattle.std.proofs.lemmas.Bool.Decides.{nat_tests}
use Rattle.chart.specs.Format.{decode, construct_at}
use Rattle.chart.specs.Scope.{begin_node, end_node, section_byte}
use Rattle.chart.proofs.Facts.{frames-fit}
use Rattle.chart.proofs.Records.{constructs-length}
use Rattle.check_edges.proofs.Sections.{sections-none, sections-more}
use Rattle.check_edges.proofs.mark_sections.Goals as goal

pub loop-c-init : goal.loop-c-init
loop-c-init c =
    let D = decode c.args.s.now in
    (omega arith, sections-none D end_node, sections-none D begin_node)

pub loop-c-preserved : goal.loop-c-preserved
loop-c-preserved c =
    let D = decode c.args.s.now in
    let fit = frames-fit D c.requires.2 in
    let below : c.loop-c.c < length D.constructs = omega (arith, constructs-length _ c.args.chart c.requires.0) in
    let section : c.from-section.result ≡ cond (eqb (construct_at D.constructs c.loop-c.c).kind section_byte) 1 0 =
    grind (arith, nat_tests, c.from-section.ensures, c.read.ensures.0) in (
      omega arith,
      sections-more (omega arith) (fit.ends c.loop-c.c below) (c.from.ensures ∙ c.requires.4.at c.loop-c.c below) c.loop-c.invariant.1 section,
      sections-more (omega arith) (fit.begins c.loop-c.c below) (c.from-in-loop-c.ensures ∙ c.requires.3.at c.loop-c.c below) c.loop-c.invariant.2 section,
    )
