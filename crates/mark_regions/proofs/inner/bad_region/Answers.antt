-- `mark_regions::inner::bad_region` meets its contract.
-- Assumes nothing.
use mathlib.Core.Path.{sym}
use native.Mathlib.Omega.{arith}
use borrow.Author.Tests.{eq-eqb, ne_eqb}
use Rattle.chart.specs.Format.{decode}
use Rattle.chart.proofs.Records.{constructs-length}
use Rattle.mark_regions.proofs.Naming.{names-none, names-kind}
use Rattle.mark_regions.proofs.inner.bad_region.Goals as goal

pub returns-then-region-chart : goal.returns-then-region-chart
returns-then-region-chart c =
    sym (names-none (decode c.args.s.now) c.args.region c.requires.1 (omega (arith, constructs-length _ c.args.chart c.requires.0, c.if-region-chart.true)))

pub returns-then-read-eq-PARALLEL : goal.returns-then-read-eq-PARALLEL
returns-then-read-eq-PARALLEL c =
    rw (names-kind (decode c.args.s.now) c.args.region c.requires.1, ← c.read.ensures.0, eq-eqb _ _ c.if-read-eq-PARALLEL.true)

pub returns : goal.returns
returns c =
    rw (names-kind (decode c.args.s.now) c.args.region c.requires.1, ← c.read.ensures.0, ne_eqb _ _ c.if-read-eq-PARALLEL.false)
