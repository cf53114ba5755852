-- `mark_tables::fill::take_edges` meets its contract: after i turns those of the first i edges that the region keeps are in the table.
-- Assumes nothing.
use mathlib.Core.Path.{◌≡◌, ap}
use native.Mathlib.Omega.{arith}
use lib.ListN.{length}
use Rattle.chart.specs.Format.{decode}
use Rattle.chart.proofs.Records.{edges-length}
use Rattle.mark_tables.proofs.Accepted.{tables}
use Rattle.mark_tables.proofs.Cutting.{flag_of}
use Rattle.mark_tables.proofs.Tabling.{tabling-none, tabling-room, tabling-more, tabling-all}
use Rattle.mark_tables.proofs.fill.take_edges.Goals as goal

pub loop-i-init : goal.loop-i-init
loop-i-init g c = (omega arith, tabling-none _ _ _ c.requires.accepted.1)

pub leaves-requires : goal.leaves-requires
leaves-requires g c =
    c.requires.callable _ (tabling-room _ c.args.chart c.requires.accepted.0 (omega arith) c.read-edge.ensures.0 c.read-edge.ensures.1 c.loop-i.invariant.1).from

pub keep-loaded-requires : goal.keep-loaded-requires
keep-loaded-requires g c =
    tabling-room _ c.args.chart c.requires.accepted.0 (omega arith) c.read-edge.ensures.0 c.read-edge.ensures.1 c.loop-i.invariant.1

pub loop-i-preserved : goal.loop-i-preserved
loop-i-preserved g c =
    let A = c.requires.accepted.0 in
    let room = tabling-room _ c.args.chart A (omega arith) c.read-edge.ensures.0 c.read-edge.ensures.1 c.loop-i.invariant.1 in
    let edges = edges-length _ c.args.chart A.laid in
    let is = c.requires.keeps c.loop-i.i _ (rw c.read-edge.ensures.0 at c.leaves.ensures) in (
      omega arith,
      tabling-more _ _ c.loop-i.i (tables _ c.args.chart A) (omega arith) room.within (ap flag_of is)
          c.read-edge.ensures.0 c.read-edge.ensures.1 c.loop-i.invariant.1 c.keep-loaded.ensures.stored_in c.keep-loaded.ensures.split,
    )

pub returns : goal.returns
returns g c =
    let q : c.loop-i.i ≡ length (decode c.args.s.now).edges = omega (arith, edges-length _ c.args.chart c.requires.accepted.0.laid) in
    record { tabled = tabling-all _ _ q c.loop-i.invariant.1; sized = c.loop-i.invariant.1.sized }
