-- `mark_tables::load::barriers` meets its contract: when k times eight nodes are passed, the barriers among them are listed. Row 8 leaves room
-- for all of them.
-- Assumes nothing.
use mathlib.Core.Path.{◌≡◌, sym, ◌∙◌}
use Prim.Native.Nat.{◌+◌, ◌*◌}
use native.Mathlib.Omega.{arith}
use Rattle.lists.specs.Range.{none_passes}
use Rattle.mark_tables.specs.Tables.{stop_from}
use Rattle.mark_tables.proofs.Loading.{listing_none, listing-skip, stops-few, listing-all}
use Rattle.mark_tables.proofs.load.barriers.Goals as goal
use Rattle.mark_tables.proofs.load.barriers.Goals.{then-any_stop, else-any_stop}

pub loop-k-init : goal.loop-k-init
loop-k-init c = (omega arith, listing_none _)

pub list_eight-total-requires : goal.list_eight-total-requires
list_eight-total-requires c =
    (omega arith, stops-few _ _ c.requires.0 c.requires.1, c.loop-k.invariant.1)

pub loop-k-preserved : goal.loop-k-preserved
loop-k-preserved c =
    let next : 8 * (c.loop-k.k + 1) ≡ 8 * c.loop-k.k + 8 = omega arith in (
      omega arith,
      elim c.if-any_stop.branch [
        | then-any_stop w ↦ rw (next, w.nodes-is, w.total-is) w.list_eight-total.ensures
        | else-any_stop w ↦
            let none = none_passes 8 (stop_from c.args.stops.now (8 * c.loop-k.k)) (sym c.any_stop.ensures ∙ w.if-any_stop.false) in
            rw (next, w.nodes-is, w.total-is) (listing-skip 8 none c.loop-k.invariant.1)
      ],
    )

pub returns : goal.returns
returns c =
    let q : c.loop-k.k ≡ 24 = omega arith in
    listing-all _ c.args.chart c.requires.0 c.requires.1 (rw q at c.loop-k.invariant.1)
