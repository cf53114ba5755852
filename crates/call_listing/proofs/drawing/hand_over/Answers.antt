-- `call_listing::drawing::hand_over` meets its contract.
-- Assumes nothing.
use mathlib.Core.Path.{refl, sym, ◌∙◌}
use native.Mathlib.Omega.{arith}
use lib.ListN.{length}
use Rattle.output.proofs.Outputs.{refused, passed}
use Rattle.chart_writing.proofs.Putting.{front}
use Rattle.call_listing.proofs.Rows.{five, six, eight, eleven, no_row}
use Rattle.call_listing.proofs.drawing.hand_over.Goals as goal

pub returns-then-bad_nodes : goal.returns-then-bad_nodes
returns-then-bad_nodes c = let p = refused _ _ _ _ (five c.args.bytes.now (length c.args.out.now) (sym c.bad_nodes.ensures ∙ c.if-bad_nodes.true)) in record { value = p.0; out_after = p.1 }

pub returns-then-bad_constructs : goal.returns-then-bad_constructs
returns-then-bad_constructs c = let p = refused _ _ _ _ (six c.args.bytes.now (length c.args.out.now) (sym c.bad_nodes.ensures ∙ c.if-bad_nodes.false) (sym c.bad_constructs.ensures ∙ c.if-bad_constructs.true)) in record { value = p.0; out_after = p.1 }

pub returns-then-bad_barriers : goal.returns-then-bad_barriers
returns-then-bad_barriers c = let p = refused _ _ _ _ (eight c.args.bytes.now (length c.args.out.now) (sym c.bad_nodes.ensures ∙ c.if-bad_nodes.false) (sym c.bad_constructs.ensures ∙ c.if-bad_constructs.false) (sym c.bad_barriers.ensures ∙ c.if-bad_barriers.true)) in record { value = p.0; out_after = p.1 }

pub returns-then-out-size : goal.returns-then-out-size
returns-then-out-size c = let p = refused _ _ _ _ (eleven c.args.bytes.now (length c.args.out.now) (sym c.bad_nodes.ensures ∙ c.if-bad_nodes.false) (sym c.bad_constructs.ensures ∙ c.if-bad_constructs.false) (sym c.bad_barriers.ensures ∙ c.if-bad_barriers.false) c.if-out-size.true) in record { value = p.0; out_after = p.1 }

pub returns : goal.returns
returns c =
    let bytes = c.args.bytes.now in
    let out = c.args.out.now in
    let none = no_row bytes (length out) (sym c.bad_nodes.ensures ∙ c.if-bad_nodes.false) (sym c.bad_constructs.ensures ∙ c.if-bad_constructs.false) (sym c.bad_barriers.ensures ∙ c.if-bad_barriers.false) (omega (arith, c.if-out-size.false)) in
    let (size, left) = passed _ _ bytes out refl none in
    record { value = size; out_after = front bytes out _ c.put_part.ensures.out_after c.put_part.ensures.out_unchanged ∙ left }
