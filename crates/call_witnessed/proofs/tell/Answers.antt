-- `call_witnessed::tell` meets its contract: row 13, then row 22, then the answer.
-- Assumes nothing.
use Rattle.std.specs.Prelude.{Ok}
use mathlib.Core.Path.{◌≡◌, sym, ap, ◌∙◌}
use mathlib.Core.Bool.{false, ◌||◌}
use Prim.Native.Nat.{◌<◌}
use native.Mathlib.Omega.{arith}
use Rattle.lists.specs.Truth.{or_left, or_right, neither-or}
use Rattle.chart.specs.Region.{Region}
use Rattle.chart.specs.Checked.{reading}
use Rattle.chart.specs.Refusal.{first_of}
use Rattle.chart.proofs.Records.{nodes-length}
use Rattle.theory_answers.specs.Numbers.{bad_number, good-number}
use Rattle.mark_tables.proofs.Accepted.{well-formed}
use Rattle.theory_calls.specs.Pair.{numbers_row}
use Rattle.theory_calls.specs.Witness.{answered_by}
use Rattle.theory_traces.proofs.CorrectLaws.{whole-trace}
use Rattle.call_witnessed.proofs.tell.Goals as goal

pub bad_node-requires : goal.bad_node-requires
bad_node-requires c = (c.requires, well-formed _ c.args.chart c.requires)

pub returns-then-bad_node : goal.returns-then-bad_node
unfolding answered_by numbers_row first_of
returns-then-bad_node c =
    let R : Region =
    reading c.args.s.now c.args.chart in
    rw (or_left (bad_number R c.args.a) (bad_number R c.args.b) (sym c.bad_node.ensures ∙ c.if-bad_node.true))

pub bad_node-requires-2 : goal.bad_node-requires-2
bad_node-requires-2 c = (c.requires, well-formed _ c.args.chart c.requires)

pub returns-then-bad_node-2 : goal.returns-then-bad_node-2
unfolding answered_by numbers_row first_of
returns-then-bad_node-2 c =
    let R : Region =
    reading c.args.s.now c.args.chart in
    rw (or_right (bad_number R c.args.a) (bad_number R c.args.b) (sym c.bad_node-2.ensures ∙ c.if-bad_node-2.true))

-- past the tests both numbers are those of nodes that a claim may name, and the trace decides
pub returns-then-bad_trace : goal.returns-then-bad_trace
unfolding answered_by numbers_row first_of
returns-then-bad_trace c =
    let R : Region =
    reading c.args.s.now c.args.chart in
    let good-b : bad_number R c.args.b ≡ false =
    sym c.bad_node-2.ensures ∙ c.if-bad_node-2.false in
    let numbers : (bad_number R c.args.a || bad_number R c.args.b) ≡ false =
    neither-or (bad_number R c.args.a) (bad_number R c.args.b) (sym c.bad_node.ensures ∙ c.if-bad_node.false) good-b in
    rw (numbers, ← c.bad_trace.ensures, c.if-bad_trace.true)

pub is_witness-requires : goal.is_witness-requires
is_witness-requires c =
    let R : Region =
    reading c.args.s.now c.args.chart in
    let good-b : bad_number R c.args.b ≡ false =
    sym c.bad_node-2.ensures ∙ c.if-bad_node-2.false in
    let below-b : c.args.b < c.args.chart.nodes =
    omega (arith, (good-number R c.args.b (well-formed _ c.args.chart c.requires) good-b).0, nodes-length _ c.args.chart c.requires.laid) in
    let (least, most) = whole-trace _ _ (sym c.bad_trace.ensures ∙ c.if-bad_trace.false) in
    (c.requires, least, most, below-b)

pub returns : goal.returns
unfolding answered_by numbers_row first_of
returns c =
    let R : Region =
    reading c.args.s.now c.args.chart in
    let good-b : bad_number R c.args.b ≡ false =
    sym c.bad_node-2.ensures ∙ c.if-bad_node-2.false in
    let numbers : (bad_number R c.args.a || bad_number R c.args.b) ≡ false =
    neither-or (bad_number R c.args.a) (bad_number R c.args.b) (sym c.bad_node.ensures ∙ c.if-bad_node.false) good-b in
    rw (numbers, ← c.bad_trace.ensures, c.if-bad_trace.false) (ap Ok c.is_witness.ensures)
