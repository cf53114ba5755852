-- `call_pair::pair::answer_pair` meets its contract: row 13, then row 21, then the answer.
-- Assumes nothing.
use mathlib.Core.Path.{◌≡◌, sym, ◌∙◌}
use mathlib.Core.Bool.{false}
use mathlib.Core.List.{◌∷◌}
use Prim.Native.Nat.{◌<◌}
use native.Mathlib.Omega.{arith}
use Rattle.lists.specs.Truth.{or_left, or_right, neither-or}
use Rattle.chart.specs.Region.{Region}
use Rattle.chart.specs.Checked.{reading}
use Rattle.chart.specs.Refusal.{first_of}
use Rattle.theory_answers.specs.Numbers.{bad_number, good-number}
use Rattle.theory_answers.specs.Size.{size_rows}
use Rattle.theory_calls.specs.Pair.{numbers_row, answered}
use Rattle.call_pair.proofs.pair.answer_pair.Goals as goal

pub bad_node-requires : goal.bad_node-requires
bad_node-requires c = (c.requires.0, c.requires.1.well-formed)

pub returns-then-bad_node : goal.returns-then-bad_node
unfolding answered numbers_row first_of
returns-then-bad_node c =
    let R : Region =
    reading c.args.s.now c.args.chart in
    rw (or_left (bad_number R c.args.a) (bad_number R c.args.b) (sym c.bad_node.ensures ∙ c.if-bad_node.true))

pub bad_node-requires-2 : goal.bad_node-requires-2
bad_node-requires-2 c = (c.requires.0, c.requires.1.well-formed)

pub returns-then-bad_node-2 : goal.returns-then-bad_node-2
unfolding answered numbers_row first_of
returns-then-bad_node-2 c =
    let R : Region =
    reading c.args.s.now c.args.chart in
    rw (or_right (bad_number R c.args.a) (bad_number R c.args.b) (sym c.bad_node-2.ensures ∙ c.if-bad_node-2.true))

-- past the tests both numbers are those of nodes that a claim may name, and the size decides
pub returns-then-bad_size : goal.returns-then-bad_size
unfolding answered numbers_row first_of
returns-then-bad_size c =
    let R : Region =
    reading c.args.s.now c.args.chart in
    let good-a : bad_number R c.args.a ≡ false =
    sym c.bad_node.ensures ∙ c.if-bad_node.false in
    let good-b : bad_number R c.args.b ≡ false =
    sym c.bad_node-2.ensures ∙ c.if-bad_node-2.false in
    let rest : first_of (numbers_row R c.args.a c.args.b ∷ size_rows c.args.size) ≡ first_of (size_rows c.args.size) =
    rw (neither-or (bad_number R c.args.a) (bad_number R c.args.b) good-a good-b) in
    rw (rest, c.bad_size.ensures, c.if-bad_size.true)

pub sets_for-requires : goal.sets_for-requires
sets_for-requires c = c.requires.0

pub pair-number-requires : goal.pair-number-requires
pair-number-requires c =
    let R : Region =
    reading c.args.s.now c.args.chart in
    let good-a : bad_number R c.args.a ≡ false =
    sym c.bad_node.ensures ∙ c.if-bad_node.false in
    let good-b : bad_number R c.args.b ≡ false =
    sym c.bad_node-2.ensures ∙ c.if-bad_node-2.false in
    let below-a : c.args.a < R.nodes =
    (good-number R c.args.a c.requires.1.well-formed good-a).0 in
    let below-b : c.args.b < R.nodes =
    (good-number R c.args.b c.requires.1.well-formed good-b).0 in
    let M = c.requires.1 in
    (omega (arith, M.few, below-a), omega (arith, M.few, below-b))

pub returns : goal.returns
unfolding answered numbers_row first_of
returns c =
    let R : Region =
    reading c.args.s.now c.args.chart in
    let good-a : bad_number R c.args.a ≡ false =
    sym c.bad_node.ensures ∙ c.if-bad_node.false in
    let good-b : bad_number R c.args.b ≡ false =
    sym c.bad_node-2.ensures ∙ c.if-bad_node-2.false in
    let below-a : c.args.a < R.nodes =
    (good-number R c.args.a c.requires.1.well-formed good-a).0 in
    let below-b : c.args.b < R.nodes =
    (good-number R c.args.b c.requires.1.well-formed good-b).0 in
    let rest : first_of (numbers_row R c.args.a c.args.b ∷ size_rows c.args.size) ≡ first_of (size_rows c.args.size) =
    rw (neither-or (bad_number R c.args.a) (bad_number R c.args.b) good-a good-b) in
    let Z = c.sets_for.ensures.sized in
    let same = c.sets_for.ensures.kinds_value in
    rw (rest, c.bad_size.ensures, c.if-bad_size.false, ← c.pair-number.ensures R c.args.size (rw same c.requires.1) Z below-a below-b)
