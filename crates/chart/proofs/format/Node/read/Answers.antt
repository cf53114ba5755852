-- `chart::format::Node::read` meets its contract.
-- Assumes nothing.
use Rattle.std.proofs.Common.{◌≡◌, ap, ◌∙◌, ℕ, ◌+◌, arith, get_or, List}
use Rattle.chart.proofs.Records.{node-fields}
use Rattle.chart.proofs.format.Node.read.Goals as goal

pub returns : goal.returns
returns c =
    let s = c.args.s.now in
    let f = node-fields s c.args.chart c.requires.0 c.args.x c.node.result.at c.requires.1 c.node.ensures in
    let at : c.node.result.at ≡ c.node.result.at + 0 = omega arith in
    let item = λ (k : ℕ). ap (λ (bytes : List ℕ). get_or bytes k 0) c.to_le_bytes.ensures in
    (item 0 ∙ c.word.ensures.0 ∙ ap (λ (k : ℕ). get_or s k 0) at ∙ f.0, item 1 ∙ c.word.ensures.1 ∙ f.1)
