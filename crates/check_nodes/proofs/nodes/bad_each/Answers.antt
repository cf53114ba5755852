-- `check_nodes::nodes::bad_each` meets its contract.
-- Assumes nothing.
use Rattle.std.proofs.Common.{refl, sym, ap, ◌∙◌, ℕ, arith, rules, tests}
use Rattle.std.proofs.lemmas.Iterator.{YieldsList-from_range}
use Rattle.std.proofs.lemmas.Iterator.Search.{any_from_yields_List}
use Rattle.lists.specs.Range.{any}
use Rattle.lists.specs.Ranges.{any_in_range}
use Rattle.chart.specs.Format.{decode}
use Rattle.chart.proofs.Records.{nodes-length}
use Rattle.check_nodes.specs.Parts.{alone_at}
use Rattle.check_nodes.proofs.nodes.bad_each.Goals as goal

pub returns : goal.returns
returns c =
    let s = c.args.s.now in
    let n = c.args.chart.nodes in
    any_from_yields_List (alone_at (decode s)) _ _ _ c.any.ensures.ran (YieldsList-from_range 0 n n refl (omega arith)) (λ x b q k. search (rules, tests))
    ∙ any_in_range n (alone_at (decode s))
    ∙ ap (λ (k : ℕ). any k (alone_at (decode s))) (sym (nodes-length s c.args.chart c.requires))
