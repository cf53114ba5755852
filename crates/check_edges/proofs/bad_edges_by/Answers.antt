-- `check_edges::bad_edges_by` meets its contract.
-- Assumes nothing.
use Rattle.std.proofs.Common.{refl, sym, ap, ◌∙◌, ℕ, arith, rules, tests}
use Rattle.std.proofs.lemmas.Iterator.{YieldsList-from_range}
use Rattle.std.proofs.lemmas.Iterator.Search.{any_from_yields_List}
use Rattle.lists.specs.Range.{any}
use Rattle.lists.specs.Ranges.{any_in_range}
use Rattle.chart.specs.Format.{decode}
use Rattle.chart.proofs.Records.{edges-length}
use Rattle.check_edges.specs.Tables.{bad_by_itself}
use Rattle.check_edges.proofs.bad_edges_by.Goals as goal

pub returns : goal.returns
returns c =
    let s = c.args.s.now in
    let e = c.args.chart.edges in
    let bad = bad_by_itself (decode s) in
    any_from_yields_List bad _ _ _ c.any.ensures.ran (YieldsList-from_range 0 e e refl (omega arith)) (λ x b q k. search (rules, tests))
    ∙ any_in_range e bad
    ∙ ap (λ (k : ℕ). any k bad) (sym (edges-length s c.args.chart c.requires.0))
