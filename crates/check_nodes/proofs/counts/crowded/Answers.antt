-- `check_nodes::counts::crowded` meets its contract.
-- Assumes nothing.
use Rattle.std.proofs.Common.{refl, sym, ap, ◌∙◌, Bool, ◌&&◌, List, ℕ, arith, rules, tests}
use Rattle.std.proofs.lemmas.Iterator.{YieldsList-from_range}
use Rattle.std.proofs.lemmas.Iterator.Search.{any_from_yields_List}
use Rattle.lists.specs.Range.{any}
use Rattle.lists.specs.Ranges.{any_in_range}
use Rattle.chart.specs.Format.{decode}
use Rattle.chart.specs.Nested.{is_parallel}
use Rattle.chart.specs.Refusal.{too_many_in}
use Rattle.chart.proofs.Records.{constructs-length}
use Rattle.check_nodes.proofs.counts.crowded.Goals as goal

abbrev bad : List ℕ → ℕ → Bool
bad s c = is_parallel (decode s).constructs c && too_many_in (decode s).nodes c

pub returns : goal.returns
returns c =
    let s = c.args.s.now in
    let n = c.args.chart.constructs in
    any_from_yields_List (bad s) _ _ _ c.any.ensures.ran (YieldsList-from_range 0 n n refl (omega arith)) (λ x b q k. search (rules, tests))
    ∙ any_in_range n (bad s)
    ∙ ap (λ (k : ℕ). any k (bad s)) (sym (constructs-length s c.args.chart c.requires.0))
