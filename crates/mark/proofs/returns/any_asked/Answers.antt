-- `mark::returns::any_asked` meets its contract: what no item passes, none of the constructs does.
-- Assumes nothing.
use Rattle.std.proofs.Common.{refl, sym, ◌∙◌, ℕ, Bool, rules, arith, List, tests}
use Rattle.std.proofs.lemmas.Iterator.{YieldsList-from_range}
use Rattle.std.proofs.lemmas.Iterator.Search.{any_from_yields_List}
use Rattle.lists.specs.Range.{none_passes}
use Rattle.lists.specs.Ranges.{any_in_range}
use Rattle.chart.specs.Format.{decode, construct_at}
use Rattle.chart.specs.Scope.{kind_of}
use Rattle.mark_tables.specs.Tables.{asks_return}
use Rattle.mark.proofs.returns.any_asked.Goals as goal

asks_at : List ℕ → ℕ → Bool
asks_at s c = asks_return (kind_of (construct_at (decode s).constructs c).kind)

pub returns : goal.returns
unfolding asks_at
returns c = λ none d l.
    let s = c.args.s.now in
    let n = c.args.chart.constructs in
    let is = any_from_yields_List (asks_at s) _ _ _ c.any.ensures.ran (YieldsList-from_range 0 n n refl (omega arith)) (λ x b q k. search (rules, tests)) ∙ any_in_range n (asks_at s) in
    none_passes n (asks_at s) (sym is ∙ none) d l
