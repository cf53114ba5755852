-- `mark::returns::all_before` meets its contract: what all items pass, each construct does.
-- Assumes nothing.
use Rattle.std.proofs.Common.{refl, sym, ◌∙◌, ℕ, Bool, rules, arith, List, tests, ltb, get_or}
use Rattle.std.proofs.lemmas.Iterator.{YieldsList-from_range}
use Rattle.std.proofs.lemmas.Iterator.Search.{all_from_yields_List}
use borrow.Author.Tests.{ltb-true}
use Rattle.lists.specs.Range.{every-at}
use Rattle.lists.specs.Ranges.{every_in_range}
use Rattle.mark.proofs.returns.all_before.Goals as goal

before : List ℕ → List ℕ → ℕ → Bool
before begins ends c = ltb (get_or begins c 0) (get_or ends c 0)

pub returns : goal.returns
unfolding before
returns c = λ all d l.
    let f = before c.args.framing.now.begins c.args.framing.now.ends in
    let n = c.args.n in
    let is = all_from_yields_List f _ _ _ c.all.ensures.ran (YieldsList-from_range 0 n n refl (omega arith)) (λ x b q k. search (rules, tests)) ∙ every_in_range n f in
    ltb-true _ _ (every-at n f (sym is ∙ all) d l)
