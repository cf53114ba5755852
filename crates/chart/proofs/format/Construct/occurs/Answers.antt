-- `chart::format::Construct::occurs` meets its contract.
-- Assumes nothing.
use Rattle.std.proofs.Common.{refl, ap, ◌∙◌, sym, ℕ, Bool, eqb, rules, arith, List, tests}
use Rattle.std.proofs.lemmas.Iterator.{YieldsList-from_range}
use Rattle.std.proofs.lemmas.Iterator.Search.{any_from_yields_List}
use Rattle.lists.specs.Range.{any}
use Rattle.lists.specs.Ranges.{any_in_range}
use Rattle.chart.specs.Format.{decode, construct_at}
use Rattle.chart.specs.Refusal.{any_of}
use Rattle.chart.proofs.Records.{constructs-length}
use Rattle.chart.proofs.format.Construct.occurs.Goals as goal

is_of : List ℕ → ℕ → ℕ → Bool
is_of s kind c = eqb (construct_at (decode s).constructs c).kind kind

pub returns : goal.returns
unfolding any_of is_of
returns c =
    let s = c.args.s.now in
    let n = c.args.chart.constructs in
    any_from_yields_List (is_of s c.args.kind) _ _ _ c.any.ensures.ran (YieldsList-from_range 0 n n refl (omega arith)) (λ x b q k. search (rules, tests))
    ∙ any_in_range n (is_of s c.args.kind)
    ∙ ap (λ (k : ℕ). any k (is_of s c.args.kind)) (sym (constructs-length s c.args.chart c.requires))
