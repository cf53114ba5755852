-- `answer_steps::tests::in_ordered` meets its contract.
-- Assumes nothing.
use mathlib.Core.Path.{◌≡◌, refl, ◌∙◌, ap}
use mathlib.Core.Bool.{Bool, true, false, ◌&&◌}
use Prim.Native.Nat.{ℕ, ◌+◌}
use lib.Dec.{eqb}
use lib.ListN.{get_or}
use Rattle.lists.specs.Bits.{has}
use Rattle.lists.specs.Common.{common}
use Rattle.lists.specs.Range.{any_same}
use Rattle.chart.specs.Region.{ordered}
use Rattle.theory_answers.specs.Answer.{is_in, in_ordered_of}
use Rattle.theory_traces.specs.Tests.{is_kind}
use Rattle.answer_steps.proofs.Sorts.{common-any}
use Rattle.answer_steps.proofs.tests.in_ordered.Goals as goal

shuffle : (i k m p : Bool) → (i && ((k && m) && p)) ≡ ((k && (i && m)) && p)
shuffle true k m p = refl
shuffle false true m p = refl
shuffle false false m p = refl

pub returns : goal.returns
unfolding in_ordered_of is_in
returns c =
    λ R T.
    let inside = get_or c.args.table.now (1536 + c.args.x) 0 in
    c.common.ensures ∙ ap (λ (w : ℕ). common inside w) (T.ordereds c.args.d c.requires.3) ∙ common-any inside _ R.constructs
    ∙ any_same R.constructs _ _ (λ o l. rw (T.inside c.args.x o c.requires.2 l) (shuffle (has inside o) (is_kind (R.kind o) ordered) (has (get_or c.args.table.now 2032 0) o) (eqb (R.parent o) c.args.d)))
