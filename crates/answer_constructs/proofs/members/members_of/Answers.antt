-- `answer_constructs::members::members_of` meets its contract.
-- Assumes nothing.
use Rattle.std.proofs.Common.{◌≡◌, Bool, List, ℕ, ◌<◌, ◌∙◌, sym, subst, rules, arith, length}
use Rattle.lists.specs.Mask.{mask_of}
use Rattle.chart.specs.Format.{outside, decode, construct_at}
use Rattle.chart.specs.Scope.{parent_of}
use Rattle.chart.specs.Nested.{counts_in}
use Rattle.chart.specs.declared.format.Chart.{Chart}
use Rattle.chart.proofs.Records.{constructs-length}
use Rattle.chart.proofs.Tree.{Below}
use Rattle.mark_tables.specs.Tables.{Accepted}
use Rattle.mark_tables.proofs.Accepted.{tables}
use Rattle.answer_constructs.specs.Chains.{is_member}
use Rattle.answer_constructs.proofs.Constructs.{index_below, parent-lower}
use Rattle.answer_constructs.proofs.Membership.{member-next}
use Rattle.answer_constructs.proofs.members.members_of.Goals as goal

module _ {s : List ℕ} {chart : Chart} (A : Accepted s chart) (c : ℕ) (l : c < chart.constructs) where
  counted : c < length (decode s).constructs
  counted = omega (arith, constructs-length s chart A.laid)

  parent-fits : {p : ℕ} → p ≡ (construct_at (decode s).constructs c).parent → (p ≡ outside → ⊥) → p < 48
  unfolding parent_of
  parent-fits q = index_below (omega (arith, A.laid.constructs-most)) (subst (Below c) (sym q) (parent-lower s chart A c counted))

  member-told : {kind p : ℕ} {b : Bool} → kind ≡ (construct_at (decode s).constructs c).kind → p ≡ (construct_at (decode s).constructs c).parent
      → b ≡ is_member kind p chart.region (mask_of (counts_in (decode s).constructs chart.region) c) → b ≡ counts_in (decode s).constructs chart.region c
  unfolding parent_of
  member-told k q e = e ∙ rw (k, q) (member-next _ (tables s chart A) chart.region A.named c counted)

pub passing-requires-clause-callable : goal.passing-requires-clause-callable
passing-requires-clause-callable c = λ k m l w. search (rules, c.requires.laid, parent-fits c.requires k l)

pub returns : goal.returns
returns c = c.passing.ensures (counts_in (decode c.args.s.now).constructs c.args.chart.region) (λ d b l p. search (rules, member-told c.requires d l))
