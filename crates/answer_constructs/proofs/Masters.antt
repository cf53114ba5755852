-- The masters for the thread of a master: all of them where the records have no filters, else those like it.
-- Assumes nothing.
use mathlib.Core.Path.{◌≡◌, sym, ◌∙◌}
use mathlib.Core.Logic.{◌≢◌}
use mathlib.Core.Bool.{Bool, true}
use mathlib.Core.List.{List}
use Prim.Native.Nat.{ℕ, ◌<◌}
use native.Mathlib.Omega.{arith}
use lib.Dec.{eqb}
use borrow.Author.Tests.{eqb-true, eq-eqb}
use Rattle.lists.specs.Truth.{and_both, both-and}
use Rattle.lists.specs.Mask.{Mask, mask_of, mask-of, mask-carry}
use Rattle.chart.specs.Format.{Construct, decode, construct_at}
use Rattle.chart.specs.Region.{master, Region}
use Rattle.chart.specs.Scope.{master_byte, kind_of}
use Rattle.chart.specs.Checked.{reading}
use Rattle.chart.specs.declared.format.Chart.{Chart}
use Rattle.chart.proofs.Records.{no-filter}
use Rattle.mark_tables.specs.Tables.{Accepted}
use Rattle.mark_tables.proofs.Accepted.{tables}
use Rattle.answer_constructs.specs.Chains.{Gives, is_like}
use Rattle.answer_constructs.specs.Marks.{OfKind}
use Rattle.answer_constructs.proofs.Constructs.{kind-byte}

module _ (s : List ℕ) (chart : Chart) (A : Accepted s chart) (c : ℕ) where
  abbrev R : Region
  R = reading s chart

  abbrev at : ℕ → Construct
  at d = construct_at (decode s).constructs d

  pub all-peers : {m : ℕ} → chart.edition ≢ 2 → OfKind R master m → Mask (λ d. Gives R c d master) R.constructs m
  all-peers n M = let z = no-filter s (λ q. n (A.laid.same-edition ∙ q)) in mask-carry (λ d l k. (k, z c ∙ sym (z d))) (λ d l g. g.0) M

  -- masters have no names
  nameless : (d : ℕ) → d < R.constructs → (at d).kind ≡ master_byte → (at d).name ≡ 0
  nameless d l q = ((tables s chart A).constructs.alone d l).unnamed (λ k. omega (arith, q, k))

  abbrev like : ℕ → Bool
  like = is_like (decode s).constructs (at c).kind (at c).name (at c).filter

  pub like-peers : c < R.constructs → (at c).kind ≡ master_byte → Mask (λ d. Gives R c d master) R.constructs (mask_of like R.constructs)
  unfolding is_like kind_of
  like-peers l q = mask-carry to from (mask-of like R.constructs)
    where
      to : (d : ℕ) → d < R.constructs → like d ≡ true → Gives R c d master
      to d m h =
          let k = and_both (eqb (at d).kind (at c).kind) _ h in
          let f = and_both (eqb (at d).name (at c).name) _ k.1 in
          (rw (eqb-true (at d).kind (at c).kind k.0, q), sym (eqb-true (at d).filter (at c).filter f.1))

      from : (d : ℕ) → d < R.constructs → Gives R c d master → like d ≡ true
      from d m (k, t) =
          let b = kind-byte s chart A master_byte d (omega arith) (omega arith) m k in
          both-and (eqb (at d).kind (at c).kind) _ (eq-eqb _ _ (b ∙ sym q))
          (both-and (eqb (at d).name (at c).name) _ (eq-eqb _ _ (nameless d m b ∙ sym (nameless c l q))) (eq-eqb _ _ (sym t)))
