-- Masks of constructs, one construct after the other: in a construct is held what is held in its parent, and what the construct itself
-- gives; and the constructs of a kind.
-- Assumes nothing.
use mathlib.Core.Path.{◌≡◌, refl, ap, sym, ◌∙◌, subst}
use mathlib.Core.Logic.{◌⊎◌, inl, inr, ◌≢◌, ◌↔◌}
use mathlib.Core.Bool.{true, false, cond}
use mathlib.Core.List.{List}
use Prim.Native.Nat.{ℕ, zero, suc, ◌+◌, ◌^◌, ◌≤◌, ◌<◌}
use native.Mathlib.Omega.{arith}
use native.Mathlib.Decide.{ℕ_discrete}
use lib.Bits.{bit_or}
use lib.ListN.{length, set, length-set}
use borrow.Author.Tests.{eqb-true, eq-eqb, ne_eqb}
use Rattle.lists.specs.Truth.{truth, clash}
use Rattle.lists.specs.Mask.{Mask, mask_of, mask-of, mask-carry}
use Rattle.lists.specs.Bits.{has, has_of}
use Rattle.lists.specs.Common.{mask-none, mask_one}
use Rattle.lists.specs.Store.{stored}
use Rattle.chart.specs.Format.{outside, decode, construct_at}
use Rattle.chart.specs.Region.{Kind, single, master, critical, loop, ordered, sections, section, parallel, Region}
use Rattle.chart.specs.Scope.{single_byte, master_byte, loop_byte, ordered_byte, sections_byte, section_byte, parallel_byte, kind_of, parent_of}
use Rattle.chart.specs.Nested.{counts_in}
use Rattle.chart.specs.Nesting.{kinds}
use Rattle.chart.specs.Checked.{reading}
use Rattle.chart.specs.declared.format.Chart.{Chart}
use Rattle.chart.proofs.Records.{constructs-length}
use Rattle.chart.proofs.Around.{around-next, around-at}
use Rattle.chart.proofs.Tree.{Below}
use Rattle.chart.proofs.Constructs.{kind-below}
use Rattle.chart.proofs.Tables.{loop-above, sections-above}
use Rattle.chart.proofs.RegionFacts.{Counts}
use Rattle.theory_answers.specs.Unexcluded.{Returns}
use Rattle.theory_paths.specs.Decide.{returns}
use Rattle.theory_paths.specs.PhasesLaws.{returns-means}
use Rattle.mark_tables.specs.Tables.{Accepted, asks_return, Returned}
use Rattle.mark_tables.proofs.Accepted.{tables, well-formed}
use Rattle.answer_constructs.specs.Chains.{Gives, HeldIn, Chains, mask_at, lasting_bit, own_mask, rule_byte, is_of}
use Rattle.answer_constructs.specs.Marks.{OfKind, rule_kind}
use Rattle.answer_constructs.proofs.Facts.{few}

pub no-bit : {P : ℕ → Type 0} {k : ℕ} → ((b : ℕ) → b < k → P b → ⊥) → Mask P k 0
no-bit {k = k} f = mask-carry (λ b l h. absurd h) f (mask-none k)

-- the mask at a place, which may be outside
pub held_at : {R : Region} {Counts : ℕ → Type 0} {done : ℕ} {held : List ℕ} → Chains R Counts done held → done ≤ 48 → (p : ℕ) → Below done p
    → Mask (HeldIn R Counts p) R.constructs (mask_at held p)
unfolding mask_at
held_at {R} {Counts} {held = held} K most p b = around-at {Gives = λ c d. Counts c × Gives R c d (R.kind c)} held K.is_held most p b

pub index_below : {bound p : ℕ} → bound ≤ 48 → Below bound p → (p ≡ outside → ⊥) → p < 48
index_below l (inl q) d = absurd (d q)
index_below l (inr h) d = omega arith

-- the byte of a kind, so that kinds that are equal have equal bytes
unfoldable byte_of : Kind → ℕ
byte_of single = 1
byte_of master = 2
byte_of critical = 3
byte_of loop = 4
byte_of ordered = 5
byte_of sections = 6
byte_of section = 7
byte_of parallel = 8

back : (b : ℕ) → 1 ≤ b → b ≤ kinds → byte_of (kind_of b) ≡ b
unfolding byte_of kind_of
back zero l m = absurd (omega arith)
back (suc zero) l m = refl
back (suc (suc zero)) l m = refl
back (suc (suc (suc zero))) l m = refl
back (suc (suc (suc (suc zero)))) l m = refl
back (suc (suc (suc (suc (suc zero))))) l m = refl
back (suc (suc (suc (suc (suc (suc zero)))))) l m = refl
back (suc (suc (suc (suc (suc (suc (suc zero))))))) l m = refl
back (suc (suc (suc (suc (suc (suc (suc (suc zero)))))))) l m = refl
back (suc (suc (suc (suc (suc (suc (suc (suc (suc b))))))))) l m = absurd (omega arith)

module _ (s : List ℕ) (chart : Chart) (A : Accepted s chart) where
  abbrev R : Region
  R = reading s chart

  -- a construct of the region
  abbrev Member : ℕ → Type 0
  Member = Counts (decode s) chart.region

  abbrev byte : ℕ → ℕ
  byte c = (construct_at (decode s).constructs c).kind

  pub parent-lower : (c : ℕ) → c < R.constructs → Below c (R.parent c)
  unfolding parent_of
  parent-lower c l = ((tables s chart A).constructs.alone c l).parent-lower

  -- an ordered has a do for its parent, and a section a sections
  do-below : (c : ℕ) → c < R.constructs → byte c ≡ ordered_byte → R.parent c < R.constructs
  unfolding kind_of
  do-below c l q = let k = loop-above (decode s) (tables s chart A) c l (rw q) in kind-below (decode s).constructs (R.parent c) (omega arith)

  sections-below : (c : ℕ) → c < R.constructs → byte c ≡ section_byte → R.parent c < R.constructs
  unfolding kind_of
  sections-below c l q = let k = sections-above (decode s) (tables s chart A) c l (rw q) in kind-below (decode s).constructs (R.parent c) (omega arith)

  pub section-parent : (c : ℕ) → c < length (decode s).constructs → byte c ≡ section_byte → parent_of (decode s).constructs c < 48
  section-parent c l q = omega (arith, sections-below c l q, few s chart A)

  pub ordered-parent : (c : ℕ) → c < length (decode s).constructs → byte c ≡ ordered_byte → parent_of (decode s).constructs c < 48
  ordered-parent c l q = omega (arith, do-below c l q, few s chart A)

  -- one bit, where what `of` gives for it does not return: the construct itself, or its parent
  lasting-one : (returning : ℕ) → Returned R returning → (of : ℕ → ℕ) (c : ℕ) → c < R.constructs → of c < R.constructs → asks_return (R.kind (of c)) ≡ true
      → Mask (λ d. (d ≡ c) × (Returns R (of d) → ⊥)) R.constructs (lasting_bit returning (of c) c)
  unfolding lasting_bit
  lasting-one returning T of c l m a = rw (T (of c) m a) (go (truth (returns R (of c))))
    where
      means : (returns R (of c) ≡ true) ↔ Returns R (of c)
      means = returns-means R (well-formed s chart A) (of c)

      go : (returns R (of c) ≡ true) ⊎ (returns R (of c) ≡ false)
          → Mask (λ d. (d ≡ c) × (Returns R (of d) → ⊥)) R.constructs (cond (returns R (of c)) 0 (2 ^ c))
      go (inl h) = rw h (no-bit (λ d m p. p.1 (subst (λ (e : ℕ). Returns R (of e)) (sym p.0) (means.0 h))))
      go (inr h) = rw h (mask-carry (λ d m q. (q, λ r. clash (means.1 (subst (λ (e : ℕ). Returns R (of e)) q r)) h)) (λ d m p. p.0) (mask_one l))

  -- what a construct gives
  module _ (c : ℕ) (l : c < R.constructs) (returning : ℕ) (T : Returned R returning) (masters : ℕ) (M : byte c ≡ master_byte → Mask (λ d. Gives R c d master) R.constructs masters) where
    abbrev Own : ℕ → Type 0
    Own d = Member c × Gives R c d (R.kind c)

    -- by the kind of c
    given : {kind : Kind} {m : ℕ} → Member c → R.kind c ≡ kind → Mask (λ d. Gives R c d kind) R.constructs m → Mask Own R.constructs m
    given n q v = mask-carry (λ d m g. (n, subst (Gives R c d) (sym q) g)) (λ d m g. subst (Gives R c d) q g.1) v

    own-given : Member c → Mask Own R.constructs (own_mask (byte c) (R.parent c) c returning masters)
    unfolding own_mask kind_of
    own-given n = go (ℕ_discrete (byte c) master_byte) (ℕ_discrete (byte c) single_byte) (ℕ_discrete (byte c) ordered_byte) (ℕ_discrete (byte c) section_byte)
      where
        other : byte c ≢ master_byte → byte c ≢ single_byte → byte c ≢ ordered_byte → byte c ≢ section_byte → Dec (byte c ≡ loop_byte) → Dec (byte c ≡ sections_byte) → Dec (byte c ≡ parallel_byte)
            → (d : ℕ) → Gives R c d (R.kind c) → ⊥
        other a b o t (yes q) z e d g = rw q at g
        other a b o t (no q) (yes z) e d g = rw z at g
        other a b o t (no q) (no z) (yes e) d g = rw e at g
        other a b o t (no q) (no z) (no e) d g = rw (
          ne_eqb (byte c) master_byte a,
          ne_eqb (byte c) single_byte b,
          ne_eqb (byte c) ordered_byte o,
          ne_eqb (byte c) loop_byte q,
          ne_eqb (byte c) sections_byte z,
          ne_eqb (byte c) section_byte t,
          ne_eqb (byte c) parallel_byte e,
        ) at g

        go : Dec (byte c ≡ master_byte) → Dec (byte c ≡ single_byte) → Dec (byte c ≡ ordered_byte) → Dec (byte c ≡ section_byte)
            → Mask Own R.constructs (own_mask (byte c) (R.parent c) c returning masters)
        go (yes a) b o t = rw (eq-eqb (byte c) master_byte a) (given {kind = master} n (rw a) (M a))
        go (no a) (yes b) o t = rw (ne_eqb (byte c) master_byte a, eq-eqb (byte c) single_byte b) (given {kind = single} n (rw b) (lasting-one returning T (λ d. d) c l l (rw b refl)))
        go (no a) (no b) (yes o) t =
            let p = do-below c l o in
            rw (ne_eqb (byte c) master_byte a, ne_eqb (byte c) single_byte b, eq-eqb (byte c) ordered_byte o)
            (given {kind = ordered} n (rw o) (lasting-one returning T (λ d. d) (R.parent c) p p (rw (loop-above (decode s) (tables s chart A) c l (rw o)) refl)))
        go (no a) (no b) (no o) (yes t) =
            let p = sections-below c l t in
            rw (ne_eqb (byte c) master_byte a, ne_eqb (byte c) single_byte b, ne_eqb (byte c) ordered_byte o, eq-eqb (byte c) section_byte t)
            (given {kind = section} n (rw t) (lasting-one returning T R.parent c l p (rw (sections-above (decode s) (tables s chart A) c l (rw t)) refl)))
        go (no a) (no b) (no o) (no t) =
            rw (ne_eqb (byte c) master_byte a, ne_eqb (byte c) single_byte b, ne_eqb (byte c) ordered_byte o, ne_eqb (byte c) section_byte t)
            (no-bit (λ d m g. other a b o t (ℕ_discrete (byte c) loop_byte) (ℕ_discrete (byte c) sections_byte) (ℕ_discrete (byte c) parallel_byte) d g.1))

    -- where it is one of the region
    own_is : (members : ℕ) → members ≡ mask_of (counts_in (decode s).constructs chart.region) chart.constructs
        → Mask Own R.constructs (cond (has members c) (own_mask (byte c) (R.parent c) c returning masters) 0)
    own_is members q =
        rw (q, has_of (counts_in (decode s).constructs chart.region) chart.constructs c (omega (arith, constructs-length s chart A.laid)))
        (go (truth (counts_in (decode s).constructs chart.region c)))
      where
        go : (counts_in (decode s).constructs chart.region c ≡ true) ⊎ (counts_in (decode s).constructs chart.region c ≡ false)
            → Mask Own R.constructs (cond (counts_in (decode s).constructs chart.region c) (own_mask (byte c) (R.parent c) c returning masters) 0)
        go (inl h) = rw h (own-given (l, h))
        go (inr h) = rw h (no-bit (λ d m g. clash g.0.1 h))

    pub chains-more : {members : ℕ} {held : List ℕ} → members ≡ mask_of (counts_in (decode s).constructs chart.region) chart.constructs
        → Chains (reading s chart) (Counts (decode s) chart.region) c held
        → Chains (reading s chart) (Counts (decode s) chart.region) (c + 1)
        (set held c (bit_or (mask_at held (R.parent c)) (cond (has members c) (own_mask (byte c) (R.parent c) c returning masters) 0)))
    chains-more {members} {held} q K =
        let f = few s chart A in
        record {
          long = length-set held c _ ∙ K.long;
          is_held = stored (λ j m. Mask (HeldIn R Member j) R.constructs m) held c _ (omega (arith, K.long))
              (around-next {Gives = λ k d. Member k × Gives R k d (R.kind k)} c (λ q. omega arith) (held_at K (omega arith) (R.parent c) (parent-lower c l)) (own_is members q)) K.is_held;
        }

  -- the byte of a kind
  pub kind-byte : (kind c : ℕ) → 1 ≤ kind → kind ≤ kinds → c < R.constructs → R.kind c ≡ kind_of kind → byte c ≡ kind
  kind-byte kind c h k l t = let T = (tables s chart A).constructs.alone c l in sym (back (byte c) T.least T.most) ∙ ap byte_of t ∙ back kind h k

  -- the constructs of a kind
  of-kind : (kind : ℕ) → 1 ≤ kind → kind ≤ kinds → OfKind R (kind_of kind) (mask_of (is_of (decode s).constructs kind) chart.constructs)
  unfolding is_of
  of-kind kind h k =
      rw (← constructs-length s chart A.laid)
      (mask-carry (λ c l t. ap kind_of (eqb-true (byte c) kind t)) (λ c l t. eq-eqb (byte c) kind (kind-byte kind c h k l t)) (mask-of (is_of (decode s).constructs kind) R.constructs))

  pub of-rule : (k : ℕ) → k < 4 → OfKind R (rule_kind k) (mask_of (is_of (decode s).constructs (rule_byte k)) chart.constructs)
  unfolding kind_of
  of-rule zero l = of-kind master_byte (omega arith) (omega arith)
  of-rule (suc zero) l = of-kind single_byte (omega arith) (omega arith)
  of-rule (suc (suc zero)) l = of-kind loop_byte (omega arith) (omega arith)
  of-rule (suc (suc (suc zero))) l = of-kind section_byte (omega arith) (omega arith)
  of-rule (suc (suc (suc (suc k)))) l = absurd (omega arith)
