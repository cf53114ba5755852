-- The names around a node: the criticals like one of the region's around it. And these themselves.
-- Assumes nothing.
use mathlib.Core.Path.{◌≡◌, refl, sym, ◌∙◌, subst}
use mathlib.Core.Logic.{◌≢◌, ◌↔◌}
use mathlib.Core.Bool.{Bool, true}
use mathlib.Core.List.{List}
use Prim.Native.Nat.{ℕ, ◌+◌, ◌^◌, ◌≤◌, ◌<◌}
use native.Mathlib.Omega.{arith}
use native.Mathlib.Decide.{dec_lt}
use lib.Bits.{bit_and, bit_or, and_lt, and_zero_r, or_zero_r}
use lib.Dec.{eqb}
use lib.ListN.{get_or, set, length-set}
use lib.Pow.{pow-lt}
use borrow.Author.Tests.{eqb-true, eq-eqb}
use Rattle.lists.specs.Truth.{and_both, both-and}
use Rattle.lists.specs.Mask.{Mask, mask_of, mask-of, mask-carry, has-own, has-pow}
use Rattle.lists.specs.Bits.{has, has_of}
use Rattle.lists.specs.Common.{and_both as bits-both, both-and as both_bits}
use Rattle.lists.specs.Store.{stored}
use Rattle.chart.specs.Format.{Construct, decode, construct_at, node_at}
use Rattle.chart.specs.Region.{critical, Region}
use Rattle.chart.specs.Scope.{begin_node, critical_byte, kind_of, parent_of, lies_at}
use Rattle.chart.specs.Nested.{counts_in}
use Rattle.chart.specs.Checked.{reading}
use Rattle.chart.specs.declared.format.Chart.{Chart}
use Rattle.chart.proofs.Records.{constructs-length, nodes-length}
use Rattle.chart.proofs.Scopes.{lies-number, lies-parent}
use Rattle.chart.proofs.Tree.{Below}
use Rattle.chart.proofs.Tables.{lies, lies-below}
use Rattle.chart.proofs.RegionFacts.{Counts}
use Rattle.chart.proofs.Around.{Around, around-next, around-at}
use Rattle.theory_answers.specs.Unexcluded.{In}
use Rattle.mark_tables.specs.Tables.{Accepted}
use Rattle.mark_tables.proofs.Accepted.{tables}
use Rattle.answer_constructs.specs.Chains.{mask_at, is_like}
use Rattle.answer_constructs.specs.Below.{LaidOut}
use Rattle.answer_constructs.proofs.Facts.{few, is_read}
use Rattle.answer_constructs.proofs.Constructs.{no-bit, parent-lower, kind-byte}
use Rattle.answer_names.specs.Names.{GivesName, Given, Small, BitOf, Chained, Spread, Names, OwnBits, Criticals, InCriticals}

module _ (s : List ℕ) (chart : Chart) (A : Accepted s chart) where
  abbrev R : Region
  R = reading s chart

  -- a construct of the region
  abbrev Member : ℕ → Type 0
  Member = Counts (decode s) chart.region

  abbrev at : ℕ → Construct
  at d = construct_at (decode s).constructs d

  -- a bit of the mask of the region's constructs
  pub member_of : (members c : ℕ) → members ≡ mask_of (counts_in (decode s).constructs chart.region) chart.constructs → c < chart.constructs
      → has members c ≡ counts_in (decode s).constructs chart.region c
  member_of members c q l = rw q (has_of (counts_in (decode s).constructs chart.region) chart.constructs c l)

  pub critical-byte : (d : ℕ) → d < R.constructs → R.kind d ≡ critical → (at d).kind ≡ critical_byte
  unfolding kind_of
  critical-byte d l k = kind-byte s chart A critical_byte d (omega arith) (omega arith) l k

  -- what gives no names: a construct that is not the region's, or no critical
  pub gives_none : (c : ℕ) → (Member c → ⊥) → Mask (GivesName R Member c) R.constructs 0
  gives_none c n = no-bit (λ d l g. n g.0)

  pub other-kind : (c : ℕ) → c < R.constructs → (at c).kind ≢ critical_byte → Mask (GivesName R Member c) R.constructs 0
  other-kind c l n = no-bit (λ d m g. n (critical-byte c l g.1.0))

  -- and a critical the criticals of its name
  module _ (c : ℕ) (n : Member c) (q : (at c).kind ≡ critical_byte) where
    abbrev like : ℕ → Bool
    like = is_like (decode s).constructs (at c).kind (at c).name (at c).filter

    unfiltered : (d : ℕ) → d < R.constructs → (at d).kind ≡ critical_byte → (at d).filter ≡ 0
    unfiltered d l k = ((tables s chart A).constructs.alone d l).unfiltered (λ z. omega (arith, z, k))

    pub gives-peers : Mask (GivesName R Member c) R.constructs (mask_of like R.constructs)
    unfolding is_like kind_of
    gives-peers = mask-carry to from (mask-of like R.constructs)
      where
        to : (d : ℕ) → d < R.constructs → like d ≡ true → GivesName R Member c d
        to d m h =
            let k = and_both (eqb (at d).kind (at c).kind) _ h in
            let f = and_both (eqb (at d).name (at c).name) _ k.1 in
            (n, (rw q, (rw (eqb-true (at d).kind (at c).kind k.0, q), sym (eqb-true (at d).name (at c).name f.0))))

        from : (d : ℕ) → d < R.constructs → GivesName R Member c d → like d ≡ true
        from d m (i, (k, (j, e))) =
            let b = critical-byte d m j in
            both-and (eqb (at d).kind (at c).kind) _ (eq-eqb _ _ (b ∙ sym q))
            (both-and (eqb (at d).name (at c).name) _ (eq-eqb _ _ (sym e)) (eq-eqb _ _ (unfiltered d m b ∙ sym (unfiltered c n.0 q))))

  -- one construct more
  pub chains-next : (c : ℕ) → c < R.constructs → {given chains : List ℕ} → Small R given → Chained R given c chains
      → Chained R given (c + 1) (set chains c (bit_or (mask_at chains (R.parent c)) (get_or given c 0)))
  unfolding mask_at
  chains-next c l {given} {chains} G K =
      let f = few s chart A in
      record {
        long = length-set chains c _ ∙ K.long;
        at = stored (λ d m. Mask (Around R.parent (BitOf given) d) R.constructs m) chains c _ (omega (arith, K.long))
            (around-next c (λ q. omega arith) (around-at chains K.at (omega arith) (R.parent c) (parent-lower s chart A c l)) (record { small = G c l; only = λ b m h. h; all = λ b m h. h })) K.at;
      }

  place-below : (x : ℕ) → Below chart.constructs (lies (decode s) x)
  place-below x = subst (λ (n : ℕ). Below n (lies (decode s) x)) (constructs-length s chart A.laid) (lies-below (decode s) (tables s chart A) x)

  spread_at : {given chains : List ℕ} → Chained R given chart.constructs chains → (x : ℕ)
      → Mask (Around R.parent (BitOf given) (lies (decode s) x)) R.constructs (mask_at chains (lies (decode s) x))
  unfolding mask_at
  spread_at {chains = chains} K x = around-at chains K.at A.laid.constructs-most (lies (decode s) x) (place-below x)

  -- a node has the mask of the construct that it lies in
  laid-at : {chains old masks : List ℕ} → LaidOut (decode s) chains 0 chart.nodes old masks → (x : ℕ) → x < chart.nodes → get_or masks x 0 ≡ mask_at chains (lies (decode s) x)
  unfolding lies_at
  laid-at {chains} L x l =
      let number = (node_at (decode s).nodes x).number in
      let parent = parent_of (decode s).constructs number in
      elim (dec_lt (node_at (decode s).nodes x).kind begin_node) [
        | yes k ↦ L.plain x l k ∙ rw (lies-number number parent k)
        | no k ↦
            let b : begin_node ≤ (node_at (decode s).nodes x).kind = omega arith in
            L.frame x l b ∙ rw (and_zero_r (mask_at chains number), or_zero_r (mask_at chains parent), lies-parent number parent b)
      ]

  pub laid-spread : {given chains old masks : List ℕ} → Chained R given chart.constructs chains → LaidOut (decode s) chains 0 chart.nodes old masks
      → Spread R (lies (decode s)) given old masks
  laid-spread K L =
      let n = nodes-length s chart A.laid in
      record { at = λ x l. rw (laid-at L x (omega arith)) (spread_at K x); past = λ x l. L.past x (omega arith) }

  pub given-small : {given : List ℕ} → Given R Member given → Small R given
  given-small G c l = (G.at c l).small

  -- what is given is spread: the names
  pub spread-names : {given old masks : List ℕ} → Given R Member given → Spread R (lies (decode s)) given old masks → Names R masks
  spread-names {given} G S x b = mask-carry to from (S.at x b)
    where
      to : (d : ℕ) → d < R.constructs → Around R.parent (BitOf given) (lies (decode s) x) d → (R.kind d ≡ critical) × ((c : ℕ) × (In R critical x c × (R.name c ≡ R.name d)))
      to d l (c, (e, h)) = let (n, (k, (j, q))) = (G.at c ((is_read s chart A).enclosed-below e)).only d l h in (j, (c, ((k, (is_read s chart A).enclosed-inside e n), q)))

      from : (d : ℕ) → d < R.constructs → (R.kind d ≡ critical) × ((c : ℕ) × (In R critical x c × (R.name c ≡ R.name d))) → Around R.parent (BitOf given) (lies (decode s) x) d
      from d l (j, (c, ((k, i), q))) =
          let n = (is_read s chart A).inside-counts i in
          (c, ((is_read s chart A).inside-enclosed i, (G.at c n.0).all d l (n, (k, (j, q)))))

  -- a critical of the region gives itself, and nothing else does
  gives-itself : {given : List ℕ} → Given R Member given → (c : ℕ) → c < R.constructs → BitOf given c c ↔ (Member c × (R.kind c ≡ critical))
  gives-itself G c l = ((λ h. let (n, (k, r)) = (G.at c l).only c l h in (n, k)), λ (n, k). (G.at c l).all c l (n, (k, (k, refl))))

  pub all-criticals : {given : List ℕ} → Given R Member given → Criticals R Member (mask_of (λ c. has (get_or given c 0) c) chart.constructs)
  all-criticals {given} G = rw (← constructs-length s chart A.laid) (mask-carry
      (λ c l h. (gives-itself G c l).0 (eqb-true _ 1 h)) (λ c l h. eq-eqb _ 1 ((gives-itself G c l).1 h)) (mask-of (λ c. has (get_or given c 0) c) R.constructs))

  -- its own bit is spread: the criticals around
  module _ {given own : List ℕ} (G : Given R Member given) (O : OwnBits chart.constructs given own) where
    own_at : (c : ℕ) → c < R.constructs → get_or own c 0 ≡ bit_and (get_or given c 0) (2 ^ c)
    own_at c l = O.at c (omega (arith, constructs-length s chart A.laid))

    pub own-small : Small R own
    own-small c l = rw (own_at c l) (and_lt R.constructs (get_or given c 0) (2 ^ c) (G.at c l).small (pow-lt l))

    pub spread-around : {old masks : List ℕ} → Spread R (lies (decode s)) own old masks → InCriticals R masks
    spread-around S = record { at = λ x b. mask-carry (to x) (from x) (S.at x b) }
      where
        to : (x d : ℕ) → d < R.constructs → Around R.parent (BitOf own) (lies (decode s) x) d → In R critical x d
        to x d l (c, (e, h)) =
            let m = (is_read s chart A).enclosed-below e in
            let (g, p) = bits-both (get_or given c 0) (2 ^ c) d (rw (own_at c m) at h) in
            let q = has-pow c d p in
            let (n, k) = (gives-itself G c m).0 (rw q at g) in
            rw q (k, (is_read s chart A).enclosed-inside e n)

        from : (x d : ℕ) → d < R.constructs → In R critical x d → Around R.parent (BitOf own) (lies (decode s) x) d
        from x d l (k, i) =
            let n = (is_read s chart A).inside-counts i in
            (d, ((is_read s chart A).inside-enclosed i, rw (own_at d l) (both_bits (get_or given d 0) (2 ^ d) d ((gives-itself G d l).1 (n, k)) (has-own d))))
