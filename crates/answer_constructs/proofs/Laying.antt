-- The masks of nodes, by the places of their records in a table.
-- Assumes nothing.
use mathlib.Core.Path.{◌≡◌, refl, sym, ◌∙◌}
use mathlib.Core.Logic.{inl, inr}
use mathlib.Core.List.{List}
use Prim.Native.Nat.{ℕ, ◌+◌, ◌%◌, ◌≤◌, ◌<◌}
use native.Mathlib.Omega.{arith}
use native.Mathlib.Decide.{ℕ_discrete, dec_lt}
use lib.Bits.{bit_and, bit_or}
use lib.ListN.{length, get_or, set, length-set, replicate}
use lib.Seq.{get_or-set_same, get_or-set_other}
use borrow.Author.Tests.{ne_eqb}
use Rattle.lists.specs.Store.{zeros, stored}
use Rattle.chart.specs.Format.{outside, Decoded, decode, node_at}
use Rattle.chart.specs.Region.{section}
use Rattle.chart.specs.Scope.{begin_node, parent_of}
use Rattle.chart.specs.Checked.{reading}
use Rattle.chart.specs.declared.format.Chart.{Chart}
use Rattle.chart.proofs.Records.{constructs-length}
use Rattle.chart.proofs.RegionFacts.{Counts}
use Rattle.chart.proofs.Tree.{Below}
use Rattle.mark_tables.specs.Tables.{Accepted}
use Rattle.answer_constructs.specs.Chains.{Chains, mask_at}
use Rattle.answer_constructs.specs.Marks.{OfKind}
use Rattle.answer_constructs.specs.Below.{place_of, Places, LaidOut, HeldBelow}
use Rattle.answer_constructs.proofs.Nodes.{kind-known, number-place, frame-number, plain-held, frame-held}

pub places-none : (D : Decoded) (chains : List ℕ) (inside : ℕ) → Places D chains inside 0 (replicate 128 0)
places-none D chains inside = record { long = refl; none = zeros 128 63; inner = λ c l. absurd (omega arith); frame = λ c l. absurd (omega arith) }

-- one construct more
pub places-more : {D : Decoded} {chains : List ℕ} {inside done : ℕ} {places : List ℕ} → Places D chains inside done places → done < 48
    → Places D chains inside (done + 1)
    (set (set places done (get_or chains done 0)) (64 + done) (bit_or (mask_at chains (parent_of D.constructs done)) (bit_and (get_or chains done 0) inside)))
places-more {D} {chains} {inside} {done} {places} P l = record {
  long = length-set lower (64 + done) _ ∙ wide;
  none = off 63 _ (λ q. omega arith) (λ q. omega arith) ∙ P.none;
  inner = λ c m. get_or-set_other lower (64 + done) c _ 0 (λ q. omega arith) ∙ elim (ℕ_discrete c done) [
    | yes q ↦ rw q (get_or-set_same places done _ 0 (omega (arith, P.long)))
    | no q ↦ get_or-set_other places done c _ 0 q ∙ P.inner c (omega arith)
  ];
  frame = λ c m. elim (ℕ_discrete c done) [
    | yes q ↦ rw q (get_or-set_same lower (64 + done) _ 0 (omega (arith, wide)))
    | no q ↦ off (64 + c) _ (λ z. q (omega arith)) (λ z. omega arith) ∙ P.frame c (omega arith)
  ];
}
  where
    lower : List ℕ
    lower = set places done (get_or chains done 0)

    wide : length lower ≡ 128
    wide = length-set places done _ ∙ P.long

    off : (j v : ℕ) → (j ≡ 64 + done → ⊥) → (j ≡ done → ⊥) → get_or (set lower (64 + done) v) j 0 ≡ get_or places j 0
    off j v a b = get_or-set_other lower (64 + done) j _ 0 a ∙ get_or-set_other places done j _ 0 b

-- a construct's own mask
mask-inner : (chains : List ℕ) (c : ℕ) → c < 48 → mask_at chains c ≡ get_or chains c 0
unfolding mask_at
mask-inner chains c l = rw (ne_eqb c outside (λ q. omega arith)) refl

-- a parent's mask stands at its place, and 0 where there is none
pub parent-found : {D : Decoded} {chains : List ℕ} {inside done p : ℕ} {places : List ℕ} → Below done p → done < 48 → Places D chains inside done places
    → get_or places (p % 64) 0 ≡ mask_at chains p
unfolding mask_at
parent-found (inl q) l P = rw (q, P.none)
parent-found {chains = chains} {p = p} (inr b) l P =
    let z : p % 64 ≡ p = omega arith in
    rw z (P.inner p b ∙ sym (mask-inner chains p (omega arith)))

module _ (s : List ℕ) (chart : Chart) (A : Accepted s chart) where
  abbrev kind : ℕ → ℕ
  kind x = (node_at (decode s).nodes x).kind

  abbrev number : ℕ → ℕ
  number x = (node_at (decode s).nodes x).number

  -- what a node finds at its place
  module _ {chains : List ℕ} {inside : ℕ} {places : List ℕ} (P : Places (decode s) chains inside chart.constructs places) (x : ℕ) where
    plain-place : kind x < begin_node → get_or places (place_of (kind x) (number x)) 0 ≡ mask_at chains (number x)
    unfolding mask_at
    plain-place k = elim (number-place s chart A x) [
      | inl q ↦
          let z : place_of (kind x) (number x) ≡ 63 = omega arith in
          rw (z, P.none, q)
      | inr l ↦
          let z : place_of (kind x) (number x) ≡ number x = omega (arith, A.laid.constructs-most) in
          rw z (P.inner (number x) l ∙ sym (mask-inner chains (number x) (omega (arith, A.laid.constructs-most))))
    ]

    frame-place : begin_node ≤ kind x
        → get_or places (place_of (kind x) (number x)) 0 ≡ bit_or (mask_at chains (parent_of (decode s).constructs (number x))) (bit_and (mask_at chains (number x)) inside)
    frame-place k =
        let l : number x < chart.constructs = omega (arith, frame-number s chart A x k, constructs-length s chart A.laid) in
        let z : place_of (kind x) (number x) ≡ 64 + number x = omega (arith, kind-known s chart A x, A.laid.constructs-most) in
        rw (z, mask-inner chains (number x) (omega (arith, A.laid.constructs-most))) (P.frame (number x) l)

    -- one node more
    pub laid_more : {old masks : List ℕ} → LaidOut (decode s) chains inside x old masks → x < 192
        → LaidOut (decode s) chains inside (x + 1) old (set masks x (get_or places (place_of (kind x) (number x)) 0))
    laid_more {old} {masks} L b = record {
      long = length-set masks x _ ∙ L.long;
      plain = stored (λ y m. kind y < begin_node → m ≡ mask_at chains (number y)) masks x _ (omega (arith, L.long)) plain-place L.plain;
      frame = stored (λ y m. begin_node ≤ kind y → m ≡ bit_or (mask_at chains (parent_of (decode s).constructs (number y))) (bit_and (mask_at chains (number y)) inside)) masks x _
          (omega (arith, L.long)) frame-place L.frame;
      past = λ y m. get_or-set_other masks x y _ 0 (λ z. absurd (omega arith)) ∙ L.past y (omega arith);
    }

  -- what the nodes hold, where `inside` has the sections
  pub laid-held : {chains : List ℕ} {inside : ℕ} (K : Chains (reading s chart) (Counts (decode s) chart.region) chart.constructs chains) → OfKind (reading s chart) section inside
      → {old masks : List ℕ} → old ≡ replicate 192 0 → LaidOut (decode s) chains inside chart.nodes old masks → HeldBelow (reading s chart) chart.nodes masks
  laid-held K S z L = record {
    long = L.long;
    has-held = λ x l. elim (dec_lt (kind x) begin_node) [
      | yes k ↦ rw (L.plain x l k) (plain-held s chart A K x k)
      | no k ↦ rw (L.frame x l (omega arith)) (frame-held s chart A K x (omega arith) S)
    ];
    rest = λ x l. L.past x l ∙ rw z (zeros 192 x);
  }
