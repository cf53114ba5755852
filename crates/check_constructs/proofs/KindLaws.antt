-- Kinds as bits: what is noted of one construct more, and what the bits tell of those above a construct.
-- Assumes nothing.
use mathlib.Core.Path.{◌≡◌, refl, sym, subst, ◌∙◌}
use mathlib.Core.Logic.{◌⊎◌, inl, inr, ◌≢◌}
use mathlib.Core.Bool.{Bool, true, false, not, cond}
use mathlib.Core.List.{List}
use Prim.Native.Nat.{ℕ, ◌+◌, ◌%◌, ◌≤◌, ◌<◌}
use native.Mathlib.Omega.{arith}
use native.Mathlib.Nat.{mod-eq_of_lt}
use lib.Bits.{bit_or}
use lib.Dec.{eqb, ltb}
use lib.ListN.{length, get_or, set, replicate, length-set}
use borrow.Author.Tests.{eqb-true, eqb-false, lt-ltb}
use Rattle.lists.specs.Truth.{truth, clash, and_both, both-and, or_cases, or_left}
use Rattle.lists.specs.Range.{any}
use Rattle.lists.specs.Store.{at_set}
use Rattle.lists.specs.Mask.{Has, mask_of, mask-carry, mask-either, mask-of}
use Rattle.lists.specs.Common.{common, common-test, mask-none, mask_one}
use Rattle.chart.specs.Format.{outside, Construct, construct_at}
use Rattle.chart.specs.Scope.{critical_byte, parallel_byte, kind_of, parent_of}
use Rattle.chart.specs.Nested.{is_parallel}
use Rattle.chart.specs.Nesting.{kinds, may_enclose, excluded, same_critical, wrongly_above}
use Rattle.chart.specs.Refusal.{bad_alone}
use Rattle.chart.proofs.Constructs.{no-construct}
use Rattle.chart.proofs.Tree.{Below}
use Rattle.chart.proofs.Near.{Near, at, on, near-open}
use Rattle.check_constructs.specs.Kinds.{bit_of, NearIn, KindsFrom, KindAt, NotedTo, barred_by}
use Rattle.check_constructs.proofs.Ancestors.{fits, parents, near_step, near-below, near-found, near_none}

-- a table of one byte for every construct

pub noted-none : (Byte : ℕ → ℕ → Type 0) {v : ℕ} → Byte outside v → NotedTo Byte 0 (replicate 64 v)
noted-none Byte {v} b = record { long = refl; at = λ p l. go p l }
  where
    go : (p : ℕ) → Below 0 p → Byte p (get_or (replicate 64 v) (p % 64) 0)
    go p (inl q) = subst (λ (p : ℕ). Byte p (get_or (replicate 64 v) (p % 64) 0)) (sym q) b
    go p (inr l) = absurd (omega arith)

pub noted_more : (Byte : ℕ → ℕ → Type 0) {c v : ℕ} {table : List ℕ} → c < 48 → NotedTo Byte c table → Byte c v → NotedTo Byte (c + 1) (set table c v)
noted_more Byte {c} {v} {table} l T b = record {
  long = length-set table c v ∙ T.long;
  at = λ p m. at_set (Byte p) table c v (p % 64) (omega (arith, T.long)) (λ q. subst (λ (p : ℕ). Byte p v) (sym (same p m q)) b) (λ n. T.at p (less p m n));
}
  where
    same : (p : ℕ) → Below (c + 1) p → p % 64 ≡ c → p ≡ c
    same p (inl q) e = absurd (omega arith)
    same p (inr m) e = omega arith

    less : (p : ℕ) → Below (c + 1) p → (p % 64 ≡ c → ⊥) → Below c p
    less p (inl q) n = inl q
    less p (inr m) n = inr (omega arith)

pub kind-none : (cs : List Construct) → length cs ≤ outside → KindAt cs outside 1
kind-none cs few = rw (no-construct cs outside few)

-- the kinds from a construct on upwards

-- nothing stands above what is outside, or in a parallel
kinds-shut : (cs : List Construct) (p : ℕ) → ((k : ℕ) → NearIn cs p k → ⊥) → KindsFrom cs p 0
kinds-shut cs p f = mask-carry (λ b l z. absurd z) (λ b l (k, (a, e)). f k a) (mask-none 8)

pub kinds-none : (cs : List Construct) → KindsFrom cs outside 0
kinds-none cs = kinds-shut cs outside (λ k a. (near-open a).0 refl)

pub kinds-more : (cs : List Construct) (c : ℕ) {above : ℕ} → c ≢ outside → (construct_at cs c).kind ≤ kinds → KindsFrom cs (parent_of cs c) above
    → KindsFrom cs c (cond (eqb (construct_at cs c).kind parallel_byte) 0 (bit_or above (bit_of (construct_at cs c).kind)))
unfolding is_parallel
kinds-more cs c {above} n most K = go (truth (is_parallel cs c))
  where
    go : (is_parallel cs c ≡ true) ⊎ (is_parallel cs c ≡ false) → KindsFrom cs c (cond (is_parallel cs c) 0 (bit_or above (bit_of (construct_at cs c).kind)))
    go (inl s) = rw s (kinds-shut cs c (λ k a. clash s (near-open a).1))
    go (inr s) =
        let few : (construct_at cs c).kind < 8 = omega (arith, eqb-false (construct_at cs c).kind parallel_byte s) in
        rw (s, mod-eq_of_lt few)
        (mask-carry {P = λ b. ((k : ℕ) × (NearIn cs (parent_of cs c) k × ((construct_at cs k).kind ≡ b))) ⊎ (b ≡ (construct_at cs c).kind)} (λ b l h. elim h [ inl (k, (a, e)) ↦ (k, (on n s a, e)) | inr q ↦ (c, (at n s, sym q)) ])
        (λ b l (k, (a, e)). elim (near_step cs a) [ inl q ↦ inr (subst (λ (k : ℕ). b ≡ (construct_at cs k).kind) (sym q) (sym e)) | inr d ↦ inl (k, (d, e)) ])
        (mask-either K (mask_one few)))

-- the test of the kinds above c, where c and all below it are in order by themselves

near-inner : {parent : ℕ → ℕ} {shut : ℕ → Bool} {p k : ℕ} → Near parent shut p k → shut k ≡ false
near-inner (at n s) = s
near-inner (on n s a) = near-inner a

module _ (cs : List Construct) (c : ℕ) {above : ℕ} (alone : any (c + 1) (bad_alone cs) ≡ false) (K : KindsFrom cs (parent_of cs c) above) where
  pub barred-found : c < length cs → common above (mask_of (barred_by (construct_at cs c).kind) 8) ≡ true → any (length cs) (wrongly_above cs c) ≡ true
  unfolding barred_by excluded
  barred-found l h =
      let (b, (m, ((k, (a, e)), f))) = (common-test K (mask-of (barred_by (construct_at cs c).kind) 8)).0 h in
      let g = (and_both (ltb 0 b) _ f).1 in
      near-found cs alone l a (or_left _ _ (subst (λ (b : ℕ). not (may_enclose (kind_of (construct_at cs c).kind) (kind_of b)) ≡ true) (sym e) g))

  -- what stands above is of a kind that has a bit of its own
  own-bit : {k : ℕ} → NearIn cs (parent_of cs c) k → (0 < (construct_at cs k).kind) × ((construct_at cs k).kind < 8)
  unfolding is_parallel
  own-bit {k} a =
      let f = fits cs (c + 1) alone k (omega (arith, near-below cs alone a)) in
      (omega (arith, f.least), omega (arith, f.most, eqb-false (construct_at cs k).kind parallel_byte (near-inner a)))

  pub names-left : common above (mask_of (barred_by (construct_at cs c).kind) 8) ≡ false → ((construct_at cs c).kind ≡ critical_byte → Has above critical_byte → ⊥) → any (length cs) (wrongly_above cs c) ≡ false
  unfolding barred_by excluded same_critical
  names-left none names = near_none cs c (λ k a f. elim (or_cases (not (may_enclose (kind_of (construct_at cs c).kind) (kind_of (construct_at cs k).kind))) _ f) [
    | inl m ↦ clash ((common-test K (mask-of (barred_by (construct_at cs c).kind) 8)).1 ((construct_at cs k).kind, ((own-bit a).1, ((k, (a, refl)), both-and _ _ (lt-ltb 0 (construct_at cs k).kind (own-bit a).0) m)))) none
    | inr s ↦ (let b = and_both (eqb (construct_at cs c).kind critical_byte) _ s in
        let d = and_both (eqb (construct_at cs k).kind critical_byte) _ b.1 in
        names (eqb-true _ critical_byte b.0) (K.all critical_byte (omega arith) (k, (a, eqb-true _ critical_byte d.0))))
  ])

-- the parent of a construct in order is of some kind, or none
pub parent-most : (cs : List Construct) (c : ℕ) → length cs ≤ outside → any (c + 1) (bad_alone cs) ≡ false → (construct_at cs (parent_of cs c)).kind ≤ kinds
parent-most cs c few alone = elim (parents cs (c + 1) alone c (omega arith)) [
  | inl q ↦ rw (q, no-construct cs outside few) (omega arith)
  | inr l ↦ (fits cs (c + 1) alone (parent_of cs c) (omega arith)).most
]
