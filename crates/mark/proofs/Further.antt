-- Sources of the search that are no barriers: they stand behind those in the list, and masks lose their bits.
-- Assumes nothing.
use mathlib.Core.Path.{◌≡◌, refl, sym, ◌∙◌}
use mathlib.Core.Logic.{inl, inr, ⊎_elim}
use mathlib.Core.List.{List}
use Prim.Native.Nat.{ℕ, suc, ◌+◌, ◌-◌, ◌/◌, ◌%◌, ◌^◌, ◌≤◌, ◌<◌}
use native.Mathlib.Omega.{arith}
use native.Mathlib.Decide.{ℕ_discrete}
use native.Mathlib.Nat.{mod-lt}
use lib.Pow.{pow_pos, field, mod-mod-pow}
use lib.ListN.{length, get_or, set, length-set}
use Rattle.lists.specs.Mask.{Mask}
use Rattle.lists.specs.Store.{at_set}
use Rattle.chart.specs.Region.{Region}
use Rattle.chart.specs.declared.format.Chart.{Chart}
use Rattle.mark_tables.specs.Tables.{Barriers}
use Rattle.search.specs.Levels.{Each}
use Rattle.search.specs.Search.{Spread}
use Rattle.mark.specs.Returning.{Asked, Added, First}

-- the first bits of a mask

low_bit : (m j b : ℕ) → m % 2 ^ (j + 1 + b) / 2 ^ b % 2 ≡ m / 2 ^ b % 2
low_bit m j b =
    let z : m / 2 ^ b % 2 ^ (j + 1) % 2 ≡ m / 2 ^ b % 2 = mod-mod-pow (m / 2 ^ b) j 1 in
    rw (field m (j + 1) b) z

has_first : (m k b : ℕ) → b < k → m % 2 ^ k / 2 ^ b % 2 ≡ m / 2 ^ b % 2
has_first m k b l = let q : k - suc b + 1 + b ≡ k = omega arith in rw q at (low_bit m (k - suc b) b)

mask_first : {P : ℕ → Type 0} {n m : ℕ} (k : ℕ) → k ≤ n → Mask P n m → Mask P k (m % 2 ^ k)
mask_first {m = m} k h v = record {
  small = mod-lt m (pow_pos k);
  only = λ b l g. v.only b (omega arith) (sym (has_first m k b l) ∙ g);
  all = λ b l p. has_first m k b l ∙ v.all b (omega arith) p;
}

pub spread-first : {E : ℕ → ℕ → Type 0} {stops sources s t : List ℕ} {total : ℕ} (k : ℕ) → k ≤ total → Each (First k) s t → Spread E stops sources total s
    → Spread E stops sources k t
spread-first k h c w = record {
  long = c.long;
  clear = λ y l p. rw (c.at y l) (mask_first k h (w.clear y l p));
  stop = λ y l n. rw (c.at y l) (mask_first k h (w.stop y l n));
}

-- ends behind the barriers

pub added_none : {ends nodes : List ℕ} {n k : ℕ} → length nodes ≡ 64 → k ≤ 64 → Added ends n k nodes k nodes
added_none l h = record { long = l; least = omega arith; most = h; keep = λ b _. refl; node = λ _ f. f; behind = inl refl }

pub added-start : {ends nodes : List ℕ} {k : ℕ} → length nodes ≡ 64 → k ≤ 64 → Added ends 0 k nodes (k + 0) nodes
added-start {k = k} l h = let q : k + 0 ≡ k = omega arith in rw q (added_none l h)

pub added_more : {ends old new : List ℕ} {k c : ℕ} → k + c < 64 → Added ends c k old (k + c) new
    → Added ends (c + 1) k old (k + (c + 1)) (set new (k + c) (get_or ends c 0))
added_more {ends} {old} {new} {k} {c} h i =
    let own : k + c < length new = omega (arith, i.long) in
    record {
      long = length-set new (k + c) (get_or ends c 0) ∙ i.long;
      least = omega arith;
      most = omega arith;
      keep = λ b l. at_set (λ v. v ≡ get_or old b 0) new (k + c) (get_or ends c 0) b own (λ e. absurd (omega arith)) (λ _. i.keep b l);
      node = λ f g b. at_set (λ v. v < 192) new (k + c) (get_or ends c 0) b own (λ _. f c) (λ _. i.node f g b);
      behind = inr (refl, λ d l. at_set (λ v. v ≡ get_or ends d 0) new (k + c) (get_or ends c 0) (k + d) own (λ e. let q : d ≡ c = omega arith in rw q) (λ n. before d (omega arith)));
    }
  where
    before : (d : ℕ) → d < c → get_or new (k + d) 0 ≡ get_or ends d 0
    before d l = ⊎_elim (λ q. absurd (omega arith)) (λ w. w.1 d l) i.behind

-- the barriers are the first of the list still
pub added-barriers : {R : Region} {ends old new : List ℕ} {n k total : ℕ} → Barriers R old k → ((c : ℕ) → get_or ends c 0 < 192) → Added ends n k old total new → Barriers R new k
added-barriers N E i = record { long = i.long; count = N.count; at = λ b l. i.keep b l ∙ N.at b l; node = i.node E N.node }

pub added-nothing : {ends old new : List ℕ} {n k total : ℕ} → Added ends n k old total new → n ≡ 0 → total ≡ k
added-nothing i z = ⊎_elim (λ q. q) (λ w. omega (arith, w.0)) i.behind

pub asked-few : {s : List ℕ} {chart : Chart} {n : ℕ} → Asked s chart n → chart.constructs ≤ 64 → n ≤ 64
asked-few {n = n} Q l = elim (ℕ_discrete n 0) [ yes z ↦ omega arith | no d ↦ omega (arith, Q.all d) ]
