-- Masks that come along edges: along one, along more; and the sources' own bits.
-- Assumes nothing.
use mathlib.Core.Path.{◌≡◌, refl, ap, sym, ◌∙◌}
use mathlib.Core.Logic.{◌⊎◌, inl, inr, ⊎_elim}
use mathlib.Core.List.{List}
use Prim.Native.Nat.{ℕ, ◌+◌, ◌^◌, ◌≤◌, ◌<◌}
use native.Mathlib.Omega.{arith}
use native.Mathlib.Decide.{ℕ_discrete}
use lib.Bits.{bit_or, or_lt}
use lib.Pow.{pow_pos, pow-lt}
use lib.ListN.{length, get_or, set, length-set, replicate, length-replicate}
use lib.Seq.{get_or-set_same}
use Rattle.lists.specs.Mask.{Has, or_cases, or_left, or_right, has-none, has-own, has-pow}
use Rattle.lists.specs.Store.{at_set, zeros}
use Rattle.search.specs.Sweep.{Between}
use Rattle.search.specs.Fed.{Via, Fed, Owned}

pub fed-none : {L : ℕ → ℕ → Type 0} {from s : List ℕ} → ((x y : ℕ) → L x y → ⊥) → Fed L from s s
fed-none n = record { long = refl; low = λ k f g. g; keep = λ y b h. h; all = λ x y l. absurd (n x y l); only = λ y b h. inl h }

fed-one : (from t : List ℕ) (x y : ℕ) → y < length t
    → Fed (λ a b. (a ≡ x) × (b ≡ y)) from t (set t y (bit_or (get_or t y 0) (get_or from x 0)))
fed-one from t x y h = record {
  long = length-set t y _;
  low = λ k f g z. at_set (λ m. m < 2 ^ k) t y _ z h (λ _. or_lt k _ _ (g y) (f x)) (λ _. g z);
  keep = λ z b. at_set (λ m. Has (get_or t z 0) b → Has m b) t y _ z h (λ e o. or_left _ _ b (rw e at o)) (λ _ o. o);
  all = λ a z l. let (p, q) = l in rw (p, q, get_or-set_same t y (bit_or (get_or t y 0) (get_or from x 0)) 0 h) (or_right (get_or t y 0) (get_or from x 0));
  only = λ z b. at_set (λ m. Has m b → Has (get_or t z 0) b ⊎ Via (λ a b. (a ≡ x) × (b ≡ y)) from z b) t y _ z h
      (λ e o. ⊎_elim (λ o. inl (rw e o)) (λ o. inr (record { node = x; edge = (refl, e); bit = o })) (or_cases _ _ b o)) (λ _ o. inl o);
}

-- along the edges of L, then along those of M
fed-on : {L M N : ℕ → ℕ → Type 0} {from s t u : List ℕ} → ((x y : ℕ) → L x y → N x y) → ((x y : ℕ) → M x y → N x y)
    → ((x y : ℕ) → N x y → L x y ⊎ M x y) → Fed L from s t → Fed M from t u → Fed N from s u
fed-on {from = from} l m n f g = record {
  long = g.long ∙ f.long;
  low = λ k a b. g.low k a (f.low k a b);
  keep = λ y b h. g.keep y b (f.keep y b h);
  all = λ x y e. ⊎_elim (λ e b h. g.keep y b (f.all x y e b h)) (λ e. g.all x y e) (n x y e);
  only = λ y b h. ⊎_elim
      (λ h. ⊎_elim (λ o. inl o) (λ v. inr (record { node = v.node; edge = l _ _ v.edge; bit = v.bit })) (f.only y b h))
      (λ v. inr (record { node = v.node; edge = m _ _ v.edge; bit = v.bit })) (g.only y b h);
}

pub feed-turn : {keys values from s t : List ℕ} {a j : ℕ} → a ≤ j → get_or values j 0 < length t → Fed (Between keys values a j) from s t
    → Fed (Between keys values a (j + 1)) from s (set t (get_or values j 0) (bit_or (get_or t (get_or values j 0) 0) (get_or from (get_or keys j 0) 0)))
feed-turn {keys} {values} {from} {s} {t} {a} {j} h l f = fed-on older newer either f (fed-one from t (get_or keys j 0) (get_or values j 0) l)
  where
    older : (x y : ℕ) → Between keys values a j x y → Between keys values a (j + 1) x y
    older x y w = record { at = w.at; from = w.from; below = omega (arith, w.below); key = w.key; value = w.value }

    newer : (x y : ℕ) → (x ≡ get_or keys j 0) × (y ≡ get_or values j 0) → Between keys values a (j + 1) x y
    newer x y (p, q) = record { at = j; from = h; below = omega arith; key = sym p; value = sym q }

    either : (x y : ℕ) → Between keys values a (j + 1) x y → Between keys values a j x y ⊎ ((x ≡ get_or keys j 0) × (y ≡ get_or values j 0))
    either x y w = elim (ℕ_discrete w.at j) [
      | yes e ↦ inr (sym (rw e at w.key), sym (rw e at w.value))
      | no n ↦ inl (record { at = w.at; from = w.from; below = omega (arith, w.below); key = w.key; value = w.value })
    ]

pub owned-none : (sources : List ℕ) → Owned sources 0 (replicate 192 0)
owned-none sources = record {
  long = length-replicate {A = ℕ} 192 0;
  low = λ x. rw (zeros 192 x) (pow_pos 0);
  only = λ x b h. absurd (has-none b (rw (zeros 192 x) at h));
  all = λ b l. absurd (omega arith);
}

pub owned-turn : {sources own : List ℕ} {b : ℕ} → get_or sources b 0 < 192 → Owned sources b own
    → Owned sources (b + 1) (set own (get_or sources b 0) (bit_or (get_or own (get_or sources b 0) 0) (2 ^ b)))
owned-turn {sources} {own} {b} h i = record {
  long = simp length-set i.long;
  low = λ y. at_set (λ m. m < 2 ^ (b + 1)) own x _ y inside (λ _. or_lt (b + 1) _ _ (wider x) twice) (λ _. wider y);
  only = λ y c. at_set (λ m. Has m c → get_or sources c 0 ≡ y) own x _ y inside
      (λ e o. ⊎_elim (λ o. i.only x c o ∙ sym e) (λ o. ap (λ (k : ℕ). get_or sources k 0) (has-pow b c o) ∙ sym e) (or_cases _ _ c o))
      (λ _. i.only y c);
  all = λ c l. at_set (λ m. Has m c) own x _ (get_or sources c 0) inside (λ e. hit c l e (ℕ_discrete c b)) (λ n. i.all c (below c l n));
}
  where
    x : ℕ
    x = get_or sources b 0

    inside : x < length own
    inside = omega (arith, i.long)

    twice : 2 ^ b < 2 ^ (b + 1)
    twice = pow-lt (omega arith)

    wider : (y : ℕ) → get_or own y 0 < 2 ^ (b + 1)
    wider y = omega (arith, i.low y, twice)

    hit : (c : ℕ) → c < b + 1 → get_or sources c 0 ≡ x → Dec (c ≡ b) → Has (bit_or (get_or own x 0) (2 ^ b)) c
    hit c l e (yes q) = or_right (get_or own x 0) (2 ^ b) c (rw q (has-own b))
    hit c l e (no n) = or_left (get_or own x 0) (2 ^ b) c (rw e at (i.all c (omega arith)))

    below : (c : ℕ) → c < b + 1 → (get_or sources c 0 ≡ x → ⊥) → c < b
    below c l n = elim (ℕ_discrete c b) [ yes e ↦ absurd (n (ap (λ (k : ℕ). get_or sources k 0) e)) | no d ↦ omega arith ]
