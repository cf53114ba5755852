-- The edges of each node, linked from the last one back: none, and one more.
-- Assumes nothing.
use mathlib.Core.Path.{◌≡◌, sym, ap, ◌∙◌}
use mathlib.Core.Logic.{◌⊎◌, inl, inr, ⊎_elim}
use mathlib.Core.List.{List}
use Prim.Native.Nat.{ℕ, ◌+◌, ◌-◌, ◌≤◌, ◌<◌}
use native.Mathlib.Omega.{arith}
use native.Mathlib.Decide.{ℕ_discrete, dec_lt}
use lib.ListN.{length, get_or, set, length-set, replicate, length-replicate}
use Rattle.lists.specs.Store.{at_set, zeros}
use Rattle.search.specs.Waiting.{Upto, Linked}

-- whichever way the places are told
pub linked-same : {keys : List ℕ} {P Q : ℕ → Type 0} {last before : List ℕ} → ((j : ℕ) → P j → Q j) → ((j : ℕ) → Q j → P j) → Linked keys P last before
    → Linked keys Q last before
linked-same f g i = record {
  long-last = i.long-last;
  long-before = i.long-before;
  most = i.most;
  back = i.back;
  last-own = λ x h. let (p, e) = i.last-own x h in (f _ p, e);
  last-all = λ j q. i.last-all j (g j q);
  before-own = λ j q h. let (p, e) = i.before-own j (g j q) h in (f _ p, e);
  before-all = λ k j p q. i.before-all k j (g k p) (g j q);
}

pub linked-none : (keys : List ℕ) → Linked keys (Upto 0 0 0) (replicate 192 0) (replicate 1024 0)
linked-none keys = record {
  long-last = length-replicate {A = ℕ} 192 0;
  long-before = length-replicate {A = ℕ} 1024 0;
  most = λ x. omega (arith, zeros 192 x);
  back = λ j. omega (arith, zeros 1024 j);
  last-own = λ x h. absurd (let z = zeros 192 x in omega arith);
  last-all = λ j p. absurd (nowhere j p);
  before-own = λ j p. absurd (nowhere j p);
  before-all = λ k j p. absurd (nowhere k p);
}
  where
    nowhere : (j : ℕ) → Upto 0 0 0 j → ⊥
    nowhere j p = ⊎_elim (λ l. omega arith) (λ l. omega (arith, l.1)) p

-- one edge more, behind all others
module _ {keys : List ℕ} {P Q : ℕ → Type 0} {last before : List ℕ} (i : Linked keys P last before) (j : ℕ) (node : get_or keys j 0 < 192) (room : j < 1024)
    (behind : (k : ℕ) → P k → k < j) (old : (k : ℕ) → P k → Q k) (own : Q j) (cases : (k : ℕ) → Q k → P k ⊎ (k ≡ j)) where
  abbrev x : ℕ
  x = get_or keys j 0

  xs : x < length last
  xs = omega (arith, i.long-last)

  js : j < length before
  js = omega (arith, i.long-before)

  upto : (k : ℕ) → Q k → k ≤ j
  upto k q = ⊎_elim (λ p. omega (arith, behind k p)) (λ e. omega arith) (cases k q)

  earlier : (k : ℕ) → Q k → (k ≡ j → ⊥) → P k
  earlier k q n = ⊎_elim (λ p. p) (λ e. absurd (n e)) (cases k q)

  last-le : get_or last x 0 ≤ j
  last-le = elim (dec_lt 0 (get_or last x 0)) [ yes h ↦ omega (arith, behind _ (i.last-own x h).0) | no h ↦ omega arith ]

  less : j + 1 - 1 ≡ j
  less = omega arith

  pub linked-more : Linked keys Q (set last x (j + 1)) (set before j (get_or last x 0))
  linked-more = record {
    long-last = simp length-set i.long-last;
    long-before = simp length-set i.long-before;
    most = λ z. at_set (λ v. v ≤ 1024) last x (j + 1) z xs (λ _. omega arith) (λ _. i.most z);
    back = λ k. at_set (λ v. v ≤ k) before j (get_or last x 0) k js (λ e. omega (arith, last-le)) (λ _. i.back k);
    last-own = λ z. at_set (λ v. 0 < v → Q (v - 1) × (get_or keys (v - 1) 0 ≡ z)) last x (j + 1) z xs
        (λ e _. (rw less own, rw less (sym e)))
        (λ _ h. let (p, e) = i.last-own z h in (old _ p, e));
    last-all = λ k q. at_set (λ v. k < v) last x (j + 1) (get_or keys k 0) xs (λ _. omega (arith, upto k q))
        (λ n. i.last-all k (earlier k q (λ e. n (ap (λ (k : ℕ). get_or keys k 0) e))));
    before-own = λ k q. at_set (λ v. 0 < v → Q (v - 1) × (get_or keys (v - 1) 0 ≡ get_or keys k 0)) before j (get_or last x 0) k js
        (λ e h. let (p, f) = i.last-own x h in (old _ p, f ∙ ap (λ (k : ℕ). get_or keys k 0) (sym e)))
        (λ n h. let (p, f) = i.before-own k (earlier k q n) h in (old _ p, f));
    before-all = λ a b p q l e. at_set (λ v. a < v) before j (get_or last x 0) b js
        (λ f. rw (e ∙ ap (λ (k : ℕ). get_or keys k 0) f) at (i.last-all a (earlier a p (λ g. omega arith))))
        (λ n. i.before-all a b (earlier a p (λ g. omega (arith, upto b q))) (earlier b q n) l e);
  }

-- one turn more of the places from a on
pub linked-turn : {keys : List ℕ} (u a j : ℕ) {last before : List ℕ} → u ≤ a → a ≤ j → j < 1024 → get_or keys j 0 < 192 → Linked keys (Upto u a j) last before
    → Linked keys (Upto u a (j + 1)) (set last (get_or keys j 0) (j + 1)) (set before j (get_or last (get_or keys j 0) 0))
linked-turn u a j below from room node i =
    linked-more i j node room
    (λ k. ⊎_elim (λ m. omega arith) (λ m. m.1))
    (λ k. ⊎_elim inl (λ m. inr (m.0, omega (arith, m.1))))
    (inr (from, omega arith))
    (λ k. ⊎_elim (λ m. inl (inl m)) (λ m. elim (ℕ_discrete k j) [ yes e ↦ inr e | no n ↦ inl (inr (m.0, omega (arith, m.1))) ]))

-- the places of both parts
pub linked-both : {keys : List ℕ} {ups low : ℕ} {last before : List ℕ} → Linked keys (Upto 0 0 ups) last before → Linked keys (Upto ups low low) last before
linked-both = linked-same (λ j. ⊎_elim (λ m. absurd (omega arith)) (λ m. inl m.1))
    (λ j. ⊎_elim (λ m. inr (omega arith, m)) (λ m. absurd (omega (arith, m.0, m.1))))
