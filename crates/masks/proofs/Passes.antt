-- One pass over the bits of a mask, lowest first: the bits that are left wait, and for the others the set is added, or theirs is in the union.
-- Assumes nothing.
use mathlib.Core.Path.{◌≡◌, refl, ◌∙◌}
use mathlib.Core.Logic.{◌⊎◌, inl, inr, ⊎_elim}
use mathlib.Core.Bool.{cond}
use mathlib.Core.List.{List}
use Prim.Native.Nat.{ℕ, ◌-◌, ◌/◌, ◌%◌, ◌^◌, ◌<◌}
use native.Mathlib.Omega.{arith}
use native.Mathlib.Decide.{ℕ_discrete}
use lib.Bits.{bit_and, bit_or}
use lib.ListN.{length, get_or, set, length-set}
use lib.Seq.{get_or-set_other}
use borrow.Author.Tests.{eq-eqb, ne_eqb}
use Rattle.lists.specs.Mask.{Has, Sub, has-none, or_cases, or_left, or_right}
use Rattle.lists.specs.Bits.{has}
use Rattle.lists.specs.Lowest.{Lowest, without-lowest}
use Rattle.lists.specs.Store.{at_set}
use Rattle.masks.specs.Unions.{Added, Joined}

pub record Adding (old : List ℕ) (mask added rest : ℕ) (sets : List ℕ) : Type 0 where
  pub long : length sets ≡ 64
  pub left : Sub rest mask
  pub waits : (b : ℕ) → Has rest b → get_or sets b 0 ≡ get_or old b 0
  pub done : (b : ℕ) → b < 64 → (Has rest b → ⊥) → get_or sets b 0 ≡ cond (has mask b) (bit_or (get_or old b 0) added) (get_or old b 0)

pub adding-none : (old : List ℕ) (mask added : ℕ) → length old ≡ 64 → Adding old mask added mask old
adding-none old mask added l = record {
  long = l;
  left = λ b h. h;
  waits = λ b h. refl;
  done = λ b l n. rw (ne_eqb (mask / 2 ^ b % 2) 1 n);
}

pub adding-more : {old : List ℕ} {mask added rest : ℕ} {sets : List ℕ} (t : ℕ) → Adding old mask added rest sets → Lowest rest t 64
    → Adding old mask added (bit_and rest (rest - 1)) (set sets t (bit_or (get_or sets t 0) added))
adding-more {old} {mask} {added} {rest} {sets} t a l = record {
  long = length-set sets t _ ∙ a.long;
  left = λ b h. a.left b ((without-lowest l b).0 h).0;
  waits = λ b h. let (r, d) = (without-lowest l b).0 h in get_or-set_other sets t b _ 0 d ∙ a.waits b r;
  done = λ b m n. at_set (λ v. v ≡ cond (has mask b) (bit_or (get_or old b 0) added) (get_or old b 0)) sets t _ b (omega (arith, a.long, l.below))
      (λ e. rw (e, a.waits t l.own, eq-eqb (mask / 2 ^ t % 2) 1 (a.left t l.own)))
      (λ d. a.done b m (λ h. n ((without-lowest l b).1 (h, d))));
}

pub adding-all : {old : List ℕ} {mask added : ℕ} {sets : List ℕ} → Adding old mask added 0 sets → Added old mask added sets
adding-all a = record { long = a.long; at = λ b l. a.done b l (has-none b) }

pub record Joining (mask : ℕ) (sets : List ℕ) (rest union : ℕ) : Type 0 where
  pub left : Sub rest mask
  pub only : (i : ℕ) → Has union i → (b : ℕ) × ((b < 64) × (Has mask b × Has (get_or sets b 0) i))
  pub all : (b : ℕ) → Has mask b → Has rest b ⊎ Sub (get_or sets b 0) union

pub joining-none : (mask : ℕ) (sets : List ℕ) → Joining mask sets mask 0
joining-none mask sets = record { left = λ b h. h; only = λ i h. absurd (has-none i h); all = λ b h. inl h }

pub joining-more : {mask : ℕ} {sets : List ℕ} {rest union : ℕ} (t : ℕ) → Joining mask sets rest union → Lowest rest t 64
    → Joining mask sets (bit_and rest (rest - 1)) (bit_or union (get_or sets t 0))
joining-more {mask} {sets} {rest} {union} t j l = record {
  left = λ b h. j.left b ((without-lowest l b).0 h).0;
  only = λ i h. ⊎_elim (j.only i) (λ p. (t, (l.below, (j.left t l.own, p)))) (or_cases union (get_or sets t 0) i h);
  all = λ b h. ⊎_elim (waits b) (λ s. inr (λ i p. or_left union (get_or sets t 0) i (s i p))) (j.all b h);
}
  where
    waits : (b : ℕ) → Has rest b → Has (bit_and rest (rest - 1)) b ⊎ Sub (get_or sets b 0) (bit_or union (get_or sets t 0))
    waits b r = elim (ℕ_discrete b t) [
      | yes e ↦ inr (rw e (or_right union (get_or sets t 0)))
      | no d ↦ inl ((without-lowest l b).1 (r, d))
    ]

pub joining-all : {mask : ℕ} {sets : List ℕ} {union : ℕ} → Joining mask sets 0 union → Joined mask sets union
joining-all j = record { only = j.only; all = λ b h. ⊎_elim (λ z. absurd (has-none b z)) (λ s. s) (j.all b h) }
