-- The constructs like one another, noted for each of them.
-- Assumes nothing.
use mathlib.Core.Path.{◌≡◌, refl, sym, ◌∙◌}
use mathlib.Core.Logic.{◌⊎◌, inl, inr}
use mathlib.Core.Bool.{true, false, cond}
use mathlib.Core.List.{List}
use Prim.Native.Nat.{ℕ, ◌≤◌, ◌<◌}
use native.Mathlib.Omega.{arith}
use lib.Bits.{bit_or, or_zero_l, or_self}
use lib.Dec.{eqb}
use lib.ListN.{length, get_or, replicate}
use borrow.Author.Tests.{eqb-true}
use Rattle.lists.specs.Truth.{truth, and_both}
use Rattle.lists.specs.Bits.{has_of}
use Rattle.lists.specs.Store.{zeros}
use Rattle.masks.specs.Unions.{Added}
use Rattle.chart.specs.Format.{Construct, construct_at}
use Rattle.answer_constructs.specs.Chains.{is_like, like_mask, Known}

module _ (constructs : List Construct) where
  abbrev at : ℕ → Construct
  at d = construct_at constructs d

  -- those like c have the same constructs like them
  same-like : (c d : ℕ) → is_like constructs (at c).kind (at c).name (at c).filter d ≡ true → like_mask constructs d ≡ like_mask constructs c
  unfolding is_like
  same-like c d h =
      let k = and_both (eqb (at d).kind (at c).kind) _ h in
      let f = and_both (eqb (at d).name (at c).name) _ k.1 in
      rw (eqb-true (at d).kind (at c).kind k.0, eqb-true (at d).name (at c).name f.0, eqb-true (at d).filter (at c).filter f.1) refl

  pub known-none : Known constructs (replicate 64 0)
  known-none = record { long = refl; at = λ c l. inl (zeros 64 c) }

  pub known-there : {known : List ℕ} → Known constructs known → (c : ℕ) → c < length constructs → (get_or known c 0 ≡ 0 → ⊥) → get_or known c 0 ≡ like_mask constructs c
  known-there K c l n = elim (K.at c l) [ inl z ↦ absurd (n z) | inr q ↦ q ]

  pub known-added : {old new : List ℕ} → Known constructs old → length constructs ≤ 48 → (c : ℕ)
      → Added old (like_mask constructs c) (like_mask constructs c) new → Known constructs new
  known-added {old} {new} K few c D = record {
    long = D.long;
    at = λ d l. rw (D.at d (omega arith), has_of (is_like constructs (at c).kind (at c).name (at c).filter) (length constructs) d l)
        (go d (K.at d l) (truth (is_like constructs (at c).kind (at c).name (at c).filter d)));
  }
    where
      go : (d : ℕ) → (get_or old d 0 ≡ 0) ⊎ (get_or old d 0 ≡ like_mask constructs d)
          → (is_like constructs (at c).kind (at c).name (at c).filter d ≡ true) ⊎ (is_like constructs (at c).kind (at c).name (at c).filter d ≡ false)
          → (cond (is_like constructs (at c).kind (at c).name (at c).filter d) (bit_or (get_or old d 0) (like_mask constructs c)) (get_or old d 0) ≡ 0)
          ⊎ (cond (is_like constructs (at c).kind (at c).name (at c).filter d) (bit_or (get_or old d 0) (like_mask constructs c)) (get_or old d 0) ≡ like_mask constructs d)
      go d (inl z) (inl h) = rw h (inr (rw z (or_zero_l (like_mask constructs c) ∙ sym (same-like c d h))))
      go d (inr q) (inl h) = rw h (inr (rw (q, same-like c d h) (or_self (like_mask constructs c))))
      go d v (inr h) = rw h v
