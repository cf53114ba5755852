-- One pass over the bits of a mask, lowest first: the bits that are left wait, and of the others those that pass a test are picked.
-- Assumes nothing.
use mathlib.Core.Path.{◌≡◌, refl, sym, ap, ◌∙◌}
use mathlib.Core.Logic.{◌≢◌}
use mathlib.Core.Bool.{Bool, true, false, ◌&&◌, ◌||◌, not, cond}
use Prim.Native.Nat.{ℕ, ◌-◌, ◌^◌}
use native.Mathlib.Decide.{ℕ_discrete}
use lib.Bits.{bit_and, bit_or}
use borrow.Author.Tests.{eqb-true, eq-eqb}
use Rattle.lists.specs.Truth.{false-if, same_truth, and-true}
use Rattle.lists.specs.Mask.{Sub, has-none, has-own, has-pow}
use Rattle.lists.specs.Bits.{has}
use Rattle.lists.specs.Lowest.{Lowest, without-lowest}
use Rattle.answer_nodes.proofs.BitTests.{has-or}

pub record Picking (mask : ℕ) (test : ℕ → Bool) (rest picked : ℕ) : Type 0 where
  pub left : Sub rest mask
  pub at : (c : ℕ) → has picked c ≡ ((has mask c && not (has rest c)) && test c)

none : (c : ℕ) → has 0 c ≡ false
none c = false-if (λ h. has-none c (eqb-true _ 1 h))

pub picking-none : (mask : ℕ) (test : ℕ → Bool) → Picking mask test mask 0
picking-none mask test = record { left = λ c h. h; at = λ c. none c ∙ sym (go (has mask c) (test c)) }
  where
    go : (b t : Bool) → ((b && not b) && t) ≡ false
    go true t = refl
    go false t = refl

pub picking-more : {mask : ℕ} {test : ℕ → Bool} {rest picked : ℕ} (t : ℕ) → Picking mask test rest picked → Lowest rest t 64
    → Picking mask test (bit_and rest (rest - 1)) (cond (test t) (bit_or (2 ^ t) picked) picked)
picking-more {mask} {test} {rest} {picked} t P l = record { left = λ c h. P.left c ((without-lowest l c).0 h).0; at = λ c. go c (ℕ_discrete c t) }
  where
    waits : has rest t ≡ true
    waits = eq-eqb _ 1 l.own

    gone : has (bit_and rest (rest - 1)) t ≡ false
    gone = false-if (λ h. ((without-lowest l t).0 (eqb-true _ 1 h)).1 refl)

    own : (b : Bool) → test t ≡ b → has (cond b (bit_or (2 ^ t) picked) picked) t ≡ b
    own true q = has-or (2 ^ t) picked t ∙ ap (λ (a : Bool). a || has picked t) (eq-eqb _ 1 (has-own t))
    own false q = P.at t ∙ rw (q, eq-eqb _ 1 (P.left t l.own), waits)

    same : (c : ℕ) → c ≢ t → has (bit_and rest (rest - 1)) c ≡ has rest c
    same c d = same_truth _ _ (λ h. eq-eqb _ 1 ((without-lowest l c).0 (eqb-true _ 1 h)).0) (λ h. eq-eqb _ 1 ((without-lowest l c).1 (eqb-true _ 1 h, d)))

    other : (c : ℕ) → c ≢ t → (b : Bool) → has (cond b (bit_or (2 ^ t) picked) picked) c ≡ has picked c
    other c d true = has-or (2 ^ t) picked c ∙ ap (λ (a : Bool). a || has picked c) (false-if (λ h. d (has-pow t c (eqb-true _ 1 h))))
    other c d false = refl

    go : (c : ℕ) → Dec (c ≡ t) → has (cond (test t) (bit_or (2 ^ t) picked) picked) c ≡ ((has mask c && not (has (bit_and rest (rest - 1)) c)) && test c)
    go c (yes q) = rw (q, gone, eq-eqb _ 1 (P.left t l.own)) (own (test t) refl)
    go c (no d) = other c d (test t) ∙ P.at c ∙ rw (same c d)

pub picking-all : {mask : ℕ} {test : ℕ → Bool} {picked : ℕ} → Picking mask test 0 picked → (c : ℕ) → has picked c ≡ (has mask c && test c)
picking-all {mask} {test} P c = P.at c ∙ rw (none c) (ap (λ (b : Bool). b && test c) (and-true (has mask c)))
