-- The nodes of one mask in a run: what the sets become once it is added, whether a node joins it or starts another.
-- Assumes nothing.
use mathlib.Core.Path.{◌≡◌, refl}
use mathlib.Core.Logic.{◌⊎◌, inl, inr}
use mathlib.Core.Bool.{Bool, true, false, cond}
use mathlib.Core.List.{List}
use Prim.Native.Nat.{ℕ, zero, suc, ◌+◌, ◌/◌, ◌%◌, ◌^◌, ◌≤◌, ◌<◌}
use native.Mathlib.Omega.{arith}
use native.Mathlib.Decide.{ℕ_discrete}
use lib.Dec.{eqb}
use lib.Bits.{bit_or, or_comm}
use lib.ListN.{get_or, replicate}
use borrow.Author.Tests.{eqb-true, ne_eqb}
use Rattle.lists.specs.Truth.{and_both, false-if}
use Rattle.lists.specs.Mask.{mask_of, mask-carry, mask-unique, mask-either, has-none}
use Rattle.lists.specs.Bits.{has}
use Rattle.lists.specs.Store.{zeros}
use Rattle.answer_nodes.specs.Gathered.{having, pending, Past}
use Rattle.answer_nodes.specs.Shared.{own-mask}

pub none-pending : (b : ℕ) → pending (replicate 64 0) 0 0 b ≡ 0
none-pending b = rw (ne_eqb (0 / 2 ^ b % 2) 1 (has-none b)) (zeros 64 b)

-- nothing is pending of places past the last node

pub mask-short : (f : ℕ → Bool) (a b : ℕ) → a ≤ b → ((j : ℕ) → a ≤ j → j < b → f j ≡ false) → mask_of f a ≡ mask_of f b
unfolding mask_of
mask-short f a zero l h = let z : a ≡ 0 = omega arith in rw z refl
mask-short f a (suc b) l h = go (ℕ_discrete a (suc b)) (λ m. mask-short f a b m (λ j p q. h j p (omega arith)))
  where
    go : Dec (a ≡ suc b) → (a ≤ b → mask_of f a ≡ mask_of f b) → mask_of f a ≡ cond (f b) (2 ^ b) 0 + mask_of f b
    go (yes q) more = rw q refl
    go (no q) more = rw (h b (omega arith) (omega arith)) (omega (arith, more (omega arith)))

pub none-having : (closed masks : List ℕ) (n first : ℕ) → first + 64 ≤ 192 → Past n masks → (b j : ℕ) → j < 64 → n ≤ first + j → having closed masks first b j ≡ false
none-having closed masks n first m P b j l p =
    rw (P (first + j) p (omega arith)) (false-if (λ h. has-none b (eqb-true _ 1 (and_both (eqb (get_or closed (first + j) 0) 0) _ h).1)))

-- the order of unions

or_swap : (a p t : ℕ) → bit_or a (bit_or p t) ≡ bit_or p (bit_or a t)
or_swap a p t = mask-unique (mask-carry (λ i l. swap) (λ i l. swap) (mask-either (own-mask a (a + p + t) (omega arith)) (mask-either (own-mask p (a + p + t) (omega arith)) (own-mask t (a + p + t) (omega arith)))))
    (mask-either (own-mask p (a + p + t) (omega arith)) (mask-either (own-mask a (a + p + t) (omega arith)) (own-mask t (a + p + t) (omega arith))))
  where
    swap : {A B C : Type 0} → A ⊎ (B ⊎ C) → B ⊎ (A ⊎ C)
    swap (inl x) = inr (inl x)
    swap (inr (inl x)) = inl x
    swap (inr (inr x)) = inr (inr x)

-- the node joins the run
pub joins : (sets : List ℕ) (mask set p b : ℕ) → pending sets mask (bit_or p set) b ≡ cond (has mask b) (bit_or p (pending sets mask set b)) (pending sets mask set b)
joins sets mask set p b = go (has mask b)
  where
    go : (h : Bool) → cond h (bit_or (get_or sets b 0) (bit_or p set)) (get_or sets b 0)
        ≡ cond h (bit_or p (cond h (bit_or (get_or sets b 0) set) (get_or sets b 0))) (cond h (bit_or (get_or sets b 0) set) (get_or sets b 0))
    go true = or_swap (get_or sets b 0) p set
    go false = refl

-- the run was added, and the node starts another
pub starts : (mask p b v w : ℕ) → v ≡ w → cond (has mask b) (bit_or v p) v ≡ cond (has mask b) (bit_or p w) w
starts mask p b v w e = rw (e, or_comm w p)
