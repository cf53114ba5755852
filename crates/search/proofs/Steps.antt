-- What the functions of the split do, one by one: the stops of an edge, a store in each of two rows, the place of an edge between the parts.
-- Assumes nothing.
use mathlib.Core.Path.{◌≡◌, refl, sym, ◌∙◌}
use mathlib.Core.List.{List, []}
use Prim.Native.Nat.{ℕ, ◌<◌}
use native.Mathlib.Omega.{arith}
use lib.ListN.{length, set, length-set}
use lib.Bits.{bit_or, or_comm, or_zero_l}
use lib.Seq.{get_or-set_same, get_or-set_other}
use Rattle.lists.specs.Mask.{or-more}
use Rattle.search.specs.Parts.{row, Beside}

pub or-none : (a b : ℕ) → bit_or a b ≡ 0 → (a ≡ 0) × (b ≡ 0)
or-none a b e = (omega (arith, or-more a b), omega (arith, or-more b a, or_comm a b))

pub none_or : (a b : ℕ) → a ≡ 0 → b ≡ 0 → bit_or a b ≡ 0
none_or a b e f = rw (e, f) (or_zero_l 0)

-- a store in each of two rows
pub wrote : (l : List (List ℕ)) (a b at x y : ℕ) → a < length l → b < length l → (b ≡ a → ⊥)
    → (let m = set l a (set (row l a) at x) in
    let n = set m b (set (row m b) at y) in
    (row n a ≡ set (row l a) at x) × (row n b ≡ set (row l b) at y) × Beside a b l n)
wrote l a b at x y p q d =
    let m = set l a (set (row l a) at x) in
    let other : row m b ≡ row l b = get_or-set_other l a b (set (row l a) at x) [] d in (
      get_or-set_other m b a (set (row m b) at y) [] (λ e. d (sym e)) ∙ get_or-set_same l a (set (row l a) at x) [] p,
      get_or-set_same m b (set (row m b) at y) [] (omega (arith, length-set l a (set (row l a) at x))) ∙ rw other refl,
      record {
        long = length-set m b _ ∙ length-set l a _;
        same = λ r u v. get_or-set_other m b r (set (row m b) at y) [] v ∙ get_or-set_other l a r (set (row l a) at x) [] u;
      },
    )
