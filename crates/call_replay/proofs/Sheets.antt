-- Rows of the sheet of the pairs met, as pairs are marked.
-- Assumes nothing.
use mathlib.Core.Path.{◌≡◌, refl, sym, ◌∙◌, ap, subst}
use mathlib.Core.Logic.{◌⊎◌, inl, inr}
use mathlib.Core.Bool.{Bool, true, false, ◌&&◌, ◌||◌, cond}
use mathlib.Core.List.{List}
use Prim.Native.Nat.{ℕ, suc, ◌+◌, ◌*◌, ◌≤◌, ◌<◌}
use native.Mathlib.Omega.{arith}
use native.Mathlib.Decide.{dec_lt}
use native.Mathlib.Nat.{mul-le-mul_right, suc-mul}
use lib.Dec.{eqb}
use lib.ListN.{length, set, length-set}
use lib.Seq.{get_or-set_other}
use borrow.Author.Tests.{eq-eqb, ne_eqb, eqb-true}
use Rattle.lists.specs.Truth.{and_both, both-and, and-false, or_right, or-false, false-if}
use Rattle.lists.specs.Range.{any, any_next}
use Rattle.lists.specs.Store.{at_set}
use Rattle.theory_team.specs.State.{State}
use Rattle.call_replay.specs.PairsMet.{meet, Sheet, Kept}
use Rattle.call_replay.specs.declared.pairs_met.Rows.{Rows}

pub sheet-same : {n : ℕ} {rows : Rows} {f g : ℕ → ℕ → Bool} {out : List ℕ} → ((a b : ℕ) → f a b ≡ g a b) → Sheet n rows f out → Sheet n rows g out
sheet-same {rows = rows} e S = record { at = λ i b l k. S.at i b l k ∙ ap (λ (t : Bool). cond t 1 0) (e (rows.first + i) b) }

-- what one pair more leaves as it was
or-none : (t u : Bool) → u ≡ false → t ≡ (t || u)
or-none t u h = rw h (sym (or-false t))

pub kept_same : (size : ℕ) (out : List ℕ) → Kept size out out
kept_same size out = record { long = refl; past = λ j l. refl }

pub kept_then : {size : ℕ} {a b c : List ℕ} → Kept size a b → Kept size b c → Kept size a c
kept_then k l = record { long = l.long ∙ k.long; past = λ j h. l.past j h ∙ k.past j h }

-- a row after i others has room
pub row_fits : (i n count : ℕ) → i < count → i * n + n ≤ count * n
row_fits i n count l = omega (arith, mul-le-mul_right {m = suc i} {n = count} n l, suc-mul i n)

module _ {n : ℕ} {rows : Rows} {met : ℕ → ℕ → Bool} {out : List ℕ} (a b : ℕ) (S : Sheet n rows met out) where
  -- a number that is no node
  pub sheet-past : n ≤ b → Sheet n rows (λ x y. met x y || (eqb a x && eqb b y)) out
  sheet-past h = record {
    at = λ i y l k. S.at i y l k ∙ ap (λ (t : Bool). cond t 1 0) (or-none (met (rows.first + i) y) _ (rw (ne_eqb b y (λ e. omega arith)) (and-false (eqb a (rows.first + i)))));
  }

  -- a node whose row is not kept
  pub sheet-off : (a < rows.first) ⊎ (rows.first + rows.count ≤ a) → Sheet n rows (λ x y. met x y || (eqb a x && eqb b y)) out
  sheet-off h =
      record { at = λ i y l k. S.at i y l k ∙ ap (λ (t : Bool). cond t 1 0) (or-none (met (rows.first + i) y) _ (rw (ne_eqb a (rows.first + i) (λ e. off i l e h)))) }
    where
      off : (i : ℕ) → i < rows.count → a ≡ rows.first + i → (a < rows.first) ⊎ (rows.first + rows.count ≤ a) → ⊥
      off i l e (inl p) = omega arith
      off i l e (inr p) = omega arith

-- an entry of row i
module _ (n : ℕ) (rows : Rows) (out : List ℕ) (i b : ℕ) (kept : i < rows.count) (node : b < n) (room : rows.count * n ≤ length out) where
  pub entry-fits : i * n + b < length out
  entry-fits = omega (arith, row_fits i n rows.count kept)

  pub kept_set : Kept (rows.count * n) out (set out (i * n + b) 1)
  kept_set = record {
    long = length-set out (i * n + b) 1;
    past = λ j l. get_or-set_other out (i * n + b) j 1 0 (λ e. omega (arith, row_fits i n rows.count kept));
  }

  module _ (met : ℕ → ℕ → Bool) (a : ℕ) (q : rows.first + i ≡ a) where
    -- where it stands
    apart : (k y : ℕ) → y < n → k * n + y ≡ i * n + b → (a ≡ rows.first + k) × (b ≡ y)
    apart k y l e = go (dec_lt k i) (dec_lt i k)
      where
        go : Dec (k < i) → Dec (i < k) → (a ≡ rows.first + k) × (b ≡ y)
        go (yes h) d = absurd (omega (arith, row_fits k n i h))
        go (no h) (yes d) = absurd (omega (arith, row_fits i n k d))
        go (no h) (no d) = let z : k ≡ i = omega arith in let w : k * n ≡ i * n = ap (λ (j : ℕ). j * n) z in (omega arith, omega arith)

    pub sheet-set : Sheet n rows met out → Sheet n rows (λ x y. met x y || (eqb a x && eqb b y)) (set out (i * n + b) 1)
    sheet-set S = record {
      at = λ k y l m. at_set (λ v. v ≡ cond (met (rows.first + k) y || (eqb a (rows.first + k) && eqb b y)) 1 0) out (i * n + b) 1 (k * n + y) entry-fits
          (λ e. let (u, w) = apart k y m e in rw (or_right (met (rows.first + k) y) _ (both-and _ _ (eq-eqb a (rows.first + k) u) (eq-eqb b y w))))
          (λ d. S.at k y l m ∙ ap (λ (t : Bool). cond t 1 0) (or-none (met (rows.first + k) y) _ (other k y d)));
    }
      where
        other : (k y : ℕ) → (k * n + y ≡ i * n + b → ⊥) → (eqb a (rows.first + k) && eqb b y) ≡ false
        other k y d = false-if (λ h. let (u, w) = and_both _ _ h in d (same (eqb-true _ _ u) (eqb-true _ _ w)))
          where
            same : a ≡ rows.first + k → b ≡ y → k * n + y ≡ i * n + b
            same u w = let z : k ≡ i = omega arith in rw (z, sym w) refl

or_assoc : (a b c : Bool) → ((a || b) || c) ≡ (a || (b || c))
or_assoc true b c = refl
or_assoc false b c = refl

-- two threads at a pair of nodes
module _ {n : ℕ} {rows : Rows} {out : List ℕ} (met : ℕ → ℕ → Bool) (σ : State) (t k : ℕ) where
  pub sheet-pair : {x y : ℕ} → (t ≡ k → ⊥) → x ≡ σ.node t → y ≡ σ.node k → Sheet n rows (λ a b. (met a b || (eqb x a && eqb y b)) || (eqb y a && eqb x b)) out
      → Sheet n rows (λ a b. met a b || meet σ t k a b) out
  sheet-pair {x} {y} d p q = sheet-same (λ a b. or_assoc (met a b) (eqb x a && eqb y b) (eqb y a && eqb x b) ∙ (rw (p, q, ne_eqb t k d)))

pub met-none : (t : Bool) (f : ℕ → Bool) → t ≡ (t || any 0 f)
unfolding any
met-none t f = sym (or-false t)

pub met-more : (t : Bool) (n : ℕ) (f : ℕ → Bool) → ((t || any n f) || f n) ≡ (t || any (n + 1) f)
met-more t n f = or_assoc t (any n f) (f n) ∙ ap (λ (b : Bool). t || b) (sym (any_next n f))

-- the same with the number of nodes known by another name
pub sheet-size : {n k : ℕ} {rows : Rows} {met : ℕ → ℕ → Bool} {out : List ℕ} → n ≡ k → Sheet n rows met out → Sheet k rows met out
sheet-size {rows = rows} {met = met} {out = out} q S = subst (λ (k : ℕ). Sheet k rows met out) q S

pub kept-size : {n k : ℕ} (count : ℕ) {old new : List ℕ} → n ≡ k → Kept (count * n) old new → Kept (count * k) old new
kept-size count {old = old} {new = new} q K = subst (λ (k : ℕ). Kept (count * k) old new) q K
