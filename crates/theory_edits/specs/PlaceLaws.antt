-- The place of an edge, and whether it is one of a list, in lists that are put together; and an edge of rising edges stands at its place.
-- Assumes nothing.
use Rattle.std.specs.Prelude.{◌≡◌, Bool, true, false, ◌&&◌, ◌||◌, List, [], ◌∷◌, ◌++◌, ℕ, zero, suc, ◌+◌, ◌-◌, ◌≤◌, ◌<◌, eqb}
use Rattle.std.proofs.Math.Path.{refl, ap}
use Rattle.std.proofs.Common.{sym, ◌∙◌, subst, inl, inr, length-append}
use native.Mathlib.Omega.{arith}
use Rattle.std.proofs.Math.Decide.{dec_lt}
use Rattle.std.proofs.Math.ListN.{length, get_or-append}
use Rattle.std.proofs.Math.Seq.{get_or-append-add}
use borrow.Author.Tests.{eq-eqb, eqb-true, le-ltb}
use Rattle.lists.specs.Truth.{false-if, and_both, or-false}
use Rattle.lists.specs.Range.{any, count, any_at, any_same}
use Rattle.lists.specs.Counting.{count-all, count-rest}
use Rattle.lists.specs.Recount.{count_same}
use Rattle.chart.specs.Format.{Edge, edge_at, no_edge}
use Rattle.chart.specs.Reading.{edge_in}
use Rattle.chart.specs.Refusal.{rises}
use Rattle.chart.proofs.Facts.{Rises, rise-fits, fit-rise}
use Rattle.theory_edits.specs.Splice.{place}

count-split : (a b : ℕ) (f : ℕ → Bool) → count (a + b) f ≡ count a f + count b (λ k. f (a + k))
unfolding count
count-split a zero f = let q : a + 0 ≡ a = omega arith in rw q (omega arith)
count-split a (suc b) f = let q : a + suc b ≡ suc (a + b) = omega arith in rw q (omega (arith, count-split a b f))

or_assoc : (a b c : Bool) → ((a || b) || c) ≡ (a || (b || c))
or_assoc true b c = refl
or_assoc false b c = refl

any-split : (a b : ℕ) (f : ℕ → Bool) → any (a + b) f ≡ (any a f || any b (λ k. f (a + k)))
unfolding any
any-split a zero f = let q : a + 0 ≡ a = omega arith in rw q (sym (or-false (any a f)))
any-split a (suc b) f = let q : a + suc b ≡ suc (a + b) = omega arith in rw (q, any-split a b f) (or_assoc (any a f) (any b (λ k. f (a + k))) (f (a + b)))

-- edge i is below (x, y); edge i is (x, y)
abbrev is_below : List Edge → ℕ → ℕ → ℕ → Bool
is_below l x y i = rises (edge_at l i).from (edge_at l i).to x y

abbrev is_there : List Edge → ℕ → ℕ → ℕ → Bool
is_there l x y i = eqb (edge_at l i).from x && eqb (edge_at l i).to y

module _ (A B : List Edge) (x y : ℕ) where
  at_front : (k : ℕ) → k < length A → edge_at (A ++ B) k ≡ edge_at A k
  unfolding edge_at
  at_front k l = get_or-append A B no_edge k l

  at_back : (k : ℕ) → edge_at (A ++ B) (length A + k) ≡ edge_at B k
  unfolding edge_at
  at_back k = get_or-append-add A B k no_edge

  pub place-append : place (A ++ B) x y ≡ place A x y + place B x y
  unfolding place
  place-append =
      ap (λ (n : ℕ). count n (is_below (A ++ B) x y)) (length-append A B) ∙ count-split (length A) (length B) (is_below (A ++ B) x y)
      ∙ rw (
        count_same (length A) (is_below (A ++ B) x y) (is_below A x y) (λ k l. rw (at_front k l)),
        count_same (length B) (λ k. is_below (A ++ B) x y (length A + k)) (is_below B x y) (λ k l. rw (at_back k)),
      )

  pub in-append : edge_in (A ++ B) x y ≡ (edge_in A x y || edge_in B x y)
  unfolding edge_in
  in-append =
      ap (λ (n : ℕ). any n (is_there (A ++ B) x y)) (length-append A B) ∙ any-split (length A) (length B) (is_there (A ++ B) x y)
      ∙ rw (
        any_same (length A) (is_there (A ++ B) x y) (is_there A x y) (λ k l. rw (at_front k l)),
        any_same (length B) (λ k. is_there (A ++ B) x y (length A + k)) (is_there B x y) (λ k l. rw (at_back k)),
      )

-- An edge is not below itself, and is the one edge of its own list.
module _ (x y : ℕ) where
  abbrev pub one : List Edge
  one = record { from = x; to = y } ∷ []

  pub place-one : place one x y ≡ 0
  unfolding place edge_at count rises
  place-one = rw (le-ltb x x (omega arith), le-ltb y y (omega arith), eq-eqb x x refl)

  pub in_one : (u v : ℕ) → edge_in one u v ≡ (eqb x u && eqb y v)
  unfolding edge_in edge_at any
  in_one u v = refl

-- Each edge is above the one before it.
abbrev pub Rising : List Edge → Type 0
Rising edges = (i : ℕ) → suc i < length edges → Rises (edge_at edges i) (edge_at edges (suc i))

rises-on : (a b c : Edge) → Rises a b → Rises b c → Rises a c
rises-on a b c (inl p) (inl q) = inl (omega arith)
rises-on a b c (inl p) (inr (e, q)) = inl (omega arith)
rises-on a b c (inr (e, p)) (inl q) = inl (omega arith)
rises-on a b c (inr (e, p)) (inr (f, q)) = inr (omega arith, omega arith)

not-both : (a b : Edge) → Rises a b → Rises b a → ⊥
not-both a b (inl p) (inl q) = omega arith
not-both a b (inl p) (inr (e, q)) = omega arith
not-both a b (inr (e, p)) (inl q) = omega arith
not-both a b (inr (e, p)) (inr (f, q)) = omega arith

same-edge : {a b c d : ℕ} → a ≡ c → b ≡ d → ◌≡◌ {A = Edge} (record { from = a; to = b }) (record { from = c; to = d })
same-edge p q = λ i. record { from = p i; to = q i }

module _ (edges : List Edge) (rising : Rising edges) where
  later : (i d : ℕ) → suc (i + d) < length edges → Rises (edge_at edges i) (edge_at edges (suc (i + d)))
  later i zero l = let q : i + 0 ≡ i = omega arith in rw q (rising i (omega arith))
  later i (suc d) l =
      let q : i + suc d ≡ suc (i + d) = omega arith in
      rw q (rises-on _ _ _ (later i d (omega arith)) (rising (suc (i + d)) (omega arith)))

  apart : (i j : ℕ) → i < j → j < length edges → Rises (edge_at edges i) (edge_at edges j)
  apart i j l h = let q : suc (i + (j - suc i)) ≡ j = omega arith in rw q at (later i (j - suc i) (omega arith))

  -- An edge that is there stands at its place: as many are below it as stand before it.
  module _ (x y i : ℕ) (l : i < length edges) (from_is : (edge_at edges i).from ≡ x) (to_is : (edge_at edges i).to ≡ y) where
    before : (k : ℕ) → k < i → is_below edges x y k ≡ true
    before k m = rw (from_is, to_is) at (fit-rise (edge_at edges k) (edge_at edges i) (apart k i m l))

    behind : (k : ℕ) → i ≤ k → k < length edges → is_below edges x y k ≡ false
    behind k m b = false-if (λ t. over (dec_lt i k) (rise-fits (edge_at edges k) (edge_at edges i) (rw (← from_is, ← to_is) at t)))
      where
        over : Dec (i < k) → Rises (edge_at edges k) (edge_at edges i) → ⊥
        over (yes n) r = not-both _ _ r (apart i k n b)
        over (no n) r = let q : k ≡ i = omega arith in let own = subst (λ (j : ℕ). Rises (edge_at edges j) (edge_at edges i)) q r in not-both _ _ own own

    placed : place edges x y ≡ i
    unfolding place
    placed =
        let q : i + (length edges - i) ≡ length edges = omega arith in
        ap (λ (n : ℕ). count n (is_below edges x y)) (sym q) ∙ count-rest (is_below edges x y) i (length edges - i) (λ k m b. behind k m (omega arith))
        ∙ count-all i (is_below edges x y) before

  pub at_place : (x y : ℕ) → edge_in edges x y ≡ true → (place edges x y < length edges) × (edge_at edges (place edges x y) ≡ record { from = x; to = y })
  unfolding edge_in
  at_place x y h =
      let (i, l, f) = any_at (length edges) (is_there edges x y) h in
      let (p, q) = and_both (eqb (edge_at edges i).from x) (eqb (edge_at edges i).to y) f in
      let e = placed x y i l (eqb-true _ _ p) (eqb-true _ _ q) in
      (omega (arith, e, l), ap (edge_at edges) e ∙ same-edge (eqb-true _ _ p) (eqb-true _ _ q))
