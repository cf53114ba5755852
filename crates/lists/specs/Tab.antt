-- The list of f 0, f 1, .. up to a length.
-- Assumes nothing.
use Rattle.std.specs.Prelude.{◌≡◌, refl, Bool, true, false, List, [], ◌∷◌, ◌++◌, ℕ, zero, suc, ◌+◌, ◌-◌, ◌≤◌, ◌<◌, length, get_or, drop}
use Rattle.std.proofs.Common.{ap, sym, ◌∙◌, arith, length-append, length-drop, ext_get_or, get_or-append-add, get_or-drop}
use Rattle.std.proofs.Math.Decide.{dec_lt}
use Rattle.std.proofs.Math.ListN.{get_or-append}
use Rattle.lists.specs.Truth.{bad}

unfoldable pub tab : {A : Type 0} → ℕ → (ℕ → A) → List A
tab zero f = []
tab (suc n) f = f 0 ∷ tab n (λ k. f (suc k))

pub tab-at : {A : Type 0} (n : ℕ) (f : ℕ → A) (d : A) (k : ℕ) → k < n → get_or (tab n f) k d ≡ f k
unfolding tab
tab-at zero f d k l = absurd (omega arith)
tab-at (suc n) f d zero l = refl
tab-at (suc n) f d (suc k) l = tab-at n (λ k. f (suc k)) d k (omega arith)

pub tab-length : {A : Type 0} (n : ℕ) (f : ℕ → A) → length (tab n f) ≡ n
unfolding tab
tab-length zero f = refl
tab-length (suc n) f = ap suc (tab-length n (λ k. f (suc k)))

-- a test that passes in the list, with false past its end, is one of the list's
pub tab-true : (n : ℕ) (f : ℕ → Bool) (k : ℕ) → get_or (tab n f) k false ≡ true → (k < n) × (f k ≡ true)
unfolding tab
tab-true zero f k h = absurd (bad (cc))
tab-true (suc n) f zero h = (omega arith, h)
tab-true (suc n) f (suc k) h = let r = tab-true n (λ k. f (suc k)) k h in (omega (arith, r.0), r.1)

-- a list that was filled from its front, and kept past that
pub filled-front : (n : ℕ) (f : ℕ → ℕ) (old new : List ℕ) → n ≤ length old → length new ≡ length old
    → ((j : ℕ) → j < n → get_or new j 0 ≡ f j) → ((j : ℕ) → n ≤ j → get_or new j 0 ≡ get_or old j 0) → new ≡ tab n f ++ drop n old
filled-front n f old new h e done kept = ext_get_or 0 new (tab n f ++ drop n old) long (λ i l. go i (dec_lt i n))
  where
    long : length new ≡ length (tab n f ++ drop n old)
    long = omega (arith, length-append (tab n f) (drop n old), tab-length n f, length-drop n old)

    go : (i : ℕ) → Dec (i < n) → get_or new i 0 ≡ get_or (tab n f ++ drop n old) i 0
    go i (yes l) = done i l ∙ sym (get_or-append (tab n f) (drop n old) 0 i (omega (arith, tab-length n f)) ∙ tab-at n f 0 i l)
    go i (no l) =
        let q : i ≡ length (tab n f) + (i - n) = omega (arith, tab-length n f) in
        let r : n + (i - n) ≡ i = omega arith in
        kept i (omega arith) ∙ sym (ap (λ (k : ℕ). get_or (tab n f ++ drop n old) k 0) q ∙ get_or-append-add (tab n f) (drop n old) (i - n) 0
        ∙ get_or-drop n old (i - n) 0 ∙ ap (λ (k : ℕ). get_or old k 0) r)
