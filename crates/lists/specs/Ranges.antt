-- Tests over all numbers below a bound, and over the list of these numbers, which the iterators of a range go through.
-- Assumes nothing.
use Rattle.std.specs.Prelude.{◌≡◌, refl, Bool, false, true, ◌&&◌, ◌||◌, List, [], ◌∷◌, ◌++◌, ℕ, zero, suc, ◌+◌}
use Rattle.std.specs.List.{range_with_len, list_any, list_all}
use Rattle.std.proofs.Common.{ap, ◌∙◌, arith}
use Rattle.std.proofs.Math.Bool.{or-false, and-true}
use Rattle.std.proofs.lemmas.List.Folds.{list_any-append, list_all-append}
use Rattle.lists.specs.Range.{every, any}

range_last : (a n : ℕ) → range_with_len a (suc n) ≡ range_with_len a n ++ ((a + n) ∷ [])
range_last a zero = ap (λ (x : ℕ). x ∷ []) (omega arith)
range_last a (suc n) =
    ap (λ (l : List ℕ). a ∷ l) (range_last (a + 1) n) ∙ ap (λ (x : ℕ). a ∷ (range_with_len (a + 1) n ++ (x ∷ []))) (omega arith)

-- some number passes the test, as `any` of the range finds
pub any_in_range : (n : ℕ) (f : ℕ → Bool) → list_any f (range_with_len 0 n) ≡ any n f
unfolding any
any_in_range zero f = refl
any_in_range (suc n) f =
    ap (list_any f) (range_last 0 n) ∙ list_any-append f (range_with_len 0 n) _
    ∙ ap (λ (b : Bool). b || (f (0 + n) || false)) (any_in_range n f) ∙ ap (λ (b : Bool). any n f || b) (or-false (f (0 + n)) ∙ ap f (omega arith))

-- each one does, as `all` of the range finds
pub every_in_range : (n : ℕ) (f : ℕ → Bool) → list_all f (range_with_len 0 n) ≡ every n f
unfolding every
every_in_range zero f = refl
every_in_range (suc n) f =
    ap (list_all f) (range_last 0 n) ∙ list_all-append f (range_with_len 0 n) _
    ∙ ap (λ (b : Bool). b && (f (0 + n) && true)) (every_in_range n f) ∙ ap (λ (b : Bool). every n f && b) (and-true (f (0 + n)) ∙ ap f (omega arith))
