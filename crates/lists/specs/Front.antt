-- A list written over the front of another that is at least as long.
-- Assumes nothing.
use Rattle.std.specs.Prelude.{◌≡◌, List, ◌++◌, ℕ, ◌+◌, ◌-◌, ◌≤◌, ◌<◌, length, get_or, drop}
use Rattle.std.proofs.Common.{ap, sym, ◌∙◌, arith, length-append, length-drop, get_or-append-add, get_or-drop}
use Rattle.std.proofs.Math.ListN.{get_or-append}

module _ (front old : List ℕ) where
  pub front_length : length front ≤ length old → length (front ++ drop (length front) old) ≡ length old
  front_length h = omega (arith, length-append front (drop (length front) old), length-drop (length front) old)

  pub front_at : (j : ℕ) → j < length front → get_or (front ++ drop (length front) old) j 0 ≡ get_or front j 0
  front_at j l = get_or-append front (drop (length front) old) 0 j l

  pub front-past : (j : ℕ) → length front ≤ j → get_or (front ++ drop (length front) old) j 0 ≡ get_or old j 0
  front-past j l =
      let q : j ≡ length front + (j - length front) = omega arith in
      ap (λ (k : ℕ). get_or (front ++ drop (length front) old) k 0) q ∙ get_or-append-add front (drop (length front) old) (j - length front) 0
      ∙ get_or-drop (length front) old (j - length front) 0 ∙ ap (λ (k : ℕ). get_or old k 0) (sym q)
