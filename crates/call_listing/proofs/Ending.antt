-- The end of a construct, and the barrier that follows it.
-- Assumes nothing.
use mathlib.Core.Path.{◌≡◌}
use mathlib.Core.Bool.{Bool, true, false, cond}
use mathlib.Core.List.{List, [], ◌∷◌}
use Prim.Native.Nat.{ℕ, suc, ◌+◌, ◌≤◌, ◌<◌}
use native.Mathlib.Omega.{arith}
use Rattle.theory_listing.specs.Tree.{stop, closes, cell, two}
use Rattle.theory_listing.proofs.Flow.{two-same}
use Rattle.call_listing.specs.Stored.{Stored}
use Rattle.call_listing.specs.Reads.{end_cells}
use Rattle.call_listing.proofs.Joining.{stored-joined}

module _ (o m k t last : ℕ) where
  pub end-alone : (w : Bool) (number : ℕ) {e e1 : ℕ} {N E N1 E1 : List ℕ} → number ≡ m → last ≡ k + 1 + cond w 1 0 → last ≤ k + 1
      → Stored (cell k closes number o (two t t) ∷ []) k (k + 1) e e1 N E N1 E1 → Stored (end_cells w o m k t) k last e e1 N E N1 E1
  end-alone true number i q h s = absurd (omega arith)
  end-alone false number i q h s =
      let f : last ≡ k + 1 = omega arith in
      rw f (rw (i, two-same t) at s)

  pub end-followed : (w : Bool) (number : ℕ) {e e1 e2 : ℕ} {N E N1 E1 N2 E2 : List ℕ} → number ≡ m → last ≡ k + 1 + cond w 1 0 → k + 1 < last
      → Stored (cell k closes number o (two (k + 1) (k + 1)) ∷ []) k (k + 1) e e1 N E N1 E1 → Stored (cell (k + 1) stop o o (two t t) ∷ []) (k + 1) (k + 1 + 1) e1 e2 N1 E1 N2 E2
      → Stored (end_cells w o m k t) k last e e2 N E N2 E2
  end-followed false number i q h s r = absurd (omega arith)
  end-followed true number i q h s r =
      let f : last ≡ k + 1 + 1 = omega arith in
      rw (f, sym-one) (stored-joined (cell k closes m o ((k + 1) ∷ []) ∷ []) (cell (k + 1) stop o o (t ∷ []) ∷ []) (rw (i, two-same (k + 1)) at s) (rw (two-same t) at r))
    where
      sym-one : suc k ≡ k + 1
      sym-one = omega arith
