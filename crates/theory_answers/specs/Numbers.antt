-- Row 13 of the refusals, of a node number that a call is handed.
-- Assumes nothing.
use Rattle.std.specs.Prelude.{◌≡◌, Bool, true, false, ◌&&◌, not, ℕ, ◌<◌}
use Rattle.std.proofs.lemmas.Bool.{not-false}
use Rattle.lists.specs.Truth.{and_both, both-and}
use Rattle.chart.specs.Region.{Region}
use Rattle.chart.specs.WellFormed.{WellFormed}
use Rattle.theory_paths.specs.Path.{Open}
use Rattle.theory_paths.specs.Decide.{no_barrier, no-barrier, barrier-no}

-- Node x is one of the region and no barrier: one that a claim may name. As a relation, and computed.
abbrev pub Asked : Region → ℕ → Type 0
Asked R x = (R.kept x ≡ true) × Open R x

unfoldable pub asked : Region → ℕ → Bool
asked R x = R.kept x && no_barrier (R.role x)

-- The number is that of no node of the region, or a barrier's.
unfoldable pub bad_number : Region → ℕ → Bool
bad_number R x = not (asked R x)

module _ (R : Region) (x : ℕ) where
  pub asked-node : asked R x ≡ true → Asked R x
  unfolding asked
  asked-node h = let b = and_both (R.kept x) _ h in (b.0, no-barrier (R.role x) b.1)

  pub node-asked : Asked R x → asked R x ≡ true
  unfolding asked
  node-asked h = both-and (R.kept x) _ h.0 (barrier-no (R.role x) h.1)

  pub good-open : bad_number R x ≡ false → Open R x
  unfolding bad_number
  good-open h = (asked-node (not-false _ h)).1

  -- a number that is not refused is that of a node which is no barrier
  pub good-number : WellFormed R → bad_number R x ≡ false → (x < R.nodes) × Open R x
  unfolding bad_number
  good-number W h = let a = asked-node (not-false _ h) in (W.kept-below a.0, a.1)
