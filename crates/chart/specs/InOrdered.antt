-- Being inside an ordered of a do, of which both the team rules and the pair rules speak.
-- Assumes nothing.
use Rattle.std.specs.Prelude.{◌≡◌, true, ℕ}
use Rattle.chart.specs.Region.{ordered, Region}

-- Node x is inside an ordered of the do d, at any depth.
pub record InOrdered (R : Region) (x d : ℕ) : Type 0 where
  pub construct : ℕ
  pub is-ordered : R.kind construct ≡ ordered
  pub of-do : R.parent construct ≡ d
  pub within : R.inside x construct ≡ true
