-- What the checks note of a chart's nodes: for each number the nodes that have it, counted by their kinds.
-- Assumes nothing.
use Rattle.std.specs.Prelude.{◌≡◌, Bool, ◌&&◌, List, ℕ, eqb, length, get_or}
use Rattle.lists.specs.Range.{count}
use Rattle.chart.specs.Format.{Decoded, node_at}

-- For each number how many of the first n nodes have it and are of a kind that passes.
pub record Counted (D : Decoded) (passes : ℕ → Bool) (n : ℕ) (found : List ℕ) : Type 0 where
  pub long : length found ≡ 256
  pub at : (c : ℕ) → get_or found c 0 ≡ count n (λ x. passes (node_at D.nodes x).kind && eqb (node_at D.nodes x).number c)
