-- Whether a path leads from one node to another, and the fewest edges on one, by computation. That this is what it computes is in
-- specs/ReachLaws.antt.
-- Assumes nothing.
use Rattle.std.specs.Prelude.{Bool, false, ◌&&◌, ◌||◌, cond, List, ℕ, zero, suc, get_or}
use Rattle.lists.specs.Range.{any}
use Rattle.lists.specs.Tab.{tab}

-- In a graph of n nodes, past the nodes that `pass`.
module _ (n : ℕ) (edge : ℕ → ℕ → Bool) (pass : ℕ → Bool) where
  -- y is marked already, or an edge leads there from a node that is marked and may be passed
  unfoldable pub marks? : List Bool → ℕ → Bool
  marks? marked y = get_or marked y false || any n (λ x. get_or marked x false && (pass x && edge x y))

  -- the nodes to which a path of at most k + 1 edges leads from x
  unfoldable pub marks : ℕ → ℕ → List Bool
  marks x zero = tab n (edge x)
  marks x (suc k) = tab n (marks? (marks x k))

  unfoldable pub reaches : ℕ → ℕ → Bool
  reaches x y = get_or (marks x n) y false

  -- the first round that marks y, of those from the one that marked the given nodes, counted from k; 0 where none does
  unfoldable pub round : ℕ → List Bool → ℕ → ℕ → ℕ
  round y marked k zero = 0
  round y marked k (suc rounds) = cond (get_or marked y false) k (round y (tab n (marks? marked)) (suc k) rounds)

  -- the fewest edges on a path from x to y, 0 where there is none
  unfoldable pub distance : ℕ → ℕ → ℕ
  distance x y = round y (marks x 0) 1 (suc n)
