-- The sheet (01: Sheet): n rows of n entries. An entry is the answer for two nodes, and 255 where a claim may not name both. The answer f is
-- handed in: the one for all teams, or for those of a size (02, Note 10).
-- Assumes nothing.
use Rattle.std.specs.Prelude.{◌≡◌, ◌&&◌, cond, List, ℕ, ◌+◌, ◌*◌, ◌<◌, length, get_or}
use Rattle.lists.specs.Tab.{tab}
use Rattle.lists.specs.Rows.{rows_of, rows-length, rows_at}
use Rattle.chart.specs.Region.{Region}
use Rattle.theory_answers.specs.Numbers.{asked}

unfoldable pub entry : Region → (ℕ → ℕ → ℕ) → ℕ → ℕ → ℕ
entry R f a b = cond (asked R a && asked R b) (f a b) 255

-- Row a: its entries for all nodes.
unfoldable pub row : Region → (ℕ → ℕ → ℕ) → ℕ → List ℕ
row R f a = tab R.nodes (entry R f a)

unfoldable pub sheet : Region → (ℕ → ℕ → ℕ) → List ℕ
sheet R f = rows_of (entry R f) R.nodes R.nodes

module _ (R : Region) (f : ℕ → ℕ → ℕ) where
  pub sheet-length : length (sheet R f) ≡ R.nodes * R.nodes
  unfolding sheet
  sheet-length = rows-length (entry R f) R.nodes R.nodes

  -- byte a * n + b is the entry for a and b
  pub sheet-at : (a b : ℕ) → a < R.nodes → b < R.nodes → get_or (sheet R f) (a * R.nodes + b) 0 ≡ entry R f a b
  unfolding sheet
  sheet-at a b l m = rows_at (entry R f) R.nodes R.nodes a b l m
