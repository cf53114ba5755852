-- Which nodes a node may meet, by masks, and sets of nodes.
-- Assumes nothing.
use Rattle.std.specs.Prelude.{◌≡◌, Bool, ◌&&◌, not, List, ℕ, ◌+◌, ◌*◌, ◌<◌, eqb, get_or}
use Rattle.lists.specs.Bits.{has}
use Rattle.lists.specs.Common.{common}
use Rattle.masks.specs.declared.unions.Words.{Words}
use Rattle.answer_constructs.specs.declared.mask_table.MaskTable.{MaskTable}
use Rattle.answer_pairs.specs.declared.rules.Profile.{Profile}

-- In some run, finished or not: a start in common, and no construct that both hold.
unfoldable pub unbarred : Profile → MaskTable → ℕ → Bool
unbarred own marks b = common own.starts (get_or marks.starts b 0) && not (common own.held (get_or marks.held b 0))

-- In a finished run: an end in common, too.
unfoldable pub meets : Profile → MaskTable → ℕ → Bool
meets own marks b = unbarred own marks b && common own.ends (get_or marks.ends b 0)

-- Of 64 nodes from `first` on, those that are not closed and pass the test.
abbrev pub SetFrom : List ℕ → (ℕ → Bool) → ℕ → ℕ → Type 0
SetFrom closed test first set = (j : ℕ) → j < 64 → has set j ≡ (eqb (get_or closed (first + j) 0) 0 && test (first + j))

-- And of all.
pub record NodeSet (closed : List ℕ) (test : ℕ → Bool) (r : Words) : Type 0 where
  pub low : SetFrom closed test (64 * 0) r.low
  pub middle : SetFrom closed test (64 * 1) r.middle
  pub high : SetFrom closed test (64 * 2) r.high
