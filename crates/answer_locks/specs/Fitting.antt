-- The nodes that threads of a team can be at, by flags.
-- Assumes nothing.
use Rattle.std.specs.Prelude.{◌≡◌, Bool, ◌&&◌, ◌||◌, not, List, ℕ, ◌<◌, eqb, get_or}
use Rattle.lists.specs.Common.{common}
use Rattle.answer_constructs.specs.declared.kinds.Sets.{Sets}

-- The team has one thread, or it lacks one that a node which holds this needs.
unfoldable pub lacking : Sets → ℕ → Bool
lacking sets held = sets.alone || common held sets.missing

-- Of the first n nodes, those are open that were and that lack no thread.
pub record Fitting (n : ℕ) (sets : Sets) (held closed shut : List ℕ) : Type 0 where
  pub at : (x : ℕ) → x < n → eqb (get_or shut x 0) 0 ≡ (eqb (get_or closed x 0) 0 && not (lacking sets (get_or held x 0)))
