-- The masks by construct in a region's table: for a sections construct its sections, for a do the region's ordereds that stand in it.
-- Assumes nothing.
use Rattle.std.specs.Prelude.{◌≡◌, Bool, ◌&&◌, cond, List, ℕ, ◌+◌, ◌*◌, ◌<◌, eqb, get_or}
use Rattle.lists.specs.Bits.{has}
use Rattle.lists.specs.Mask.{mask_of}
use Rattle.chart.specs.Scope.{ordered_byte, section_byte}
use Rattle.answer_steps.specs.Words.{Beside}

-- Construct x is a section, and its begin opens it.
unfoldable pub section_at : List ℕ → ℕ → Bool
section_at table x =
    let begin = get_or table (1936 + x) 0 in
    (eqb (get_or table (1024 + begin) 0) 2 && eqb (get_or table (1280 + begin) 0) x) && eqb (get_or table (1792 + x) 0) section_byte

-- It is an ordered of the region.
unfoldable pub ordered_at : List ℕ → ℕ → Bool
ordered_at table x = eqb (get_or table (1792 + x) 0) ordered_byte && has (get_or table 2032 0) x

-- Of the two sorts, the one asked for.
unfoldable pub sort_at : ℕ → List ℕ → ℕ → Bool
sort_at which table x = cond (eqb which 0) (section_at table x) (ordered_at table x)

-- The masks of a sort, of the first n constructs; all else is as it was.
pub record Children (which n : ℕ) (old new : List ℕ) : Type 0 where
  pub at : (c : ℕ) → c < 48 → get_or new (2037 + 48 * which + c) 0 ≡ mask_of (λ x. sort_at which old x && eqb (get_or old (1840 + x) 0) c) n
  pub beside : Beside (2037 + 48 * which) (2085 + 48 * which) old new
