-- The rules of the nesting table and of the table of parents over all their entries, each by one computed test.
-- Assumes nothing.
use mathlib.Core.Path.{◌≡◌}
use mathlib.Core.Bool.{Bool, true, false, beq}
use mathlib.Core.List.{List, []}
use Prim.Native.Nat.{ℕ, ◌+◌}
use native.Mathlib.Omega.{arith}
use lib.ListN.{length, get_or}
use Rattle.lists.specs.Truth.{beq-equal}
use Rattle.lists.specs.Range.{every, every-at}
use Rattle.lists.specs.Common.{common}
use Rattle.chart.specs.Scope.{kind_of}
use Rattle.chart.specs.Nesting.{kinds, may_enclose, misplaced, NestingTable}
use Rattle.check_constructs.specs.Kinds.{bit_of, PlaceTable}

unfoldable pub agrees : List (List Bool) → ℕ → ℕ → Bool
agrees table kind above = beq (get_or (get_or table kind []) above false) (may_enclose (kind_of (kind + 1)) (kind_of (above + 1)))

pub tested : (table : List (List Bool)) → every kinds (λ kind. every kinds (agrees table kind)) ≡ true → NestingTable table
unfolding agrees
tested table all = record {
  entry = λ kind above k a. beq-equal _ _ (every-at kinds (agrees table kind) (every-at kinds (λ kind. every kinds (agrees table kind)) all kind k) above a);
}

unfoldable pub places : List ℕ → ℕ → ℕ → Bool
places table kind above = beq (common (bit_of above) (get_or table kind 0)) (misplaced (kind + 1) above)

pub placed : (table : List ℕ) → length table ≡ kinds → every kinds (λ kind. every (kinds + 1) (places table kind)) ≡ true → PlaceTable table
unfolding places
placed table long all = record {
  long = long;
  entry = λ kind above k a. beq-equal _ _ (every-at (kinds + 1) (places table kind) (every-at kinds (λ kind. every (kinds + 1) (places table kind)) all kind k) above (omega arith));
}
