-- What row 13 says of a list's numbers.
-- Assumes nothing.
use mathlib.Core.Path.{◌≡◌}
use mathlib.Core.Bool.{false}
use mathlib.Core.List.{List}
use Prim.Native.Nat.{ℕ, ◌≤◌, ◌<◌}
use native.Mathlib.Omega.{arith}
use native.Mathlib.Decide.{dec_lt}
use lib.ListN.{length, get_or, get_or-eq_default}
use Rattle.chart.specs.Region.{Region}
use Rattle.chart.specs.WellFormed.{WellFormed}
use Rattle.theory_calls.specs.Claims.{bad_numbers}
use Rattle.theory_calls.proofs.CorrectLaws.{good-numbers}

-- numbers that are not refused fit the tables; past the list's end stands 0
pub numbers_fit : (R : Region) (claims : List ℕ) → WellFormed R → R.nodes ≤ 192 → bad_numbers R claims ≡ false → (j : ℕ) → get_or claims j 0 < 192
numbers_fit R claims W few h j = go (dec_lt j (length claims))
  where
    go : Dec (j < length claims) → get_or claims j 0 < 192
    go (yes l) = omega (arith, (good-numbers R claims h j l W).0)
    go (no l) = let past : length claims ≤ j = omega arith in omega (arith, get_or-eq_default claims 0 past)
