-- A list filled with the values of a function.
-- Assumes nothing.
use mathlib.Core.Path.{◌≡◌, sym, ◌∙◌}
use mathlib.Core.List.{List}
use Prim.Native.Nat.{ℕ, ◌<◌}
use native.Mathlib.Omega.{arith}
use lib.ListN.{length, get_or}
use lib.Seq.{ext_get_or}
use Rattle.lists.specs.Tab.{tab, tab-at, tab-length}

pub filled-tab : (f : ℕ → ℕ) (n : ℕ) (new : List ℕ) → length new ≡ n → ((j : ℕ) → j < n → get_or new j 0 ≡ f j) → new ≡ tab n f
filled-tab f n new e h = ext_get_or 0 new (tab n f) (e ∙ sym (tab-length n f)) (λ j l. h j (omega arith) ∙ sym (tab-at n f 0 j (omega arith)))
