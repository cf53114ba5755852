-- The buffer of Distances after some nodes, and at the end.
-- Assumes nothing.
use mathlib.Core.Path.{◌≡◌, refl, ◌∙◌}
use mathlib.Core.Logic.{◌⊎◌, inl, inr}
use mathlib.Core.Bool.{true, false, cond}
use mathlib.Core.List.{List, ◌++◌}
use Prim.Native.Nat.{ℕ, ◌+◌, ◌≤◌, ◌<◌}
use native.Mathlib.Omega.{arith}
use lib.Dec.{eqb}
use lib.ListN.{length, get_or, drop, set, length-set}
use Rattle.lists.specs.Truth.{truth}
use Rattle.lists.specs.Tab.{tab-length, filled-front}
use Rattle.lists.specs.Store.{at_set}
use Rattle.chart.specs.Region.{Region}
use Rattle.theory_paths.specs.Phases.{forward, nearest}
use Rattle.theory_answers.specs.Numbers.{asked, asked-node}
use Rattle.mark_tables.specs.Tables.{Closed, Levels}
use Rattle.theory_calls.specs.Distances.{distance_byte, distances_result}
use Rattle.call_distances.specs.OfLevels.{OfLevels}

-- the byte of node x, by the tables
abbrev pub byte_at : List ℕ → List ℕ → ℕ → ℕ
byte_at closed levels x = cond (eqb (get_or closed x 0) 0) (get_or levels x 0) 255

-- x bytes are written, and the rest is as it was
pub record Filled (f : ℕ → ℕ) (x : ℕ) (old new : List ℕ) : Type 0 where
  pub long : length new ≡ length old
  pub done : (j : ℕ) → j < x → get_or new j 0 ≡ f j
  pub kept : (j : ℕ) → x ≤ j → get_or new j 0 ≡ get_or old j 0

pub filled_none : (f : ℕ → ℕ) (old : List ℕ) → Filled f 0 old old
filled_none f old = record { long = refl; done = λ j h. absurd (omega arith); kept = λ j h. refl }

pub filled_more : {f : ℕ → ℕ} {x : ℕ} {old l : List ℕ} (v : ℕ) → x < length l → v ≡ f x → Filled f x old l → Filled f (x + 1) old (set l x v)
filled_more {f} {x} {old} {l} v b e w = record {
  long = length-set l x v ∙ w.long;
  done = λ j h. at_set (λ k. k ≡ f j) l x v j b (λ q. rw q e) (λ n. w.done j (omega arith));
  kept = λ j h. at_set (λ k. k ≡ get_or old j 0) l x v j b (λ q. absurd (omega arith)) (λ n. w.kept j (omega arith));
}

-- the tables tell the bytes of the definition
told : (R : Region) (closed levels : List ℕ) → Closed R closed → Levels forward R levels → (x : ℕ) → x < R.nodes → byte_at closed levels x ≡ distance_byte R x
unfolding distance_byte
told R closed levels C L x l = go (truth (asked R x))
  where
    go : (asked R x ≡ true) ⊎ (asked R x ≡ false) → byte_at closed levels x ≡ cond (asked R x) (nearest forward R x) 255
    go (inl h) = rw (C.at x l, h) (L x (asked-node R x h).1)
    go (inr h) = rw (C.at x l, h)

pub filled-all : (closed levels : List ℕ) {old new : List ℕ} {n : ℕ} → n ≤ length old → Filled (byte_at closed levels) n old new
    → OfLevels n closed levels (λ R. new ≡ distances_result R ++ drop (length (distances_result R)) old)
unfolding distances_result
filled-all closed levels {old} {new} room f R q C L =
    rw (tab-length R.nodes (distance_byte R))
    (filled-front R.nodes (distance_byte R) old new (omega arith) f.long (λ j h. f.done j (omega arith) ∙ told R closed levels C L j h) (λ j h. f.kept j (omega arith)))
