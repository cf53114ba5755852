-- The buffer of Phases after some masks, and at the end.
-- Assumes nothing.
use mathlib.Core.Path.{◌≡◌, refl, ◌∙◌}
use mathlib.Core.Logic.{inl, inr}
use mathlib.Core.Bool.{cond}
use mathlib.Core.List.{List, ◌++◌}
use Prim.Native.Nat.{ℕ, ◌+◌, ◌*◌, ◌-◌, ◌/◌, ◌%◌, ◌≤◌, ◌<◌}
use native.Mathlib.Omega.{arith}
use native.Mathlib.Decide.{dec_lt}
use lib.Dec.{ltb}
use lib.ListN.{length, get_or, drop}
use borrow.Author.Tests.{lt-ltb, le-ltb}
use Rattle.lists.specs.Tab.{tab-length, filled-front}
use Rattle.chart.specs.Region.{Region}
use Rattle.theory_paths.specs.Phases.{forward, backward}
use Rattle.mark_tables.specs.Tables.{Masks}
use Rattle.theory_calls.specs.Bytes.{byte_of, Put}
use Rattle.theory_calls.specs.Phases.{phase_byte, phases_result}

-- the masks in their order: starts and ends by turns
abbrev pub mask_at : List ℕ → List ℕ → ℕ → ℕ
mask_at starts ends k = cond (ltb (k % 2) 1) (get_or starts (k / 2) 0) (get_or ends (k / 2) 0)

-- k masks are written, and the rest is as it was
pub record Filled (masks : ℕ → ℕ) (k : ℕ) (old new : List ℕ) : Type 0 where
  pub long : length new ≡ length old
  pub done : (j : ℕ) → j < 8 * k → get_or new j 0 ≡ byte_of (masks (j / 8)) (j % 8)
  pub kept : (j : ℕ) → 8 * k ≤ j → get_or new j 0 ≡ get_or old j 0

pub filled_none : (masks : ℕ → ℕ) (old : List ℕ) → Filled masks 0 old old
filled_none masks old = record { long = refl; done = λ j h. absurd (omega arith); kept = λ j h. refl }

pub filled_more : {masks : ℕ → ℕ} {k : ℕ} {old l new : List ℕ} (at mask : ℕ) → at ≡ 8 * k → mask ≡ masks k → Filled masks k old l → Put at 8 mask l new
    → Filled masks (k + 1) old new
filled_more {masks} {k} {old} {l} {new} at mask a m f p = record {
  long = p.long ∙ f.long;
  done = λ j h. go j h (dec_lt j (8 * k));
  kept = λ j h. p.kept j (inr (omega arith)) ∙ f.kept j (omega arith);
}
  where
    go : (j : ℕ) → j < 8 * (k + 1) → Dec (j < 8 * k) → get_or new j 0 ≡ byte_of (masks (j / 8)) (j % 8)
    go j h (yes b) = p.kept j (inl (omega arith)) ∙ f.done j b
    go j h (no b) =
        let here : at + (j - at) ≡ j = omega arith in
        let i : j / 8 ≡ k = omega arith in
        let r : j - at ≡ j % 8 = omega arith in
        rw (i, ← m, ← r) (rw here at (p.put (j - at) (omega arith)))

-- one node more
pub both-filled : (starts ends : List ℕ) {old l m new : List ℕ} (x : ℕ) → Filled (mask_at starts ends) (2 * x) old l → Put (16 * x) 8 (get_or starts x 0) l m
    → Put (16 * x + 8) 8 (get_or ends x 0) m new → Filled (mask_at starts ends) (2 * (x + 1)) old new
both-filled starts ends x f s e =
    let half : 2 * x / 2 ≡ x = omega arith in
    let half' : (2 * x + 1) / 2 ≡ x = omega arith in
    let first : 2 * x % 2 < 1 = omega arith in
    let second : 1 ≤ (2 * x + 1) % 2 = omega arith in
    let next : 2 * x + 1 + 1 ≡ 2 * (x + 1) = omega arith in
    let f' = filled_more _ _ (omega arith) (rw (lt-ltb _ _ first, half)) f s in
    rw next at (filled_more _ _ (omega arith) (rw (le-ltb _ _ second, half')) f' e)

pub filled-all : (starts ends : List ℕ) {old new : List ℕ} {n : ℕ} → n ≤ 192 → 16 * n ≤ length old → Filled (mask_at starts ends) (2 * n) old new
    → (R : Region) → R.nodes ≡ n → Masks forward R starts → Masks backward R ends → new ≡ phases_result R ++ drop (length (phases_result R)) old
unfolding phases_result phase_byte
filled-all starts ends {old} {new} {n} small room f R q s e =
    rw (tab-length (16 * R.nodes) (phase_byte R)) (filled-front (16 * R.nodes) (phase_byte R) old new (omega arith) f.long (λ j h. f.done j (omega arith) ∙ same j (omega arith)) (λ j h. f.kept j (omega arith)))
  where
    half : (j : ℕ) → ltb (j / 8 % 2) 1 ≡ ltb (j % 16) 8
    half j = elim (dec_lt (j % 16) 8) [
      | yes l ↦ (let b : j / 8 % 2 < 1 = omega arith in lt-ltb _ _ b ∙ rw (lt-ltb (j % 16) 8 l))
      | no l ↦ (let b : 1 ≤ j / 8 % 2 = omega arith in le-ltb _ _ b ∙ rw (le-ltb (j % 16) 8 (omega arith)))
    ]

    same : (j : ℕ) → j / 16 < 192 → byte_of (cond (ltb (j / 8 % 2) 1) (get_or starts (j / 8 / 2) 0) (get_or ends (j / 8 / 2) 0)) (j % 8) ≡ phase_byte R j
    same j h = let d : j / 8 / 2 ≡ j / 16 = omega arith in rw (half j, d, s (j / 16) h, e (j / 16) h)
