-- A line by the bits of its words.
-- Assumes nothing.
use mathlib.Core.Path.{◌≡◌, refl, ap, ◌∙◌}
use mathlib.Core.Bool.{Bool, true, false, ◌&&◌, not, cond}
use mathlib.Core.List.{List, [], ◌∷◌}
use Prim.Native.Nat.{ℕ, ◌+◌, ◌*◌, ◌/◌, ◌%◌, ◌^◌, ◌<◌}
use native.Mathlib.Omega.{arith}
use lib.Dec.{eqb}
use lib.ListN.{get_or}
use Rattle.lists.specs.Bits.{has}
use Rattle.lists.specs.Common.{common}
use Rattle.masks.specs.Unions.{Joined}
use Rattle.masks.specs.declared.unions.Words.{Words}
use Rattle.answer_nodes.specs.Shared.{shared}
use Rattle.answer_nodes.proofs.BitTests.{bit_is}
use Rattle.answer_nodes.proofs.Joining.{three-words}
use Rattle.answer_pairs.specs.declared.rules.Profile.{Profile}
use Rattle.answer_met.specs.Meets.{meets, SetFrom, NodeSet}
use Rattle.answer_nodes.specs.NodeSets.{ByBit}
use Rattle.answer_races.specs.Bytes.{line_race}
use Rattle.answer_races.specs.Lines.{race_by, LineOf}
use Rattle.answer_constructs.specs.declared.mask_table.MaskTable.{MaskTable}

-- a byte from the bits of a node in a line's two sets
byte-by : (o m n : Bool) → cond (o && m) 1 0 + cond ((o && m) && not (o && n)) 1 0 ≡ cond (o && m) (cond n 1 2) 0
byte-by true true true = refl
byte-by true true false = refl
byte-by true false n = refl
byte-by false m n = refl

module _ (closed : List ℕ) (marks : MaskTable) (names : List ℕ) (own : Profile) (around : ℕ) where
  race-word : (first j set free union : ℕ) → j < 64 → SetFrom closed (meets own marks) first set
      → has union j ≡ (eqb (get_or closed (first + j) 0) 0 && common around (get_or names (first + j) 0))
      → has free j ≡ (has set j && not (has union j))
      → set / 2 ^ j % 2 + free / 2 ^ j % 2 ≡ race_by closed marks names own around (first + j)
  unfolding race_by
  race-word first j set free union l M U F =
      ap (λ (n : ℕ). n + free / 2 ^ j % 2) (bit_is set j) ∙ ap (λ (n : ℕ). cond (has set j) 1 0 + n) (bit_is free j)
      ∙ rw (F, M j l, U) (byte-by (eqb (get_or closed (first + j) 0) 0) (meets own marks (first + j)) (common around (get_or names (first + j) 0)))

  -- the line of a node that meets these and has these names around it
  pub line-by : (met : Words) (union : Words) (f₀ f₁ f₂ : ℕ) → around < 2 ^ 64 → NodeSet closed (meets own marks) met → {sets : List (List ℕ)} → ByBit closed names sets
      → Joined around (get_or sets 0 []) union.low → Joined around (get_or sets 1 []) union.middle → Joined around (get_or sets 2 []) union.high
      → ((j : ℕ) → has f₀ j ≡ (has met.low j && not (has union.low j))) → ((j : ℕ) → has f₁ j ≡ (has met.middle j && not (has union.middle j)))
      → ((j : ℕ) → has f₂ j ≡ (has met.high j && not (has union.high j)))
      → LineOf closed marks names own around (record { meet = met.low ∷ met.middle ∷ met.high ∷ []; free = f₀ ∷ f₁ ∷ f₂ ∷ [] })
  unfolding line_race
  line-by met union f₀ f₁ f₂ bound M N A B C F G H = record {
    at = three-words (λ b. line_race (record { meet = met.low ∷ met.middle ∷ met.high ∷ []; free = f₀ ∷ f₁ ∷ f₂ ∷ [] }) b ≡ race_by closed marks names own around b)
        (λ j l. rw (word 0 j l, rest 0 j l) (race-word (64 * 0) j met.low f₀ union.low l M.low (shared (N.sets 0 (omega arith)) A bound j l) (F j)))
        (λ j l. rw (word 1 j l, rest 1 j l) (race-word (64 * 1) j met.middle f₁ union.middle l M.middle (shared (N.sets 1 (omega arith)) B bound j l) (G j)))
        (λ j l. rw (word 2 j l, rest 2 j l) (race-word (64 * 2) j met.high f₂ union.high l M.high (shared (N.sets 2 (omega arith)) C bound j l) (H j)));
  }
    where
      word : (w j : ℕ) → j < 64 → (64 * w + j) / 64 ≡ w
      word w j l = omega arith

      rest : (w j : ℕ) → j < 64 → (64 * w + j) % 64 ≡ j
      rest w j l = omega arith
