-- Two lists of claims against one region of a chart (02, Note 4): a verdict for each, and the part of one of them from its first false claim on.
-- Assumes nothing.
use Rattle.std.specs.Prelude.{◌≡◌, refl, cond, List, [], ℕ, ◌*◌, ◌+◌, ltb, ℤ, drop, Option, Some, None, Result, Ok, Err}
use Rattle.theory_calls.specs.Verdict.{Verdict}
use Rattle.theory_calls.specs.Judged.{judged, number_of}
use Rattle.chart.specs.declared.format.Refusal.{Refusal}

-- The numbers of the two verdicts.
unfoldable pub numbers : List ℕ → ℕ → List ℕ → List ℕ → ℤ × ℤ
numbers s p first second = (number_of (judged s p first), number_of (judged s p second))

-- Where a list fails: the index of its first false claim. A list that passes, or is refused, does not fail.
unfoldable pub failed_at : Result Verdict Refusal → Option ℕ
failed_at (Ok verdict) = verdict
failed_at (Err refusal) = None

-- The pick between the lists (02: "where both fail, the one with the lower index, the first list on a tie; where one fails, that one"): what is said
-- of the first list from an index on, of the second from an index on, or of neither.
unfoldable pub picked : {A : Type 0} → Option ℕ → Option ℕ → A → (ℕ → A) → (ℕ → A) → A
picked (Some i) (Some j) neither first second = cond (ltb j i) (second j) (first i)
picked (Some i) None neither first second = first i
picked None (Some j) neither first second = second j
picked None None neither first second = neither

-- The part's bytes: from the first false claim to the end of its list, and none where neither list fails.
unfoldable pub part_of : Option ℕ → Option ℕ → List ℕ → List ℕ → List ℕ
part_of f g first second = picked f g [] (λ i. drop (2 * i) first) (λ j. drop (2 * j) second)

-- The place in memory where the part begins, by the places of the two lists: at the first false claim, and at the first list's start where neither
-- fails. A place is a block of memory and an offset there.
unfoldable pub placed : ℕ × ℕ → ℕ → ℕ × ℕ
placed (block, offset) at = (block, at + offset)

unfoldable pub place_of : Option ℕ → Option ℕ → ℕ × ℕ → ℕ × ℕ → ℕ × ℕ
place_of f g first second = picked f g first (λ i. placed first (2 * i)) (λ j. placed second (2 * j))

-- Both, of two lists that are judged.
unfoldable pub false_part : List ℕ → ℕ → List ℕ → List ℕ → List ℕ
false_part s p first second = part_of (failed_at (judged s p first)) (failed_at (judged s p second)) first second

unfoldable pub false_place : List ℕ → ℕ → List ℕ → List ℕ → ℕ × ℕ → ℕ × ℕ → ℕ × ℕ
false_place s p first second = place_of (failed_at (judged s p first)) (failed_at (judged s p second))

-- Each list gets the number that Judge gives it alone, and so keeps it whatever becomes of the other.
pub numbers-judge : (s : List ℕ) (p : ℕ) (first second : List ℕ) → numbers s p first second ≡ (number_of (judged s p first), number_of (judged s p second))
unfolding numbers
numbers-judge s p first second = refl

pub first_alone : (s : List ℕ) (p : ℕ) (first second other : List ℕ) → (numbers s p first second).0 ≡ (numbers s p first other).0
unfolding numbers
first_alone s p first second other = refl

pub second-alone : (s : List ℕ) (p : ℕ) (first other second : List ℕ) → (numbers s p first second).1 ≡ (numbers s p other second).1
unfolding numbers
second-alone s p first other second = refl
