-- Races (02, Note 9): what two accesses are to each other, by computation, and the call that writes it for all pairs of a list.
-- Assumes nothing.
use Rattle.std.specs.Prelude.{Bool, ◌&&◌, ◌||◌, not, cond, List, [], ◌∷◌, ◌++◌, ℕ, ◌+◌, eqb, length, Result}
use Rattle.lists.specs.Range.{any}
use Rattle.lists.specs.Rows.{rows_by}
use Rattle.lists.specs.Triangle.{pairs_from}
use Rattle.chart.specs.Format.{decode}
use Rattle.chart.specs.Region.{critical, Region}
use Rattle.chart.specs.Reading.{region_of}
use Rattle.chart.specs.Refusal.{Row}
use Rattle.theory_paths.specs.Admission.{region_rows}
use Rattle.theory_answers.specs.Answer.{is_in, answer}
use Rattle.output.specs.Output.{output_rows, written_by, left_by}
use Rattle.theory_calls.specs.declared.Access.{Access}
use Rattle.theory_calls.specs.Access.{total, access_at, accesses_row}
use Rattle.chart.specs.declared.format.Refusal.{Refusal}

-- Each is inside some critical, at any depth, the two of one name. 0 (01: unnamed) is a name too.
unfoldable pub share_name : Region → ℕ → ℕ → Bool
share_name R a b = any R.constructs (λ c. any R.constructs (λ d. (is_in R critical a c && is_in R critical b d) && eqb (R.name c) (R.name d)))

-- The variables differ, or both read.
unfoldable pub harmless : Access → Access → Bool
harmless i j = not (eqb i.variable j.variable) || (eqb i.write 0 && eqb j.write 0)

-- By their nodes alone: 0 where these are never concurrent (01: never meet), 1 where both are inside criticals of a common name, 2 otherwise.
unfoldable pub race_at : Region → ℕ → ℕ → ℕ
race_at R a b = cond (not (eqb (answer R a b) 0)) 0 (cond (share_name R a b) 1 2)

-- 0 no race, 1 synchronization, 2 data.
unfoldable pub race : Region → Access → Access → ℕ
race R i j = cond (harmless i j) 0 (race_at R i.node j.node)

-- A byte for each pair, by i and then j, i not above j: row i is that of i with i, i + 1, and so on to the last.
unfoldable pub races : Region → List ℕ → List ℕ
races R list = rows_by (pairs_from (total list)) (λ i k. race R (access_at list i) (access_at list (i + k))) (total list)

-- Rows 1 to 10, then 23, then 20, then 11.
unfoldable pub list_rows : List ℕ → ℕ → List ℕ → List Row
list_rows s p list = region_rows s p ++ (accesses_row (region_of p (decode s)) list ∷ [])

abbrev pub races_rows : List ℕ → ℕ → List ℕ → List ℕ → List Row
races_rows s p list out = output_rows (list_rows s p list) (length out) (length (races (region_of p (decode s)) list)) []

-- What Races returns, and what the buffer holds then.
abbrev pub races_written : List ℕ → ℕ → List ℕ → List ℕ → Result ℕ Refusal
races_written s p list out = written_by (races_rows s p list out) (length (races (region_of p (decode s)) list))

abbrev pub races_left : List ℕ → ℕ → List ℕ → List ℕ → List ℕ
races_left s p list out = left_by (races_rows s p list out) (races (region_of p (decode s)) list) out
