-- Locks that can be dropped, by computation, and the call that writes a byte for each construct: 0 the lock of this critical is needed, 1 it can be
-- dropped as far as finished runs go, 2 it can be dropped in every run, 255 no critical of the region.
-- Assumes nothing.
use Rattle.std.specs.Prelude.{Bool, false, ◌&&◌, not, cond, List, ℕ, eqb, length, Result}
use Rattle.lists.specs.Truth.{is}
use Rattle.lists.specs.Range.{any}
use Rattle.lists.specs.Tab.{tab}
use Rattle.chart.specs.Format.{decode}
use Rattle.chart.specs.Region.{Role, plain, barrier, opens, closes, Kind-discrete, critical, Region}
use Rattle.chart.specs.Reading.{region_of}
use Rattle.chart.specs.Refusal.{Row}
use Rattle.theory_paths.specs.Admission.{region_rows}
use Rattle.theory_answers.specs.Answer.{is_in, answer_for}
use Rattle.theory_answers.specs.Size.{size_rows}
use Rattle.theory_answers.specs.declared.Size.{Size}
use Rattle.theory_exact.specs.Barred.{is_barred_for}
use Rattle.output.specs.Output.{output_rows, written_by, left_by}
use Rattle.chart.specs.declared.format.Refusal.{Refusal}

-- A node of this role opens c.
abbrev pub opening : Role → ℕ → Bool
opening plain c = false
opening barrier c = false
opening (opens d) c = eqb d c
opening (closes d) c = false

-- c is a critical of the region.
unfoldable pub is_critical : Region → ℕ → Bool
is_critical R c = is (Kind-discrete (R.kind c) critical) && opening (R.role (R.begin c)) c

-- y is inside a critical of this name, at any depth.
unfoldable pub in_named : Region → ℕ → ℕ → Bool
in_named R y name = any R.constructs (λ d. is_in R critical y d && eqb (R.name d) name)

-- Some pair of a node inside c and a node inside a critical of c's name, c included, passes the test.
unfoldable pub some_pair : Region → (ℕ → ℕ → Bool) → ℕ → Bool
some_pair R test c = any R.nodes (λ x. any R.nodes (λ y. (R.inside x c && in_named R y (R.name c)) && test x y))

-- Some such pair is answered 0 (01: they may meet). For runs that need not finish: none but "no common end" excludes it.
unfoldable pub needed : Region → Size → ℕ → Bool
needed R size c = some_pair R (λ x y. eqb (answer_for R size x y) 0) c

unfoldable pub ever_needed : Region → Size → ℕ → Bool
ever_needed R size c = some_pair R (λ x y. not (is_barred_for R size x y)) c

-- The byte of construct c.
unfoldable pub lock_byte : Region → Size → ℕ → ℕ
lock_byte R size c = cond (is_critical R c) (cond (needed R size c) 0 (cond (ever_needed R size c) 1 2)) 255

unfoldable pub locks_result : Region → Size → List ℕ
locks_result R size = tab R.constructs (lock_byte R size)

-- Rows 1 to 10, then 23, then 11 and, with a size, 21.
abbrev pub locks_rows_for : List ℕ → ℕ → Size → List ℕ → List Row
locks_rows_for s p size out = output_rows (region_rows s p) (length out) (length (locks_result (region_of p (decode s)) size)) (size_rows size)

-- What the call returns, and what the buffer holds then.
abbrev pub locks_written_for : List ℕ → ℕ → Size → List ℕ → Result ℕ Refusal
locks_written_for s p size out = written_by (locks_rows_for s p size out) (length (locks_result (region_of p (decode s)) size))

abbrev pub locks_left_for : List ℕ → ℕ → Size → List ℕ → List ℕ
locks_left_for s p size out = left_by (locks_rows_for s p size out) (locks_result (region_of p (decode s)) size) out
