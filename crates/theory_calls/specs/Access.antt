-- A list of accesses (02, Note 9: "An access is 4 bytes: node, 1 for write or 0 for read, a 2-byte variable number"), and row 20 of the refusals.
-- Assumes nothing.
use Rattle.std.specs.Prelude.{Bool, ◌||◌, not, List, ℕ, ◌+◌, ◌*◌, ◌/◌, ◌%◌, eqb, ltb, length, get_or}
use Rattle.lists.specs.Range.{any}
use Rattle.chart.specs.Format.{field}
use Rattle.chart.specs.Region.{Region}
use Rattle.chart.specs.Refusal.{Row}
use Rattle.theory_answers.specs.Numbers.{bad_number}
use Rattle.theory_calls.specs.declared.Access.{Access}
use Rattle.chart.specs.declared.format.Refusal.TheVariants.{BadAccesses}

-- How many accesses there are; and access i, from 0: bytes 4i to 4i + 3.
unfoldable pub total : List ℕ → ℕ
total list = length list / 4

unfoldable pub access_at : List ℕ → ℕ → Access
access_at list i = record { node = get_or list (4 * i) 0; write = get_or list (4 * i + 1) 0; variable = field list (4 * i + 2) }

-- A write byte over 1, or a node that row 13 would refuse.
unfoldable pub bad_access : Region → Access → Bool
bad_access R a = ltb 1 a.write || bad_number R a.node

-- Row 20: a list not of whole records or of over 1,024, or with such an access.
unfoldable pub bad_accesses : Region → List ℕ → Bool
bad_accesses R list = not (eqb (length list % 4) 0) || (ltb 1024 (total list) || any (total list) (λ i. bad_access R (access_at list i)))

unfoldable pub accesses_row : Region → List ℕ → Row
accesses_row R list = record { refusal = BadAccesses; applies = bad_accesses R list }
