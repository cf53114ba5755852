-- A list of claims (01: "claims are pairs of bytes"): each claims of two nodes of a region that they are never concurrent. What makes a claim
-- false, and rows 12 and 13 of the refusals.
-- Assumes nothing.
use Rattle.std.specs.Prelude.{Bool, List, ℕ, ◌+◌, ◌*◌, ◌/◌, ◌%◌, eqb, length, get_or}
use Rattle.lists.specs.Range.{any}
use Rattle.chart.specs.Region.{Region}
use Rattle.theory_answers.specs.Numbers.{bad_number}

-- How many claims there are; and the nodes of claim k, from 0: bytes 2k and 2k + 1.
unfoldable pub total : List ℕ → ℕ
total claims = length claims / 2

unfoldable pub left : List ℕ → ℕ → ℕ
left claims k = get_or claims (2 * k) 0

unfoldable pub right : List ℕ → ℕ → ℕ
right claims k = get_or claims (2 * k + 1) 0

-- Claim k is false: the answer f for its pair is 0.
unfoldable pub is_false : (ℕ → ℕ → ℕ) → List ℕ → ℕ → Bool
is_false f claims k = eqb (f (left claims k) (right claims k)) 0

-- Row 12: odd number of bytes.
unfoldable pub odd_bytes : List ℕ → Bool
odd_bytes claims = eqb (length claims % 2) 1

-- Row 13, over the whole list: a node number n or more, or that of a barrier, or of a node outside the region (02, Note 12).
unfoldable pub bad_numbers : Region → List ℕ → Bool
bad_numbers R claims = any (length claims) (λ j. bad_number R (get_or claims j 0))
