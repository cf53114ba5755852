-- Names of criticals as masks: the names around a node are the criticals that have one of them, so that two nodes are inside criticals of a common
-- name exactly when their masks have a bit in common.
-- Assumes nothing.
use Rattle.std.specs.Prelude.{◌≡◌, List, ℕ, ◌^◌, ◌≤◌, ◌<◌, length, get_or}
use Rattle.std.specs.Int.Bits.{bit_and}
use Rattle.lists.specs.Mask.{Has, Mask}
use Rattle.chart.specs.Region.{critical, Region}
use Rattle.chart.proofs.Around.{Around}
use Rattle.theory_answers.specs.Unexcluded.{In}

-- What construct c gives a node inside it: the criticals of its name, where it is a critical of the region.
abbrev pub GivesName : Region → (ℕ → Type 0) → ℕ → ℕ → Type 0
GivesName R Counts c d = Counts c × ((R.kind c ≡ critical) × ((R.kind d ≡ critical) × (R.name c ≡ R.name d)))

-- The masks of these by construct.
pub record Given (R : Region) (Counts : ℕ → Type 0) (given : List ℕ) : Type 0 where
  pub at : (c : ℕ) → c < R.constructs → Mask (GivesName R Counts c) R.constructs (get_or given c 0)

-- A table has a mask of constructs for each construct; bit d of that of c.
abbrev pub Small : Region → List ℕ → Type 0
Small R given = (c : ℕ) → c < R.constructs → get_or given c 0 < 2 ^ R.constructs

abbrev pub BitOf : List ℕ → ℕ → ℕ → Type 0
BitOf given c d = Has (get_or given c 0) d

-- The union, for each construct below `done`, of its mask and those of the constructs around it; and for each node of those around it, where what
-- stands past the nodes stays.
pub record Chained (R : Region) (given : List ℕ) (done : ℕ) (chains : List ℕ) : Type 0 where
  pub long : length chains ≡ 48
  pub at : (c : ℕ) → c < done → Mask (Around R.parent (BitOf given) c) R.constructs (get_or chains c 0)

pub record Spread (R : Region) (lies : ℕ → ℕ) (given old masks : List ℕ) : Type 0 where
  pub at : (x : ℕ) → x < R.nodes → Mask (Around R.parent (BitOf given) (lies x)) R.constructs (get_or masks x 0)
  pub past : (x : ℕ) → R.nodes ≤ x → get_or masks x 0 ≡ get_or old x 0

-- The mask of node x, and those of all nodes.
abbrev pub NamesAt : Region → ℕ → ℕ → Type 0
NamesAt R x m = Mask (λ d. (R.kind d ≡ critical) × ((c : ℕ) × (In R critical x c × (R.name c ≡ R.name d)))) R.constructs m

abbrev pub Names : Region → List ℕ → Type 0
Names R names = (x : ℕ) → x < R.nodes → NamesAt R x (get_or names x 0)

-- Of the masks of the first n constructs the bit of the construct itself.
pub record OwnBits (n : ℕ) (given own : List ℕ) : Type 0 where
  pub at : (c : ℕ) → c < n → get_or own c 0 ≡ bit_and (get_or given c 0) (2 ^ c)

-- The criticals of the region, and those around each node.
abbrev pub Criticals : Region → (ℕ → Type 0) → ℕ → Type 0
Criticals R Counts m = Mask (λ c. Counts c × (R.kind c ≡ critical)) R.constructs m

pub record InCriticals (R : Region) (around : List ℕ) : Type 0 where
  pub at : (x : ℕ) → x < R.nodes → Mask (In R critical x) R.constructs (get_or around x 0)
