-- What a region's table and a team's hold.
-- Assumes nothing.
use Rattle.std.specs.Prelude.{◌≡◌, ◌↔◌, Bool, true, false, ◌&&◌, ◌||◌, not, cond, List, ℕ, ◌+◌, ◌*◌, ◌/◌, ◌%◌, ◌^◌, ◌≤◌, ◌<◌, leb, eqb, length, get_or}
use Rattle.lists.specs.Bits.{has}
use Rattle.lists.specs.Mask.{Has, mask_of}
use Rattle.chart.specs.Region.{Role, plain, barrier, opens, closes, ordered, Region}
use Rattle.chart.specs.Scope.{ordered_byte, kind_of}
use Rattle.theory_team.specs.State.{State}
use Rattle.theory_answers.specs.Answer.{in_ordered_of}
use Rattle.theory_traces.specs.Tests.{is_kind, is_section_of}
use Rattle.theory_traces.specs.Decide.{taking}
use Rattle.theory_traces.specs.declared.Effect.{Effect}
use Rattle.answer_steps.specs.declared.tables.TeamTable.{TeamTable}
use Rattle.answer_steps.specs.Teams.{thread_at, count_at, taken_at}
use Rattle.theory_traces.specs.declared.Effect.TheVariants.{None, Moves, Leaves, Takes, TakesNext}

-- A role, as its code and the number of its construct.
unfoldable pub role_by : ℕ → ℕ → Role
role_by code number = cond (eqb code 1) barrier (cond (eqb code 2) (opens number) (cond (eqb code 3) (closes number) plain))

-- The masks of the nodes that edges lead to, in the first words of a table.
abbrev pub Leads : (ℕ → ℕ → Bool) → List ℕ → Type 0
Leads edge table = (x y : ℕ) → x < 256 → y < 256 → edge x y ≡ has (get_or table (4 * x + y / 64) 0) (y % 64)

-- The table of a region. Nodes and threads come as bytes.
pub record Tabled (R : Region) (table : List ℕ) : Type 0 where
  pub long : length table ≡ 2133
  pub edge : Leads R.edge table
  pub role : (x : ℕ) → x < 256 → R.role x ≡ role_by (get_or table (1024 + x) 0) (get_or table (1280 + x) 0)
  pub number : (x : ℕ) → x < 256 → 2 ≤ get_or table (1024 + x) 0 → get_or table (1280 + x) 0 < R.constructs
  pub numbers : (x : ℕ) → x < 256 → get_or table (1280 + x) 0 < 48
  pub inside : (x c : ℕ) → x < 256 → c < R.constructs → R.inside x c ≡ (has (get_or table (1536 + x) 0) c && has (get_or table 2032 0) c)
  pub kind : (c : ℕ) → c < R.constructs → R.kind c ≡ kind_of (get_or table (1792 + c) 0)
  pub parent : (c : ℕ) → c < R.constructs → R.parent c ≡ get_or table (1840 + c) 0
  pub thread : (c : ℕ) → c < R.constructs → R.thread c ≡ get_or table (1888 + c) 0
  pub begin : (c : ℕ) → c < R.constructs → R.begin c ≡ get_or table (1936 + c) 0
  pub end : (c : ℕ) → c < R.constructs → R.end c ≡ get_or table (1984 + c) 0
  -- a begin is a node, and an ordered stands in a do
  pub begins : (c : ℕ) → c < R.constructs → get_or table (1936 + c) 0 < 256
  pub dos : (c : ℕ) → c < R.constructs → get_or table (1792 + c) 0 ≡ ordered_byte → get_or table (1840 + c) 0 < 48
  pub constructs : R.constructs ≡ get_or table 2033 0
  pub few : R.constructs ≤ 48
  pub start : R.start ≡ get_or table 2034 0
  pub starts : R.start < 256
  pub finish : R.finish ≡ get_or table 2035 0
  pub nodes : R.nodes ≡ get_or table 2036 0
  pub few-nodes : R.nodes ≤ 192
  -- for a construct its sections, and the region's ordereds that stand in it
  pub sections : (c : ℕ) → c < 48 → get_or table (2037 + c) 0 ≡ mask_of (is_section_of R c) R.constructs
  pub ordereds : (d : ℕ) → d < 48 → get_or table (2085 + d) 0 ≡ mask_of (λ o. (is_kind (R.kind o) ordered && has (get_or table 2032 0) o) && eqb (R.parent o) d) R.constructs

-- The table of a team.
pub record Shows (σ : State) (team : TeamTable) : Type 0 where
  pub long : length team.threads ≡ 8
  pub room : length team.chosen ≡ 8
  pub wide : (t : ℕ) → t < 8 → (length (thread_at team t).counts ≡ 48) × (length (thread_at team t).taken ≡ 48)
  pub node : (t : ℕ) → t < 8 → (thread_at team t).node ≡ σ.node t
  pub byte : (t : ℕ) → t < 8 → (thread_at team t).node < 256
  pub count : (t c : ℕ) → t < 8 → c < 48 → count_at team t c ≡ σ.encounters t c
  pub taken : (t c : ℕ) → t < 8 → c < 48 → taken_at team t c ≡ mask_of (σ.taken t c) 48
  -- the constructs that a release sets back: of any other nothing is counted and nothing taken
  pub left : team.left < 2 ^ 48
  pub others : (t c : ℕ) → t < 8 → c < 48 → (Has team.left c → ⊥) → (count_at team t c ≡ 0) × (taken_at team t c ≡ 0)

-- Some region and some state have these tables, and no count is so large that one more could not be held.
pub record Sound (table : List ℕ) (team : TeamTable) : Type 0 where
  pub region : Region
  pub state : State
  pub tabled : Tabled region table
  pub shows : Shows state team
  pub low : (t c : ℕ) → t < 8 → c < 48 → count_at team t c + 1 < 18446744073709551616

-- What holds of every region and every state that have these tables.
abbrev pub OfStates : List ℕ → TeamTable → (Region → State → Type 0) → Type 0
OfStates table team X = (R : Region) (σ : State) → Tabled R table → Shows σ team → X R σ

-- Thread k is t, or not inside an ordered of the do d, or in another instance of d.
abbrev pub not_beside : Region → State → ℕ → ℕ → ℕ → Bool
not_beside R σ t d k = eqb k t || (not (in_ordered_of R (σ.node k) d) || not (eqb (σ.encounters k d) (σ.encounters t d)))

-- Whether a step from c to v takes the section x.
abbrev pub TakesBy : Region → ℕ → State → ℕ → ℕ → ℕ → ℕ → Bool → Type 0
TakesBy R m σ c k v x r = (effect : ℕ → Effect) → taking R m σ c k effect (R.role v) ≡ cond r (effect x) None

-- Thread t is not past the k-th instance of c, and has not taken the section x there.
abbrev pub untaken_by : State → ℕ → ℕ → ℕ → ℕ → Bool
untaken_by σ c k x t = leb (σ.encounters t c) k && (not (eqb (σ.encounters t c) k) || not (σ.taken t c x))

-- Of the sections of c, the mask has those that are not untaken.
abbrev pub TakenIn : Region → ℕ → ℕ → (ℕ → Bool) → Type 0
TakenIn R c mask untaken = (x : ℕ) → x < R.constructs → is_section_of R c x ≡ true → Has mask x ↔ (untaken x ≡ false)

-- The constructs of an effect have columns.
abbrev pub Numbered : Effect → Type 0
Numbered None = Unit {0}
Numbered Moves = Unit {0}
Numbered (Leaves c) = c < 48
Numbered (Takes c x) = (c < 48) × (x < 48)
Numbered (TakesNext c x) = (c < 48) × (x < 48)
