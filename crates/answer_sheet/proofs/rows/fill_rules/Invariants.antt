-- The invariants and measures of `answer_sheet::rows::fill_rules`.
use mathlib.Core.Path.{◌≡◌}
use mathlib.Core.List.{List}
use Prim.Native.Nat.{ℕ, ◌*◌, ◌≤◌, ◌<◌}
use lib.Bits.{bit_and}
use lib.ListN.{length, get_or}
use Rattle.answer_nodes.specs.NodeSets.{InSets, SharedFrom}
use Rattle.answer_sheet.proofs.rows.fill_rules.Given as goal
use Rattle.answer_nodes.specs.declared.NodeSets.{NodeSets}
use Rattle.answer_constructs.specs.declared.mask_table.MaskTable.{MaskTable}

abbrev pub Shares : ℕ → List ℕ → List ℕ → MaskTable → ℕ → ℕ → ℕ → Type 0
Shares held kinds closed marks w j set = SharedFrom closed marks.held (bit_and held (get_or kinds j 0)) (64 * w) set

-- those of the rules below k
abbrev pub Filled : ℕ → NodeSets → List ℕ → ℕ → ℕ → List ℕ → Type 0
Filled held nodes kinds w k sets =
    (closed : List ℕ) (marks : MaskTable) → InSets closed marks nodes → (j : ℕ) → j < k → Shares held kinds closed marks w j (get_or sets j 0)

abbrev pub invariant-loop-k : goal.invariant-loop-k
invariant-loop-k l =
    (l.k ≤ 4) × (length l.low ≡ 4) × (length l.middle ≡ 4) × (length l.high ≡ 4)
    × Filled l.held l.nodes l.kinds 0 l.k l.low × Filled l.held l.nodes l.kinds 1 l.k l.middle × Filled l.held l.nodes l.kinds 2 l.k l.high
