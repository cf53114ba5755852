-- The line of a node: the nodes that it may meet, and those of them that it has no name in common with, by masks.
-- Assumes nothing.
use Rattle.std.specs.Prelude.{◌≡◌, ◌&&◌, cond, List, ℕ, ◌<◌, eqb, get_or}
use Rattle.lists.specs.Common.{common}
use Rattle.answer_pairs.specs.declared.rules.Profile.{Profile}
use Rattle.masks.specs.declared.unions.Words.{Words}
use Rattle.answer_met.specs.Meets.{meets, NodeSet}
use Rattle.answer_nodes.specs.NodeSets.{ByBit}
use Rattle.answer_races.specs.Bytes.{line_race}
use Rattle.answer_races.specs.declared.lines.Kept.{Kept}
use Rattle.answer_constructs.specs.declared.mask_table.MaskTable.{MaskTable}
use Rattle.answer_races.specs.declared.rows.Line.{Line}

-- What node b is to one with these masks, and these names around it.
unfoldable pub race_by : List ℕ → MaskTable → List ℕ → Profile → ℕ → ℕ → ℕ
race_by closed marks names own around b = cond (eqb (get_or closed b 0) 0 && meets own marks b) (cond (common around (get_or names b 0)) 1 2) 0

pub record LineOf (closed : List ℕ) (marks : MaskTable) (names : List ℕ) (own : Profile) (around : ℕ) (line : Line) : Type 0 where
  pub at : (b : ℕ) → b < 192 → line_race line b ≡ race_by closed marks names own around b

-- What is kept is of nodes with these masks.
abbrev pub MetOf : List ℕ → MaskTable → Kept → Type 0
MetOf closed marks kept = NodeSet closed (meets kept.own marks) kept.met

-- The line of any node that meets these and has these names around it.
abbrev pub LineBy : Words → List (List ℕ) → ℕ → Line → Type 0
LineBy met named around line =
    (closed : List ℕ) (marks : MaskTable) (names : List ℕ) (own : Profile) → NodeSet closed (meets own marks) met → ByBit closed names named
    → LineOf closed marks names own around line
