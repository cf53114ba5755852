-- The sheet by masks: a row by the masks of its node, and by the sets of nodes that it is written from.
-- Assumes nothing.
use Rattle.std.specs.Prelude.{◌≡◌, false, List, ℕ, ◌*◌, ◌<◌, get_or}
use Rattle.std.specs.Int.Bits.{bit_and}
use Rattle.masks.specs.declared.unions.Words.{Words}
use Rattle.answer_constructs.specs.declared.kinds.Sets.{Sets}
use Rattle.answer_constructs.specs.declared.mask_table.MaskTable.{MaskTable}
use Rattle.answer_pairs.specs.Rules.{profile_at, answer_by}
use Rattle.answer_pairs.specs.declared.rules.Profile.{Profile}
use Rattle.answer_nodes.specs.NodeSets.{SharedFrom, Sharing}
use Rattle.answer_sheet.specs.Eights.{Fence, covered}

-- Entry j of the row of a node with no flag and these masks.
unfoldable pub row_of : List ℕ → Sets → MaskTable → Profile → ℕ → ℕ
row_of closed sets marks own j = covered closed j (answer_by sets own (profile_at marks j))

-- All entries are those of such a row.
abbrev pub RowIs : List ℕ → Sets → MaskTable → Profile → List ℕ → Type 0
RowIs closed sets marks own row = (j : ℕ) → j < 192 → get_or row j 0 ≡ row_of closed sets marks own j

-- No rule but the first can apply to a node that holds this: it holds no construct, and the size of the team adds nothing.
pub record PhaseOnly (sets : Sets) (held : ℕ) : Type 0 where
  pub several : sets.alone ≡ false
  pub holds-none : held ≡ 0
  pub lacks-none : sets.missing ≡ 0

-- The row of any such node whose starts the nodes of one set share, and its ends those of another.
abbrev pub PhaseRow : Words → Words → List ℕ → List ℕ → Type 0
PhaseRow starts ends fence row =
    (closed : List ℕ) (marks : MaskTable) (sets : Sets) (own : Profile) → Fence closed fence → Sharing closed marks.starts own.starts starts
    → Sharing closed marks.ends own.ends ends → PhaseOnly sets own.held → RowIs closed sets marks own row

-- For each rule from rule 2 on the nodes that share with what a node holds a construct of the rule's kind.
pub record RuleSets (closed masks : List ℕ) (held : ℕ) (kinds low middle high : List ℕ) : Type 0 where
  pub in-low : (k : ℕ) → k < 4 → SharedFrom closed masks (bit_and held (get_or kinds k 0)) (64 * 0) (get_or low k 0)
  pub in-middle : (k : ℕ) → k < 4 → SharedFrom closed masks (bit_and held (get_or kinds k 0)) (64 * 1) (get_or middle k 0)
  pub in-high : (k : ℕ) → k < 4 → SharedFrom closed masks (bit_and held (get_or kinds k 0)) (64 * 2) (get_or high k 0)
