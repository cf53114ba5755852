-- What the pair rules read of a node, as masks: its starts and ends, with a bit for each barrier, and the constructs that it holds. A rule
-- is then a common bit of two nodes' masks (crate answer_pairs, specs/Rules.antt).
-- Assumes nothing.
use Rattle.std.specs.Prelude.{◌≡◌, true, false, List, ℕ, zero, suc, ◌≤◌, ◌<◌, leb, get_or}
use Rattle.lists.specs.Mask.{Mask}
use Rattle.chart.specs.Region.{Kind, single, master, critical, loop, ordered, sections, section, parallel, Region}
use Rattle.chart.specs.InOrdered.{InOrdered}
use Rattle.chart.specs.InSection.{InSection}
use Rattle.chart.specs.WellFormed.{WellFormed}
use Rattle.theory_answers.specs.Unexcluded.{Returns, In}
use Rattle.theory_answers.specs.declared.Size.{Size}
use Rattle.theory_answers.specs.declared.Size.TheVariants.{Any, Of}
use Rattle.theory_paths.specs.Phases.{forward, backward}
use Rattle.mark_tables.specs.Tables.{Masks}
use Rattle.answer_constructs.specs.declared.mask_table.MaskTable.{MaskTable}
use Rattle.answer_constructs.specs.declared.kinds.Sets.{Sets}

-- What makes node x hold construct d, by the kind of d. Two nodes that hold one construct in common are excluded by the rule of its kind.
abbrev pub Holds : Region → ℕ → ℕ → Kind → Type 0
Holds R x d single = (R.inside x d ≡ true) × (Returns R d → ⊥)
Holds R x d master = (c : ℕ) × (In R master x c × (R.thread c ≡ R.thread d))
Holds R x d critical = ⊥
Holds R x d loop = InOrdered R x d × (Returns R d → ⊥)
Holds R x d ordered = ⊥
Holds R x d sections = ⊥
Holds R x d section = InSection R x d × (Returns R (R.parent d) → ⊥)
Holds R x d parallel = ⊥

-- The mask of the constructs that x holds, and that of the constructs of a kind.
abbrev pub Held : Region → ℕ → ℕ → Type 0
Held R x m = Mask (λ d. Holds R x d (R.kind d)) R.constructs m

abbrev pub OfKind : Region → Kind → ℕ → Type 0
OfKind R kind m = Mask (λ d. R.kind d ≡ kind) R.constructs m

-- The kind of construct that the k-th rule from rule 2 on asks for.
abbrev pub rule_kind : ℕ → Kind
rule_kind zero = master
rule_kind (suc zero) = single
rule_kind (suc (suc zero)) = loop
rule_kind (suc (suc (suc k))) = section

-- The masks of the constructs of these kinds, in the order of the rules.
abbrev pub Kinds : Region → List ℕ → Type 0
Kinds R kinds = (k : ℕ) → k < 4 → OfKind R (rule_kind k) (get_or kinds k 0)

-- Master d is for a thread that a team of m lacks.
abbrev pub Lacked : Region → ℕ → ℕ → Type 0
Lacked R m d = (R.kind d ≡ master) × (m ≤ R.thread d)

-- What the sets say of the teams that an answer is for.
abbrev pub Sized : Region → Size → Sets → Type 0
Sized R Any sets = (sets.alone ≡ false) × (sets.missing ≡ 0)
Sized R (Of m) sets = (sets.alone ≡ leb m 1) × Mask (Lacked R m) R.constructs sets.missing

-- All masks of all nodes, and those of the rules' kinds.
pub record Marks (R : Region) (marks : MaskTable) (kinds : List ℕ) : Type 0 where
  pub well-formed : WellFormed R
  pub few : R.nodes ≤ 192
  pub has-starts : Masks forward R marks.starts
  pub has-ends : Masks backward R marks.ends
  pub has-held : (x : ℕ) → x < R.nodes → Held R x (get_or marks.held x 0)
  pub none-past : (x : ℕ) → R.nodes ≤ x → get_or marks.held x 0 ≡ 0
  pub has-kinds : Kinds R kinds
