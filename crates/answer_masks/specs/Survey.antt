-- What the entrance of the calls that answer pairs has found a chart to be that it does not refuse: the chart is accepted, and all its nodes have
-- their masks.
-- Assumes nothing.
use Rattle.std.specs.Prelude.{◌≡◌, List, ℕ, replicate}
use Rattle.chart.specs.Checked.{reading}
use Rattle.chart.specs.declared.format.Chart.{Chart}
use Rattle.mark_tables.specs.Tables.{Accepted}
use Rattle.answer_constructs.specs.Marks.{Marks}
use Rattle.answer_constructs.specs.declared.mask_table.MaskTable.{MaskTable}

-- No node has a mask yet; what the table says of kinds does not matter.
abbrev pub Blank : MaskTable → Type 0
Blank marks = (marks.starts ≡ replicate 192 0) × (marks.ends ≡ replicate 192 0) × (marks.held ≡ replicate 192 0)

pub record Survey (s : List ℕ) (chart : Chart) (marks : MaskTable) : Type 0 where
  pub accepted : Accepted s chart
  pub marked : Marks (reading s chart) marks marks.kinds
