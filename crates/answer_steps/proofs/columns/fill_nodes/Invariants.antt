-- The invariants and measures of `answer_steps::columns::fill_nodes`.
use Prim.Native.Nat.{◌+◌, ◌*◌, ◌-◌, ◌≤◌}
use Rattle.chart.specs.Format.{decode}
use Rattle.answer_steps.specs.Words.{Column, node_word}
use Rattle.answer_steps.proofs.columns.fill_nodes.Given as goal

abbrev pub invariant-loop-x : goal.invariant-loop-x
invariant-loop-x l = (l.x ≤ l.chart.nodes) × Column (1024 + 256 * l.which) l.x (node_word (decode l.s) l.chart.region l.members l.which) l.initial.table l.table
