-- The invariants and measures of `answer_steps::columns::fill_constructs`.
use Prim.Native.Nat.{◌+◌, ◌*◌, ◌-◌, ◌≤◌}
use Rattle.chart.specs.Format.{decode}
use Rattle.answer_steps.specs.Words.{Column, construct_word}
use Rattle.answer_steps.proofs.columns.fill_constructs.Given as goal

abbrev pub invariant-loop-c : goal.invariant-loop-c
invariant-loop-c l = (l.c ≤ l.chart.constructs) × Column (1792 + 48 * l.which) l.c (construct_word (decode l.s) l.framing.begins l.framing.ends l.which) l.initial.table l.table
