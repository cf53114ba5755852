-- Answers that fit C's number.
-- Assumes nothing.
use Rattle.std.specs.Prelude.{◌≤◌}
use Rattle.theory_calls.specs.declared.Counts.{Counts}

pub record SmallCounts (counts : Counts) : Type 0 where
  pub nodes : counts.nodes ≤ 192
  pub barriers : counts.barriers ≤ 64
  pub phases : counts.phases ≤ 4096
