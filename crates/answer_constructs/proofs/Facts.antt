-- What an accepted chart gives for its masks: the region that it is read for is read from its tables.
-- Assumes nothing.
use mathlib.Core.List.{List}
use Prim.Native.Nat.{ℕ, ◌≤◌}
use native.Mathlib.Omega.{arith}
use lib.ListN.{length}
use Rattle.chart.specs.Format.{decode}
use Rattle.chart.specs.Checked.{reading}
use Rattle.chart.specs.declared.format.Chart.{Chart}
use Rattle.chart.proofs.Records.{constructs-length}
use Rattle.chart.proofs.Reading.{Reads}
use Rattle.chart.proofs.Tables.{lies, scoped}
use Rattle.chart.proofs.RegionFacts.{Counts}
use Rattle.chart.proofs.Whole.{reads}
use Rattle.mark_tables.specs.Tables.{Accepted}
use Rattle.mark_tables.proofs.Accepted.{tables}

module _ (s : List ℕ) (chart : Chart) (A : Accepted s chart) where
  pub few : length (decode s).constructs ≤ 48
  few = omega (arith, constructs-length s chart A.laid, A.laid.constructs-most)

  pub is_read : Reads (reading s chart) (Counts (decode s) chart.region) (lies (decode s)) (scoped (decode s))
  is_read = reads (decode s) (tables s chart A) (omega (arith, few)) chart.region A.named
