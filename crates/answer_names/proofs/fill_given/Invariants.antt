-- The invariants and measures of `answer_names::fill_given`.
use mathlib.Core.Path.{◌≡◌}
use Prim.Native.Nat.{ℕ, ◌≤◌, ◌<◌}
use lib.ListN.{length, get_or}
use Rattle.lists.specs.Mask.{Mask}
use Rattle.chart.specs.Format.{decode}
use Rattle.chart.specs.Checked.{reading}
use Rattle.chart.proofs.RegionFacts.{Counts}
use Rattle.answer_constructs.specs.Chains.{Known}
use Rattle.answer_names.specs.Names.{GivesName}
use Rattle.answer_names.proofs.fill_given.Given as goal

abbrev pub invariant-loop-c : goal.invariant-loop-c
invariant-loop-c l =
    let R = reading l.s l.chart in
    (l.c ≤ l.chart.constructs) × (length l.given ≡ 48) × ((d : ℕ) → d < l.c → Mask (GivesName R (Counts (decode l.s) l.chart.region) d) R.constructs (get_or l.given d 0))
    × Known (decode l.s).constructs l.known
