-- `answer_names::fill_given` meets its contract. The loop's invariant: the constructs passed have their masks.
-- Assumes nothing.
use mathlib.Core.Path.{◌∙◌}
use native.Mathlib.Omega.{arith}
use lib.ListN.{length-set}
use Rattle.lists.specs.Mask.{Mask}
use Rattle.lists.specs.Store.{stored}
use Rattle.chart.specs.Format.{decode}
use Rattle.chart.specs.Checked.{reading}
use Rattle.chart.proofs.Records.{constructs-length}
use Rattle.chart.proofs.RegionFacts.{Counts}
use Rattle.answer_constructs.proofs.Noted.{known-none}
use Rattle.answer_names.specs.Names.{GivesName}
use Rattle.answer_names.proofs.fill_given.Goals as goal

pub loop-c-init : goal.loop-c-init
loop-c-init c = (omega arith, c.requires.1, λ d l. absurd (omega arith), known-none _)

pub loop-c-preserved : goal.loop-c-preserved
loop-c-preserved c =
    let R = reading c.args.s.now c.args.chart in (
      omega arith,
      length-set c.loop-c.given c.loop-c.c _ ∙ c.loop-c.invariant.1,
      stored (λ d m. Mask (GivesName R (Counts (decode c.args.s.now) c.args.chart.region) d) R.constructs m) c.loop-c.given c.loop-c.c _
          (omega (arith, c.loop-c.invariant.1, c.requires.0.laid.constructs-most)) c.gives.ensures.fact c.loop-c.invariant.2,
      c.gives.ensures.known,
    )

pub returns : goal.returns
returns c =
    record { at = λ d b. c.loop-c.invariant.2 d (omega (arith, constructs-length _ c.args.chart c.requires.0.laid)) }
