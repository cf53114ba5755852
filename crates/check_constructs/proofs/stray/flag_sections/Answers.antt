-- `check_constructs::stray::flag_sections` meets its contract. The loop's invariant: the constructs passed have their flags.
-- Assumes nothing.
use mathlib.Core.Path.{◌≡◌, ap, ◌∙◌}
use mathlib.Core.Bool.{cond}
use Prim.Native.Nat.{ℕ}
use native.Mathlib.Omega.{arith}
use lib.Dec.{eqb}
use Rattle.lists.specs.Flags.{as-flag}
use Rattle.chart.specs.Format.{decode}
use Rattle.chart.specs.Scope.{sections_byte}
use Rattle.check_constructs.proofs.StrayLaws.{sections-none, sections-more}
use Rattle.check_constructs.proofs.stray.flag_sections.Goals as goal

pub loop-c-init : goal.loop-c-init
loop-c-init c = (omega arith, rw c.requires.1 (sections-none (decode c.args.s.now).constructs))

pub read-requires : goal.read-requires
read-requires c = (c.requires.0, omega arith)

pub loop-c-preserved : goal.loop-c-preserved
loop-c-preserved c = (
  omega arith,
  sections-more (omega (arith, c.requires.0.constructs-most)) c.loop-c.invariant.1
      (as-flag (eqb c.read.result.kind sections_byte) ∙ ap (λ (kind : ℕ). cond (eqb kind sections_byte) 1 0) c.read.ensures.0),
)

pub returns : goal.returns
returns c =
    let q : c.loop-c.c ≡ c.args.chart.constructs = omega arith in
    rw q at c.loop-c.invariant.1
