-- `check_constructs::stray::stray_nodes` meets its contract: after x turns the first x nodes are asked.
-- Assumes nothing.
use mathlib.Core.Bool.{cond}
use mathlib.Core.Path.{◌≡◌, refl, ap, ◌∙◌}
use Prim.Native.Nat.{ℕ}
use native.Mathlib.Omega.{arith}
use lib.Dec.{ltb}
use lib.ListN.{length}
use Rattle.lists.specs.Flags.{as-flag, flag-asks}
use Rattle.lists.specs.Range.{any}
use Rattle.chart.specs.Format.{decode}
use Rattle.chart.specs.Scope.{begin_node}
use Rattle.chart.specs.Refusal.{stray_node}
use Rattle.chart.proofs.Records.{nodes-length, constructs-length}
use Rattle.check_constructs.proofs.StrayLaws.{stray-more}
use Rattle.check_constructs.proofs.stray.stray_nodes.Goals as goal

pub flag_sections-requires : goal.flag_sections-requires
flag_sections-requires c = (c.requires, refl)

pub loop-x-init : goal.loop-x-init
unfolding any
loop-x-init c = (omega arith, refl)

pub read-node-requires : goal.read-node-requires
read-node-requires c = (c.requires, omega arith)

pub loop-x-preserved : goal.loop-x-preserved
loop-x-preserved c = (
  omega arith,
  stray-more (decode c.args.s.now) c.loop-x.x (constructs-length _ c.args.chart c.requires) c.flag_sections.ensures
      (as-flag (ltb c.read-node.result.kind begin_node) ∙ ap (λ (kind : ℕ). cond (ltb kind begin_node) 1 0) c.read-node.ensures.0) (c.from.ensures ∙ c.read-node.ensures.1) c.loop-x.invariant.1,
)

pub returns : goal.returns
returns c =
    let D = decode c.args.s.now in
    let q : c.loop-x.x ≡ length D.nodes = omega (arith, nodes-length _ c.args.chart c.requires) in
    rw (c.loop-x.invariant.1, flag-asks) (ap (λ (k : ℕ). any k (stray_node D)) q)
