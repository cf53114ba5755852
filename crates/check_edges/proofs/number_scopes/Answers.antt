-- `check_edges::number_scopes` meets its contract: after x turns the first x nodes are in the tables.
-- Assumes nothing.
use mathlib.Core.Path.{◌∙◌}
use Prim.Native.Nat.{◌<◌}
use native.Mathlib.Omega.{arith}
use lib.ListN.{length}
use Rattle.chart.specs.Format.{decode}
use Rattle.chart.specs.Scope.{begin_node, end_node}
use Rattle.chart.proofs.Reading.{begin, end}
use Rattle.chart.proofs.Records.{nodes-length}
use Rattle.check_edges.specs.Tables.{no_leaving, no_arriving, FilledTo}
use Rattle.check_edges.proofs.Scopes.{number-scope, scopes-none, scopes-more}
use Rattle.check_edges.proofs.number_scopes.Goals as goal

pub loop-x-init : goal.loop-x-init
loop-x-init c =
    let D = decode c.args.s.now in
    (omega arith, scopes-none (FilledTo D end_node 0) begin_node no_leaving D, scopes-none (FilledTo D begin_node 0) end_node no_arriving D)

pub loop-x-preserved : goal.loop-x-preserved
loop-x-preserved c =
    let D = decode c.args.s.now in
    let number = c.from-number.ensures ∙ c.read.ensures.1 in
    let x : c.loop-x.x < 256 = omega (arith, c.requires.0.nodes-most) in
    let below : c.loop-x.x < length D.nodes = omega (arith, nodes-length _ c.args.chart c.requires.0) in (
      omega arith,
      scopes-more x c.loop-x.invariant.1 (λ k. number ∙ number-scope begin D c.loop-x.x c.requires.1 below k) (omega arith),
      scopes-more x c.loop-x.invariant.2 (λ k. number ∙ number-scope end D c.loop-x.x c.requires.1 below k) (omega arith),
    )
