-- `answer_constructs::peers::noted_peers` meets its contract.
-- Assumes nothing.
use mathlib.Core.Path.{◌≡◌, refl}
use Prim.Native.Nat.{◌<◌}
use native.Mathlib.Omega.{arith}
use lib.ListN.{length}
use Rattle.chart.specs.Format.{decode}
use Rattle.chart.proofs.Records.{constructs-length}
use Rattle.answer_constructs.specs.Chains.{like_mask}
use Rattle.answer_constructs.proofs.Noted.{known-there, known-added}
use Rattle.answer_constructs.proofs.peers.noted_peers.Goals as goal

pub returns-then-noted-ne0 : goal.returns-then-noted-ne0
returns-then-noted-ne0 c =
    let below : c.args.c < length (decode c.args.s.now).constructs =
    omega (arith, constructs-length _ c.args.chart c.requires.0, c.requires.1) in
    (known-there _ c.requires.2 c.args.c below c.if-noted-ne0.true, c.requires.2)

pub returns : goal.returns
returns c =
    let f = c.read.ensures in
    let n = constructs-length _ c.args.chart c.requires.0 in
    let q : c.peers-same.result ≡ like_mask (decode c.args.s.now).constructs c.args.c = rw (c.peers-same.ensures, f.0, f.2, f.3, ← n) refl in
    (q, known-added _ c.requires.2 (omega (arith, n, c.requires.0.constructs-most)) c.args.c (rw q at c.add.ensures))
