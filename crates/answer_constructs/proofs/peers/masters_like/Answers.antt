-- `answer_constructs::peers::masters_like` meets its contract.
-- Assumes nothing.
use native.Mathlib.Omega.{arith}
use Rattle.chart.proofs.Records.{constructs-length}
use Rattle.answer_constructs.proofs.Masters.{all-peers, like-peers}
use Rattle.answer_constructs.proofs.peers.masters_like.Goals as goal

pub returns-then-chart-ne-EDITION_2 : goal.returns-then-chart-ne-EDITION_2
returns-then-chart-ne-EDITION_2 c =
    record { fact = (λ k. all-peers _ c.args.chart c.requires.0 c.args.c c.if-chart-ne-EDITION_2.true c.requires.2); known = c.requires.3 }

pub returns : goal.returns
returns c =
    let n = constructs-length _ c.args.chart c.requires.0.laid in
    let (q, K) = c.noted_peers.ensures in
    record { fact = (λ k. rw q (like-peers _ c.args.chart c.requires.0 c.args.c (omega (arith, n, c.requires.1)) k)); known = K }
