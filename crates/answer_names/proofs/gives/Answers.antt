-- `answer_names::gives` meets its contract.
-- Assumes nothing.
use Rattle.std.proofs.Common.{◌≡◌, sym, ◌∙◌, ◌<◌, arith, length}
use Rattle.lists.specs.Truth.{clash}
use Rattle.chart.specs.Format.{decode}
use Rattle.chart.specs.Nested.{counts_in}
use Rattle.chart.proofs.Records.{constructs-length}
use Rattle.answer_names.proofs.Peers.{member_of, gives_none, other-kind, gives-peers}
use Rattle.answer_names.proofs.gives.Goals as goal
use Rattle.answer_names.proofs.gives.Goals.{else-has-via-then-has+else-read-eq-CRITICAL, else-has-via-else-has}

pub returns-then-read-eq-CRITICAL-clause-fact : goal.returns-then-read-eq-CRITICAL-clause-fact
returns-then-read-eq-CRITICAL-clause-fact c =
    let member : c.has.result ≡ counts_in (decode c.args.s.now).constructs c.args.chart.region c.args.c =
    c.has.ensures ∙ member_of _ c.args.chart c.requires.0 c.args.members c.args.c c.requires.2 c.requires.1 in
    let below : c.args.c < length (decode c.args.s.now).constructs =
    omega (arith, constructs-length _ c.args.chart c.requires.0.laid, c.requires.1) in
    rw c.noted_peers.ensures.0 (gives-peers _ c.args.chart c.requires.0 c.args.c (below, sym member ∙ c.if-has.true) (sym c.read.ensures.0 ∙ c.if-read-eq-CRITICAL.true))

pub returns-else-has-clause-fact : goal.returns-else-has-clause-fact
returns-else-has-clause-fact c =
    let member : c.has.result ≡ counts_in (decode c.args.s.now).constructs c.args.chart.region c.args.c =
    c.has.ensures ∙ member_of _ c.args.chart c.requires.0 c.args.members c.args.c c.requires.2 c.requires.1 in
    let below : c.args.c < length (decode c.args.s.now).constructs =
    omega (arith, constructs-length _ c.args.chart c.requires.0.laid, c.requires.1) in
    elim c.else-has.branch [
      | else-has-via-then-has+else-read-eq-CRITICAL w ↦ other-kind _ c.args.chart c.requires.0 c.args.c below (λ k. w.if-read-eq-CRITICAL.false (w.read.ensures.0 ∙ k))
      | else-has-via-else-has w ↦ gives_none _ c.args.chart c.requires.0 c.args.c (λ n. clash n.1 (sym member ∙ w.if-has.false))
    ]
