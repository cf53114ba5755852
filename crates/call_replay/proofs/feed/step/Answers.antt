-- `call_replay::feed::step` meets its contract.
-- Assumes nothing.
use mathlib.Core.Path.{refl, sym, ◌∙◌, ap, subst}
use Prim.Native.Nat.{ℕ, ◌*◌, ◌≤◌, ◌<◌}
use native.Mathlib.Omega.{arith}
use lib.ListN.{length}
use Rattle.theory_traces.specs.Decide.{decide, apply, allowed}
use Rattle.answer_steps.proofs.Stores.{applied}
use Rattle.call_replay.specs.Playing.{forbidden, fed}
use Rattle.call_replay.proofs.Sheets.{sheet-same, kept_same, sheet-size, kept-size}
use Rattle.call_replay.proofs.Meetings.{apply-others, stepped-meet}
use Rattle.call_replay.proofs.Choices.{after-by, fed-none, fed-step, allowed-in, shows-past, playing-reached}
use Rattle.call_replay.proofs.feed.step.Goals as goal

pub decide-effect-requires : goal.decide-effect-requires
decide-effect-requires c =
    (record { region = c.requires.ready.0; state = c.requires.ready.1.state; tabled = c.requires.ready.2; shows = c.requires.ready.3.state; low = c.requires.by_index }, c.requires.ready.4, c.requires.ready.5)

pub returns-then-not-is_allowed : goal.returns-then-not-is_allowed
returns-then-not-is_allowed c =
    λ R P T L g.
    let e = c.decide-effect.ensures.of_states R P.state T L.state in
    (after-by (fed-none R c.args.m P c.args.t c.args.v g (ap allowed (sym e) ∙ sym c.is_allowed.ensures ∙ c.if-not-is_allowed.true)) (forbidden L), kept_same _ _)

pub apply-requires : goal.apply-requires
apply-requires c =
    let (R, P, T, L, few, low, room) = c.requires.ready in
    let e = c.decide-effect.ensures.of_states R P.state T L.state in
    let al = ap allowed (sym e) ∙ sym c.is_allowed.ensures ∙ c.if-not-is_allowed.false in
    let less : c.args.t < 8 = omega (arith, allowed-in R c.args.m P c.args.t c.args.v al, few) in
    (P.state, L.state, less, low, c.decide-effect.ensures.numbered, λ k l. c.requires.by_index c.args.t k less l)

pub at-requires : goal.at-requires
at-requires c = (c.requires.ready.2.long, omega arith)

pub mark_thread-requires : goal.mark_thread-requires
mark_thread-requires c =
    let (R, P, T, L, few, low, room) = c.requires.ready in
    let e = c.decide-effect.ensures.of_states R P.state T L.state in
    let al = ap allowed (sym e) ∙ sym c.is_allowed.ensures ∙ c.if-not-is_allowed.false in
    let n = c.at.ensures ∙ sym T.nodes in (
      few,
      allowed-in R c.args.m P c.args.t c.args.v al,
      subst (λ (k : ℕ). c.args.rows.count * k ≤ length c.args.out.now) (sym n) room,
    )

pub shape_of-out : goal.shape_of-out
shape_of-out c = c.mark_thread.ensures.1.long

pub returns : goal.returns
returns c =
    λ R P T L g.
    let e = c.decide-effect.ensures.of_states R P.state T L.state in
    let al = ap allowed (sym e) ∙ sym c.is_allowed.ensures ∙ c.if-not-is_allowed.false in
    let S = applied P.state c.args.t c.args.v (sym e) (c.apply.ensures P.state L.state) in
    let S' = shows-past _ 0 S.room S in
    let n = c.at.ensures ∙ sym T.nodes in
    let marked = c.mark_thread.ensures in
    let σ' = apply P.state c.args.t c.args.v (decide R c.args.m P.state c.args.t c.args.v) in
    let same = stepped-meet c.args.m c.args.t P.state σ' P.met (allowed-in R c.args.m P c.args.t c.args.v al) (apply-others P.state c.args.t c.args.v _) L.own in (
      after-by (fed-step R c.args.m P c.args.t c.args.v g al)
          (fed (playing-reached P.met _ (omega (arith, L.fewer)) S' refl (sheet-same same (sheet-size n (marked.0 _ P.met S' (sheet-size (sym n) L.marks)))))),
      kept-size _ n marked.1,
    )
