-- `call_replay::feed::choose` meets its contract.
-- Assumes nothing.
use mathlib.Core.Path.{◌≡◌, refl, sym, ◌∙◌, ap, subst}
use Prim.Native.Nat.{ℕ, ◌+◌, ◌*◌, ◌≤◌}
use mathlib.Core.List.{[], ◌∷◌, ◌++◌}
use native.Mathlib.Omega.{arith}
use lib.ListN.{length, get_or}
use Rattle.call_replay.specs.Playing.{forbidden, fed}
use Rattle.call_replay.proofs.Sheets.{kept_same, sheet-size, kept-size}
use Rattle.call_replay.proofs.Releases.{released-same}
use Rattle.call_replay.proofs.Choices.{after-by, fed-choose, choose-other, choose-off, choose-last, choose-next, shows-chosen, choice-more, bytes-more, playing-chosen, playing-reached}
use Rattle.call_replay.proofs.feed.choose.Goals as goal

pub returns-then-t-team : goal.returns-then-t-team
returns-then-t-team c = λ R P T L g. (after-by (fed-choose R c.args.m P c.args.t c.args.v g ∙ choose-other R c.args.m P c.args.t c.args.v (λ z. c.if-t-team.true (z ∙ sym L.pending))) (forbidden L), kept_same _ _)

pub leads-requires : goal.leads-requires
leads-requires c = (c.requires.2.long, omega (arith, c.node_of.ensures, c.requires.3.state.byte 0 (omega arith)), c.requires.5)

pub returns-then-not-leads : goal.returns-then-not-leads
returns-then-not-leads c =
    λ R P T L g.
    let x = c.node_of.ensures in
    let edge = ap (λ (n : ℕ). R.edge n c.args.v) (sym (x ∙ L.state.node 0 (omega arith))) ∙ T.edge _ c.args.v (omega (arith, x, L.state.byte 0 (omega arith))) c.requires.5 ∙ sym c.leads.ensures in
    (after-by (fed-choose R c.args.m P c.args.t c.args.v g ∙ choose-off R c.args.m P c.args.t c.args.v (edge ∙ c.if-not-leads.true)) (forbidden L), kept_same _ _)

pub release-requires : goal.release-requires
release-requires c =
    let L = c.requires.3 in
    record { shows = (c.requires.1.state, shows-chosen L c.requires.4 _ c.args.v (c.if-t-team.false ∙ L.pending) _, c.requires.4); by_index = λ t l. bytes-more L c.requires.4 _ c.args.v (c.if-t-team.false ∙ L.pending) c.requires.5 t (omega (arith, L.pending, c.if-t-team.false, c.if-t-m.true)) }

pub at-requires : goal.at-requires
at-requires c = (c.requires.2.long, omega arith)

pub mark_state-requires : goal.mark_state-requires
mark_state-requires c =
    let T = c.requires.2 in
    let L = c.requires.3 in
    let n = c.at.ensures ∙ sym T.nodes in (
      c.requires.4,
      subst (λ (k : ℕ). c.args.rows.count * k ≤ length c.args.out.now) (sym n) c.requires.6,
    )

pub shape_of-out-then-t-m : goal.shape_of-out-then-t-m
shape_of-out-then-t-m c = c.mark_state.ensures.1.long

pub returns-then-t-m : goal.returns-then-t-m
returns-then-t-m c =
    λ R P T L g.
    let x = c.node_of.ensures in
    let edge = ap (λ (n : ℕ). R.edge n c.args.v) (sym (x ∙ L.state.node 0 (omega arith))) ∙ T.edge _ c.args.v (omega (arith, x, L.state.byte 0 (omega arith))) c.requires.5 ∙ sym c.leads.ensures in
    let last : length P.chosen + 1 ≡ c.args.m = omega (arith, L.pending, c.if-t-team.false, c.if-t-m.true) in
    let S = shows-chosen L c.requires.4 _ c.args.v (c.if-t-team.false ∙ L.pending) _ in
    let to = released-same P.state _ (λ k. get_or (P.chosen ++ (c.args.v ∷ [])) k 0) (λ k l. choice-more L c.requires.4 _ c.args.v (c.if-t-team.false ∙ L.pending) k (omega (arith, last))) (c.release.ensures.shows_2 P.state S) in
    let n = c.at.ensures ∙ sym T.nodes in
    let marked = c.mark_state.ensures in
    let sheet = sheet-size (sym n) L.marks in (
      after-by
          (fed-choose R c.args.m P c.args.t c.args.v g ∙ choose-last R c.args.m P c.args.t c.args.v (c.if-t-team.false ∙ L.pending) (edge ∙ c.if-not-leads.false) last)
          (fed (playing-reached P.met _ (omega (arith, L.fewer)) to c.release.ensures.team_after (sheet-size n (marked.0 _ P.met to sheet)))),
      kept-size _ n marked.1,
    )

pub returns : goal.returns
returns c =
    λ R P T L g.
    let x = c.node_of.ensures in
    let edge = ap (λ (n : ℕ). R.edge n c.args.v) (sym (x ∙ L.state.node 0 (omega arith))) ∙ T.edge _ c.args.v (omega (arith, x, L.state.byte 0 (omega arith))) c.requires.5 ∙ sym c.leads.ensures in
    let more : length P.chosen + 1 ≡ c.args.m → ⊥ = λ e. c.if-t-m.false (ap (λ (k : ℕ). k + 1) (c.if-t-team.false ∙ L.pending) ∙ e) in (
      after-by
          (fed-choose R c.args.m P c.args.t c.args.v g ∙ choose-next R c.args.m P c.args.t c.args.v (c.if-t-team.false ∙ L.pending) (edge ∙ c.if-not-leads.false) more)
          (fed (playing-chosen L c.requires.4 _ c.args.v (c.if-t-team.false ∙ L.pending) g c.requires.5 more _ refl)),
      kept_same _ _,
    )
