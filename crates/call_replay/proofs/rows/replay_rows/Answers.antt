-- `call_replay::rows::replay_rows` meets its contract.
-- Assumes nothing.
use mathlib.Core.Path.{◌≡◌, sym, ◌∙◌, subst}
use mathlib.Core.Bool.{false}
use Prim.Native.Nat.{ℕ, ◌*◌, ◌≤◌}
use native.Mathlib.Omega.{arith}
use lib.ListN.{length}
use Rattle.chart.specs.Region.{Region}
use Rattle.chart.specs.Checked.{reading}
use Rattle.chart.proofs.Records.{nodes-length}
use Rattle.theory_team.specs.State.{initial}
use Rattle.theory_traces.specs.Replay.{begun}
use Rattle.answer_steps.specs.Tables.{Tabled, Shows}
use Rattle.call_replay.specs.PairsMet.{Kept}
use Rattle.call_replay.proofs.Sheets.{sheet-size, kept-size, kept_then}
use Rattle.call_replay.specs.Playing.{Playing}
use Rattle.call_replay.proofs.Begun.{sheet-blank, playing-begun, kept-cleared}
use Rattle.call_replay.proofs.rows.replay_rows.Goals as goal

-- where the bytes are cleared, and before it
pub mark_state-requires : goal.mark_state-requires
mark_state-requires c =
    let R : Region =
    reading c.args.s.now c.args.chart in
    let tabled : Tabled R c.fill_table.new.table =
    c.fill_table.ensures in
    let shown : Shows (initial R) c.set_team.new.team =
    c.set_team.ensures.shows R tabled in
    (c.requires.2, omega (arith, c.requires.3, c.clear.ensures.0))

-- where the state before the first entry is marked
pub play-requires : goal.play-requires
play-requires c =
    let R : Region =
    reading c.args.s.now c.args.chart in
    let tabled : Tabled R c.fill_table.new.table =
    c.fill_table.ensures in
    let shown : Shows (initial R) c.set_team.new.team =
    c.set_team.ensures.shows R tabled in
    let nodes : R.nodes ≡ c.args.chart.nodes =
    nodes-length _ c.args.chart c.requires.0.laid in
    let begins : Playing R c.args.m c.args.rows (begun R c.args.m) c.set_team.new.team c.mark_state.new.out =
    playing-begun R c.requires.1 shown c.set_team.ensures.team_after
    (sheet-size (sym nodes) (c.mark_state.ensures.0 (initial R) (λ a b. false) shown (sheet-blank _ c.args.rows c.clear.ensures.1))) in
    let kept : Kept (c.args.rows.count * R.nodes) c.args.out.now c.mark_state.new.out =
    kept-size c.args.rows.count (sym nodes) (kept_then (kept-cleared c.clear.ensures.0 c.clear.ensures.2) c.mark_state.ensures.1) in
    let room : c.args.rows.count * R.nodes ≤ length c.args.out.now =
    subst (λ (n : ℕ). c.args.rows.count * n ≤ length c.args.out.now) (sym nodes) c.requires.3 in
    (R, tabled, begins, c.requires.2, omega (arith, room, kept.long))

pub shape_of-out : goal.shape_of-out
shape_of-out c =
    let R : Region =
    reading c.args.s.now c.args.chart in
    let tabled : Tabled R c.fill_table.new.table =
    c.fill_table.ensures in
    let shown : Shows (initial R) c.set_team.new.team =
    c.set_team.ensures.shows R tabled in
    let nodes : R.nodes ≡ c.args.chart.nodes =
    nodes-length _ c.args.chart c.requires.0.laid in
    let begins : Playing R c.args.m c.args.rows (begun R c.args.m) c.set_team.new.team c.mark_state.new.out =
    playing-begun R c.requires.1 shown c.set_team.ensures.team_after
    (sheet-size (sym nodes) (c.mark_state.ensures.0 (initial R) (λ a b. false) shown (sheet-blank _ c.args.rows c.clear.ensures.1))) in
    let kept : Kept (c.args.rows.count * R.nodes) c.args.out.now c.mark_state.new.out =
    kept-size c.args.rows.count (sym nodes) (kept_then (kept-cleared c.clear.ensures.0 c.clear.ensures.2) c.mark_state.ensures.1) in
    (c.play.ensures R tabled begins).2.long ∙ kept.long

pub returns : goal.returns
returns c =
    let R : Region =
    reading c.args.s.now c.args.chart in
    let tabled : Tabled R c.fill_table.new.table =
    c.fill_table.ensures in
    let shown : Shows (initial R) c.set_team.new.team =
    c.set_team.ensures.shows R tabled in
    let nodes : R.nodes ≡ c.args.chart.nodes =
    nodes-length _ c.args.chart c.requires.0.laid in
    let begins : Playing R c.args.m c.args.rows (begun R c.args.m) c.set_team.new.team c.mark_state.new.out =
    playing-begun R c.requires.1 shown c.set_team.ensures.team_after
    (sheet-size (sym nodes) (c.mark_state.ensures.0 (initial R) (λ a b. false) shown (sheet-blank _ c.args.rows c.clear.ensures.1))) in
    let kept : Kept (c.args.rows.count * R.nodes) c.args.out.now c.mark_state.new.out =
    kept-size c.args.rows.count (sym nodes) (kept_then (kept-cleared c.clear.ensures.0 c.clear.ensures.2) c.mark_state.ensures.1) in
    let (answer, left, rest) = c.play.ensures R tabled begins in
    record { result_value = answer; fact = left; fact_2 = kept_then kept rest }
