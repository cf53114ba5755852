-- `call_distances::write_distances` meets its contract.
-- Assumes nothing.
use Rattle.std.proofs.Common.{◌≡◌, Err, rules, sym, ◌∙◌}
use mathlib.Core.List.{[]}
use lib.ListN.{length}
use Rattle.lists.specs.Tab.{tab-length}
use Rattle.chart.specs.Region.{Region}
use Rattle.chart.specs.Checked.{reading}
use Rattle.chart.proofs.Records.{nodes-length}
use Rattle.output.specs.Output.{output_rows, written_by}
use Rattle.output.proofs.Outputs.{had-room, kept, put}
use Rattle.theory_calls.specs.Distances.{distance_byte, distances_result}
use Rattle.call_distances.proofs.write_distances.Goals as goal

pub fill_distances-requires : goal.fill_distances-requires
fill_distances-requires c =
    (c.requires.0.laid.nodes-most, (had-room [] [] (length c.args.out.now) c.args.chart.nodes (sym c.room_for.ensures ∙ c.in_ok-size.was)).1)

pub returns-in_err-size : goal.returns-in_err-size
unfolding distances_result
returns-in_err-size c =
    let R : Region =
    reading c.args.s.now c.args.chart in
    let nodes : R.nodes ≡ c.args.chart.nodes =
    nodes-length _ c.args.chart c.requires.0.laid in
    let size : length (distances_result R) ≡ c.args.chart.nodes =
    tab-length R.nodes (distance_byte R) ∙ nodes in
    let answers : let n = length (distances_result R) in
    c.room_for.result ≡ written_by (output_rows [] (length c.args.out.now) n []) n =
    rw size c.room_for.ensures in
    let h = c.in_err-size.was in
    let same : c.from_residual.result ≡ Err c.in_err-size.field-0.0 = search rules in
    record { result_value = same ∙ sym h ∙ answers; out_after = kept _ _ (distances_result R) _ (sym answers ∙ h) }

pub returns : goal.returns
unfolding distances_result
returns c =
    let R : Region =
    reading c.args.s.now c.args.chart in
    let nodes : R.nodes ≡ c.args.chart.nodes =
    nodes-length _ c.args.chart c.requires.0.laid in
    let size : length (distances_result R) ≡ c.args.chart.nodes =
    tab-length R.nodes (distance_byte R) ∙ nodes in
    let answers : let n = length (distances_result R) in
    c.room_for.result ≡ written_by (output_rows [] (length c.args.out.now) n []) n =
    rw size c.room_for.ensures in
    let h = c.in_ok-size.was in
    record { result_value = sym h ∙ answers; out_after = c.fill_distances.ensures R nodes c.load_closed.ensures c.requires.1 ∙ put _ _ (distances_result R) _ (sym answers ∙ h) }
