-- `call_races::write_races` meets its contract.
-- Assumes nothing.
use Rattle.std.proofs.Common.{Err, rules}
use mathlib.Core.Path.{◌≡◌, sym, ◌∙◌}
use mathlib.Core.Bool.{false}
use mathlib.Core.List.{[]}
use Prim.Native.Nat.{◌/◌, ◌≤◌}
use native.Mathlib.Omega.{arith}
use lib.ListN.{length}
use Rattle.lists.specs.Triangle.{pair_count}
use Rattle.chart.specs.Region.{Region}
use Rattle.chart.specs.Checked.{reading}
use Rattle.output.specs.Output.{output_rows, written_by}
use Rattle.output.proofs.Outputs.{had-room, kept, put}
use Rattle.theory_calls.specs.Access.{total, bad_accesses}
use Rattle.theory_calls.specs.Races.{races}
use Rattle.theory_calls.proofs.RaceLaws.{few-accesses, races-length}
use Rattle.answer_races.proofs.RowsLaws.{few-pairs}
use Rattle.call_races.proofs.Outcome.{list-refused, list-passed}
use Rattle.call_races.proofs.write_races.Goals as goal

pub returns-then-bad_accesses : goal.returns-then-bad_accesses
returns-then-bad_accesses c =
    let read : Region =
    reading c.args.s.now c.args.chart in
    let both = list-refused read c.args.accesses.now c.args.out.now (sym c.bad_accesses.ensures ∙ c.if-bad_accesses.true) in
    record { result_value = both.0; out_after = both.1 }

pub overflow_mul-n : goal.overflow_mul-n
unfolding total
overflow_mul-n c =
    let read : Region =
    reading c.args.s.now c.args.chart in
    let good : bad_accesses read c.args.accesses.now ≡ false =
    sym c.bad_accesses.ensures ∙ c.if-bad_accesses.false in
    let few : length c.args.accesses.now / 4 ≤ 1024 =
    few-accesses read c.args.accesses.now good in
    let n = length c.args.accesses.now / 4 in omega (arith, few-pairs n few)

pub put_races-requires : goal.put_races-requires
unfolding pair_count total
put_races-requires c =
    let read : Region =
    reading c.args.s.now c.args.chart in
    let good : bad_accesses read c.args.accesses.now ≡ false =
    sym c.bad_accesses.ensures ∙ c.if-bad_accesses.false in
    let answers : let size = length (races read c.args.accesses.now) in
    c.room_for.result ≡ written_by (output_rows [] (length c.args.out.now) size []) size =
    rw (races-length read c.args.accesses.now) c.room_for.ensures in (
      c.requires.0,
      c.requires.1,
      good,
      omega (arith, races-length read c.args.accesses.now, (had-room [] [] (length c.args.out.now) _ (sym answers ∙ c.in_ok-size.was)).1),
    )

pub returns-in_err-size : goal.returns-in_err-size
unfolding pair_count total
returns-in_err-size c =
    let read : Region =
    reading c.args.s.now c.args.chart in
    let good : bad_accesses read c.args.accesses.now ≡ false =
    sym c.bad_accesses.ensures ∙ c.if-bad_accesses.false in
    let answers : let size = length (races read c.args.accesses.now) in
    c.room_for.result ≡ written_by (output_rows [] (length c.args.out.now) size []) size =
    rw (races-length read c.args.accesses.now) c.room_for.ensures in
    let list = c.args.accesses.now in
    let h = c.in_err-size.was in
    let p = list-passed read list c.args.out.now good in
    let same : c.from_residual.result ≡ Err c.in_err-size.field-0.0 = search rules in
    record { result_value = same ∙ sym h ∙ answers ∙ sym p.0; out_after = kept _ _ (races read list) _ (sym answers ∙ h) ∙ sym p.1 }

pub returns : goal.returns
unfolding pair_count total
returns c =
    let read : Region =
    reading c.args.s.now c.args.chart in
    let good : bad_accesses read c.args.accesses.now ≡ false =
    sym c.bad_accesses.ensures ∙ c.if-bad_accesses.false in
    let answers : let size = length (races read c.args.accesses.now) in
    c.room_for.result ≡ written_by (output_rows [] (length c.args.out.now) size []) size =
    rw (races-length read c.args.accesses.now) c.room_for.ensures in
    let list = c.args.accesses.now in
    let h = c.in_ok-size.was in
    let p = list-passed read list c.args.out.now good in
    record { result_value = sym h ∙ answers ∙ sym p.0; out_after = c.put_races.ensures ∙ put _ _ (races read list) _ (sym answers ∙ h) ∙ sym p.1 }
