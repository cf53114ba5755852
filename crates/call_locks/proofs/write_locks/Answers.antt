-- `call_locks::write_locks` meets its contract: rows 11 and 21, then the bytes.
-- Assumes nothing.
use Rattle.std.proofs.Common.{Err, rules}
use mathlib.Core.Path.{◌≡◌, sym, ◌∙◌}
use mathlib.Core.List.{List, []}
use Prim.Native.Nat.{ℕ}
use lib.ListN.{length}
use Rattle.lists.specs.Tab.{tab-length}
use Rattle.chart.specs.Checked.{reading}
use Rattle.chart.proofs.Records.{constructs-length}
use Rattle.theory_answers.specs.Size.{size_rows}
use Rattle.theory_calls.specs.Locks.{lock_byte, locks_result}
use Rattle.output.specs.Output.{output_rows, written_by}
use Rattle.output.proofs.Outputs.{had-room, kept, put}
use Rattle.call_locks.proofs.write_locks.Goals as goal

pub put_locks-requires : goal.put_locks-requires
put_locks-requires c =
    (c.requires.0, c.requires.1, (had-room [] (size_rows c.args.size) (length c.args.out.now) _ (sym c.room_sized.ensures ∙ c.in_ok-bytes.was)).1)

pub returns-in_err-bytes : goal.returns-in_err-bytes
unfolding locks_result
returns-in_err-bytes c =
    let result : List ℕ =
    locks_result (reading c.args.s.now c.args.chart) c.args.size in
    let answers : c.room_sized.result ≡ written_by (output_rows [] (length c.args.out.now) (length result) (size_rows c.args.size)) (length result) =
    let R = reading c.args.s.now c.args.chart in
    rw (tab-length R.constructs (lock_byte R c.args.size) ∙ constructs-length _ c.args.chart c.requires.0.laid) c.room_sized.ensures in
    let h = c.in_err-bytes.was in
    let same : c.from_residual.result ≡ Err c.in_err-bytes.field-0.0 = search rules in
    record { result_value = same ∙ sym h ∙ answers; out_after = kept _ _ result c.args.out.now (sym answers ∙ h) }

pub returns : goal.returns
unfolding locks_result
returns c =
    let result : List ℕ =
    locks_result (reading c.args.s.now c.args.chart) c.args.size in
    let answers : c.room_sized.result ≡ written_by (output_rows [] (length c.args.out.now) (length result) (size_rows c.args.size)) (length result) =
    let R = reading c.args.s.now c.args.chart in
    rw (tab-length R.constructs (lock_byte R c.args.size) ∙ constructs-length _ c.args.chart c.requires.0.laid) c.room_sized.ensures in
    let h = c.in_ok-bytes.was in
    record { result_value = sym h ∙ answers; out_after = c.put_locks.ensures ∙ put _ _ result c.args.out.now (sym answers ∙ h) }
