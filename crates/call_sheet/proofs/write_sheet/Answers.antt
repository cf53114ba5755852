-- `call_sheet::write_sheet` meets its contract: rows 11 and 21, then the bytes.
-- Assumes nothing.
use Rattle.std.proofs.Common.{Err, rules}
use mathlib.Core.Path.{◌≡◌, ap, sym, ◌∙◌}
use mathlib.Core.List.{List, []}
use Prim.Native.Nat.{ℕ, ◌*◌}
use native.Mathlib.Omega.{arith}
use lib.ListN.{length}
use Rattle.lists.specs.Rows.{square}
use Rattle.chart.specs.Checked.{reading}
use Rattle.chart.proofs.Records.{nodes-length}
use Rattle.theory_answers.specs.Answer.{answer_for}
use Rattle.theory_answers.specs.Size.{size_rows}
use Rattle.theory_answers.specs.Sheet.{sheet, sheet-length}
use Rattle.output.specs.Output.{output_rows, written_by}
use Rattle.output.proofs.Outputs.{had-room, kept, put}
use Rattle.call_sheet.proofs.write_sheet.Goals as goal

pub overflow_mul-n : goal.overflow_mul-n
overflow_mul-n c = omega (arith, square c.requires.0.laid.nodes-most)

pub fill_sheet-requires : goal.fill_sheet-requires
fill_sheet-requires c =
    (c.requires.0, c.requires.1, (had-room [] (size_rows c.args.size) (length c.args.out.now) _ (sym c.room_sized.ensures ∙ c.in_ok-bytes.was)).1)

pub returns-in_err-bytes : goal.returns-in_err-bytes
returns-in_err-bytes c =
    let result : List ℕ =
    let R = reading c.args.s.now c.args.chart in
    sheet R (answer_for R c.args.size) in
    let answers : c.room_sized.result ≡ written_by (output_rows [] (length c.args.out.now) (length result) (size_rows c.args.size)) (length result) =
    let R = reading c.args.s.now c.args.chart in
    rw (sheet-length R (answer_for R c.args.size) ∙ ap (λ (k : ℕ). k * k) (nodes-length _ c.args.chart c.requires.0.laid)) c.room_sized.ensures in
    let h = c.in_err-bytes.was in
    let same : c.from_residual.result ≡ Err c.in_err-bytes.field-0.0 = search rules in
    record { result_value = same ∙ sym h ∙ answers; out_after = kept _ _ result c.args.out.now (sym answers ∙ h) }

pub returns : goal.returns
returns c =
    let result : List ℕ =
    let R = reading c.args.s.now c.args.chart in
    sheet R (answer_for R c.args.size) in
    let answers : c.room_sized.result ≡ written_by (output_rows [] (length c.args.out.now) (length result) (size_rows c.args.size)) (length result) =
    let R = reading c.args.s.now c.args.chart in
    rw (sheet-length R (answer_for R c.args.size) ∙ ap (λ (k : ℕ). k * k) (nodes-length _ c.args.chart c.requires.0.laid)) c.room_sized.ensures in
    let h = c.in_ok-bytes.was in
    record { result_value = sym h ∙ answers; out_after = c.fill_sheet.ensures ∙ put _ _ result c.args.out.now (sym answers ∙ h) }
