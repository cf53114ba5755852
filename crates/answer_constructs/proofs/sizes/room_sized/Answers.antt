-- `answer_constructs::sizes::room_sized` meets its contract: row 11, then row 21.
-- Assumes nothing.
use Rattle.std.proofs.Common.{Err, rules}
use mathlib.Core.Path.{◌≡◌, sym, ◌∙◌}
use mathlib.Core.Bool.{cond}
use mathlib.Core.List.{[]}
use mathlib.Core.Option.{none, some}
use Rattle.chart.specs.Refusal.{first_of}
use Rattle.theory_answers.specs.Size.{size_rows}
use Rattle.output.specs.Output.{output_rows}
use Rattle.output.proofs.Outputs.{room-refused, room-passed, refused, passed}
use Rattle.answer_constructs.proofs.sizes.room_sized.Goals as goal
use Rattle.chart.specs.declared.format.Refusal.TheVariants.{BadSize}

pub returns-then-bad_size : goal.returns-then-bad_size
returns-then-bad_size c =
    let sized : let e = c.args in
    (first_of (output_rows [] e.room e.bytes (size_rows e.size)) ≡ cond c.bad_size.result (some BadSize) none) × (e.bytes ≡ c.in_ok-count.count) =
    let e = c.args in
    let (p, q) = room-passed e.room e.bytes (size_rows e.size) (sym c.room_for.ensures ∙ c.in_ok-count.was) in
    (p ∙ c.bad_size.ensures, q) in
    (refused _ _ [] [] (rw c.if-bad_size.true at sized.0)).0

pub returns-in_err-count : goal.returns-in_err-count
returns-in_err-count c =
    let e = c.args in
    let same : c.from_residual.result ≡ Err c.in_err-count.field-0.0 = search rules in
    same ∙ (refused _ _ [] [] (room-refused e.room e.bytes (size_rows e.size) (sym c.room_for.ensures ∙ c.in_err-count.was))).0

pub returns : goal.returns
returns c =
    let sized : let e = c.args in
    (first_of (output_rows [] e.room e.bytes (size_rows e.size)) ≡ cond c.bad_size.result (some BadSize) none) × (e.bytes ≡ c.in_ok-count.count) =
    let e = c.args in
    let (p, q) = room-passed e.room e.bytes (size_rows e.size) (sym c.room_for.ensures ∙ c.in_ok-count.was) in
    (p ∙ c.bad_size.ensures, q) in
    let (p, q) = sized in (passed _ _ [] [] q (rw c.if-bad_size.false at p)).0
