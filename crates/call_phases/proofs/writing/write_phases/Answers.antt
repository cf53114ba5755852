-- `call_phases::writing::write_phases` meets its contract.
-- Assumes nothing.
use Rattle.std.proofs.Common.{◌≡◌, Err, rules, sym, ◌∙◌}
use mathlib.Core.Path.{ap}
use mathlib.Core.List.{[]}
use Prim.Native.Nat.{ℕ, ◌*◌}
use lib.ListN.{length}
use Rattle.lists.specs.Tab.{tab-length}
use Rattle.chart.specs.Region.{Region}
use Rattle.output.specs.Output.{output_rows, written_by}
use Rattle.output.proofs.Outputs.{had-room, kept, put}
use Rattle.theory_calls.specs.Phases.{phase_byte, phases_result}
use Rattle.call_phases.proofs.writing.write_phases.Goals as goal

size : (R : Region) (n : ℕ) → R.nodes ≡ n → length (phases_result R) ≡ 16 * n
unfolding phases_result
size R n q = tab-length (16 * R.nodes) (phase_byte R) ∙ ap (λ (k : ℕ). 16 * k) q

pub fill_phases-requires : goal.fill_phases-requires
fill_phases-requires c =
    (c.requires, (had-room [] [] (length c.args.out.now) (16 * c.args.n) (sym c.room_for.ensures ∙ c.in_ok-size.was)).1)

pub returns-in_err-size : goal.returns-in_err-size
returns-in_err-size c =
    let answers : (R : Region) → R.nodes ≡ c.args.n
    → c.room_for.result ≡ written_by (output_rows [] (length c.args.out.now) (length (phases_result R)) []) (length (phases_result R)) =
    λ R q. rw (size R c.args.n q) c.room_for.ensures in
    let h = c.in_err-size.was in
    let same : c.from_residual.result ≡ Err c.in_err-size.field-0.0 = search rules in
    record { value = λ R q. same ∙ sym h ∙ answers R q; of_masks = λ R q S E. kept _ _ (phases_result R) _ (sym (answers R q) ∙ h) }

pub returns : goal.returns
returns c =
    let answers : (R : Region) → R.nodes ≡ c.args.n
    → c.room_for.result ≡ written_by (output_rows [] (length c.args.out.now) (length (phases_result R)) []) (length (phases_result R)) =
    λ R q. rw (size R c.args.n q) c.room_for.ensures in
    let h = c.in_ok-size.was in
    record { value = (λ R q. sym h ∙ answers R q); of_masks = λ R q S E. c.fill_phases.ensures R q S E ∙ put _ _ (phases_result R) _ (sym (answers R q) ∙ h) }
