-- `call_edges::remove::remove_from` meets its contract.
-- Assumes nothing.
use Rattle.std.proofs.Common.{◌≡◌, Err, rules, sym, ◌∙◌}
use mathlib.Core.Path.{ap}
use mathlib.Core.List.{List}
use Prim.Native.Nat.{ℕ, ◌-◌, ◌≤◌}
use native.Mathlib.Omega.{arith}
use lib.ListN.{length, take}
use lib.Seq.{length-take-le}
use Rattle.output.specs.Output.{written_by}
use Rattle.output.proofs.Outputs.{bytes-none, refused-some, refused, passed}
use Rattle.chart_writing.proofs.Putting.{front, part_room}
use Rattle.call_edges.proofs.CheckLaws.{chart-most}
use Rattle.call_edges.specs.Removing.{short_rows, short_left}
use Rattle.call_edges.proofs.remove.remove_from.Goals as goal

pub slice_bounds-ask_shorter-end-2 : goal.slice_bounds-ask_shorter-end-2
slice_bounds-ask_shorter-end-2 c =
    let long : length (take c.args.len c.args.buffer.now) ≡ c.args.len =
    length-take-le c.args.len c.args.buffer.now c.requires.0 in
    sym long

pub slice_bounds-shorter-end : goal.slice_bounds-shorter-end
slice_bounds-shorter-end c =
    let long : length (take c.args.len c.args.buffer.now) ≡ c.args.len =
    length-take-le c.args.len c.args.buffer.now c.requires.0 in
    let scratch : List ℕ =
    c.ask_shorter.new.shorter in
    let fits : c.args.len ≤ length scratch =
    let full : length scratch ≡ 3122 = search rules in
    omega (arith, chart-most _ c.requires.1.0, long) in
    fits

pub slice_bounds-put_part-end : goal.slice_bounds-put_part-end
slice_bounds-put_part-end c =
    let long : length (take c.args.len c.args.buffer.now) ≡ c.args.len =
    length-take-le c.args.len c.args.buffer.now c.requires.0 in
    let scratch : List ℕ =
    c.ask_shorter.new.shorter in
    let fits : c.args.len ≤ length scratch =
    let full : length scratch ≡ 3122 = search rules in
    omega (arith, chart-most _ c.requires.1.0, long) in
    sym (length-take-le _ _ fits)

pub put_part-requires : goal.put_part-requires
put_part-requires c =
    let long : length (take c.args.len c.args.buffer.now) ≡ c.args.len =
    length-take-le c.args.len c.args.buffer.now c.requires.0 in
    let scratch : List ℕ =
    c.ask_shorter.new.shorter in
    let fits : c.args.len ≤ length scratch =
    let full : length scratch ≡ 3122 = search rules in
    omega (arith, chart-most _ c.requires.1.0, long) in
    part_room scratch c.args.len _ fits c.requires.0

pub returns-in_err-size : goal.returns-in_err-size
unfolding written_by
returns-in_err-size c =
    let same : c.from_residual.result ≡ Err c.in_err-size.field-0.0 = search rules in
    let p = refused _ _ _ _ (refused-some _ _ (sym c.ask_shorter.ensures.value ∙ c.in_err-size.was)) in
    record { value = same ∙ p.0; buffer_after = p.1 }

pub returns : goal.returns
unfolding written_by
returns c =
    let long : length (take c.args.len c.args.buffer.now) ≡ c.args.len =
    length-take-le c.args.len c.args.buffer.now c.requires.0 in
    let scratch : List ℕ =
    c.ask_shorter.new.shorter in
    let buffer = c.args.buffer.now in
    let s = take c.args.len buffer in
    let edge = c.args.edge in
    let (passes, size) = bytes-none _ (sym c.ask_shorter.ensures.value ∙ c.in_ok-size.was) in
    let (count, left) = passed (short_rows s edge.from edge.to) (c.args.len - 2) (short_left s edge.from edge.to) buffer
    (ap (λ (n : ℕ). n - 2) (sym long) ∙ size) passes in
    let is = rw long at (c.ask_shorter.ensures.by_index _ c.in_ok-size.was) in
    record { value = count; buffer_after = rw is at (front (take c.args.len scratch) buffer _ c.put_part.ensures.out_after c.put_part.ensures.out_unchanged) ∙ left }
