-- `check_nodes::counts::bad_frames` meets its contract.
-- Assumes nothing.
use mathlib.Core.Path.{◌≡◌, refl, sym, ◌∙◌}
use native.Mathlib.Omega.{arith}
use Rattle.std.proofs.lemmas.Bool.Decides.{nat_tests}
use lib.ListN.{length}
use Rattle.lists.specs.Truth.{clash}
use Rattle.lists.specs.Range.{any}
use Rattle.chart.specs.Format.{decode}
use Rattle.chart.specs.Scope.{begin_node, end_node}
use Rattle.chart.specs.Refusal.{bad_frame, bad_frames}
use Rattle.chart.proofs.Records.{constructs-length}
use Rattle.check_nodes.proofs.Framing.{true-if, framed-none, two-each, decides, both-framed}
use Rattle.check_nodes.proofs.counts.bad_frames.Goals as goal

pub returns-then-chart-eq0 : goal.returns-then-chart-eq0
unfolding bad_frames bad_frame any
returns-then-chart-eq0 c =
    let D = decode c.args.s.now in
    let q : length D.constructs ≡ 0 = constructs-length _ c.args.chart c.requires.0 ∙ c.if-chart-eq0.true in
    record { value = rw q; both_framed = λ h. (framed-none D begin_node q, framed-none D end_node q) }

pub returns-then-frames-c : goal.returns-then-frames-c
returns-then-frames-c c =
    record { value = sym (true-if (λ h. c.if-frames-c.true (two-each _ c.args.chart c.requires.0 c.requires.1 c.note_nodes-frames.ensures h))); both_framed = λ h. absurd (clash refl h) }

pub returns-then-no_begin : goal.returns-then-no_begin
returns-then-no_begin c =
    let is = decides c.args.s.now c.args.chart c.requires.0 c.requires.1 c.note_nodes-frames.ensures c.if-frames-c.false in
    record { value = grind (arith, nat_tests, is, c.take_frames-no_begin.ensures.value); both_framed = λ h. absurd (clash c.if-no_begin.true h) }

pub returns-else-no_begin : goal.returns-else-no_begin
returns-else-no_begin c =
    let N = c.note_nodes-frames.ensures in
    let s = c.args.s.now in
    let is = decides s c.args.chart c.requires.0 c.requires.1 N c.if-frames-c.false in
    let value : c.take_frames-no_end.result ≡ bad_frames (decode s) = grind (arith, nat_tests, is, c.take_frames-no_begin.ensures.value, c.take_frames-no_end.ensures.value) in
    record { value = value; both_framed = λ h. both-framed s c.args.chart c.requires.0 c.requires.1 N (sym value ∙ h) c.take_frames-no_begin.ensures.written c.take_frames-no_end.ensures.written }
