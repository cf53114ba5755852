-- `answer_masks::survey_region` meets its contract: the tables, the marking, and what each node holds.
-- Assumes nothing.
use mathlib.Core.Path.{◌≡◌, refl, sym, ◌∙◌}
use native.Mathlib.Omega.{arith}
use Rattle.lists.specs.Truth.{bad}
use Rattle.chart.specs.Refusal.{first_of, chart_rows}
use Rattle.chart.specs.Checked.{counts_of, checked_by, checked}
use Rattle.chart.proofs.Records.{nodes-length}
use Rattle.check_chart.proofs.Outcome.{passed_none}
use Rattle.mark_tables.specs.Tables.{Accepted}
use Rattle.mark_tables.proofs.Accepted.{well-formed}
use Rattle.mark_tables.proofs.Tabling.{blank_none}
use Rattle.mark.proofs.Searching.{standing}
use Rattle.mark.proofs.Further.{added-barriers, asked-few}
use Rattle.mark_regions.proofs.Entering.{few, not_none, cut_off, connects}
use Rattle.answer_constructs.proofs.Nodes.{all-marks}
use Rattle.answer_masks.proofs.survey_region.Goals as goal

pub load_tables-loaded-requires : goal.load_tables-loaded-requires
load_tables-loaded-requires c = (c.requires.accepted.0, blank_none, refl)

pub add_ends-total-requires : goal.add_ends-total-requires
add_ends-total-requires c =
    let is-accepted : Accepted c.args.s.now c.args.chart =
    c.requires.accepted.0 in
    let A = is-accepted in
    let T = c.load_tables-loaded.ensures.arranged in
    let H = c.load_tables-loaded.ensures.handed in
    let (S, N, Q, none) = c.load_tables-loaded.ensures.stops in
    (few A N, asked-few c.asked-n.ensures (omega (arith, A.laid.constructs-most)), N.long)

pub conclude-lost-requires : goal.conclude-lost-requires
conclude-lost-requires c =
    let is-accepted : Accepted c.args.s.now c.args.chart =
    c.requires.accepted.0 in
    let A = is-accepted in
    let T = c.load_tables-loaded.ensures.arranged in
    let H = c.load_tables-loaded.ensures.handed in
    let (S, N, Q, none) = c.load_tables-loaded.ensures.stops in
    let B = added-barriers N c.requires.both_framed.1.node c.add_ends-total.ensures in
    let (s, d, t) = c.boundaries.ensures.boundaries T.count _ T.split T.begins (standing S (well-formed _ _ A) B) in
    record { barriers_bound = (few A N, not_none A N, omega (arith, Q, A.laid.nodes-most), (c.returns-returning.ensures.barred _ _ _ s).long, (_, _, H.split)); by_index = B.node }

pub returns-then-refuses : goal.returns-then-refuses
unfolding checked_by
returns-then-refuses c =
    let is-accepted : Accepted c.args.s.now c.args.chart =
    c.requires.accepted.0 in
    let A = is-accepted in
    let W = well-formed _ _ A in
    let T = c.load_tables-loaded.ensures.arranged in
    let H = c.load_tables-loaded.ensures.handed in
    let (S, N, Q, none) = c.load_tables-loaded.ensures.stops in
    let B = added-barriers N c.requires.both_framed.1.node c.add_ends-total.ensures in
    let (s, d, t) = c.boundaries.ensures.boundaries T.count _ T.split T.begins (standing S W B) in
    let lost = c.conclude-lost.ensures.spread_of _ _ _ W T S B (c.returns-returning.ensures.barred _ _ _ s) t (Q ∙ sym (nodes-length _ _ A.laid)) in
    let (whole, not) = c.refuses.ensures in record {
      value = (
        λ q. rw (cut_off _ _ (c.requires.accepted.1 q) (sym lost ∙ sym (whole q) ∙ c.if-refuses.true)),
        λ n. let f = not n in let t = c.if-refuses.true in absurd (bad (cc)),
      );
      survey = λ chart q. absurd (bad (cc));
    }

pub fill_held-marks-requires : goal.fill_held-marks-requires
fill_held-marks-requires c =
    let is-accepted : Accepted c.args.s.now c.args.chart =
    c.requires.accepted.0 in
    let A = is-accepted in
    let T = c.load_tables-loaded.ensures.arranged in
    let H = c.load_tables-loaded.ensures.handed in
    let (S, N, Q, none) = c.load_tables-loaded.ensures.stops in
    let D = c.add_ends-total.ensures in
    let B = added-barriers N c.requires.both_framed.1.node D in
    let (s, d, t) = c.boundaries.ensures.boundaries T.count _ T.split T.begins (standing S (well-formed _ _ A) B) in (
      A,
      c.returns-returning.ensures.tells_returned _ _ _ _ A c.asked-n.ensures c.requires.both_framed.0 c.requires.both_framed.1 T S D.behind s,
      rw c.requires.accepted.2.2 refl,
    )

pub returns : goal.returns
unfolding checked_by checked
returns c =
    let is-accepted : Accepted c.args.s.now c.args.chart =
    c.requires.accepted.0 in
    let A = is-accepted in
    let W = well-formed _ _ A in
    let T = c.load_tables-loaded.ensures.arranged in
    let H = c.load_tables-loaded.ensures.handed in
    let (S, N, Q, none) = c.load_tables-loaded.ensures.stops in
    let B = added-barriers N c.requires.both_framed.1.node c.add_ends-total.ensures in
    let (s, d, t) = c.boundaries.ensures.boundaries T.count _ T.split T.begins (standing S W B) in
    let first = c.returns-returning.ensures.barred _ _ _ s in
    let lost = c.conclude-lost.ensures.spread_of in
    let marked = c.conclude-lost.ensures.spread_of_2 in
    let (starts, ends) = marked _ _ _ W T S B first t in
    let (whole, _) = c.refuses.ensures in record {
      value = (
        λ q.
            let h = c.requires.accepted.1 q in
            let admits = connects _ _ h (sym (lost _ _ _ W T S B first t (Q ∙ sym (nodes-length _ _ A.laid))) ∙ sym (whole q) ∙ c.if-refuses.false) in
            let counts = (passed_none (first_of (chart_rows c.args.s.now)) (counts_of c.args.s.now) c.args.chart h).1 in
            rw (admits, counts),
        λ n. refl,
      );
      survey = λ chart q.
          let same : c.args.chart ≡ chart = cc in
          rw (← same) (record {
            accepted = A;
            marked = all-marks _ _ A _ _ _ starts ends c.fill_held-marks.ensures.held_below c.fill_held-marks.ensures.kinds;
          });
    }
