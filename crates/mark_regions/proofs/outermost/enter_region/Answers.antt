-- `mark_regions::outermost::enter_region` meets its contract: the tables, the marking, and row 10 off it.
-- Assumes nothing.
use mathlib.Core.Path.{refl, sym, ◌∙◌}
use native.Mathlib.Omega.{arith}
use Rattle.lists.specs.Truth.{bad}
use Rattle.chart.proofs.Records.{nodes-length}
use Rattle.mark_tables.specs.Tables.{Accepted}
use Rattle.mark_tables.proofs.Accepted.{well-formed}
use Rattle.mark_tables.proofs.Tabling.{blank_none}
use Rattle.mark_regions.specs.Entered.{Entry}
use Rattle.mark_regions.proofs.Entering.{marked-same, few, not_none, cut_off, connects, refuses, marks}
use Rattle.chart.specs.declared.format.Refusal.TheVariants.{BadPaths}
use Rattle.mark_regions.specs.declared.outermost.Marked.{Marked}
use Rattle.mark_regions.proofs.outermost.enter_region.Goals as goal

pub load_tables-extent-requires : goal.load_tables-extent-requires
load_tables-extent-requires c = (c.requires.accepted.0, blank_none, refl)

pub fill-lost-requires : goal.fill-lost-requires
fill-lost-requires c =
    let is-accepted : Accepted c.args.s.now c.args.chart =
    c.requires.accepted.0 in
    let A = is-accepted in
    let T = c.load_tables-extent.ensures.arranged in
    let H = c.load_tables-extent.ensures.handed in
    let (S, N, Q, none) = c.load_tables-extent.ensures.stops in
    record { barriers_bound = (few A N, none, not_none A N, omega (arith, Q, A.laid.nodes-most), c.requires.starts_value.0, c.requires.starts_value.1, (_, _, H)); by_index = N.node }

pub returns-then-refuses : goal.returns-then-refuses
returns-then-refuses c =
    let is-accepted : Accepted c.args.s.now c.args.chart =
    c.requires.accepted.0 in
    let A = is-accepted in
    let T = c.load_tables-extent.ensures.arranged in
    let H = c.load_tables-extent.ensures.handed in
    let (S, N, Q, none) = c.load_tables-extent.ensures.stops in
    let lost = c.fill-lost.ensures.by_index_2 _ _ (well-formed _ _ A) T S N (Q ∙ sym (nodes-length _ _ A.laid)) in
    let (whole, not) = c.refuses.ensures in record {
      value = (
        λ q. let h = c.requires.accepted.1 q in refuses _ _ h BadPaths (cut_off _ _ h (sym lost ∙ sym (whole q) ∙ c.if-refuses.true)),
        λ n. let f = not n in let t = c.if-refuses.true in absurd (bad (cc)),
      );
      entry = λ m q. absurd (bad (cc));
    }

pub returns : goal.returns
returns c =
    let is-accepted : Accepted c.args.s.now c.args.chart =
    c.requires.accepted.0 in
    let A = is-accepted in
    let W = well-formed _ _ A in
    let T = c.load_tables-extent.ensures.arranged in
    let H = c.load_tables-extent.ensures.handed in
    let (S, N, Q, none) = c.load_tables-extent.ensures.stops in
    let lost = c.fill-lost.ensures.by_index_2 in
    let marked = c.fill-lost.ensures.by_index_3 in
    let (starts, ends, levels) = marked _ _ W T S N in
    let (whole, _) = c.refuses.ensures in record {
      value = (
        λ q.
            let h = c.requires.accepted.1 q in
            marks _ _ h _ N.count (connects _ _ h (sym (lost _ _ W T S N (Q ∙ sym (nodes-length _ _ A.laid))) ∙ sym (whole q) ∙ c.if-refuses.false)),
        λ n. rw N.count refl,
      );
      entry = λ m q. marked-same q (λ (k : Marked). Entry c.args.s.now k.chart k.barriers c.fill-lost.new.starts c.fill-lost.new.ends c.fill-lost.new.levels)
          (record { accepted = A; count = N.count; has-starts = starts; has-ends = ends; has-levels = levels });
    }
