-- `check_chart::check::check_tables` meets its contract.
-- Assumes nothing.
use mathlib.Core.Path.{sym, ◌∙◌}
use Rattle.lists.specs.Truth.{bad}
use Rattle.chart.specs.Checked.{checked_by}
use Rattle.chart.specs.Refusal.{first_of, table_rows}
use Rattle.check_chart.proofs.check.check_tables.Goals as goal

pub returns-then-bad_nodes : goal.returns-then-bad_nodes
unfolding checked_by first_of table_rows
returns-then-bad_nodes c = record { value = rw (sym c.bad_nodes.ensures ∙ c.if-bad_nodes.true); both_framed = λ counts q. absurd (bad (cc)) }

pub returns-then-bad_constructs : goal.returns-then-bad_constructs
unfolding checked_by first_of table_rows
returns-then-bad_constructs c =
    record { value = rw (sym c.bad_nodes.ensures ∙ c.if-bad_nodes.false, sym c.bad_constructs.ensures ∙ c.if-bad_constructs.true); both_framed = λ counts q. absurd (bad (cc)) }

pub bad_frames-requires : goal.bad_frames-requires
bad_frames-requires c =
    (c.requires, sym c.bad_nodes.ensures ∙ c.if-bad_nodes.false)

pub returns-then-bad_frames : goal.returns-then-bad_frames
unfolding checked_by first_of table_rows
returns-then-bad_frames c =
    record {
      value = rw (
        sym c.bad_nodes.ensures ∙ c.if-bad_nodes.false,
        sym c.bad_constructs.ensures ∙ c.if-bad_constructs.false,
        sym c.bad_frames.ensures.value ∙ c.if-bad_frames.true,
      );
      both_framed = λ counts q. absurd (bad (cc));
    }

pub returns-then-bad_barriers : goal.returns-then-bad_barriers
unfolding checked_by first_of table_rows
returns-then-bad_barriers c =
    record {
      value = rw (
        sym c.bad_nodes.ensures ∙ c.if-bad_nodes.false,
        sym c.bad_constructs.ensures ∙ c.if-bad_constructs.false,
        sym c.bad_frames.ensures.value ∙ c.if-bad_frames.false,
        sym c.bad_barriers.ensures ∙ c.if-bad_barriers.true,
      );
      both_framed = λ counts q. absurd (bad (cc));
    }

pub bad_edges-requires : goal.bad_edges-requires
bad_edges-requires c =
    let (B, E) = c.bad_frames.ensures.both_framed c.if-bad_frames.false in
    (c.requires, sym c.bad_nodes.ensures ∙ c.if-bad_nodes.false, sym c.bad_frames.ensures.value ∙ c.if-bad_frames.false, B, E)

pub returns-then-bad_edges : goal.returns-then-bad_edges
unfolding checked_by first_of table_rows
returns-then-bad_edges c =
    record {
      value = rw (
        sym c.bad_nodes.ensures ∙ c.if-bad_nodes.false,
        sym c.bad_constructs.ensures ∙ c.if-bad_constructs.false,
        sym c.bad_frames.ensures.value ∙ c.if-bad_frames.false,
        sym c.bad_barriers.ensures ∙ c.if-bad_barriers.false,
        sym c.bad_edges.ensures ∙ c.if-bad_edges.true,
      );
      both_framed = λ counts q. absurd (bad (cc));
    }

pub returns : goal.returns
unfolding checked_by first_of table_rows
returns c =
    record {
      value = rw (
        sym c.bad_nodes.ensures ∙ c.if-bad_nodes.false,
        sym c.bad_constructs.ensures ∙ c.if-bad_constructs.false,
        sym c.bad_frames.ensures.value ∙ c.if-bad_frames.false,
        sym c.bad_barriers.ensures ∙ c.if-bad_barriers.false,
        sym c.bad_edges.ensures ∙ c.if-bad_edges.false,
      );
      both_framed = λ counts q. c.bad_frames.ensures.both_framed c.if-bad_frames.false;
    }
