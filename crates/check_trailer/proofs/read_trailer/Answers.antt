-- `check_trailer::read_trailer` meets its contract.
-- Assumes nothing.
use mathlib.Core.Bool.{Bool}
use mathlib.Core.Path.{◌≡◌, sym, ap, ◌∙◌}
use borrow.Author.Tests.{lt-ltb, le-ltb}
use Rattle.chart.specs.declared.format.Chart.{Chart}
use Rattle.chart.specs.Checked.{checked_by, counts_of}
use Rattle.chart.specs.Refusal.{bad_counts, first_of, trailer_rows}
use Rattle.check_trailer.proofs.read_trailer.Goals as goal

abbrev counts_bad : Chart → Bool
counts_bad k = bad_counts k.nodes k.edges k.constructs

pub returns-then-s-lt-TRAILER_BYTES : goal.returns-then-s-lt-TRAILER_BYTES
unfolding checked_by first_of trailer_rows
returns-then-s-lt-TRAILER_BYTES c = rw (lt-ltb _ _ c.if-s-lt-TRAILER_BYTES.true)

pub returns-then-bad_marks : goal.returns-then-bad_marks
unfolding checked_by first_of trailer_rows
returns-then-bad_marks c = rw (le-ltb _ _ c.if-s-lt-TRAILER_BYTES.false, sym c.bad_marks.ensures ∙ c.if-bad_marks.true)

pub returns-then-bad_counts : goal.returns-then-bad_counts
unfolding checked_by first_of trailer_rows counts_of
returns-then-bad_counts c =
    let counts : counts_bad c.read-chart.result ≡ c.bad_counts.result = sym c.bad_counts.ensures in
    rw (
      le-ltb _ _ c.if-s-lt-TRAILER_BYTES.false,
      sym c.bad_marks.ensures ∙ c.if-bad_marks.false,
      ap counts_bad (sym c.read-chart.ensures.value) ∙ counts ∙ c.if-bad_counts.true,
    )

pub returns-then-bad_lengths : goal.returns-then-bad_lengths
unfolding checked_by first_of trailer_rows counts_of
returns-then-bad_lengths c =
    let counts : counts_bad c.read-chart.result ≡ c.bad_counts.result = sym c.bad_counts.ensures in
    rw (
      le-ltb _ _ c.if-s-lt-TRAILER_BYTES.false,
      sym c.bad_marks.ensures ∙ c.if-bad_marks.false,
      ap counts_bad (sym c.read-chart.ensures.value) ∙ counts ∙ c.if-bad_counts.false,
      sym c.bad_lengths.ensures ∙ c.if-bad_lengths.true,
    )

pub returns : goal.returns
unfolding checked_by first_of trailer_rows counts_of
returns c =
    let counts : counts_bad c.read-chart.result ≡ c.bad_counts.result = sym c.bad_counts.ensures in
    rw (
      le-ltb _ _ c.if-s-lt-TRAILER_BYTES.false,
      sym c.bad_marks.ensures ∙ c.if-bad_marks.false,
      ap counts_bad (sym c.read-chart.ensures.value) ∙ counts ∙ c.if-bad_counts.false,
      sym c.bad_lengths.ensures ∙ c.if-bad_lengths.false,
      c.read-chart.ensures.value,
    )
