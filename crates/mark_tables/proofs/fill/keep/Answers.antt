-- `mark_tables::fill::keep` meets its contract.
-- Assumes nothing.
use mathlib.Core.Path.{refl}
use native.Mathlib.Omega.{arith}
use Rattle.mark_tables.specs.Tables.{left, kept}
use Rattle.mark_tables.proofs.fill.keep.Goals as goal

pub returns-then-kept : goal.returns-then-kept
returns-then-kept c =
    let P = c.place-parts.ensures.split in
    let (a, b) = c.place-parts.ensures.edges_after in
    record { split = P; stored_in = rw (a, b, c.if-kept.true) (kept (λ e. absurd (omega arith))) }

pub returns-else-kept : goal.returns-else-kept
returns-else-kept c = record { split = (c.requires.split, c.requires.sized); stored_in = rw c.if-kept.false (left refl) }
