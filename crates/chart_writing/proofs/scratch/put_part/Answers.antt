-- `chart_writing::scratch::put_part` meets its contract.
-- Assumes nothing.
use Rattle.std.proofs.Common.{rules}
use Rattle.std.proofs.lemmas.Slice.{overwrites}
use Rattle.chart_writing.proofs.scratch.put_part.Goals as goal

pub returns-clause-out_unchanged : goal.returns-clause-out_unchanged
returns-clause-out_unchanged c = search (rules, overwrites)
