-- `mark_tables::load::note` meets its contract.
-- Assumes nothing.
use Rattle.mark_tables.specs.Tables.{skip, put}
use Rattle.mark_tables.proofs.load.note.Goals as goal

pub returns-then-stop-eq0 : goal.returns-then-stop-eq0
returns-then-stop-eq0 c = skip c.if-stop-eq0.true

pub returns : goal.returns
returns c =
    put c.if-stop-eq0.false
