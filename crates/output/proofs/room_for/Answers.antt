-- `output::room_for` meets its contract.
-- Assumes nothing.
use borrow.Author.Tests.{lt-ltb, le-ltb}
use Rattle.chart.specs.Refusal.{first_of}
use Rattle.output.specs.Output.{room_row, output_rows, written, written_by}
use Rattle.output.proofs.room_for.Goals as goal

pub returns-then-room-size : goal.returns-then-room-size
unfolding written_by written output_rows room_row first_of
returns-then-room-size c = rw (lt-ltb _ _ c.if-room-size.true)

pub returns : goal.returns
unfolding written_by written output_rows room_row first_of
returns c = rw (le-ltb _ _ c.if-room-size.false)
