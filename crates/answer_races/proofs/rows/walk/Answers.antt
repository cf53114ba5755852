-- `answer_races::rows::walk` meets its contract. The loop's invariant: the accesses passed have their bytes, and all others are 0.
-- Assumes nothing.
use native.Mathlib.Omega.{arith}
use Rattle.theory_calls.specs.Access.{total}
use Rattle.answer_races.proofs.Visits.{walking-end, visited-end, walking-on}
use Rattle.answer_races.proofs.rows.walk.Goals as goal

pub race_of-requires : goal.race_of-requires
unfolding total
race_of-requires c = (omega arith, c.requires.4 c.loop-k.k)

pub returns-then-l-n : goal.returns-then-l-n
returns-then-l-n c =
    visited-end c.requires.0 c.requires.2 c.loop-k.invariant (omega arith) c.race_of.ensures c.from-l.ensures (omega arith)

pub race_of-requires-in-loop-k : goal.race_of-requires-in-loop-k
unfolding total
race_of-requires-in-loop-k c = (omega arith, c.requires.4 c.from-l.result)

pub loop-k-preserved : goal.loop-k-preserved
loop-k-preserved c =
    walking-on c.requires.0 c.requires.2 c.loop-k.invariant (omega arith) c.race_of.ensures c.from-l.ensures (omega arith) c.race_of-in-loop-k.ensures c.from-k-in-loop-k.ensures

pub returns : goal.returns
returns c = walking-end c.requires.0 c.requires.2 c.loop-k.invariant (omega arith)
