-- `call_judge::parts::false_part` meets its contract.
-- Assumes nothing.
use Rattle.std.proofs.Common.{refl}
use borrow.Author.Tests.{lt-ltb, le-ltb}
use Rattle.call_judge.specs.Two.{picked, part_of, place_of}
use Rattle.call_judge.proofs.PartsLaws.{at-start}
use Rattle.call_judge.proofs.parts.false_part.Goals as goal

pub returns-then-j-i : goal.returns-then-j-i
unfolding picked part_of place_of
returns-then-j-i c = rw (c.in-Some-Some.is-0, c.in-Some-Some.is-1, lt-ltb _ _ c.if-j-i.true) c.part_from.ensures

pub returns-else-j-i : goal.returns-else-j-i
unfolding picked part_of place_of
returns-else-j-i c = rw (c.in-Some-Some.is-0, c.in-Some-Some.is-1, le-ltb _ _ c.if-j-i.false) c.part_from-else-j-i.ensures

pub returns-in-Some-None : goal.returns-in-Some-None
unfolding picked part_of place_of
returns-in-Some-None c = rw (c.in-Some-None.is-0, c.in-Some-None.is-1) c.part_from-in-Some-None.ensures

pub returns-in-None-Some : goal.returns-in-None-Some
unfolding picked part_of place_of
returns-in-None-Some c = rw (c.in-None-Some.is-0, c.in-None-Some.is-1) c.part_from-in-None-Some.ensures

pub returns-in-None-None : goal.returns-in-None-None
unfolding picked part_of place_of
returns-in-None-None c = rw (c.in-None-None.is-0, c.in-None-None.is-1) (refl, at-start c.args.x.ref_ptr)
