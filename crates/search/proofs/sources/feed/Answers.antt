-- `search::sources::feed` meets its contract: after some turns the edges so far are fed along.
-- Assumes nothing.
use mathlib.Core.Path.{◌∙◌}
use native.Mathlib.Omega.{arith}
use lib.ListN.{length, length-append, length-set}
use Rattle.std.proofs.Common.{rules}
use Rattle.std.proofs.lemmas.Slice.Zip.{zip_turn}
use Rattle.search.proofs.Feeding.{feed-turn}
use Rattle.search.proofs.sources.feed.Goals as goal

pub loop-x-preserved : goal.loop-x-preserved
loop-x-preserved c =
    let (long, fed) = c.loop-x.invariant in
    let (k, v, x, y) = zip_turn c.args.keys.now c.args.values.now c.loop-x.yielded c.into_iter-x-iterator.result c.loop-x.x-iterator c.next.new.self c.next.result (search rules) (search rules) c.loop-x.yielded_by (c.in-Some.x, c.in-Some.y) c.in-Some.is c.next.ensures.steps in
    (length-set c.loop-x.masks _ _ ∙ long, rw (x 0, y 0, length-append) (feed-turn (omega arith) (omega (arith, long, c.requires.by_index_2 (length c.loop-x.yielded))) fed))
