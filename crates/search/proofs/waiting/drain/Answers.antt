-- `search::waiting::drain` meets its contract: the nodes wait, and when none does the masks are closed. Assumes nothing.
use native.Mathlib.Omega.{arith}
use mathlib.Core.Path.{◌≡◌}
use Rattle.search.specs.Waiting.{Upto, Linked}
use Rattle.search.proofs.Linking.{linked-none, linked-both}
use Rattle.search.proofs.Waits.{begun, node-first, left-fits, turned, drained}
use Rattle.search.proofs.waiting.drain.Goals as goal

pub link-requires : goal.link-requires
link-requires c =
    record { a_le_b = (omega arith, omega arith, c.requires.by_index.0); by_index = (0, omega arith, linked-none _) }

pub link-requires-2 : goal.link-requires-2
link-requires-2 c =
    record { a_le_b = (c.requires.ups_le_low.1, omega arith, c.requires.by_index.0); by_index = (c.args.ups, c.requires.ups_le_low.0, linked-both (c.link.ensures 0 (omega arith) (linked-none _))) }

pub loop-n-init : goal.loop-n-init
loop-n-init c =
    begun _ _ _ _ c.requires.by_index.0 c.requires.by_index.1 c.requires.ups_le_low.2 c.requires.by_index_2 c.enter_all.ensures

pub bounds-held-x : goal.bounds-held-x
bounds-held-x c = node-first _ _ _ _ c.requires.by_index.0 c.requires.by_index.1 c.loop-n.invariant (omega arith)

pub bounds-masks-x : goal.bounds-masks-x
bounds-masks-x c = node-first _ _ _ _ c.requires.by_index.0 c.requires.by_index.1 c.loop-n.invariant (omega arith)

pub bounds-last-x : goal.bounds-last-x
bounds-last-x c = node-first _ _ _ _ c.requires.by_index.0 c.requires.by_index.1 c.loop-n.invariant (omega arith)

pub pass_on-n-requires : goal.pass_on-n-requires
pass_on-n-requires c =
    let (kn, vn) = c.requires.by_index in
    let k : Linked c.args.keys.now (Upto c.args.ups c.args.low 1024) c.link-2.new.last c.link-2.new.before =
    c.link-2.ensures c.args.ups c.requires.ups_le_low.0 (linked-both (c.link.ensures 0 (omega arith) (linked-none _))) in
    record { fits = (left-fits _ _ _ _ kn vn c.loop-n.invariant (omega arith), k.most _); by_index = (vn, k.back) }

pub loop-n-smaller : goal.loop-n-smaller
loop-n-smaller c =
    let (kn, vn) = c.requires.by_index in
    let k : Linked c.args.keys.now (Upto c.args.ups c.args.low 1024) c.link-2.new.last c.link-2.new.before =
    c.link-2.ensures c.args.ups c.requires.ups_le_low.0 (linked-both (c.link.ensures 0 (omega arith) (linked-none _))) in
    (turned _ _ _ _ kn vn c.loop-n.invariant (omega arith) k c.pass_on-n.ensures.walk).1

pub loop-n-preserved : goal.loop-n-preserved
loop-n-preserved c =
    let (kn, vn) = c.requires.by_index in
    let k : Linked c.args.keys.now (Upto c.args.ups c.args.low 1024) c.link-2.new.last c.link-2.new.before =
    c.link-2.ensures c.args.ups c.requires.ups_le_low.0 (linked-both (c.link.ensures 0 (omega arith) (linked-none _))) in
    (turned _ _ _ _ kn vn c.loop-n.invariant (omega arith) k c.pass_on-n.ensures.walk).0

pub returns : goal.returns
returns c =
    let (kn, vn) = c.requires.by_index in
    let none : c.loop-n.n ≡ 0 = omega arith in
    record { carried = c.loop-n.invariant.carried; closed = drained _ _ _ _ kn vn (rw none at c.loop-n.invariant) }
