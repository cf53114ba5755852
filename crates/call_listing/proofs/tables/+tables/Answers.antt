-- Filling the tables: `fill_block`, `fill_item` and the functions of its letters, which call each other, meet their contracts.
-- Assumes nothing.
use Rattle.std.proofs.Common.{◌≡◌, refl, sym, ◌∙◌, ap, List, ℕ, ◌+◌, ◌-◌, ◌%◌, pred, get_or, cond, arith}
use Rattle.theory_listing.specs.Tree.{node_count, simple, stop, opens}
use Rattle.theory_listing.specs.Grammar.{loop_letter, branch_letter, letter_kind}
use Rattle.call_listing.specs.declared.tables.Spot.{Spot}
use Rattle.call_listing.specs.Reads.{Takes, ConstructAt}
use Rattle.call_listing.proofs.Bounds.{beyond-read}
use Rattle.call_listing.proofs.Begins.{ahead-most, plain-item, barrier-item}
use Rattle.call_listing.proofs.Filling.{plain-filled, barrier-filled, loop-filled, branch-filled, construct-filled}
use Rattle.call_listing.proofs.Parts.{kind-simple, kind-stop, kind-opens, InLoop, in-loop, InBranch, in-branch, InConstruct, in-construct}
use Rattle.call_listing.proofs.Calls.{cell_room, few-after, falls-first, reads_first, leads-first, told, never-stopped, told-branch, falls-second, reads_second, leads-second}
use Rattle.call_listing.proofs.Turns.{left-all, left-brace, left_ended, turn, never, takes, left-next}
use Rattle.call_listing.proofs.tables.+tables.Goals as goal
use Rattle.call_listing.proofs.tables.+tables.Goals.{fill_item-in-115, fill_item-in-98}

-- The loop, the branch and the construct that stand at a spot whose item was read.
module _ (s : List ℕ) (spot : Spot) (n : ℕ) (took : Takes s spot n) where
  loop-taken : get_or s spot.at 0 ≡ loop_letter → InLoop s spot n took.fuel took.item
  loop-taken = in-loop s spot n took took.fuel took.item took.next took.enough took.read

  branch-taken : get_or s spot.at 0 ≡ branch_letter → InBranch s spot n took.fuel took.item
  branch-taken = in-branch s spot n took took.fuel took.item took.next took.enough took.read

  construct-taken : ConstructAt s spot → InConstruct s spot n took.fuel took.item
  construct-taken at = in-construct s spot n took took.fuel took.item took.next took.enough took.read at.0 at.1 at.2 at.3

-- `fill_block`: what is left of the block completes the records of the whole.
pub fill_block-loop-here-init : goal.fill_block-loop-here-init
fill_block-loop-here-init t c =
    let room = c.requires.1 in
    (room.0, room.1, room.2, omega arith, room.4, λ f b last h r. left-all c.args.s.now c.args.spot b last _ _ _ f h r)

pub fill_block-returns-then-s-at-eq-CLOSE : goal.fill_block-returns-then-s-at-eq-CLOSE
fill_block-returns-then-s-at-eq-CLOSE t c f b last h r = left-brace (c.loop-here.invariant.5 f b last h r) (omega arith) c.if-s-at-eq-CLOSE.true

pub fill_block-returns-in_default : goal.fill_block-returns-in_default
fill_block-returns-in_default t c f b last h r =
    absurd (never (c.loop-here.invariant.5 f b last h r) (omega arith) c.if-s-at-eq-CLOSE.false c.item.ensures.by_index c.in_default.is)

pub fill_block-overflow_add-node : goal.fill_block-overflow_add-node
fill_block-overflow_add-node t c =
    let reads = c.requires.0 in
    let left = c.loop-here.invariant.5 reads.fuel reads.block reads.last reads.enough reads.read in
    let item = takes left (omega arith) c.if-s-at-eq-CLOSE.false c.item.ensures.by_index c.in-Ok.is 0 reads.nodes-fit reads.parts-fit in
    omega (arith, item.0.nodes-fit)

pub fill_block-fill_item-edge-requires : goal.fill_block-fill_item-edge-requires
fill_block-fill_item-edge-requires t c =
    let inv = c.loop-here.invariant in
    let reads = c.requires.0 in
    let left = inv.5 reads.fuel reads.block reads.last reads.enough reads.read in
    let item = (takes left (omega arith) c.if-s-at-eq-CLOSE.false c.item.ensures.by_index c.in-Ok.is c.ahead.result reads.nodes-fit reads.parts-fit).0 in
    let most = ahead-most c.args.s.now c.in-Ok.read.next (c.loop-here.here.node + c.in-Ok.read.nodes) c.args.spot.follow 191 c.ahead.result c.ahead.ensures item.nodes-fit c.requires.1.3 in
    (omega (arith, c.decreases, inv.3, item.below), (item, (inv.0, inv.1, inv.2, most, inv.4)))

pub fill_block-overflow_add-here : goal.fill_block-overflow_add-here
fill_block-overflow_add-here t c =
    let reads = c.requires.0 in
    let left = c.loop-here.invariant.5 reads.fuel reads.block reads.last reads.enough reads.read in
    let item = takes left (omega arith) c.if-s-at-eq-CLOSE.false c.item.ensures.by_index c.in-Ok.is 0 reads.nodes-fit reads.parts-fit in
    omega (arith, item.1)

pub fill_block-loop-here-preserved : goal.fill_block-loop-here-preserved
fill_block-loop-here-preserved t c =
    let inv = c.loop-here.invariant in
    let reads = c.requires.0 in
    let other = c.if-s-at-eq-CLOSE.false in
    let tells = c.item.ensures.by_index in
    let all = inv.5 reads.fuel reads.block reads.last reads.enough reads.read in
    let item = (takes all (omega arith) other tells c.in-Ok.is c.ahead.result reads.nodes-fit reads.parts-fit).0 in
    let fill = c.fill_item-edge in
    let few = (fill.ensures item.fuel item.item item.next item.enough item.read).0.edges_few in
    let count = item.counted item.fuel item.item item.next item.enough item.read in
    let past = beyond-read _ c.in-Ok.is c.item.ensures.within.1 in (
      fill.auto.nodes ∙ inv.0,
      fill.auto.edges ∙ inv.1,
      fill.auto.parts ∙ inv.2,
      omega (arith, inv.3, past),
      omega (arith, inv.4, few, count),
      λ f b last h r.
          let left = inv.5 f b last h r in
          let w = turn left (omega arith) other in
          left-next left (omega arith) other tells c.in-Ok.is past c.ahead.ensures
          (fill.ensures (pred left.fuel) w.what w.next (omega (arith, left.enough)) w.item-read),
    )

pub fill_block-returns : goal.fill_block-returns
fill_block-returns t c f b last h r = left_ended (c.loop-here.invariant.5 f b last h r) (omega arith)

-- `fill_loop`
pub fill_loop-overflow_sub-depth : goal.fill_loop-overflow_sub-depth
fill_loop-overflow_sub-depth t c = (loop-taken c.args.s.now c.args.spot _ c.requires.1.1 c.requires.0).inside.deep

pub fill_loop-fill_block-requires : goal.fill_loop-fill_block-requires
fill_loop-fill_block-requires t c =
    let spot = c.args.spot in
    let took = c.requires.1.1 in
    let room = c.requires.2 in
    let p = loop-taken c.args.s.now spot _ took c.requires.0 in
    let few = few-after spot.node (spot.node + 1) (spot.node + 1) (c.put_cell-e0.ensures simple 0 kind-simple).edges_few room.4 refl in (
      falls-first _ _ p.inside c.decreases,
      (
        reads_first _ _ p.inside _ _ _ _ (omega (arith, p.parts_are, took.parts-fit)),
        (c.put_cell-e0.auto.nodes ∙ room.0, c.put_cell-e0.auto.edges ∙ room.1, room.2, p.inside.node-few, few),
      ),
    )

pub fill_loop-returns : goal.fill_loop-returns
fill_loop-returns t c fuel i next h r =
    let s = c.args.s.now in
    let spot = c.args.spot in
    let p = in-loop s spot c.requires.1.0 c.requires.1.1 fuel i next h r c.requires.0 in
    let inner = c.fill_block.ensures fuel p.block p.inside.close p.inside.enough p.inside.read in
    loop-filled spot i p.block c.ahead.result _ _ p.is
    (leads-first s spot p.inside (spot.node + 1) spot.node c.ahead.ensures)
    (c.put_cell-e0.ensures simple spot.owner kind-simple) inner.0 inner.1

-- `fill_branch`
pub fill_branch-overflow_sub-depth : goal.fill_branch-overflow_sub-depth
fill_branch-overflow_sub-depth t c = (branch-taken c.args.s.now c.args.spot c.args.n c.requires.1 c.requires.0).inside.deep

pub fill_branch-overflow_sub-join : goal.fill_branch-overflow_sub-join
fill_branch-overflow_sub-join t c = omega (arith, (branch-taken c.args.s.now c.args.spot c.args.n c.requires.1 c.requires.0).size)

pub fill_branch-block-requires : goal.fill_branch-block-requires
fill_branch-block-requires t c = (branch-taken c.args.s.now c.args.spot c.args.n c.requires.1 c.requires.0).inside.within

pub fill_branch-put_cell-e0-requires : goal.fill_branch-put_cell-e0-requires
fill_branch-put_cell-e0-requires t c =
    let s = c.args.s.now in
    let spot = c.args.spot in
    let room = c.requires.2 in
    let p = branch-taken s spot c.args.n c.requires.1 c.requires.0 in
    let w = told-branch s spot p c.block.ensures.within c.block.ensures.by_index c.in-Ok.is in
    let join = spot.node + c.args.n - 1 in
    let low = ahead-most s (spot.at + 2) (spot.node + 1) join 191 c.ahead.result c.ahead.ensures p.inside.first-few p.join-few in
    let high = ahead-most s (c.in-Ok.inside.next + 2) (spot.node + 1 + c.in-Ok.inside.nodes) join 191 c.ahead-2.result c.ahead-2.ensures w.second-few p.join-few in
    cell_room spot.node spot.edge _ _ room.0 room.1 p.inside.node-few room.4 low high

pub fill_branch-fill_block-e1-requires : goal.fill_branch-fill_block-e1-requires
fill_branch-fill_block-e1-requires t c =
    let spot = c.args.spot in
    let took = c.requires.1 in
    let room = c.requires.2 in
    let p = branch-taken c.args.s.now spot c.args.n took c.requires.0 in
    let cell = c.put_cell-e0 in
    let few = few-after spot.node (spot.node + 1) (spot.node + 1) (cell.ensures simple 0 kind-simple).edges_few room.4 refl in (
      falls-first _ _ p.inside c.decreases,
      (reads_first _ _ p.inside _ _ _ _ (omega (arith, p.parts_are, took.parts-fit)), (cell.auto.nodes ∙ room.0, cell.auto.edges ∙ room.1, room.2, p.join-few, few)),
    )

pub fill_branch-fill_block-e2-requires : goal.fill_branch-fill_block-e2-requires
fill_branch-fill_block-e2-requires t c =
    let s = c.args.s.now in
    let spot = c.args.spot in
    let took = c.requires.1 in
    let room = c.requires.2 in
    let p = branch-taken s spot c.args.n took c.requires.0 in
    let w = told-branch s spot p c.block.ensures.within c.block.ensures.by_index c.in-Ok.is in
    let k = spot.node + 1 in
    let cell = c.put_cell-e0 in
    let fill = c.fill_block-e1 in
    let forked = few-after spot.node k k (cell.ensures simple 0 kind-simple).edges_few room.4 refl in
    let one = (fill.ensures took.fuel p.one p.inside.close p.inside.enough p.inside.read).0.edges_few in (
      falls-second _ _ p w c.decreases,
      (
        reads_second _ _ p w _ _ _ took.parts-fit,
        (
          fill.auto.nodes ∙ cell.auto.nodes ∙ room.0,
          fill.auto.edges ∙ cell.auto.edges ∙ room.1,
          fill.auto.parts ∙ room.2,
          p.join-few,
          few-after k (k + node_count p.one) _ one forked w.to-second,
        ),
      ),
    )

pub fill_branch-put_cell-requires : goal.fill_branch-put_cell-requires
fill_branch-put_cell-requires t c =
    let s = c.args.s.now in
    let spot = c.args.spot in
    let took = c.requires.1 in
    let room = c.requires.2 in
    let p = branch-taken s spot c.args.n took c.requires.0 in
    let w = told-branch s spot p c.block.ensures.within c.block.ensures.by_index c.in-Ok.is in
    let k = spot.node + 1 in
    let l = k + c.in-Ok.inside.nodes in
    let cell = c.put_cell-e0 in
    let fill = c.fill_block-e1 in
    let fill2 = c.fill_block-e2 in
    let forked = few-after spot.node k k (cell.ensures simple 0 kind-simple).edges_few room.4 refl in
    let one = (fill.ensures took.fuel p.one p.inside.close p.inside.enough p.inside.read).0.edges_few in
    let two = (fill2.ensures took.fuel p.other p.other-close w.enough w.read).0.edges_few in
    let few = few-after l (l + node_count p.other) _ two (few-after k (k + node_count p.one) _ one forked w.to-second) w.to-join in
    cell_room (spot.node + c.args.n - 1) _ _ _
    (fill2.auto.nodes ∙ fill.auto.nodes ∙ cell.auto.nodes ∙ room.0) (fill2.auto.edges ∙ fill.auto.edges ∙ cell.auto.edges ∙ room.1) p.join-few few room.3 room.3

pub fill_branch-returns-in_default : goal.fill_branch-returns-in_default
fill_branch-returns-in_default t c fuel i next h r =
    let p = in-branch _ c.args.spot c.args.n c.requires.1 fuel i next h r c.requires.0 in
    absurd (never-stopped _ _ p.inside c.block.ensures.by_index c.in_default.is)

pub fill_branch-returns : goal.fill_branch-returns
fill_branch-returns t c fuel i next h r =
    let s = c.args.s.now in
    let spot = c.args.spot in
    let p = in-branch s spot c.args.n c.requires.1 fuel i next h r c.requires.0 in
    let w = told-branch s spot p c.block.ensures.within c.block.ensures.by_index c.in-Ok.is in
    let one = c.fill_block-e1.ensures fuel p.one p.inside.close p.inside.enough p.inside.read in
    let two = c.fill_block-e2.ensures fuel p.other p.other-close w.enough w.read in
    let join = spot.node + c.args.n - 1 in
    let l = spot.node + 1 + c.in-Ok.inside.nodes in
    branch-filled spot i p.one p.other c.ahead.result c.ahead-2.result l join c.in-Ok.inside.constructs _ _ _ p.is
    (leads-first s spot p.inside (spot.node + 1) join c.ahead.ensures) (leads-second s spot p w l join c.ahead-2.ensures)
    (sym w.to-second) (sym w.to-join) w.to-parts
    (c.put_cell-e0.ensures simple spot.owner kind-simple) one.0 one.1 two.0 two.1 (c.put_cell.ensures simple spot.owner kind-simple)

-- `fill_construct`
pub fill_construct-overflow_sub-depth : goal.fill_construct-overflow_sub-depth
fill_construct-overflow_sub-depth t c = (construct-taken c.args.s.now c.args.spot c.args.n c.requires.1 c.requires.0).inside.deep

pub fill_construct-block-requires : goal.fill_construct-block-requires
fill_construct-block-requires t c = (construct-taken c.args.s.now c.args.spot c.args.n c.requires.1 c.requires.0).inside.within

pub fill_construct-put_record-requires : goal.fill_construct-put_record-requires
fill_construct-put_record-requires t c =
    let p = construct-taken c.args.s.now c.args.spot c.args.n c.requires.1 c.requires.0 in
    omega (arith, c.requires.2.2, p.parts_are, c.requires.1.parts-fit)

pub fill_construct-fill_block-e1-requires : goal.fill_construct-fill_block-e1-requires
fill_construct-fill_block-e1-requires t c =
    let spot = c.args.spot in
    let took = c.requires.1 in
    let room = c.requires.2 in
    let known = construct-taken c.args.s.now spot c.args.n took c.requires.0 in
    let p = known.inside in
    let is = (told _ _ p c.block.ensures.by_index c.in-Ok.is).1 in
    let cell = c.put_cell-e0 in
    let few = few-after spot.node (spot.node + 1) (spot.node + 1) (cell.ensures opens 0 kind-opens).edges_few room.4 refl in (
      falls-first _ _ p c.decreases,
      (
        reads_first _ _ p _ _ _ _ (omega (arith, known.parts_are, took.parts-fit)),
        (cell.auto.nodes ∙ room.0, cell.auto.edges ∙ room.1, c.put_record.auto.out ∙ room.2, omega (arith, is, p.nodes-fit), few),
      ),
    )

pub fill_construct-put_end-requires : goal.fill_construct-put_end-requires
fill_construct-put_end-requires t c =
    let spot = c.args.spot in
    let took = c.requires.1 in
    let room = c.requires.2 in
    let p = construct-taken c.args.s.now spot c.args.n took c.requires.0 in
    let is = (told _ _ p.inside c.block.ensures.by_index c.in-Ok.is).1 in
    let k = spot.node + 1 in
    let cell = c.put_cell-e0 in
    let fill = c.fill_block-e1 in
    let begun = few-after spot.node k k (cell.ensures opens 0 kind-opens).edges_few room.4 refl in
    let one = (fill.ensures took.fuel p.block p.inside.close p.inside.enough p.inside.read).0.edges_few in
    let few = few-after k (k + node_count p.block) _ one begun (ap (λ (n : ℕ). k + n) (sym is)) in (
      omega (arith, is, p.size),
      took.nodes-fit,
      room.3,
      omega (arith, p.parts_are, took.parts-fit),
      few,
      fill.auto.nodes ∙ cell.auto.nodes ∙ room.0,
      fill.auto.edges ∙ cell.auto.edges ∙ room.1,
    )

pub fill_construct-returns-in_default : goal.fill_construct-returns-in_default
fill_construct-returns-in_default t c fuel i next h r =
    let at = c.requires.0 in
    let p = in-construct _ c.args.spot c.args.n c.requires.1 fuel i next h r at.0 at.1 at.2 at.3 in
    absurd (never-stopped _ _ p.inside c.block.ensures.by_index c.in_default.is)

pub fill_construct-returns : goal.fill_construct-returns
fill_construct-returns t c fuel i next h r =
    let s = c.args.s.now in
    let spot = c.args.spot in
    let took = c.requires.1 in
    let at = c.requires.0 in
    let known = construct-taken s spot c.args.n took at in
    let end = spot.node + 1 + c.in-Ok.inner.nodes in
    let p = in-construct s spot c.args.n took fuel i next h r at.0 at.1 at.2 at.3 in
    let is = (told s spot p.inside c.block.ensures.by_index c.in-Ok.is).1 in
    let inner = c.fill_block-e1.ensures fuel p.block p.inside.close p.inside.enough p.inside.read in
    let last : spot.node + c.args.n ≡ end + 1 + cond p.waits 1 0 = omega (arith, p.size, is) in
    construct-filled spot i (letter_kind (get_or s spot.at 0)) _ p.waits p.block (spot.part % 256) end c.args.n _ _ _ p.is
    c.letter_kind.ensures (omega (arith, known.parts_are, took.parts-fit)) (omega (arith, is)) last c.put_record.ensures
    (c.put_cell-e0.ensures opens spot.owner kind-opens) inner.0 inner.1 (c.put_end.ensures p.waits last)

-- `fill_item`: a node of its own; what another letter begins is filled by its function.
pub fill_item-returns : goal.fill_item-returns
fill_item-returns t c fuel i next h r =
    let s = c.args.s.now in
    let spot = c.args.spot in
    elim c.match-s-spot.branch [
      | fill_item-in-115 w ↦ plain-filled spot i _ (plain-item fuel s spot.depth spot.at i next r w.in-115.is) (c.put_cell.ensures simple spot.owner (kind-simple ∙ sym w.kind-is))
      | fill_item-in-98 w ↦ barrier-filled spot i _ (barrier-item fuel s spot.depth spot.at i next r w.in-98.is) (c.put_cell.ensures stop spot.owner (kind-stop ∙ sym w.kind-is))
    ]
