-- `search::together::close_together` meets its contract: the falling edges stay closed, and when a sweep is quiet the rising ones are. Assumes nothing.
use mathlib.Core.Path.{◌≡◌, refl}
use mathlib.Core.Bool.{true, false}
use native.Mathlib.Omega.{arith}
use Rattle.lists.specs.Truth.{clash}
use Rattle.search.specs.Sweep.{Lists}
use Rattle.search.specs.Parts.{row}
use Rattle.search.proofs.Runs.{carried_on}
use Rattle.search.proofs.Splitting.{lists-ahead, lists_back}
use Rattle.search.proofs.Turns.{closing-closed}
use Rattle.search.proofs.Abreast.{Nearing, all-opened, all-still, all-again, all-rebased, nearing-lent, together-lent, one-shut}
use Rattle.search.proofs.together.close_together.Goals as goal

pub sweep-new-requires-2 : goal.sweep-new-requires-2
sweep-new-requires-2 c =
    let along : Lists (row c.args.edges.now 2) (row c.args.edges.now 3) c.args.parts.ups c.args.parts.low false =
    let (e, stops, T) = c.requires.0 in lists-ahead T.plain T.few in
    record { a_le_b = (along.low-most, omega arith, together-lent along.key along.value c.requires.1 c.sweep-new.ensures); by_index = (along.key, along.value) }

pub loop-new-init : goal.loop-new-init
loop-new-init c =
    let along : Lists (row c.args.edges.now 2) (row c.args.edges.now 3) c.args.parts.ups c.args.parts.low false =
    let (e, stops, T) = c.requires.0 in lists-ahead T.plain T.few in
    let against : Lists (row c.args.edges.now 3) (row c.args.edges.now 2) c.args.parts.ups c.args.parts.low true =
    let (e, stops, T) = c.requires.0 in lists_back T.plain T.few in
    let first_two : (let args = c.args in
    Nearing (row args.edges.now 2) (row args.edges.now 3) args.parts.ups args.parts.low args.starts.now args.levels.now args.ends.now
    c.sweep-new-2.new.starts c.sweep-new-2.new.levels c.sweep-new-2.new.ends c.sweep-new-2.result) =
    all-opened along against c.requires.1 c.sweep-new.ensures c.sweep-new-2.ensures in
    all-rebased first_two

pub returns-then-left-turn : goal.returns-then-left-turn
returns-then-left-turn c =
    let along : Lists (row c.args.edges.now 2) (row c.args.edges.now 3) c.args.parts.ups c.args.parts.low false =
    let (e, stops, T) = c.requires.0 in lists-ahead T.plain T.few in
    let against : Lists (row c.args.edges.now 3) (row c.args.edges.now 2) c.args.parts.ups c.args.parts.low true =
    let (e, stops, T) = c.requires.0 in lists_back T.plain T.few in
    let first_two : (let args = c.args in
    Nearing (row args.edges.now 2) (row args.edges.now 3) args.parts.ups args.parts.low args.starts.now args.levels.now args.ends.now
    c.sweep-new-2.new.starts c.sweep-new-2.new.levels c.sweep-new-2.new.ends c.sweep-new-2.result) =
    all-opened along against c.requires.1 c.sweep-new.ensures c.sweep-new-2.ensures in
    let o = first_two in
    let i = c.loop-new.invariant in
    let levels = carried_on o.levels.is.half.carried i.levels.is.half.carried in record { shut = (carried_on o.starts.is.half.carried (carried_on i.starts.is.half.carried c.drain.ensures.carried), c.drain.ensures.closed); shut_2 = (carried_on o.ends.is.half.carried (carried_on i.ends.is.half.carried c.drain-then-left-turn.ensures.carried), c.drain-then-left-turn.ensures.closed); carried = levels; closed = λ h. absurd (clash h refl) }

pub sweep-new-requires-then-new-ne0 : goal.sweep-new-requires-then-new-ne0
sweep-new-requires-then-new-ne0 c =
    let along : Lists (row c.args.edges.now 2) (row c.args.edges.now 3) c.args.parts.ups c.args.parts.low false =
    let (e, stops, T) = c.requires.0 in lists-ahead T.plain T.few in
    let L = along in
    record { a_le_b = (L.low-most, omega arith, together-lent L.key L.value (nearing-lent c.loop-new.invariant) c.sweep-new-in-loop-new.ensures); by_index = (L.key, L.value) }

pub loop-new-preserved-then-new-ne0 : goal.loop-new-preserved-then-new-ne0
loop-new-preserved-then-new-ne0 c =
    let along : Lists (row c.args.edges.now 2) (row c.args.edges.now 3) c.args.parts.ups c.args.parts.low false =
    let (e, stops, T) = c.requires.0 in lists-ahead T.plain T.few in
    let against : Lists (row c.args.edges.now 3) (row c.args.edges.now 2) c.args.parts.ups c.args.parts.low true =
    let (e, stops, T) = c.requires.0 in lists_back T.plain T.few in
    all-again along against c.loop-new.invariant c.sweep-new-in-loop-new.ensures c.sweep-new-then-new-ne0.ensures

pub loop-new-preserved : goal.loop-new-preserved
loop-new-preserved c =
    let along : Lists (row c.args.edges.now 2) (row c.args.edges.now 3) c.args.parts.ups c.args.parts.low false =
    let (e, stops, T) = c.requires.0 in lists-ahead T.plain T.few in
    let against : Lists (row c.args.edges.now 3) (row c.args.edges.now 2) c.args.parts.ups c.args.parts.low true =
    let (e, stops, T) = c.requires.0 in lists_back T.plain T.few in
    all-still along against (omega arith) c.loop-new.invariant c.sweep-new-in-loop-new.ensures

pub returns : goal.returns
returns c =
    let along : Lists (row c.args.edges.now 2) (row c.args.edges.now 3) c.args.parts.ups c.args.parts.low false =
    let (e, stops, T) = c.requires.0 in lists-ahead T.plain T.few in
    let against : Lists (row c.args.edges.now 3) (row c.args.edges.now 2) c.args.parts.ups c.args.parts.low true =
    let (e, stops, T) = c.requires.0 in lists_back T.plain T.few in
    let first_two : (let args = c.args in
    Nearing (row args.edges.now 2) (row args.edges.now 3) args.parts.ups args.parts.low args.starts.now args.levels.now args.ends.now
    c.sweep-new-2.new.starts c.sweep-new-2.new.levels c.sweep-new-2.new.ends c.sweep-new-2.result) =
    all-opened along against c.requires.1 c.sweep-new.ensures c.sweep-new-2.ensures in
    let o = first_two in
    let i = c.loop-new.invariant in
    let e : c.loop-new.new ≡ 0 = omega arith in
    let levels = carried_on o.levels.is.half.carried i.levels.is.half.carried in record { shut = one-shut i.starts e o.starts.is.half.carried; shut_2 = one-shut i.ends e o.ends.is.half.carried; carried = levels; closed = λ _. closing-closed i.levels.is (i.levels.quiet e) }
