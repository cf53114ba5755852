-- `mark_tables::load::any_stop` meets its contract: after k turns the first k of the eight are asked.
-- Assumes nothing.
use mathlib.Core.Path.{◌≡◌, refl, ap, sym, ◌∙◌}
use mathlib.Core.Bool.{not, ◌||◌}
use Prim.Native.Nat.{ℕ, zero, suc, ◌+◌}
use native.Mathlib.Omega.{arith}
use borrow.Author.Tests.{ne_eqb}
use lib.Bits.{bit_or, or_zero_l}
use lib.Dec.{eqb}
use Rattle.lists.specs.Mask.{or-more}
use Rattle.lists.specs.Range.{any, any_next}
use Rattle.mark_tables.specs.Tables.{stop_from}
use Rattle.search.proofs.Ranges.{range-at}
use Rattle.mark_tables.proofs.load.any_stop.Goals as goal

pub loop-stop-init : goal.loop-stop-init
unfolding any
loop-stop-init c = refl

-- two bytes or-ed are 0 exactly where both are
or-asks : (a b : ℕ) → not (eqb (bit_or a b) 0) ≡ (not (eqb a 0) || not (eqb b 0))
or-asks zero b = ap (λ (m : ℕ). not (eqb m 0)) (or_zero_l b)
or-asks (suc a) b = rw (ne_eqb (bit_or (suc a) b) 0 (λ e. omega (arith, or-more (suc a) b)), ne_eqb (suc a) 0 (λ e. omega arith))

pub loop-stop-preserved : goal.loop-stop-preserved
loop-stop-preserved c =
    let a = c.args in
    let f = stop_from a.stops.now a.x in
    let k = c.loop-stop.stop-index in
    let at = range-at a.stops.now a.x (a.x + 8) k (omega (arith, c.loop-stop-test.true)) in
    or-asks c.loop-stop.found _ ∙ rw (at, c.loop-stop.invariant) (sym (any_next k f))
