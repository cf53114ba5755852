-- `answer_sheet::rows::fill_rules` meets its contract. The loop's invariant: the sets of the rules passed are there.
-- Assumes nothing.
use mathlib.Core.Path.{◌∙◌}
use native.Mathlib.Omega.{arith}
use lib.ListN.{length-set}
use Rattle.lists.specs.Store.{stored}
use Rattle.answer_sheet.proofs.rows.fill_rules.Invariants.{Shares}
use Rattle.answer_sheet.proofs.rows.fill_rules.Goals as goal

-- the set of rule j, of word w
pub loop-k-init : goal.loop-k-init
loop-k-init c =
    let p = c.requires in
    (omega arith, p.0, p.1, p.2, λ closed marks I j l. absurd (omega arith), λ closed marks I j l. absurd (omega arith), λ closed marks I j l. absurd (omega arith))

pub offset_bounds-kinds-k : goal.offset_bounds-kinds-k
offset_bounds-kinds-k c = omega arith

pub bounds-kinds-k : goal.bounds-kinds-k
bounds-kinds-k c = omega arith

pub offset_bounds-low-k : goal.offset_bounds-low-k
offset_bounds-low-k c = omega arith

pub bounds-low-k : goal.bounds-low-k
bounds-low-k c = omega arith

pub offset_bounds-middle-k : goal.offset_bounds-middle-k
offset_bounds-middle-k c = omega arith

pub bounds-middle-k : goal.bounds-middle-k
bounds-middle-k c = omega arith

pub offset_bounds-high-k : goal.offset_bounds-high-k
offset_bounds-high-k c = omega arith

pub bounds-high-k : goal.bounds-high-k
bounds-high-k c = omega arith

pub loop-k-preserved : goal.loop-k-preserved
loop-k-preserved c =
    let e = c.args in
    let v = c.loop-k in
    let k = v.k in (
      omega arith,
      length-set v.low k _ ∙ v.invariant.1,
      length-set v.middle k _ ∙ v.invariant.2,
      length-set v.high k _ ∙ v.invariant.3,
      λ closed marks I. stored (Shares e.held e.sets.kinds closed marks 0) v.low k _ (omega (arith, v.invariant.1)) (c.sharing-words.ensures closed marks.held I.held).low (v.invariant.4 closed marks I),
      λ closed marks I. stored (Shares e.held e.sets.kinds closed marks 1) v.middle k _ (omega (arith, v.invariant.2)) (c.sharing-words.ensures closed marks.held I.held).middle (v.invariant.5 closed marks I),
      λ closed marks I. stored (Shares e.held e.sets.kinds closed marks 2) v.high k _ (omega (arith, v.invariant.3)) (c.sharing-words.ensures closed marks.held I.held).high (v.invariant.6 closed marks I),
    )

pub returns : goal.returns
returns c closed marks I =
    let v = c.loop-k in record {
      in-low = λ k h. v.invariant.4 closed marks I k (omega arith);
      in-middle = λ k h. v.invariant.5 closed marks I k (omega arith);
      in-high = λ k h. v.invariant.6 closed marks I k (omega arith);
    }
