-- `answer_sheet::rows::planes` meets its contract. The loop's invariant: the nodes have the numbers of the rules passed, and those are left that
-- have a common phase and to which none of them applies.
-- Assumes nothing.
use mathlib.Core.Path.{◌≡◌, ap, sym, ◌∙◌}
use mathlib.Core.Bool.{Bool, cond}
use Prim.Native.Nat.{ℕ, ◌+◌}
use native.Mathlib.Omega.{arith}
use lib.ListN.{get_or}
use Rattle.lists.specs.Range.{any}
use Rattle.lists.specs.Truth.{and-true}
use Rattle.lists.specs.Bits.{has}
use Rattle.answer_pairs.specs.Rules.{numbered, by_rules}
use Rattle.answer_nodes.proofs.BitTests.{has-and, has-without}
use Rattle.answer_sheet.specs.Eights.{digit}
use Rattle.answer_sheet.proofs.Ranks.{none-given, blank-left, next-left, next-number}
use Rattle.answer_sheet.proofs.rows.planes.Goals as goal

pub loop-k-init : goal.loop-k-init
unfolding digit numbered any
loop-k-init c = (omega arith, λ j. (sym (and-true (has c.args.both j)), none-given _ j))

pub offset_bounds-rules-k : goal.offset_bounds-rules-k
offset_bounds-rules-k c = omega arith

pub bounds-rules-k : goal.bounds-rules-k
bounds-rules-k c = omega arith

pub give-p-requires : goal.give-p-requires
give-p-requires c = omega arith

pub loop-k-preserved : goal.loop-k-preserved
loop-k-preserved c =
    let e = c.args in
    let k = c.loop-k.k in
    let set = get_or e.rules.now k 0 in
    let rule : ℕ → ℕ → Bool = λ j i. has (get_or e.rules.now i 0) j in (
      omega arith,
      λ j. let u = c.loop-k.invariant.1 j in
          let hit = has-and c.loop-k.left set j in (
            has-without c.loop-k.left set j ∙ next-left (has e.both j) (rule j) k u,
            c.give-p.ensures j (λ h. blank-left (has e.both j) (rule j) k u (sym hit ∙ h)) ∙ ap (λ (b : Bool). cond b (k + 2) (digit c.loop-k.p j)) hit ∙ next-number (has e.both j) (rule j) k u,
          ),
    )

pub returns : goal.returns
unfolding by_rules
returns c j =
    let q : c.loop-k.k ≡ 4 = omega arith in
    rw q at (c.loop-k.invariant.1 j).1
