-- `answer_sheet::sheet::fill_sheet` meets its contract. The loop's invariant: the rows passed stand at the front of the buffer.
-- Assumes nothing.
use mathlib.Core.Path.{◌≡◌, refl, ap, sym, ◌∙◌, subst}
use Prim.Native.Nat.{ℕ, ◌+◌, ◌*◌, ◌≤◌, ◌<◌}
use native.Mathlib.Omega.{arith}
use native.Mathlib.Nat.{mul-le-mul_right}
use lib.ListN.{length}
use Rattle.chart.specs.Region.{Region}
use Rattle.chart.specs.Checked.{reading}
use Rattle.chart.proofs.Records.{nodes-length}
use Rattle.lists.specs.Rows.{square, row_room, row-end, after, after_none, after-length, after_more, after-all, part_length}
use Rattle.theory_answers.specs.Answer.{answer_for}
use Rattle.theory_answers.specs.Sheet.{entry, row, sheet}
use Rattle.answer_constructs.specs.Marks.{Marks}
use Rattle.answer_nodes.proofs.Joining.{rows-past}
use Rattle.answer_sheet.proofs.Entries.{kept_row}
use Rattle.answer_sheet.proofs.sheet.fill_sheet.Goals as goal

pub sets_for-sets-requires : goal.sets_for-sets-requires
sets_for-sets-requires c = c.requires.0

pub load_closed-requires : goal.load_closed-requires
load_closed-requires c = c.requires.0

pub gather_all-requires : goal.gather_all-requires
gather_all-requires c =
    (rows-past c.requires.1 (nodes-length _ c.args.chart c.requires.0.laid), refl)

pub fill_fence-requires : goal.fill_fence-requires
fill_fence-requires c = tt

pub fill_spread-requires : goal.fill_spread-requires
fill_spread-requires c = tt

pub work_row-requires : goal.work_row-requires
work_row-requires c = (c.fill_spread.ensures, refl)

pub loop-a-init : goal.loop-a-init
loop-a-init c = (
  omega arith,
  c.work_row.ensures.0,
  c.work_row.ensures.1 _ _ c.gather_all.ensures c.fill_fence.ensures,
  λ R size q M Z C. after_none (entry R (answer_for R size)) R.nodes c.args.out.now,
)

pub profile_of-requires : goal.profile_of-requires
profile_of-requires c =
    let few : c.loop-a.a < 192 =
    omega (arith, c.requires.0.laid.nodes-most, c.loop-a-test.true) in
    few

pub bounds-closed-a : goal.bounds-closed-a
bounds-closed-a c =
    let few : c.loop-a.a < 192 =
    omega (arith, c.requires.0.laid.nodes-most, c.loop-a-test.true) in
    few

pub keep_row-kept-requires : goal.keep_row-kept-requires
keep_row-kept-requires c =
    (c.fill_spread.ensures, c.loop-a.invariant.1)

pub overflow_mul-a : goal.overflow_mul-a
overflow_mul-a c =
    let ends : let n = c.args.chart.nodes in (c.loop-a.a + 1) * n ≡ c.loop-a.a * n + n =
    row-end c.loop-a.a c.args.chart.nodes in
    let most : (c.loop-a.a + 1) * c.args.chart.nodes ≤ 36864 =
    omega (arith, ends, row_room c.loop-a.a c.args.chart.nodes c.loop-a-test.true, square c.requires.0.laid.nodes-most) in
    omega (arith, most, ends)

pub overflow_mul-a-in-loop-a : goal.overflow_mul-a-in-loop-a
overflow_mul-a-in-loop-a c =
    let ends : let n = c.args.chart.nodes in (c.loop-a.a + 1) * n ≡ c.loop-a.a * n + n =
    row-end c.loop-a.a c.args.chart.nodes in
    let most : (c.loop-a.a + 1) * c.args.chart.nodes ≤ 36864 =
    omega (arith, ends, row_room c.loop-a.a c.args.chart.nodes c.loop-a-test.true, square c.requires.0.laid.nodes-most) in
    omega (arith, most)

pub slice_bounds-fill_row-count : goal.slice_bounds-fill_row-count
slice_bounds-fill_row-count c =
    let ends : let n = c.args.chart.nodes in (c.loop-a.a + 1) * n ≡ c.loop-a.a * n + n =
    row-end c.loop-a.a c.args.chart.nodes in
    omega (arith, ends)

pub slice_bounds-fill_row-start : goal.slice_bounds-fill_row-start
slice_bounds-fill_row-start c =
    let ends : let n = c.args.chart.nodes in (c.loop-a.a + 1) * n ≡ c.loop-a.a * n + n =
    row-end c.loop-a.a c.args.chart.nodes in
    omega (arith, ends)

pub slice_bounds-fill_row-end : goal.slice_bounds-fill_row-end
slice_bounds-fill_row-end c =
    let read : Region =
    reading c.args.s.now c.args.chart in
    let answer : ℕ → ℕ → ℕ =
    answer_for read c.args.size in
    let passed : c.loop-a.out ≡ after (entry read answer) read.nodes c.loop-a.a c.args.out.now =
    let Z = c.sets_for-sets.ensures.sized in
    let same = c.sets_for-sets.ensures.kinds_value in
    c.loop-a.invariant.3 read c.args.size (nodes-length _ c.args.chart c.requires.0.laid) (subst (Marks read c.args.marks.now) (sym same) c.requires.1) Z c.load_closed.ensures in
    let long : length c.loop-a.out ≡ length c.args.out.now =
    let n = nodes-length _ c.args.chart c.requires.0.laid in
    let most = mul-le-mul_right {m = c.loop-a.a} {n = c.args.chart.nodes} c.args.chart.nodes c.loop-a.invariant.0 in
    ap length passed ∙ after-length (entry read answer) read.nodes c.loop-a.a c.args.out.now (rw n (omega (arith, most, c.requires.2))) in
    let ends : let n = c.args.chart.nodes in (c.loop-a.a + 1) * n ≡ c.loop-a.a * n + n =
    row-end c.loop-a.a c.args.chart.nodes in
    let most : (c.loop-a.a + 1) * c.args.chart.nodes ≤ 36864 =
    omega (arith, ends, row_room c.loop-a.a c.args.chart.nodes c.loop-a-test.true, square c.requires.0.laid.nodes-most) in
    let room : (c.loop-a.a + 1) * c.args.chart.nodes ≤ length c.loop-a.out =
    omega (arith, ends, row_room c.loop-a.a c.args.chart.nodes c.loop-a-test.true, c.requires.2, long) in
    room

pub fill_row-requires : goal.fill_row-requires
fill_row-requires c =
    let read : Region =
    reading c.args.s.now c.args.chart in
    let answer : ℕ → ℕ → ℕ =
    answer_for read c.args.size in
    let passed : c.loop-a.out ≡ after (entry read answer) read.nodes c.loop-a.a c.args.out.now =
    let Z = c.sets_for-sets.ensures.sized in
    let same = c.sets_for-sets.ensures.kinds_value in
    c.loop-a.invariant.3 read c.args.size (nodes-length _ c.args.chart c.requires.0.laid) (subst (Marks read c.args.marks.now) (sym same) c.requires.1) Z c.load_closed.ensures in
    let long : length c.loop-a.out ≡ length c.args.out.now =
    let n = nodes-length _ c.args.chart c.requires.0.laid in
    let most = mul-le-mul_right {m = c.loop-a.a} {n = c.args.chart.nodes} c.args.chart.nodes c.loop-a.invariant.0 in
    ap length passed ∙ after-length (entry read answer) read.nodes c.loop-a.a c.args.out.now (rw n (omega (arith, most, c.requires.2))) in
    let ends : let n = c.args.chart.nodes in (c.loop-a.a + 1) * n ≡ c.loop-a.a * n + n =
    row-end c.loop-a.a c.args.chart.nodes in
    let most : (c.loop-a.a + 1) * c.args.chart.nodes ≤ 36864 =
    omega (arith, ends, row_room c.loop-a.a c.args.chart.nodes c.loop-a-test.true, square c.requires.0.laid.nodes-most) in
    let room : (c.loop-a.a + 1) * c.args.chart.nodes ≤ length c.loop-a.out =
    omega (arith, ends, row_room c.loop-a.a c.args.chart.nodes c.loop-a-test.true, c.requires.2, long) in
    let long = part_length c.args.chart.nodes _ _ c.loop-a.out ends room in
    (omega (arith, long, c.requires.0.laid.nodes-most), omega (arith, long))

pub loop-a-preserved : goal.loop-a-preserved
unfolding row
loop-a-preserved c =
    let read : Region =
    reading c.args.s.now c.args.chart in
    let answer : ℕ → ℕ → ℕ =
    answer_for read c.args.size in
    let passed : c.loop-a.out ≡ after (entry read answer) read.nodes c.loop-a.a c.args.out.now =
    let Z = c.sets_for-sets.ensures.sized in
    let same = c.sets_for-sets.ensures.kinds_value in
    c.loop-a.invariant.3 read c.args.size (nodes-length _ c.args.chart c.requires.0.laid) (subst (Marks read c.args.marks.now) (sym same) c.requires.1) Z c.load_closed.ensures in
    let long : length c.loop-a.out ≡ length c.args.out.now =
    let n = nodes-length _ c.args.chart c.requires.0.laid in
    let most = mul-le-mul_right {m = c.loop-a.a} {n = c.args.chart.nodes} c.args.chart.nodes c.loop-a.invariant.0 in
    ap length passed ∙ after-length (entry read answer) read.nodes c.loop-a.a c.args.out.now (rw n (omega (arith, most, c.requires.2))) in
    let ends : let n = c.args.chart.nodes in (c.loop-a.a + 1) * n ≡ c.loop-a.a * n + n =
    row-end c.loop-a.a c.args.chart.nodes in
    let most : (c.loop-a.a + 1) * c.args.chart.nodes ≤ 36864 =
    omega (arith, ends, row_room c.loop-a.a c.args.chart.nodes c.loop-a-test.true, square c.requires.0.laid.nodes-most) in
    let room : (c.loop-a.a + 1) * c.args.chart.nodes ≤ length c.loop-a.out =
    omega (arith, ends, row_room c.loop-a.a c.args.chart.nodes c.loop-a-test.true, c.requires.2, long) in
    let (below, wide, kept, done) = c.loop-a.invariant in
    let next = c.keep_row-kept.ensures.2 _ _ c.gather_all.ensures c.fill_fence.ensures kept in (
      omega arith,
      c.keep_row-kept.ensures.0,
      next,
      λ R size n M Z C.
          let filled = c.fill_row.ensures R (answer_for R size) (n ∙ sym (part_length c.args.chart.nodes _ _ c.loop-a.out ends room)) C
          (λ o j h. next j (omega (arith, n, c.requires.0.laid.nodes-most, h)) ∙ kept_row _ M size Z C c.loop-a.a j _ _ (omega (arith, n, c.loop-a-test.true)) h c.keep_row-kept.ensures.1 c.profile_of.ensures o)
          in
          after_more (entry R (answer_for R size)) R.nodes c.loop-a.a _ _ c.args.out.now c.loop-a.out _ (ap (λ (k : ℕ). c.loop-a.a * k) (sym n))
          (ends ∙ ap (λ (k : ℕ). c.loop-a.a * c.args.chart.nodes + k) (sym n)) (done R size n M Z C) filled,
    )

pub shape_of-out : goal.shape_of-out
shape_of-out c =
    let read : Region =
    reading c.args.s.now c.args.chart in
    let answer : ℕ → ℕ → ℕ =
    answer_for read c.args.size in
    let passed : c.loop-a.out ≡ after (entry read answer) read.nodes c.loop-a.a c.args.out.now =
    let Z = c.sets_for-sets.ensures.sized in
    let same = c.sets_for-sets.ensures.kinds_value in
    c.loop-a.invariant.3 read c.args.size (nodes-length _ c.args.chart c.requires.0.laid) (subst (Marks read c.args.marks.now) (sym same) c.requires.1) Z c.load_closed.ensures in
    let long : length c.loop-a.out ≡ length c.args.out.now =
    let n = nodes-length _ c.args.chart c.requires.0.laid in
    let most = mul-le-mul_right {m = c.loop-a.a} {n = c.args.chart.nodes} c.args.chart.nodes c.loop-a.invariant.0 in
    ap length passed ∙ after-length (entry read answer) read.nodes c.loop-a.a c.args.out.now (rw n (omega (arith, most, c.requires.2))) in
    long

pub returns : goal.returns
unfolding sheet
returns c =
    let read : Region =
    reading c.args.s.now c.args.chart in
    let answer : ℕ → ℕ → ℕ =
    answer_for read c.args.size in
    let passed : c.loop-a.out ≡ after (entry read answer) read.nodes c.loop-a.a c.args.out.now =
    let Z = c.sets_for-sets.ensures.sized in
    let same = c.sets_for-sets.ensures.kinds_value in
    c.loop-a.invariant.3 read c.args.size (nodes-length _ c.args.chart c.requires.0.laid) (subst (Marks read c.args.marks.now) (sym same) c.requires.1) Z c.load_closed.ensures in
    let R = read in
    let f = answer in
    let q : c.loop-a.a ≡ R.nodes = omega (arith, nodes-length _ c.args.chart c.requires.0.laid) in
    passed ∙ ap (λ (k : ℕ). after (entry R f) R.nodes k c.args.out.now) q ∙ after-all (entry R f) R.nodes R.nodes c.args.out.now
