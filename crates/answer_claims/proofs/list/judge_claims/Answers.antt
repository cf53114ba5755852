-- `answer_claims::list::judge_claims` meets its contract: row 12, then row 13, then row 21, then the verdict.
-- Assumes nothing.
use mathlib.Core.Path.{◌≡◌, sym, ap, ◌∙◌}
use Rattle.std.specs.Prelude.{Ok}
use mathlib.Core.Bool.{false}
use Prim.Native.Nat.{◌%◌}
use native.Mathlib.Omega.{arith}
use lib.ListN.{length}
use borrow.Author.Tests.{eq-eqb, ne_eqb}
use Rattle.chart.specs.Region.{Region}
use Rattle.chart.specs.Checked.{reading}
use Rattle.chart.specs.Refusal.{first_of}
use Rattle.theory_answers.specs.Size.{size_rows}
use Rattle.theory_calls.specs.Claims.{odd_bytes, bad_numbers}
use Rattle.theory_calls.specs.Judged.{claim_rows, answered}
use Rattle.answer_claims.proofs.Fitting.{numbers_fit}
use Rattle.answer_claims.proofs.list.judge_claims.Goals as goal

pub returns-then-claims-eq1 : goal.returns-then-claims-eq1
unfolding answered first_of claim_rows odd_bytes
returns-then-claims-eq1 c = rw (eq-eqb (length c.args.claims.now % 2) 1 (omega arith))

pub returns-then-bad_numbers : goal.returns-then-bad_numbers
unfolding answered first_of claim_rows odd_bytes
returns-then-bad_numbers c =
    let even = ne_eqb (length c.args.claims.now % 2) 1 (omega arith) in
    rw (even, sym c.bad_numbers.ensures ∙ c.if-bad_numbers.true)

-- past these rows the size's is left
pub returns-then-bad_size : goal.returns-then-bad_size
unfolding answered first_of claim_rows odd_bytes
returns-then-bad_size c =
    let R : Region =
    reading c.args.s.now c.args.chart in
    let good : bad_numbers R c.args.claims.now ≡ false =
    sym c.bad_numbers.ensures ∙ c.if-bad_numbers.false in
    let rest : first_of (claim_rows R c.args.size c.args.claims.now) ≡ first_of (size_rows c.args.size) =
    rw (ne_eqb (length c.args.claims.now % 2) 1 (omega arith), good) in
    rw (rest, c.bad_size.ensures, c.if-bad_size.true)

pub first_false-requires : goal.first_false-requires
first_false-requires c =
    let R : Region =
    reading c.args.s.now c.args.chart in
    let good : bad_numbers R c.args.claims.now ≡ false =
    sym c.bad_numbers.ensures ∙ c.if-bad_numbers.false in
    let M = c.requires.1 in
    numbers_fit R _ M.well-formed M.few good

pub returns : goal.returns
unfolding answered first_of claim_rows odd_bytes
returns c =
    let R : Region =
    reading c.args.s.now c.args.chart in
    let good : bad_numbers R c.args.claims.now ≡ false =
    sym c.bad_numbers.ensures ∙ c.if-bad_numbers.false in
    let rest : first_of (claim_rows R c.args.size c.args.claims.now) ≡ first_of (size_rows c.args.size) =
    rw (ne_eqb (length c.args.claims.now % 2) 1 (omega arith), good) in
    let Z = c.sets_for.ensures.sized in
    let same = c.sets_for.ensures.kinds_value in
    rw (rest, c.bad_size.ensures, c.if-bad_size.false) (ap Ok (c.first_false.ensures R c.args.size (rw same c.requires.1) Z good))
