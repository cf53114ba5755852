-- `check_trailer::bad_lengths` meets its contract.
-- Assumes nothing.
use mathlib.Core.List.{List}
use mathlib.Core.Bool.{not, ◌||◌}
use mathlib.Core.Path.{◌≡◌, ap}
use Prim.Native.Nat.{ℕ, ◌+◌, ◌*◌, ◌-◌}
use lib.ListN.{length, drop}
use lib.Dec.{eqb}
use Rattle.std.proofs.Common.{arith}
use Rattle.std.proofs.lemmas.Bool.Decides.{nat_tests}
use Rattle.chart.specs.Format.{field, construct_bytes, decode, last_trailer, trailer_of}
use Rattle.chart.specs.declared.format.Chart.{Chart}
use Rattle.chart.specs.Checked.{counts_of}
use Rattle.chart.specs.Refusal.{bad_lengths}
use Rattle.chart.proofs.Records.{trailer-field}
use Rattle.check_trailer.proofs.bad_lengths.Goals as goal

-- the test in terms of the counts that were handed over and of the bytes of the constructs
lengths-by : (s : List ℕ) (chart : Chart) (constructs : ℕ) → chart ≡ counts_of s → constructs ≡ construct_bytes chart.edition chart.constructs
    → bad_lengths (length s) (decode s).trailer
    ≡ (not (eqb (length s) (4 * chart.nodes + 2 * chart.edges + constructs + 16))
    || (not (eqb (field (drop (length s - 16) s) 8) (length s))
    || (not (eqb (field (drop (length s - 16) s) 10) (2 * chart.edges + constructs + 16))
    || not (eqb (field (drop (length s - 16) s) 12) (constructs + 16)))))
unfolding bad_lengths decode last_trailer trailer_of counts_of
lengths-by s chart constructs q e = rw (
  e,
  ap (λ (k : Chart). k.edition) q,
  ap (λ (k : Chart). k.nodes) q,
  ap (λ (k : Chart). k.edges) q,
  ap (λ (k : Chart). k.constructs) q,
)

pub returns-then-field-e : goal.returns-then-field-e
returns-then-field-e c =
    let f = trailer-field c.args.s.now c.trailer-cursor.result.at in
    let e = c.trailer-cursor.ensures in
    grind (arith, nat_tests, lengths-by _ c.args.chart _ c.requires.1 c.construct_bytes-constructs.ensures.0, f 8 e, f 10 e, f 12 e)

pub returns-else-field-e : goal.returns-else-field-e
returns-else-field-e c =
    let f = trailer-field c.args.s.now c.trailer-cursor.result.at in
    let e = c.trailer-cursor.ensures in
    grind (arith, nat_tests, lengths-by _ c.args.chart _ c.requires.1 c.construct_bytes-constructs.ensures.0, f 8 e, f 10 e, f 12 e)
