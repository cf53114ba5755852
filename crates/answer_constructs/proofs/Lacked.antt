-- Row 21 of a size, the masters that a team of some size lacks, and marks by the sets of kinds alone.
-- Assumes nothing.
use mathlib.Core.Path.{◌≡◌, ap}
use mathlib.Core.Bool.{Bool, true, ◌||◌, cond}
use mathlib.Core.List.{List}
use mathlib.Core.Option.{none, some}
use Prim.Native.Nat.{ℕ, ◌<◌}
use native.Mathlib.Omega.{arith}
use lib.Dec.{eqb, ltb}
use borrow.Author.Tests.{eqb-true, eq-eqb, leb-true, le-leb}
use Rattle.lists.specs.Truth.{and_both, both-and}
use Rattle.lists.specs.Mask.{Mask, mask_of, mask-of, mask-carry}
use Rattle.chart.specs.Format.{Construct, decode, construct_at}
use Rattle.chart.specs.Region.{Region}
use Rattle.chart.specs.Refusal.{first_of}
use Rattle.chart.specs.Scope.{master_byte, kind_of}
use Rattle.chart.specs.Checked.{reading}
use Rattle.chart.specs.declared.format.Chart.{Chart}
use Rattle.chart.proofs.Records.{constructs-length}
use Rattle.theory_answers.specs.Size.{size_row, size_rows}
use Rattle.theory_answers.specs.declared.Size.{Size}
use Rattle.theory_answers.specs.declared.Size.TheVariants.{Of}
use Rattle.mark_tables.specs.Tables.{Accepted}
use Rattle.answer_constructs.specs.Chains.{is_over}
use Rattle.answer_constructs.specs.Marks.{Lacked}
use Rattle.answer_constructs.proofs.Constructs.{kind-byte}
use Rattle.chart.specs.declared.format.Refusal.TheVariants.{BadSize}

pub of_size : {size : Size} {m : ℕ} {r : Bool} → size ≡ Of m → (ltb m 1 || ltb 1024 m) ≡ r → first_of (size_rows size) ≡ cond r (some BadSize) none
unfolding first_of size_row
of_size q e = rw (q, e)

module _ (s : List ℕ) (chart : Chart) (A : Accepted s chart) (m : ℕ) where
  abbrev R : Region
  R = reading s chart

  abbrev at : ℕ → Construct
  at d = construct_at (decode s).constructs d

  pub over-lacked : Mask (Lacked R m) R.constructs (mask_of (is_over (decode s).constructs m) chart.constructs)
  unfolding is_over kind_of
  over-lacked = rw (← constructs-length s chart A.laid) (mask-carry to from (mask-of (is_over (decode s).constructs m) R.constructs))
    where
      to : (d : ℕ) → d < R.constructs → is_over (decode s).constructs m d ≡ true → Lacked R m d
      to d l h =
          let k = and_both (eqb (at d).kind master_byte) _ h in
          (ap kind_of (eqb-true (at d).kind master_byte k.0), leb-true m (at d).filter k.1)

      from : (d : ℕ) → d < R.constructs → Lacked R m d → is_over (decode s).constructs m d ≡ true
      from d l (k, t) =
          both-and (eqb (at d).kind master_byte) _ (eq-eqb _ _ (kind-byte s chart A master_byte d (omega arith) (omega arith) l k)) (le-leb m (at d).filter t)
