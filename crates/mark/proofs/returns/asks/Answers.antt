-- `mark::returns::asks` meets its contract.
-- Assumes nothing.
use mathlib.Core.Path.{◌≡◌, refl}
use mathlib.Core.Logic.{◌≢◌, ⊎_elim}
use mathlib.Core.Bool.{Bool, true, false, cond}
use Prim.Native.Nat.{ℕ}
use native.Mathlib.Decide.{ℕ_discrete}
use lib.Dec.{eqb}
use borrow.Author.Tests.{ne_eqb}
use Rattle.chart.specs.Region.{master, critical, ordered, section, parallel}
use Rattle.chart.specs.Scope.{single_byte, loop_byte, sections_byte, kind_of}
use Rattle.mark_tables.specs.Tables.{asks_return}
use Rattle.mark.proofs.returns.asks.Goals.{then-kind-eq-SINGLE, else-kind-eq-SINGLE}
use Rattle.mark.proofs.returns.asks.Goals as goal

-- of other kinds no rule asks it
unasked : (m o t p : Bool) → asks_return (cond m master (cond o ordered (cond t section (cond p parallel critical)))) ≡ false
unasked true o t p = refl
unasked false true t p = refl
unasked false false true p = refl
unasked false false false true = refl
unasked false false false false = refl

others : (k : ℕ) → k ≢ single_byte → k ≢ loop_byte → Dec (k ≡ sections_byte) → eqb k sections_byte ≡ asks_return (kind_of k)
unfolding kind_of
others k a b (yes q) = rw q refl
others k a b (no q) = rw (ne_eqb k single_byte a, ne_eqb k loop_byte b, ne_eqb k sections_byte q) (rw (unasked _ _ _ _) refl)

pub returns-then-kind-eq-DO : goal.returns-then-kind-eq-DO
unfolding kind_of
returns-then-kind-eq-DO c = elim c.if-kind-eq-SINGLE.branch [
  | then-kind-eq-SINGLE w ↦ rw (w.t-3-is, w.if-kind-eq-SINGLE.true) refl
  | else-kind-eq-SINGLE w ↦ ⊎_elim (λ e. absurd (w.if-kind-eq-SINGLE.false e)) (λ e. rw (w.t-3-is, e.1) refl) c.if-kind-eq-DO.either
]

pub returns-else-kind-eq-DO : goal.returns-else-kind-eq-DO
returns-else-kind-eq-DO c = others _ c.if-kind-eq-DO.false.0 c.if-kind-eq-DO.false.1 (ℕ_discrete _ sections_byte)
