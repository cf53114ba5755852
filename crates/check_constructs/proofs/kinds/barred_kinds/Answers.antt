-- `check_constructs::kinds::barred_kinds` meets its contract.
-- Assumes nothing.
use mathlib.Core.Path.{◌≡◌, refl, ◌∙◌}
use Prim.Native.Nat.{ℕ, ◌+◌}
use native.Mathlib.Omega.{arith}
use lib.ListN.{length-set}
use Rattle.lists.specs.Mask.{mask_of}
use Rattle.lists.specs.Store.{stored}
use Rattle.check_constructs.specs.Kinds.{barred_by}
use Rattle.check_constructs.proofs.kinds.barred_kinds.Goals as goal

pub loop-row-init : goal.loop-row-init
loop-row-init c = (omega arith, refl, λ kind l. absurd (omega arith))

pub loop-row-preserved : goal.loop-row-preserved
loop-row-preserved c =
    let i = c.loop-row.invariant in (
      omega arith,
      length-set c.loop-row.barred c.loop-row.row c.row_bits.result ∙ i.1,
      stored (λ (kind : ℕ) (byte : ℕ). byte ≡ mask_of (barred_by (kind + 1)) 8) c.loop-row.barred c.loop-row.row c.row_bits.result (omega (arith, i.1)) c.row_bits.ensures i.2,
    )

pub returns : goal.returns
returns c = let i = c.loop-row.invariant in record { long = i.1; entry = λ kind l. i.2 kind (omega arith) }
