-- `mark::returns::returns` meets its contract: a construct returns where its begin is reached from its end.
-- Assumes nothing.
use mathlib.Core.Path.{◌≡◌, sym, ap, ◌∙◌}
use mathlib.Core.List.{List}
use Prim.Native.Nat.{ℕ, ◌+◌, ◌≤◌}
use lib.ListN.{length, get_or, take}
use lib.Seq.{length-take-le}
use Rattle.lists.specs.Bits.{has, mask-same}
use Rattle.lists.specs.Mask.{mask_of}
use Rattle.search.proofs.Ranges.{front-same, front-below}
use mathlib.Core.Logic.{⊎_elim}
use native.Mathlib.Omega.{arith}
use native.Mathlib.Nat.{zero-add}
use Rattle.chart.proofs.Records.{constructs-length}
use Rattle.mark.proofs.Searching.{ends-reach}
use Rattle.mark.proofs.Further.{spread-first}
use Rattle.mark.proofs.returns.returns.Goals as goal

-- the bits of the first n nodes of a list
front-bits : (masks begins : List ℕ) (first n : ℕ) → n ≤ length begins
    → mask_of (λ c. has (get_or masks (get_or (take n begins) c 0) 0) (first + c)) (length (take n begins))
    ≡ mask_of (λ c. has (get_or masks (get_or begins c 0) 0) (first + c)) n
front-bits masks begins first n h =
    rw (length-take-le n begins h) (mask-same _ _ n (λ b l. ap (λ (x : ℕ). has (get_or masks x 0) (first + b)) (front-same begins n b l)))

pub returns-then-extent : goal.returns-then-extent
returns-then-extent c =
    let q : c.args.extent.total ≡ c.args.extent.barriers = omega arith in
    let n = c.args.n in
    let ends = c.args.framing.now.ends in
    let bits = front-bits c.ahead.new.masks c.args.framing.now.begins 0 n (omega arith) in
    record {
      tells_returned = (λ s chart stops nodes A Q B E F S H w.
          rw (c.diagonal.ensures, bits) (ends-reach s chart A _ (Q.all (λ z. omega arith) ∙ sym (constructs-length s chart A.laid)) F S B E 0 (omega (arith, length-take-le n ends))
          (λ d l. rw (zero-add d) (front-same ends n d l)) (c.ahead.ensures _ _ F.split F.begins)));
      barred = λ k stops nodes w. rw q at w;
    }

pub returns-else-extent : goal.returns-else-extent
returns-else-extent c =
    let (few, order, most, none, long, ready) = c.requires.n_bound in
    let bits = front-bits c.args.starts.now c.args.framing.now.begins c.args.extent.barriers c.args.n (omega arith) in
    record {
      tells_returned = (λ s chart stops nodes A Q B E F S H w.
          rw (c.diagonal-all.ensures, bits) (⊎_elim (λ z. absurd (omega arith))
          (λ h. ends-reach s chart A _ (Q.all (λ z. omega arith) ∙ sym (constructs-length s chart A.laid)) F S B E c.args.extent.barriers (omega (arith, h.0)) h.1 w) H));
      barred = λ k stops nodes w. spread-first c.args.extent.barriers order c.keep_first.ensures w;
    }

pub ahead-requires-clause-by_index : goal.ahead-requires-clause-by_index
ahead-requires-clause-by_index c = front-below c.args.framing.now.ends c.args.n 192 (omega arith) c.requires.by_index.1

pub diagonal-requires-clause-by_index : goal.diagonal-requires-clause-by_index
diagonal-requires-clause-by_index c = front-below c.args.framing.now.begins c.args.n 192 (omega arith) c.requires.by_index.0

pub diagonal-all-requires-clause-by_index : goal.diagonal-all-requires-clause-by_index
diagonal-all-requires-clause-by_index c = front-below c.args.framing.now.begins c.args.n 192 (omega arith) c.requires.by_index.0
