-- `mark::returns::asked` meets its contract: where it is asked of none, no rule asks or none returns.
-- Assumes nothing.
use mathlib.Core.Path.{◌≡◌, refl}
use native.Mathlib.Omega.{arith}
use Prim.Native.Nat.{ℕ}
use Rattle.lists.specs.Truth.{clash}
use Rattle.lists.specs.Bits.{has_of}
use Rattle.chart.specs.Region.{Region}
use Rattle.chart.proofs.Records.{constructs-length}
use Rattle.theory_paths.specs.Decide.{returns as returns_at}
use Rattle.theory_paths.specs.Phases.{returning}
use Rattle.mark_tables.specs.Tables.{Returned}
use Rattle.mark.proofs.Rising.{none-return}
use Rattle.mark.proofs.returns.asked.Goals as goal

-- the whole mask tells it of all constructs
told : (R : Region) (m : ℕ) → m ≡ returning R → Returned R m
unfolding returning
told R m q c l a = rw q (has_of (returns_at R) R.constructs c l)

pub returns-then-not-any_asked : goal.returns-then-not-any_asked
returns-then-not-any_asked c =
    record {
      none = λ _ d l a. absurd (clash a (c.any_asked.ensures c.if-not-any_asked.true d (omega (arith, constructs-length _ c.args.chart c.requires.accepted.0.laid, l))));
      all = λ n. absurd (n refl);
    }

pub returns-then-all_before : goal.returns-then-all_before
returns-then-all_before c =
    let s = c.args.s.now in
    let (A, B, E) = c.requires.accepted in
    let (_, _, (stops, (F, S))) = c.requires.by_index in
    let q = constructs-length s c.args.chart A.laid in
    record {
      none = λ _. told _ 0 (none-return s c.args.chart A F S c.if-parts-eq-EDGES.true B E (λ d l. c.all_before.ensures c.if-all_before.true d (omega arith)));
      all = λ n. absurd (n refl);
    }

pub returns-else-parts-eq-EDGES : goal.returns-else-parts-eq-EDGES
returns-else-parts-eq-EDGES c =
    record { none = λ q d l a. absurd (omega (arith, constructs-length _ c.args.chart c.requires.accepted.0.laid, l)); all = λ _. refl }
