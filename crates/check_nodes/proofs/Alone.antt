-- Row 5 of each node by itself: no node is bad that is not doubtful.
-- Assumes nothing.
use mathlib.Core.Path.{◌≡◌}
use mathlib.Core.Bool.{Bool, false, ◌||◌, cond}
use mathlib.Core.List.{List}
use Prim.Native.Nat.{ℕ}
use native.Mathlib.Decide.{ℕ_discrete}
use lib.Dec.{eqb, ltb, leb}
use lib.ListN.{length}
use borrow.Author.Tests.{lt-ltb, leb-false, eq-eqb, ne_eqb}
use Rattle.lists.specs.Truth.{and-false, or-neither}
use Rattle.lists.specs.Range.{any, any_none, none_passes}
use Rattle.chart.specs.Format.{outside, Construct, Decoded}
use Rattle.chart.specs.Scope.{barrier_node, begin_node, end_node}
use Rattle.chart.specs.Refusal.{bad_node}
use Rattle.check_nodes.specs.Parts.{doubtful, doubtful_at, alone_at}

-- no other node is bad by itself
in_order : (constructs : List Construct) (kind number : ℕ) → doubtful (length constructs) kind number ≡ false → bad_node constructs kind number ≡ false
unfolding doubtful bad_node
in_order constructs kind number h = go (ℕ_discrete number outside) a.1
  where
    test : Bool
    test = cond (eqb number outside) (leb begin_node kind) (leb (length constructs) number || eqb kind barrier_node)

    a : (ltb end_node kind ≡ false) × (test ≡ false)
    a = or-neither (ltb end_node kind) test h

    go : Dec (number ≡ outside) → test ≡ false → bad_node constructs kind number ≡ false
    go (yes q) t =
        let b : leb begin_node kind ≡ false = rw (eq-eqb number outside q) at t in
        simp (a.0, eq-eqb number outside q, b, and-false)
    go (no q) t =
        let b = or-neither (leb (length constructs) number) (eqb kind barrier_node) (rw (ne_eqb number outside q) at t) in
        simp (a.0, ne_eqb number outside q, lt-ltb number (length constructs) (leb-false _ _ b.0), b.1, and-false)

pub none-bad : (D : Decoded) → any (length D.nodes) (doubtful_at D) ≡ false → any (length D.nodes) (alone_at D) ≡ false
none-bad D h = any_none (length D.nodes) (alone_at D) (λ x l. in_order D.constructs _ _ (none_passes (length D.nodes) (doubtful_at D) h x l))
