-- The phase count as the code makes it: the ends of a node are added for each of its starts, bit by bit; so for each start the ends of
-- the nodes that have it are united, node by node; and their number is summed, start by start.
-- Assumes nothing.
use mathlib.Core.Path.{◌≡◌, refl, sym, ◌∙◌}
use mathlib.Core.Bool.{Bool, true, false, ◌&&◌, ◌||◌, not, cond}
use mathlib.Core.List.{List}
use Prim.Native.Nat.{ℕ, ◌+◌, ◌/◌, ◌%◌, ◌^◌, ◌<◌}
use native.Mathlib.Numerals.{add-one}
use lib.Bits.{bit_or}
use lib.Count.{ones}
use lib.Dec.{eqb}
use lib.ListN.{length, get_or, replicate}
use borrow.Author.Tests.{eqb-true, ne_eqb}
use Rattle.lists.specs.Range.{any, count_pairs, count-pairs-more}
use Rattle.lists.specs.Mask.{has-none, mask_of}
use Rattle.lists.specs.Bits.{has, has_of, mask-empty, mask-same, or-mask, or-again, ones-mask}
use Rattle.lists.specs.Store.{zeros}
use Rattle.lists.specs.Truth.{and_both, or-false}
use Rattle.chart.specs.Region.{Region}
use Rattle.theory_paths.specs.Phases.{forward, backward, barriers, marked, marks, phase}
use Rattle.mark_tables.specs.Tables.{Masks}
use Rattle.masks.specs.Unions.{Added}
use Rattle.call_admit.specs.Unions.{among, United}

-- adding the same once more changes nothing
pub added-again : {old : List ℕ} {starts ends : ℕ} {new : List ℕ} → Added old starts ends new → Added new starts ends new
added-again {old} {starts} {ends} {new} a = record { long = a.long; at = λ b l. go b l (has starts b) (a.at b l) }
  where
    go : (b : ℕ) → b < 64 → (t : Bool) → get_or new b 0 ≡ cond t (bit_or (get_or old b 0) ends) (get_or old b 0)
        → get_or new b 0 ≡ cond t (bit_or (get_or new b 0) ends) (get_or new b 0)
    go b l true e = rw (e, or-again (get_or old b 0) ends)
    go b l false e = refl

-- nor does adding to no sets
pub added-to-none : {old : List ℕ} {starts : ℕ} (ends : ℕ) → starts ≡ 0 → length old ≡ 64 → Added old starts ends old
added-to-none ends e long = record { long = long; at = λ b l. rw (e, ne_eqb (0 / 2 ^ b % 2) 1 (has-none b)) }

-- nor does adding the sets of a node again that was added last
pub added-same : {old : List ℕ} (starts ends last-starts last-ends : ℕ) {different : Bool} → different ≡ false
    → different ≡ not (eqb starts last-starts && eqb ends last-ends) → Added old last-starts last-ends old → Added old starts ends old
added-same {old} starts ends last-starts last-ends n e a =
    let same = and_both _ _ (not-false _ (sym e ∙ n)) in
    rw (eqb-true starts last-starts same.0, eqb-true ends last-ends same.1) a
  where
    not-false : (b : Bool) → not b ≡ false → b ≡ true
    not-false true h = refl
    not-false false h = sym h

-- one node after the other

among_none : (R : Region) (b : ℕ) → 0 ≡ mask_of (among R 0 b) (length (barriers R))
unfolding any
among_none R b = sym (mask-empty (among R 0 b) (length (barriers R)) (λ c l. refl))

among-more : (R : Region) (starts ends : List ℕ) → Masks forward R starts → Masks backward R ends → (b x all r : ℕ) → b < length (barriers R) → x < 192
    → all ≡ mask_of (among R x b) (length (barriers R)) → r ≡ cond (has (get_or starts x 0) b) (bit_or all (get_or ends x 0)) all
    → r ≡ mask_of (among R (x + 1) b) (length (barriers R))
unfolding any marks
among-more R starts ends S E b x all r l m a e =
    let q : has (get_or starts x 0) b ≡ marked forward R x b = rw (S x m) (has_of (marked forward R x) (length (barriers R)) b l) in
    e ∙ rw (q, a, E x m, add-one x) (go (marked forward R x b))
  where
    go : (t : Bool) → cond t (bit_or (mask_of (among R x b) (length (barriers R))) (mask_of (marked backward R x) (length (barriers R)))) (mask_of (among R x b) (length (barriers R)))
        ≡ mask_of (λ c. among R x b c || (t && marked backward R x c)) (length (barriers R))
    go true = or-mask (among R x b) (marked backward R x) (length (barriers R))
    go false = mask-same _ _ _ (λ c l. sym (or-false (among R x b c)))

pub united-none : (R : Region) → United R 0 (replicate 64 0)
united-none R b l m = zeros 64 b ∙ among_none R b

pub united-more : (R : Region) (starts ends : List ℕ) → Masks forward R starts → Masks backward R ends → (x : ℕ) {unions new : List ℕ} → x < 192
    → United R x unions → Added unions (get_or starts x 0) (get_or ends x 0) new → United R (x + 1) new
united-more R starts ends S E x l u a b m q = among-more R starts ends S E b x _ _ q l (u b m q) (a.at b m)

-- one start after the other

pub pairs-more : (R : Region) (b sum r : ℕ) → sum ≡ count_pairs b (length (barriers R)) (phase R) → r ≡ mask_of (phase R b) (length (barriers R))
    → sum + ones r ≡ count_pairs (b + 1) (length (barriers R)) (phase R)
pairs-more R b sum r e m =
    rw (e, m, ones-mask (phase R b) (length (barriers R))) (sym (count-pairs-more b (length (barriers R)) (phase R)))
