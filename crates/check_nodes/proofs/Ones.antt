-- How many nodes of a kind the constructs have: where each has one at least, there are as many as constructs exactly where each has one.
-- Assumes nothing.
use mathlib.Core.Path.{◌≡◌, refl}
use mathlib.Core.Bool.{Bool, true, false, ◌&&◌}
use mathlib.Core.List.{List}
use Prim.Native.Nat.{ℕ, zero, suc, ◌+◌, ◌≤◌, ◌<◌}
use native.Mathlib.Omega.{arith}
use native.Mathlib.Decide.{ℕ_discrete, dec_lt}
use lib.Dec.{eqb, ltb, leb}
use borrow.Author.Tests.{lt-ltb, le-ltb, le-leb, lt-leb, eq-eqb, ne_eqb}
use Rattle.lists.specs.Truth.{and-false}
use Rattle.lists.specs.Range.{count, count_none}
use Rattle.lists.specs.Counting.{one, count-sum}
use Rattle.chart.specs.Format.{Node, node_at}
use Rattle.chart.specs.Scope.{begin_node, end_node}
use Rattle.chart.proofs.Facts.{is_frame}

-- a number below suc k is below k or k
parted : (b : Bool) (m k : ℕ) → one (b && ltb m (suc k)) ≡ one (b && ltb m k) + one (b && eqb m k)
parted false m k = refl
parted true m k = go (dec_lt m k) (ℕ_discrete m k)
  where
    go : Dec (m < k) → Dec (m ≡ k) → one (ltb m (suc k)) ≡ one (ltb m k) + one (eqb m k)
    go (yes l) d = rw (lt-ltb m (suc k) (omega arith), lt-ltb m k l, ne_eqb m k (λ q. absurd (omega arith)))
    go (no l) (yes q) = rw (lt-ltb m (suc k) (omega arith), le-ltb m k (omega arith), eq-eqb m k q)
    go (no l) (no q) = rw (le-ltb m (suc k) (omega arith), le-ltb m k (omega arith), ne_eqb m k q)

module _ (nodes : List Node) (kind n : ℕ) where
  -- a node of the kind with a number below k
  abbrev pub up_to : ℕ → ℕ → Bool
  up_to k x = eqb (node_at nodes x).kind kind && ltb (node_at nodes x).number k

  -- how many have the number c
  abbrev of : ℕ → ℕ
  of c = count n (is_frame nodes kind c)

  none : count n (up_to 0) ≡ 0
  none = count_none n (up_to 0) (λ x l. rw (le-ltb (node_at nodes x).number 0 (omega arith)) (and-false (eqb (node_at nodes x).kind kind)))

  more : (k : ℕ) → count n (up_to (suc k)) ≡ count n (up_to k) + of k
  more k = count-sum n (up_to k) (is_frame nodes kind k) (up_to (suc k)) (λ x l. parted (eqb (node_at nodes x).kind kind) (node_at nodes x).number k)

  pub all_one : (k : ℕ) → ((c : ℕ) → c < k → of c ≡ 1) → count n (up_to k) ≡ k
  all_one zero h = none
  all_one (suc k) h = omega (arith, more k, all_one k (λ c l. h c (omega arith)), h k (omega arith))

  pub least : (k : ℕ) → ((c : ℕ) → c < k → 1 ≤ of c) → k ≤ count n (up_to k)
  least zero h = omega arith
  least (suc k) h = omega (arith, more k, least k (λ c l. h c (omega arith)), h k (omega arith))

  pub each-one : (k : ℕ) → ((c : ℕ) → c < k → 1 ≤ of c) → count n (up_to k) ≡ k → (c : ℕ) → c < k → of c ≡ 1
  each-one zero h e c l = absurd (omega arith)
  each-one (suc k) h e c l =
      let few : (c : ℕ) → c < k → 1 ≤ of c = λ c l. h c (omega arith) in
      let last : of k ≡ 1 = omega (arith, more k, least k few, h k (omega arith)) in
      go last (each-one k few (omega (arith, more k)) c) (ℕ_discrete c k)
    where
      go : of k ≡ 1 → (c < k → of c ≡ 1) → Dec (c ≡ k) → of c ≡ 1
      go last r (yes q) = rw q last
      go last r (no q) = r (omega arith)

-- a frame is a begin or an end, and its number that of a construct
either : (kind number k : ℕ) → kind ≤ end_node → (begin_node ≤ kind → number < k)
    → one (leb begin_node kind) ≡ one (eqb kind begin_node && ltb number k) + one (eqb kind end_node && ltb number k)
either kind number k known below = go (ℕ_discrete kind begin_node) (ℕ_discrete kind end_node)
  where
    go : Dec (kind ≡ begin_node) → Dec (kind ≡ end_node) → one (leb begin_node kind) ≡ one (eqb kind begin_node && ltb number k) + one (eqb kind end_node && ltb number k)
    go (yes q) d =
        let l : begin_node ≤ kind = omega arith in
        rw (le-leb begin_node kind l, lt-ltb number k (below l), eq-eqb kind begin_node q, ne_eqb kind end_node (λ z. absurd (omega arith)))
    go (no q) (yes z) =
        let l : begin_node ≤ kind = omega arith in
        rw (le-leb begin_node kind l, lt-ltb number k (below l), ne_eqb kind begin_node q, eq-eqb kind end_node z)
    go (no q) (no z) = rw (lt-leb begin_node kind (omega arith), ne_eqb kind begin_node q, ne_eqb kind end_node z)

pub both-kinds : (nodes : List Node) (n k : ℕ)
    → ((x : ℕ) → x < n → ((node_at nodes x).kind ≤ end_node) × (begin_node ≤ (node_at nodes x).kind → (node_at nodes x).number < k))
    → count n (λ x. leb begin_node (node_at nodes x).kind) ≡ count n (up_to nodes begin_node n k) + count n (up_to nodes end_node n k)
both-kinds nodes n k h =
    count-sum n (up_to nodes begin_node n k) (up_to nodes end_node n k) (λ x. leb begin_node (node_at nodes x).kind)
    (λ x l. either (node_at nodes x).kind (node_at nodes x).number k (h x l).0 (h x l).1)
