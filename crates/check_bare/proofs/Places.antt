-- The highest of what the places tell, place by place; and that it is the highest of what the records tell.
-- Assumes nothing.
use mathlib.Core.Path.{◌≡◌, refl, sym, ap, ◌∙◌}
use mathlib.Core.Bool.{Bool, true, ◌||◌}
use mathlib.Core.List.{List}
use Prim.Native.Nat.{ℕ, suc, ◌+◌, ◌*◌, ◌-◌, ◌/◌, ◌%◌, ◌≤◌, ◌<◌, max}
use native.Mathlib.Omega.{arith}
use native.Mathlib.Decide.{ℕ_discrete, dec_lt}
use native.Mathlib.Numerals.{add-one}
use lib.Dec.{eqb, leb}
use lib.ListN.{length, get_or}
use borrow.Author.Tests.{le-leb, lt-leb, leb-true, eq-eqb, ne_eqb}
use Rattle.lists.specs.Truth.{same_truth}
use Rattle.lists.specs.Range.{any, any_at, at-any, any_same}
use Rattle.chart.specs.Format.{decode, node_at, edge_at}
use Rattle.chart.specs.Checked.{Laid}
use Rattle.chart.specs.declared.format.Chart.{Chart}
use Rattle.chart.proofs.Records.{node-fields, edge-fields, nodes-length}
use Rattle.check_bare.specs.Told.{full, evenly, node_told, edge_told, node_place, edge_place, Highest}

max-reaches : (v a b : ℕ) → leb v (max a b) ≡ (leb v a || leb v b)
max-reaches v a b = go (dec_lt a v) (dec_lt b v)
  where
    go : Dec (a < v) → Dec (b < v) → leb v (max a b) ≡ (leb v a || leb v b)
    go (yes p) (yes q) = rw (lt-leb v a p, lt-leb v b q) (lt-leb v (max a b) (omega arith))
    go (yes p) (no q) = rw (lt-leb v a p, le-leb v b (omega arith)) (le-leb v (max a b) (omega arith))
    go (no p) q = rw (le-leb v a (omega arith)) (le-leb v (max a b) (omega arith))

pub highest-none : (f : ℕ → ℕ) → Highest f 0 0
unfolding any
highest-none f = record { reaches = λ v l. lt-leb v 0 l }

-- one place more
pub highest-more : {f : ℕ → ℕ} {n high : ℕ} → Highest f n high → Highest f (n + 1) (max high (f n))
unfolding any
highest-more {f} {n} {high} H = record { reaches = λ v l. rw (add-one n, any) (max-reaches v high (f n) ∙ ap (λ (b : Bool). b || leb v (f n)) (H.reaches v l)) }

-- places that tell something at the even ones alone: every other one of them is looked at
module _ (v : ℕ) (low : 1 ≤ v) (high : v ≤ 255) where
  even-reaches : (k x : ℕ) → leb v (evenly k x) ≡ true → (k % 2 ≡ 0) × (v ≤ x)
  even-reaches k x h = go (ℕ_discrete (k % 2) 0)
    where
      go : Dec (k % 2 ≡ 0) → (k % 2 ≡ 0) × (v ≤ x)
      go (yes q) = (q, omega (arith, leb-true v (evenly k x) h))
      go (no q) =
          let z : full (eqb (k % 2) 0) ≡ 0 = ap full (ne_eqb (k % 2) 0 q) in
          absurd (omega (arith, leb-true v (evenly k x) h))

  reaches-even : (k x : ℕ) → k % 2 ≡ 0 → v ≤ x → leb v (evenly k x) ≡ true
  reaches-even k x q l =
      let z : full (eqb (k % 2) 0) ≡ 255 = ap full (eq-eqb (k % 2) 0 q) in
      le-leb v (evenly k x) (omega arith)

  every-other : (f : ℕ → ℕ) (n : ℕ) → any (2 * n) (λ k. leb v (evenly k (f k))) ≡ any n (λ i. leb v (f (2 * i)))
  every-other f n = same_truth _ _ to from
    where
      to : any (2 * n) (λ k. leb v (evenly k (f k))) ≡ true → any n (λ i. leb v (f (2 * i))) ≡ true
      to h =
          let (k, b, p) = any_at (2 * n) (λ k. leb v (evenly k (f k))) h in
          let (q, r) = even-reaches k (f k) p in
          let e : 2 * (k / 2) ≡ k = omega arith in
          at-any n (λ i. leb v (f (2 * i))) (k / 2) (omega arith) (rw e (le-leb v (f k) r))

      from : any n (λ i. leb v (f (2 * i))) ≡ true → any (2 * n) (λ k. leb v (evenly k (f k))) ≡ true
      from h =
          let (i, b, p) = any_at n (λ i. leb v (f (2 * i))) h in
          at-any (2 * n) (λ k. leb v (evenly k (f k))) (2 * i) (omega arith) (reaches-even (2 * i) (f (2 * i)) (omega arith) (leb-true v (f (2 * i)) p))

  -- the records of a chart
  module _ (s : List ℕ) (chart : Chart) (laid : Laid s chart) where
    -- a byte at the front of a record
    at_front : (at value : ℕ) → get_or s (at + 0) 0 ≡ value → get_or s at 0 ≡ value
    at_front at value h = let z : at + 0 ≡ at = omega arith in rw z at h

    abbrev node : ℕ → ℕ
    node x = node_told (node_at (decode s).nodes x).kind (node_at (decode s).nodes x).number

    pub node-places : any (4 * chart.nodes) (λ k. leb v (node_place s k)) ≡ any (length (decode s).nodes) (λ x. leb v (node x))
    node-places =
        let n = chart.nodes in
        let four : 4 * n ≡ 2 * (2 * n) = omega arith in
        ap (λ (m : ℕ). any m (λ k. leb v (node_place s k))) four
        ∙ every-other (λ k. evenly (k / 2) (told k)) (2 * n)
        ∙ any_same (2 * n) _ (λ i. leb v (evenly i (told (2 * i)))) half
        ∙ every-other (λ i. told (2 * i)) n
        ∙ any_same n _ (λ x. leb v (node x)) fields
        ∙ ap (λ (m : ℕ). any m (λ x. leb v (node x))) (sym (nodes-length s chart laid))
      where
        told : ℕ → ℕ
        told k = node_told (get_or s k 0) (get_or s (k + 1) 0)

        half : (i : ℕ) → i < 2 * chart.nodes → leb v (evenly (2 * i / 2) (told (2 * i))) ≡ leb v (evenly i (told (2 * i)))
        half i l = let q : 2 * i / 2 ≡ i = omega arith in ap (λ (j : ℕ). leb v (evenly j (told (2 * i)))) q

        fields : (x : ℕ) → x < chart.nodes → leb v (told (2 * (2 * x))) ≡ leb v (node x)
        fields x l =
            let at = 2 * (2 * x) in
            let (kind, number) = node-fields s chart laid x at l (omega arith) in
            rw (at_front at _ kind, number)

    -- of each edge but the first, after the one before it
    abbrev edge : ℕ → ℕ
    edge i =
        let before = edge_at (decode s).edges i in
        let after = edge_at (decode s).edges (suc i) in
        edge_told before.from before.to after.from after.to

    pub edge_places : any (2 * (chart.edges - 1)) (λ k. leb v (edge_place s (4 * chart.nodes) k)) ≡ any (chart.edges - 1) (λ i. leb v (edge i))
    edge_places = every-other told (chart.edges - 1) ∙ any_same (chart.edges - 1) _ (λ i. leb v (edge i)) fields
      where
        told : ℕ → ℕ
        told k =
            let at = 4 * chart.nodes + k in
            edge_told (get_or s at 0) (get_or s (at + 1) 0) (get_or s (at + 2) 0) (get_or s (at + 3) 0)

        fields : (i : ℕ) → i < chart.edges - 1 → leb v (told (2 * i)) ≡ leb v (edge i)
        fields i l =
            let at = 4 * chart.nodes + 2 * i in
            let (from, to) = edge-fields s chart laid i at (omega arith) refl in
            let (next, node) = edge-fields s chart laid (suc i) (at + 2) (omega arith) (omega arith) in
            let q : at + 2 + 1 ≡ at + 3 = omega arith in
            rw (at_front at _ from, to, at_front (at + 2) _ next, rw q at node)
