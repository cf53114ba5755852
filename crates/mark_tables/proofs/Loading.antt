-- What the loops that load a chart keep: stops and barriers.
-- Assumes nothing.
use mathlib.Core.Path.{◌≡◌, refl, ap, sym, ◌∙◌, fun_ext}
use mathlib.Core.Bool.{Bool, true, false, ◌&&◌, not, cond}
use mathlib.Core.List.{List, [], ◌∷◌, ◌++◌}
use Prim.Native.Nat.{ℕ, zero, suc, ◌+◌, ◌-◌, ◌≤◌, ◌<◌}
use native.Mathlib.Omega.{arith}
use native.Mathlib.Decide.{dec_lt}
use lib.Dec.{eqb, leb}
use lib.ListN.{length, get_or, replicate, length-set, length-append, length-replicate, get_or-eq_default}
use borrow.Author.Tests.{not-true, ne_eqb}
use Rattle.lists.specs.Truth.{same_truth, eq-not-eqb}
use Rattle.lists.specs.Range.{count}
use Rattle.lists.specs.Counting.{count-hit, count-mono, count-up}
use Rattle.lists.specs.Store.{at_set, zeros}
use Rattle.lists.specs.Select.{select, select-hit, select-miss, select-length, select-passes, append_at, append-off}
use Rattle.chart.specs.Format.{decode, node_at}
use Rattle.chart.specs.Region.{Role, Region}
use Rattle.chart.specs.Nested.{role_in}
use Rattle.chart.specs.Refusal.{barrier_of}
use Rattle.chart.specs.Checked.{reading}
use Rattle.chart.specs.declared.format.Chart.{Chart}
use Rattle.chart.proofs.Records.{nodes-length}
use Rattle.chart.proofs.Tables.{no-node}
use Rattle.chart.proofs.Kept.{barrier-counted, counted-barrier}
use Rattle.theory_paths.specs.Decide.{no_barrier}
use Rattle.theory_paths.specs.Phases.{barriers}
use Rattle.theory_paths.specs.PhasesLaws.{is-barrier}
use Rattle.mark_tables.proofs.Accepted.{tables}
use Rattle.mark_tables.specs.Tables.{Accepted, Stops, Barriers, has_stop, stop_from, Listing, Noted, skip, put}

-- a barrier of the region by its bytes, as row 8 counts them

abbrev pub stop_of : List ℕ → Chart → ℕ → ℕ
stop_of s chart x = cond (no_barrier ((reading s chart).role x)) 0 1

module _ (s : List ℕ) (chart : Chart) (A : Accepted s chart) where
  pub barrier-test : (x : ℕ) → barrier_of (decode s).nodes chart.region x ≡ not (no_barrier ((reading s chart).role x))
  barrier-test x =
      let F = tables s chart A in
      same_truth _ (not (no_barrier ((reading s chart).role x)))
      (λ h. ap (λ (r : Role). not (no_barrier r)) (counted-barrier (decode s) F chart.region x h))
      (λ h. barrier-counted (decode s) F chart.region x (is-barrier _ (not-true _ h)))

  pub stop-byte : (x kind number v : ℕ) → kind ≡ (node_at (decode s).nodes x).kind → number ≡ (node_at (decode s).nodes x).number
      → v ≡ cond (leb 1 kind && eqb number chart.region) 1 0 → v ≡ stop_of s chart x
  unfolding barrier_of
  stop-byte x kind number v k n e = e ∙ rw (k, n, barrier-test x) (go (no_barrier ((reading s chart).role x)))
    where
      go : (b : Bool) → ◌≡◌ {A = ℕ} (cond (not b) 1 0) (cond b 0 1)
      go true = refl
      go false = refl

  pub stop-past : (x : ℕ) → length (decode s).nodes ≤ x → stop_of s chart x ≡ 0
  unfolding role_in
  stop-past x l = rw (no-node (decode s) x l)

-- the list of the barriers

-- numbers that do not pass add nothing
select-rest : (f : ℕ → Bool) (i d : ℕ) → ((k : ℕ) → k < d → f (i + k) ≡ false) → select (i + d) f ≡ select i f
select-rest f i zero h = let q : i + 0 ≡ i = omega arith in rw q
select-rest f i (suc d) h =
    let q : i + suc d ≡ i + d + 1 = omega arith in
    rw q (select-miss f (i + d) (h d (omega arith)) ∙ select-rest f i d (λ k l. h k (omega arith)))

pub listing_none : (stops : List ℕ) → Listing stops 0 (replicate 64 0) 0
unfolding select
listing_none stops = record { long = length-replicate {A = ℕ} 64 0; count = refl; at = λ b. zeros 64 b }

-- a listing goes on over nodes without a stop
pub listing-skip : {stops : List ℕ} {x : ℕ} {nodes : List ℕ} {total : ℕ} (d : ℕ) → ((k : ℕ) → k < d → stop_from stops x k ≡ false)
    → Listing stops x nodes total → Listing stops (x + d) nodes total
listing-skip {stops} {x} d none L =
    let q = sym (select-rest (has_stop stops) x d none) in
    record { long = L.long; count = L.count ∙ ap length q; at = λ b. L.at b ∙ ap (λ (l : List ℕ). get_or l b 0) q }

few-below : (stops : List ℕ) → count 192 (has_stop stops) ≤ 64 → (x : ℕ) → x ≤ 192 → count x (has_stop stops) ≤ 64
few-below stops few x l =
    let q : x + (192 - x) ≡ 192 = omega arith in
    omega (arith, rw q at (count-up (has_stop stops) x (192 - x)))

-- few stops leave room in the list
module _ {stops : List ℕ} (few : count 192 (has_stop stops) ≤ 64) {x : ℕ} {nodes : List ℕ} {total : ℕ} (L : Listing stops x nodes total) where
  pub most : x ≤ 192 → total ≤ 64
  most l = omega (arith, L.count, select-length x (has_stop stops), few-below stops few x l)

  pub room : x < 192 → (get_or stops x 0 ≡ 0 → ⊥) → total < 64
  room l h =
      let f = has_stop stops in
      omega (arith, L.count, select-length x f, count-hit f x (ap not (ne_eqb _ 0 h)), few-below stops few (x + 1) (omega arith))

  pub listing-more : {nodes' : List ℕ} {total' : ℕ} → x < 192 → Noted (get_or stops x 0) x nodes total nodes' total' → Listing stops (x + 1) nodes' total'
  listing-more below (skip h) = listing-skip 1 (λ k l. let q : x + k ≡ x = omega arith in rw q (eq-not-eqb _ 0 h)) L
  listing-more below (put h) =
      let l = select x (has_stop stops) in
      let q = sym (select-hit (has_stop stops) x (ap not (ne_eqb _ 0 h))) in
      record {
        long = length-set nodes total x ∙ L.long;
        count = omega (arith, L.count, length-append l (x ∷ []), ap length q);
        at = λ b. at_set (λ v. v ≡ get_or (l ++ (x ∷ [])) b 0) nodes total x b (omega (arith, L.long, room below h))
            (λ e. sym (ap (λ (i : ℕ). get_or (l ++ (x ∷ [])) i 0) (e ∙ L.count) ∙ append_at l x))
            (λ n. L.at b ∙ sym (append-off l x b (λ e. n (e ∙ sym L.count))))
            ∙ ap (λ (l : List ℕ). get_or l b 0) q;
      }

-- row 8 bounds the barriers

abbrev noted : Region → ℕ → Bool
noted R x = not (no_barrier (R.role x))

pub barriers-most : (s : List ℕ) (chart : Chart) → Accepted s chart → length (barriers (reading s chart)) ≤ 64
unfolding barriers
barriers-most s chart A =
    let D = decode s in
    let n = length D.nodes in
    omega (
      arith,
      select-length n (noted (reading s chart)),
      count-mono n (noted (reading s chart)) (barrier_of D.nodes chart.region) (λ k b t. barrier-test s chart A k ∙ t),
      (tables s chart A).barriers.most chart.region A.named,
    )

barriers-below : (s : List ℕ) (chart : Chart) → Accepted s chart → (b : ℕ) → get_or (barriers (reading s chart)) b 0 < 192
unfolding barriers
barriers-below s chart A b = go (dec_lt b (length (select n f)))
  where
    n : ℕ
    n = length (decode s).nodes

    f : ℕ → Bool
    f = noted (reading s chart)

    go : Dec (b < length (select n f)) → get_or (select n f) b 0 < 192
    go (yes l) = omega (arith, (select-passes n f b l).0, nodes-length s chart A.laid, A.laid.nodes-most)
    go (no l) = let q = get_or-eq_default (select n f) 0 {n = b} (omega arith) in omega arith

-- the nodes with a stop are the barriers: none stands behind the last node
module _ (s : List ℕ) (chart : Chart) (A : Accepted s chart) {stops : List ℕ} (S : Stops (reading s chart) stops) where
  stop-noted : (x : ℕ) → has_stop stops x ≡ noted (reading s chart) x
  stop-noted x = rw (S.at x) (go (no_barrier ((reading s chart).role x)))
    where
      go : (b : Bool) → not (eqb (cond b 0 1) 0) ≡ not b
      go true = refl
      go false = refl

  stops-listed : select 192 (has_stop stops) ≡ barriers (reading s chart)
  unfolding barriers
  stops-listed =
      let n = length (decode s).nodes in
      let q : n + (192 - n) ≡ 192 = omega (arith, nodes-length s chart A.laid, A.laid.nodes-most) in
      rw q at (select-rest (has_stop stops) n (192 - n) (λ k l. eq-not-eqb _ 0 (S.at (n + k) ∙ stop-past s chart A (n + k) (omega arith))))
      ∙ ap (select n) (fun_ext stop-noted)

  pub stops-few : count 192 (has_stop stops) ≤ 64
  stops-few = omega (arith, select-length 192 (has_stop stops), ap length stops-listed, barriers-most s chart A)

  pub listing-all : {nodes : List ℕ} {total : ℕ} → Listing stops 192 nodes total → Barriers (reading s chart) nodes total
  listing-all {nodes} L = record {
    long = L.long;
    count = L.count ∙ ap length stops-listed;
    at = λ b _. same b;
    node = λ b. omega (arith, same b, barriers-below s chart A b);
  }
    where
      same : (b : ℕ) → get_or nodes b 0 ≡ get_or (barriers (reading s chart)) b 0
      same b = L.at b ∙ ap (λ (l : List ℕ). get_or l b 0) stops-listed
