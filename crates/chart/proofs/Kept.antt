-- The nodes and the barriers of one region: whatever the region says of a node, the node is kept; its barriers are those that row 8 counts.
-- Assumes nothing.
use mathlib.Core.Path.{◌≡◌, ap, sym, ◌∙◌, subst}
use mathlib.Core.Logic.{inl, inr, ◌≢◌}
use mathlib.Core.Bool.{true, ◌||◌}
use Prim.Native.Nat.{ℕ, ◌≤◌, ◌<◌}
use native.Mathlib.Omega.{arith}
use native.Mathlib.Decide.{ℕ_discrete, dec_lt}
use lib.Dec.{eqb, ltb, leb}
use lib.ListN.{length}
use borrow.Author.Tests.{eq-eqb, eqb-true, le-leb, leb-true}
use Rattle.lists.specs.Truth.{and-true, and_both, both-and, or_cases, or_left, or_right, same_truth}
use Rattle.chart.specs.Format.{outside, Node, Decoded, no_node, node_at}
use Rattle.chart.specs.Region.{barrier}
use Rattle.chart.specs.Scope.{barrier_node, begin_node, end_node, lies_at, parent_of, Encloses, here, up}
use Rattle.chart.specs.Nested.{counts_in, lies_within, kept_in}
use Rattle.chart.specs.Reading.{edge_in, region, region_of}
use Rattle.chart.specs.Refusal.{barrier_of}
use Rattle.chart.proofs.Tree.{below_more, first_step, outside-encloses, higher}
use Rattle.chart.proofs.Facts.{TablesFit}
use Rattle.chart.proofs.Reading.{Frame, begin, end, marks}
use Rattle.chart.proofs.Scopes.{byte_of, barrier-role, frame-barrier, lies-number}
use Rattle.chart.proofs.Tables.{lies, scoped, no-node, in-chart, node-fit, parents, scope-below, lies-scope, frame_here, frame-scope, frame-lies, enclosed}
use Rattle.chart.proofs.RegionFacts.{counts-within, in_both, within-encloses, kept-scope, barrier-at, encloses-within, marks-at, in-counts}

-- the outermost region has every node of the chart, and every edge
module _ (D : Decoded) (x : ℕ) where
  pub outermost-kept : (region D).kept x ≡ ltb x (length D.nodes)
  unfolding kept_in lies_within
  outermost-kept = and-true (ltb x (length D.nodes))

  pub outermost-edge : (y : ℕ) → (region D).edge x y ≡ edge_in D.edges x y
  unfolding lies_within
  outermost-edge y = and-true (edge_in D.edges x y)

module _ (D : Decoded) (F : TablesFit D) (p : ℕ) where
  abbrev kind : ℕ → ℕ
  kind x = (node_at D.nodes x).kind

  abbrev number : ℕ → ℕ
  number x = (node_at D.nodes x).number

  abbrev parent : ℕ → ℕ
  parent = parent_of D.constructs

  outermost-within : (q : ℕ) → p ≡ outside → lies_within D.constructs p q ≡ true
  unfolding lies_within
  outermost-within q z = or_left _ _ (eq-eqb p outside z)

  kept_in_lem : (x : ℕ) → x < length D.nodes → (p ≢ outside → Encloses parent (lies D x) p) → (region_of p D).kept x ≡ true
  kept_in_lem x l i = kept-scope D p begin x l (elim (ℕ_discrete p outside) [
    | yes q ↦ outermost-within (scoped D begin x) q
    | no n ↦ encloses-within D p F (scoped D begin x) (scope-below D F begin x) (lies-scope D F begin x (i n))
  ])

  pub marks-kept : (f : Frame) (x c : ℕ) → (region_of p D).role x ≡ marks f c → (region_of p D).kept x ≡ true
  marks-kept f x c w =
      let m = marks-at D p F f x c w in
      kept_in_lem x (frame_here D F f x c m.0)
      (λ n. subst (λ (q : ℕ). Encloses parent q p) (sym (frame-lies D F f x c m.0)) (counts-within D p m.1 n))

  -- what stands past the last node lies in nothing
  past-lies : (x : ℕ) {c : ℕ} → Encloses parent (lies D x) c → x < length D.nodes
  unfolding lies_at
  past-lies x {c} e = elim (dec_lt x (length D.nodes)) [
    | yes l ↦ l
    | no l ↦ (let q : node_at D.nodes x ≡ no_node = no-node D x (omega arith) in
        let z : kind x ≡ 0 = ap (λ (k : Node). k.kind) q in
        absurd (outside-encloses (lies-number (number x) _ (omega arith) ∙ ap (λ (k : Node). k.number) q) e))
  ]

  pub inside-kept : (x c : ℕ) → (region_of p D).inside x c ≡ true → (region_of p D).kept x ≡ true
  inside-kept x c i =
      let e = enclosed D F x c (in_both D p x c i).0 in
      kept_in_lem x (past-lies x e) (λ n. higher e (counts-within D p (in-counts D p F x c i) n))

  -- the barriers of the region, by the test that row 8 counts with
  pub barrier-counted : (x : ℕ) → (region_of p D).role x ≡ barrier → barrier_of D.nodes p x ≡ true
  unfolding barrier_of
  barrier-counted x w = let b = barrier-at D p x w in both-and _ _ (le-leb barrier_node _ b.0) (eq-eqb _ p b.1)

  pub counted-barrier : (x : ℕ) → barrier_of D.nodes p x ≡ true → (region_of p D).role x ≡ barrier
  unfolding barrier_of
  counted-barrier x h = go (ℕ_discrete (kind x) barrier_node) (ℕ_discrete (kind x) begin_node) (node-fit D F x).known
    where
      b : (leb barrier_node (kind x) ≡ true) × (eqb (number x) p ≡ true)
      b = and_both (leb barrier_node (kind x)) _ h

      q : number x ≡ p
      q = eqb-true _ p b.1

      some : barrier_node ≤ kind x
      some = leb-true barrier_node _ b.0

      go : Dec (kind x ≡ barrier_node) → Dec (kind x ≡ begin_node) → kind x ≤ end_node → (region_of p D).role x ≡ barrier
      go (yes k) e l = barrier-role p (counts_in D.constructs p) k q
      go (no a) (yes k) l = frame-barrier p (counts_in D.constructs p) begin k q
      go (no a) (no e) l = let s = some in frame-barrier p (counts_in D.constructs p) end (omega arith) q

  pub barrier-kept : (x : ℕ) → (region_of p D).role x ≡ barrier → (region_of p D).kept x ≡ true
  unfolding lies_at
  barrier-kept x w = go (dec_lt (kind x) begin_node) (ℕ_discrete (kind x) begin_node) (node-fit D F x).known
    where
      b : (barrier_node ≤ kind x) × (number x ≡ p)
      b = barrier-at D p x w

      here-p : p ≢ outside → Encloses parent p p
      here-p n = here n

      below : x < length D.nodes
      below = let k = b.0 in in-chart D x (omega arith)

      framed : (f : Frame) → kind x ≡ byte_of f → (region_of p D).kept x ≡ true
      framed f k = kept-scope D p f x below (elim (ℕ_discrete p outside) [
        | yes q ↦ outermost-within (scoped D f x) q
        | no n ↦ encloses-within D p F (scoped D f x) (scope-below D F f x)
            (subst (λ (q : ℕ). Encloses parent q p) (sym (frame-scope D F f x p (k, b.1))) (here-p n))
      ])

      go : Dec (kind x < begin_node) → Dec (kind x ≡ begin_node) → kind x ≤ end_node → (region_of p D).kept x ≡ true
      go (yes l) e k = kept_in_lem x below (λ n. subst (λ (q : ℕ). Encloses parent q p) (sym (lies-number (number x) _ l ∙ b.1)) (here-p n))
      go (no l) (yes k) z = framed begin k
      go (no l) (no e) z = framed end (omega arith)

  -- what a pass over the constructs makes of the flags: c lies in the region of a parallel p that it is, or in which its parent lies
  pub within_step : length D.constructs ≤ outside → p ≢ outside → (c : ℕ) → c < length D.constructs
      → lies_within D.constructs p c ≡ (eqb c p || lies_within D.constructs p (parent c))
  within_step few n c l = same_truth _ _
      (λ h. split (within-encloses D p c n h))
      (λ h. encloses-within D p F c (inr l) (elim (or_cases (eqb c p) _ h) [
        | inl q ↦ subst (λ (k : ℕ). Encloses parent k p) (sym (eqb-true c p q)) (here n)
        | inr g ↦ up (λ q. not-outside q) (within-encloses D p (parent c) n g)
      ]))
    where
      not-outside : c ≡ outside → ⊥
      not-outside q = omega arith

      split : Encloses parent c p → (eqb c p || lies_within D.constructs p (parent c)) ≡ true
      split e = elim (first_step e) [
        | inl q ↦ or_left (eqb c p) _ (eq-eqb c p q)
        | inr g ↦ or_right (eqb c p) _ (encloses-within D p F (parent c) (below_more (omega arith) (parents D F c l)) g)
      ]
