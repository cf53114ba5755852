-- What makes an edge, a node, a barrier or a construct of a chart one of the region p, whether or not p names one.
-- Assumes nothing.
use mathlib.Core.Path.{◌≡◌, sym, ◌∙◌, subst}
use mathlib.Core.Logic.{◌≢◌}
use mathlib.Core.Bool.{Bool, true, false, not}
use Prim.Native.Nat.{ℕ, ◌-◌, ◌≤◌, ◌<◌}
use native.Mathlib.Omega.{arith}
use lib.Dec.{eqb}
use lib.ListN.{length}
use borrow.Author.Tests.{eqb-true, eq-eqb, ne_eqb, lt-ltb, not-true}
use Rattle.lists.specs.Truth.{and_both, both-and, or_left, or_right}
use Rattle.chart.specs.Format.{outside, Decoded, node_at}
use Rattle.chart.specs.Region.{barrier}
use Rattle.chart.specs.Scope.{barrier_node, begin_node, end_node, Encloses, parent_of}
use Rattle.chart.specs.Nested.{is_parallel, region_at, counts_in, lies_within, kept_in}
use Rattle.chart.specs.Reading.{edge_in, inside_at, frame_of, region_of}
use Rattle.chart.proofs.Tree.{Below, computed, computes, lower}
use Rattle.chart.proofs.Near.{region-above}
use Rattle.chart.proofs.Facts.{TablesFit, FrameAt}
use Rattle.chart.proofs.Reading.{Frame, begin, end, marks}
use Rattle.chart.proofs.Scopes.{byte_of, role-is, role-marks}
use Rattle.chart.proofs.Tables.{scoped, parents, lies-below, frame_below, enclosed, edge-at}

module _ (D : Decoded) (p : ℕ) where
  abbrev parent : ℕ → ℕ
  parent = parent_of D.constructs

  abbrev size : ℕ
  size = length D.constructs

  abbrev shut : ℕ → Bool
  shut = is_parallel D.constructs

  -- the region of what lies in q
  abbrev home : ℕ → ℕ
  home q = region_at parent shut size q

  -- constructs
  abbrev pub Counts : ℕ → Type 0
  Counts c = (c < length D.constructs) × (counts_in D.constructs p c ≡ true)

  pub counts-open : (c : ℕ) → counts_in D.constructs p c ≡ true → is_parallel D.constructs c ≡ false
  unfolding counts_in
  counts-open c h = not-true (shut c) (and_both (not (shut c)) _ h).0

  pub counts-home : (c : ℕ) → counts_in D.constructs p c ≡ true
      → region_at (parent_of D.constructs) (is_parallel D.constructs) (length D.constructs) (parent_of D.constructs c) ≡ p
  unfolding counts_in
  counts-home c h = eqb-true (home (parent c)) p (and_both (not (shut c)) _ h).1

  pub home-counts : (c : ℕ) → is_parallel D.constructs c ≡ false
      → region_at (parent_of D.constructs) (is_parallel D.constructs) (length D.constructs) (parent_of D.constructs c) ≡ p
      → counts_in D.constructs p c ≡ true
  unfolding counts_in
  home-counts c s h = rw s (eq-eqb (home (parent c)) p h)

  pub counts-within : {c : ℕ} → Counts c → p ≢ outside → Encloses (parent_of D.constructs) (parent_of D.constructs c) p
  counts-within {c} m n =
      let q = counts-home c m.1 in
      subst (Encloses parent (parent c)) q (region-above parent shut size (parent c) (λ o. n (sym q ∙ o)))

  pub in_both : (x c : ℕ) → (region_of p D).inside x c ≡ true → (inside_at D.nodes D.constructs x c ≡ true) × (counts_in D.constructs p c ≡ true)
  in_both x c h = and_both (inside_at D.nodes D.constructs x c) _ h

  -- places and nodes
  pub within-encloses : (q : ℕ) → p ≢ outside → lies_within D.constructs p q ≡ true → Encloses (parent_of D.constructs) q p
  unfolding lies_within
  within-encloses q n h = computed parent size q p (rw (ne_eqb p outside n) at h)

  pub kept-scope : (f : Frame) (x : ℕ) → x < length D.nodes → lies_within D.constructs p (scoped D f x) ≡ true → (region_of p D).kept x ≡ true
  unfolding kept_in
  kept-scope begin x l h = both-and _ _ (lt-ltb x (length D.nodes) l) (or_left _ _ h)
  kept-scope end x l h = both-and _ _ (lt-ltb x (length D.nodes) l) (or_right (lies_within D.constructs p (scoped D begin x)) _ h)

  -- edges
  pub edge_in_lem : (x y : ℕ) → (region_of p D).edge x y ≡ true → edge_in D.edges x y ≡ true
  edge_in_lem x y h = (and_both (edge_in D.edges x y) _ h).0

  pub edge-within : (x y : ℕ) → (region_of p D).edge x y ≡ true → lies_within D.constructs p (scoped D begin x) ≡ true
  edge-within x y h = (and_both (edge_in D.edges x y) _ h).1

  pub edge_of : (x y : ℕ) → edge_in D.edges x y ≡ true → lies_within D.constructs p (scoped D begin x) ≡ true → (region_of p D).edge x y ≡ true
  edge_of x y h w = both-and _ _ h w

  -- barriers, start and finish
  pub barrier-at : (x : ℕ) → (region_of p D).role x ≡ barrier → (barrier_node ≤ (node_at D.nodes x).kind) × ((node_at D.nodes x).number ≡ p)
  barrier-at x w = role-is p (counts_in D.constructs p) (node_at D.nodes x).kind (node_at D.nodes x).number barrier w

  pub start-outer : p ≡ outside → (region_of p D).start ≡ 0
  start-outer q = rw (eq-eqb p outside q)

  pub start-inner : p ≢ outside → (region_of p D).start ≡ frame_of D.nodes begin_node p
  start-inner n = rw (ne_eqb p outside n)

  pub finish-outer : p ≡ outside → (region_of p D).finish ≡ length D.nodes - 1
  finish-outer q = rw (eq-eqb p outside q)

  pub finish-inner : p ≢ outside → (region_of p D).finish ≡ frame_of D.nodes end_node p
  finish-inner n = rw (ne_eqb p outside n)

  module _ (F : TablesFit D) where
    pub encloses-within : (q : ℕ) → Below (length D.constructs) q → Encloses (parent_of D.constructs) q p → lies_within D.constructs p q ≡ true
    unfolding lies_within
    encloses-within q b e = or_right (eqb p outside) _ (computes parent size (parents D F) e size (omega arith) b)

    -- a construct of an inner region has a number above the region's own
    pub counts-higher : {c : ℕ} → Counts c → p ≢ outside → p < c
    counts-higher {c} m n = let l = m.0 in lower parent size (parents D F) (counts-within m n) c (omega arith) (parents D F c l)

    pub marks-at : (f : Frame) (x c : ℕ) → (region_of p D).role x ≡ marks f c → FrameAt D.nodes (byte_of f) c x × Counts c
    marks-at f x c w =
        let r = role-marks p (counts_in D.constructs p) f (node_at D.nodes x).kind (node_at D.nodes x).number c w in
        ((r.0, r.1), (frame_below D F f x c (r.0, r.1), r.2))

    pub in-counts : (x c : ℕ) → (region_of p D).inside x c ≡ true → Counts c
    in-counts x c h =
        let b = in_both x c h in
        (lower parent size (parents D F) (enclosed D F x c b.0) size (omega arith) (lies-below D F x), b.1)

    -- both ends of an edge are nodes of the region
    pub from-kept : (x y : ℕ) → (region_of p D).edge x y ≡ true → (region_of p D).kept x ≡ true
    from-kept x y e = kept-scope begin x (edge-at D F x y (edge_in_lem x y e)).from-below (edge-within x y e)

    pub to-kept : (x y : ℕ) → (region_of p D).edge x y ≡ true → (region_of p D).kept y ≡ true
    to-kept x y e =
        let f = edge-at D F x y (edge_in_lem x y e) in
        kept-scope end y f.to_below (subst (λ (q : ℕ). lies_within D.constructs p q ≡ true) f.scopes (edge-within x y e))
