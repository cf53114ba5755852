-- The edges of one region as two columns: those edges of the chart, in their order, whose scope lies in the region. They are the region's edges,
-- so that the search need know of no cut.
-- Assumes nothing.
use Rattle.std.specs.Prelude.{◌≡◌, Bool, true, ◌&&◌, List, [], ◌∷◌, map, ℕ, zero, suc, ◌<◌}
use Rattle.std.proofs.Math.Path.{refl, ap, sym}
use Rattle.std.proofs.Common.{◌∙◌, subst, arith}
use Rattle.std.proofs.Math.Dec.{eqb}
use Rattle.std.proofs.Math.ListN.{length, get_or}
use Rattle.std.proofs.Math.Seq.{ext_get_or}
use borrow.Author.Tests.{eqb-true, eq-eqb}
use Rattle.lists.specs.Truth.{and_both, both-and}
use Rattle.lists.specs.Range.{count, any_at, at-any}
use Rattle.lists.specs.Select.{select, select-length, select-passes, select-at}
use Rattle.lists.specs.Counting.{count-all}
use Rattle.chart.specs.Format.{outside, Edge as Edge-as-Edge, Decoded, no_edge, edge_at}
use Rattle.chart.specs.Scope.{leaving_at}
use Rattle.chart.specs.Nested.{lies_within}
use Rattle.chart.specs.Reading.{edge_in, region_of}
use Rattle.theory_paths.specs.Path.{Edge}
use Rattle.theory_paths.specs.Graph.{Listed}

-- Edge i is one of the region p.
abbrev pub keeps : Decoded → ℕ → ℕ → Bool
keeps D p i = lies_within D.constructs p (leaving_at D.nodes D.constructs (edge_at D.edges i).from)

-- The numbers of the region's edges among those of the chart.
abbrev pub cut : Decoded → ℕ → List ℕ
cut D p = select (length D.edges) (keeps D p)

-- The sorted edge table of a chart as it is read for the region p. Read for the outermost one, it is the chart's own (`whole-table`).
unfoldable pub edges_of : ℕ → Decoded → List Edge-as-Edge
edges_of p D = map (edge_at D.edges) (cut D p)

-- The first e entries of two columns are the region's edges.
pub record CutColumns (D : Decoded) (p : ℕ) (froms tos : List ℕ) (e : ℕ) : Type 0 where
  pub total : e ≡ length (cut D p)
  pub from : (j : ℕ) → j < e → get_or froms j 0 ≡ (edge_at D.edges (get_or (cut D p) j 0)).from
  pub to : (j : ℕ) → j < e → get_or tos j 0 ≡ (edge_at D.edges (get_or (cut D p) j 0)).to

module _ {D : Decoded} {p : ℕ} {froms tos : List ℕ} {e : ℕ} (C : CutColumns D p froms tos e) where
  in_cut : {j : ℕ} → j < e → j < length (cut D p)
  in_cut l = omega (arith, C.total)

  pub listed-edge : (x y : ℕ) → Listed froms tos e x y → Edge (region_of p D) x y
  unfolding edge_in
  listed-edge x y L =
      let n = length D.edges in
      let i = get_or (cut D p) L.at 0 in
      let pass = select-passes n (keeps D p) L.at (in_cut L.below) in
      let qx : (edge_at D.edges i).from ≡ x = sym (C.from L.at L.below) ∙ L.key in
      let qy : (edge_at D.edges i).to ≡ y = sym (C.to L.at L.below) ∙ L.value in
      both-and _ _
      (at-any n (λ i. eqb (edge_at D.edges i).from x && eqb (edge_at D.edges i).to y) i pass.0 (both-and _ _ (eq-eqb _ x qx) (eq-eqb _ y qy)))
      (subst (λ (z : ℕ). lies_within D.constructs p (leaving_at D.nodes D.constructs z) ≡ true) qx pass.1)

  pub edge-listed : (x y : ℕ) → Edge (region_of p D) x y → Listed froms tos e x y
  unfolding edge_in
  edge-listed x y h =
      let n = length D.edges in
      let b = and_both (edge_in D.edges x y) _ h in
      let i = any_at n (λ i. eqb (edge_at D.edges i).from x && eqb (edge_at D.edges i).to y) b.0 in
      let t = and_both (eqb (edge_at D.edges i.0).from x) _ i.2 in
      let qx : (edge_at D.edges i.0).from ≡ x = eqb-true _ x t.0 in
      let qy : (edge_at D.edges i.0).to ≡ y = eqb-true _ y t.1 in
      let s = select-at n (keeps D p) i.0 i.1 (subst (λ (z : ℕ). lies_within D.constructs p (leaving_at D.nodes D.constructs z) ≡ true) (sym qx) b.1) in
      let l : count i.0 (keeps D p) < e = omega (arith, s.0, C.total) in
      record {
        at = count i.0 (keeps D p);
        below = l;
        key = C.from (count i.0 (keeps D p)) l ∙ ap (λ (k : ℕ). (edge_at D.edges k).from) s.1 ∙ qx;
        value = C.to (count i.0 (keeps D p)) l ∙ ap (λ (k : ℕ). (edge_at D.edges k).to) s.1 ∙ qy;
      }

-- in the table of the region they stand in the same order
map-long : (f : ℕ → Edge-as-Edge) (l : List ℕ) → length (map f l) ≡ length l
map-long f [] = refl
map-long f (x ∷ l) = ap suc (map-long f l)

map_at : (f : ℕ → Edge-as-Edge) (l : List ℕ) (j : ℕ) → j < length l → get_or (map f l) j no_edge ≡ f (get_or l j 0)
map_at f [] j h = absurd (omega arith)
map_at f (x ∷ l) zero h = refl
map_at f (x ∷ l) (suc j) h = map_at f l j (omega arith)

module _ (D : Decoded) where
  pub edges-long : (p : ℕ) → length (edges_of p D) ≡ length (cut D p)
  unfolding edges_of
  edges-long p = map-long (edge_at D.edges) (cut D p)

  pub edges_at : (p j : ℕ) → j < length (cut D p) → edge_at (edges_of p D) j ≡ edge_at D.edges (get_or (cut D p) j 0)
  unfolding edges_of edge_at
  edges_at p j l = map_at (edge_at D.edges) (cut D p) j l

  -- of the outermost region all edges are kept, each at its own place
  all-kept : (i : ℕ) → keeps D outside i ≡ true
  unfolding lies_within
  all-kept i = refl

  kept-below : (n : ℕ) → count n (keeps D outside) ≡ n
  kept-below n = count-all n (keeps D outside) (λ i l. all-kept i)

  cut_all : length (cut D outside) ≡ length D.edges
  cut_all = select-length (length D.edges) (keeps D outside) ∙ kept-below (length D.edges)

  cut-at : (j : ℕ) → j < length D.edges → get_or (cut D outside) j 0 ≡ j
  cut-at j l = rw (kept-below j) at (select-at (length D.edges) (keeps D outside) j l (all-kept j)).1

  pub whole-table : edges_of outside D ≡ D.edges
  unfolding edge_at
  whole-table =
      ext_get_or no_edge (edges_of outside D) D.edges (edges-long outside ∙ cut_all)
      (λ i l. edges_at outside i (omega (arith, edges-long outside)) ∙ ap (edge_at D.edges) (cut-at i (omega (arith, edges-long outside, cut_all))))
