-- The tables of a block's chart: rows 7 and 9 of the refusals let them pass.
-- Assumes nothing.
use Rattle.std.specs.Prelude.{◌≡◌, false, ◌&&◌, get_or}
use Rattle.std.proofs.Math.Path.{refl, subst, ap}
use Rattle.std.proofs.Common.{sym, ◌∙◌, length-append}
use mathlib.Core.List.{List, [], ◌∷◌, map}
use Prim.Native.Nat.{ℕ, zero, suc, ◌+◌, ◌≤◌, ◌<◌}
use native.Mathlib.Omega.{arith}
use Rattle.std.proofs.Math.Dec.{eqb}
use Rattle.std.proofs.Math.ListN.{length}
use Rattle.lists.specs.Truth.{neither-or, eq-not-eqb}
use Rattle.lists.specs.Range.{any_none}
use Rattle.lists.specs.Counting.{one}
use Rattle.chart.specs.Format.{outside, Node, Edge, Construct, Decoded, no_node, no_edge, no_construct, node_at, edge_at, construct_at}
use Rattle.chart.specs.Scope.{begin_node, end_node, ordered_byte, lies_in, scope, parent_of, scope_at}
use Rattle.chart.specs.Refusal.{frames_in, bad_frame, bad_frames}
use Rattle.chart.proofs.Facts.{EdgeFits, EdgesFit}
use Rattle.chart_writing.specs.Every.{All, joined, split, every, both, From, from-joined, from-both, placed, Looked, looked, at_place}
use Rattle.theory_listing.specs.Tree.{Block, node_count, construct_count, first, stop, Cell, cell, Part, constructs}
use Rattle.theory_listing.proofs.Flow.{arriving, leaving, Upward, upward, Arrives, Leaves, enter, sides}
use Rattle.theory_listing.specs.Place.{length-cells, length-constructs, Own, numbered, Parent, Lies, lying, hits, hits-joined, among_one, counted}
use Rattle.theory_listing.specs.GrammarLaws.{Kinds, OfLetter, kinds-constructs}
use Rattle.theory_listing.specs.Meaning.{kind_byte, finish, inner, whole, node_for, edge, edges_of, construct_for, block_nodes, block_edges, block_constructs, block_chart}
use Rattle.theory_listing.proofs.CellTables.{map-from, from-map, length-mapped, Each, all_edges, rising-edges, rising-at, within, arrives-by, leaves_by, frames-hits}

-- A letter stands for none of the kinds that came after 01.
pub letters-below : (l : List Part) → All OfLetter l → (c : ℕ) → (construct_at (map construct_for l) c).kind ≤ ordered_byte
unfolding construct_at
letters-below [] h c = omega arith
letters-below (p ∷ l) h zero = h.0.1
letters-below (p ∷ l) h (suc c) = letters-below l h.1 c

module _ (r : Block) where
  abbrev D : Decoded
  D = block_chart r

  pub length_whole : length (whole r) ≡ suc (suc (node_count r))
  unfolding whole
  length_whole = ap suc (rw (length-append, length-cells r outside 0 1 (finish r)) (omega arith))

  pub length-nodes : length (block_nodes r) ≡ suc (suc (node_count r))
  length-nodes = length-mapped node_for (whole r) ∙ length_whole

  pub whole-numbered : From Own 0 (whole r)
  unfolding whole
  whole-numbered = (
    refl,
    from-joined Own 1 (inner r) _ (numbered r outside 0 1 (finish r))
        (rw (length-cells r outside 0 1 (finish r)) (ends (node_count r), tt)),
  )
    where
      ends : (n : ℕ) → suc n ≡ 1 + n
      ends n = omega arith

  abbrev Found : Cell → Type 0
  Found c = node_at (block_nodes r) c.at ≡ node_for c

  abbrev NodeLooked : ℕ → Cell → Type 0
  NodeLooked x c = Looked (block_nodes r) no_node (length (block_nodes r)) x (node_for c)

  whole-found : All Found (whole r)
  unfolding node_at
  whole-found =
      placed (λ x c. NodeLooked x c × Own x c) Found (λ x c h. subst (λ i. node_at (block_nodes r) i ≡ node_for c) (sym h.1) h.0.0) 0 (whole r)
      (from-both NodeLooked Own 0 (whole r) (map-from node_for (Looked (block_nodes r) no_node (length (block_nodes r))) 0 (whole r) (looked no_node (block_nodes r))) whole-numbered)

  abbrev up : ℕ → ℕ
  up = parent_of (block_constructs r)

  parents : From (Parent up) 0 (constructs r outside 0)
  unfolding parent_of construct_at
  parents =
      let l = block_constructs r in
      from-map (λ x p. Looked l no_construct (length l) x (construct_for p)) (Parent up) (λ x p h. ap (λ (k : Construct). k.parent) h.0) 0 (constructs r outside 0)
      (map-from construct_for (Looked l no_construct (length l)) 0 (constructs r outside 0) (looked no_construct l))

  whole-upward : All Upward (whole r)
  unfolding whole
  whole-upward = ((tt, tt), joined Upward (inner r) _ (upward r outside 0 1 (finish r)) (tt, tt))

  -- row 7
  module _ (kind : ℕ)
      (once : (n c : ℕ) → one (eqb 2 kind && eqb n c) + one (eqb 3 kind && eqb n c) ≡ one (eqb n c))
      (plains : eqb 0 kind ≡ false) (stops : eqb 1 kind ≡ false) where
    frame-one : (c : ℕ) → c < construct_count r → frames_in (block_nodes r) kind c (length (block_nodes r)) ≡ 1
    unfolding whole hits kind_byte
    frame-one c bound =
        frames-hits kind c (whole r)
        ∙ rw (
          hits-joined (λ s n. one (eqb (kind_byte s) kind && eqb n c)) (inner r),
          counted (λ s n. one (eqb (kind_byte s) kind && eqb n c)) c (λ n. rw plains) (λ n. rw stops) (λ n. once n c) r outside 0 1 (finish r),
          stops,
          among_one 0 (construct_count r) c (omega arith) (omega arith),
        )

    frame-fits : bad_frame D kind ≡ false
    unfolding bad_frame
    frame-fits = any_none (length (block_constructs r)) _ (λ c l. eq-not-eqb _ 1 (frame-one c (omega (arith, length-mapped construct_for (constructs r outside 0), length-constructs r outside 0))))

  pub frames-fit : bad_frames D ≡ false
  unfolding bad_frames
  frames-fit = neither-or _ _ (frame-fits 2 (λ n c. omega arith) refl refl) (frame-fits 3 (λ n c. omega arith) refl refl)

  -- row 9, each edge
  abbrev Good : ℕ → ℕ → Type 0
  Good o x = (scope_at end_node (block_nodes r) (block_constructs r) x ≡ o) × (0 < x) × (x < suc (suc (node_count r)))

  -- what is known of a cell of the row
  abbrev Known : Cell → Type 0
  Known c = Found c × (Lies up c × ((1 ≤ c.at) × (c.at < 1 + length (inner r))))

  known : All Known (inner r)
  unfolding whole
  known =
      let a = split Found (inner r) (cell (suc (node_count r)) stop 255 255 [] ∷ []) whole-found.1 in
      both Found (λ c. Lies up c × ((1 ≤ c.at) × (c.at < 1 + length (inner r)))) (inner r)
      a.0
      (both (Lies up) (λ c. (1 ≤ c.at) × (c.at < 1 + length (inner r))) (inner r)
      (lying up r outside 0 1 (finish r) parents)
      (within 1 (inner r) (numbered r outside 0 1 (finish r))))

  arrive-known : (c : Cell) → Found c → Lies up c → scope_at end_node (block_nodes r) (block_constructs r) c.at ≡ arriving c.sort c.number c.lies
  unfolding scope_at
  arrive-known c a l =
      ap (λ (v : Node). scope end_node v.kind v.number (up v.number)) a ∙ arrives-by up c.sort c.number c.lies l

  leave-known : (c : Cell) → Found c → Lies up c → scope_at begin_node (block_nodes r) (block_constructs r) c.at ≡ leaving c.sort c.number c.lies
  unfolding scope_at
  leave-known c a l =
      ap (λ (v : Node). scope begin_node v.kind v.number (up v.number)) a ∙ leaves_by up c.sort c.number c.lies l

  arrives : All (Arrives Good) (inner r)
  arrives =
      every Known (Arrives Good)
      (λ c h. (arrive-known c h.0 h.1.0, h.1.1.0, omega (arith, h.1.1.1, length-cells r outside 0 1 (finish r))))
      (inner r) known

  good-finish : Good 255 (suc (node_count r))
  unfolding whole kind_byte scope_at scope lies_in
  good-finish =
      let s = split Found (inner r) (cell (suc (node_count r)) stop 255 255 [] ∷ []) whole-found.1 in
      (ap (λ (v : Node). scope end_node v.kind v.number (up v.number)) s.1.0, omega arith, omega arith)

  abbrev Fine : Edge → Type 0
  Fine e = EdgeFits (block_nodes r) (block_constructs r) e.from e.to

  good-edge : (x y o : ℕ) → scope_at begin_node (block_nodes r) (block_constructs r) x ≡ o → x < suc (node_count r) → Good o y → Fine (edge x y)
  good-edge x y o d h g = record {
    from-below = omega (arith, length-nodes);
    to_below = omega (arith, length-nodes, g.2);
    not-into-start = λ e. omega (arith, g.1);
    not-out-of-finish = λ e. omega (arith, length-nodes);
    scopes = d ∙ sym g.0;
  }

  start-leaves : scope_at begin_node (block_nodes r) (block_constructs r) 0 ≡ 255
  unfolding whole kind_byte scope_at scope lies_in
  start-leaves = ap (λ (v : Node). scope begin_node v.kind v.number (up v.number)) whole-found.0

  cell-edges : (c : Cell) → Known c → (l : List ℕ) → All (Good (leaving c.sort c.number c.lies)) l → All (λ y. Fine (edge c.at y)) l
  cell-edges c k l g =
      every (Good (leaving c.sort c.number c.lies)) (λ y. Fine (edge c.at y))
      (λ y h. good-edge c.at y (leaving c.sort c.number c.lies) (leave-known c k.0 k.1.0) (omega (arith, k.1.1.1, length-cells r outside 0 1 (finish r))) h)
      l g

  edges-fine : All Fine (block_edges r)
  unfolding whole
  edges-fine =
      all_edges Fine (whole r) (
        (good-edge 0 (first r 1 (suc (node_count r))) 255 start-leaves (omega arith) (enter Good r outside 0 1 (finish r) arrives good-finish), tt),
        joined (Each Fine) (inner r) _
            (every (λ c. Known c × Leaves Good c) (Each Fine) (λ c h. cell-edges c h.0 c.to h.1) (inner r)
            (both Known (Leaves Good) (inner r) known (sides Good r outside 0 1 (finish r) arrives good-finish)))
            (tt, tt),
      )

  pub edges_fit : Kinds r → EdgesFit D
  unfolding edge_at
  edges_fit kinds = record {
    alone = λ i l. at_place Fine no_edge (block_edges r) edges-fine i l;
    apart = λ i l f g. omega (arith, f.1, letters-below (constructs r outside 0) (kinds-constructs r outside 0 kinds) (node_at (block_nodes r) (get_or (block_edges r) i no_edge).from).number);
    rising = λ i l. rising-at (block_edges r) no_edge (rising-edges 0 (whole r) whole-numbered whole-upward).0 i l;
  }

  pub some-edge : 1 ≤ length (block_edges r)
  unfolding whole edges_of
  some-edge = omega arith
