-- A chart with one edge more has that edge at its place and is else as it was; so has a chart to the one with that edge less; and taking out
-- what was put in brings back every byte.
-- Assumes nothing.
use Rattle.std.specs.Prelude.{◌≡◌, true}
use Rattle.std.proofs.Math.Path.{refl, ap}
use Rattle.std.proofs.Common.{sym, ◌∙◌, subst₂, get_or-drop}
use mathlib.Core.List.{List, [], ◌∷◌, ◌++◌}
use Prim.Native.Nat.{ℕ, ◌+◌, ◌*◌, ◌-◌, ◌≤◌, ◌<◌}
use native.Mathlib.Omega.{arith}
use Rattle.std.proofs.Math.ListN.{length, take}
use Rattle.lists.specs.Range.{count_most}
use Rattle.chart.specs.Format.{Edge, Trailer, Decoded, node_of, edge_of, construct_of, construct_width, trailer_of, records, decode, edge_at}
use Rattle.chart.specs.Reading.{edge_in}
use Rattle.chart.specs.Refusal.{rises}
use Rattle.chart.specs.Checked.{Laid, counts_of}
use Rattle.chart.proofs.Records.{length-records, edges-length}
use Rattle.chart_writing.specs.Bytes.{AllBytes, trailer_bytes}
use Rattle.chart_writing.specs.BytesLaws.{same-trailer, trailer-back, trailer-bytes}
use Rattle.theory_edits.specs.Splice.{WithEdge, place, longer, shorter, record_at, records_from, inserted, removed}
use Rattle.theory_edits.specs.Cut.{Cut, joined, whole, edges_with, whole_length, decode-cut, spliced, recut, ending, ending-reads, ending-length, cut-at, cut_edge}
use Rattle.theory_edits.specs.PlaceLaws.{place-append, one, place-one, Rising, at_place}

pub shorter-longer : (t : Trailer) → shorter (longer t) ≡ t
unfolding shorter longer
shorter-longer t = same-trailer refl refl (omega arith) refl (omega arith) (omega arith) refl refl

-- only the number of edges and two distances change
abbrev Alike : Trailer → Trailer → Type 0
Alike u t = (u.edition ≡ t.edition) × (u.nodes ≡ t.nodes) × (u.constructs ≡ t.constructs)

longer-alike : (t : Trailer) → Alike (longer t) t
unfolding longer
longer-alike t = (refl, refl, refl)

shorter-alike : (t : Trailer) → Alike (shorter t) t
unfolding shorter
shorter-alike t = (refl, refl, refl)

module _ (x y : ℕ) where
  abbrev edge : List ℕ
  edge = x ∷ (y ∷ [])

  -- the edge itself counts nothing towards its place
  place_kept : (A B : List Edge) → place (A ++ (one x y ++ B)) x y ≡ place (A ++ B) x y
  place_kept A B = omega (arith, place-append A (one x y ++ B) x y, place-append (one x y) B x y, place-one x y, place-append A B x y)

  module _ {t : Trailer} {p : ℕ} (T : List ℕ) (reads : trailer_of T ≡ t) (long : length T ≡ 16) where
    -- A chart cut at the place of an edge that is not there, and the edge put in.
    module _ (c : Cut t p 0 []) where
      abbrev without : List ℕ
      without = whole c T

      pub edges-without : (decode without).edges ≡ edges_with c []
      unfolding records
      edges-without = ap (λ (D : Decoded). D.edges) (decode-cut c T reads long)

      pub insert-cut : place (edges_with c []) x y ≡ p → inserted without x y ≡ joined c edge (trailer_bytes (longer t))
      unfolding inserted record_at
      insert-cut q =
          let z : 4 * t.nodes + 2 * p ≡ 4 * t.nodes + 2 * p + 2 * 0 = omega arith in
          ap (λ (u : Trailer). put u (place (decode without).edges x y)) (ap (λ (D : Decoded). D.trailer) (decode-cut c T reads long))
          ∙ ap (put t) (ap (λ (l : List Edge). place l x y) edges-without ∙ q)
          ∙ ap (λ (at : ℕ). take (4 * t.nodes + 2 * p) without ++ (edge ++ (records_from without at ++ trailer_bytes (longer t)))) z
          ∙ spliced c T reads long edge (trailer_bytes (longer t))
        where
          put : Trailer → ℕ → List ℕ
          put u k = take (4 * u.nodes + 2 * k) without ++ (edge ++ (records_from without (4 * u.nodes + 2 * k) ++ trailer_bytes (longer u)))

    -- A chart cut at an edge that is there, and the edge taken out.
    module _ (c : Cut t p 1 edge) where
      abbrev with : List ℕ
      with = whole c T

      pub edges-with : (decode with).edges ≡ edges_with c (one x y)
      unfolding records edge_of
      edges-with = ap (λ (D : Decoded). D.edges) (decode-cut c T reads long)

      pub remove-cut : place (edges_with c (one x y)) x y ≡ p → removed with x y ≡ joined c [] (trailer_bytes (shorter t))
      unfolding removed record_at
      remove-cut q =
          ap (λ (u : Trailer). taken u (place (decode with).edges x y)) (ap (λ (D : Decoded). D.trailer) (decode-cut c T reads long))
          ∙ ap (taken t) (ap (λ (l : List Edge). place l x y) edges-with ∙ q)
          ∙ spliced c T reads long [] (trailer_bytes (shorter t))
        where
          taken : Trailer → ℕ → List ℕ
          taken u k = take (4 * u.nodes + 2 * k) with ++ (records_from with (4 * u.nodes + 2 * k + 2) ++ trailer_bytes (shorter u))

  -- Of two charts with the same parts, one has the edge between them and the other has nothing there.
  module _ {t : Trailer} {p : ℕ} (c : Cut t p 0 []) (T : List ℕ) (reads : trailer_of T ≡ t) (long : length T ≡ 16)
      (u : Trailer) (U : List ℕ) (reads-new : trailer_of U ≡ u) (long-new : length U ≡ 16)
      (e : u.edition ≡ t.edition) (n : u.nodes ≡ t.nodes) (k : u.constructs ≡ t.constructs) (all : u.edges ≡ p + (1 + c.above)) where
    abbrev more : Cut u p 1 edge
    more = recut c u 1 edge e n k refl all

    abbrev old : Decoded
    old = decode (whole c T)

    abbrev new : Decoded
    new = decode (joined c edge U)

    pub with-edge : place (edges_with c []) x y ≡ p → WithEdge old new x y
    with-edge q =
        let first = decode-cut c T reads long in
        let second = decode-cut more U reads-new long-new in
        record {
          before = records edge_of 2 p c.before;
          after = records edge_of 2 c.above c.after;
          edges-old = edges-without T reads long c;
          edges-new = edges-with U reads-new long-new more;
          at_place = length-records edge_of 2 p c.before ∙ sym (ap (λ (l : List Edge). place l x y) (edges-without T reads long c) ∙ q);
          nodes = ap (λ (D : Decoded). D.nodes) second ∙ ap (λ (m : ℕ). records node_of 4 m c.nodes) n ∙ sym (ap (λ (D : Decoded). D.nodes) first);
          constructs = ap (λ (D : Decoded). D.constructs) second
              ∙ ap (λ (m : ℕ). records (construct_of m) (construct_width m) u.constructs c.constructs) e
              ∙ ap (λ (m : ℕ). records (construct_of t.edition) (construct_width t.edition) m c.constructs) k
              ∙ sym (ap (λ (D : Decoded). D.constructs) first);
          edition = ap (λ (D : Decoded). D.trailer.edition) second ∙ e ∙ sym (ap (λ (D : Decoded). D.trailer.edition) first);
        }

-- Charts, laid out.
module _ (s : List ℕ) (ok : Laid s (counts_of s)) (x y : ℕ) where
  abbrev t : Trailer
  t = (decode s).trailer

  abbrev p : ℕ
  p = place (decode s).edges x y

  place-most : p ≤ t.edges
  unfolding place counts_of
  place-most = omega (arith, count_most (length (decode s).edges) (λ i. rises (edge_at (decode s).edges i).from (edge_at (decode s).edges i).to x y), edges-length s (counts_of s) ok)

  -- With one edge more.
  here : (c : Cut t p 0 []) × (whole c (ending s) ≡ s)
  here = cut-at s ok p 0 (omega (arith, place-most))

  abbrev c : Cut t p 0 []
  c = here.0

  place_here : place (edges_with c []) x y ≡ p
  place_here =
      sym (ap (λ (l : List Edge). place l x y) (edges-without x y (ending s) (ending-reads s ok) (ending-length s ok) c))
      ∙ ap (λ (l : List ℕ). place (decode l).edges x y) here.1

  inserted-is : inserted s x y ≡ joined c (x ∷ (y ∷ [])) (trailer_bytes (longer t))
  inserted-is =
      ap (λ (l : List ℕ). inserted l x y) (sym here.1) ∙ insert-cut x y (ending s) (ending-reads s ok) (ending-length s ok) c place_here

  more_edges : (longer t).edges ≡ p + (1 + c.above)
  unfolding longer
  more_edges = omega (arith, c.all)

  abbrev d : Cut (longer t) p 1 (x ∷ (y ∷ []))
  d = let a = longer-alike t in recut c (longer t) 1 (x ∷ (y ∷ [])) a.0 a.1 a.2 refl more_edges

  pub inserted-length : length (inserted s x y) ≡ length s + 2
  unfolding counts_of longer
  inserted-length =
      ap length inserted-is
      ∙ omega (arith, whole_length d (trailer_bytes (longer t)) (trailer-back (longer t)) refl, ok.whole)

  pub inserted-trailer : (decode (inserted s x y)).trailer ≡ longer t
  inserted-trailer =
      ap (λ (l : List ℕ). (decode l).trailer) inserted-is
      ∙ ap (λ (D : Decoded). D.trailer) (decode-cut d (trailer_bytes (longer t)) (trailer-back (longer t)) refl)

  pub inserted-decoded : WithEdge (decode s) (decode (inserted s x y)) x y
  inserted-decoded =
      let a = longer-alike t in
      subst₂ (λ (l m : List ℕ). WithEdge (decode l) (decode m) x y) here.1 (sym inserted-is)
      (with-edge x y c (ending s) (ending-reads s ok) (ending-length s ok) (longer t) (trailer_bytes (longer t)) (trailer-back (longer t)) refl a.0 a.1 a.2 more_edges place_here)

  -- Taken out again, the chart is what it was.
  place-there : place (edges_with c (one x y)) x y ≡ p
  place-there = place_kept x y (records edge_of 2 p c.before) (records edge_of 2 c.above c.after) ∙ place_here

  pub removed-inserted : AllBytes s → removed (inserted s x y) x y ≡ s
  removed-inserted bytes =
      ap (λ (l : List ℕ). removed l x y) inserted-is
      ∙ remove-cut x y (trailer_bytes (longer t)) (trailer-back (longer t)) refl d place-there
      ∙ ap (λ (u : Trailer). joined c [] (trailer_bytes u)) (shorter-longer t)
      ∙ ap (joined c []) (ap trailer_bytes (sym (ending-reads s ok)) ∙ trailer-bytes (ending s) (ending-length s ok) (λ j. rw (get_or-drop (length s - 16) s j 0) (bytes (length s - 16 + j))))
      ∙ here.1

  -- With one edge less, where the edge is one of the chart's, which rise.
  module _ (rising : Rising (decode s).edges) (there : edge_in (decode s).edges x y ≡ true) where
    found : (p < length (decode s).edges) × (edge_at (decode s).edges p ≡ record { from = x; to = y })
    found = at_place (decode s).edges rising x y there

    parts : (k : Cut t p 1 (x ∷ (y ∷ []))) × (whole k (ending s) ≡ s)
    unfolding counts_of
    parts = cut_edge s ok p x y (omega (arith, found.0, edges-length s (counts_of s) ok)) found.1

    abbrev k : Cut t p 1 (x ∷ (y ∷ []))
    k = parts.0

    place_found : place (edges_with k (one x y)) x y ≡ p
    place_found =
        sym (ap (λ (l : List Edge). place l x y) (edges-with x y (ending s) (ending-reads s ok) (ending-length s ok) k))
        ∙ ap (λ (l : List ℕ). place (decode l).edges x y) parts.1

    removed-is : removed s x y ≡ joined k [] (trailer_bytes (shorter t))
    removed-is =
        ap (λ (l : List ℕ). removed l x y) (sym parts.1) ∙ remove-cut x y (ending s) (ending-reads s ok) (ending-length s ok) k place_found

    fewer-edges : (shorter t).edges ≡ p + (0 + k.above)
    unfolding shorter
    fewer-edges = omega (arith, k.all)

    abbrev j : Cut (shorter t) p 0 []
    j = let a = shorter-alike t in recut k (shorter t) 0 [] a.0 a.1 a.2 refl fewer-edges

    pub removed-length : length (removed s x y) + 2 ≡ length s
    unfolding counts_of shorter
    removed-length =
        omega (arith, ap length removed-is, whole_length j (trailer_bytes (shorter t)) (trailer-back (shorter t)) refl, ok.whole, k.all)

    pub removed-decoded : WithEdge (decode (removed s x y)) (decode s) x y
    removed-decoded =
        let a = shorter-alike t in
        subst₂ (λ (l m : List ℕ). WithEdge (decode l) (decode m) x y) (sym removed-is) parts.1
        (with-edge x y j (trailer_bytes (shorter t)) (trailer-back (shorter t)) refl t (ending s) (ending-reads s ok) (ending-length s ok) (sym a.0) (sym a.1) (sym a.2) k.all
        (sym (place_kept x y (records edge_of 2 p k.before) (records edge_of 2 k.above k.after)) ∙ place_found))
