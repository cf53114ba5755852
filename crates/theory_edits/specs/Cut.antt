-- A chart cut at an edge: its bytes before some edge records, these records, and its bytes behind them. What is put in place of the records changes
-- the table of the edges there, and nothing else.
-- Assumes nothing.
use Rattle.std.specs.Prelude.{◌≡◌, ℕ, ◌+◌, ◌*◌, ◌-◌, ◌≤◌, ◌<◌, take, drop}
use Rattle.std.proofs.Math.Path.{refl, ap, sym, subst}
use Rattle.std.proofs.Common.{◌∙◌, arith, length-drop, drop_at, drop-drop, length-take-le}
use mathlib.Core.List.{List, [], ◌∷◌, ◌++◌, append_assoc}
use Rattle.std.proofs.Math.ListN.{length, get_or, length-append, take-append-drop}
use Rattle.std.proofs.Math.Seq.{take_at, get_or-append_seam}
use Rattle.chart.specs.Format.{Edge, Trailer, Decoded, node_of, edge_of, construct_of, construct_width, construct_bytes, trailer_of, records, last_trailer, decode, edge_at, no_edge}
use Rattle.chart.specs.Checked.{Laid, counts_of}
use Rattle.chart.proofs.Records.{length-records}
use Rattle.chart_writing.specs.Tables.{edge-own, records-append, tables-length, decode-tables}
use Rattle.theory_edits.specs.Splice.{records_from}

-- The parts of a chart with this trailer, `below` edges before the cut, around `some` edge records that have the bytes `middle`.
pub record Cut (t : Trailer) (below some : ℕ) (middle : List ℕ) : Type 0 where
  pub nodes : List ℕ
  pub before : List ℕ
  pub after : List ℕ
  pub constructs : List ℕ
  -- how many edges stand behind
  pub above : ℕ
  pub nodes-length : length nodes ≡ 4 * t.nodes
  pub before-length : length before ≡ 2 * below
  pub middle-length : length middle ≡ 2 * some
  pub after-length : length after ≡ 2 * above
  pub constructs-length : length constructs ≡ construct_bytes t.edition t.constructs
  pub all : t.edges ≡ below + (some + above)

module _ {t : Trailer} {below some : ℕ} {middle : List ℕ} (c : Cut t below some middle) where
  -- The chart, with its edges, and with other bytes between the parts.
  abbrev pub joined : List ℕ → List ℕ → List ℕ
  joined between T = c.nodes ++ ((c.before ++ (between ++ c.after)) ++ (c.constructs ++ T))

  abbrev pub whole : List ℕ → List ℕ
  whole T = joined middle T

  abbrev pub edges_with : List Edge → List Edge
  edges_with between = records edge_of 2 below c.before ++ (between ++ records edge_of 2 c.above c.after)

  -- The byte at which the records stand.
  abbrev pub cut_at : ℕ
  cut_at = 4 * t.nodes + 2 * below

  edges-length : length (c.before ++ (middle ++ c.after)) ≡ 2 * t.edges
  edges-length =
      let a = c.all in
      omega (arith, length-append c.before (middle ++ c.after), length-append middle c.after, c.before-length, c.middle-length, c.after-length)

  edges-cut : records edge_of 2 t.edges (c.before ++ (middle ++ c.after)) ≡ edges_with (records edge_of 2 some middle)
  edges-cut =
      ap (λ (k : ℕ). records edge_of 2 k (c.before ++ (middle ++ c.after))) c.all
      ∙ records-append edge_of 2 edge-own below (some + c.above) c.before (middle ++ c.after) c.before-length
      ∙ ap (λ (l : List Edge). records edge_of 2 below c.before ++ l) (records-append edge_of 2 edge-own some c.above middle c.after c.middle-length)

  module _ (T : List ℕ) (reads : trailer_of T ≡ t) (long : length T ≡ 16) where
    pub whole_length : length (whole T) ≡ 4 * t.nodes + 2 * t.edges + construct_bytes t.edition t.constructs + 16
    whole_length =
        omega (
          arith,
          tables-length c.nodes (c.before ++ (middle ++ c.after)) c.constructs T t reads long c.nodes-length edges-length c.constructs-length,
          c.nodes-length,
          edges-length,
          c.constructs-length,
        )

    -- What the whole decodes to.
    pub decode-cut : decode (whole T) ≡ record {
      nodes = records node_of 4 t.nodes c.nodes;
      edges = edges_with (records edge_of 2 some middle);
      constructs = records (construct_of t.edition) (construct_width t.edition) t.constructs c.constructs;
      trailer = t;
    }
    decode-cut =
        decode-tables c.nodes (c.before ++ (middle ++ c.after)) c.constructs T t reads long c.nodes-length edges-length c.constructs-length
        ∙ rw edges-cut

    -- its bytes before the records and behind them
    in_two : whole T ≡ (c.nodes ++ c.before) ++ (middle ++ (c.after ++ (c.constructs ++ T)))
    in_two =
        sym (append_assoc c.nodes c.before (middle ++ (c.after ++ (c.constructs ++ T))) ∙ ap (λ (l : List ℕ). c.nodes ++ l)
        (sym (append_assoc c.before (middle ++ c.after) (c.constructs ++ T) ∙ ap (λ (l : List ℕ). c.before ++ l) (append_assoc middle c.after (c.constructs ++ T)))))

    front_length : length (c.nodes ++ c.before) ≡ cut_at
    front_length = omega (arith, length-append c.nodes c.before, c.nodes-length, c.before-length)

    take-front : take cut_at (whole T) ≡ c.nodes ++ c.before
    take-front = ap (take cut_at) in_two ∙ take_at (c.nodes ++ c.before) _ cut_at front_length

    drop-front : drop (cut_at + 2 * some) (whole T) ≡ c.after ++ (c.constructs ++ T)
    drop-front =
        sym (drop-drop (2 * some) cut_at (whole T))
        ∙ ap (λ (l : List ℕ). drop (2 * some) (drop cut_at l)) in_two
        ∙ ap (drop (2 * some)) (drop_at (c.nodes ++ c.before) (middle ++ (c.after ++ (c.constructs ++ T))) cut_at front_length)
        ∙ drop_at middle (c.after ++ (c.constructs ++ T)) (2 * some) c.middle-length

    records-behind : records_from (whole T) (cut_at + 2 * some) ≡ c.after ++ c.constructs
    unfolding records_from
    records-behind =
        let a = c.all in
        ap (take (length (whole T) - 16 - (cut_at + 2 * some))) (drop-front ∙ sym (append_assoc c.after c.constructs T))
        ∙ take_at (c.after ++ c.constructs) T (length (whole T) - 16 - (cut_at + 2 * some)) (omega (arith, whole_length, length-append c.after c.constructs, c.after-length, c.constructs-length))

    -- Other bytes put in their place.
    pub spliced : (between U : List ℕ) → take cut_at (whole T) ++ (between ++ (records_from (whole T) (cut_at + 2 * some) ++ U)) ≡ joined between U
    spliced between U =
        rw (take-front, records-behind)
        (append_assoc c.nodes c.before (between ++ ((c.after ++ c.constructs) ++ U)) ∙ ap (λ (l : List ℕ). c.nodes ++ l)
        (sym (append_assoc c.before (between ++ c.after) (c.constructs ++ U)
        ∙ ap (λ (l : List ℕ). c.before ++ l) (append_assoc between c.after (c.constructs ++ U) ∙ ap (λ (l : List ℕ). between ++ l) (sym (append_assoc c.after c.constructs U))))))

-- The same parts around other records, for a trailer that differs in the number of edges alone.
abbrev pub recut : {t : Trailer} {below some : ℕ} {middle : List ℕ} (c : Cut t below some middle) (u : Trailer) (other : ℕ) (between : List ℕ)
    → u.edition ≡ t.edition → u.nodes ≡ t.nodes → u.constructs ≡ t.constructs → length between ≡ 2 * other → u.edges ≡ below + (other + c.above)
    → Cut u below other between
recut c u other between e n k l a = record {
  nodes = c.nodes;
  before = c.before;
  after = c.after;
  constructs = c.constructs;
  above = c.above;
  nodes-length = rw n c.nodes-length;
  before-length = c.before-length;
  middle-length = l;
  after-length = c.after-length;
  constructs-length = rw (e, k) c.constructs-length;
  all = a;
}

-- two bytes are those of the edge that they make
two : (m : List ℕ) (x y : ℕ) → length m ≡ 2 → edge_of m ≡ record { from = x; to = y } → m ≡ x ∷ (y ∷ [])
unfolding edge_of
two [] x y l e = absurd (omega arith)
two (a ∷ []) x y l e = absurd (omega arith)
two (a ∷ (b ∷ [])) x y l e = rw (ap (λ (k : Edge). k.from) e, ap (λ (k : Edge). k.to) e) refl
two (a ∷ (b ∷ (d ∷ m))) x y l e = absurd (omega arith)

-- The bytes of a chart's trailer.
abbrev pub ending : List ℕ → List ℕ
ending s = drop (length s - 16) s

-- A laid-out chart, cut at any of its edges.
module _ (s : List ℕ) (ok : Laid s (counts_of s)) where
  abbrev trailer : Trailer
  trailer = (decode s).trailer

  abbrev edges : List ℕ
  edges = take (2 * trailer.edges) (drop (4 * trailer.nodes) s)

  abbrev last : ℕ
  last = construct_bytes trailer.edition trailer.constructs

  size : length s ≡ 4 * trailer.nodes + 2 * trailer.edges + last + 16
  unfolding counts_of
  size = ok.whole

  pub ending-reads : trailer_of (ending s) ≡ trailer
  unfolding decode last_trailer
  ending-reads = refl

  pub ending-length : length (ending s) ≡ 16
  ending-length = omega (arith, size, length-drop (length s - 16) s)

  -- a run of bytes and the rest
  piece : (at k : ℕ) → take k (drop at s) ++ drop (at + k) s ≡ drop at s
  piece at k = ap (λ (l : List ℕ). take k (drop at s) ++ l) (sym (drop-drop k at s)) ∙ take-append-drop k (drop at s)

  length-piece : (at k : ℕ) → at + k ≤ length s → length (take k (drop at s)) ≡ k
  length-piece at k h = length-take-le k (drop at s) (omega (arith, length-drop at s))

  abbrev middle : ℕ → ℕ → List ℕ
  middle p some = take (2 * some) (drop (2 * p) edges)

  length-edges : length edges ≡ 2 * trailer.edges
  length-edges = length-piece (4 * trailer.nodes) (2 * trailer.edges) (omega (arith, size))

  unfoldable cut : (p some : ℕ) → p + some ≤ trailer.edges → Cut trailer p some (middle p some)
  cut p some h = record {
    nodes = take (4 * trailer.nodes) s;
    before = take (2 * p) edges;
    after = drop (2 * some) (drop (2 * p) edges);
    constructs = take last (drop (4 * trailer.nodes + 2 * trailer.edges) s);
    above = trailer.edges - (p + some);
    nodes-length = length-take-le (4 * trailer.nodes) s (omega (arith, size));
    before-length = length-take-le (2 * p) edges (omega (arith, length-edges));
    middle-length = length-take-le (2 * some) (drop (2 * p) edges) (omega (arith, length-edges, length-drop (2 * p) edges));
    after-length = omega (arith, length-edges, length-drop (2 * p) edges, length-drop (2 * some) (drop (2 * p) edges));
    constructs-length = length-piece (4 * trailer.nodes + 2 * trailer.edges) last (omega (arith, size));
    all = omega arith;
  }

  pub cut-at : (p some : ℕ) → p + some ≤ trailer.edges → (c : Cut trailer p some (middle p some)) × (whole c (ending s) ≡ s)
  unfolding cut
  cut-at p some h =
      let q : length s - 16 ≡ 4 * trailer.nodes + 2 * trailer.edges + last = omega (arith, size) in (
        cut p some h,
        rw (take-append-drop (2 * some) (drop (2 * p) edges), take-append-drop (2 * p) edges, q, piece (4 * trailer.nodes + 2 * trailer.edges) last, piece (4 * trailer.nodes) (2 * trailer.edges))
            (take-append-drop (4 * trailer.nodes) s),
      )

  -- At an edge that is there.
  pub cut_edge : (p x y : ℕ) → p < trailer.edges → edge_at (decode s).edges p ≡ record { from = x; to = y } → (c : Cut trailer p 1 (x ∷ (y ∷ []))) × (whole c (ending s) ≡ s)
  unfolding edge_at records
  cut_edge p x y h e =
      let (c, w) = cut-at p 1 (omega arith) in
      let front = records edge_of 2 p c.before in
      let back = records edge_of 2 c.above c.after in
      let split : (decode s).edges ≡ front ++ (edge_of (middle p 1) ∷ back) =
      ap (λ (l : List ℕ). (decode l).edges) (sym w) ∙ ap (λ (D : Decoded). D.edges) (decode-cut c (ending s) ending-reads ending-length) in
      let found : edge_at (decode s).edges p ≡ edge_of (middle p 1) =
      ap (λ (l : List Edge). get_or l p no_edge) split
      ∙ ap (λ (k : ℕ). get_or (front ++ (edge_of (middle p 1) ∷ back)) k no_edge) (sym (length-records edge_of 2 p c.before))
      ∙ get_or-append_seam front (edge_of (middle p 1)) back no_edge in
      subst (λ (m : List ℕ). (k : Cut trailer p 1 m) × (whole k (ending s) ≡ s)) (two (middle p 1) x y c.middle-length (sym found ∙ e)) (c, w)
