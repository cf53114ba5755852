-- An edge that names no node: one of its two numbers, however large, is that of no node of an admitted chart. With it the chart would be refused by
-- row 9, or by row 3 before it where there are 1,024 edges already; and there is none such to take out. All such edges are refused alike, so a
-- number that fits no byte may be read as the largest byte, which is no node's either.
-- Assumes nothing.
use Rattle.std.specs.Prelude.{◌≡◌, ◌⊎◌, true, false, ◌||◌, not, cond, List, ◌∷◌, ◌++◌, ℕ, ◌+◌, ◌*◌, ◌≤◌, ◌<◌, min, eqb, take, Err}
use Rattle.std.proofs.Math.Path.{ap}
use Rattle.std.proofs.Common.{◌∙◌, arith}
use Rattle.std.proofs.Math.Logic.{inl, inr}
use Rattle.std.proofs.Math.Option.{none, some}
use Rattle.std.proofs.Math.Decide.{dec_lt}
use Rattle.std.proofs.Math.Dec.{ltb}
use Rattle.std.proofs.Math.ListN.{length}
use borrow.Author.Tests.{lt-ltb, le-ltb, eqb-true}
use Rattle.lists.specs.Truth.{clash, truth, false-if, and_both, or_left, or_right, or-neither, neither-or, not_eqb, eq-not-eqb}
use Rattle.lists.specs.Range.{any_at}
use Rattle.chart.specs.Format.{Trailer, Decoded, decode, edge_at, construct_bytes, size}
use Rattle.chart.specs.Reading.{edge_in}
use Rattle.chart.specs.Refusal.{bad_marks, bad_counts, bad_lengths, bad_nodes, bad_node_at, bad_constructs, bad_frames, bad_frame, stray_node, bad_barriers, bad_edges, Row, first_of, trailer_rows, table_rows, chart_rows}
use Rattle.chart.specs.Checked.{Laid, counts_of}
use Rattle.chart.proofs.Rows.{none-applies, both-pass, first-decides, second-decides}
use Rattle.chart.proofs.Records.{nodes-length}
use Rattle.chart.proofs.Facts.{EdgesFit, edges_fit}
use Rattle.chart.proofs.Accepted.{fits}
use Rattle.theory_paths.specs.Admission.{admit_rows, Admitted}
use Rattle.output.proofs.Outputs.{refused}
use Rattle.theory_edits.specs.Splice.{WithEdge, longer, inserted, removed}
use Rattle.theory_edits.specs.Edits.{length_row, ask_rows, commit_rows, insert_written, insert_left, no_edge_row, remove_rows, remove_written, remove_left}
use Rattle.theory_edits.proofs.SpliceLaws.{inserted-length, inserted-trailer, inserted-decoded}
use Rattle.theory_edits.specs.Loosening.{edge_in_lem}
use Rattle.theory_edits.proofs.EditLaws.{admitted-laid}
use Rattle.theory_edits.specs.declared.Receipt.{Receipt}
use Rattle.chart.specs.declared.format.Refusal.{Refusal}
use Rattle.chart.specs.declared.format.Refusal.TheVariants.{BadCounts, BadEdges, NoEdge}

-- x or y is over every node's number.
abbrev pub NoNode : ℕ → ℕ → ℕ → Type 0
NoNode n x y = (n ≤ x) ⊎ (n ≤ y)

-- The row of the longer chart that then applies.
abbrev pub no_node_row : List ℕ → Refusal
no_node_row s = cond (ltb (decode s).trailer.edges 1024) BadEdges BadCounts

-- an edge that is there names two nodes
names-nodes : (D : Decoded) → EdgesFit D → (x y : ℕ) → edge_in D.edges x y ≡ true → (x < length D.nodes) × (y < length D.nodes)
unfolding edge_in
names-nodes D F x y h =
    let (i, l, f) = any_at (length D.edges) _ h in
    let (p, q) = and_both (eqb (edge_at D.edges i).from x) (eqb (edge_at D.edges i).to y) f in
    let fit = F.alone i l in
    (omega (arith, eqb-true (edge_at D.edges i).from x p, fit.from-below), omega (arith, eqb-true (edge_at D.edges i).to y q, fit.to_below))

no_such : (D : Decoded) → EdgesFit D → (x y : ℕ) → NoNode (length D.nodes) x y → edge_in D.edges x y ≡ false
no_such D F x y over = false-if (λ h. past (names-nodes D F x y h) over)
  where
    past : (x < length D.nodes) × (y < length D.nodes) → NoNode (length D.nodes) x y → ⊥
    past (a, b) (inl l) = omega arith
    past (a, b) (inr l) = omega arith

-- rows 5 to 8 look at nodes and constructs alone
module _ (D E : Decoded) (same_nodes : E.nodes ≡ D.nodes) (same-constructs : E.constructs ≡ D.constructs) where
  abbrev alike : Decoded
  alike = record { nodes = D.nodes; edges = E.edges; constructs = D.constructs; trailer = E.trailer }

  same : E ≡ alike
  same = λ i. record { nodes = same_nodes i; edges = E.edges; constructs = same-constructs i; trailer = E.trailer }

  pub same_rows : (bad_nodes E ≡ bad_nodes D) × (bad_constructs E ≡ bad_constructs D) × (bad_frames E ≡ bad_frames D) × (bad_barriers E ≡ bad_barriers D)
  unfolding bad_nodes bad_node_at bad_constructs stray_node bad_frames bad_frame bad_barriers
  same_rows = (ap bad_nodes same, ap bad_constructs same, ap bad_frames same, ap bad_barriers same)

-- Row 19: an admitted chart has no such edge.
pub no-node-lacking : (s : List ℕ) → Admitted s → (x y : ℕ) → NoNode (decode s).trailer.nodes x y → not (edge_in (decode s).edges x y) ≡ true
unfolding admit_rows counts_of
no-node-lacking s admits x y over =
    let F = (fits s (both-pass (chart_rows s) _ admits).0).1.edges in
    rw (no_such (decode s) F x y (rw (nodes-length s (counts_of s) (admitted-laid s admits)) over))

-- row 4 lets the longer chart pass where it let the chart pass
lengths-grow : (len : ℕ) (t : Trailer) → bad_lengths len t ≡ false → bad_lengths (len + 2) (longer t) ≡ false
unfolding bad_lengths longer
lengths-grow len t h =
    let (whole, far) = or-neither (not (eqb len (size t.edition t.nodes t.edges t.constructs))) _ h in
    let (nodes, nearer) = or-neither (not (eqb t.to-nodes len)) _ far in
    let (edges, constructs) = or-neither (not (eqb t.to-edges (2 * t.edges + construct_bytes t.edition t.constructs + 16))) _ nearer in
    let all : len + 2 ≡ 4 * t.nodes + 2 * (t.edges + 1) + construct_bytes t.edition t.constructs + 16 = omega (arith, not_eqb len _ whole) in
    let from-nodes : t.to-nodes + 2 ≡ len + 2 = omega (arith, not_eqb t.to-nodes len nodes) in
    let from-edges : t.to-edges + 2 ≡ 2 * (t.edges + 1) + construct_bytes t.edition t.constructs + 16 = omega (arith, not_eqb t.to-edges _ edges) in
    neither-or _ _ (eq-not-eqb _ _ all) (neither-or _ _ (eq-not-eqb _ _ from-nodes) (neither-or _ _ (eq-not-eqb _ _ from-edges) constructs))

-- The longer chart.
module _ (s : List ℕ) (admits : Admitted s) (x y : ℕ) where
  abbrev t : Trailer
  t = (decode s).trailer

  abbrev new : List ℕ
  new = inserted s x y

  L : Laid s (counts_of s)
  L = admitted-laid s admits

  W : WithEdge (decode s) (decode new) x y
  W = inserted-decoded s L x y

  rows : (first_of (trailer_rows s) ≡ none) × (first_of (table_rows (decode s)) ≡ none)
  unfolding admit_rows chart_rows
  rows = both-pass (trailer_rows s) (table_rows (decode s)) (both-pass (chart_rows s) _ admits).0

  long : length new ≡ length s + 2
  long = inserted-length s L x y

  least : ltb (length new) 16 ≡ false
  unfolding counts_of
  least = le-ltb (length new) 16 (omega (arith, long, L.whole))

  marks : bad_marks (decode new).trailer ≡ false
  unfolding trailer_rows bad_marks longer
  marks = rw (inserted-trailer s L x y) (none-applies (trailer_rows s) rows.0).1.0

  counted : bad_counts (decode new).trailer.nodes (decode new).trailer.edges (decode new).trailer.constructs ≡ bad_counts t.nodes (t.edges + 1) t.constructs
  unfolding longer
  counted = rw (inserted-trailer s L x y)

  -- Where the table of edges is full, row 3 refuses any edge.
  pub full-table : t.edges ≡ 1024 → first_of (admit_rows new) ≡ some BadCounts
  unfolding admit_rows chart_rows trailer_rows first_of bad_counts
  full-table e =
      let over = or_right (ltb t.nodes 2 || ltb 192 t.nodes) _ (or_left (ltb (t.edges + 1) 1 || ltb 1024 (t.edges + 1)) (ltb 48 t.constructs)
      (or_right (ltb (t.edges + 1) 1) _ (lt-ltb 1024 (t.edges + 1) (omega arith)))) in
      rw (least, marks, counted ∙ over)

  module _ (few : t.edges < 1024) where
    counts : bad_counts (decode new).trailer.nodes (decode new).trailer.edges (decode new).trailer.constructs ≡ false
    unfolding counts_of bad_counts
    counts = counted ∙ rw (
      le-ltb t.nodes 2 L.two-nodes,
      le-ltb 192 t.nodes L.nodes-most,
      le-ltb (t.edges + 1) 1 (omega arith),
      le-ltb 1024 (t.edges + 1) (omega arith),
      le-ltb 48 t.constructs L.constructs-most,
    )

    lengths : bad_lengths (length new) (decode new).trailer ≡ false
    unfolding trailer_rows
    lengths = rw (long, inserted-trailer s L x y) (lengths-grow (length s) t (none-applies (trailer_rows s) rows.0).1.1.1.0)

    bad-edges : NoNode t.nodes x y → bad_edges (decode new) ≡ true
    unfolding counts_of
    bad-edges over = elim (truth (bad_edges (decode new))) [
      | inl h ↦ h
      | inr h ↦ (let n = ap length W.nodes ∙ nodes-length s (counts_of s) L in
          absurd (clash (edge_in_lem W) (no_such (decode new) (edges_fit (decode new) h) x y (rw n over))))
    ]

    -- Elsewhere an edge that names no node gives row 9.
    pub no-node : NoNode t.nodes x y → first_of (admit_rows new) ≡ some BadEdges
    unfolding admit_rows chart_rows trailer_rows table_rows first_of
    no-node over =
        let same = same_rows (decode s) (decode new) W.nodes W.constructs in
        let table = none-applies (table_rows (decode s)) rows.1 in
        rw (least, marks, counts, lengths, same.0 ∙ table.0, same.1 ∙ table.1.0, same.2 ∙ table.1.1.0, same.3 ∙ table.1.1.1.0, bad-edges over)

  -- Which of the two it is depends on the chart alone.
  pub no-node-refused : NoNode t.nodes x y → first_of (admit_rows new) ≡ some (no_node_row s)
  unfolding counts_of
  no-node-refused over = go (dec_lt t.edges 1024)
    where
      go : Dec (t.edges < 1024) → first_of (admit_rows new) ≡ some (cond (ltb t.edges 1024) BadEdges BadCounts)
      go (yes few) = rw (lt-ltb t.edges 1024 few) (no-node few over)
      go (no all) = let e : t.edges ≡ 1024 = omega (arith, L.edges_most) in rw (le-ltb t.edges 1024 (omega arith)) (full-table e)

-- So the calls refuse such an edge by these rows, and write nothing.
module _ (buffer : List ℕ) (len : ℕ) (room : len ≤ length buffer) (admits : Admitted (take len buffer)) (x y : ℕ) (over : NoNode (decode (take len buffer)).trailer.nodes x y) where
  abbrev s : List ℕ
  s = take len buffer

  after_front : (rows : List Row) → first_of (length_row (length buffer) len ∷ (admit_rows s ++ rows)) ≡ first_of rows
  unfolding length_row first_of
  after_front rows = rw (le-ltb (length buffer) len room) (second-decides (admit_rows s) rows admits)

  pub no-node-inserting : (receipt : Receipt)
      → (Err (no_node_row s) ≡ insert_written buffer len receipt x y) × (buffer ≡ insert_left buffer len receipt x y)
  unfolding insert_written insert_left commit_rows ask_rows
  no-node-inserting receipt =
      refused (commit_rows buffer len receipt x y) _ _ buffer
      (first-decides (ask_rows buffer len x y) _ _ (after_front (admit_rows (inserted s x y)) ∙ no-node-refused s admits x y over))

  pub no-node-removing : (Err NoEdge ≡ remove_written buffer len x y) × (buffer ≡ remove_left buffer len x y)
  unfolding remove_written remove_left remove_rows no_edge_row first_of
  no-node-removing = refused (remove_rows buffer len x y) _ _ buffer (after_front (no_edge_row s x y ∷ admit_rows (removed s x y)) ∙ rw (no-node-lacking s admits x y over))

-- Two numbers that do not change when they are read as bytes, the largest byte for one that fits none.
abbrev pub Unchanged : ℕ → ℕ → Type 0
Unchanged x y = (min x 255 ≡ x) × (min y 255 ≡ y)

-- What holds of all edges that name no node holds of (x, y) as it is and as it is read, unless that is the same.
pub as_bytes : (s : List ℕ) → Admitted s → (P : ℕ → ℕ → Type 0) → ((u v : ℕ) → NoNode (decode s).trailer.nodes u v → P u v) → (x y : ℕ)
    → Unchanged x y ⊎ (P (min x 255) (min y 255) × P x y)
unfolding counts_of
as_bytes s admits P all x y = go (dec_lt 255 x) (dec_lt 255 y)
  where
    few : (decode s).trailer.nodes ≤ 192
    few = (admitted-laid s admits).nodes-most

    go : Dec (255 < x) → Dec (255 < y) → Unchanged x y ⊎ (P (min x 255) (min y 255) × P x y)
    go (yes l) d = inr (all _ _ (inl (omega (arith, few))), all x y (inl (omega (arith, few))))
    go (no l) (yes m) = inr (all _ _ (inr (omega (arith, few))), all x y (inr (omega (arith, few))))
    go (no l) (no m) = inl (omega arith, omega arith)
