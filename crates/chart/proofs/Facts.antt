-- What rows 5, 7, 8 and 9 of the refusals stand for, as facts over a decoded chart, and that a row's test fails exactly where its facts
-- hold; with row 6's, of proofs/NestingFacts.antt, all facts of a chart's tables. The names go as there.
-- Assumes nothing.
use mathlib.Core.Path.{◌≡◌, refl, sym, subst}
use mathlib.Core.Logic.{◌⊎◌, inl, inr, ◌≢◌}
use mathlib.Core.Bool.{Bool, true, false, ◌&&◌, ◌||◌, not}
use mathlib.Core.List.{List}
use Prim.Native.Nat.{ℕ, zero, suc, ◌-◌, ◌≤◌, ◌<◌}
use native.Mathlib.Omega.{arith}
use native.Mathlib.Decide.{ℕ_discrete}
use lib.Dec.{eqb, ltb, leb}
use lib.ListN.{length}
use borrow.Author.Tests.{ltb-true, ltb-false, leb-false, eqb-true, eqb-false, not-false, lt-ltb, le-ltb, le-leb, lt-leb, leb-true, eq-eqb, ne_eqb}
use Rattle.lists.specs.Truth.{clash, false-if, and_both, both-and, or_cases, or_left, or_right, true-not, and-false, or-neither, neither-or, and-fails, fails-and, not_eqb, eq-not-eqb}
use Rattle.lists.specs.Range.{any, count, any_at, none_passes, any_none, count-two, count-some, count-only}
use Rattle.chart.specs.Format.{outside, Node, Edge, Construct, Decoded, node_at, edge_at, construct_at}
use Rattle.chart.specs.Scope.{barrier_node, begin_node, end_node, section_byte, scope_at}
use Rattle.chart.specs.Nested.{is_parallel}
use Rattle.chart.specs.Refusal.{bad_node, bad_outer, bad_node_at, bad_nodes, frames_in, bad_frame, bad_frames, is_barrier, barrier_of, too_many_in, bad_barriers, bad_edge, rises, bad_edge_at, frames_section, joins_sections, bad_edges}
use Rattle.chart.proofs.Tree.{Below}
use Rattle.chart.proofs.Constructs.{parallel-below}
use Rattle.chart.proofs.NestingFacts.{ConstructsFit, below-fits, fit-below}

-- p is the number of a region: outside, for the outermost one, or that of a parallel.
abbrev pub Named : List Construct → ℕ → Type 0
Named constructs p = (p ≡ outside) ⊎ (is_parallel constructs p ≡ true)

-- Row 5.
pub record NodeFits (constructs : List Construct) (kind number : ℕ) : Type 0 where
  pub known : kind ≤ end_node
  pub number-below : Below (length constructs) number
  pub barrier-names : kind ≡ barrier_node → Named constructs number
  pub frame-not-outside : begin_node ≤ kind → number ≢ outside

-- Node x is the first or the last of n.
abbrev pub Outer : ℕ → ℕ → Type 0
Outer n x = (x ≡ 0) ⊎ (x ≡ n - 1)

pub record NodesFit (D : Decoded) : Type 0 where
  pub alone : (x : ℕ) → x < length D.nodes → NodeFits D.constructs (node_at D.nodes x).kind (node_at D.nodes x).number
  pub outer : (x : ℕ) → x < length D.nodes → Outer (length D.nodes) x → (node_at D.nodes x).kind ≡ barrier_node
      → (node_at D.nodes x).number ≡ outside

-- the number of a begin or an end is that of a construct
pub frame-construct : {constructs : List Construct} {kind number : ℕ} → NodeFits constructs kind number → begin_node ≤ kind → number < length constructs
frame-construct F k = elim F.number-below [ inl q ↦ absurd (F.frame-not-outside k q) | inr l ↦ l ]

-- a number that names a region
pub names-fit : (constructs : List Construct) (number : ℕ) → (not (eqb number outside) && not (is_parallel constructs number)) ≡ false → Named constructs number
names-fit constructs number h = elim (ℕ_discrete number outside) [
  | yes q ↦ inl q
  | no n ↦ inr (not-false _ (and-fails (not (eqb number outside)) _ h (rw (ne_eqb number outside n))))
]

pub fit-names : (constructs : List Construct) (number : ℕ) → Named constructs number → (not (eqb number outside) && not (is_parallel constructs number)) ≡ false
fit-names constructs number (inl q) = rw (eq-eqb number outside q)
fit-names constructs number (inr h) = rw h (and-false (not (eqb number outside)))

pub node-fits : (constructs : List Construct) (kind number : ℕ) → bad_node constructs kind number ≡ false → NodeFits constructs kind number
unfolding bad_node
node-fits constructs kind number h =
    let a = or-neither (ltb end_node kind) _ h in
    let b = or-neither (not (ltb number (length constructs)) && not (eqb number outside)) _ a.1 in
    let c = or-neither (eqb kind barrier_node && (not (eqb number outside) && not (is_parallel constructs number))) _ b.1 in
    record {
      known = ltb-false end_node kind a.0;
      number-below = below-fits (length constructs) number b.0;
      barrier-names = λ k. names-fit constructs number (and-fails (eqb kind barrier_node) _ c.0 (eq-eqb kind barrier_node k));
      frame-not-outside = λ k. eqb-false number outside (and-fails (leb begin_node kind) (eqb number outside) c.1 (le-leb begin_node kind k));
    }

pub fit-node : (constructs : List Construct) (kind number : ℕ) → NodeFits constructs kind number → bad_node constructs kind number ≡ false
unfolding bad_node
fit-node constructs kind number F =
    neither-or _ _ (le-ltb end_node kind F.known) (neither-or _ _ (fit-below (length constructs) number F.number-below) (neither-or _ _
    (fails-and (eqb kind barrier_node) _ (λ k. fit-names constructs number (F.barrier-names (eqb-true kind barrier_node k))))
    (fails-and (leb begin_node kind) (eqb number outside) (λ k. ne_eqb number outside (F.frame-not-outside (leb-true begin_node kind k))))))

outer-fits : (n x kind number : ℕ) → bad_outer n x kind number ≡ false → Outer n x → kind ≡ barrier_node → number ≡ outside
unfolding bad_outer
outer-fits n x kind number h o k =
    not_eqb number outside (and-fails (eqb kind barrier_node) _ (and-fails (eqb x 0 || eqb x (n - 1)) _ h (at o)) (eq-eqb kind barrier_node k))
  where
    at : Outer n x → (eqb x 0 || eqb x (n - 1)) ≡ true
    at (inl q) = or_left (eqb x 0) _ (eq-eqb x 0 q)
    at (inr q) = or_right (eqb x 0) _ (eq-eqb x (n - 1) q)

fit-outer : (n x kind number : ℕ) → (Outer n x → kind ≡ barrier_node → number ≡ outside) → bad_outer n x kind number ≡ false
unfolding bad_outer
fit-outer n x kind number f =
    fails-and (eqb x 0 || eqb x (n - 1)) _ (λ o. fails-and (eqb kind barrier_node) _ (λ k. eq-not-eqb number outside (f (of o) (eqb-true kind barrier_node k))))
  where
    of : (eqb x 0 || eqb x (n - 1)) ≡ true → Outer n x
    of o = elim (or_cases (eqb x 0) _ o) [ inl q ↦ inl (eqb-true x 0 q) | inr q ↦ inr (eqb-true x (n - 1) q) ]

pub nodes-fit : (D : Decoded) → bad_nodes D ≡ false → NodesFit D
unfolding bad_nodes bad_node_at
nodes-fit D h = record { alone = λ x l. node-fits _ _ _ (parts x l).0; outer = λ x l. outer-fits _ x _ _ (parts x l).1 }
  where
    parts : (x : ℕ) → x < length D.nodes
        → let k = node_at D.nodes x in
        (bad_node D.constructs k.kind k.number ≡ false) × (bad_outer (length D.nodes) x k.kind k.number ≡ false)
    parts x l =
        let k = node_at D.nodes x in
        or-neither (bad_node D.constructs k.kind k.number) _ (none_passes (length D.nodes) (bad_node_at D) h x l)

pub fit-nodes : (D : Decoded) → NodesFit D → bad_nodes D ≡ false
unfolding bad_nodes bad_node_at
fit-nodes D F = any_none (length D.nodes) (bad_node_at D) (λ x l. neither-or _ _ (fit-node _ _ _ (F.alone x l)) (fit-outer _ x _ _ (F.outer x l)))

-- Row 7: a node of this kind with the number c, and that there is exactly one.
abbrev pub FrameAt : List Node → ℕ → ℕ → ℕ → Type 0
FrameAt nodes kind c x = ((node_at nodes x).kind ≡ kind) × ((node_at nodes x).number ≡ c)

pub record OneFrame (nodes : List Node) (kind c : ℕ) : Type 0 where
  pub node : ℕ
  pub below : node < length nodes
  pub there : FrameAt nodes kind c node
  pub only : (x : ℕ) → x < length nodes → FrameAt nodes kind c x → x ≡ node

pub record FramesFit (D : Decoded) : Type 0 where
  pub begins : (c : ℕ) → c < length D.constructs → OneFrame D.nodes begin_node c
  pub ends : (c : ℕ) → c < length D.constructs → OneFrame D.nodes end_node c

module _ (nodes : List Node) (kind c : ℕ) where
  -- the test of one node
  abbrev pub is_frame : ℕ → Bool
  is_frame x = eqb (node_at nodes x).kind kind && eqb (node_at nodes x).number c

  pub is-frame : (x : ℕ) → is_frame x ≡ true → FrameAt nodes kind c x
  is-frame x h =
      let a = and_both (eqb (node_at nodes x).kind kind) (eqb (node_at nodes x).number c) h in
      (eqb-true (node_at nodes x).kind kind a.0, eqb-true (node_at nodes x).number c a.1)

  pub frame_is : (x : ℕ) → FrameAt nodes kind c x → is_frame x ≡ true
  frame_is x h = both-and _ _ (eq-eqb (node_at nodes x).kind kind h.0) (eq-eqb (node_at nodes x).number c h.1)

  frame-fits : frames_in nodes kind c (length nodes) ≡ 1 → OneFrame nodes kind c
  unfolding frames_in
  frame-fits h =
      let n = length nodes in
      let found = any_at n is_frame (count-some n is_frame (omega arith)) in
      record {
        node = found.0;
        below = found.1;
        there = is-frame found.0 found.2;
        only = λ x l g. same x found.0 (ℕ_discrete x found.0) (λ d. count-two n is_frame x found.0 l found.1 d (frame_is x g) found.2);
      }
    where
      two : 2 ≤ count (length nodes) is_frame → ⊥
      two g = omega arith

      same : (x y : ℕ) → Dec (x ≡ y) → (x ≢ y → 2 ≤ count (length nodes) is_frame) → x ≡ y
      same x y (yes q) g = q
      same x y (no d) g = absurd (two (g d))

  fit-frame : OneFrame nodes kind c → frames_in nodes kind c (length nodes) ≡ 1
  unfolding frames_in
  fit-frame F = count-only (length nodes) is_frame F.node F.below (frame_is F.node F.there) (λ j l g. F.only j l (is-frame j g))

abbrev not_one : Decoded → ℕ → ℕ → Bool
not_one D kind c = not (eqb (frames_in D.nodes kind c (length D.nodes)) 1)

kind_fits : (D : Decoded) (kind : ℕ) → bad_frame D kind ≡ false → (c : ℕ) → c < length D.constructs → OneFrame D.nodes kind c
unfolding bad_frame
kind_fits D kind h c l =
    frame-fits D.nodes kind c (not_eqb _ 1 (none_passes (length D.constructs) (not_one D kind) h c l))

fit-kind : (D : Decoded) (kind : ℕ) → ((c : ℕ) → c < length D.constructs → OneFrame D.nodes kind c) → bad_frame D kind ≡ false
unfolding bad_frame
fit-kind D kind F =
    any_none (length D.constructs) (not_one D kind) (λ c l. eq-not-eqb _ 1 (fit-frame D.nodes kind c (F c l)))

pub frames-fit : (D : Decoded) → bad_frames D ≡ false → FramesFit D
unfolding bad_frames
frames-fit D h =
    let a = or-neither (bad_frame D begin_node) (bad_frame D end_node) h in
    record { begins = kind_fits D begin_node a.0; ends = kind_fits D end_node a.1 }

pub fit-frames : (D : Decoded) → FramesFit D → bad_frames D ≡ false
unfolding bad_frames
fit-frames D F = neither-or _ _ (fit-kind D begin_node F.begins) (fit-kind D end_node F.ends)

-- Row 8.
pub record BarriersFit (D : Decoded) : Type 0 where
  pub start : (node_at D.nodes 0).kind ≡ barrier_node
  pub finish : (node_at D.nodes (length D.nodes - 1)).kind ≡ barrier_node
  -- of each region
  pub most : (p : ℕ) → Named D.constructs p → count (length D.nodes) (barrier_of D.nodes p) ≤ 64

pub barriers-fit : (D : Decoded) → bad_barriers D ≡ false → BarriersFit D
unfolding bad_barriers is_barrier too_many_in
barriers-fit D h =
    let a = or-neither (not (is_barrier D.nodes 0)) _ h in
    let b = or-neither (not (is_barrier D.nodes (length D.nodes - 1))) _ a.1 in
    let c = or-neither (too_many_in D.nodes outside) _ b.1 in
    record { start = not_eqb _ barrier_node a.0; finish = not_eqb _ barrier_node b.0; most = most c.0 c.1 }
  where
    most : too_many_in D.nodes outside ≡ false → any (length D.constructs) (λ c. is_parallel D.constructs c && too_many_in D.nodes c) ≡ false
        → (p : ℕ) → Named D.constructs p → count (length D.nodes) (barrier_of D.nodes p) ≤ 64
    most o i p (inl q) = subst (λ (p : ℕ). count (length D.nodes) (barrier_of D.nodes p) ≤ 64) (sym q) (ltb-false 64 _ o)
    most o i p (inr k) = ltb-false 64 _ (and-fails (is_parallel D.constructs p) _
        (none_passes (length D.constructs) (λ c. is_parallel D.constructs c && too_many_in D.nodes c) i p (parallel-below D.constructs p k)) k)

pub fit-barriers : (D : Decoded) → BarriersFit D → bad_barriers D ≡ false
unfolding bad_barriers is_barrier too_many_in
fit-barriers D F =
    neither-or _ _ (eq-not-eqb _ barrier_node F.start) (neither-or _ _ (eq-not-eqb _ barrier_node F.finish)
    (neither-or _ _ (le-ltb 64 _ (F.most outside (inl refl))) (any_none (length D.constructs) (λ c. is_parallel D.constructs c && too_many_in D.nodes c)
    (λ c l. fails-and (is_parallel D.constructs c) _ (λ k. le-ltb 64 _ (F.most c (inr k)))))))

-- Row 9, of an edge by itself and of two edges in a row.
pub record EdgeFits (nodes : List Node) (constructs : List Construct) (from to : ℕ) : Type 0 where
  pub from-below : from < length nodes
  pub to_below : to < length nodes
  pub not-into-start : to ≢ 0
  pub not-out-of-finish : from ≢ length nodes - 1
  pub scopes : scope_at begin_node nodes constructs from ≡ scope_at end_node nodes constructs to

abbrev pub Rises : Edge → Edge → Type 0
Rises before after = (before.from < after.from) ⊎ ((before.from ≡ after.from) × (before.to < after.to))

-- Node x is of this kind and frames a section.
abbrev pub FramesSection : Decoded → ℕ → ℕ → Type 0
FramesSection D kind x =
    ((node_at D.nodes x).kind ≡ kind) × ((construct_at D.constructs (node_at D.nodes x).number).kind ≡ section_byte)

pub record EdgesFit (D : Decoded) : Type 0 where
  pub alone : (i : ℕ) → i < length D.edges → EdgeFits D.nodes D.constructs (edge_at D.edges i).from (edge_at D.edges i).to
  pub apart : (i : ℕ) → i < length D.edges → FramesSection D end_node (edge_at D.edges i).from → FramesSection D begin_node (edge_at D.edges i).to → ⊥
  pub rising : (i : ℕ) → suc i < length D.edges → Rises (edge_at D.edges i) (edge_at D.edges (suc i))

edge-fits : (nodes : List Node) (constructs : List Construct) (from to : ℕ)
    → bad_edge nodes constructs from to ≡ false → EdgeFits nodes constructs from to
unfolding bad_edge
edge-fits nodes constructs from to h =
    let a = or-neither (leb (length nodes) from || leb (length nodes) to) _ h in
    let b = or-neither (leb (length nodes) from) (leb (length nodes) to) a.0 in
    let c = or-neither (eqb to 0) _ a.1 in
    let d = or-neither (eqb from (length nodes - 1)) _ c.1 in
    record {
      from-below = leb-false (length nodes) from b.0;
      to_below = leb-false (length nodes) to b.1;
      not-into-start = eqb-false to 0 c.0;
      not-out-of-finish = eqb-false from (length nodes - 1) d.0;
      scopes = not_eqb _ _ d.1;
    }

fit-edge : (nodes : List Node) (constructs : List Construct) (from to : ℕ)
    → EdgeFits nodes constructs from to → bad_edge nodes constructs from to ≡ false
unfolding bad_edge
fit-edge nodes constructs from to F =
    neither-or _ _ (neither-or _ _ (lt-leb (length nodes) from F.from-below) (lt-leb (length nodes) to F.to_below))
    (neither-or _ _ (ne_eqb to 0 F.not-into-start)
    (neither-or _ _ (ne_eqb from (length nodes - 1) F.not-out-of-finish) (eq-not-eqb _ _ F.scopes)))

pub rise-fits : (before after : Edge) → rises before.from before.to after.from after.to ≡ true → Rises before after
unfolding rises
rise-fits before after h = elim (or_cases (ltb before.from after.from) _ h) [
  | inl l ↦ inl (ltb-true _ _ l)
  | inr l ↦ (let a = and_both (eqb before.from after.from) (ltb before.to after.to) l in inr (eqb-true _ _ a.0, ltb-true _ _ a.1))
]

pub fit-rise : (before after : Edge) → Rises before after → rises before.from before.to after.from after.to ≡ true
unfolding rises
fit-rise before after (inl l) = or_left _ _ (lt-ltb before.from after.from l)
fit-rise before after (inr l) =
    or_right (ltb before.from after.from) _ (both-and _ _ (eq-eqb before.from after.from l.0) (lt-ltb before.to after.to l.1))

-- edge i does not rise above the edge `before`
abbrev falls : List Edge → ℕ → ℕ → Bool
falls edges before i = ltb 0 i && not (rises (edge_at edges before).from (edge_at edges before).to (edge_at edges i).from (edge_at edges i).to)

section-fits : (D : Decoded) (kind x : ℕ) → frames_section D kind x ≡ true → FramesSection D kind x
unfolding frames_section
section-fits D kind x h =
    let b = and_both (eqb (node_at D.nodes x).kind kind) _ h in
    (eqb-true _ kind b.0, eqb-true _ section_byte b.1)

fit-section : (D : Decoded) (kind x : ℕ) → FramesSection D kind x → frames_section D kind x ≡ true
unfolding frames_section
fit-section D kind x h = both-and _ _ (eq-eqb _ kind h.0) (eq-eqb _ section_byte h.1)

pub edges_fit : (D : Decoded) → bad_edges D ≡ false → EdgesFit D
unfolding bad_edges bad_edge_at joins_sections
edges_fit D h = record {
  alone = λ i l. edge-fits _ _ _ _ (parts i l).0;
  apart = λ i l a b. clash (both-and _ _ (fit-section D end_node _ a) (fit-section D begin_node _ b))
      (none_passes (length D.edges) (joins_sections D) both.1 i l);
  rising = risen;
}
  where
    both : (any (length D.edges) (bad_edge_at D) ≡ false) × (any (length D.edges) (joins_sections D) ≡ false)
    both = or-neither (any (length D.edges) (bad_edge_at D)) _ h

    parts : (i : ℕ) → i < length D.edges
        → (bad_edge D.nodes D.constructs (edge_at D.edges i).from (edge_at D.edges i).to ≡ false) × (falls D.edges (i - 1) i ≡ false)
    parts i l =
        or-neither (bad_edge D.nodes D.constructs (edge_at D.edges i).from (edge_at D.edges i).to) _
        (none_passes (length D.edges) (bad_edge_at D) both.0 i l)

    risen : (i : ℕ) → suc i < length D.edges → Rises (edge_at D.edges i) (edge_at D.edges (suc i))
    risen i l =
        let q : suc i - 1 ≡ i = omega arith in
        let f = subst (λ (before : ℕ). falls D.edges before (suc i) ≡ false) q (parts (suc i) l).1 in
        rise-fits (edge_at D.edges i) (edge_at D.edges (suc i)) (not-false _ (and-fails (ltb 0 (suc i)) _ f (lt-ltb 0 (suc i) (omega arith))))

pub fit_edges : (D : Decoded) → EdgesFit D → bad_edges D ≡ false
unfolding bad_edges bad_edge_at joins_sections
fit_edges D F =
    neither-or _ _ (any_none (length D.edges) (bad_edge_at D) (λ i l. neither-or _ _ (fit-edge _ _ _ _ (F.alone i l)) (risen i l)))
    (any_none (length D.edges) (joins_sections D)
    (λ i l. fails-and _ _ (λ a. false-if (λ b. F.apart i l (section-fits D end_node _ a) (section-fits D begin_node _ b)))))
  where
    risen : (i : ℕ) → i < length D.edges → falls D.edges (i - 1) i ≡ false
    risen zero l = refl
    risen (suc i) l =
        let q : suc i - 1 ≡ i = omega arith in
        subst (λ (before : ℕ). falls D.edges before (suc i) ≡ false) (sym q)
        (fails-and (ltb 0 (suc i)) _ (λ t. true-not _ (fit-rise (edge_at D.edges i) (edge_at D.edges (suc i)) (F.rising i l))))

-- All the tables of a chart.
pub record TablesFit (D : Decoded) : Type 0 where
  pub nodes : NodesFit D
  pub constructs : ConstructsFit D
  pub frames : FramesFit D
  pub barriers : BarriersFit D
  pub edges : EdgesFit D
