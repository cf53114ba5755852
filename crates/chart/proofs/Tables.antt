-- What the tables of a chart say of its nodes, whichever region is read: their frames, where they lie, their scopes and their edges.
-- Assumes nothing.
use mathlib.Core.Path.{◌≡◌, refl, ap, sym, ◌∙◌, subst}
use mathlib.Core.Logic.{◌⊎◌, inl, inr, ◌≢◌}
use mathlib.Core.Bool.{true, ◌&&◌}
use mathlib.Core.List.{List}
use Prim.Native.Nat.{ℕ, ◌-◌, ◌≤◌, ◌<◌}
use native.Mathlib.Omega.{arith}
use native.Mathlib.Decide.{ℕ_discrete, dec_lt}
use lib.Dec.{eqb}
use lib.ListN.{length, get_or-eq_default}
use borrow.Author.Tests.{eqb-true}
use Rattle.lists.specs.Truth.{and_both}
use Rattle.lists.specs.Range.{first, any_at, at-any, first_passes}
use Rattle.chart.specs.Format.{outside, Node, Decoded, no_node, node_at, edge_at, construct_at}
use Rattle.chart.specs.Region.{ordered, section}
use Rattle.chart.specs.Scope.{loop_byte, sections_byte, barrier_node, begin_node, end_node, kind_of, lies_in, scope, lies_at, scope_at, Encloses, parent_of}
use Rattle.chart.specs.Reading.{edge_in, inside_at, frame_of}
use Rattle.chart.proofs.Tree.{Below, below_more, computed, computes}
use Rattle.chart.proofs.NestingFacts.{parents-lower}
use Rattle.chart.proofs.Facts.{NodeFits, TablesFit, FramesSection, FrameAt, OneFrame, EdgeFits, frame-construct, is_frame, is-frame, frame_is}
use Rattle.chart.proofs.Reading.{Frame, begin, end}
use Rattle.chart.proofs.Scopes.{byte_of, frame_byte, ordered-byte, section-byte, lies-number, lies-parent, scope-own, scope-other, to-scope, of-scope}

module _ (nodes : List Node) (kind c : ℕ) (one : OneFrame nodes kind c) where
  -- the one begin or end of c is the one that is found
  found : (frame_of nodes kind c < length nodes) × FrameAt nodes kind c (frame_of nodes kind c)
  unfolding frame_of
  found =
      let n = length nodes in
      let test = is_frame nodes kind c in
      let p = first_passes n test (at-any n test one.node one.below (frame_is nodes kind c one.node one.there)) in
      (p.0, is-frame nodes kind c (first n test) p.1)

  found-only : (x : ℕ) → x < length nodes → FrameAt nodes kind c x → x ≡ frame_of nodes kind c
  found-only x l h = one.only x l h ∙ sym (one.only (frame_of nodes kind c) found.0 found.1)

module _ (D : Decoded) where
  abbrev kind : ℕ → ℕ
  kind x = (node_at D.nodes x).kind

  abbrev number : ℕ → ℕ
  number x = (node_at D.nodes x).number

  abbrev parent : ℕ → ℕ
  parent = parent_of D.constructs

  abbrev size : ℕ
  size = length D.constructs

  abbrev byte : ℕ → ℕ
  byte c = (construct_at D.constructs c).kind

  abbrev pub lies : ℕ → ℕ
  lies x = lies_at D.nodes D.constructs x

  abbrev pub scoped : Frame → ℕ → ℕ
  scoped f x = scope_at (byte_of f) D.nodes D.constructs x

  -- past the last node stands a plain one
  pub no-node : (x : ℕ) → length D.nodes ≤ x → node_at D.nodes x ≡ no_node
  unfolding node_at
  no-node x l = get_or-eq_default D.nodes _ l

  pub in-chart : (x : ℕ) → 1 ≤ (node_at D.nodes x).kind → x < length D.nodes
  in-chart x k = elim (dec_lt x (length D.nodes)) [
    | yes l ↦ l
    | no l ↦ absurd (none (subst (λ (n : Node). 1 ≤ n.kind) (no-node x (omega arith)) k))
  ]
    where
      none : 1 ≤ 0 → ⊥
      none l = omega arith

  module _ (F : TablesFit D) where
    -- what stands past the last node fits too
    pub node-fit : (x : ℕ) → NodeFits D.constructs (node_at D.nodes x).kind (node_at D.nodes x).number
    node-fit x = elim (dec_lt x (length D.nodes)) [
      | yes l ↦ F.nodes.alone x l
      | no l ↦ subst (λ (n : Node). NodeFits D.constructs n.kind n.number) (sym (no-node x (omega arith)))
          (record { known = omega arith; number-below = inl refl; barrier-names = λ q. inl refl; frame-not-outside = none })
    ]
      where
        none : 2 ≤ 0 → outside ≢ outside
        none l = omega arith

    pub parents : (c : ℕ) → c < length D.constructs → Below c (parent_of D.constructs c)
    parents = parents-lower D.constructs F.constructs.alone

    pub lies-below : (x : ℕ) → Below (length D.constructs) (lies x)
    unfolding lies_at
    lies-below x = go (dec_lt (kind x) begin_node)
      where
        go : Dec (kind x < begin_node) → Below size (lies_in (kind x) (number x) (parent (number x)))
        go (yes l) = rw (lies-number (number x) (parent (number x)) l) (node-fit x).number-below
        go (no l) =
            let k : begin_node ≤ kind x = omega arith in
            let n = frame-construct (node-fit x) k in
            rw (lies-parent (number x) (parent (number x)) k) (below_more (omega arith) (parents (number x) n))

    pub scope-below : (f : Frame) (x : ℕ) → Below (length D.constructs) (scoped f x)
    unfolding scope_at lies_at
    scope-below f x = go (ℕ_discrete (kind x) (byte_of f))
      where
        go : Dec (kind x ≡ byte_of f) → Below size (scope (byte_of f) (kind x) (number x) (parent (number x)))
        go (yes q) = rw (scope-own (number x) (parent (number x)) q) (node-fit x).number-below
        go (no n) = rw (scope-other (number x) (parent (number x)) n) (lies-below x)

    -- frames
    pub one-frame : (f : Frame) (c : ℕ) → c < length D.constructs → OneFrame D.nodes (byte_of f) c
    one-frame begin = F.frames.begins
    one-frame end = F.frames.ends

    pub frame_found : (f : Frame) (c : ℕ) → c < length D.constructs → FrameAt D.nodes (byte_of f) c (frame_of D.nodes (byte_of f) c)
    frame_found f c l = (found D.nodes (byte_of f) c (one-frame f c l)).1

    module _ (f : Frame) (x c : ℕ) (h : FrameAt D.nodes (byte_of f) c x) where
      frame-kind : begin_node ≤ kind x
      frame-kind = let l = frame_byte f in let k = h.0 in omega arith

      pub frame_below : c < length D.constructs
      frame_below = subst (λ (n : ℕ). n < size) h.1 (frame-construct (node-fit x) frame-kind)

      pub frame_here : x < length D.nodes
      frame_here = let k = frame-kind in in-chart x (omega arith)

      pub frame-only : x ≡ frame_of D.nodes (byte_of f) c
      frame-only = found-only D.nodes (byte_of f) c (one-frame f c frame_below) x frame_here h

      pub frame-lies : lies x ≡ parent_of D.constructs c
      unfolding lies_at
      frame-lies = lies-parent (number x) (parent (number x)) frame-kind ∙ ap parent h.1

      pub frame-scope : scoped f x ≡ c
      unfolding scope_at
      frame-scope = scope-own (number x) (parent (number x)) h.0 ∙ h.1

    frames-differ : ◌≡◌ {A = ℕ} begin_node end_node → ⊥
    frames-differ q = omega arith

    -- arriving at a begin, leaving an end: where its construct lies
    pub arriving-begin : (x c : ℕ) → FrameAt D.nodes begin_node c x → scoped end x ≡ parent c
    unfolding scope_at lies_at
    arriving-begin x c h = scope-other (number x) (parent (number x)) (λ q. frames-differ (sym h.0 ∙ q)) ∙ frame-lies begin x c h

    pub leaving-end : (x c : ℕ) → FrameAt D.nodes end_node c x → scoped begin x ≡ parent c
    unfolding scope_at lies_at
    leaving-end x c h = scope-other (number x) (parent (number x)) (λ q. frames-differ (sym q ∙ h.0)) ∙ frame-lies end x c h

    -- inside and scopes
    pub enclosed : (x c : ℕ) → inside_at D.nodes D.constructs x c ≡ true → Encloses (parent_of D.constructs) (lies x) c
    unfolding inside_at
    enclosed x c h = computed parent size (lies x) c h

    pub encloses-inside : (x : ℕ) {c : ℕ} → Encloses parent (lies x) c → inside_at D.nodes D.constructs x c ≡ true
    unfolding inside_at
    encloses-inside x e = computes parent size parents e size (omega arith) (lies-below x)

    pub lies-scope : (f : Frame) (x : ℕ) {c : ℕ} → Encloses (parent_of D.constructs) (lies x) c → Encloses (parent_of D.constructs) (scoped f x) c
    unfolding lies_at scope_at
    lies-scope f x e = to-scope parent f (kind x) (number x) (λ q. let l = frame_byte f in (node-fit x).frame-not-outside (omega arith)) e

    pub scope-frame : (f : Frame) (x : ℕ) {c : ℕ} → Encloses (parent_of D.constructs) (scoped f x) c
        → Encloses (parent_of D.constructs) (lies x) c ⊎ FrameAt D.nodes (byte_of f) c x
    unfolding lies_at scope_at
    scope-frame f x e = of-scope parent f (kind x) (number x) e

    -- what holds of every edge of the list
    edge-has : (P : ℕ → ℕ → Type 0) → ((i : ℕ) → i < length D.edges → P (edge_at D.edges i).from (edge_at D.edges i).to)
        → (x y : ℕ) → edge_in D.edges x y ≡ true → P x y
    unfolding edge_in
    edge-has P f x y h =
        let i = any_at (length D.edges) (λ i. eqb (edge_at D.edges i).from x && eqb (edge_at D.edges i).to y) h in
        let from = (edge_at D.edges i.0).from in
        let to = (edge_at D.edges i.0).to in
        let b = and_both (eqb from x) (eqb to y) i.2 in
        subst (λ (n : ℕ). P n y) (eqb-true from x b.0) (subst (P from) (eqb-true to y b.1) (f i.0 i.1))

    pub edge-at : (x y : ℕ) → edge_in D.edges x y ≡ true → EdgeFits D.nodes D.constructs x y
    edge-at x y h = edge-has (EdgeFits D.nodes D.constructs) F.edges.alone x y h

    pub edge-apart : (x y : ℕ) → edge_in D.edges x y ≡ true → FramesSection D end_node x → FramesSection D begin_node y → ⊥
    edge-apart x y h = edge-has (λ a b. FramesSection D end_node a → FramesSection D begin_node b → ⊥) F.edges.apart x y h

    -- Start and Finish are outside everything
    pub outer_start : (node_at D.nodes 0).number ≡ outside
    outer_start = let k = F.barriers.start in F.nodes.outer 0 (in-chart 0 (omega arith)) (inl refl) k

    pub outer-finish : (node_at D.nodes (length D.nodes - 1)).number ≡ outside
    outer-finish = let k = F.barriers.finish in F.nodes.outer (length D.nodes - 1) (in-chart (length D.nodes - 1) (omega arith)) (inr refl) k

    barrier-lies : (x : ℕ) → kind x ≡ barrier_node → number x ≡ outside → lies x ≡ outside
    unfolding lies_at
    barrier-lies x k q = lies-number (number x) (parent (number x)) (omega arith) ∙ q

    pub start-lies : lies 0 ≡ outside
    start-lies = barrier-lies 0 F.barriers.start outer_start

    pub finish-lies : lies (length D.nodes - 1) ≡ outside
    finish-lies = barrier-lies (length D.nodes - 1) F.barriers.finish outer-finish

    -- an ordered's parent is a do, a section's a sections
    pub loop-above : (c : ℕ) → c < size → kind_of (construct_at D.constructs c).kind ≡ ordered → (construct_at D.constructs (parent c)).kind ≡ loop_byte
    loop-above c l k = (F.constructs.nested c l).placed.in-loop (ordered-byte (construct_at D.constructs c).kind k)

    pub sections-above : (c : ℕ) → c < size → kind_of (construct_at D.constructs c).kind ≡ section → (construct_at D.constructs (parent c)).kind ≡ sections_byte
    sections-above c l k = (F.constructs.nested c l).placed.in-sections (section-byte (construct_at D.constructs c).kind k)
