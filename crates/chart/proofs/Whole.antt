-- A decoded chart whose tables fit, read for one of its regions, supplies the facts that the laws of a region rest on: the constructs of the
-- region p are those whose nearest parallel above is p.
-- Assumes nothing.
use mathlib.Core.Path.{◌≡◌, refl, ap, sym, ◌∙◌, subst}
use mathlib.Core.Logic.{◌⊎◌, inl, inr, ◌≢◌}
use mathlib.Core.Bool.{Bool, true, false}
use Prim.Native.Nat.{ℕ, suc, ◌≤◌, ◌<◌}
use native.Mathlib.Omega.{arith}
use native.Mathlib.Decide.{ℕ_discrete, dec_lt}
use lib.Dec.{ltb}
use lib.ListN.{length}
use borrow.Author.Tests.{eq-eqb, ne_eqb, ltb-true}
use Rattle.lists.specs.Truth.{clash, and_both, both-and}
use Rattle.chart.specs.Format.{outside, Node, Decoded, node_at, construct_at}
use Rattle.chart.specs.Region.{barrier, closes, sections, section, parallel}
use Rattle.chart.specs.Scope.{sections_byte, section_byte, parallel_byte, barrier_node, begin_node, end_node, kind_of, scope, lies_at, scope_at, Encloses, parent_of}
use Rattle.chart.specs.Nested.{is_parallel, region_at, counts_in, kept_in}
use Rattle.chart.specs.Reading.{frame_of, region_of}
use Rattle.chart.proofs.Constructs.{kind-below, parallel-below, parallel-inner}
use Rattle.chart.proofs.Tree.{below_more, outside-encloses, lower, irreflexive}
use Rattle.chart.proofs.Near.{Near, region-up, nearby}
use Rattle.chart.proofs.Facts.{Named, TablesFit, FrameAt, frame-construct}
use Rattle.chart.proofs.Reading.{Frame, begin, end, marks, frame_in, Reads}
use Rattle.chart.proofs.Scopes.{byte_of, marks-role, barrier-role, frame-barrier, sections-byte, section-byte, parallel-byte, loop-byte, byte-sections, byte-section, lies-number, lies-parent, scope-own, scope-other}
use Rattle.chart.proofs.Tables.{lies, scoped, no-node, in-chart, node-fit, parents, lies-below, frame_found, frame_here, frame-only, frame-lies, frame-scope, arriving-begin, leaving-end, enclosed, encloses-inside, lies-scope, scope-frame, edge-at, edge-apart, outer_start, outer-finish, loop-above, sections-above}
use Rattle.chart.proofs.RegionFacts.{Counts, counts-open, counts-home, home-counts, in_both, within-encloses, edge_in_lem, edge-within, barrier-at, start-outer, start-inner, finish-outer, finish-inner, counts-higher, marks-at, in-counts, from-kept, to-kept}

module _ (D : Decoded) (F : TablesFit D) (few : length D.constructs ≤ outside) (p : ℕ) (N : Named D.constructs p) where
  abbrev kind : ℕ → ℕ
  kind x = (node_at D.nodes x).kind

  abbrev number : ℕ → ℕ
  number x = (node_at D.nodes x).number

  abbrev parent : ℕ → ℕ
  parent = parent_of D.constructs

  abbrev size : ℕ
  size = length D.constructs

  abbrev byte : ℕ → ℕ
  byte c = (construct_at D.constructs c).kind

  abbrev shut : ℕ → Bool
  shut = is_parallel D.constructs

  -- the region of what lies in q
  abbrev home : ℕ → ℕ
  home q = region_at parent shut size q

  -- a parallel is one by its byte
  not-shut : (c : ℕ) → byte c ≢ parallel_byte → shut c ≡ false
  unfolding is_parallel
  not-shut c n = ne_eqb (byte c) parallel_byte n

  byte-shut : (c : ℕ) → byte c ≡ parallel_byte → shut c ≡ true
  unfolding is_parallel
  byte-shut c q = eq-eqb (byte c) parallel_byte q

  past : {c : ℕ} → c < size → c ≡ outside → ⊥
  past l q = omega arith

  inner : shut p ≡ true → p ≢ outside
  inner n = parallel-inner D.constructs p few n

  counts-other : {c : ℕ} → Counts D p c → c ≢ p
  counts-other {c} m z = elim N [
    | inl q ↦ past m.0 (z ∙ q)
    | inr n ↦ clash n (subst (λ (k : ℕ). shut k ≡ false) z (counts-open D p c m.1))
  ]

  -- frames of the region
  at-marks : (f : Frame) (x c : ℕ) → FrameAt D.nodes (byte_of f) c x → Counts D p c → (region_of p D).role x ≡ marks f c
  at-marks f x c h m = marks-role p (counts_in D.constructs p) f h.0 h.1 (counts-other m) m.1

  frame-in : (f : Frame) (c : ℕ) → frame_in (region_of p D) f c ≡ frame_of D.nodes (byte_of f) c
  frame-in begin c = refl
  frame-in end c = refl

  framed : (f : Frame) (c : ℕ) → Counts D p c → (region_of p D).role (frame_in (region_of p D) f c) ≡ marks f c
  framed f c m =
      at-marks f (frame_in (region_of p D) f c) c
      (subst (FrameAt D.nodes (byte_of f) c) (sym (frame-in f c)) (frame_found D F f c m.0)) m

  -- barriers: a barrier that names the region lies in its parallel, the parallel's begin and end lie above it
  bare : (x c : ℕ) → (region_of p D).role x ≡ barrier → Encloses parent (lies D x) c → Counts D p c → ⊥
  unfolding lies_at
  bare x c w e m = go N (dec_lt (kind x) begin_node)
    where
      b : (barrier_node ≤ kind x) × (number x ≡ p)
      b = barrier-at D p x w

      at-number : kind x < begin_node → Encloses parent p c
      at-number l = subst (λ (q : ℕ). Encloses parent q c) (lies-number (number x) (parent (number x)) l ∙ b.1) e

      at-parent : begin_node ≤ kind x → Encloses parent (parent p) c
      at-parent l = subst (λ (q : ℕ). Encloses parent q c) (lies-parent (number x) (parent (number x)) l ∙ ap parent b.1) e

      not-both : {a b d : ℕ} → a < d → b < a → d ≤ suc b → ⊥
      not-both i j k = omega arith

      go : Named D.constructs p → Dec (kind x < begin_node) → ⊥
      go (inl q) (yes l) = outside-encloses q (at-number l)
      go (inl q) (no l) = (node-fit D F x).frame-not-outside (omega arith) (b.1 ∙ q)
      go (inr n) (yes l) =
          let i = parallel-below D.constructs p n in
          not-both (lower parent size (parents D F) (at-number l) (suc p) (omega arith) (inr (omega arith))) (counts-higher D p F m (inner n)) (omega arith)
      go (inr n) (no l) =
          let i = parallel-below D.constructs p n in
          not-both (lower parent size (parents D F) (at-parent (omega arith)) p (omega arith) (parents D F p i)) (counts-higher D p F m (inner n)) (omega arith)

  -- nesting, within the region
  nested-near : {c k : ℕ} → Counts D p c → Counts D p k → Encloses parent (parent c) k → Near parent shut (parent c) k
  nested-near {c} {k} m n e =
      let l = m.0 in
      nearby parent shut size (parents D F) e (below_more (omega arith) (parents D F c l)) (counts-open D p k n.1) (counts-home D p c m.1 ∙ sym (counts-home D p k n.1))

  -- the parent of a construct of the region, if it has a kind and is no parallel, is one too; and so is what stands directly in one
  parent-counts : (c : ℕ) → Counts D p c → 1 ≤ byte (parent c) → byte (parent c) < parallel_byte → Counts D p (parent c)
  parent-counts c m some less =
      let l = kind-below D.constructs (parent c) some in
      let s = not-shut (parent c) (λ q. under q) in
      (l, home-counts D p (parent c) s (sym (region-up parent shut size (parents D F) (parent c) l (past l) s) ∙ counts-home D p c m.1))
    where
      under : byte (parent c) ≡ parallel_byte → ⊥
      under q = omega arith

  child-counts : {k c : ℕ} → k < size → shut k ≡ false → parent k ≡ c → Counts D p c → Counts D p k
  child-counts {k} {c} l s q m =
      (l, home-counts D p k s (ap home q ∙ region-up parent shut size (parents D F) c m.0 (past m.0) (counts-open D p c m.1) ∙ counts-home D p c m.1))

  -- what stands directly in a sections is a section
  directly-stands : {k c : ℕ} → k < size → parent k ≡ c → Counts D p c → kind_of (byte c) ≡ sections
      → Counts D p k × (byte k ≡ section_byte)
  directly-stands {k} {c} l q m s =
      let j = (F.constructs.nested k l).placed.is-section (ap byte q ∙ sections-byte (byte c) s) in
      (child-counts l (not-shut k (λ z. differ (sym j ∙ z))) q m, j)
    where
      differ : ◌≡◌ {A = ℕ} section_byte parallel_byte → ⊥
      differ z = omega arith

  -- what lies directly in a sections is a begin or an end
  no_plain : (x c : ℕ) → number x ≡ c → Counts D p c → kind_of (byte c) ≡ sections → kind x < begin_node → ⊥
  no_plain x c q m s l = elim (dec_lt x (length D.nodes)) [
    | yes h ↦ F.constructs.bare x h l (ap byte q ∙ sections-byte (byte c) s)
    | no h ↦ past m.0 (sym q ∙ ap (λ (n : Node). n.number) (no-node D x (omega arith)))
  ]

  which-frame : (x : ℕ) → begin_node ≤ kind x → (f : Frame) × (kind x ≡ byte_of f)
  which-frame x l = go (ℕ_discrete (kind x) begin_node) (node-fit D F x).known
    where
      go : Dec (kind x ≡ begin_node) → kind x ≤ end_node → (f : Frame) × (kind x ≡ byte_of f)
      go (yes q) h = (begin, q)
      go (no n) h = (end, omega arith)

  directly-lies : (x c : ℕ) → lies D x ≡ c → Counts D p c → kind_of (byte c) ≡ sections
      → (f : Frame) × (s : ℕ) × ((region_of p D).role x ≡ marks f s) × (kind_of (byte s) ≡ section)
  unfolding lies_at
  directly-lies x c q m k = go (dec_lt (kind x) begin_node)
    where
      go : Dec (kind x < begin_node) → (f : Frame) × (s : ℕ) × ((region_of p D).role x ≡ marks f s) × (kind_of (byte s) ≡ section)
      go (yes l) = absurd (no_plain x c (sym (lies-number (number x) (parent (number x)) l) ∙ q) m k l)
      go (no l) =
          let b : begin_node ≤ kind x = omega arith in
          let (f, w) = which-frame x b in
          let d = directly-stands (frame-construct (node-fit D F x) b) (sym (lies-parent (number x) (parent (number x)) b) ∙ q) m k in
          (f, number x, at-marks f x (number x) (w, refl) d.0, byte-section d.1)

  -- from a section's end an edge leads to the end of its sections alone
  out-of-section : (x y s : ℕ) → (region_of p D).edge x y ≡ true → (region_of p D).role x ≡ closes s → kind_of (byte s) ≡ section
      → (region_of p D).role y ≡ closes (parent s)
  unfolding scope_at lies_at
  out-of-section x y s e w k = go (dec_lt (kind y) begin_node) (ℕ_discrete (kind y) end_node)
    where
      h : FrameAt D.nodes end_node s x × Counts D p s
      h = marks-at D p F end x s w

      above : byte (parent s) ≡ sections_byte
      above = sections-above D F s h.1.0 k

      m : Counts D p (parent s)
      m = parent-counts s h.1 (omega (arith, above)) (omega (arith, above))

      arrives : scope end_node (kind y) (number y) (parent (number y)) ≡ parent s
      arrives = sym (edge-at D F x y (edge_in_lem D p x y e)).scopes ∙ leaving-end D F x s h.0

      go : Dec (kind y < begin_node) → Dec (kind y ≡ end_node) → (region_of p D).role y ≡ closes (parent s)
      go a (yes q) = at-marks end y (parent s) (q, sym (scope-own (number y) (parent (number y)) q) ∙ arrives) m
      go (yes l) (no n) =
          absurd (no_plain y (parent s) (sym (lies-number (number y) (parent (number y)) l) ∙ sym (scope-other (number y) (parent (number y)) n) ∙ arrives) m (byte-sections above) l)
      go (no l) (no n) =
          let b : begin_node ≤ kind y = omega arith in
          let up = (node-fit D F y).known in
          let q : kind y ≡ begin_node = omega arith in
          let d = directly-stands (frame-construct (node-fit D F y) b)
          (sym (lies-parent (number y) (parent (number y)) b) ∙ sym (scope-other (number y) (parent (number y)) n) ∙ arrives) m (byte-sections above) in
          absurd (edge-apart D F x y (edge_in_lem D p x y e)
          (h.0.0, ap byte h.0.1 ∙ section-byte (byte s) k) (q, d.1))

  no-parallels : (c : ℕ) → Counts D p c → kind_of (byte c) ≡ parallel → ⊥
  no-parallels c m k = clash (byte-shut c (parallel-byte (byte c) k)) (counts-open D p c m.1)

  -- start and finish
  own-frame : (f : Frame) → shut p ≡ true → FrameAt D.nodes (byte_of f) p (frame_of D.nodes (byte_of f) p)
  own-frame f n = frame_found D F f p (parallel-below D.constructs p n)

  own-barrier : (f : Frame) → shut p ≡ true → (region_of p D).role (frame_of D.nodes (byte_of f) p) ≡ barrier
  own-barrier f n = let h = own-frame f n in frame-barrier p (counts_in D.constructs p) f h.0 h.1

  role_start : (region_of p D).role (region_of p D).start ≡ barrier
  role_start = elim N [
    | inl q ↦ ap (region_of p D).role (start-outer D p q) ∙ barrier-role p (counts_in D.constructs p) F.barriers.start (outer_start D F ∙ sym q)
    | inr n ↦ ap (region_of p D).role (start-inner D p (inner n)) ∙ own-barrier begin n
  ]

  role-finish : (region_of p D).role (region_of p D).finish ≡ barrier
  role-finish = elim N [
    | inl q ↦ ap (region_of p D).role (finish-outer D p q) ∙ barrier-role p (counts_in D.constructs p) F.barriers.finish (outer-finish D F ∙ sym q)
    | inr n ↦ ap (region_of p D).role (finish-inner D p (inner n)) ∙ own-barrier end n
  ]

  into-start : (x y : ℕ) → y ≡ (region_of p D).start → (region_of p D).edge x y ≡ true → ⊥
  into-start x y z e = elim N [
    | inl q ↦ (edge-at D F x y (edge_in_lem D p x y e)).not-into-start (z ∙ start-outer D p q)
    | inr n ↦ (let h = subst (FrameAt D.nodes begin_node p) (sym (z ∙ start-inner D p (inner n))) (own-frame begin n) in
        irreflexive parent size (parents D F) (parallel-below D.constructs p n) (subst (λ (q : ℕ). Encloses parent q p) ((edge-at D F x y (edge_in_lem D p x y e)).scopes ∙ arriving-begin D F y p h)
        (within-encloses D p (scoped D begin x) (inner n) (edge-within D p x y e))))
  ]

  out-of-finish : (x y : ℕ) → x ≡ (region_of p D).finish → (region_of p D).edge x y ≡ true → ⊥
  out-of-finish x y z e = elim N [
    | inl q ↦ (edge-at D F x y (edge_in_lem D p x y e)).not-out-of-finish (z ∙ finish-outer D p q)
    | inr n ↦ (let h = subst (FrameAt D.nodes end_node p) (sym (z ∙ finish-inner D p (inner n))) (own-frame end n) in
        irreflexive parent size (parents D F) (parallel-below D.constructs p n) (subst (λ (q : ℕ). Encloses parent q p) (leaving-end D F x p h)
        (within-encloses D p (scoped D begin x) (inner n) (edge-within D p x y e))))
  ]

  kept_here : (x : ℕ) → (region_of p D).kept x ≡ true → x < length D.nodes
  unfolding kept_in
  kept_here x h = ltb-true x (length D.nodes) (and_both (ltb x (length D.nodes)) _ h).0

  scope-marks : (f : Frame) (x : ℕ) {c : ℕ} → Encloses parent (scoped D f x) c → Counts D p c → Encloses parent (lies D x) c ⊎ ((region_of p D).role x ≡ marks f c)
  scope-marks f x {c} e m = elim (scope-frame D F f x e) [ inl a ↦ inl a | inr h ↦ inr (at-marks f x c h m) ]

  pub reads : Reads (region_of p D) (Counts D p) (lies D) (scoped D)
  reads = record {
    counts-below = λ m. m.0;
    counts-not-outside = λ m. past m.0;
    kept-below = λ {x} h. kept_here x h;
    barrier-below = λ {x} w. let b = (barrier-at D p x w).0 in in-chart D x (omega arith);
    from-kept = λ {x} {y} e. from-kept D p F x y e;
    to-kept = λ {x} {y} e. to-kept D p F x y e;
    marks-below = λ f {x} c w. frame_here D F f x c (marks-at D p F f x c w).0;
    marks-counts = λ f {x} c w. (marks-at D p F f x c w).1;
    marks-only = λ f {x} c w. frame-only D F f x c (marks-at D p F f x c w).0 ∙ sym (frame-in f c);
    marks-lies = λ f {x} c w. frame-lies D F f x c (marks-at D p F f x c w).0;
    framed = framed;
    inside-counts = λ {x} {c} i. in-counts D p F x c i;
    inside-enclosed = λ {x} {c} i. enclosed D F x c (in_both D p x c i).0;
    enclosed-inside = λ {x} e m. both-and _ _ (encloses-inside D F x e) m.1;
    barrier-bare = λ {x} {c} w e m. bare x c w e m;
    lies-scope = lies-scope D F;
    marks-scope = λ f {x} c w. frame-scope D F f x c (marks-at D p F f x c w).0;
    scope-cases = scope-marks;
    scopes-agree = λ {x} {y} e. (edge-at D F x y (edge_in_lem D p x y e)).scopes;
    not-in-itself = λ m e. irreflexive parent size (parents D F) m.0 e;
    nested = λ {c} m n e. ((F.constructs.nested c m.0).below (nested-near m n e)).kinds;
    ordered-counts = λ {c} m k. let q = loop-above D F c m.0 k in parent-counts c m (omega arith) (omega arith);
    ordered-loop = λ {c} m k. loop-byte (loop-above D F c m.0 k);
    section-counts = λ {c} m k. let q = sections-above D F c m.0 k in parent-counts c m (omega arith) (omega arith);
    section-sections = λ {c} m k. byte-sections (sections-above D F c m.0 k);
    directly-in = λ {x} {c} q m k. directly-lies x c q m k;
    directly-below = λ {k} l q m s. let d = directly-stands l q m s in (d.0, byte-section d.1);
    section-out = λ {x} {y} {s} e w k. out-of-section x y s e w k;
    enclosed-below = λ {x} e. lower parent size (parents D F) e size (omega arith) (lies-below D F x);
    no-parallel = λ {c} m k. no-parallels c m k;
    start-barrier = role_start;
    finish-barrier = role-finish;
    start_first = λ {x} e. into-start x _ refl e;
    finish-last = λ {y} e. out-of-finish _ y refl e;
  }
