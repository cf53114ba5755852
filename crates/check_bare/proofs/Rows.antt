-- What is bad of an edge after another, and rows 5 and 9 of a chart without constructs, by what the records tell.
-- Assumes nothing.
use mathlib.Core.Path.{◌≡◌, refl, sym, ap, ◌∙◌}
use mathlib.Core.Logic.{◌⊎◌, inl, inr, ◌≢◌}
use mathlib.Core.Bool.{Bool, true, false, ◌||◌, cond}
use Prim.Native.Nat.{ℕ, zero, suc, ◌+◌, ◌-◌, ◌≤◌, ◌<◌}
use native.Mathlib.Omega.{arith}
use native.Mathlib.Decide.{ℕ_discrete, dec_lt}
use lib.Dec.{eqb, ltb, leb}
use lib.ListN.{length}
use borrow.Author.Tests.{leb-false, lt-leb, ltb-false, le-ltb, lt-ltb, eqb-false, eq-eqb, ne_eqb, not-false}
use Rattle.lists.specs.Truth.{clash, truth, true-not, or-neither, neither-or, not_eqb, eq-not-eqb}
use Rattle.lists.specs.Range.{any, any_none, none_passes}
use Rattle.chart.specs.Format.{outside, Edge, Decoded, node_at, edge_at}
use Rattle.chart.specs.Scope.{begin_node, end_node, scope, scope_at, lies_in}
use Rattle.chart.specs.Refusal.{bad_nodes, bad_edges}
use Rattle.chart.proofs.Constructs.{no-construct}
use Rattle.chart.proofs.Facts.{NodesFit, nodes-fit, fit-nodes, FramesSection, EdgeFits, Rises, rise-fits, fit-rise, EdgesFit, edges_fit, fit_edges}
use Rattle.check_bare.specs.Told.{full, node_told, edge_told, bad_next}

-- a row that fails exactly where its test does
same_false : (a b : Bool) → (a ≡ false → b ≡ false) → (b ≡ false → a ≡ false) → a ≡ b
same_false true b f g = elim (truth b) [ inl h ↦ sym h | inr h ↦ absurd (clash refl (g h)) ]
same_false false b f g = sym (f refl)

not_full : (b : Bool) → full b < 255 → b ≡ false
not_full true l = absurd (omega arith)
not_full false l = refl

none-full : (b : Bool) → b ≡ false → full b ≡ 0
none-full b h = ap full h

-- Row 5.
told-node : (kind number : ℕ) → node_told kind number < 2 → (kind < 2) × (number ≡ outside)
told-node kind number l = (omega arith, not_eqb number outside (not_full _ (omega arith)))

node-told : (kind number : ℕ) → kind < 2 → number ≡ outside → node_told kind number < 2
node-told kind number l q = omega (arith, none-full _ (eq-not-eqb number outside q))

-- Row 9, of an edge that follows another.
abbrev After : ℕ → ℕ → ℕ → ℕ → Type 0
After a b from to = (a < from) ⊎ ((a ≡ from) × (b < to))

module _ (n a b from to : ℕ) (some : 1 ≤ n) (most : n ≤ 255) where
  told-edge : edge_told a b from to < n → (to < n) × (to ≢ 0) × After a b from to
  told-edge l =
      let start = not_full (eqb to 0) (omega arith) in
      let low = ltb-false from a (not_full (ltb from a) (omega arith)) in
      (omega arith, eqb-false to 0 start, after low (ℕ_discrete a from))
    where
      after : a ≤ from → Dec (a ≡ from) → After a b from to
      after low (yes q) =
          let z : full (eqb a from) ≡ 255 = ap full (eq-eqb a from q) in
          inr (q, leb-false to b (not_full (leb to b) (omega arith)))
      after low (no q) = inl (omega arith)

  edge-told : to < n → to ≢ 0 → After a b from to → edge_told a b from to < n
  edge-told l start r =
      let z = none-full (eqb to 0) (ne_eqb to 0 start) in
      elim r [
        | inl m ↦ omega (arith, none-full (ltb from a) (le-ltb from a (omega arith)), none-full (eqb a from) (ne_eqb a from (λ q. omega arith)))
        | inr (q, m) ↦ omega (arith, none-full (ltb from a) (le-ltb from a (omega arith)), none-full (leb to b) (lt-leb to b m))
      ]

module _ (D : Decoded) (i : ℕ) where
  abbrev before : Edge
  before = edge_at D.edges i

  abbrev next : Edge
  next = edge_at D.edges (suc i)

  next_fits : bad_next D i ≡ false → (next.to < length D.nodes) × (next.to ≢ 0) × Rises before next
  unfolding bad_next
  next_fits h =
      let a = or-neither (leb (length D.nodes) next.to) _ h in
      let b = or-neither (eqb next.to 0) _ a.1 in
      (leb-false _ _ a.0, eqb-false _ _ b.0, rise-fits before next (not-false _ b.1))

  fit_next : next.to < length D.nodes → next.to ≢ 0 → Rises before next → bad_next D i ≡ false
  unfolding bad_next
  fit_next l start r =
      neither-or _ _ (lt-leb (length D.nodes) next.to l) (neither-or _ _ (ne_eqb next.to 0 start) (true-not _ (fit-rise before next r)))

  pub told-next : 1 ≤ length D.nodes → length D.nodes ≤ 255
      → leb (length D.nodes) (edge_told before.from before.to next.from next.to) ≡ bad_next D i
  told-next some most = same_false _ _ down up
    where
      down : leb (length D.nodes) (edge_told before.from before.to next.from next.to) ≡ false → bad_next D i ≡ false
      down h =
          let (l, start, r) = told-edge _ before.from before.to next.from next.to some most (leb-false _ _ h) in
          fit_next l start r

      up : bad_next D i ≡ false → leb (length D.nodes) (edge_told before.from before.to next.from next.to) ≡ false
      up h =
          let (l, start, r) = next_fits h in
          lt-leb _ _ (edge-told _ before.from before.to next.from next.to some most l start r)

module _ (D : Decoded) (bare : length D.constructs ≡ 0) where
  -- what row 5 leaves of a node
  bare-node : NodesFit D → (x : ℕ) → x < length D.nodes → ((node_at D.nodes x).kind < 2) × ((node_at D.nodes x).number ≡ outside)
  bare-node F x l =
      let fits = F.alone x l in
      let q : (node_at D.nodes x).number ≡ outside = elim fits.number-below [ inl q ↦ q | inr m ↦ absurd (omega arith) ] in
      (elim (dec_lt (node_at D.nodes x).kind 2) [ yes m ↦ m | no m ↦ absurd (fits.frame-not-outside (omega arith) q) ], q)

  pub nodes-row : any (length D.nodes) (λ x. leb 2 (node_told (node_at D.nodes x).kind (node_at D.nodes x).number)) ≡ bad_nodes D
  nodes-row = same_false _ _ down up
    where
      told : ℕ → ℕ
      told x = node_told (node_at D.nodes x).kind (node_at D.nodes x).number

      down : any (length D.nodes) (λ x. leb 2 (told x)) ≡ false → bad_nodes D ≡ false
      down h = fit-nodes D (record {
        alone = λ x l. record {
          known = omega (arith, (fits x l).0);
          number-below = inl (fits x l).1;
          barrier-names = λ k. inl (fits x l).1;
          frame-not-outside = λ k q. omega (arith, (fits x l).0);
        };
        outer = λ x l o k. (fits x l).1;
      })
        where
          fits : (x : ℕ) → x < length D.nodes → ((node_at D.nodes x).kind < 2) × ((node_at D.nodes x).number ≡ outside)
          fits x l = told-node (node_at D.nodes x).kind (node_at D.nodes x).number (leb-false 2 (told x) (none_passes (length D.nodes) (λ x. leb 2 (told x)) h x l))

      up : bad_nodes D ≡ false → any (length D.nodes) (λ x. leb 2 (told x)) ≡ false
      up h = any_none (length D.nodes) (λ x. leb 2 (told x)) (λ x l.
          let (kind, number) = bare-node (nodes-fit D h) x l in
          lt-leb 2 (told x) (node-told (node_at D.nodes x).kind (node_at D.nodes x).number kind number))

  all-outside : NodesFit D → (own x : ℕ) → x < length D.nodes → scope_at own D.nodes D.constructs x ≡ outside
  unfolding scope_at scope lies_in
  all-outside F own x l =
      let (kind, number) = bare-node F x l in
      rw (lt-ltb (node_at D.nodes x).kind begin_node kind) (either (eqb (node_at D.nodes x).kind own) ∙ number)
    where
      either : (b : Bool) → cond b (node_at D.nodes x).number (node_at D.nodes x).number ≡ (node_at D.nodes x).number
      either true = refl
      either false = refl

  no-section : (kind x : ℕ) → FramesSection D kind x → ⊥
  no-section kind x f = omega (arith, no-construct D.constructs (node_at D.nodes x).number (omega arith), f.1)

  -- as the edges rise, what they leave does too
  climbs : ((i : ℕ) → suc i < length D.edges → Rises (edge_at D.edges i) (edge_at D.edges (suc i)))
      → (i d : ℕ) → i + d < length D.edges → (edge_at D.edges i).from ≤ (edge_at D.edges (i + d)).from
  climbs r i zero l = let q : i + 0 ≡ i = omega arith in rw q (omega arith)
  climbs r i (suc d) l =
      let q : i + suc d ≡ suc (i + d) = omega arith in
      let low = climbs r i d (omega arith) in
      rw q (elim (r (i + d) (omega arith)) [ inl m ↦ omega arith | inr (z, m) ↦ omega arith ])

  module _ (some : 1 ≤ length D.edges) (passed : bad_nodes D ≡ false) where
    abbrev n : ℕ
    n = length D.nodes

    abbrev from : ℕ → ℕ
    from i = (edge_at D.edges i).from

    abbrev to : ℕ → ℕ
    to i = (edge_at D.edges i).to

    abbrev last : ℕ
    last = length D.edges - 1

    abbrev test : Bool
    test = eqb (to 0) 0 || (leb n (to 0) || (leb n (from last + 1) || any last (bad_next D)))

    straight : to 0 ≢ 0 → to 0 < n → from last + 1 < n
        → ((i : ℕ) → suc i < length D.edges → (to (suc i) < n) × (to (suc i) ≢ 0) × After (from i) (to i) (from (suc i)) (to (suc i))) → EdgesFit D
    straight start low finish next = record {
      alone = λ i l. alone i (comes i l) (leaves i l);
      apart = λ i l a b. no-section end_node (from i) a;
      rising = λ i l. (next i l).2;
    }
      where
        comes : (i : ℕ) → i < length D.edges → (to i < n) × (to i ≢ 0)
        comes zero l = (low, start)
        comes (suc i) l = ((next i l).0, (next i l).1)

        leaves : (i : ℕ) → i < length D.edges → from i + 1 < n
        leaves i l =
            let q : i + (last - i) ≡ last = omega arith in
            omega (arith, rw q at (climbs (λ i l. (next i l).2) i (last - i) (omega arith)))

        alone : (i : ℕ) → (to i < n) × (to i ≢ 0) → from i + 1 < n → EdgeFits D.nodes D.constructs (from i) (to i)
        alone i (t, z) f = record {
          from-below = omega arith;
          to_below = t;
          not-into-start = z;
          not-out-of-finish = λ q. omega arith;
          scopes = all-outside (nodes-fit D passed) begin_node (from i) (omega arith) ∙ sym (all-outside (nodes-fit D passed) end_node (to i) t);
        }

    pub edges-row : test ≡ bad_edges D
    edges-row = same_false test (bad_edges D) down up
      where
        down : test ≡ false → bad_edges D ≡ false
        down h =
            let a = or-neither (eqb (to 0) 0) _ h in
            let b = or-neither (leb n (to 0)) _ a.1 in
            let d = or-neither (leb n (from last + 1)) _ b.1 in
            let low = leb-false n (to 0) b.0 in
            fit_edges D (straight (eqb-false (to 0) 0 a.0) low (leb-false n (from last + 1) d.0)
            (λ i l. next_fits D i (none_passes last (bad_next D) d.1 i (omega arith))))

        up : bad_edges D ≡ false → test ≡ false
        up h =
            let F = edges_fit D h in
            let head = F.alone 0 (omega arith) in
            let tail = F.alone last (omega arith) in
            neither-or _ _ (ne_eqb (to 0) 0 head.not-into-start) (neither-or _ _ (lt-leb n (to 0) head.to_below)
            (neither-or _ _ (lt-leb n (from last + 1) (omega (arith, tail.from-below, tail.not-out-of-finish))) (any_none last (bad_next D) (λ i l.
            let after = F.alone (suc i) (omega arith) in
            fit_next D i after.to_below after.not-into-start (F.rising i (omega arith))))))
