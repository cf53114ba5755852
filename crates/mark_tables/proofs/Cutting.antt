-- A chart cut to the region of a parallel: which constructs lie in it, by their parents; which nodes are of it and whose edges are its own,
-- by their numbers.
-- Assumes nothing.
use mathlib.Core.Path.{◌≡◌, refl, ap, ◌∙◌}
use mathlib.Core.Logic.{inl, inr, ◌≢◌}
use mathlib.Core.Bool.{Bool, true, false, ◌&&◌, ◌||◌, cond}
use mathlib.Core.List.{List}
use Prim.Native.Nat.{ℕ, ◌≤◌, ◌<◌}
use native.Mathlib.Omega.{arith}
use native.Mathlib.Decide.{ℕ_discrete, dec_lt}
use lib.Dec.{eqb, leb, ltb}
use lib.ListN.{length, get_or}
use borrow.Author.Tests.{eq-eqb, ne_eqb, lt-ltb}
use Rattle.lists.specs.Truth.{false-if, and_both, or_cases, or_right, same_truth}
use Rattle.lists.specs.Store.{Written}
use Rattle.chart.specs.Format.{outside, Node, Decoded, no_node, decode, node_at}
use Rattle.chart.specs.Scope.{begin_node, end_node, parent_of, lies_at, scope_at, leaving_at}
use Rattle.chart.specs.Nested.{lies_within, kept_in}
use Rattle.chart.specs.Checked.{reading}
use Rattle.chart.specs.declared.format.Chart.{Chart}
use Rattle.chart.proofs.Facts.{TablesFit, frame-construct}
use Rattle.chart.proofs.Tree.{Below, outside-encloses, irreflexive}
use Rattle.chart.proofs.Reading.{Frame, begin, end}
use Rattle.chart.proofs.Scopes.{byte_of, lies-number, lies-parent, scope-own, scope-other}
use Rattle.chart.proofs.Tables.{scoped, no-node, node-fit, parents, frame_below, frame-scope, leaving-end}
use Rattle.chart.proofs.RegionFacts.{within-encloses, kept-scope}
use Rattle.chart.proofs.Kept.{within_step}
use Rattle.theory_paths.specs.Decide.{no_barrier}
use Rattle.theory_answers.specs.Numbers.{asked}
use Rattle.mark_tables.proofs.Accepted.{tables, few-constructs}
use Rattle.mark_tables.proofs.Loading.{stop-byte}
use Rattle.mark_tables.specs.Tables.{Accepted, Within, Stops, Closed}

abbrev pub flag_of : Bool → ℕ
flag_of b = cond b 1 0

-- nothing lies outside the outermost region
pub stop-closed : (s : List ℕ) (chart : Chart) (x : ℕ) → chart.region ≡ outside → x < length (decode s).nodes
    → asked (reading s chart) x ≡ no_barrier ((reading s chart).role x)
unfolding asked kept_in lies_within
stop-closed s chart x q l = rw (lt-ltb x (length (decode s).nodes) l, eq-eqb chart.region outside q)

pub stops-closed : (s : List ℕ) (chart : Chart) (stops : List ℕ) → chart.region ≡ outside → Stops (reading s chart) stops → Closed (reading s chart) stops
stops-closed s chart stops q S = record { at = λ x l. rw (stop-closed s chart x q l) (S.at x) }

module _ (s : List ℕ) (chart : Chart) (A : Accepted s chart) (inner : chart.region ≢ outside) where
  abbrev D : Decoded
  D = decode s

  abbrev p : ℕ
  p = chart.region

  abbrev F : TablesFit (decode s)
  F = tables s chart A

  abbrev size : ℕ
  size = length D.constructs

  abbrev parent : ℕ → ℕ
  parent = parent_of D.constructs

  abbrev kind : ℕ → ℕ
  kind x = (node_at D.nodes x).kind

  abbrev number : ℕ → ℕ
  number x = (node_at D.nodes x).number

  abbrev lies : ℕ → Bool
  lies q = lies_within D.constructs p q

  step : (c : ℕ) → c < size → lies c ≡ (eqb c p || lies (parent c))
  step = within_step D F p (few-constructs s chart A) inner

  none-outside : lies outside ≡ false
  none-outside = false-if (λ h. outside-encloses refl (within-encloses D p outside inner h))

  -- the parent of the region's own parallel does not lie in it
  parent-outside : p < size → lies (parent p) ≡ false
  parent-outside l = false-if (λ h. irreflexive parent size (parents D F) l (within-encloses D p (parent p) inner h))

  -- the flag of a place, once those of the constructs below c stand
  flag-below : {c : ℕ} {flags : List ℕ} → c ≤ outside → Written (λ q. flag_of (lies q)) c flags → (q : ℕ) → Below c q → get_or flags q 0 ≡ flag_of (lies q)
  flag-below l w q (inl z) = w.past q (omega arith) ∙ rw (z, none-outside) refl
  flag-below l w q (inr m) = w.at q m

  pub within-turn : (c above v : ℕ) (flags : List ℕ) → c < length (decode s).constructs → above ≡ parent_of (decode s).constructs c
      → v ≡ cond (eqb c chart.region) 1 (get_or flags above 0) → Written (λ q. flag_of (lies_within (decode s).constructs chart.region q)) c flags
      → v ≡ flag_of (lies_within (decode s).constructs chart.region c)
  within-turn c above v flags l a e w =
      e ∙ rw (a, flag-below (omega (arith, few-constructs s chart A)) w (parent c) (parents D F c l), step c l) (go (eqb c p))
    where
      go : (t : Bool) → cond t 1 (flag_of (lies (parent c))) ≡ flag_of (t || lies (parent c))
      go true = refl
      go false = refl

  -- a node: its number, or the parent of that construct, is its scope

  flag-number : {flags : List ℕ} → Within D p flags → (x : ℕ) → get_or flags (number x) 0 ≡ flag_of (lies (number x))
  flag-number w x = flag-below (few-constructs s chart A) w (number x) (node-fit D F x).number-below

  leaving-number : (x : ℕ) → kind x ≢ end_node → leaving_at D.nodes D.constructs x ≡ number x
  unfolding scope_at
  leaving-number x n = elim (ℕ_discrete (kind x) begin_node) [
    | yes k ↦ scope-own (number x) (parent (number x)) k
    | no m ↦ scope-other (number x) (parent (number x)) m ∙ lies-number (number x) (parent (number x)) (omega (arith, (node-fit D F x).known))
  ]

  pub leaving-turn : (x k n v : ℕ) (flags : List ℕ) → k ≡ (node_at (decode s).nodes x).kind → n ≡ (node_at (decode s).nodes x).number
      → Within (decode s) chart.region flags → v ≡ cond (eqb k 3 && eqb n chart.region) 0 (get_or flags n 0)
      → v ≡ flag_of (lies_within (decode s).constructs chart.region (leaving_at (decode s).nodes (decode s).constructs x))
  leaving-turn x k n v flags a b w e = e ∙ rw (a, b, flag-number w x) (go (ℕ_discrete (kind x) end_node) (ℕ_discrete (number x) p))
    where
      go : Dec (kind x ≡ end_node) → Dec (number x ≡ p)
          → cond (eqb (kind x) 3 && eqb (number x) p) 0 (flag_of (lies (number x))) ≡ flag_of (lies (leaving_at D.nodes D.constructs x))
      go (no m) d = rw (ne_eqb (kind x) 3 m, leaving-number x m) refl
      go (yes m) (yes q) =
          let l = frame_below D F end x (number x) (m, refl) in
          rw (eq-eqb (kind x) 3 m, eq-eqb (number x) p q, leaving-end D F x (number x) (m, refl), q, parent-outside (omega arith)) refl
      go (yes m) (no d) =
          rw (eq-eqb (kind x) 3 m, leaving-end D F x (number x) (m, refl), step (number x) (frame_below D F end x (number x) (m, refl)), ne_eqb (number x) p d) refl

  pub leaving-past : (x : ℕ) → length (decode s).nodes ≤ x
      → flag_of (lies_within (decode s).constructs chart.region (leaving_at (decode s).nodes (decode s).constructs x)) ≡ 0
  leaving-past x l =
      let q : node_at D.nodes x ≡ no_node = no-node D x l in
      let k : kind x ≡ 0 = ap (λ (n : Node). n.kind) q in
      rw (leaving-number x (λ m. omega arith), ap (λ (n : Node). n.number) q, none-outside) refl

  -- a node is one of the region where its number lies in it
  scope-lies : (f : Frame) (x : ℕ) → lies (scoped D f x) ≡ true → lies (number x) ≡ true
  unfolding scope_at lies_at
  scope-lies f x h = go (ℕ_discrete (kind x) (byte_of f)) (dec_lt (kind x) begin_node)
    where
      go : Dec (kind x ≡ byte_of f) → Dec (kind x < begin_node) → lies (number x) ≡ true
      go (yes k) d = rw (scope-own (number x) (parent (number x)) k) at h
      go (no n) (yes l) = rw (scope-other (number x) (parent (number x)) n, lies-number (number x) (parent (number x)) l) at h
      go (no n) (no l) =
          let m : begin_node ≤ kind x = omega arith in
          let up = rw (scope-other (number x) (parent (number x)) n, lies-parent (number x) (parent (number x)) m) at h in
          rw (step (number x) (frame-construct (node-fit D F x) (omega arith))) (or_right (eqb (number x) p) _ up)

  number-kept : (x : ℕ) → x < length D.nodes → (reading s chart).kept x ≡ lies (number x)
  unfolding kept_in
  number-kept x l = same_truth ((reading s chart).kept x) (lies (number x))
      (λ h. elim (or_cases (lies (scoped D begin x)) _ (and_both (ltb x (length D.nodes)) _ h).1) [ inl g ↦ scope-lies begin x g | inr g ↦ scope-lies end x g ])
      (λ h. elim (ℕ_discrete (kind x) end_node) [
        | yes k ↦ kept-scope D p end x l (rw (frame-scope D F end x (number x) (k, refl)) h)
        | no n ↦ kept-scope D p begin x l (rw (leaving-number x n) h)
      ])

  pub closed-turn : (x k n v : ℕ) (flags : List ℕ) → x < length (decode s).nodes → k ≡ (node_at (decode s).nodes x).kind → n ≡ (node_at (decode s).nodes x).number
      → Within (decode s) chart.region flags → v ≡ cond (eqb (get_or flags n 0) 0) 1 (cond (leb 1 k && eqb n chart.region) 1 0)
      → v ≡ cond (asked (reading s chart) x) 0 1
  unfolding asked
  closed-turn x k n v flags l a b w e =
      e ∙ rw (stop-byte s chart A x k n _ a b refl, b, flag-number w x, number-kept x l) (go (lies (number x)) (no_barrier ((reading s chart).role x)))
    where
      go : (t u : Bool) → ◌≡◌ {A = ℕ} (cond (eqb (flag_of t) 0) 1 (cond u 0 1)) (cond (t && u) 0 1)
      go true u = refl
      go false u = refl
