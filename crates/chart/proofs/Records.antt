-- Where the records of a laid-out chart stand in its bytes.
-- Assumes nothing.
use mathlib.Core.Path.{◌≡◌, refl, ap, sym, ◌∙◌, subst}
use mathlib.Core.Logic.{◌≢◌}
use mathlib.Core.Bool.{Bool, true, false, cond}
use mathlib.Core.List.{List}
use Prim.Native.Nat.{ℕ, zero, suc, ◌+◌, ◌*◌, ◌-◌, ◌≤◌, ◌<◌}
use native.Mathlib.Omega.{arith}
use native.Mathlib.Decide.{dec_lt}
use native.Mathlib.Nat.{mul-suc}
use lib.Dec.{eqb}
use lib.ListN.{length, get_or, drop, get_or-eq_default}
use lib.Seq.{get_or-drop, drop-drop}
use borrow.Author.Tests.{ne_eqb}
use Rattle.chart.specs.Format.{field, Node, Edge, Construct, node_of, edge_of, construct_of, construct_width, construct_bytes, records, last_trailer, decode, no_node, no_edge, no_construct, node_at, edge_at, construct_at}
use Rattle.chart.specs.Checked.{Laid}
use Rattle.chart.specs.declared.format.Chart.{Chart}

pub length-records : {A : Type 0} (read : List ℕ → A) (width n : ℕ) (s : List ℕ) → length (records read width n s) ≡ n
unfolding records
length-records read width zero s = refl
length-records read width (suc n) s = ap suc (length-records read width n (drop width s))

-- record i is read i widths on
pub record-at : {A : Type 0} (read : List ℕ → A) (width n : ℕ) (s : List ℕ) (i : ℕ) (d : A) → i < n → get_or (records read width n s) i d ≡ read (drop (width * i) s)
unfolding records
record-at read width zero s i d l = absurd (none l)
  where
    none : i < 0 → ⊥
    none l = omega arith
record-at read width (suc n) s zero d l = let q : width * 0 ≡ 0 = omega arith in ap (λ (k : ℕ). read (drop k s)) (sym q)
record-at read width (suc n) s (suc i) d l =
    let q : width + width * i ≡ width * suc i = omega (arith, mul-suc width i) in
    record-at read width n (drop width s) i d (omega arith) ∙ ap read (drop-drop (width * i) width s ∙ ap (λ (k : ℕ). drop k s) q)

-- the same with the place where the records begin
record-from : {A : Type 0} (read : List ℕ → A) (width n base : ℕ) (s : List ℕ) (i at : ℕ) (d : A) → i < n → at ≡ base + width * i
    → get_or (records read width n (drop base s)) i d ≡ read (drop at s)
record-from read width n base s i at d l e = record-at read width n (drop base s) i d l ∙ ap read (drop-drop (width * i) base s ∙ ap (λ (k : ℕ). drop k s) (sym e))

field-drop : (s : List ℕ) (at k : ℕ) → field (drop at s) k ≡ field s (at + k)
unfolding field
field-drop s at k = let q : at + (k + 1) ≡ at + k + 1 = omega arith in rw (get_or-drop at s k 0, get_or-drop at s (k + 1) 0, q)

-- Records of one width stand one after the other.
pub bytes-width : (edition c : ℕ) → construct_bytes edition c ≡ construct_width edition * c
unfolding construct_bytes construct_width
bytes-width edition c = go (eqb edition 2)
  where
    go : (b : Bool) → cond b (6 * c) (4 * c) ≡ cond b 6 4 * c
    go true = refl
    go false = refl

pub bytes-rise : (edition c k : ℕ) → c ≤ k → construct_bytes edition c ≤ construct_bytes edition k
unfolding construct_bytes
bytes-rise edition c k l = go (eqb edition 2)
  where
    go : (b : Bool) → cond b (6 * c) (4 * c) ≤ cond b (6 * k) (4 * k)
    go true = omega arith
    go false = omega arith

-- The fields of a record, by the place where the record stands.
module _ (s : List ℕ) (chart : Chart) (laid : Laid s chart) where
  pub node-fields : (x at : ℕ) → x < chart.nodes → at ≡ 4 * x
      → (get_or s (at + 0) 0 ≡ (node_at (decode s).nodes x).kind) × (get_or s (at + 1) 0 ≡ (node_at (decode s).nodes x).number)
  unfolding node_at decode node_of
  node-fields x at l e =
      let low = subst (λ (n : ℕ). x < n) laid.node-count l in
      let place : at ≡ 0 + 4 * x = omega arith in
      let here = record-from node_of 4 (last_trailer s).nodes 0 s x at no_node low place in
      (sym (ap (λ (n : Node). n.kind) here ∙ get_or-drop at s 0 0), sym (ap (λ (n : Node). n.number) here ∙ get_or-drop at s 1 0))

  pub edge-fields : (i at : ℕ) → i < chart.edges → at ≡ 4 * chart.nodes + 2 * i
      → (get_or s (at + 0) 0 ≡ (edge_at (decode s).edges i).from) × (get_or s (at + 1) 0 ≡ (edge_at (decode s).edges i).to)
  unfolding edge_at decode edge_of
  edge-fields i at l e =
      let low = subst (λ (n : ℕ). i < n) laid.edge_count l in
      let place = subst (λ (n : ℕ). at ≡ 4 * n + 2 * i) laid.node-count e in
      let here = record-from edge_of 2 (last_trailer s).edges (4 * (last_trailer s).nodes) s i at no_edge low place in
      (sym (ap (λ (n : Edge). n.from) here ∙ get_or-drop at s 0 0), sym (ap (λ (n : Edge). n.to) here ∙ get_or-drop at s 1 0))

  pub construct-fields : (c at : ℕ) → c < chart.constructs → at ≡ 4 * chart.nodes + 2 * chart.edges + construct_bytes chart.edition c
      → (get_or s (at + 0) 0 ≡ (construct_at (decode s).constructs c).kind) × (get_or s (at + 1) 0 ≡ (construct_at (decode s).constructs c).parent)
      × (field s (at + 2) ≡ (construct_at (decode s).constructs c).name)
      × (cond (eqb chart.edition 2) (field s (at + 4)) 0 ≡ (construct_at (decode s).constructs c).filter)
  unfolding construct_at decode construct_of
  construct-fields c at l e =
      let low = subst (λ (n : ℕ). c < n) laid.construct-count l in
      let t = last_trailer s in
      let place : at ≡ 4 * t.nodes + 2 * t.edges + construct_width t.edition * c = rw (← laid.node-count, ← laid.edge_count, ← laid.same-edition, ← bytes-width chart.edition c) e in
      let here = record-from (construct_of t.edition) (construct_width t.edition) t.constructs (4 * t.nodes + 2 * t.edges) s c at no_construct low place in (
        sym (ap (λ (n : Construct). n.kind) here ∙ get_or-drop at s 0 0),
        sym (ap (λ (n : Construct). n.parent) here ∙ get_or-drop at s 1 0),
        sym (ap (λ (n : Construct). n.name) here ∙ field-drop s at 2),
        sym (ap (λ (n : Construct). n.filter) here ∙ rw (field-drop s at 4, laid.same-edition) refl),
      )

  -- no record of a construct reaches past the end, a filter among its fields or not
  pub construct_room : (c at : ℕ) → c < chart.constructs → at ≡ 4 * chart.nodes + 2 * chart.edges + construct_bytes chart.edition c → at + 5 < length s
  construct_room c at l e = omega (arith, laid.whole, bytes-rise chart.edition c chart.constructs (omega arith))

  -- the tables have as many records as the counts say
  pub nodes-length : length (decode s).nodes ≡ chart.nodes
  unfolding decode
  nodes-length = length-records node_of 4 (last_trailer s).nodes s ∙ sym laid.node-count

  pub edges-length : length (decode s).edges ≡ chart.edges
  unfolding decode
  edges-length = length-records edge_of 2 (last_trailer s).edges (drop (4 * (last_trailer s).nodes) s) ∙ sym laid.edge_count

  pub constructs-length : length (decode s).constructs ≡ chart.constructs
  unfolding decode
  constructs-length =
      let t = last_trailer s in
      length-records (construct_of t.edition) (construct_width t.edition) t.constructs (drop (4 * t.nodes + 2 * t.edges) s)
      ∙ sym laid.construct-count

-- without filters in the records every filter is 0
pub no-filter : (s : List ℕ) → (decode s).trailer.edition ≢ 2 → (c : ℕ) → (construct_at (decode s).constructs c).filter ≡ 0
unfolding construct_at decode construct_of
no-filter s n c =
    let t = last_trailer s in
    let read = construct_of t.edition in
    let rest = drop (4 * t.nodes + 2 * t.edges) s in
    elim (dec_lt c t.constructs) [
      | yes l ↦ ap (λ (k : Construct). k.filter) (record-at read (construct_width t.edition) t.constructs rest c no_construct l) ∙ rw (ne_eqb t.edition 2 n)
      | no l ↦ ap (λ (k : Construct). k.filter)
          (get_or-eq_default (records read (construct_width t.edition) t.constructs rest) no_construct
          (omega (arith, length-records read (construct_width t.edition) t.constructs rest)))
    ]

-- a field of the trailer, by its place
pub trailer-field : (s : List ℕ) (at k : ℕ) → at ≡ length s - 16 → field s (at + k) ≡ field (drop (length s - 16) s) k
trailer-field s at k e = ap (λ (n : ℕ). field s (n + k)) e ∙ sym (field-drop s (length s - 16) k)
