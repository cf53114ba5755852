-- Filling a table of scopes; two such tables, shut at start and finish, tell row 9 of one edge; and edges are ordered by one number.
-- Assumes nothing.
use mathlib.Core.Bool.{true, false, ◌||◌, ◌&&◌, not}
use mathlib.Core.Logic.{◌⊎◌, inl, inr, ◌≢◌}
use mathlib.Core.Path.{◌≡◌, refl, sym, ap, subst, ◌∙◌}
use mathlib.Core.List.{List}
use Prim.Native.Nat.{ℕ, ◌+◌, ◌*◌, ◌-◌, ◌≤◌, ◌<◌}
use native.Mathlib.Omega.{arith}
use native.Mathlib.Decide.{ℕ_discrete, dec_lt}
use lib.Dec.{ltb, eqb}
use lib.ListN.{length, get_or, set, replicate, length-set, get_or-replicate}
use lib.Seq.{get_or-set_same, get_or-set_other}
use borrow.Author.Count.{below_none}
use borrow.Author.Tests.{le-leb, lt-leb, lt-ltb, ltb-true, eq-eqb, ne_eqb, eqb-true}
use Rattle.lists.specs.Truth.{same_truth, and_both, both-and, or_cases, or_left, or_right}
use Rattle.lists.specs.Range.{at-any, first_passes}
use Rattle.chart.specs.Format.{Node, Decoded, node_at}
use Rattle.chart.specs.Scope.{begin_node, end_node, scope, scope_at, parent_of}
use Rattle.chart.specs.Reading.{frame_of}
use Rattle.chart.specs.Refusal.{bad_nodes, bad_edge, rises}
use Rattle.chart.proofs.Facts.{FrameAt, OneFrame, is_frame, frame_is, is-frame, nodes-fit, frame-construct}
use Rattle.chart.proofs.Reading.{Frame, begin, end}
use Rattle.chart.proofs.Tables.{in-chart}
use Rattle.chart.proofs.Scopes.{byte_of, frame_byte, lies-number, lies-parent, scope-own, scope-other}
use Rattle.check_edges.specs.Tables.{no_leaving, no_arriving, ScopesOf, FilledTo, ScopeTable, EdgeScopes}

-- what row 5 leaves of a begin or an end: its number is that of a construct
pub frame_below : (D : Decoded) (x : ℕ) → bad_nodes D ≡ false → x < length D.nodes → begin_node ≤ (node_at D.nodes x).kind → (node_at D.nodes x).number < length D.constructs
frame_below D x h l k = frame-construct ((nodes-fit D h).alone x l) k

-- the other of a begin and an end
abbrev pub other : Frame → Frame
other begin = end
other end = begin

other-apart : (f : Frame) → byte_of (other f) ≢ byte_of f
other-apart begin q = omega arith
other-apart end q = omega arith

other-left : (f : Frame) {kind : ℕ} → begin_node ≤ kind → kind ≤ end_node → kind ≢ byte_of f → kind ≡ byte_of (other f)
other-left begin a b n = omega arith
other-left end a b n = omega arith

-- a node that is none of the other kind has its number as its scope
pub number-scope : (f : Frame) (D : Decoded) (x : ℕ) → bad_nodes D ≡ false → x < length D.nodes → FilledTo D (byte_of (other f)) 0 x
    → (node_at D.nodes x).number ≡ scope_at (byte_of f) D.nodes D.constructs x
unfolding scope_at
number-scope f D x h l q =
    let k = node_at D.nodes x in
    sym (go k.kind k.number _ ((nodes-fit D h).alone x l).known q (ℕ_discrete k.kind (byte_of f)) (dec_lt k.kind begin_node))
  where
    go : (kind number parent : ℕ) → kind ≤ end_node → (kind ≡ byte_of (other f) → number < 0) → Dec (kind ≡ byte_of f) → Dec (kind < begin_node)
        → scope (byte_of f) kind number parent ≡ number
    go kind number parent m q (yes k) d = scope-own number parent k
    go kind number parent m q (no k) (yes d) = scope-other number parent k ∙ lies-number number parent d
    go kind number parent m q (no k) (no d) = absurd (below_none (λ _. ⊥) number (q (other-left f (omega arith) m k)))

-- one of the other kind has the parent of its construct
other-scope : (f : Frame) (D : Decoded) (x c : ℕ) → FrameAt D.nodes (byte_of (other f)) c x → scope_at (byte_of f) D.nodes D.constructs x ≡ parent_of D.constructs c
unfolding scope_at
other-scope f D x c h =
    scope-other _ _ (λ q. other-apart f (sym h.0 ∙ q)) ∙ lies-parent _ _ (subst (λ (kind : ℕ). begin_node ≤ kind) (sym h.0) (frame_byte (other f)))
    ∙ ap (parent_of D.constructs) h.1

pub scopes-none : (P : ℕ → Type 0) (own none : ℕ) (D : Decoded) → ScopesOf P own none D 0 (replicate 256 none)
scopes-none P own none D = record { long = refl; at = below_none _; byte = below_none _; past = λ x h m. get_or-replicate 256 x none 0 m }

-- a store at x, the only node that may be new
stored : {P Q : ℕ → Type 0} {own none : ℕ} {D : Decoded} {n m x v : ℕ} {table : List ℕ} → x < 256 → x < m → n ≤ m → ((y : ℕ) → y < m → y ≢ x → y < n)
    → ScopesOf P own none D n table → ((y : ℕ) → y < m → y ≢ x → Q y → P y) → (Q x → v ≡ scope_at own D.nodes D.constructs x) → v < 256
    → ScopesOf Q own none D m (set table x v)
stored {P} {Q} {own} {none} {D} {n} {m} {x} {v} {table} l h grown old T weaker here b = record {
  long = length-set table x v ∙ T.long;
  at = λ y k q. at y k q (ℕ_discrete y x);
  byte = λ y k. byte y k (ℕ_discrete y x);
  past = λ y k z. kept y (λ q. omega arith) ∙ T.past y (omega arith) z;
}
  where
    same : get_or (set table x v) x 0 ≡ v
    same = get_or-set_same table x v 0 (omega (arith, T.long))

    kept : (y : ℕ) → y ≢ x → get_or (set table x v) y 0 ≡ get_or table y 0
    kept y q = get_or-set_other table x y v 0 q

    at : (y : ℕ) → y < m → Q y → Dec (y ≡ x) → get_or (set table x v) y 0 ≡ scope_at own D.nodes D.constructs y
    at y k q (yes e) = rw e (same ∙ here (subst Q e q))
    at y k q (no e) = kept y e ∙ T.at y (old y k e) (weaker y k e q)

    byte : (y : ℕ) → y < m → Dec (y ≡ x) → get_or (set table x v) y 0 < 256
    byte y k (yes e) = rw e (omega (arith, same, b))
    byte y k (no e) = omega (arith, kept y e, T.byte y (old y k e))

-- one node more
pub scopes-more : {P : ℕ → Type 0} {own none : ℕ} {D : Decoded} {x v : ℕ} {table : List ℕ} → x < 256 → ScopesOf P own none D x table
    → (P x → v ≡ scope_at own D.nodes D.constructs x) → v < 256 → ScopesOf P own none D (x + 1) (set table x v)
scopes-more l T = stored l (omega arith) (omega arith) (λ y k e. omega arith) T (λ y k e p. p)

-- the one begin or end of a construct is the one that is found
found-node : (nodes : List Node) (kind c : ℕ) (one : OneFrame nodes kind c) → frame_of nodes kind c ≡ one.node
unfolding frame_of
found-node nodes kind c one =
    let test = is_frame nodes kind c in
    let p = first_passes (length nodes) test (at-any (length nodes) test one.node one.below (frame_is nodes kind c one.node one.there)) in
    one.only _ p.0 (is-frame nodes kind c _ p.1)

-- x is the one node of this kind, begin or end, that construct c has
module _ (D : Decoded) {kind c x : ℕ} (frame : begin_node ≤ kind) (one : OneFrame D.nodes kind c) (h : x ≡ frame_of D.nodes kind c) where
  here : x ≡ one.node
  here = h ∙ found-node D.nodes kind c one

  frame-in : x < length D.nodes
  frame-in = rw here one.below

  pub frame-there : FrameAt D.nodes kind c x
  frame-there = rw here one.there

  pub frame-else : (y : ℕ) → y ≢ x → FilledTo D kind (c + 1) y → FilledTo D kind c y
  frame-else y d q g = elim (ℕ_discrete (node_at D.nodes y).number c) [
    | yes z ↦ absurd (d (one.only y (in-chart D y (omega arith)) (g, z) ∙ sym here))
    | no z ↦ omega (arith, q g)
  ]

-- one construct more: its parent is stored at its node of the other kind
pub filled_more : (f : Frame) {none n c x v : ℕ} {D : Decoded} {table : List ℕ} → length D.nodes ≡ n → n < 256 → OneFrame D.nodes (byte_of (other f)) c → x ≡ frame_of D.nodes (byte_of (other f)) c
    → ScopesOf (FilledTo D (byte_of (other f)) c) (byte_of f) none D n table → v ≡ parent_of D.constructs c → v < 256
    → ScopesOf (FilledTo D (byte_of (other f)) (c + 1)) (byte_of f) none D n (set table x v)
filled_more f {c = c} {x = x} {D = D} e l one h T v =
    let b = frame_byte (other f) in
    let below = frame-in D b one h in
    stored (omega (arith, below)) (omega (arith, below)) (omega arith) (λ y k q. k) T (λ y k d. frame-else D b one h y d) (λ q. v ∙ sym (other-scope f D x c (frame-there D b one h)))

pub filled-all : (f : Frame) {none n c : ℕ} {D : Decoded} {table : List ℕ} → bad_nodes D ≡ false → length D.nodes ≡ n → length D.constructs ≤ c
    → ScopesOf (FilledTo D (byte_of (other f)) c) (byte_of f) none D n table → ScopeTable (byte_of f) none D table
filled-all f {D = D} h e l T = record {
  long = T.long;
  at = λ x k. T.at x (omega arith) (λ q. omega (arith, frame_below D x h k (omega (arith, frame_byte (other f), q))));
  byte = λ x k. T.byte x (omega arith);
  past = λ x k m. T.past x (omega arith) m;
}

differ : {u v : ℕ} → u ≢ v → not (eqb u v) ≡ true
differ {u} {v} n = ap not (ne_eqb u v n)

-- start is shut for arriving, finish for leaving
module _ (D : Decoded) (leave arrive : List ℕ) (some-node : 1 ≤ length D.nodes) (L : ScopeTable begin_node no_leaving D leave) (A : ScopeTable end_node no_arriving D arrive) where
  abbrev n : ℕ
  n = length D.nodes

  abbrev left : List ℕ
  left = set leave (n - 1) no_leaving

  abbrev come : List ℕ
  come = set arrive 0 no_arriving

  left-shut : (from : ℕ) → from < 256 → (from ≡ n - 1) ⊎ (n ≤ from) → get_or left from 0 ≡ no_leaving
  left-shut from f (inl q) = rw q (get_or-set_same leave (n - 1) no_leaving 0 (omega (arith, L.long, q)))
  left-shut from f (inr h) = get_or-set_other leave (n - 1) from no_leaving 0 (λ q. omega arith) ∙ L.past from h f

  left_open : (from : ℕ) → from < n → from ≢ n - 1 → get_or left from 0 ≡ get_or leave from 0
  left_open from f q = get_or-set_other leave (n - 1) from no_leaving 0 q

  come-shut : (to : ℕ) → to < 256 → (to ≡ 0) ⊎ (n ≤ to) → get_or come to 0 ≡ no_arriving
  come-shut to t (inl q) = rw q (get_or-set_same arrive 0 no_arriving 0 (omega (arith, A.long)))
  come-shut to t (inr h) = get_or-set_other arrive 0 to no_arriving 0 (λ q. omega arith) ∙ A.past to h t

  come-open : (to : ℕ) → to ≢ 0 → get_or come to 0 ≡ get_or arrive to 0
  come-open to q = get_or-set_other arrive 0 to no_arriving 0 q

  -- no scope on arriving is that of what may not be left
  come-other : (to : ℕ) → to < 256 → no_leaving ≢ get_or come to 0
  come-other to t = go (ℕ_discrete to 0) (dec_lt to n)
    where
      go : Dec (to ≡ 0) → Dec (to < n) → no_leaving ≢ get_or come to 0
      go (yes q) h e = omega (arith, e, come-shut to t (inl q))
      go (no q) (yes h) e = omega (arith, e, come-open to q, A.byte to h)
      go (no q) (no h) e = omega (arith, e, come-shut to t (inr (omega arith)))

  shut : EdgeScopes D left come
  unfolding bad_edge
  shut = record {
    leave-long = length-set leave (n - 1) no_leaving ∙ L.long;
    arrive-long = length-set arrive 0 no_arriving ∙ A.long;
    bad = λ from to f t. go from to f t (dec_lt from n) (ℕ_discrete from (n - 1)) (dec_lt to n) (ℕ_discrete to 0);
  }
    where
      go : (from to : ℕ) → from < 256 → to < 256 → Dec (from < n) → Dec (from ≡ n - 1) → Dec (to < n) → Dec (to ≡ 0)
          → not (eqb (get_or left from 0) (get_or come to 0)) ≡ bad_edge D.nodes D.constructs from to
      go from to f t (no h) p k q = rw (left-shut from f (inr (omega arith)), differ (come-other to t), le-leb n from (omega arith))
      go from to f t (yes h) (yes p) (no k) q = rw (left-shut from f (inl p), differ (come-other to t), lt-leb n from h, le-leb n to (omega arith))
      go from to f t (yes h) (yes p) (yes k) (yes q) = rw (left-shut from f (inl p), differ (come-other to t), lt-leb n from h, lt-leb n to k, eq-eqb to 0 q)
      go from to f t (yes h) (yes p) (yes k) (no q) = rw (left-shut from f (inl p), differ (come-other to t), lt-leb n from h, lt-leb n to k, ne_eqb to 0 q, eq-eqb from (n - 1) p)
      go from to f t (yes h) (no p) (no k) q =
          let c = come-shut to t (inr (omega arith)) in
          rw (c, differ {u = get_or left from 0} {v = no_arriving} (λ e. omega (arith, e, left_open from h p, L.byte from h)), lt-leb n from h, le-leb n to (omega arith))
      go from to f t (yes h) (no p) (yes k) (yes q) =
          let c = come-shut to t (inl q) in
          rw (c, differ {u = get_or left from 0} {v = no_arriving} (λ e. omega (arith, e, left_open from h p, L.byte from h)), lt-leb n from h, lt-leb n to k, eq-eqb to 0 q)
      go from to f t (yes h) (no p) (yes k) (no q) =
          rw (left_open from h p, come-open to q, L.at from h, A.at to k, lt-leb n from h, lt-leb n to k, ne_eqb to 0 q, ne_eqb from (n - 1) p)

pub shut_at : {D : Decoded} {leave arrive : List ℕ} {m : ℕ} → length D.nodes ≡ m → 1 ≤ m → ScopeTable begin_node no_leaving D leave → ScopeTable end_node no_arriving D arrive
    → EdgeScopes D (set leave (m - 1) no_leaving) (set arrive 0 no_arriving)
shut_at {D} {leave} {arrive} e l L A = subst (λ (m : ℕ). EdgeScopes D (set leave (m - 1) no_leaving) (set arrive 0 no_arriving)) e (shut D leave arrive (omega arith) L A)

pub by_key : (from_before to_before from to : ℕ) → to_before < 256 → to < 256 → ltb (256 * from_before + to_before) (256 * from + to) ≡ rises from_before to_before from to
unfolding rises
by_key from_before to_before from to h k = same_truth _ _ up down
  where
    pick : from_before ≤ from → 256 * from_before + to_before < 256 * from + to → Dec (from_before ≡ from) → (ltb from_before from || (eqb from_before from && ltb to_before to)) ≡ true
    pick a l (yes q) = or_right (ltb from_before from) (eqb from_before from && ltb to_before to) (both-and (eqb from_before from) (ltb to_before to) (eq-eqb from_before from q) (lt-ltb to_before to (omega arith)))
    pick a l (no q) = or_left (ltb from_before from) (eqb from_before from && ltb to_before to) (lt-ltb from_before from (omega arith))

    up : ltb (256 * from_before + to_before) (256 * from + to) ≡ true → (ltb from_before from || (eqb from_before from && ltb to_before to)) ≡ true
    up l = let less = ltb-true (256 * from_before + to_before) (256 * from + to) l in pick (omega arith) less (ℕ_discrete from_before from)

    down : (ltb from_before from || (eqb from_before from && ltb to_before to)) ≡ true → ltb (256 * from_before + to_before) (256 * from + to) ≡ true
    down e = elim (or_cases (ltb from_before from) (eqb from_before from && ltb to_before to) e) [
      | inl l ↦ (let less = ltb-true from_before from l in lt-ltb (256 * from_before + to_before) (256 * from + to) (omega arith))
      | inr b ↦ (let both = and_both (eqb from_before from) (ltb to_before to) b in
          let same = eqb-true from_before from both.0 in
          let less = ltb-true to_before to both.1 in
          lt-ltb (256 * from_before + to_before) (256 * from + to) (omega arith))
    ]
