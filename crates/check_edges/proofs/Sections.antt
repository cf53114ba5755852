-- Edges from section to section: two tables tell them, and there are none where there is no section.
-- Assumes nothing.
use mathlib.Core.Path.{◌≡◌, refl, ◌∙◌}
use mathlib.Core.Bool.{false, cond}
use mathlib.Core.List.{List}
use Prim.Native.Nat.{ℕ, ◌+◌, ◌≤◌, ◌<◌}
use native.Mathlib.Omega.{arith}
use native.Mathlib.Decide.{ℕ_discrete}
use lib.Bits.{bit_and, bit_or}
use lib.Dec.{eqb}
use lib.ListN.{length, get_or, set, replicate, length-set, get_or-replicate}
use lib.Seq.{get_or-set_same, get_or-set_other}
use borrow.Author.Count.{below_none}
use borrow.Author.Tests.{eq-eqb, ne_eqb}
use Rattle.lists.specs.Truth.{clash, false-if, and_both}
use Rattle.lists.specs.Flags.{and_flags, or_flags}
use Rattle.lists.specs.Range.{any, any_none, any_next}
use Rattle.chart.specs.Format.{Decoded, node_at, edge_at, construct_at}
use Rattle.chart.specs.Scope.{begin_node, end_node, section_byte}
use Rattle.chart.specs.Reading.{frame_of}
use Rattle.chart.specs.Refusal.{bad_nodes, any_of, frames_section, joins_sections}
use Rattle.chart.proofs.Constructs.{kind-occurs}
use Rattle.chart.proofs.Facts.{OneFrame}
use Rattle.chart.proofs.Tables.{in-chart}
use Rattle.check_edges.specs.Tables.{FilledTo, SectionsTo}
use Rattle.check_edges.proofs.Scopes.{frame_below, frame-there, frame-else}

pub sections-none : (D : Decoded) (kind : ℕ) → SectionsTo D kind 0 (replicate 256 0)
unfolding frames_section
sections-none D kind = record { long = refl; at = λ x l q. get_or-replicate 256 x 0 0 l ∙ none x q (ℕ_discrete (node_at D.nodes x).kind kind) }
  where
    none : (x : ℕ) → FilledTo D kind 0 x → Dec ((node_at D.nodes x).kind ≡ kind) → ◌≡◌ {A = ℕ} 0 (cond (frames_section D kind x) 1 0)
    none x q (yes e) = absurd (below_none (λ _. ⊥) _ (q e))
    none x q (no n) = rw (ne_eqb _ kind n)

-- one construct more: it is stored at its begin or end whether it is a section
pub sections-more : {D : Decoded} {kind c x v : ℕ} {table : List ℕ} → begin_node ≤ kind → OneFrame D.nodes kind c → x ≡ frame_of D.nodes kind c → SectionsTo D kind c table
    → v ≡ cond (eqb (construct_at D.constructs c).kind section_byte) 1 0 → SectionsTo D kind (c + 1) (set table x v)
unfolding frames_section
sections-more {D} {kind} {c} {x} {v} {table} b one h T e = record {
  long = length-set table x v ∙ T.long;
  at = λ y l q. go y l q (ℕ_discrete y x);
}
  where
    go : (y : ℕ) → y < 256 → FilledTo D kind (c + 1) y → Dec (y ≡ x) → get_or (set table x v) y 0 ≡ cond (frames_section D kind y) 1 0
    go y l q (yes z) =
        let t = frame-there D b one h in
        rw (z, get_or-set_same table x v 0 (omega (arith, T.long)), t.0, t.1, eq-eqb kind kind refl) e
    go y l q (no n) = get_or-set_other table x y v 0 n ∙ T.at y l (frame-else D b one h y n q)

-- when all constructs are noted, each byte tells of its node
section-told : {D : Decoded} {kind c : ℕ} {table : List ℕ} → bad_nodes D ≡ false → begin_node ≤ kind → length D.constructs ≤ c → SectionsTo D kind c table
    → (x : ℕ) → x < 256 → get_or table x 0 ≡ cond (frames_section D kind x) 1 0
section-told {D} h b all T x l = T.at x l (λ k. omega (arith, all, frame_below D x h (in-chart D x (omega arith)) (omega arith)))

-- one edge more
pub joins-more : {D : Decoded} (i : ℕ) {c found a b : ℕ} {from to : List ℕ} → bad_nodes D ≡ false → length D.constructs ≤ c → SectionsTo D end_node c from → SectionsTo D begin_node c to
    → a < 256 → b < 256 → a ≡ (edge_at D.edges i).from → b ≡ (edge_at D.edges i).to → found ≡ cond (any i (joins_sections D)) 1 0
    → bit_or found (bit_and (get_or from a 0) (get_or to b 0)) ≡ cond (any (i + 1) (joins_sections D)) 1 0
unfolding joins_sections
joins-more {D} i {a = a} {b = b} h all F T l m p q f =
    rw (f, section-told h (omega arith) all F a l, section-told h (omega arith) all T b m, p, q, and_flags, or_flags, any_next i (joins_sections D))

pub no_joins : (D : Decoded) → any_of D.constructs section_byte ≡ false → any (length D.edges) (joins_sections D) ≡ false
unfolding joins_sections frames_section
no_joins D h = any_none (length D.edges) (joins_sections D) (λ i l. false-if (λ t.
    let x = (edge_at D.edges i).from in
    let b = and_both (frames_section D end_node x) _ t in
    let d = and_both (eqb (node_at D.nodes x).kind end_node) _ b.0 in
    clash (kind-occurs D.constructs (node_at D.nodes x).number section_byte (omega arith) d.1) h))
