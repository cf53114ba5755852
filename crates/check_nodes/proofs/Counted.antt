-- Counting nodes by their numbers in a table of counts.
-- Assumes nothing.
use mathlib.Core.Path.{◌≡◌, sym, ap, ◌∙◌}
use mathlib.Core.Bool.{Bool, true, false, ◌&&◌, cond}
use mathlib.Core.List.{List}
use Prim.Native.Nat.{ℕ, ◌+◌, ◌≤◌, ◌<◌}
use native.Mathlib.Omega.{arith}
use native.Mathlib.Decide.{ℕ_discrete}
use lib.Dec.{eqb, ltb, leb}
use lib.ListN.{length, get_or, set}
use lib.Seq.{get_or-set_same, get_or-set_other}
use borrow.Author.Tests.{eq-eqb, ne_eqb}
use Rattle.lists.specs.Range.{any, any_none, none_passes, count_most, count-more}
use Rattle.chart.specs.Format.{Decoded, decode, node_at}
use Rattle.chart.specs.Scope.{barrier_node, parallel_byte}
use Rattle.chart.specs.Nested.{is_parallel}
use Rattle.chart.specs.Refusal.{any_of, barrier_of, too_many_in}
use Rattle.chart.specs.Checked.{Laid}
use Rattle.chart.specs.declared.format.Chart.{Chart}
use Rattle.chart.proofs.Records.{nodes-length}
use Rattle.check_nodes.specs.Counted.{Counted}

-- one more at i
pub counted : (l : List ℕ) (holds : Bool) (number i c : ℕ) → holds ≡ true → i ≡ number → i < length l
    → get_or (set l i (get_or l i 0 + 1)) c 0 ≡ get_or l c 0 + cond (holds && eqb number c) 1 0
counted l holds number i c k e h = rw (k, ← e) (go (ℕ_discrete c i))
  where
    go : Dec (c ≡ i) → get_or (set l i (get_or l i 0 + 1)) c 0 ≡ get_or l c 0 + cond (eqb i c) 1 0
    go (yes q) = rw (eq-eqb i c (sym q), q) (get_or-set_same l i (get_or l i 0 + 1) 0 h)
    go (no q) = rw (ne_eqb i c (λ z. q (sym z))) (get_or-set_other l i c (get_or l i 0 + 1) 0 q ∙ omega arith)

pub uncounted : (l : List ℕ) (holds : Bool) (number c : ℕ) → holds ≡ false → get_or l c 0 ≡ get_or l c 0 + cond (holds && eqb number c) 1 0
uncounted l holds number c k = rw k (omega arith)

-- the nodes that count for c
abbrev of : Decoded → (ℕ → Bool) → ℕ → ℕ → Bool
of D passes c x = passes (node_at D.nodes x).kind && eqb (node_at D.nodes x).number c

-- one node more, whose kind and number were read
pub count-on : (D : Decoded) {passes : ℕ → Bool} {x : ℕ} {old new : List ℕ} {k i : ℕ} → Counted D passes x old → k ≡ (node_at D.nodes x).kind → i ≡ (node_at D.nodes x).number
    → length new ≡ 256 → ((c : ℕ) → get_or new c 0 ≡ get_or old c 0 + cond (passes k && eqb i c) 1 0) → Counted D passes (x + 1) new
count-on D {passes} {x} C q r l h = record { long = l; at = λ c. cc (h c, q, r, C.at c, count-more x (of D passes c)) }

-- no count is above the number of nodes
pub counted-most : (D : Decoded) {passes : ℕ → Bool} {x : ℕ} {found : List ℕ} → Counted D passes x found → (c : ℕ) → get_or found c 0 ≤ x
counted-most D {passes} {x} C c = omega (arith, C.at c, count_most x (of D passes c))

-- the count of a number decides whether its region has too many barriers
pub many : (s : List ℕ) (chart : Chart) {found : List ℕ} → Laid s chart → Counted (decode s) (leb barrier_node) chart.nodes found
    → (p : ℕ) → ltb 64 (get_or found p 0) ≡ too_many_in (decode s).nodes p
unfolding too_many_in barrier_of
many s chart L C p = rw (nodes-length s chart L) (ap (ltb 64) (C.at p))

-- without a parallel no region has too many
pub none-crowded : (D : Decoded) → any_of D.constructs parallel_byte ≡ false
    → any (length D.constructs) (λ c. is_parallel D.constructs c && too_many_in D.nodes c) ≡ false
unfolding any_of is_parallel
none-crowded D h = any_none (length D.constructs) (λ c. is_parallel D.constructs c && too_many_in D.nodes c) (λ c l. rw (none_passes (length D.constructs) _ h c l))
