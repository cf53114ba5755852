-- Nodes directly in a sections: flags on these tell them, and there are none where no construct is a sections.
-- Assumes nothing.
use mathlib.Core.Path.{◌≡◌, refl, ◌∙◌}
use mathlib.Core.Bool.{false, cond}
use mathlib.Core.List.{List}
use Prim.Native.Nat.{ℕ, ◌+◌, ◌<◌}
use native.Mathlib.Omega.{arith}
use native.Mathlib.Decide.{dec_lt}
use lib.Bits.{bit_and, bit_or}
use lib.Dec.{eqb, ltb}
use lib.ListN.{length, get_or, set, replicate, length-set}
use lib.Seq.{get_or-set_other}
use Rattle.lists.specs.Truth.{clash, false-if, and_both}
use Rattle.lists.specs.Flags.{and_flags, or_flags}
use Rattle.lists.specs.Range.{any, any_none, any_next}
use Rattle.lists.specs.Store.{zeros, stored}
use Rattle.chart.specs.Format.{Decoded, Construct, node_at, construct_at}
use Rattle.chart.specs.Scope.{begin_node, sections_byte}
use Rattle.chart.specs.Refusal.{any_of, stray_node}
use Rattle.chart.proofs.Constructs.{kind-occurs, no-construct}
use Rattle.check_constructs.specs.Sections.{SectionsBelow}

pub sections-none : (constructs : List Construct) → SectionsBelow constructs 0 (replicate 256 0)
sections-none constructs = record { long = refl; at = λ c l. absurd (omega arith); past = λ c l. zeros 256 c }

-- one construct more
pub sections-more : {constructs : List Construct} {c v : ℕ} {flags : List ℕ} → c < 256 → SectionsBelow constructs c flags
    → v ≡ cond (eqb (construct_at constructs c).kind sections_byte) 1 0 → SectionsBelow constructs (c + 1) (set flags c v)
sections-more {constructs} {c} {v} {flags} l S e = record {
  long = length-set flags c v ∙ S.long;
  at = stored (λ d m. m ≡ cond (eqb (construct_at constructs d).kind sections_byte) 1 0) flags c v (omega (arith, S.long)) e S.at;
  past = λ d m. get_or-set_other flags c d v 0 (λ z. absurd (omega arith)) ∙ S.past d (omega arith);
}

-- when all constructs are noted, each flag tells of its number
sections-told : {constructs : List Construct} {n : ℕ} {flags : List ℕ} → length constructs ≡ n → SectionsBelow constructs n flags
    → (c : ℕ) → get_or flags c 0 ≡ cond (eqb (construct_at constructs c).kind sections_byte) 1 0
sections-told {constructs} {n} all S c = elim (dec_lt c n) [
  | yes l ↦ S.at c l
  | no l ↦ S.past c (omega arith) ∙ rw (no-construct constructs c (omega arith))
]

-- one node more
pub stray-more : (D : Decoded) (x : ℕ) {n found plain number : ℕ} {flags : List ℕ} → length D.constructs ≡ n → SectionsBelow D.constructs n flags
    → plain ≡ cond (ltb (node_at D.nodes x).kind begin_node) 1 0 → number ≡ (node_at D.nodes x).number → found ≡ cond (any x (stray_node D)) 1 0
    → bit_or found (bit_and plain (get_or flags number 0)) ≡ cond (any (x + 1) (stray_node D)) 1 0
unfolding stray_node
stray-more D x all S p q f = rw (f, p, q, sections-told all S (node_at D.nodes x).number, and_flags, or_flags, any_next x (stray_node D))

pub no_stray : (D : Decoded) → any_of D.constructs sections_byte ≡ false → any (length D.nodes) (stray_node D) ≡ false
unfolding stray_node
no_stray D h = any_none (length D.nodes) (stray_node D) (λ x l. false-if (λ t.
    let b = and_both (ltb (node_at D.nodes x).kind begin_node) _ t in
    clash (kind-occurs D.constructs (node_at D.nodes x).number sections_byte (omega arith) b.1) h))
