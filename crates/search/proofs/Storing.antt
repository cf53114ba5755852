-- A number that is stored at one node of a list after the other.
-- Assumes nothing.
use mathlib.Core.Path.{◌≡◌, refl, ap, sym, ◌∙◌}
use mathlib.Core.List.{List}
use Prim.Native.Nat.{ℕ, ◌+◌, ◌<◌}
use native.Mathlib.Omega.{arith}
use native.Mathlib.Decide.{ℕ_discrete}
use lib.ListN.{get_or, set}
use lib.Seq.{get_or-set_other}
use Rattle.search.specs.Fed.{Stored}

pub stored-none : {v : ℕ} {nodes old : List ℕ} → Stored v nodes 0 old old
stored-none = record { at = λ b l. absurd (omega arith); rest = λ y n. refl }

pub stored_more : {v : ℕ} (nodes : List ℕ) (b : ℕ) (old new : List ℕ) → get_or (set new (get_or nodes b 0) v) (get_or nodes b 0) 0 ≡ v
    → Stored v nodes b old new → Stored v nodes (b + 1) old (set new (get_or nodes b 0) v)
stored_more {v} nodes b old new here i = record {
  at = λ c l. elim (ℕ_discrete (get_or nodes c 0) (get_or nodes b 0)) [
    | yes e ↦ rw e here
    | no n ↦ get_or-set_other new (get_or nodes b 0) (get_or nodes c 0) v 0 n ∙ i.at c (before c l n)
  ];
  rest = λ y n. get_or-set_other new (get_or nodes b 0) y v 0 (λ e. n b (omega arith) (sym e)) ∙ i.rest y (λ c l. n c (omega arith));
}
  where
    before : (c : ℕ) → c < b + 1 → (get_or nodes c 0 ≡ get_or nodes b 0 → ⊥) → c < b
    before c l n = elim (ℕ_discrete c b) [ yes e ↦ absurd (n (ap (λ (k : ℕ). get_or nodes k 0) e)) | no d ↦ omega arith ]
