-- The table of the bad numbers.
-- Assumes nothing.
use mathlib.Core.Path.{◌≡◌, sym, ◌∙◌}
use mathlib.Core.Bool.{Bool, true, false}
use mathlib.Core.List.{List}
use Prim.Native.Nat.{ℕ, ◌+◌, ◌≤◌, ◌<◌}
use native.Mathlib.Omega.{arith}
use native.Mathlib.Decide.{ℕ_discrete, dec_lt}
use lib.ListN.{length, get_or, set, replicate, length-set, length-replicate, get_or-replicate}
use lib.Seq.{get_or-set_same, get_or-set_other}
use Rattle.chart.specs.Region.{Region}
use Rattle.chart.specs.WellFormed.{WellFormed}
use Rattle.theory_answers.specs.Numbers.{bad_number}
use Rattle.answer_pairs.proofs.BadNumbers.{past-bad}

-- a table of the bad numbers, when those below k are looked at; the others are taken for bad
pub record Marked (R : Region) (k : ℕ) (bad : List Bool) : Type 0 where
  pub long : length bad ≡ 256
  pub below : (x : ℕ) → x < k → get_or bad x false ≡ bad_number R x
  pub past : (x : ℕ) → k ≤ x → x < 256 → get_or bad x false ≡ true

pub marked-none : (R : Region) → Marked R 0 (replicate 256 true)
marked-none R = record {
  long = length-replicate {A = Bool} 256 true;
  below = λ x l. absurd (omega arith);
  past = λ x k l. get_or-replicate 256 x true false l;
}

pub marked_more : (R : Region) (k : ℕ) (bad : List Bool) (b : Bool) → k < 256 → b ≡ bad_number R k → Marked R k bad → Marked R (k + 1) (set bad k b)
marked_more R k bad b h e m = record {
  long = length-set bad k b ∙ m.long;
  below = λ x l. elim (ℕ_discrete x k) [
    | yes q ↦ rw (q, get_or-set_same bad k b false (omega (arith, m.long))) e
    | no n ↦ get_or-set_other bad k x b false n ∙ m.below x (omega arith)
  ];
  past = λ x p l. get_or-set_other bad k x b false (λ q. omega arith) ∙ m.past x (omega arith) l;
}

pub marked_all : (R : Region) (bad : List Bool) → WellFormed R → Marked R R.nodes bad → (x : ℕ) → x < 256 → get_or bad x false ≡ bad_number R x
marked_all R bad W m x l = elim (dec_lt x R.nodes) [ yes b ↦ m.below x b | no b ↦ m.past x (omega arith) l ∙ sym (past-bad R x W (omega arith)) ]
