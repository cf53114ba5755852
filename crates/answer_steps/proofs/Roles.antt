-- A role and its code.
-- Assumes nothing.
use mathlib.Core.Path.{◌≡◌, refl}
use mathlib.Core.Bool.{Bool, true, false, cond}
use Prim.Native.Nat.{ℕ, zero, suc, ◌≤◌}
use native.Mathlib.Omega.{arith}
use lib.Dec.{eqb, ltb}
use Rattle.chart.specs.Region.{plain, barrier, opens, closes}
use Rattle.chart.specs.Nested.{role_in}
use Rattle.answer_steps.specs.Tables.{role_by}
use Rattle.answer_steps.specs.Words.{role_code}

-- a barrier, and a begin or an end

one : (b : Bool) (number : ℕ) → cond b barrier plain ≡ role_by (cond b 1 0) number
unfolding role_by
one true number = refl
one false number = refl

begins : (b d : Bool) (number : ℕ) → cond b barrier (cond d (opens number) plain) ≡ role_by (cond b 1 (cond d 2 0)) number
unfolding role_by
begins true d number = refl
begins false true number = refl
begins false false number = refl

ends : (b d : Bool) (number : ℕ) → cond b barrier (cond d (closes number) plain) ≡ role_by (cond b 1 (cond d 3 0)) number
unfolding role_by
ends true d number = refl
ends false true number = refl
ends false false number = refl

pub role-coded : (p : ℕ) (counts : ℕ → Bool) (kind number : ℕ) → kind ≤ 3 → role_in p counts kind number ≡ role_by (role_code p counts kind number) (cond (ltb kind 2) 0 number)
unfolding role_in role_code
role-coded p counts zero number l = unfold role_by in refl
role-coded p counts (suc zero) number l = one (eqb number p) 0
role-coded p counts (suc (suc zero)) number l = begins (eqb number p) (counts number) number
role-coded p counts (suc (suc (suc zero))) number l = ends (eqb number p) (counts number) number
role-coded p counts (suc (suc (suc (suc k)))) number l = absurd (omega arith)

-- only a begin or an end is asked whether its construct counts
pub code_same : (p : ℕ) (f g : ℕ → Bool) (kind number : ℕ) → (2 ≤ kind → f number ≡ g number) → role_code p f kind number ≡ role_code p g kind number
unfolding role_code
code_same p f g zero number h = refl
code_same p f g (suc zero) number h = refl
code_same p f g (suc (suc k)) number h = rw (h (omega arith))

-- and only those have such a code
pub code-kind : (p : ℕ) (counts : ℕ → Bool) (kind number : ℕ) → 2 ≤ role_code p counts kind number → 2 ≤ kind
unfolding role_code
code-kind p counts zero number l = absurd (omega arith)
code-kind p counts (suc zero) number l = none (eqb number p) l
  where
    none : (b : Bool) → 2 ≤ cond b 1 0 → 2 ≤ 1
    none true h = absurd (omega arith)
    none false h = absurd (omega arith)
code-kind p counts (suc (suc k)) number l = omega arith
