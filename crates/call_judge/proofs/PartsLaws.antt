-- Where a list fails, and where a whole list stands.
-- Assumes nothing.
use Rattle.std.specs.Prelude.{Result, Ok, Err, Some}
use mathlib.Core.Path.{◌≡◌, refl, ap}
use Rattle.lists.specs.Truth.{bad}
use Rattle.chart.specs.declared.format.Refusal.{Refusal}
use Rattle.theory_calls.specs.Verdict.{Verdict}
use Rattle.call_judge.specs.Two.{failed_at}
use Prim.Native.Nat.{ℕ, ◌+◌}
use native.Mathlib.Omega.{arith}

-- A list fails where its verdict says.
pub failed-there : (v : Result Verdict Refusal) (index : ℕ) → failed_at v ≡ Some index → v ≡ Ok (Some index)
unfolding failed_at
failed-there (Ok failed) index h = ap Ok h
failed-there (Err refusal) index h = absurd (bad (cc))

pub at-start : (p : ℕ × ℕ) → ◌≡◌ {A = ℕ × ℕ} (p.0, 0 + p.1) p
at-start p = let q : 0 + p.1 ≡ p.1 = omega arith in λ i. (p.0, q i)
