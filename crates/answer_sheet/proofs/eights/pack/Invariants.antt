-- The invariants and measures of `answer_sheet::eights::pack`.
use mathlib.Core.Path.{◌≡◌}
use mathlib.Core.Bool.{cond}
use Prim.Native.Nat.{ℕ, ◌+◌, ◌-◌, ◌≤◌}
use lib.Dec.{eqb}
use lib.ListN.{get_or}
use mathlib.Core.List.{List}
use Rattle.answer_sheet.specs.Fan.{fan}
use Rattle.answer_sheet.proofs.eights.pack.Given as goal

abbrev pub cover_at : List ℕ → ℕ → ℕ → ℕ
cover_at closed at i = cond (eqb (get_or closed (at + i) 0) 0) 0 255

abbrev pub invariant-loop-i : goal.invariant-loop-i
invariant-loop-i l =
    (l.i ≤ 8) × (l.word ≡ fan (λ k. cover_at l.closed l.at (l.i + k)) (8 - l.i))
