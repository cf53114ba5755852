-- `answer_races::list::any_bad` meets its contract.
-- Assumes nothing.
use mathlib.Core.Path.{◌≡◌, refl, ◌∙◌}
use mathlib.Core.Bool.{Bool}
use Prim.Native.Nat.{ℕ}
use native.Mathlib.Omega.{arith}
use Rattle.std.proofs.Common.{rules, tests}
use Rattle.std.proofs.lemmas.Iterator.{YieldsList-from_range}
use Rattle.std.proofs.lemmas.Iterator.Search.{any_from_yields_List}
use Rattle.lists.specs.Ranges.{any_in_range}
use Rattle.chart.specs.Region.{Region}
use Rattle.chart.specs.WellFormed.{WellFormed}
use Rattle.mark_tables.specs.Tables.{Closed}
use Rattle.theory_calls.specs.Access.{access_at, bad_access}
use Rattle.answer_races.proofs.list.any_bad.Goals as goal

pub returns : goal.returns
returns c R W N C =
    let test : ℕ → Bool = λ i. bad_access R (access_at c.args.accesses.now i) in
    let tested : (b : Bool) (i : ℕ) → ((S : Region) → WellFormed S → S.nodes ≡ c.args.n → Closed S c.args.closed.now → b ≡ bad_access S (access_at c.args.accesses.now i)) → b ≡ test i =
    λ b i h. h R W N C in
    let k = c.args.k in
    any_from_yields_List test _ _ c.any.result c.any.ensures.ran (YieldsList-from_range 0 k k refl (omega arith)) (λ i b q h. (search (rules, tests), tested b i (search (rules, tests))))
    ∙ any_in_range k test
