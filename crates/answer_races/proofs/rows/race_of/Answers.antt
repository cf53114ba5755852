-- `answer_races::rows::race_of` meets its contract.
-- Assumes nothing.
use mathlib.Core.Path.{ap, ◌∙◌}
use Prim.Native.Nat.{ℕ}
use native.Mathlib.Omega.{arith}
use Rattle.theory_calls.specs.Access.{access_at}
use Rattle.answer_races.specs.Bytes.{line_race}
use Rattle.answer_races.proofs.rows.race_of.Goals as goal

pub race_at-requires : goal.race_at-requires
unfolding access_at
race_at-requires c = omega (arith, c.from.ensures, c.requires.1)

pub returns : goal.returns
unfolding access_at
returns c = c.race_at.ensures ∙ ap (λ (b : ℕ). line_race c.args.line.now b) c.from.ensures
