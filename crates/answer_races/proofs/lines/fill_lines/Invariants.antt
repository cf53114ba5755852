-- The invariants and measures of `answer_races::lines::fill_lines`.
use mathlib.Core.Path.{◌≡◌}
use mathlib.Core.List.{List}
use Prim.Native.Nat.{ℕ, ◌≤◌, ◌<◌}
use lib.ListN.{length, get_or}
use Rattle.answer_pairs.specs.Rules.{profile_at}
use Rattle.answer_met.specs.Meets.{meets, NodeSet}
use Rattle.answer_races.specs.declared.rows.Line.{Line}
use Rattle.answer_races.specs.Bytes.{line_at}
use Rattle.answer_races.specs.Lines.{LineOf}
use Rattle.answer_constructs.specs.declared.mask_table.MaskTable.{MaskTable}
use Rattle.answer_races.proofs.lines.fill_lines.Given as goal

abbrev pub Lined : List ℕ → MaskTable → List ℕ → ℕ → Line → Type 0
Lined closed marks names a line = get_or closed a 0 ≡ 0 → LineOf closed marks names (profile_at marks a) (get_or names a 0) line

abbrev pub invariant-loop-a : goal.invariant-loop-a
invariant-loop-a l =
    (l.a ≤ l.n) × (length l.lines ≡ 192) × NodeSet l.closed (meets l.kept.own l.marks) l.kept.met × ((b : ℕ) → b < l.a → Lined l.closed l.marks l.names b (line_at l.lines b))
