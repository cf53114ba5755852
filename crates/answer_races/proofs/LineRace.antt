-- What a line says of two nodes that a claim may name.
-- Assumes nothing.
use mathlib.Core.Path.{◌≡◌, refl, ◌∙◌}
use mathlib.Core.Bool.{Bool, true, false, not, cond}
use mathlib.Core.List.{List}
use Prim.Native.Nat.{ℕ, ◌<◌}
use native.Mathlib.Omega.{arith}
use lib.Dec.{eqb}
use lib.ListN.{get_or}
use Rattle.chart.specs.Region.{Region}
use Rattle.theory_answers.specs.Answer.{answer}
use Rattle.theory_answers.specs.Numbers.{asked}
use Rattle.mark_tables.specs.Tables.{Closed}
use Rattle.answer_constructs.specs.Marks.{Marks}
use Rattle.answer_constructs.specs.declared.mask_table.MaskTable.{MaskTable}
use Rattle.answer_pairs.specs.Rules.{profile_at}
use Rattle.theory_calls.specs.Races.{race_at}
use Rattle.answer_names.specs.Names.{Names}
use Rattle.answer_met.proofs.Meeting.{met_by}
use Rattle.answer_races.specs.declared.rows.Line.{Line}
use Rattle.answer_races.specs.Bytes.{line_race}
use Rattle.answer_races.specs.Lines.{race_by, LineOf}
use Rattle.answer_races.proofs.Sharing.{share-by}

module _ {R : Region} {marks : MaskTable} {kinds : List ℕ} (M : Marks R marks kinds) (a b : ℕ) (la : a < R.nodes) (lb : b < R.nodes) where
  pub line-race : {closed names : List ℕ} {line : Line} → Closed R closed → Names R names → asked R b ≡ true
      → LineOf closed marks names (profile_at marks a) (get_or names a 0) line → line_race line b ≡ race_at R a b
  unfolding race_by race_at
  line-race {closed} {names} {line} C N k L =
      L.at b (omega (arith, M.few)) ∙ rw (C.at b lb, k, ← met_by M a b la lb, share-by M.well-formed a b (N a la) (N b lb)) (go (eqb (answer R a b) 0) _)
    where
      go : (t : Bool) (x : ℕ) → cond t x 0 ≡ cond (not t) 0 x
      go true x = refl
      go false x = refl
