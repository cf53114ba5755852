-- Entries of the sheet: which nodes have a flag, an entry by masks, and a row by its entries.
-- Assumes nothing.
use mathlib.Core.Path.{◌≡◌, ap, sym, ◌∙◌}
use mathlib.Core.Bool.{true, false}
use mathlib.Core.Logic.{inl, inr}
use mathlib.Core.List.{List}
use Prim.Native.Nat.{ℕ, ◌<◌}
use native.Mathlib.Omega.{arith}
use lib.ListN.{length, get_or}
use lib.Seq.{ext_get_or}
use Rattle.lists.specs.Truth.{truth}
use Rattle.lists.specs.Tab.{tab, tab-at, tab-length}
use Rattle.chart.specs.Region.{Region}
use Rattle.theory_answers.specs.Answer.{answer_for}
use Rattle.theory_answers.specs.Numbers.{asked}
use Rattle.theory_answers.specs.Sheet.{entry, row}
use Rattle.theory_answers.specs.declared.Size.{Size}
use Rattle.mark_tables.specs.Tables.{Closed}
use Rattle.answer_constructs.specs.Marks.{Sized, Marks}
use Rattle.answer_constructs.specs.declared.kinds.Sets.{Sets}
use Rattle.answer_constructs.specs.declared.mask_table.MaskTable.{MaskTable}
use Rattle.answer_pairs.specs.Rules.{profile_at, answer-by}
use Rattle.answer_pairs.specs.declared.rules.Profile.{Profile}
use Rattle.answer_sheet.specs.Eights.{covered}
use Rattle.answer_sheet.specs.Sheet.{row_of}

-- what a flag says
module _ {R : Region} {closed : List ℕ} (C : Closed R closed) (x : ℕ) (l : x < R.nodes) where
  pub flag-closed : (get_or closed x 0 ≡ 0 → ⊥) → asked R x ≡ false
  flag-closed d = elim (truth (asked R x)) [ inl h ↦ absurd (d (rw (C.at x l, h))) | inr h ↦ h ]

  pub flag-asked : get_or closed x 0 ≡ 0 → asked R x ≡ true
  flag-asked e = elim (truth (asked R x)) [
    | inl h ↦ h
    | inr h ↦ let one : get_or closed x 0 ≡ 1 = rw (C.at x l, h) in absurd (omega arith)
  ]

pub entry_closed : (R : Region) (f : ℕ → ℕ → ℕ) (a b : ℕ) → asked R a ≡ false → entry R f a b ≡ 255
unfolding entry
entry_closed R f a b h = rw h

-- the row of a node that a claim may name, by masks
module _ {R : Region} {marks : MaskTable} {closed : List ℕ} (sets : Sets) (M : Marks R marks sets.kinds) (size : Size) (Z : Sized R size sets) (C : Closed R closed) where
  entry-by : (a j : ℕ) → a < R.nodes → j < R.nodes → asked R a ≡ true → row_of closed sets marks (profile_at marks a) j ≡ entry R (answer_for R size) a j
  unfolding row_of covered entry
  entry-by a j la lj o = elim (truth (asked R j)) [
    | inl h ↦ rw (C.at j lj, h, o) (sym (answer-by sets M size Z a j la lj))
    | inr h ↦ rw (C.at j lj, h, o)
  ]

  -- and the scratch row, once it is that of the node
  pub kept_row : (a j : ℕ) (r own : Profile) → a < R.nodes → j < R.nodes → (get_or closed a 0 ≡ 0 → r ≡ own) → own ≡ profile_at marks a → asked R a ≡ true
      → row_of closed sets marks r j ≡ entry R (answer_for R size) a j
  kept_row a j r own la lj new is o =
      let flag : get_or closed a 0 ≡ 0 = rw (C.at a la, o) in
      ap (λ (x : Profile). row_of closed sets marks x j) (new flag ∙ is) ∙ entry-by a j la lj o

pub row_by : (R : Region) (f : ℕ → ℕ → ℕ) (a : ℕ) (l : List ℕ) → length l ≡ R.nodes → ((b : ℕ) → b < R.nodes → get_or l b 0 ≡ entry R f a b) → l ≡ row R f a
unfolding row
row_by R f a l e at = ext_get_or 0 l (tab R.nodes (entry R f a)) (e ∙ sym (tab-length R.nodes (entry R f a)))
    (λ b h. at b (omega arith) ∙ sym (tab-at R.nodes (entry R f a) 0 b (omega arith)))
