-- A call that writes a result writes it correctly, and no other number and content are correct; both for any rows and any result, by what its
-- bytes say.
-- Assumes nothing.
use Rattle.std.specs.Prelude.{◌≡◌, refl, List, ◌∷◌, ◌++◌, ℕ, ◌≤◌, ◌<◌, ℤ, neg_ℤ, length, get_or, drop}
use Rattle.std.proofs.Common.{ap, sym, subst, ◌∙◌, arith, ext_get_or}
use Rattle.std.proofs.Math.Option.{Option, none, some}
use Rattle.std.proofs.Math.Decide.{dec_lt}
use Rattle.std.proofs.Math.IntN.{pos}
use borrow.Author.Tests.{ltb-false}
use Rattle.lists.specs.Front.{front_length, front_at, front-past}
use Rattle.chart.specs.Refusal.{Row, first_of, row_number}
use Rattle.chart.proofs.Rows.{none-applies, both-pass}
use Rattle.output.specs.Output.{room_row, output_rows, written, content, written_by, left_by, number_of}
use Rattle.output.specs.OutputCorrect.{OutputCorrect}
use Rattle.chart.specs.declared.format.Refusal.{Refusal}

-- `before` and `after` are the call's rows on both sides of row 11, `bytes` its result.
module _ (before after : List Row) (bytes old : List ℕ) (size : ℕ) (long : length bytes ≡ size) where
  abbrev rows : ℕ → List Row
  rows size = output_rows before (length old) size after

  abbrev gives : ℤ
  gives = number_of (written_by (rows (length bytes)) (length bytes))

  abbrev leaves : List ℕ
  leaves = left_by (rows (length bytes)) bytes old

  abbrev outcome : Option Refusal
  outcome = first_of (rows size)

  -- what the call gives, by what its rows say
  refused : (refusal : Refusal) → outcome ≡ some refusal → (gives ≡ neg_ℤ (pos (row_number refusal))) × (leaves ≡ old)
  unfolding written_by left_by written content number_of
  refused refusal h = rw (long, h) (refl, refl)

  passed : outcome ≡ none → (gives ≡ pos size) × (leaves ≡ bytes ++ drop (length bytes) old)
  unfolding written_by left_by written content number_of
  passed h = let g : first_of (rows (length bytes)) ≡ none = rw long h in rw g (ap pos long, refl)

  passes : outcome ≡ none → (first_of before ≡ none) × (size ≤ length old)
  unfolding output_rows room_row
  passes h =
      let (b, r) = both-pass before (room_row (length old) size ∷ after) h in
      (b, ltb-false (length old) size (none-applies (room_row (length old) size ∷ after) r).0)

  -- the bytes that are left
  left-length : outcome ≡ none → length leaves ≡ length old
  left-length h = rw (passed h).1 (front_length bytes old (omega (arith, (passes h).1)))

  left_at : outcome ≡ none → (j : ℕ) → j < size → get_or leaves j 0 ≡ get_or bytes j 0
  left_at h j l = rw (passed h).1 (front_at bytes old j (omega arith))

  left-past : outcome ≡ none → (j : ℕ) → size ≤ j → get_or leaves j 0 ≡ get_or old j 0
  left-past h j l = rw (passed h).1 (front-past bytes old j (omega arith))

  -- Let a list have `Holds` where it begins with the result.
  module _ (Holds : List ℕ → Type 0) where
    pub output-correct : (first_of before ≡ none → (new : List ℕ) → ((j : ℕ) → j < size → get_or new j 0 ≡ get_or bytes j 0) → Holds new)
        → OutputCorrect (rows size) size Holds old gives leaves
    output-correct holds = record {
      refuses = refused;
      writes = λ h. ((passed h).0, holds (passes h).0 leaves (left_at h));
      rest = left-past;
      long = go outcome refl;
    }
      where
        go : (o : Option Refusal) → outcome ≡ o → length leaves ≡ length old
        go none h = left-length h
        go (some row) h = rw (refused row h).1

    -- and begin with it where it has `Holds`
    pub output-only : (number : ℤ) (new : List ℕ) → (first_of before ≡ none → Holds new → (j : ℕ) → j < size → get_or new j 0 ≡ get_or bytes j 0)
        → OutputCorrect (rows size) size Holds old number new → (number ≡ gives) × (new ≡ leaves)
    output-only number new only C = go outcome refl
      where
        at : (h : outcome ≡ none) (j : ℕ) → Dec (j < size) → get_or new j 0 ≡ get_or leaves j 0
        at h j (yes l) = only (passes h).0 (C.writes h).1 j l ∙ sym (left_at h j l)
        at h j (no l) = C.rest h j (omega arith) ∙ sym (left-past h j (omega arith))

        go : (o : Option Refusal) → outcome ≡ o → (number ≡ gives) × (new ≡ leaves)
        go none h = (
          (C.writes h).0 ∙ sym (passed h).0,
          ext_get_or 0 new leaves (C.long ∙ sym (left-length h)) (λ j l. at h j (dec_lt j size)),
        )
        go (some row) h = let (n, l) = C.refuses row h in let (m, k) = refused row h in (n ∙ sym m, l ∙ sym k)

-- what is correct of the definition's number and bytes is correct of those that equal them
pub carried : (C : ℤ → List ℕ → Type 0) {m n : ℤ} {v w : List ℕ} → m ≡ n → v ≡ w → C n w → (m ≡ n) × ((v ≡ w) × C m v)
carried C {v = v} {w} p q c = (p, (q, subst (λ (k : ℤ). C k v) (sym p) (subst (C _) (sym q) c)))

-- the same of a call that lends no bytes
pub told : (C : ℤ → Type 0) {m n : ℤ} → m ≡ n → C n → (m ≡ n) × C m
told C p c = (p, subst C (sym p) c)
