-- Pair and Sheet are correct: demand 2 holds of the numbers and the bytes that their definitions give, for all bytes, and of no others.
-- Assumes nothing.
use Rattle.std.specs.Prelude.{◌≡◌, ◌⊎◌, true, false, ◌&&◌, List, ℕ, ◌+◌, ◌*◌, ◌/◌, ◌%◌, ◌<◌, ℤ}
use Rattle.std.proofs.Math.Path.{refl, ap, subst}
use Rattle.std.proofs.Common.{sym, ◌∙◌, inl, inr, arith, mod-lt, div-lt_iff_lt-mul, div-add-mod'}
use Rattle.std.proofs.Math.Option.{Option, none, some}
use Rattle.std.proofs.Math.Decide.{dec_lt}
use Rattle.std.proofs.Math.IntN.{pos}
use Rattle.std.proofs.Math.ListN.{get_or}
use Rattle.lists.specs.Truth.{truth, clash, and-false}
use Rattle.lists.specs.Rows.{row_room}
use Rattle.chart.specs.Format.{decode}
use Rattle.chart.specs.Region.{Region}
use Rattle.chart.specs.Reading.{region_of}
use Rattle.chart.specs.Refusal.{first_of}
use Rattle.chart.specs.WellFormed.{WellFormed}
use Rattle.chart.proofs.Rows.{both-pass}
use Rattle.theory_paths.specs.Admission.{region_rows}
use Rattle.theory_paths.specs.AdmissionLaws.{admitted-well-formed}
use Rattle.theory_answers.specs.Answer.{answer_for}
use Rattle.theory_answers.specs.Unexcluded.{AnswersFor}
use Rattle.theory_answers.proofs.SizeLaws.{for-unique, answer-for}
use Rattle.theory_answers.specs.Numbers.{Asked, asked, asked-node, node-asked}
use Rattle.theory_answers.specs.Size.{size_rows}
use Rattle.theory_answers.specs.Sheet.{entry, sheet, sheet-length, sheet-at}
use Rattle.theory_answers.specs.declared.Size.{Size}
use Rattle.output.specs.Output.{number_of as output_number_of}
use Rattle.output.proofs.OutputCorrectLaws.{output-correct, output-only}
use Rattle.theory_calls.specs.Pair.{pair_rows_for, answered, pair_answered_for, number_of}
use Rattle.theory_calls.specs.Sheet.{sheet_result, sheet_written_for, sheet_left_for}
use Rattle.theory_calls.specs.AnswersCorrect.{PairCorrectFor, SheetBytes, SheetCorrectFor}
use Rattle.chart.specs.declared.format.Refusal.{Refusal}

module _ (s : List ℕ) (p : ℕ) (size : Size) (a b : ℕ) where
  -- a pair that is not refused is one of an admitted chart
  pair-well-formed : first_of (pair_rows_for s p size a b) ≡ none → WellFormed (region_of p (decode s))
  unfolding pair_rows_for
  pair-well-formed h = admitted-well-formed s p (both-pass (region_rows s p) _ h).0

  -- Demand 2 for Pair.
  pub pair-correct : PairCorrectFor s p size a b (number_of (pair_answered_for s p size a b))
  unfolding pair_answered_for answered number_of
  pair-correct = record {
    refuses = λ row h. rw h;
    answers = λ h. (answer_for (region_of p (decode s)) size a b, (rw h, answer-for (pair-well-formed h) size a b));
  }

  -- No other number is correct.
  pub pair-only : (number : ℤ) → PairCorrectFor s p size a b number → number ≡ number_of (pair_answered_for s p size a b)
  unfolding pair_answered_for answered number_of
  pair-only number C = go (first_of (pair_rows_for s p size a b)) refl
    where
      go : (o : Option Refusal) → first_of (pair_rows_for s p size a b) ≡ o → number ≡ number_of (pair_answered_for s p size a b)
      go none h = let (k, (e, A)) = C.answers h in rw h (e ∙ ap pos (for-unique (region_of p (decode s)) a b size A (answer-for (pair-well-formed h) size a b)))
      go (some row) h = rw h (C.refuses row h)

module _ {R : Region} (W : WellFormed R) (size : Size) where
  abbrev n : ℕ
  n = R.nodes

  -- bytes that begin as the sheet does
  entry-bytes : (new : List ℕ) → ((j : ℕ) → j < n * n → get_or new j 0 ≡ get_or (sheet R (answer_for R size)) j 0) → SheetBytes R size new
  unfolding entry
  entry-bytes new e = record {
    answers = λ a b x y. subst (AnswersFor R size a b) (sym (at a b (W.kept-below x.0) (W.kept-below y.0) ∙ rw (node-asked R a x, node-asked R b y))) (answer-for W size a b);
    barriers = λ a b la lb f. at a b la lb ∙ rw (barred a b f (truth (asked R a)) (truth (asked R b)));
  }
    where
      at : (a b : ℕ) → a < n → b < n → get_or new (a * n + b) 0 ≡ entry R (answer_for R size) a b
      at a b la lb = e (a * n + b) (omega (arith, row_room a n la)) ∙ sheet-at R (answer_for R size) a b la lb

      barred : (a b : ℕ) → (Asked R a × Asked R b → ⊥) → (asked R a ≡ true) ⊎ (asked R a ≡ false) → (asked R b ≡ true) ⊎ (asked R b ≡ false)
          → (asked R a && asked R b) ≡ false
      barred a b f (inr p) q = rw p
      barred a b f (inl p) (inr q) = rw q (and-false (asked R a))
      barred a b f (inl p) (inl q) = absurd (f (asked-node R a p, asked-node R b q))

-- two lists that have the entries begin alike
module _ {R : Region} {size : Size} {l m : List ℕ} (L : SheetBytes R size l) (M : SheetBytes R size m) where
  same-entry : (a b : ℕ) → a < R.nodes → b < R.nodes → get_or l (a * R.nodes + b) 0 ≡ get_or m (a * R.nodes + b) 0
  same-entry a b la lb = go (truth (asked R a)) (truth (asked R b))
    where
      barred : (Asked R a × Asked R b → ⊥) → get_or l (a * R.nodes + b) 0 ≡ get_or m (a * R.nodes + b) 0
      barred f = L.barriers a b la lb f ∙ sym (M.barriers a b la lb f)

      go : (asked R a ≡ true) ⊎ (asked R a ≡ false) → (asked R b ≡ true) ⊎ (asked R b ≡ false) → get_or l (a * R.nodes + b) 0 ≡ get_or m (a * R.nodes + b) 0
      go (inr p) q = barred (λ h. clash (node-asked R a h.0) p)
      go (inl p) (inr q) = barred (λ h. clash (node-asked R b h.1) q)
      go (inl p) (inl q) =
          let x = asked-node R a p in
          let y = asked-node R b q in
          for-unique R a b size (L.answers a b x y) (M.answers a b x y)

  same_entries : (j : ℕ) → j < R.nodes * R.nodes → get_or l j 0 ≡ get_or m j 0
  same_entries j h = go (dec_lt 0 R.nodes)
    where
      go : Dec (0 < R.nodes) → get_or l j 0 ≡ get_or m j 0
      go (yes p) = rw (div-add-mod' j R.nodes) at (same-entry (j / R.nodes) (j % R.nodes) ((div-lt_iff_lt-mul p).1 h) (mod-lt j p))
      go (no p) = let q : R.nodes ≡ 0 = omega arith in let z : j < 0 * 0 = rw q at h in absurd (omega arith)

module _ (s : List ℕ) (p : ℕ) (size : Size) (old : List ℕ) where
  -- Demand 2 for Sheet.
  pub sheet-correct : SheetCorrectFor s p size old (output_number_of (sheet_written_for s p size old)) (sheet_left_for s p size old)
  sheet-correct =
      let R = region_of p (decode s) in
      output-correct (region_rows s p) (size_rows size) (sheet_result s p size) old (R.nodes * R.nodes) (sheet-length R (answer_for R size)) (SheetBytes R size)
      (λ a new e. entry-bytes (admitted-well-formed s p a) size new e)

  -- No other number and no other bytes are correct.
  pub sheet-only : (number : ℤ) (new : List ℕ) → SheetCorrectFor s p size old number new
      → (number ≡ output_number_of (sheet_written_for s p size old)) × (new ≡ sheet_left_for s p size old)
  sheet-only number new =
      let R = region_of p (decode s) in
      output-only (region_rows s p) (size_rows size) (sheet_result s p size) old (R.nodes * R.nodes) (sheet-length R (answer_for R size)) (SheetBytes R size) number new
      (λ a h. same_entries h (entry-bytes (admitted-well-formed s p a) size (sheet_result s p size) (λ j l. refl)))
