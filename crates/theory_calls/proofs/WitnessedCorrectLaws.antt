-- The call that tells whether a trace is a witness is correct, and no other number is. A trace that is one shows that Pair's answer is 0, without a size
-- and with that of the team; and where it is 0 for a team of up to eight, some trace of bytes is one.
-- Assumes nothing.
use Rattle.std.specs.Prelude.{Ok, ◌≡◌, ◌↔◌, Bool, List, [], ◌∷◌, ℕ, ◌%◌, ◌≤◌, ◌<◌, eqb, ltb, ℤ, length, get_or}
use Rattle.std.proofs.Math.Path.{refl}
use Rattle.std.proofs.Common.{sym, ◌∙◌, ap, subst, inl, inr, arith, ne_eqb, ltb-false, le-ltb}
use Rattle.std.proofs.Math.Bool.{true, false}
use Rattle.std.proofs.Math.Option.{Option, none, some}
use Rattle.std.proofs.Math.IntN.{pos}
use Rattle.lists.specs.Truth.{bad, truth, clash, or-neither, neither-or}
use Rattle.chart.specs.Format.{decode}
use Rattle.chart.specs.Region.{Region}
use Rattle.chart.specs.Reading.{region_of}
use Rattle.chart.specs.Refusal.{Row, first_of, row_number}
use Rattle.chart.proofs.Rows.{NoneApplies, none-applies, applies-none, second-decides, both-pass}
use Rattle.theory_paths.specs.Path.{Open}
use Rattle.theory_paths.specs.Admission.{region_rows, AdmittedIn}
use Rattle.theory_paths.specs.AdmissionLaws.{admitted-well-formed, admitted-connected}
use Rattle.theory_answers.specs.Answer.{answer_for}
use Rattle.theory_answers.specs.Numbers.{bad_number, good-number}
use Rattle.theory_answers.specs.Size.{size_row, size_rows}
use Rattle.theory_answers.proofs.SizeLaws.{answer-for, for-unique}
use Rattle.theory_answers.specs.declared.Size.{Size}
use Rattle.theory_answers.specs.declared.Size.TheVariants.{Any, Of}
use Rattle.theory_team.specs.Run.{ConcurrentIn}
use Rattle.theory_exact.specs.Answered.{ConcurrentFor}
use Rattle.theory_exact.proofs.AnsweredFor.{exact-for}
use Rattle.theory_exact.specs.Droppable.{Fits}
use Rattle.theory_traces.specs.Call.{bad_trace}
use Rattle.theory_traces.proofs.CorrectLaws.{whole-trace}
use Rattle.theory_calls.specs.Pair.{numbers_row, pair_rows_for}
use Rattle.theory_calls.specs.Witness.{Witness, is_witness, witness_rows, answered_by, witnessed, number_of}
use Rattle.theory_calls.proofs.WitnessLaws.{witness-of, witness-concurrent, concurrent-witness}
use Rattle.theory_calls.specs.AnswersCorrect.{PairCorrectFor}
use Rattle.theory_calls.specs.CorrectnessMoreEdges.{refused-not}
use Rattle.theory_calls.specs.DistancesCorrectLaws.{nodes-most}
use Rattle.theory_calls.specs.WitnessedCorrect.{WitnessedCorrect}
use Rattle.chart.specs.declared.format.Refusal.TheVariants.{BadTrace}
use Rattle.chart.specs.declared.format.Refusal.{Refusal}

-- what passes row 22
trace-whole : (trace : List ℕ) (m : ℕ) → length trace % 2 ≡ 0 → 1 ≤ m → m ≤ 8 → bad_trace trace m ≡ false
unfolding bad_trace
trace-whole trace m even least most =
    let odd : eqb (length trace % 2) 1 ≡ false = ne_eqb (length trace % 2) 1 (λ e. omega arith) in
    let empty : eqb m 0 ≡ false = ne_eqb m 0 (λ e. omega arith) in
    rw (odd, empty, le-ltb 8 m most)

module _ (s : List ℕ) (p m : ℕ) (trace : List ℕ) (a b : ℕ) where
  abbrev R : Region
  R = region_of p (decode s)

  abbrev rows : Option Refusal
  rows = first_of (witness_rows s p m trace a b)

  -- what a call that is not refused knows
  passed : rows ≡ none → AdmittedIn s p × ((numbers_row R a b).applies ≡ false) × (bad_trace trace m ≡ false)
  unfolding witness_rows
  passed h =
      let row : Row = record { refusal = BadTrace; applies = bad_trace trace m } in
      let (admitted, rest) = both-pass (region_rows s p) (numbers_row R a b ∷ row ∷ []) h in
      let n = none-applies (numbers_row R a b ∷ row ∷ []) rest in
      (admitted, n.0, n.1.0)

  means : rows ≡ none → (is_witness R m trace a b ≡ true) ↔ Witness R m trace a b
  means h = let (admitted, n, w) = passed h in witness-of R (admitted-well-formed s p admitted) m (whole-trace trace m w).0 trace a b

  -- What is asked of the call.
  pub witnessed-correct : WitnessedCorrect s p m trace a b (number_of (witnessed s p m trace a b))
  unfolding witnessed answered_by number_of
  witnessed-correct = record {
    refuses = λ row h. rw h;
    witnesses = λ h. rw h (yes-is (is_witness R m trace a b) (means h));
    denies = λ h. rw h (no-is (is_witness R m trace a b) (means h));
  }
    where
      yes-is : (t : Bool) {W : Type 0} → (t ≡ true) ↔ W → (number_of (Ok t) ≡ pos 1) ↔ W
      yes-is true w = ((λ e. w.0 refl), λ x. refl)
      yes-is false w = ((λ e. absurd (bad (cc))), λ x. absurd (clash (w.1 x) refl))

      no-is : (t : Bool) {W : Type 0} → (t ≡ true) ↔ W → (number_of (Ok t) ≡ pos 0) ↔ (W → ⊥)
      no-is true w = ((λ e. absurd (bad (cc))), λ f. absurd (f (w.0 refl)))
      no-is false w = ((λ e x. clash (w.1 x) refl), λ f. refl)

  -- No other number is correct.
  pub witnessed-only : (number : ℤ) → WitnessedCorrect s p m trace a b number → number ≡ number_of (witnessed s p m trace a b)
  witnessed-only number C = go rows refl
    where
      D : WitnessedCorrect s p m trace a b (number_of (witnessed s p m trace a b))
      D = witnessed-correct

      go : (o : Option Refusal) → rows ≡ o → number ≡ number_of (witnessed s p m trace a b)
      go (some row) h = C.refuses row h ∙ sym (D.refuses row h)
      go none h = elim (truth (is_witness R m trace a b)) [
        | inl t ↦ (let w = (means h).0 t in (C.witnesses h).1 w ∙ sym ((D.witnesses h).1 w))
        | inr t ↦ (let f : Witness R m trace a b → ⊥ = λ w. clash ((means h).1 w) t in (C.denies h).1 f ∙ sym ((D.denies h).1 f))
      ]

  -- what passes row 13
  both-open : AdmittedIn s p → (numbers_row R a b).applies ≡ false → Open R a × Open R b
  unfolding numbers_row
  both-open admitted n =
      let W = admitted-well-formed s p admitted in
      let (x, y) = or-neither (bad_number R a) (bad_number R b) n in
      ((good-number R a W x).1, (good-number R b W y).1)

  -- 1 shows that Pair's answer is 0: for any size, and for that of the team.
  pub witnessed-pair : (number : ℤ) → WitnessedCorrect s p m trace a b number → number ≡ pos 1 → (size : Size) → Fits size m
      → (pair : ℤ) → PairCorrectFor s p size a b pair → pair ≡ pos 0
  unfolding pair_rows_for size_row
  witnessed-pair number C e size fits pair P = go rows refl
    where
      sizes : (1 ≤ m) × (m ≤ 8) → (size : Size) → Fits size m → NoneApplies (size_rows size)
      sizes team Any f = tt
      sizes team (Of n) f = (neither-or (ltb n 1) (ltb 1024 n) (le-ltb n 1 (omega arith)) (le-ltb 1024 n (omega arith)), tt)

      met : (size : Size) → Fits size m → ConcurrentIn R m a b → ConcurrentFor R size a b
      met Any f M = (m, M)
      met (Of n) f M = subst (λ (k : ℕ). ConcurrentIn R k a b) (sym f) M

      go : (o : Option Refusal) → rows ≡ o → pair ≡ pos 0
      go (some row) h = absurd (refused-not (row_number row) 1 (sym (C.refuses row h) ∙ e) (λ z. omega arith))
      go none h =
          let (admitted, n, t) = passed h in
          let W = admitted-well-formed s p admitted in
          let team = whole-trace trace m t in
          let M = witness-concurrent R W m team.0 trace a b ((C.witnesses h).0 e) in
          let (oa, ob) = both-open admitted n in
          let asked = second-decides (region_rows s p) (numbers_row R a b ∷ size_rows size) admitted ∙ applies-none (numbers_row R a b ∷ size_rows size) (n, sizes team size fits) in
          let (k, (q, A)) = P.answers asked in
          let zero : k ≡ 0 = for-unique R a b size A (answer-for W size a b) ∙ (exact-for W (admitted-connected s p admitted) oa ob size).1 (met size fits M) in
          q ∙ ap pos zero

-- Where no row refuses the pair and its answer for a team of up to eight is 0, some trace of bytes is a witness: the call answers 1.
pub pair-witnessed : (s : List ℕ) (p m a b : ℕ) → first_of (pair_rows_for s p (Of m) a b) ≡ none → m ≤ 8 → answer_for (region_of p (decode s)) (Of m) a b ≡ 0
    → (trace : List ℕ) × (((i : ℕ) → get_or trace i 0 < 256) × (number_of (witnessed s p m trace a b) ≡ pos 1))
unfolding pair_rows_for size_row witness_rows
pair-witnessed s p m a b h most e =
    let R = region_of p (decode s) in
    let (admitted, rest) = both-pass (region_rows s p) (numbers_row R a b ∷ size_row m ∷ []) h in
    let n = none-applies (numbers_row R a b ∷ size_row m ∷ []) rest in
    let W = admitted-well-formed s p admitted in
    let C = admitted-connected s p admitted in
    let (oa, ob) = both-open s p m [] a b admitted n.0 in
    let least : 1 ≤ m = ltb-false m 1 (or-neither (ltb m 1) (ltb 1024 m) n.1.0).0 in
    let (trace, (even, (bytes, w))) = concurrent-witness R W C m least (omega arith) (omega (arith, nodes-most s p admitted)) a b ((exact-for W C oa ob (Of m)).0 e) in
    let row : Row = record { refusal = BadTrace; applies = bad_trace trace m } in
    let none-refused = second-decides (region_rows s p) (numbers_row R a b ∷ row ∷ []) admitted
    ∙ applies-none (numbers_row R a b ∷ row ∷ []) (n.0, (trace-whole trace m even least most, tt)) in
    (trace, (bytes, ((witnessed-correct s p m trace a b).witnesses none-refused).1 w))
