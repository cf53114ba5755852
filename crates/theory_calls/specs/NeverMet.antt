-- Never in any run, finished or not, by what a caller sees. An answer from 2 to 7 says so by itself; answer 1 says so where the starts that Phases
-- writes for the two nodes have no bit in common. (Where they have one, it is the ends that have none, and only finished runs never meet: Figure 2(b)
-- has a run that meets N8 and N9, `figure-met` in crate theory_traces.) It rests on the team rules (crate theory_team), on how a chart's bytes are
-- read for a region (crate chart) and on the table of refusals.
-- Assumes nothing.
use Rattle.std.specs.Prelude.{◌≡◌, refl, ◌⊎◌, ◌≢◌, true, false, List, [], ◌∷◌, ℕ, ◌+◌, ◌*◌, ◌≤◌, ◌<◌, ℤ, pos, length, get_or}
use Rattle.std.proofs.Common.{sym, ◌∙◌, subst, inl, inr, arith}
use Rattle.std.proofs.Math.Option.{Option, none, some}
use Rattle.lists.specs.Truth.{truth, clash, or-neither}
use Rattle.chart.specs.Format.{decode}
use Rattle.chart.specs.Region.{Region}
use Rattle.chart.specs.Reading.{region_of}
use Rattle.chart.specs.Refusal.{first_of, row_number}
use Rattle.chart.proofs.Rows.{none-applies, both-pass}
use Rattle.theory_paths.specs.Path.{Open}
use Rattle.theory_paths.specs.Admission.{region_rows, AdmittedIn}
use Rattle.theory_paths.specs.AdmissionLaws.{admitted-well-formed}
use Rattle.theory_paths.specs.Phases.{forward, Boundary}
use Rattle.theory_paths.specs.PhasesLaws.{barrier-number}
use Rattle.theory_paths.specs.Counted.{barriers-few}
use Rattle.theory_answers.specs.Unexcluded.{Common}
use Rattle.theory_answers.specs.Numbers.{Asked, asked, asked-node, node-asked, bad_number, good-number}
use Rattle.theory_answers.specs.Size.{size_rows}
use Rattle.theory_answers.specs.declared.Size.{Size}
use Rattle.theory_exact.proofs.BarredLaws.{answered-barred, start-barred}
use Rattle.theory_exact.specs.Answered.{MeetsFor}
use Rattle.theory_exact.proofs.Unmet.{chart-unmet}
use Rattle.output.specs.Output.{output_rows}
use Rattle.theory_calls.specs.Pair.{numbers_row, pair_rows_for}
use Rattle.theory_calls.specs.PhasesCorrect.{Numbered, place, BitSet, PhaseBits, PhasesCorrect}
use Rattle.theory_calls.specs.PhasesCorrectLaws.{at-numbered}
use Rattle.theory_calls.specs.AnswersCorrect.{PairCorrectFor, SheetBytes, SheetCorrectFor}
use Rattle.theory_calls.specs.CorrectnessMoreEdges.{refused-not}
use Rattle.chart.specs.declared.format.Refusal.{Refusal}

-- Pair's number is an answer from 2 on: 2 to 5, and with a size also 6 or 7.
abbrev pub ByRule : ℤ → Type 0
ByRule pair = (k : ℕ) × ((pair ≡ pos k) × (2 ≤ k))

-- Pair's number is answer 1, Phases' number is above 0, and in the bytes that Phases left no bit is set in the starts of both nodes.
pub record ByStart (pair phases : ℤ) (bytes : List ℕ) (a b : ℕ) : Type 0 where
  pub answered : pair ≡ pos 1
  pub written : (n : ℕ) × ((phases ≡ pos n) × (n ≢ 0))
  pub no-common : (i : ℕ) → i < 64 → BitSet bytes (16 * a + place forward) i → BitSet bytes (16 * b + place forward) i → ⊥

module _ (s : List ℕ) (p : ℕ) (size : Size) (a b : ℕ) where
  abbrev R : Region
  R = region_of p (decode s)

  -- a pair that is not refused is one of an admitted chart, and of its nodes that are no barriers
  pair-asked : first_of (pair_rows_for s p size a b) ≡ none → AdmittedIn s p × ((a < R.nodes) × Open R a) × ((b < R.nodes) × Open R b)
  unfolding pair_rows_for numbers_row
  pair-asked h =
      let (admitted, rest) = both-pass (region_rows s p) (numbers_row R a b ∷ size_rows size) h in
      let W = admitted-well-formed s p admitted in
      let (x, y) = or-neither (bad_number R a) (bad_number R b) (none-applies (numbers_row R a b ∷ size_rows size) rest).0 in
      (admitted, good-number R a W x, good-number R b W y)

  -- a number that is an answer is not a refusal's
  not-refused : (pair : ℤ) → PairCorrectFor s p size a b pair → (k : ℕ) → pair ≡ pos k → k ≢ 0 → first_of (pair_rows_for s p size a b) ≡ none
  not-refused pair C k e n = go (first_of (pair_rows_for s p size a b)) refl
    where
      go : (o : Option Refusal) → first_of (pair_rows_for s p size a b) ≡ o → first_of (pair_rows_for s p size a b) ≡ none
      go none h = h
      go (some row) h = absurd (refused-not (row_number row) k (sym (C.refuses row h) ∙ e) n)

  -- From Pair alone: an answer from 2 on. No run, finished or not, of a team of the size, or of any team, meets the nodes.
  pub rule-unmet : (pair : ℤ) → PairCorrectFor s p size a b pair → ByRule pair → MeetsFor R size a b → ⊥
  rule-unmet pair C (k, (e, l)) =
      let h = not-refused pair C k e (omega arith) in
      let (admitted, x, y) = pair-asked h in
      let (j, (q, A)) = C.answers h in
      let same : j ≡ k = cc in
      chart-unmet s p admitted size a b x.1 y.1 (answered-barred R a b size A (omega arith))

  -- From Pair and Phases: answer 1, with no start in common.
  pub start-unmet : (pair : ℤ) → PairCorrectFor s p size a b pair → (old : List ℕ) (phases : ℤ) (bytes : List ℕ) → PhasesCorrect s p old phases bytes
      → ByStart pair phases bytes a b → MeetsFor R size a b → ⊥
  start-unmet pair C old phases bytes P B =
      let h = not-refused pair C 1 B.answered (omega arith) in
      let (admitted, x, y) = pair-asked h in
      chart-unmet s p admitted size a b x.1 y.1 (start-barred R a b size (no_start admitted x.0 y.0))
    where
      rows : Option Refusal
      rows = first_of (output_rows (region_rows s p) (length old) (16 * R.nodes) [])

      bits : PhaseBits R bytes
      bits = go rows refl
        where
          go : (o : Option Refusal) → rows ≡ o → PhaseBits R bytes
          go none h = (P.writes h).1
          go (some row) h = let (n, (e, some_bytes)) = B.written in absurd (refused-not (row_number row) n (sym (P.refuses row h).0 ∙ e) some_bytes)

      no_start : AdmittedIn s p → a < R.nodes → b < R.nodes → Common (Boundary forward R) a b → ⊥
      no_start admitted la lb (z, (u, v)) =
          let W = admitted-well-formed s p admitted in
          let (i, l, e) = barrier-number R W z u.is-barrier in
          let few : i < 64 = omega (arith, barriers-few s p admitted) in
          let N : Numbered R i z = subst (Numbered R i) e (at-numbered W i l) in
          B.no-common i few ((bits forward a i la few).1 (z, (N, u))) ((bits forward b i lb few).1 (z, (N, v)))

-- From Sheet: a byte from 2 to 7.
pub sheet-unmet : (s : List ℕ) (p : ℕ) (size : Size) (old : List ℕ) (number : ℤ) (new : List ℕ) → SheetCorrectFor s p size old number new
    → (n : ℕ) → number ≡ pos n → n ≢ 0 → let R = region_of p (decode s) in (a b : ℕ) → a < R.nodes → b < R.nodes
    → 2 ≤ get_or new (a * R.nodes + b) 0 → get_or new (a * R.nodes + b) 0 ≤ 7 → MeetsFor R size a b → ⊥
unfolding output_rows
sheet-unmet s p size old number new C n e some_bytes a b la lb low high = go rows refl
  where
    R : Region
    R = region_of p (decode s)

    rows : Option Refusal
    rows = first_of (output_rows (region_rows s p) (length old) (R.nodes * R.nodes) (size_rows size))

    barred : SheetBytes R size new → (Asked R a × Asked R b → ⊥) → ⊥
    barred B f = omega (arith, B.barriers a b la lb f)

    at : SheetBytes R size new → AdmittedIn s p → (asked R a ≡ true) ⊎ (asked R a ≡ false) → (asked R b ≡ true) ⊎ (asked R b ≡ false) → MeetsFor R size a b → ⊥
    at B admitted (inr h) y = absurd (barred B (λ z. clash (node-asked R a z.0) h))
    at B admitted (inl h) (inr g) = absurd (barred B (λ z. clash (node-asked R b z.1) g))
    at B admitted (inl h) (inl g) =
        let x = asked-node R a h in
        let y = asked-node R b g in
        chart-unmet s p admitted size a b x.1 y.1 (answered-barred R a b size (B.answers a b x y) low)

    go : (o : Option Refusal) → rows ≡ o → MeetsFor R size a b → ⊥
    go none h = at (C.writes h).1 (both-pass (region_rows s p) _ h).0 (truth (asked R a)) (truth (asked R b))
    go (some row) h = absurd (refused-not (row_number row) n (sym (C.refuses row h).0 ∙ e) some_bytes)
