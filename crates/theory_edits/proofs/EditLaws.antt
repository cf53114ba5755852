-- What commit and removal leave where they are not refused: an admitted chart, which is the old one with the edge, or without it; and commit and
-- then removal of the same edge bring back every byte of the old chart.
-- Assumes nothing.
use Rattle.std.specs.Prelude.{◌≡◌, ◌≢◌, true, ℕ, ◌+◌, ◌-◌, ◌≤◌, take, drop, Ok}
use Rattle.std.proofs.Math.Path.{ap, sym}
use Rattle.std.proofs.Common.{◌∙◌, take_at, length-take-le, get_or-take}
use mathlib.Core.List.{List, [], ◌∷◌, ◌++◌, append_assoc}
use Rattle.std.proofs.Math.Option.{none}
use native.Mathlib.Omega.{arith}
use Rattle.std.proofs.Math.Decide.{dec_lt}
use Rattle.std.proofs.Math.ListN.{length, length-append, get_or-eq_default}
use Rattle.std.proofs.Math.Seq.{drop_at}
use borrow.Author.Tests.{le-ltb, ltb-false, not-false}
use Rattle.chart.specs.Format.{decode}
use Rattle.chart.specs.Reading.{edge_in, region_of}
use Rattle.chart.specs.Refusal.{Row, first_of, trailer_rows, chart_rows}
use Rattle.chart.specs.Checked.{Laid, counts_of}
use Rattle.chart.proofs.Rows.{none-applies, both-pass, second-decides}
use Rattle.chart.proofs.Accepted.{laid, fits}
use Rattle.theory_paths.specs.Admission.{admit_rows, Admitted, AdmittedIn}
use Rattle.theory_answers.specs.Answer.{answer_for}
use Rattle.theory_answers.proofs.MoreEdgesLaws.{more-edges-loosen}
use Rattle.theory_answers.specs.declared.Size.{Size}
use Rattle.output.specs.Output.{written, content, written_by, left_by}
use Rattle.output.proofs.Outputs.{bytes-none}
use Rattle.chart_writing.specs.Bytes.{AllBytes}
use Rattle.theory_edits.specs.Splice.{WithEdge, inserted, removed}
use Rattle.theory_edits.specs.Edits.{length_row, ask_rows, receipt_for, receipt_row, space_row, commit_rows, insert_written, insert_left, no_edge_row, remove_rows, remove_written, remove_left}
use Rattle.theory_edits.specs.PlaceLaws.{Rising}
use Rattle.theory_edits.proofs.SpliceLaws.{inserted-length, inserted-decoded, removed-inserted, removed-length, removed-decoded}
use Rattle.theory_edits.specs.Loosening.{edge_in_lem, more_edges}
use Rattle.theory_edits.specs.declared.Receipt.{Receipt}

-- an admitted chart is laid out
pub admitted-laid : (s : List ℕ) → Admitted s → Laid s (counts_of s)
unfolding admit_rows chart_rows
admitted-laid s h = laid s (both-pass (trailer_rows s) _ (both-pass (chart_rows s) _ h).0).0

-- and its edges rise
pub admitted-rising : (s : List ℕ) → Admitted s → Rising (decode s).edges
unfolding admit_rows
admitted-rising s h = (fits s (both-pass (chart_rows s) _ h).0).1.edges.rising

-- bytes stay bytes in the first so many of them
take-bytes : (len : ℕ) (buffer : List ℕ) → len ≤ length buffer → AllBytes buffer → AllBytes (take len buffer)
take-bytes len buffer room bytes j = elim (dec_lt j len) [
  | yes l ↦ rw (get_or-take len buffer j 0 l) (bytes j)
  | no l ↦ (let long = length-take-le len buffer room in rw (get_or-eq_default (take len buffer) 0 {n = j} (omega arith)) (omega arith))
]

-- Commit.
module _ (buffer : List ℕ) (len : ℕ) (receipt : Receipt) (x y : ℕ) {count : ℕ} (h : insert_written buffer len receipt x y ≡ Ok count) where
  abbrev old : List ℕ
  old = take len buffer

  abbrev new : List ℕ
  new = inserted old x y

  abbrev left : List ℕ
  left = insert_left buffer len receipt x y

  abbrev later : List Row
  later = receipt_row receipt (receipt_for buffer len x y) ∷ space_row (length buffer) len ∷ []

  rows : first_of (commit_rows buffer len receipt x y) ≡ none
  unfolding insert_written written_by
  rows = (bytes-none _ h).0

  pub insert-returns : count ≡ len + 2
  unfolding insert_written written_by
  insert-returns = sym (bytes-none (first_of (commit_rows buffer len receipt x y)) h).1

  both : Admitted old × Admitted new
  unfolding commit_rows ask_rows
  both =
      let asking = (both-pass (ask_rows buffer len x y) later rows).0 in
      both-pass (admit_rows old) (admit_rows new) (both-pass (length_row (length buffer) len ∷ []) (admit_rows old ++ admit_rows new) asking).1

  pub room : len + 2 ≤ length buffer
  unfolding commit_rows space_row
  room = ltb-false (length buffer) (len + 2) (none-applies later (both-pass (ask_rows buffer len x y) later rows).1).1.0

  old-length : length old ≡ len
  old-length = length-take-le len buffer (omega (arith, room))

  pub new-length : length new ≡ len + 2
  new-length = omega (arith, inserted-length old (admitted-laid old both.0) x y, old-length)

  -- The buffer holds the longer chart, and past it what it held.
  pub insert-leaves : left ≡ new ++ drop (len + 2) buffer
  unfolding insert_left left_by content
  insert-leaves = rw (rows, new-length)

  pub insert-chart : take (len + 2) left ≡ new
  insert-chart = ap (take (len + 2)) insert-leaves ∙ take_at new (drop (len + 2) buffer) (len + 2) new-length

  -- The chart that is written is admitted: it is the old one with the edge.
  pub inserted-admitted : Admitted (take (len + 2) left)
  inserted-admitted = rw insert-chart both.1

  pub inserted-edge : WithEdge (decode old) (decode (take (len + 2) left)) x y
  inserted-edge = rw insert-chart (inserted-decoded old (admitted-laid old both.0) x y)

  -- A never of the longer chart is one of the old chart, in every region and for every size of a team.
  pub inserted-loosens : (p : ℕ) → AdmittedIn (take (len + 2) left) p
      → (size : Size) (a b : ℕ) → answer_for (region_of p (decode (take (len + 2) left))) size a b ≢ 0 → answer_for (region_of p (decode old)) size a b ≢ 0
  inserted-loosens p region = more-edges-loosen old (take (len + 2) left) p both.0 region (more_edges inserted-edge)

  -- Then the same edge is taken out.
  module _ (bytes : AllBytes buffer) where
    back : removed new x y ≡ old
    back = removed-inserted old (admitted-laid old both.0) x y (take-bytes len buffer (omega (arith, room)) bytes)

    there : edge_in (decode new).edges x y ≡ true
    there = edge_in_lem (inserted-decoded old (admitted-laid old both.0) x y)

    left-length : len + 2 ≤ length left
    left-length = omega (arith, ap length insert-leaves, length-append new (drop (len + 2) buffer), new-length)

    remove-rows : first_of (remove_rows left (len + 2) x y) ≡ none
    unfolding remove_rows length_row no_edge_row first_of
    remove-rows =
        rw (le-ltb (length left) (len + 2) left-length, insert-chart)
        (second-decides (admit_rows new) (no_edge_row new x y ∷ admit_rows (removed new x y)) both.1 ∙ rw (there, back) both.0)

    -- The length is what it was, and so is every byte of the chart; the two bytes behind it are 0, and those past them never changed.
    pub restored-length : remove_written (insert_left buffer len receipt x y) (len + 2) x y ≡ Ok len
    unfolding remove_written written_by written
    restored-length = let q : len + 2 - 2 ≡ len = omega arith in rw (remove-rows, q)

    pub restored : remove_left (insert_left buffer len receipt x y) (len + 2) x y ≡ take len buffer ++ (0 ∷ 0 ∷ drop (len + 2) buffer)
    unfolding remove_left left_by content
    restored =
        let freed : length (old ++ (0 ∷ 0 ∷ [])) ≡ len + 2 = omega (arith, length-append old (0 ∷ 0 ∷ []), old-length) in
        rw (remove-rows, insert-chart, back, freed) (append_assoc old (0 ∷ 0 ∷ []) (drop (len + 2) left)
        ∙ ap (λ (l : List ℕ). old ++ (0 ∷ 0 ∷ l)) (ap (drop (len + 2)) insert-leaves ∙ drop_at new (drop (len + 2) buffer) (len + 2) new-length))

-- Removal.
module _ (buffer : List ℕ) (len : ℕ) (x y : ℕ) {count : ℕ} (h : remove_written buffer len x y ≡ Ok count) where
  abbrev present : List ℕ
  present = take len buffer

  abbrev short : List ℕ
  short = removed present x y

  abbrev kept : List ℕ
  kept = remove_left buffer len x y

  gone : first_of (remove_rows buffer len x y) ≡ none
  unfolding remove_written written_by
  gone = (bytes-none _ h).0

  pub remove-returns : count ≡ len - 2
  unfolding remove_written written_by
  remove-returns = sym (bytes-none (first_of (remove_rows buffer len x y)) h).1

  pub fits_in : len ≤ length buffer
  unfolding remove_rows length_row
  fits_in = ltb-false (length buffer) len (none-applies (remove_rows buffer len x y) gone).0

  after-length-row : first_of (admit_rows present ++ (no_edge_row present x y ∷ admit_rows short)) ≡ none
  unfolding remove_rows
  after-length-row = (both-pass (length_row (length buffer) len ∷ []) (admit_rows present ++ (no_edge_row present x y ∷ admit_rows short)) gone).1

  was-admitted : Admitted present
  was-admitted = (both-pass (admit_rows present) (no_edge_row present x y ∷ admit_rows short) after-length-row).0

  last-rows : (first_of (no_edge_row present x y ∷ []) ≡ none) × Admitted short
  last-rows = both-pass (no_edge_row present x y ∷ []) (admit_rows short) (both-pass (admit_rows present) (no_edge_row present x y ∷ admit_rows short) after-length-row).1

  was-there : edge_in (decode present).edges x y ≡ true
  unfolding no_edge_row
  was-there = not-false _ (none-applies (no_edge_row present x y ∷ []) last-rows.0).0

  present-length : length present ≡ len
  present-length = length-take-le len buffer fits_in

  rising : Rising (decode present).edges
  rising = admitted-rising present was-admitted

  pub short-length : length short + 2 ≡ len
  short-length = removed-length present (admitted-laid present was-admitted) x y rising was-there ∙ present-length

  -- The buffer holds the shorter chart, two zeros, and past them what it held.
  pub remove-leaves : kept ≡ short ++ (0 ∷ 0 ∷ drop len buffer)
  unfolding remove_left left_by content
  remove-leaves =
      let freed : length (short ++ (0 ∷ 0 ∷ [])) ≡ len = omega (arith, length-append short (0 ∷ 0 ∷ []), short-length) in
      rw (gone, freed) (append_assoc short (0 ∷ 0 ∷ []) (drop len buffer))

  pub remove-chart : take (len - 2) kept ≡ short
  remove-chart = ap (take (len - 2)) remove-leaves ∙ take_at short (0 ∷ 0 ∷ drop len buffer) (len - 2) (omega (arith, short-length))

  -- The chart that is left is admitted: the old one is this one with the edge.
  pub removed-admitted : Admitted (take (len - 2) kept)
  removed-admitted = rw remove-chart last-rows.1

  pub removed-edge : WithEdge (decode (take (len - 2) kept)) (decode present) x y
  removed-edge = rw remove-chart (removed-decoded present (admitted-laid present was-admitted) x y rising was-there)

  -- A never of the old chart stays one, in every region and for every size of a team.
  pub removed-keeps : (p : ℕ) → AdmittedIn present p
      → (size : Size) (a b : ℕ) → answer_for (region_of p (decode present)) size a b ≢ 0 → answer_for (region_of p (decode (take (len - 2) kept))) size a b ≢ 0
  removed-keeps p region = more-edges-loosen (take (len - 2) kept) present p removed-admitted region (more_edges removed-edge)
