-- Asking is correct, and so is commit by its receipt: it goes through exactly with the receipt that asking gives now, where there is room.
-- Assumes nothing.
use Rattle.std.specs.Prelude.{◌≡◌, List, [], ◌∷◌, ℕ, ◌+◌, ◌≤◌, eqb, length, Ok}
use Rattle.std.proofs.Math.Path.{refl}
use Rattle.std.proofs.Common.{ap, sym}
use Rattle.std.proofs.Math.Option.{Option, none, some}
use borrow.Author.Tests.{le-ltb, eq-eqb, eqb-true, not-false}
use Rattle.lists.specs.Truth.{bad, and_both}
use Rattle.chart.specs.Refusal.{Row, first_of}
use Rattle.chart.proofs.Rows.{none-applies, both-pass, second-decides}
use Rattle.output.specs.Output.{written, written_by}
use Rattle.output.proofs.Outputs.{bytes-none}
use Rattle.theory_edits.specs.Edits.{ask_rows, receipt_for, asked_by, asked, number_of, receipt_of, receipt_row, space_row, commit_rows, insert_written}
use Rattle.theory_edits.specs.AskCorrect.{AskCorrect}
use Rattle.theory_edits.specs.declared.Receipt.{Receipt}
use Rattle.chart.specs.declared.format.Refusal.{Refusal}

-- an answer read backwards
pub granted : (o : Option Refusal) {r q : Receipt} → asked_by o r ≡ Ok q → (o ≡ none) × (r ≡ q)
unfolding asked_by
granted none h = (refl, cc)
granted (some refusal) h = absurd (bad (cc))

-- What 02 asks of asking.
pub ask-correct : (buffer : List ℕ) (len x y : ℕ) → AskCorrect buffer len x y (number_of (asked buffer len x y)) (receipt_of (asked buffer len x y))
unfolding asked asked_by number_of receipt_of
ask-correct buffer len x y = record { refuses = λ row h. rw h (refl, refl); admits = λ h. rw h (refl, refl) }

same-receipt : {a b c d : ℕ} → a ≡ c → b ≡ d → ◌≡◌ {A = Receipt} (record { length = a; place = b }) (record { length = c; place = d })
same-receipt p q = λ i. record { length = p i; place = q i }

module _ (buffer : List ℕ) (len : ℕ) (receipt : Receipt) (from to : ℕ) where
  abbrev now : Receipt
  now = receipt_for buffer len from to

  abbrev later : List Row
  later = receipt_row receipt now ∷ space_row (length buffer) len ∷ []

  pub asked-committed : asked buffer len from to ≡ Ok receipt → len + 2 ≤ length buffer
      → insert_written buffer len receipt from to ≡ Ok (len + 2)
  unfolding asked insert_written commit_rows receipt_row space_row written_by written first_of
  asked-committed h room =
      let (passes, same) = granted (first_of (ask_rows buffer len from to)) h in
      rw (
        second-decides (ask_rows buffer len from to) later passes,
        ← same,
        eq-eqb now.length now.length refl,
        eq-eqb now.place now.place refl,
        le-ltb (length buffer) (len + 2) room,
      )

  pub committed-asked : {count : ℕ} → insert_written buffer len receipt from to ≡ Ok count → asked buffer len from to ≡ Ok receipt
  unfolding asked insert_written commit_rows receipt_row written_by asked_by
  committed-asked h =
      let (passes, rest) = both-pass (ask_rows buffer len from to) later (bytes-none _ h).0 in
      let (p, q) = and_both (eqb receipt.length now.length) (eqb receipt.place now.place) (not-false _ (none-applies later rest).0) in
      rw passes (ap Ok (same-receipt (sym (eqb-true _ _ p)) (sym (eqb-true _ _ q))))
