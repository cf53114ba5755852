-- Asking: the rows of the present chart decide, or leave it to those of the longer one, to which all numbers that fit no byte are alike.
-- Assumes nothing.
use Rattle.std.specs.Prelude.{Ok, Err}
use mathlib.Core.Path.{◌≡◌, ap}
use mathlib.Core.Logic.{◌⊎◌, inl, inr}
use mathlib.Core.List.{List}
use mathlib.Core.Option.{Option, none, some}
use Prim.Native.Nat.{ℕ, min}
use lib.ListN.{take}
use lib.Seq.{length-take-le}
use Rattle.lists.specs.Truth.{bad}
use Rattle.chart.specs.Refusal.{first_of}
use Rattle.chart.specs.declared.format.Refusal.{Refusal}
use Rattle.chart.proofs.Rows.{first-decides, second-decides}
use Rattle.theory_paths.specs.Admission.{admit_rows, Admitted}
use Rattle.theory_edits.specs.Splice.{inserted}
use Rattle.theory_edits.specs.Edits.{ask_rows, receipt_for, asked_by, asked}
use Rattle.theory_edits.proofs.NoNode.{no_node_row, no-node-refused, Unchanged, as_bytes}
use Rattle.theory_edits.specs.declared.Receipt.{Receipt}
use Rattle.call_edges.specs.Asking.{front_rows, receipt_on, asked_on}
use Rattle.call_edges.proofs.CheckLaws.{front-admitted}

-- an answer read backwards
pub refused-some : (o : Option Refusal) (receipt : Receipt) {refusal : Refusal} → asked_by o receipt ≡ Err refusal → o ≡ some refusal
unfolding asked_by
refused-some none receipt h = absurd (bad (cc))
refused-some (some given) receipt {refusal} h = ap some same
  where
    same : given ≡ refusal
    same = cc

pub apart : {refusal : Refusal} {receipt : Receipt} → Err refusal ≡ Ok receipt → ⊥
apart h = bad (cc)

-- by the rows of the longer chart
module _ (s : List ℕ) (x y : ℕ) where
  pub longer-refused : (refusal : Refusal) → first_of (admit_rows (inserted s x y)) ≡ some refusal → Err refusal ≡ asked_on s x y
  unfolding asked_by
  longer-refused refusal h = rw h

  pub longer-admitted : first_of (admit_rows (inserted s x y)) ≡ none → Ok (receipt_on s x y) ≡ asked_on s x y
  unfolding asked_by
  longer-admitted h = rw h

-- after the rows of the present chart
module _ (buffer : List ℕ) (len x y : ℕ) where
  pub front-refused : (refusal : Refusal) → first_of (front_rows buffer len) ≡ some refusal → Err refusal ≡ asked buffer len x y
  unfolding asked ask_rows asked_by
  front-refused refusal h = rw (first-decides (front_rows buffer len) (admit_rows (inserted (take len buffer) x y)) refusal h)

  pub front-passed : first_of (front_rows buffer len) ≡ none → asked_on (take len buffer) x y ≡ asked buffer len x y
  unfolding asked ask_rows receipt_for
  front-passed h =
      rw (second-decides (front_rows buffer len) (admit_rows (inserted (take len buffer) x y)) h, length-take-le len buffer (front-admitted buffer len h).0)

-- of an edge whose numbers are read as bytes
module _ (s : List ℕ) (admits : Admitted s) (x y : ℕ) where
  read : Unchanged x y ⊎ ((first_of (admit_rows (inserted s (min x 255) (min y 255))) ≡ some (no_node_row s)) × (first_of (admit_rows (inserted s x y)) ≡ some (no_node_row s)))
  read = as_bytes s admits (λ u v. first_of (admit_rows (inserted s u v)) ≡ some (no_node_row s)) (no-node-refused s admits) x y

  pub asked-as-bytes : asked_on s (min x 255) (min y 255) ≡ asked_on s x y
  unfolding asked_by
  asked-as-bytes = elim read [ inl (p, q) ↦ rw (p, q) | inr (h, k) ↦ rw (h, k) ]

  pub inserted-as-bytes : {receipt : Receipt} → asked_on s x y ≡ Ok receipt → inserted s (min x 255) (min y 255) ≡ inserted s x y
  unfolding asked_by
  inserted-as-bytes h = elim read [ inl (p, q) ↦ rw (p, q) | inr (f, k) ↦ absurd (apart (rw k at h)) ]
