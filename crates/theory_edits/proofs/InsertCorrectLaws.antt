-- Commit is correct: what 02 asks holds of the number and the bytes that its definition gives, for all bytes.
-- Assumes nothing.
use Rattle.std.specs.Prelude.{◌≡◌, refl, List, ◌++◌, ℕ, ◌+◌, ◌≤◌, get_or, take, drop, Ok}
use Rattle.std.proofs.Common.{ap, sym, ◌∙◌, arith}
use Rattle.std.proofs.Math.Option.{Option, none, some}
use Rattle.std.proofs.Math.ListN.{length}
use Rattle.lists.specs.Front.{front_length, front-past}
use Rattle.chart.specs.Refusal.{first_of}
use Rattle.output.specs.Output.{written, content, written_by, left_by, number_of}
use Rattle.theory_edits.specs.Splice.{inserted}
use Rattle.theory_edits.specs.Edits.{commit_rows, insert_written, insert_left}
use Rattle.theory_edits.proofs.EditLaws.{room, new-length, insert-leaves, inserted-admitted, inserted-edge}
use Rattle.theory_edits.specs.declared.Receipt.{Receipt}
use Rattle.theory_edits.specs.InsertCorrect.{InsertCorrect}
use Rattle.chart.specs.declared.format.Refusal.{Refusal}

module _ (buffer : List ℕ) (len : ℕ) (receipt : Receipt) (x y : ℕ) where
  abbrev left : List ℕ
  left = insert_left buffer len receipt x y

  -- where no row applies
  module _ (h : first_of (commit_rows buffer len receipt x y) ≡ none) where
    goes : insert_written buffer len receipt x y ≡ Ok (len + 2)
    unfolding insert_written written_by written
    goes = rw h

    abbrev new : List ℕ
    new = inserted (take len buffer) x y

    long : length new ≡ len + 2
    long = new-length buffer len receipt x y goes

    leaves : left ≡ new ++ drop (length new) buffer
    leaves = insert-leaves buffer len receipt x y goes ∙ ap (λ (n : ℕ). new ++ drop n buffer) (sym long)

    left-length : length left ≡ length buffer
    left-length = ap length leaves ∙ front_length new buffer (omega (arith, long, room buffer len receipt x y goes))

    left-past : (j : ℕ) → len + 2 ≤ j → get_or left j 0 ≡ get_or buffer j 0
    left-past j l = ap (λ (m : List ℕ). get_or m j 0) leaves ∙ front-past new buffer j (omega (arith, long))

  -- What 02 asks of commit.
  pub insert-correct : InsertCorrect buffer len receipt x y (number_of (insert_written buffer len receipt x y)) left
  unfolding insert_written insert_left written_by left_by written content number_of
  insert-correct = record {
    refuses = λ row h. rw h (refl, refl);
    writes = λ h. (
      rw h,
      record {
        admitted = inserted-admitted buffer len receipt x y (goes h);
        with-edge = inserted-edge buffer len receipt x y (goes h);
      },
    );
    rest = left-past;
    long = go (first_of (commit_rows buffer len receipt x y)) refl;
  }
    where
      go : (o : Option Refusal) → first_of (commit_rows buffer len receipt x y) ≡ o → length left ≡ length buffer
      go none h = left-length h
      go (some row) h = rw h
