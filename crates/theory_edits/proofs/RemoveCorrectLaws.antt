-- Removal is correct: what 02 asks holds of the number and the bytes that its definition gives, for all bytes.
-- Assumes nothing.
use Rattle.std.specs.Prelude.{◌≡◌, refl, List, [], ◌∷◌, ◌++◌, ℕ, ◌+◌, ◌-◌, ◌≤◌, get_or, take, drop, Ok}
use Rattle.std.proofs.Common.{ap, sym, ◌∙◌, append_assoc, arith, length-append, get_or-append-add}
use Rattle.std.proofs.Math.Option.{Option, none, some}
use Rattle.std.proofs.Math.ListN.{length}
use Rattle.std.proofs.lemmas.List.{get_or_at}
use Rattle.lists.specs.Front.{front_length, front-past}
use Rattle.chart.specs.Refusal.{first_of}
use Rattle.output.specs.Output.{written, content, written_by, left_by, number_of}
use Rattle.theory_edits.specs.Splice.{removed}
use Rattle.theory_edits.specs.Edits.{remove_rows, remove_written, remove_left}
use Rattle.theory_edits.proofs.EditLaws.{fits_in, short-length, remove-leaves, removed-admitted, removed-edge}
use Rattle.theory_edits.specs.RemoveCorrect.{RemoveCorrect}
use Rattle.chart.specs.declared.format.Refusal.{Refusal}

module _ (buffer : List ℕ) (len x y : ℕ) where
  abbrev left : List ℕ
  left = remove_left buffer len x y

  abbrev short : List ℕ
  short = removed (take len buffer) x y

  -- where no row applies
  module _ (h : first_of (remove_rows buffer len x y) ≡ none) where
    goes : remove_written buffer len x y ≡ Ok (len - 2)
    unfolding remove_written written_by written
    goes = rw h

    -- the shorter chart and the two freed bytes
    abbrev new : List ℕ
    new = short ++ (0 ∷ 0 ∷ [])

    long : length new ≡ len
    long = omega (arith, length-append short (0 ∷ 0 ∷ []), short-length buffer len x y goes)

    leaves : left ≡ new ++ drop (length new) buffer
    leaves = remove-leaves buffer len x y goes ∙ sym (append_assoc short (0 ∷ 0 ∷ []) (drop len buffer)) ∙ ap (λ (n : ℕ). new ++ drop n buffer) (sym long)

    left-length : length left ≡ length buffer
    left-length = ap length leaves ∙ front_length new buffer (omega (arith, long, fits_in buffer len x y goes))

    left-past : (j : ℕ) → len ≤ j → get_or left j 0 ≡ get_or buffer j 0
    left-past j l = ap (λ (m : List ℕ). get_or m j 0) leaves ∙ front-past new buffer j (omega (arith, long))

    freed : (get_or left (len - 2) 0 ≡ 0) × (get_or left (len - 1) 0 ≡ 0)
    freed =
        let two = short-length buffer len x y goes in
        let first : length short ≡ len - 2 = omega arith in
        let second : length short + 1 ≡ len - 1 = omega arith in
        let zeros : List ℕ = 0 ∷ 0 ∷ drop len buffer in
        let is = remove-leaves buffer len x y goes in (
          ap (λ (m : List ℕ). get_or m (len - 2) 0) is ∙ get_or_at short 0 (0 ∷ drop len buffer) 0 (len - 2) first,
          ap (λ (m : List ℕ). get_or m (len - 1) 0) is ∙ ap (λ (n : ℕ). get_or (short ++ zeros) n 0) (sym second) ∙ get_or-append-add short zeros 1 0,
        )

  -- What 02 asks of removal.
  pub remove-correct : RemoveCorrect buffer len x y (number_of (remove_written buffer len x y)) left
  unfolding remove_written remove_left written_by left_by written content number_of
  remove-correct = record {
    refuses = λ row h. rw h (refl, refl);
    writes = λ h. (
      rw h,
      record {
        admitted = removed-admitted buffer len x y (goes h);
        without-edge = removed-edge buffer len x y (goes h);
        freed = freed h;
      },
    );
    rest = left-past;
    long = go (first_of (remove_rows buffer len x y)) refl;
  }
    where
      go : (o : Option Refusal) → first_of (remove_rows buffer len x y) ≡ o → length left ≡ length buffer
      go none h = left-length h
      go (some row) h = rw h
