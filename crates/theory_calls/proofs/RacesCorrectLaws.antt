-- Races is correct: what 02 asks holds of the number and the bytes that its definition gives, for all bytes; and no others have it.
-- Assumes nothing.
use Rattle.std.specs.Prelude.{◌≡◌, refl, false, List, [], ◌∷◌, ℕ, ◌≤◌, ◌<◌, ℤ, get_or}
use Rattle.std.proofs.Common.{sym, subst, ◌∙◌, arith}
use Rattle.std.proofs.Math.Option.{none}
use Rattle.lists.specs.Triangle.{pair_count, pair_place, place-below, pair-at}
use Rattle.chart.specs.Format.{decode}
use Rattle.chart.specs.Region.{Region}
use Rattle.chart.specs.Reading.{region_of}
use Rattle.chart.specs.Refusal.{first_of}
use Rattle.chart.specs.WellFormed.{WellFormed}
use Rattle.chart.proofs.Rows.{none-applies, both-pass}
use Rattle.theory_paths.specs.Path.{Open}
use Rattle.theory_paths.specs.Connected.{Connected}
use Rattle.theory_paths.specs.Admission.{region_rows}
use Rattle.theory_paths.specs.AdmissionLaws.{admitted-well-formed, admitted-connected}
use Rattle.theory_answers.specs.Numbers.{good-open}
use Rattle.output.specs.Output.{number_of}
use Rattle.output.proofs.OutputCorrectLaws.{output-correct, output-only}
use Rattle.theory_calls.specs.Access.{total, access_at, bad_accesses, accesses_row}
use Rattle.theory_calls.specs.Races.{race, races as all_races, list_rows, races_written, races_left}
use Rattle.theory_calls.specs.Race.{Race}
use Rattle.theory_calls.proofs.RaceLaws.{good-access, race-is, race-only, race-never, races-length, races-at}
use Rattle.theory_calls.specs.RacesCorrect.{RaceBytes, RacesCorrect}

module _ {R : Region} (W : WellFormed R) (C : Connected R) (list : List ℕ) (h : bad_accesses R list ≡ false) where
  open-node : (i : ℕ) → i < total list → Open R (access_at list i).node
  open-node i l = good-open R (access_at list i).node (good-access R list h i l).1

  -- what begins with the result has the bytes
  race-bytes : (new : List ℕ) → ((k : ℕ) → k < pair_count (total list) → get_or new k 0 ≡ get_or (all_races R list) k 0) → RaceBytes R list new
  race-bytes new e = record {
    races = λ i j l m.
        let n : i < total list = omega arith in
        subst (Race R (access_at list i) (access_at list j)) (sym (at i j l m))
        (race-is W C (access_at list i) (access_at list j) (open-node i n) (open-node j m) (good-access R list h i n).0 (good-access R list h j m).0);
    synchronized = λ i j l m q. race-never W C (access_at list i) (access_at list j) (sym (at i j l m) ∙ q);
  }
    where
      at : (i j : ℕ) → i ≤ j → j < total list → get_or new (pair_place (total list) i j) 0 ≡ race R (access_at list i) (access_at list j)
      at i j l m = e (pair_place (total list) i j) (place-below (total list) i j l m) ∙ races-at R list i j l m

-- two lists that have the bytes begin alike
same-races : {R : Region} (list : List ℕ) {v w : List ℕ} → RaceBytes R list v → RaceBytes R list w → (k : ℕ) → k < pair_count (total list) → get_or v k 0 ≡ get_or w k 0
same-races list {v} {w} A B k l =
    let (i, (j, (p, q, e))) = pair-at (total list) k l in
    subst (λ (n : ℕ). get_or v n 0 ≡ get_or w n 0) e (race-only (A.races i j p q) (B.races i j p q))

module _ (s : List ℕ) (p : ℕ) (list : List ℕ) where
  bytes_of : first_of (list_rows s p list) ≡ none → (new : List ℕ)
      → ((k : ℕ) → k < pair_count (total list) → get_or new k 0 ≡ get_or (all_races (region_of p (decode s)) list) k 0) → RaceBytes (region_of p (decode s)) list new
  unfolding list_rows accesses_row
  bytes_of h =
      let R = region_of p (decode s) in
      let (a, r) = both-pass (region_rows s p) (accesses_row R list ∷ []) h in
      race-bytes (admitted-well-formed s p a) (admitted-connected s p a) list (none-applies (accesses_row R list ∷ []) r).0

  -- What 02 asks of Races.
  pub races-correct : (old : List ℕ) → RacesCorrect s p list old (number_of (races_written s p list old)) (races_left s p list old)
  races-correct old =
      let R = region_of p (decode s) in
      output-correct (list_rows s p list) [] (all_races R list) old (pair_count (total list)) (races-length R list) (RaceBytes R list) bytes_of

  -- No other number and no other bytes are correct.
  pub races-only : (old : List ℕ) (number : ℤ) (new : List ℕ) → RacesCorrect s p list old number new
      → (number ≡ number_of (races_written s p list old)) × (new ≡ races_left s p list old)
  races-only old number new =
      let R = region_of p (decode s) in
      output-only (list_rows s p list) [] (all_races R list) old (pair_count (total list)) (races-length R list) (RaceBytes R list) number new
      (λ a h. same-races list h (bytes_of a (all_races R list) (λ k l. refl)))
