-- What 02 asks of Races (Note 9), for a buyer: what its number and bytes say in variables, writes, criticals and finished runs, with locks and
-- without (`Race` in specs/Race.antt, `LockedIn` in crate theory_team). It rests on the team rules, on how the bytes of a chart and of a list are read
-- and on the table of refusals; it mentions no phase and no answer.
-- Assumes nothing.
use Rattle.std.specs.Prelude.{◌≡◌, List, [], ℕ, ◌≤◌, ◌<◌, ℤ, length, get_or}
use Rattle.lists.specs.Triangle.{pair_count, pair_place}
use Rattle.chart.specs.Format.{decode}
use Rattle.chart.specs.Region.{Region}
use Rattle.chart.specs.Reading.{region_of}
use Rattle.theory_team.specs.Locks.{LockedIn}
use Rattle.output.specs.Output.{output_rows}
use Rattle.output.specs.OutputCorrect.{OutputCorrect}
use Rattle.theory_calls.specs.Access.{total, access_at}
use Rattle.theory_calls.specs.Races.{list_rows}
use Rattle.theory_calls.specs.Race.{Race}

-- A byte for each pair of accesses i and j of the list, i not above j, by i and then by j.
pub record RaceBytes (R : Region) (list new : List ℕ) : Type 0 where
  -- it says what the two are to each other
  pub races : (i j : ℕ) → i ≤ j → j < total list → Race R (access_at list i) (access_at list j) (get_or new (pair_place (total list) i j) 0)
  -- at a synchronization pair no finished run that keeps the locks, of any team, has two threads together
  pub synchronized : (i j : ℕ) → i ≤ j → j < total list → get_or new (pair_place (total list) i j) 0 ≡ 1
      → (m : ℕ) → LockedIn R m (access_at list i).node (access_at list j).node → ⊥

-- The number and the lent bytes afterwards are right for the bytes of a chart, the number of a region, the bytes of a list of accesses and the lent
-- bytes before. Rows 1 to 10, then 23, then 20, then 11.
abbrev pub RacesCorrect : List ℕ → ℕ → List ℕ → List ℕ → ℤ → List ℕ → Type 0
RacesCorrect s p list old =
    let size = pair_count (total list) in
    OutputCorrect (output_rows (list_rows s p list) (length old) size []) size (RaceBytes (region_of p (decode s)) list) old
