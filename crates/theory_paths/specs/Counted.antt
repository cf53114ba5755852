-- The barriers of a region are those that row 8 counts, by the bytes of a node; and of an admitted chart no region has more than a mask has bits.
-- Assumes nothing.
use Rattle.std.specs.Prelude.{◌≡◌, Bool, not, List, ℕ, ◌≤◌, length}
use Rattle.std.proofs.Common.{◌∙◌, arith}
use Rattle.lists.specs.Truth.{same_truth}
use Rattle.lists.specs.Counting.{count-mono}
use Rattle.lists.specs.Select.{select-length}
use Rattle.chart.specs.Format.{Decoded, decode}
use Rattle.chart.specs.Reading.{region_of}
use Rattle.chart.specs.Refusal.{barrier_of}
use Rattle.chart.proofs.Facts.{TablesFit}
use Rattle.chart.proofs.Kept.{barrier-counted, counted-barrier}
use Rattle.chart.proofs.Accepted.{fits}
use Rattle.theory_paths.specs.Decide.{no_barrier}
use Rattle.theory_paths.specs.Admission.{AdmittedIn}
use Rattle.theory_paths.specs.AdmissionLaws.{admitted-rows, admitted-named}
use Rattle.theory_paths.specs.Phases.{barriers}
use Rattle.theory_paths.specs.PhasesLaws.{barrier-of}

pub barrier-test : (D : Decoded) → TablesFit D → (p x : ℕ) → barrier_of D.nodes p x ≡ not (no_barrier ((region_of p D).role x))
barrier-test D F p x = same_truth _ _
    (λ h. (barrier-of ((region_of p D).role x)).1 (counted-barrier D F p x h))
    (λ h. barrier-counted D F p x ((barrier-of ((region_of p D).role x)).0 h))

pub barriers-few : (s : List ℕ) (p : ℕ) → AdmittedIn s p → length (barriers (region_of p (decode s))) ≤ 64
unfolding barriers
barriers-few s p admitted =
    let D = decode s in
    let F = (fits s (admitted-rows s p admitted)).1 in
    let n = length D.nodes in
    let test : ℕ → Bool = λ x. not (no_barrier ((region_of p D).role x)) in
    omega (
      arith,
      select-length n test,
      count-mono n test (barrier_of D.nodes p) (λ x l h. barrier-test D F p x ∙ h),
      F.barriers.most p (admitted-named s p admitted),
    )
