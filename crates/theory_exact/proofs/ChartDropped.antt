-- Locks that can be dropped, as in proofs/Dropped.antt, of each region of an admitted chart's bytes.
-- Assumes nothing.
use Rattle.std.specs.Prelude.{Bool, List, ℕ}
use Rattle.chart.specs.Format.{decode}
use Rattle.chart.specs.Reading.{region_of}
use Rattle.theory_paths.specs.Admission.{AdmittedIn}
use Rattle.theory_paths.specs.AdmissionLaws.{admitted-well-formed, admitted-connected}
use Rattle.theory_answers.specs.declared.Size.{Size}
use Rattle.theory_exact.specs.Droppable.{Droppable, AlwaysDroppable, Unlocking, Enough, AlwaysEnough}
use Rattle.theory_exact.proofs.Dropped.{dropped, always-dropped}

pub chart-dropped : (s : List ℕ) (p : ℕ) → AdmittedIn s p → (locks : ℕ → Bool) (size : Size)
    → Unlocking (region_of p (decode s)) locks (Droppable (region_of p (decode s)) size) → Enough (region_of p (decode s)) size locks
chart-dropped s p admitted locks size = dropped (admitted-well-formed s p admitted) (admitted-connected s p admitted) locks size

pub chart-always-dropped : (s : List ℕ) (p : ℕ) → AdmittedIn s p → (locks : ℕ → Bool) (size : Size)
    → Unlocking (region_of p (decode s)) locks (AlwaysDroppable (region_of p (decode s)) size) → AlwaysEnough (region_of p (decode s)) size locks
chart-always-dropped s p admitted locks size = always-dropped (admitted-well-formed s p admitted) (admitted-connected s p admitted) locks size
