-- The theorem for the answer, of a size or of all, and of each region of an admitted chart's bytes.
-- Assumes nothing.
use Rattle.std.specs.Prelude.{◌≡◌, ◌↔◌, List, ℕ}
use Rattle.chart.specs.Format.{decode}
use Rattle.chart.specs.Region.{Region}
use Rattle.chart.specs.Reading.{region_of}
use Rattle.chart.specs.WellFormed.{WellFormed}
use Rattle.theory_paths.specs.Path.{Open}
use Rattle.theory_paths.specs.Connected.{Connected}
use Rattle.theory_paths.specs.Admission.{AdmittedIn}
use Rattle.theory_paths.specs.AdmissionLaws.{admitted-well-formed, admitted-connected}
use Rattle.theory_answers.specs.Answer.{answer_for}
use Rattle.theory_answers.specs.declared.Size.{Size}
use Rattle.theory_answers.specs.declared.Size.TheVariants.{Any, Of}
use Rattle.theory_exact.specs.Answered.{ConcurrentFor}
use Rattle.theory_exact.proofs.AnsweredLaws.{answer-exact, size_exact}

module _ {R : Region} (W : WellFormed R) (C : Connected R) {a b : ℕ} (oa : Open R a) (ob : Open R b) where
  -- of any one size, or of all
  pub exact-for : (size : Size) → (answer_for R size a b ≡ 0) ↔ ConcurrentFor R size a b
  exact-for Any = answer-exact W C oa ob
  exact-for (Of m) = size_exact W C oa ob m

pub chart-exact : (s : List ℕ) (p : ℕ) → AdmittedIn s p → (size : Size) (a b : ℕ) → Open (region_of p (decode s)) a → Open (region_of p (decode s)) b
    → (answer_for (region_of p (decode s)) size a b ≡ 0) ↔ ConcurrentFor (region_of p (decode s)) size a b
chart-exact s p admitted size a b oa ob = exact-for (admitted-well-formed s p admitted) (admitted-connected s p admitted) oa ob size
