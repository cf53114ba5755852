-- The theorem for the answer of all teams, and of teams of one size.
-- Assumes nothing.
use Rattle.std.specs.Prelude.{◌≡◌, ◌↔◌, ℕ}
use Rattle.chart.specs.Region.{Region}
use Rattle.chart.specs.WellFormed.{WellFormed}
use Rattle.theory_paths.specs.Path.{Open}
use Rattle.theory_paths.specs.Connected.{Connected}
use Rattle.theory_team.specs.Run.{ConcurrentIn, Concurrent}
use Rattle.theory_answers.specs.Answer.{answer, answer_in}
use Rattle.theory_answers.proofs.AnswerLaws.{answer-unexcluded}
use Rattle.theory_answers.proofs.SizeLaws.{answer-in}
use Rattle.theory_exact.proofs.Exactness.{exactness-in, exactness}

module _ {R : Region} (W : WellFormed R) (C : Connected R) {a b : ℕ} (oa : Open R a) (ob : Open R b) where
  pub answer-exact : (answer R a b ≡ 0) ↔ Concurrent R a b
  answer-exact = let U = answer-unexcluded W a b in let E = exactness W C oa ob in ((λ e. E.0 (U.0 e)), λ M. U.1 (E.1 M))

  -- teams of m threads, whatever m is
  pub size_exact : (m : ℕ) → (answer_in R m a b ≡ 0) ↔ ConcurrentIn R m a b
  size_exact m = let A = answer-in W m a b in let E = exactness-in W C oa ob m in ((λ e. E.0 (A.0 e)), λ M. A.1 (E.1 M))
