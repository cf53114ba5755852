-- The theorem for any run, finished or not: the nodes are met exactly when no rule but "no common end" excludes them, in some team where no size is
-- given, and in a team of the size where one is. Then the same of each region of an admitted chart's bytes.
-- Assumes nothing.
use Rattle.std.specs.Prelude.{◌≡◌, ◌↔◌, false, List, ℕ, ◌≤◌}
use Rattle.std.proofs.Common.{inl, inr, arith}
use Rattle.std.proofs.Math.Decide.{dec_le, dec_lt}
use Rattle.lists.specs.Truth.{clash, false-if}
use Rattle.chart.specs.Format.{decode}
use Rattle.chart.specs.Region.{Region}
use Rattle.chart.specs.Reading.{region_of}
use Rattle.chart.specs.WellFormed.{WellFormed}
use Rattle.theory_paths.specs.Path.{Open}
use Rattle.theory_paths.specs.Connected.{Connected}
use Rattle.theory_paths.specs.Admission.{AdmittedIn}
use Rattle.theory_paths.specs.AdmissionLaws.{admitted-well-formed, admitted-connected}
use Rattle.theory_answers.specs.Unexcluded.{Lacks, HasThreads}
use Rattle.theory_answers.specs.declared.Size.{Size}
use Rattle.theory_answers.specs.declared.Size.TheVariants.{Any, Of}
use Rattle.theory_exact.specs.Barred.{one-thread, no-thread, in_all, BarredFor, is_barred_for}
use Rattle.theory_exact.proofs.BarredLaws.{barred-for-of, not-barred}
use Rattle.theory_exact.specs.Answered.{MeetsFor}
use Rattle.theory_exact.proofs.Unmet.{unmet}
use Rattle.theory_exact.proofs.Exactness.{meeting-in, meeting}

has-none : (R : Region) (m x : ℕ) → (Lacks R m x → ⊥) → HasThreads R m x
has-none R m x f c k i = elim (dec_lt (R.thread c) m) [ yes l ↦ l | no l ↦ absurd (f (c, ((k, i), omega arith))) ]

module _ {R : Region} (W : WellFormed R) (C : Connected R) {a b : ℕ} (oa : Open R a) (ob : Open R b) where
  met : (size : Size) → (BarredFor R size a b → ⊥) → MeetsFor R size a b
  met Any f = (meeting W C oa ob).0 (not-barred W a b f)
  met (Of m) f = (meeting-in W C oa ob m).0 (
    two (dec_le 2 m),
    has-none R m a (λ h. f (no-thread (inl h))),
    has-none R m b (λ h. f (no-thread (inr h))),
    not-barred W a b (λ h. f (in_all h)),
  )
    where
      two : Dec (2 ≤ m) → 2 ≤ m
      two (yes l) = l
      two (no l) = absurd (f (one-thread (omega arith)))

  pub meets-exact : (size : Size) → (is_barred_for R size a b ≡ false) ↔ MeetsFor R size a b
  meets-exact size = let B = barred-for-of W a b size in (
    (λ h. met size (λ g. clash (B.1 g) h)),
    λ M. false-if (λ h. unmet W C oa ob size (B.0 h) M),
  )

pub chart-meets : (s : List ℕ) (p : ℕ) → AdmittedIn s p → (size : Size) (a b : ℕ) → Open (region_of p (decode s)) a → Open (region_of p (decode s)) b
    → (is_barred_for (region_of p (decode s)) size a b ≡ false) ↔ MeetsFor (region_of p (decode s)) size a b
chart-meets s p admitted size a b oa ob = meets-exact (admitted-well-formed s p admitted) (admitted-connected s p admitted) oa ob size
