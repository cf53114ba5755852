-- Soundness: no rule excludes two nodes that are concurrent in some team. What holds of every meeting is in proofs/Unmet.antt; a finished run adds a
-- common end.
-- Assumes nothing.
use Rattle.std.proofs.Common.{subst}
use Rattle.std.specs.Prelude.{ℕ}
use Rattle.chart.specs.Region.{Region}
use Rattle.chart.specs.WellFormed.{WellFormed}
use Rattle.theory_paths.specs.Path.{Open}
use Rattle.theory_paths.specs.Connected.{Connected}
use Rattle.theory_paths.specs.Phases.{Direction, forward, backward, Boundary}
use Rattle.theory_team.specs.Run.{ConcurrentIn}
use Rattle.theory_team.specs.Meets.{concurrent-meets}
use Rattle.theory_answers.specs.Unexcluded.{Common, Unexcluded}
use Rattle.theory_exact.specs.Barred.{Unbarred}
use Rattle.theory_exact.specs.Runs.{after}
use Rattle.theory_exact.specs.Hops.{EndsAt, ends-path}
use Rattle.theory_exact.specs.Invariant.{Until, next-barrier}
use Rattle.theory_exact.proofs.Unmet.{met-unbarred}

module _ {R : Region} (W : WellFormed R) (C : Connected R) {m a b : ℕ} (M : ConcurrentIn R m a b) where
  pub sound : Open R a → Open R b → Unexcluded R a b
  sound oa ob = record {
    common = shared (next-barrier W C (after M.passed) M.finished);
    masters = U.masters;
    singles = U.singles;
    ordereds = U.ordereds;
    sections = U.sections;
  }
    where
      U : Unbarred R a b
      U = met-unbarred W C (concurrent-meets M) oa ob

      -- the barrier that all came from, and the one that all go on to
      shared : Until R m M.state → (d : Direction) → Common (Boundary d R) a b
      shared E forward = U.start
      shared E backward = (
        E.0,
        (
          record { no-barrier = oa; is-barrier = E.1; path = ends-path W E.1 (subst (EndsAt R E.0) M.at_a (E.2 M.t M.t-in)) oa },
          record { no-barrier = ob; is-barrier = E.1; path = ends-path W E.1 (subst (EndsAt R E.0) M.at_b (E.2 M.u M.u-in)) ob },
        ),
      )
