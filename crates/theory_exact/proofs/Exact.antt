-- The theorem: two nodes that are no barriers are excluded by no pair rule exactly when some finished run of some team has two threads at them
-- in one state; and, for one size of teams, exactly when the team is also large enough for them. Of runs that need not finish the same holds of the
-- rules but "no common end".
-- Assumes nothing.
use Rattle.std.proofs.Common.{sym, subst, inl, inr, arith}
use Rattle.std.specs.Prelude.{◌⊎◌, ◌≢◌, ℕ, suc, ◌≤◌, ◌<◌}
use Rattle.std.proofs.Math.Decide.{ℕ_discrete}
use Rattle.chart.specs.Region.{master, Region}
use Rattle.chart.specs.WellFormed.{WellFormed}
use Rattle.theory_paths.specs.Path.{Open}
use Rattle.theory_paths.specs.Connected.{Connected}
use Rattle.theory_team.specs.Run.{ConcurrentIn}
use Rattle.theory_team.specs.Meets.{concurrent-meets}
use Rattle.theory_team.proofs.Laws.{two-threads}
use Rattle.theory_answers.specs.Unexcluded.{HasThreads, Unexcluded}
use Rattle.theory_exact.specs.Barred.{Unbarred, unexcluded-unbarred}
use Rattle.theory_exact.specs.Nesting.{Within, Without, within}
use Rattle.theory_exact.specs.Invariant.{MasterOf}
use Rattle.theory_exact.proofs.Unmet.{met-has-a, met-has-b}
use Rattle.theory_exact.proofs.Sound.{sound}
use Rattle.theory_exact.specs.Rendezvous.{Chosen}
use Rattle.theory_exact.specs.Complete.{complete}

module _ {R : Region} (W : WellFormed R) where
  pub its-master : {x : ℕ} (h : Within R master x) → MasterOf R (R.thread h.0) x
  its-master h c k i = W.one-thread h.2 i h.1 k

  any-thread : {x t : ℕ} → Without R master x → MasterOf R t x
  any-thread h c k i = absurd (h c k i)

  -- 0 or 1, whichever n is not
  another : {m : ℕ} → 2 ≤ m → (n : ℕ) → (t : ℕ) × (t < m) × (n ≢ t)
  another two n = elim (ℕ_discrete n 0) [ yes z ↦ (1, omega arith, omega arith) | no z ↦ (0, omega arith, z) ]

  pub chosen : {m a b : ℕ} → Unbarred R a b → 2 ≤ m → HasThreads R m a → HasThreads R m b → Within R master a ⊎ Without R master a → Within R master b ⊎ Without R master b
      → Chosen R m a b
  chosen D two fa fb (inl x) (inl y) = record {
    p = R.thread x.0;
    q = R.thread y.0;
    p-in = fa x.0 x.1 x.2;
    q-in = fb y.0 y.1 y.2;
    differ = D.masters x.0 y.0 x.1 y.1 x.2 y.2;
    master-p = its-master x;
    master-q = its-master y;
  }
  chosen D two fa fb (inl x) (inr y) = let o = another two (R.thread x.0) in record {
    p = R.thread x.0;
    q = o.0;
    p-in = fa x.0 x.1 x.2;
    q-in = o.1;
    differ = o.2;
    master-p = its-master x;
    master-q = any-thread y;
  }
  chosen D two fa fb (inr x) (inl y) = let o = another two (R.thread y.0) in record {
    p = o.0;
    q = R.thread y.0;
    p-in = o.1;
    q-in = fb y.0 y.1 y.2;
    differ = λ z. o.2 (sym z);
    master-p = any-thread x;
    master-q = its-master y;
  }
  chosen D two fa fb (inr x) (inr y) = record {
    p = 0;
    q = 1;
    p-in = omega arith;
    q-in = omega arith;
    differ = omega arith;
    master-p = any-thread x;
    master-q = any-thread y;
  }

  -- every team that is large enough fits
  pub size_for : {x : ℕ} → Within R master x ⊎ Without R master x → (n : ℕ) × ((m : ℕ) → n ≤ m → HasThreads R m x)
  size_for (inl h) = (suc (R.thread h.0), λ m l c k i. subst (λ (n : ℕ). n < m) (its-master h c k i) l)
  size_for (inr h) = (0, λ m l c k i. absurd (h c k i))

module _ {R : Region} (W : WellFormed R) (C : Connected R) {a b : ℕ} (oa : Open R a) (ob : Open R b) where
  pub soundness : {m : ℕ} → ConcurrentIn R m a b → (2 ≤ m) × HasThreads R m a × HasThreads R m b × Unexcluded R a b
  soundness {m} M = (
    two-threads M,
    met-has-a W C (concurrent-meets M),
    met-has-b W C (concurrent-meets M),
    sound W C M oa ob,
  )

  pub completeness : {m : ℕ} → 2 ≤ m → HasThreads R m a → HasThreads R m b → Unexcluded R a b → ConcurrentIn R m a b
  completeness two fa fb D = complete W C (chosen W (unexcluded-unbarred D) two fa fb (within W master a) (within W master b)) oa ob D
