-- An entry to a node outside the region is forbidden (02, Note 12).
-- Assumes nothing.
use Rattle.std.specs.Prelude.{◌≡◌, true, List, ℕ, suc}
use Rattle.std.proofs.Common.{sym, subst}
use Rattle.chart.specs.Region.{opens, closes, Region}
use Rattle.chart.specs.WellFormed.{WellFormed}
use Rattle.theory_paths.specs.Connected.{Connected}
use Rattle.theory_paths.specs.PathLaws.{first_edge}
use Rattle.theory_team.specs.State.{State}
use Rattle.theory_team.specs.Step.{ThreadStep, move, enter, pass, again, take, take_next}
use Rattle.theory_traces.specs.Legal.{target_at, Legal, steps, chooses, releases}

module _ {R : Region} (W : WellFormed R) (C : Connected R) where
  begin-kept : {x c : ℕ} → R.role x ≡ opens c → R.kept x ≡ true
  begin-kept w = W.from-kept (first_edge (C.begin-to-finish w)).1

  end_kept : {x c : ℕ} → R.role x ≡ closes c → R.kept x ≡ true
  end_kept w = W.from-kept (first_edge (C.end-to-finish w)).1

  -- a step leads to a node of the region
  pub target-kept : {m : ℕ} {σ : State} {t v : ℕ} {τ : State} → ThreadStep R m σ t v τ → R.kept v ≡ true
  target-kept (move h e) = W.to-kept e
  target-kept (enter w p e) = W.to-kept e
  target-kept (pass w p e) = subst (λ (x : ℕ). R.kept x ≡ true) (sym e) (end_kept (W.opens-ended w))
  target-kept (again w k e) = W.to-kept e
  target-kept (take w k S u e) = subst (λ (x : ℕ). R.kept x ≡ true) (sym e) (begin-kept S.begun)
  target-kept (take_next w k S u e) = subst (λ (x : ℕ). R.kept x ≡ true) (sym e) (begin-kept S.begun)

  -- and so does an entry that is legal
  pub legal-kept : {m : ℕ} {trace : List ℕ} {k : ℕ} {σ : State} {nodes : List ℕ} → Legal R m trace (suc k) σ nodes → R.kept (target_at trace k) ≡ true
  legal-kept (steps L l s) = target-kept s
  legal-kept (chooses L D short) = W.to-kept D.along
  legal-kept (releases L D whole) = W.to-kept D.along
