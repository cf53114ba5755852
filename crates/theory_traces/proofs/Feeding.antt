-- What the rules allow is fed: an entry that is a step of one thread, or the next of a release, goes on to what the rules make of it.
-- Assumes nothing.
use Rattle.std.specs.Prelude.{◌≡◌, ◌≢◌, List, [], ◌∷◌, ◌++◌, ℕ, ◌≤◌, ◌<◌, get_or}
use Rattle.std.proofs.Common.{sym, ◌∙◌, ap}
use Rattle.std.proofs.Math.Option.{some}
use native.Mathlib.Omega.{arith}
use Rattle.std.proofs.Math.Dec.{eqb}
use Rattle.std.proofs.Math.ListN.{length}
use Rattle.lists.specs.Truth.{false-if}
use Rattle.lists.specs.Means.{equal_of}
use Rattle.chart.specs.Region.{barrier, Region}
use Rattle.chart.specs.WellFormed.{WellFormed}
use Rattle.theory_team.specs.State.{State, released}
use Rattle.theory_team.specs.Step.{ThreadStep}
use Rattle.theory_team.proofs.Laws.{no-barrier}
use Rattle.theory_traces.proofs.DecideLaws.{step-decided}
use Rattle.theory_traces.specs.Legal.{Gathered, Chooses}
use Rattle.theory_traces.specs.Replay.{Play, reached, chosen_now, choose, stepped, feed}
use Rattle.theory_traces.proofs.ReplayLaws.{gathered-of}

-- the play, with these nodes chosen
abbrev pub pending : Play → List ℕ → Play
pending P nodes = record { state = P.state; chosen = nodes; met = P.met }

module _ (m : ℕ) (P : Play) (nodes : List ℕ) where
  pub chosen-part : length nodes < m → chosen_now m P nodes ≡ pending P nodes
  unfolding chosen_now
  chosen-part l = rw (false-if {b = eqb (length nodes) m} (λ h. below ((equal_of (length nodes) m).0 h)))
    where
      below : length nodes ≡ m → ⊥
      below e = omega arith

  pub chosen-whole : length nodes ≡ m → chosen_now m P nodes ≡ reached m P.met (released m P.state (λ t. get_or nodes t 0))
  unfolding chosen_now
  chosen-whole e = rw ((equal_of (length nodes) m).1 e)

module _ (R : Region) (W : WellFormed R) (m : ℕ) where
  -- where all are gathered no thread steps alone
  pub none-alone : {σ τ : State} {t v : ℕ} → Gathered R m σ → t < m → ThreadStep R m σ t v τ → ⊥
  none-alone {t = t} G l s = no-barrier s (ap R.role (G.all_there t l) ∙ G.at-barrier)

  -- and only there a team is released
  pub release-gathered : 1 ≤ m → {σ : State} {b : ℕ} → R.role b ≡ barrier → b ≢ R.finish → ((t : ℕ) → t < m → σ.node t ≡ b) → Gathered R m σ
  release-gathered l h n all = let here = all 0 l in record {
    at-barrier = ap R.role here ∙ h;
    going_on = λ e. n (sym here ∙ e);
    all_there = λ k j. all k j ∙ sym here;
  }

  -- the entry of a step of one thread
  pub step-fed : (P : Play) (t v : ℕ) {τ : State} → t < m → ThreadStep R m P.state t v τ → feed R m P t v ≡ some (reached m P.met τ)
  unfolding feed stepped
  step-fed P t v l s =
      let M = step-decided R W m P.state t v l s in
      rw (false-if (λ g. none-alone ((gathered-of R m P.state).0 g) l s), M.allows) (ap (λ (ρ : State). some (reached m P.met ρ)) (sym M.makes))

  -- the entry of a release
  pub choice-fed : (P : Play) (t v : ℕ) → Chooses R m P.state P.chosen t v → feed R m P t v ≡ some (chosen_now m P (P.chosen ++ (v ∷ [])))
  unfolding feed choose
  choice-fed P t v C = rw ((gathered-of R m P.state).1 C.gathered, (equal_of t (length P.chosen)).1 C.in_order, C.along)
