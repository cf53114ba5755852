-- Two threads come from one barrier to two nodes: the first walks to its node, then the second to its own, while the rest of the team waits where
-- the release left it.
-- Assumes nothing.
use Rattle.std.specs.Prelude.{◌≡◌, ◌≢◌, true, ℕ, ◌<◌}
use Rattle.std.proofs.Common.{ap, sym, ◌∙◌, subst, inl}
use Rattle.std.proofs.Math.Decide.{ℕ_discrete}
use Rattle.chart.specs.Region.{barrier, Region}
use Rattle.chart.specs.WellFormed.{WellFormed}
use Rattle.theory_paths.specs.Path.{Edge, Open, BarrierFree}
use Rattle.theory_paths.specs.Connected.{Connected}
use Rattle.theory_paths.specs.PathLaws.{Rest, first_edge}
use Rattle.theory_team.specs.State.{State, update, released}
use Rattle.theory_team.specs.Run.{Run, step}
use Rattle.theory_team.proofs.Laws.{update-at, update-off, released-at, released-count}
use Rattle.theory_exact.specs.Hops.{EndsAt, released-outside}
use Rattle.theory_exact.specs.Runs.{append}
use Rattle.theory_exact.specs.Invariant.{MasterOf}
use Rattle.theory_exact.specs.Solo.{Comes}
use Rattle.theory_exact.specs.Travel.{AllAt, Bound, let_go}

-- Threads p and q of a team of m, chosen to come to a and b.
pub record Chosen (R : Region) (m a b : ℕ) : Type 0 where
  pub p : ℕ
  pub q : ℕ
  pub p-in : p < m
  pub q-in : q < m
  pub differ : p ≢ q
  pub master-p : MasterOf R p a
  pub master-q : MasterOf R q b

-- They have come there, and the others are bound for the barrier e.
pub record Rendezvous {R : Region} {m a b : ℕ} (X : Chosen R m a b) (σ : State) (e : ℕ) : Type 0 where
  pub state : State
  pub run : Run R m σ state
  pub at_a : state.node X.p ≡ a
  pub at_b : state.node X.q ≡ b
  pub others : (k : ℕ) → k < m → k ≢ X.p → k ≢ X.q → Bound R e (state.node k)

-- What a release leaves: nobody is in a construct, and all counts are 0.
pub record Fresh (R : Region) (m : ℕ) (σ : State) : Type 0 where
  pub outside : (k : ℕ) → k < m → (c : ℕ) → R.inside (σ.node k) c ≡ true → ⊥
  pub none : (k c : ℕ) → σ.encounters k c ≡ 0

-- How p goes to a, from a node v that a release has brought it to, and what is known of it then.
abbrev pub FirstLeg : {R : Region} {m a b : ℕ} → Chosen R m a b → (State → Type 0) → ℕ → Type 0
FirstLeg {R} {m} {a} X Q v = (σ : State) → Fresh R m σ → σ.node X.p ≡ v → (A : Comes R (Open R) m X.p σ a) × Q A.0

-- Thread p has come to a, and q waits at v.
pub record Halfway {R : Region} {m a b : ℕ} (X : Chosen R m a b) (Q : State → Type 0) (v : ℕ) (σ : State) : Type 0 where
  pub at_a : σ.node X.p ≡ a
  pub at-v : σ.node X.q ≡ v
  pub outside : (k : ℕ) → k < m → k ≢ X.p → (c : ℕ) → R.inside (σ.node k) c ≡ true → ⊥
  pub none : (k : ℕ) → k ≢ X.p → (c : ℕ) → σ.encounters k c ≡ 0
  pub known : Q σ

-- How q goes on from there, at the first node of a path to y.
abbrev pub SecondLeg : {R : Region} {m a b : ℕ} → Chosen R m a b → (State → Type 0) → ℕ → Type 0
SecondLeg {R} {m} {b = b} X Q y = (v : ℕ) → Rest (Edge R) (Open R) v y → (σ : State) → Halfway X Q v σ → Comes R (Open R) m X.q σ b

module _ {R : Region} (W : WellFormed R) (C : Connected R) {m a b : ℕ} (X : Chosen R m a b) {Q : State → Type 0} where
  -- q takes the first edge of its own path, and all others take p's
  pub rendezvous : {s e v y : ℕ} → R.role s ≡ barrier → R.edge s v ≡ true → EndsAt R e v → FirstLeg X Q v → BarrierFree R s y → SecondLeg X Q y
      → {σ : State} → AllAt m σ s → Rendezvous X σ e
  rendezvous {s} {e} {v} {y} bar edge-v ends-v first wb second {σ} all = record {
    state = T.0;
    run = step (let_go W C bar all to edges edge-v) (append S.0.1.run T.1.run);
    at_a = T.1.node-same X.p X.differ ∙ S.0.2;
    at_b = T.2;
    others = λ k l i j. subst (Bound R e) (sym (T.1.node-same k j ∙ S.0.1.node-same k i ∙ released-at m σ to k l ∙ to-others j))
        (ends-v, λ d o. released-outside W bar edge-v (inl o.within));
  }
    where
      B : (v : ℕ) × (R.edge s v ≡ true) × Rest (Edge R) (Open R) v y
      B = first_edge wb

      to : ℕ → ℕ
      to = update (λ n. v) X.q B.0

      to-others : {k : ℕ} → k ≢ X.q → to k ≡ v
      to-others {k} n = update-off (λ n. v) X.q B.0 k n

      edges : (k : ℕ) → k < m → R.edge s (to k) ≡ true
      edges k l = elim (ℕ_discrete k X.q) [
        | yes i ↦ subst (λ (x : ℕ). R.edge s x ≡ true) (sym (ap to i ∙ update-at (λ n. v) X.q B.0)) B.1
        | no i ↦ subst (λ (x : ℕ). R.edge s x ≡ true) (sym (to-others i)) edge-v
      ]

      F : Fresh R m (released m σ to)
      F = record {
        outside = λ k l c i. released-outside W bar (edges k l) (inl (subst (λ (x : ℕ). R.inside x c ≡ true) (released-at m σ to k l) i));
        none = released-count m σ to;
      }

      S : (A : Comes R (Open R) m X.p (released m σ to) a) × Q A.0
      S = first (released m σ to) F (released-at m σ to X.p X.p-in ∙ to-others X.differ)

      H : Halfway X Q B.0 S.0.0
      H = record {
        at_a = S.0.2;
        at-v = S.0.1.node-same X.q (λ z. X.differ (sym z)) ∙ released-at m σ to X.q X.q-in ∙ update-at (λ n. v) X.q B.0;
        outside = λ k l i c h. F.outside k l c (subst (λ (x : ℕ). R.inside x c ≡ true) (S.0.1.node-same k i) h);
        none = λ k i c. S.0.1.count_same k i c ∙ F.none k c;
        known = S.1;
      }

      T : Comes R (Open R) m X.q S.0.0 b
      T = second B.0 B.2 S.0.0 H
