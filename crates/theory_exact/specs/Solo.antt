-- One thread alone: what it does while the others stand still.
-- Assumes nothing.
use Rattle.std.specs.Prelude.{◌≡◌, refl, ◌⊎◌, ◌≢◌, true, ℕ, ◌≤◌, ◌<◌}
use Rattle.std.proofs.Common.{ap, sym, ◌∙◌, subst, inl, inr, arith}
use Rattle.std.proofs.Math.Decide.{ℕ_discrete}
use Rattle.chart.specs.Region.{opens, Outermost, Region}
use Rattle.chart.specs.WellFormed.{WellFormed}
use Rattle.theory_team.specs.State.{State}
use Rattle.theory_team.specs.Step.{ThreadStep, one}
use Rattle.theory_team.specs.Run.{Run, done, step}
use Rattle.theory_team.proofs.Laws.{node_kept, count_kept, taken-kept, own-taken, counted}
use Rattle.theory_exact.specs.Runs.{append}
use Rattle.theory_exact.specs.Invariant.{grows}

-- From σ to τ thread t alone moves, and P holds of the begins of outermost constructs that it leaves: of the others its count and what it has
-- taken stay.
pub record Solo (R : Region) (P : ℕ → Type 0) (m t : ℕ) (σ τ : State) : Type 0 where
  pub run : Run R m σ τ
  pub node-same : (k : ℕ) → k ≢ t → τ.node k ≡ σ.node k
  pub count_same : (k : ℕ) → k ≢ t → (c : ℕ) → τ.encounters k c ≡ σ.encounters k c
  pub taken-same : (k : ℕ) → k ≢ t → (c x : ℕ) → τ.taken k c x ≡ σ.taken k c x
  pub grow : (c : ℕ) → σ.encounters t c ≤ τ.encounters t c
  pub leaves : (c : ℕ) → Outermost (R.kind c) → (τ.encounters t c ≡ σ.encounters t c) ⊎ P (R.begin c)
  pub keeps : (c x : ℕ) → Outermost (R.kind c) → σ.taken t c x ≡ true → (τ.taken t c x ≡ true) ⊎ P (R.begin c)

-- Thread t alone comes to y.
abbrev pub Comes : Region → (ℕ → Type 0) → ℕ → ℕ → State → ℕ → Type 0
Comes R P m t σ y = (τ : State) × Solo R P m t σ τ × (τ.node t ≡ y)

-- It leaves the begin of no outermost construct.
abbrev pub Never : ℕ → Type 0
Never x = ⊥

module _ {R : Region} {P : ℕ → Type 0} {m t : ℕ} where
  pub stay : {σ : State} → Solo R P m t σ σ
  stay = record {
    run = done;
    node-same = λ k n. refl;
    count_same = λ k n c. refl;
    taken-same = λ k n c x. refl;
    grow = λ c. omega arith;
    leaves = λ c u. inl refl;
    keeps = λ c x u h. inl h;
  }

  pub then : {σ τ ρ : State} → Solo R P m t σ τ → Solo R P m t τ ρ → Solo R P m t σ ρ
  then A B = record {
    run = append A.run B.run;
    node-same = λ k n. B.node-same k n ∙ A.node-same k n;
    count_same = λ k n c. B.count_same k n c ∙ A.count_same k n c;
    taken-same = λ k n c x. B.taken-same k n c x ∙ A.taken-same k n c x;
    grow = λ c. omega (arith, A.grow c, B.grow c);
    leaves = λ c u. elim (A.leaves c u) [ inr p ↦ inr p | inl q ↦ elim (B.leaves c u) [ inr p ↦ inr p | inl z ↦ inl (z ∙ q) ] ];
    keeps = λ c x u h. elim (A.keeps c x u h) [ inr p ↦ inr p | inl q ↦ B.keeps c x u q ];
  }

  -- a step of t, where P holds of the begin that it leaves
  pub alone : t < m → {σ τ : State} {v : ℕ} → ThreadStep R m σ t v τ
      → ((c : ℕ) → Outermost (R.kind c) → R.role (σ.node t) ≡ opens c → P (R.begin c)) → Solo R P m t σ τ
  alone l S p = record {
    run = step (one l S) done;
    node-same = node_kept S;
    count_same = count_kept S;
    taken-same = taken-kept S;
    grow = grows S;
    leaves = λ c u. elim (counted S c) [ inl h ↦ inl h.1 | inr h ↦ inr (p c u h.0) ];
    keeps = λ c x u h. elim (own-taken S c x) [ inl q ↦ inl (q ∙ h) | inr (inl w) ↦ inr (p c u w) | inr (inr q) ↦ inl q ];
  }

-- for which it is enough that P holds of the node that it leaves
pub alone_at : {R : Region} → WellFormed R → {P : ℕ → Type 0} {m t : ℕ} → t < m → {σ τ : State} {v : ℕ} → ThreadStep R m σ t v τ → P (σ.node t) → Solo R P m t σ τ
alone_at W {P} l S p = alone l S (λ c u w. subst P (W.opens-begin w) p)

-- what has P has Q
pub loosen : {R : Region} {P Q : ℕ → Type 0} {m t : ℕ} {σ τ : State} → ((z : ℕ) → P z → Q z) → Solo R P m t σ τ → Solo R Q m t σ τ
loosen {R} f A = record {
  run = A.run;
  node-same = A.node-same;
  count_same = A.count_same;
  taken-same = A.taken-same;
  grow = A.grow;
  leaves = λ c u. elim (A.leaves c u) [ inl q ↦ inl q | inr p ↦ inr (f (R.begin c) p) ];
  keeps = λ c x u h. elim (A.keeps c x u h) [ inl q ↦ inl q | inr p ↦ inr (f (R.begin c) p) ];
}

pub quietly : {R : Region} {P : ℕ → Type 0} {m t : ℕ} {σ τ : State} → Solo R Never m t σ τ → Solo R P m t σ τ
quietly A = loosen (λ z h. absurd h) A

-- what holds of y and held of the nodes of the others holds of all nodes
pub settled : {R : Region} {P : ℕ → Type 0} {m t : ℕ} {σ : State} {y : ℕ} (Z : ℕ → Type 0) (A : Comes R P m t σ y)
    → Z y → (k : ℕ) → (k ≢ t → Z (σ.node k)) → Z (A.0.node k)
settled {t = t} Z A h k f = elim (ℕ_discrete k t) [
  | yes q ↦ subst Z (sym (ap A.0.node q ∙ A.2)) h
  | no n ↦ subst Z (sym (A.1.node-same k n)) (f n)
]
