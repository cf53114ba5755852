-- Whole teams go from barrier to barrier.
-- Assumes nothing.
use Rattle.std.specs.Prelude.{◌≡◌, refl, ◌⊎◌, true, ℕ, zero, suc, ◌≤◌, ◌<◌}
use Rattle.std.proofs.Common.{sym, subst, inl, inr, arith}
use Rattle.lists.specs.Truth.{bad}
use Rattle.chart.specs.Region.{Role, plain, barrier, opens, closes, Region}
use Rattle.chart.specs.InOrdered.{InOrdered}
use Rattle.chart.specs.WellFormed.{WellFormed}
use Rattle.theory_paths.specs.Path.{Path, last, next, Edge, Any, Open, BarrierFree}
use Rattle.theory_paths.specs.Connected.{Connected}
use Rattle.theory_paths.specs.PathLaws.{first_edge, extend}
use Rattle.theory_team.specs.State.{State, released}
use Rattle.theory_team.specs.Step.{NoneOrdered, Step, release}
use Rattle.theory_team.specs.Run.{Run, done, step}
use Rattle.theory_team.proofs.Laws.{released-at}
use Rattle.theory_exact.specs.Constructs.{inside-open}
use Rattle.theory_exact.specs.Hops.{EndsAt, released-outside}
use Rattle.theory_exact.specs.Runs.{append}
use Rattle.theory_exact.specs.Solo.{Comes, settled}
use Rattle.theory_exact.specs.Walk.{ready-outside, walk-rest}

abbrev pub AllAt : ℕ → State → ℕ → Type 0
AllAt m σ b = (t : ℕ) → t < m → σ.node t ≡ b

abbrev pub AllCome : Region → ℕ → State → ℕ → Type 0
AllCome R m σ e = (τ : State) × Run R m σ τ × AllAt m τ e

pub run-then : {R : Region} {m : ℕ} {σ τ : State} {e : ℕ} → Run R m σ τ → AllCome R m τ e → AllCome R m σ e
run-then r G = (G.0, append r G.1, G.2)

-- x is inside no ordered
abbrev pub Unordered : Region → ℕ → Type 0
Unordered R x = (d : ℕ) → InOrdered R x d → ⊥

-- a thread at x can come to the barrier e, and blocks nobody
abbrev pub Bound : Region → ℕ → ℕ → Type 0
Bound R e x = EndsAt R e x × Unordered R x

barrier? : (r : Role) → Dec (r ≡ barrier)
barrier? plain = no (λ q. bad (cc))
barrier? barrier = yes refl
barrier? (opens c) = no (λ q. bad (cc))
barrier? (closes c) = no (λ q. bad (cc))

pub bound-there : {R : Region} → WellFormed R → {e : ℕ} → R.role e ≡ barrier → Bound R e e
bound-there W b = (inl refl, λ d o. inside-open W o.within b)

module _ {R : Region} (W : WellFormed R) (C : Connected R) {m : ℕ} where
  -- one thread alone
  pub come : {t : ℕ} → t < m → (σ : State) {e : ℕ} → R.role e ≡ barrier → EndsAt R e (σ.node t)
      → ((d : ℕ) → R.inside (σ.node t) d ≡ true → NoneOrdered R m σ t d) → Comes R (Open R) m t σ e
  come l σ b w f = walk-rest W C l (λ z p. p) w σ (ready-outside W (λ c i. inside-open W i b) f) refl

  -- the threads below n, one after the other
  gather : {σ : State} {e : ℕ} → R.role e ≡ barrier → ((k : ℕ) → k < m → Bound R e (σ.node k)) → (n : ℕ) → n ≤ m
      → (τ : State) × Run R m σ τ × ((k : ℕ) → k < m → Bound R e (τ.node k)) × ((k : ℕ) → k < n → τ.node k ≡ e)
  gather {σ} b f zero h = (σ, done, f, λ k l. absurd (none l))
    where
      none : {k : ℕ} → k < 0 → ⊥
      none l = omega arith
  gather {σ} {e} b f (suc n) h =
      let G = gather b f n (omega arith) in
      let H : Comes R (Open R) m n G.0 e = come h G.0 b (G.2 n h).0 (λ d i k l q o. absurd ((G.2 k l).1 d o)) in (
        H.0,
        append G.1 H.1.run,
        (λ k l. settled (Bound R e) H (bound-there W b) k (λ q. G.2 k l)),
        (λ k l. settled (λ x. x ≡ e) H refl k (λ q. G.3 k (omega arith))),
      )

  pub all_come : {σ : State} {e : ℕ} → R.role e ≡ barrier → ((k : ℕ) → k < m → Bound R e (σ.node k)) → AllCome R m σ e
  all_come b f = let G = gather b f m (omega arith) in (G.0, G.1, G.3)

  -- barriers that an edge leaves are not finish
  pub let_go : {σ : State} {b v : ℕ} → R.role b ≡ barrier → AllAt m σ b → (to : ℕ → ℕ) → ((t : ℕ) → t < m → R.edge b (to t) ≡ true) → R.edge b v ≡ true
      → Step R m σ (released m σ to)
  let_go {b = b} {v} h all to edges e = release b to h (λ q. W.finish-last (subst (λ (x : ℕ). R.edge x v ≡ true) q e)) all edges

  -- one interval
  interval : {σ : State} {b e : ℕ} → R.role b ≡ barrier → R.role e ≡ barrier → BarrierFree R b e → AllAt m σ b → AllCome R m σ e
  interval {σ} {b} {e} hb he w all =
      let H = first_edge w in
      let there : Bound R e H.0 = (H.2, λ d o. released-outside W hb H.1 (inl o.within)) in
      run-then (step (let_go hb all (λ t. H.0) (λ t l. H.1) H.1) done)
      (all_come he (λ k l. subst (Bound R e) (sym (released-at m σ (λ t. H.0) k l)) there))

  -- interval after interval, along a path that has come to z and was last at a barrier at b
  pub travel : {σ : State} {b z y : ℕ} → Path (Edge R) Any z y → R.role b ≡ barrier → R.role y ≡ barrier
      → (z ≡ b) ⊎ (Open R z × BarrierFree R b z) → AllAt m σ b → AllCome R m σ y
  travel (last e) hb hy s all = interval hb hy (extend s e) all
  travel {σ = σ} {b = b} (next {z = v} e p w) hb hy s all = elim (barrier? (R.role v)) [
    | yes hv ↦ (let G = interval hb hv (extend s e) all in run-then G.1 (travel {σ = G.0} {b = v} w hv hy (inl refl) G.2))
    | no o ↦ travel {σ = σ} {b = b} w hb hy (inr (o, extend s e)) all
  ]
