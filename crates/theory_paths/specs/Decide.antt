-- Whether a barrier-free path, or a path of any kind, leads from one node of a region to another: computed, and so decided.
-- Assumes nothing.
use Rattle.std.specs.Prelude.{◌≡◌, refl, ◌≢◌, Bool, true, false, ℕ}
use Rattle.std.proofs.Common.{inl, inr}
use Rattle.lists.specs.Truth.{bad, clash, truth}
use Rattle.chart.specs.Region.{Role, plain, barrier, opens, closes, Region}
use Rattle.chart.specs.WellFormed.{WellFormed}
use Rattle.theory_paths.specs.Path.{Path, Edge, Any, BarrierFree}
use Rattle.theory_paths.specs.PathLaws.{carry}
use Rattle.theory_paths.specs.Reach.{reaches}
use Rattle.theory_paths.specs.ReachLaws.{reaches-path, path-reaches}

abbrev pub no_barrier : Role → Bool
no_barrier plain = true
no_barrier barrier = false
no_barrier (opens c) = true
no_barrier (closes c) = true

unfoldable pub reaches_free : Region → ℕ → ℕ → Bool
reaches_free R x y = reaches R.nodes R.edge (λ z. no_barrier (R.role z)) x y

unfoldable pub reaches_any : Region → ℕ → ℕ → Bool
reaches_any R x y = reaches R.nodes R.edge (λ z. true) x y

-- A barrier-free path leads from the end of construct c to its begin (01: c returns).
unfoldable pub returns : Region → ℕ → Bool
returns R c = reaches_free R (R.end c) (R.begin c)

pub no-barrier : (r : Role) → no_barrier r ≡ true → r ≢ barrier
no-barrier plain h e = bad (cc)
no-barrier barrier h e = bad (cc)
no-barrier (opens c) h e = bad (cc)
no-barrier (closes c) h e = bad (cc)

pub barrier-no : (r : Role) → r ≢ barrier → no_barrier r ≡ true
barrier-no plain h = refl
barrier-no barrier h = absurd (h refl)
barrier-no (opens c) h = refl
barrier-no (closes c) h = refl

by-test : {A : Type 0} (b : Bool) → (b ≡ true → A) → (A → b ≡ true) → Dec A
by-test b to from = elim (truth b) [ inl h ↦ yes (to h) | inr h ↦ no (λ a. clash (from a) h) ]

module _ (R : Region) (W : WellFormed R) where
  pub free-path : (x y : ℕ) → reaches_free R x y ≡ true → BarrierFree R x y
  unfolding reaches_free
  free-path x y h = carry (λ x y e. e) (λ z. no-barrier (R.role z)) (reaches-path R.nodes R.edge _ (λ x y. W.to_below) x y h)

  pub path-free : (x y : ℕ) → BarrierFree R x y → reaches_free R x y ≡ true
  unfolding reaches_free
  path-free x y w = path-reaches R.nodes R.edge _ (λ x y. W.to_below) x y (carry (λ x y e. e) (λ z. barrier-no (R.role z)) w)

  pub free? : (x y : ℕ) → Dec (BarrierFree R x y)
  free? x y = by-test (reaches_free R x y) (free-path x y) (path-free x y)

  pub any-path : (x y : ℕ) → reaches_any R x y ≡ true → Path (Edge R) Any x y
  unfolding reaches_any
  any-path x y h = carry (λ x y e. e) (λ z p. tt) (reaches-path R.nodes R.edge _ (λ x y. W.to_below) x y h)

  pub path-any : (x y : ℕ) → Path (Edge R) Any x y → reaches_any R x y ≡ true
  unfolding reaches_any
  path-any x y w = path-reaches R.nodes R.edge _ (λ x y. W.to_below) x y (carry (λ x y e. e) (λ z p. refl) w)

  pub any? : (x y : ℕ) → Dec (Path (Edge R) Any x y)
  any? x y = by-test (reaches_any R x y) (any-path x y) (path-any x y)
