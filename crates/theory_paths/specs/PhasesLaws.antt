-- What phases mean: barriers have their numbers, a bit of a mask is a barrier-free path, whichever the direction, and the phases counted
-- are the pairs of a start and an end that some node has.
-- Assumes nothing.
use Rattle.std.specs.Prelude.{◌≡◌, refl, ◌≢◌, ◌↔◌, false, ◌&&◌, length}
use Rattle.std.proofs.Math.Path.{ap, sym}
use Rattle.std.proofs.Common.{◌∙◌}
use Rattle.std.proofs.Math.Bool.{Bool, true, not}
use Prim.Native.Nat.{ℕ, ◌<◌}
use Rattle.std.proofs.lemmas.Bool.{not-true}
use Rattle.lists.specs.Truth.{bad, and_both, both-and}
use Rattle.lists.specs.Means.{both_of}
use Rattle.lists.specs.Range.{any_at, at-any, count}
use Rattle.lists.specs.Mask.{Has, mask-of}
use Rattle.lists.specs.Bits.{has-below}
use Rattle.lists.specs.Select.{select-passes, select-at, select-number}
use Rattle.chart.specs.Region.{Role, plain, barrier, opens, closes, Region}
use Rattle.chart.specs.WellFormed.{WellFormed}
use Rattle.theory_paths.specs.Path.{Path, last, next, Edge, Open, BarrierFree}
use Rattle.theory_paths.specs.PathLaws.{first_edge, last-edge}
use Rattle.theory_paths.specs.Decide.{no_barrier, no-barrier, barrier-no, free-path, path-free, returns}
use Rattle.theory_paths.specs.Phases.{Direction, forward, backward, Free, leads, Boundary, is_boundary, barriers, barrier_at, marked, marks, phase}

-- Barrier number b is a start of node x; backward: an end.
pub record Marked (d : Direction) (R : Region) (x b : ℕ) : Type 0 where
  pub numbered : b < length (barriers R)
  pub boundary : Boundary d R x (barrier_at R b)

-- A node has the start b and the end c.
pub record Phase (R : Region) (b c : ℕ) : Type 0 where
  pub node : ℕ
  pub start : Marked forward R node b
  pub end : Marked backward R node c

pub is-barrier : (r : Role) → no_barrier r ≡ false → r ≡ barrier
is-barrier plain h = absurd (bad (cc))
is-barrier barrier h = refl
is-barrier (opens c) h = absurd (bad (cc))
is-barrier (closes c) h = absurd (bad (cc))

pub barrier-of : (r : Role) → (not (no_barrier r) ≡ true) ↔ (r ≡ barrier)
barrier-of r = ((λ h. is-barrier r (not-true _ h)), λ e. rw e)

pub open_of : (r : Role) → (no_barrier r ≡ true) ↔ (r ≢ barrier)
open_of r = (no-barrier r, barrier-no r)

module _ (R : Region) (W : WellFormed R) where
  pub leads-free : (d : Direction) (x y : ℕ) → leads d R x y ≡ true → Free d R x y
  leads-free forward x y h = free-path R W x y h
  leads-free backward x y h = free-path R W y x h

  pub free-leads : (d : Direction) (x y : ℕ) → Free d R x y → leads d R x y ≡ true
  free-leads forward x y w = path-free R W x y w
  free-leads backward x y w = path-free R W y x w

  pub boundary-means : (d : Direction) (x s : ℕ) → (is_boundary d R x s ≡ true) ↔ Boundary d R x s
  unfolding is_boundary
  boundary-means d x s = (
    (λ h. let (o, (b, p)) = parts.0 h in record { no-barrier = o; is-barrier = b; path = p }),
    λ m. parts.1 (m.no-barrier, (m.is-barrier, m.path)),
  )
    where
      parts : ((no_barrier (R.role x) && (not (no_barrier (R.role s)) && leads d R s x)) ≡ true) ↔ (Open R x × ((R.role s ≡ barrier) × Free d R s x))
      parts = both_of (open_of (R.role x)) (both_of (barrier-of (R.role s)) (leads-free d s x, free-leads d s x))

  -- each number is that of a barrier, and each barrier has one number
  pub number-barrier : (b : ℕ) → b < length (barriers R) → R.role (barrier_at R b) ≡ barrier
  unfolding barriers
  number-barrier b l = is-barrier _ (not-true _ (select-passes R.nodes (λ x. not (no_barrier (R.role x))) b l).1)

  pub barrier-number : (x : ℕ) → R.role x ≡ barrier → (b : ℕ) × (b < length (barriers R)) × (barrier_at R b ≡ x)
  unfolding barriers
  barrier-number x h =
      let is : not (no_barrier (R.role x)) ≡ true = rw h in
      let (l, e) = select-at R.nodes (λ x. not (no_barrier (R.role x))) x (W.barrier-below h) is in
      (_, l, e)

  pub number-unique : (b c : ℕ) → b < length (barriers R) → c < length (barriers R) → barrier_at R b ≡ barrier_at R c → b ≡ c
  unfolding barriers
  number-unique b c l m e =
      let f : ℕ → Bool = λ x. not (no_barrier (R.role x)) in
      sym (select-number R.nodes f b l) ∙ ap (λ (x : ℕ). count x f) e ∙ select-number R.nodes f c m

  pub marked-means : (d : Direction) (x b : ℕ) → ((b < length (barriers R)) × (marked d R x b ≡ true)) ↔ Marked d R x b
  unfolding marked
  marked-means d x b = let m = boundary-means d x (barrier_at R b) in (
    (λ h. record { numbered = h.0; boundary = m.0 h.1 }),
    λ h. (h.numbered, m.1 h.boundary),
  )

  -- bit b of the starts (of the ends) of x
  pub bit-means : (d : Direction) (x b : ℕ) → Has (marks d R x) b ↔ Marked d R x b
  unfolding marks
  bit-means d x b =
      let m = mask-of (marked d R x) (length (barriers R)) in (
        (λ h. (let l = has-below _ (length (barriers R)) b m.small h in (marked-means d x b).0 (l, m.only b l h))),
        λ h. (let (l, p) = (marked-means d x b).1 h in m.all b l p),
      )

  pub ends-below : {P : ℕ → Type 0} {x y : ℕ} → Path (Edge R) P x y → y < R.nodes
  ends-below (last e) = W.to_below e
  ends-below (next e p w) = ends-below w

  -- only nodes of the region have starts and ends
  pub boundary-kept : (d : Direction) {x s : ℕ} → Boundary d R x s → R.kept x ≡ true
  boundary-kept forward B = W.to-kept (last-edge B.path).1
  boundary-kept backward B = W.from-kept (first_edge B.path).1

  -- the pairs that `phase_count` counts
  pub phase-means : (b c : ℕ) → ((b < length (barriers R)) × (c < length (barriers R)) × (phase R b c ≡ true)) ↔ Phase R b c
  unfolding phase
  phase-means b c = (
    (λ h. (let (x, l, p) = any_at R.nodes (λ x. marked forward R x b && marked backward R x c) h.2 in
        let (s, e) = and_both (marked forward R x b) (marked backward R x c) p in
        record { node = x; start = (marked-means forward x b).0 (h.0, s); end = (marked-means backward x c).0 (h.1, e) })),
    λ p. (let (l, s) = (marked-means forward p.node b).1 p.start in
        let (m, e) = (marked-means backward p.node c).1 p.end in
        (l, m, at-any R.nodes _ p.node (ends-below p.start.boundary.path) (both-and _ _ s e))),
  )

  pub returns-means : (c : ℕ) → (returns R c ≡ true) ↔ BarrierFree R (R.end c) (R.begin c)
  unfolding returns
  returns-means c = (free-path R W (R.end c) (R.begin c), path-free R W (R.end c) (R.begin c))
