-- What the fewest edges from a barrier to a node mean in paths: a barrier-free path from some barrier has so many, none has fewer, there is one to
-- every node to which a path leads from start, and they are at most two less than the nodes.
-- Assumes nothing.
use Rattle.std.specs.Prelude.{◌≡◌, refl, ◌⊎◌, ◌≢◌, Bool, false, ◌&&◌, not, eqb, leb, length}
use Rattle.std.proofs.Common.{ap, sym, ◌∙◌, arith, eq-eqb, ne_eqb, le-leb}
use Rattle.std.proofs.Math.Logic.{inl, inr}
use Rattle.std.proofs.Math.Bool.{true}
use Prim.Native.Nat.{ℕ, zero, suc, ◌+◌, ◌≤◌, ◌<◌}
use Rattle.std.proofs.Math.Decide.{ℕ_discrete, dec_le}
use Rattle.std.proofs.lemmas.Bool.{lt-leb}
use Rattle.lists.specs.Truth.{truth, both-and, and_both}
use Rattle.lists.specs.Range.{count, count-one, count-two}
use Rattle.lists.specs.Counting.{one, count-sum, count-mono, count-all}
use Rattle.lists.specs.Least.{Least, least-is}
use Rattle.chart.specs.Region.{barrier, Region}
use Rattle.chart.specs.WellFormed.{WellFormed}
use Rattle.theory_paths.specs.Path.{Path, last, next, edges, Edge, Any, Open, BarrierFree}
use Rattle.theory_paths.specs.PathLaws.{append, edges-append, edges_some, carry, edges-carry, cut-last}
use Rattle.theory_paths.specs.ReachLaws.{distance-path, path-distance}
use Rattle.theory_paths.specs.Decide.{no_barrier, no-barrier, barrier-no}
use Rattle.theory_paths.specs.Phases.{forward, barriers, barrier_at, edges_free, nearest}
use Rattle.theory_paths.specs.PhasesLaws.{is-barrier, number-barrier, barrier-number}

-- a path in its last edge and what is before it
unsnoc : {E : ℕ → ℕ → Type 0} {P : ℕ → Type 0} {x y : ℕ} (w : Path E P x y)
    → (edges w ≡ 1) ⊎ ((z : ℕ) × P z × E z y × ((v : Path E P x z) × (edges w ≡ suc (edges v))))
unfolding edges
unsnoc (last e) = inl refl
unsnoc {E} {P} {x} {y} (next {z = z} e p w) = go (unsnoc w)
  where
    single : {u : ℕ} (w : Path E P u y) → edges w ≡ 1 → E u y
    single (last e) h = e
    single (next e p w) h = absurd (omega (arith, edges_some w))

    go : (edges w ≡ 1) ⊎ ((u : ℕ) × P u × E u y × ((v : Path E P z u) × (edges w ≡ suc (edges v))))
        → (suc (edges w) ≡ 1) ⊎ ((u : ℕ) × P u × E u y × ((v : Path E P x u) × (suc (edges w) ≡ suc (edges v))))
    go (inl h) = inr (z, p, single w h, (last e, ap suc h))
    go (inr (u, q, f, (v, l))) = inr (u, q, f, (next e p v, ap suc l))

-- as many numbers below n pass as there are values that those which pass take, 1 to k among them
values : (n : ℕ) (ok : ℕ → Bool) (f : ℕ → ℕ) (k : ℕ) → ((j : ℕ) → j < k → (z : ℕ) × (z < n) × (ok z ≡ true) × (f z ≡ suc j))
    → k ≤ count n (λ z. ok z && leb (f z) k)
values n ok f zero h = omega arith
values n ok f (suc k) h =
    let r = values n ok f k (λ j l. h j (omega arith)) in
    let (z, l, o, e) = h k (omega arith) in
    let s = count-sum n (λ z. ok z && leb (f z) k) (λ z. ok z && eqb (f z) (suc k)) (λ z. ok z && leb (f z) (suc k)) (λ z l. split (ok z) (f z)) in
    let c = count-one n (λ z. ok z && eqb (f z) (suc k)) z l (both-and _ _ o (eq-eqb _ _ e)) in
    omega arith
  where
    cases : (v : ℕ) → Dec (v ≤ k) → Dec (v ≡ suc k) → one (leb v (suc k)) ≡ one (leb v k) + one (eqb v (suc k))
    cases v (yes l) (yes e) = absurd (omega arith)
    cases v (yes l) (no e) = rw (le-leb v (suc k) (omega arith), le-leb v k l, ne_eqb v (suc k) e)
    cases v (no l) (yes e) = rw (le-leb v (suc k) (omega arith), lt-leb v k (omega arith), eq-eqb v (suc k) e)
    cases v (no l) (no e) = rw (lt-leb v (suc k) (omega arith), lt-leb v k (omega arith), ne_eqb v (suc k) e)

    split : (o : Bool) (v : ℕ) → one (o && leb v (suc k)) ≡ one (o && leb v k) + one (o && eqb v (suc k))
    split true v = cases v (dec_le v k) (ℕ_discrete v (suc k))
    split false v = refl

module _ (R : Region) (W : WellFormed R) where
  abbrev pass : ℕ → Bool
  pass z = no_barrier (R.role z)

  near : (x : ℕ) → Least (λ b. edges_free forward R (barrier_at R b) x) (length (barriers R)) (nearest forward R x)
  unfolding nearest
  near x = least-is (λ b. edges_free forward R (barrier_at R b) x) (length (barriers R))

  -- A barrier-free path from some barrier has so many edges,
  pub nearest-path : (x : ℕ) → 0 < nearest forward R x
      → (b : ℕ) × (R.role b ≡ barrier) × ((w : BarrierFree R b x) × (edges w ≡ nearest forward R x))
  nearest-path x h =
      let (i, l, e) = (near x).one h in
      let (w, q) = distance-path R.nodes R.edge pass (λ x y. W.to_below) (barrier_at R i) x (omega arith) in
      (barrier_at R i, number-barrier R W i l, (carry (λ x y e. e) (λ z. no-barrier (R.role z)) w, edges-carry (λ x y e. e) (λ z. no-barrier (R.role z)) w ∙ q ∙ e))

  -- and none from any barrier has fewer.
  pub nearest-least : (b x : ℕ) → R.role b ≡ barrier → (w : BarrierFree R b x) → (0 < nearest forward R x) × (nearest forward R x ≤ edges w)
  nearest-least b x h w =
      let (i, l, e) = barrier-number R W b h in
      let v = carry (λ x y e. e) (λ z. barrier-no (R.role z)) w in
      let (p, q) = path-distance R.nodes R.edge pass (λ x y. W.to_below) b x v in
      let (g, k) = (near x).below i l (rw e p) in
      (g, omega (arith, edges-carry (λ x y e. e) (λ z. barrier-no (R.role z)) w, (let z : edges_free forward R (barrier_at R i) x ≡ edges_free forward R b x = rw e in z)))

  -- the node before x on such a path lies one edge nearer
  nearer : (x j : ℕ) → nearest forward R x ≡ suc (suc j) → (z : ℕ) × (z < R.nodes) × Open R z × (nearest forward R z ≡ suc j)
  unfolding edges
  nearer x j h = go (nearest-path x (omega arith))
    where
      last-edge : (z : ℕ) → Open R z → R.edge z x ≡ true → suc j ≤ nearest forward R z ⊎ (nearest forward R z ≡ 0)
      last-edge z o e = elim (ℕ_discrete (nearest forward R z) 0) [
        | yes q ↦ inr q
        | no q ↦ (let (b, r, (v, l)) = nearest-path z (omega arith) in
            let m = (nearest-least b x r (append v o (last e))).1 in
            inl (omega (arith, edges-append v o (last e))))
      ]

      go : (b : ℕ) × (R.role b ≡ barrier) × ((w : BarrierFree R b x) × (edges w ≡ nearest forward R x))
          → (z : ℕ) × (z < R.nodes) × Open R z × (nearest forward R z ≡ suc j)
      go (b, r, (w, l)) = elim (unsnoc w) [
        | inl q ↦ absurd (omega arith)
        | inr (z, o, e, (v, q)) ↦ (let (p, m) = nearest-least b z r v in
            (z, W.from-below e, o, elim (last-edge z o e) [ inl k ↦ omega arith | inr k ↦ absurd (omega arith) ]))
      ]

  -- so every distance from 1 up to that of x is that of some node
  each : (k x : ℕ) → x < R.nodes → Open R x → nearest forward R x ≡ k → (j : ℕ) → j < k
      → (z : ℕ) × (z < R.nodes) × (pass z ≡ true) × (nearest forward R z ≡ suc j)
  each zero x l o e j m = absurd (omega arith)
  each (suc zero) x l o e j m = let q : j ≡ 0 = omega arith in (x, l, barrier-no (R.role x) o, e ∙ ap suc (sym q))
  each (suc (suc k)) x l o e j m = elim (ℕ_discrete j (suc k)) [
    | yes q ↦ (x, l, barrier-no (R.role x) o, e ∙ ap suc (sym q))
    | no q ↦ (let (z, a, b, c) = nearer x k e in each (suc k) z a b c j (omega arith))
  ]

  -- Start and finish are barriers, so they are at most two less than the nodes.
  pub nearest-most : R.start ≢ R.finish → (x : ℕ) → x < R.nodes → Open R x → nearest forward R x + 2 ≤ R.nodes
  nearest-most n x l o =
      let v = values R.nodes pass (nearest forward R) (nearest forward R x) (each _ x l o refl) in
      let m = count-mono R.nodes (λ z. pass z && leb (nearest forward R z) (nearest forward R x)) pass (λ z l h. (and_both _ _ h).0) in
      let s = count-sum R.nodes pass (λ z. not (pass z)) (λ z. true) (λ z l. halves (pass z)) in
      let a = count-all R.nodes (λ z. true) (λ z l. refl) in
      let t = count-two R.nodes (λ z. not (pass z)) R.start R.finish (W.barrier-below W.start-barrier) (W.barrier-below W.finish-barrier) n (rw W.start-barrier) (rw W.finish-barrier) in
      omega arith
    where
      halves : (b : Bool) → one true ≡ one b + one (not b)
      halves true = refl
      halves false = refl

  -- A node to which any path leads from start has a barrier before it.
  pub nearest-some : (x : ℕ) → Path (Edge R) Any R.start x → 0 < nearest forward R x
  nearest-some x w =
      let f = cut-last {E = Edge R} {P = Open R} open? (λ z. R.role z ≡ barrier) (λ y z j v h. shut z h) W.start-barrier w in
      (nearest-least f.node x f.member f.path).0
    where
      open? : (z : ℕ) → Dec (Open R z)
      open? z = elim (truth (pass z)) [ inl h ↦ yes (no-barrier (R.role z) h) | inr h ↦ no (λ o. o (is-barrier (R.role z) h)) ]

      shut : (z : ℕ) → (Open R z → ⊥) → R.role z ≡ barrier
      shut z h = elim (truth (pass z)) [ inl g ↦ absurd (h (no-barrier (R.role z) g)) | inr g ↦ is-barrier (R.role z) g ]
