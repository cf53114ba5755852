-- `reaches` is true exactly where a path leads, and `distance` is the fewest edges on one.
-- Assumes nothing.
use Rattle.std.specs.Prelude.{◌≡◌, refl, ◌⊎◌, Bool, ◌&&◌, cond, List}
use Rattle.std.proofs.Math.Path.{ap}
use Rattle.std.proofs.Common.{◌∙◌}
use Rattle.std.proofs.Math.Logic.{inl, inr, ⊎_elim}
use Rattle.std.proofs.Math.Bool.{true, false}
use Prim.Native.Nat.{ℕ, zero, suc, ◌+◌, ◌-◌, ◌≤◌, ◌<◌}
use native.Mathlib.Omega.{arith}
use Rattle.std.proofs.Math.Decide.{ℕ_discrete, dec_le}
use Rattle.std.proofs.Math.ListN.{get_or}
use Rattle.lists.specs.Truth.{clash, truth, and_both, both-and, or_cases, or_left, or_right}
use Rattle.lists.specs.Range.{any, any_at, at-any, count}
use Rattle.lists.specs.Counting.{count-back, count-full}
use Rattle.lists.specs.Tab.{tab-at, tab-true}
use Rattle.theory_paths.specs.Path.{Path, last, next, edges}
use Rattle.theory_paths.specs.PathLaws.{edges_some, append, edges-append}
use Rattle.theory_paths.specs.Reach.{marks?, marks, reaches, round, distance}

module _ (n : ℕ) (edge : ℕ → ℕ → Bool) (pass : ℕ → Bool) where
  abbrev E : ℕ → ℕ → Type 0
  E x y = edge x y ≡ true

  abbrev P : ℕ → Type 0
  P z = pass z ≡ true

  -- y is marked after k further rounds from x
  abbrev M : ℕ → ℕ → ℕ → Bool
  M x k y = get_or (marks n edge pass x k) y false

  -- an edge leads to y from a node that is marked and may be passed
  abbrev From : (ℕ → Bool) → ℕ → Type 0
  From f y = (z : ℕ) × (z < n) × (f z ≡ true) × (pass z ≡ true) × (edge z y ≡ true)

  marks?-true : (l : List Bool) (y : ℕ) → marks? n edge pass l y ≡ true → (get_or l y false ≡ true) ⊎ From (λ z. get_or l z false) y
  unfolding marks?
  marks?-true l y h = ⊎_elim inl (λ g. inr (from g)) (or_cases (get_or l y false) (any n (λ x. get_or l x false && (pass x && edge x y))) h)
    where
      from : any n (λ x. get_or l x false && (pass x && edge x y)) ≡ true → From (λ z. get_or l z false) y
      from g =
          let (z, b, t) = any_at n _ g in
          let (m, r) = and_both _ _ t in
          let (p, e) = and_both _ _ r in
          (z, b, m, p, e)

  true-marks? : (l : List Bool) (y : ℕ) → (get_or l y false ≡ true) ⊎ From (λ z. get_or l z false) y → marks? n edge pass l y ≡ true
  unfolding marks?
  true-marks? l y (inl h) = or_left _ _ h
  true-marks? l y (inr (z, b, m, p, e)) = or_right (get_or l y false) _ (at-any n _ z b (both-and _ _ m (both-and _ _ p e)))

  marked-below : (x k y : ℕ) → M x k y ≡ true → y < n
  unfolding marks
  marked-below x zero y h = (tab-true n (edge x) y h).0
  marked-below x (suc k) y h = (tab-true n (marks? n edge pass (marks n edge pass x k)) y h).0

  first-marked : (x y : ℕ) → M x 0 y ≡ true → E x y
  unfolding marks
  first-marked x y h = (tab-true n (edge x) y h).1

  next-marked : (x k y : ℕ) → M x (suc k) y ≡ true → (M x k y ≡ true) ⊎ From (M x k) y
  unfolding marks
  next-marked x k y h = marks?-true (marks n edge pass x k) y (tab-true n (marks? n edge pass (marks n edge pass x k)) y h).1

  -- what is marked is reached, by no more edges than there were rounds
  marked-path : (x k y : ℕ) → M x k y ≡ true → (w : Path E P x y) × (edges w ≤ suc k)
  unfolding edges
  marked-path x zero y h = (last (first-marked x y h), omega arith)
  marked-path x (suc k) y h = ⊎_elim
      (λ m. let (w, l) = marked-path x k y m in (w, omega arith))
      (λ f. let (z, b, m, p, e) = f in let (w, l) = marked-path x k z m in (append w p (last e), omega (arith, edges-append w p (last e))))
      (next-marked x k y h)

  -- For the rest: edges lead to nodes.
  module _ (to_below : (x y : ℕ) → edge x y ≡ true → y < n) where
    mark-first : (x y : ℕ) → E x y → M x 0 y ≡ true
    unfolding marks
    mark-first x y e = tab-at n (edge x) false y (to_below _ _ e) ∙ e

    mark-next : (x k y : ℕ) → y < n → (M x k y ≡ true) ⊎ From (M x k) y → M x (suc k) y ≡ true
    unfolding marks
    mark-next x k y l h = tab-at n (marks? n edge pass (marks n edge pass x k)) false y l ∙ true-marks? (marks n edge pass x k) y h

    mark_on : (x k z y : ℕ) → M x k z ≡ true → P z → E z y → M x (suc k) y ≡ true
    mark_on x k z y m p e = mark-next x k y (to_below _ _ e) (inr (z, marked-below x k z m, m, p, e))

    keeps : (x k y : ℕ) → M x k y ≡ true → M x (suc k) y ≡ true
    keeps x k y h = mark-next x k y (marked-below x k y h) (inl h)

    keeps-all : (x d k y : ℕ) → M x k y ≡ true → M x (d + k) y ≡ true
    keeps-all x zero k y h = let q : 0 + k ≡ k = omega arith in rw q h
    keeps-all x (suc d) k y h = let q : suc d + k ≡ suc (d + k) = omega arith in rw q (keeps x (d + k) y (keeps-all x d k y h))

    -- a path is marked by as many rounds as it has edges
    along : (x k : ℕ) {z y : ℕ} → M x k z ≡ true → P z → (w : Path E P z y) → M x (edges w + k) y ≡ true
    unfolding edges
    along x k {z} {y} m p (last e) = let q : 1 + k ≡ suc k = omega arith in rw q (mark_on x k z y m p e)
    along x k {z} {y} m p (next {z = v} e r w) = let q : suc (edges w) + k ≡ edges w + suc k = omega arith in rw q (along x (suc k) (mark_on x k z v m p e) r w)

    path-marked : {x y : ℕ} (w : Path E P x y) (k : ℕ) → edges w ≤ suc k → M x k y ≡ true
    unfolding edges
    path-marked {x} {y} (last e) k l = let q : k + 0 ≡ k = omega arith in rw q at (keeps-all x k 0 y (mark-first x y e))
    path-marked {x} {y} (next {z = z} e p w) k l =
        let q : k - edges w + (edges w + 0) ≡ k = omega arith in
        rw q at (keeps-all x (k - edges w) (edges w + 0) y (along x 0 (mark-first x z e) p w))

    -- the round after the k-th brings nothing more
    abbrev Still : ℕ → ℕ → Type 0
    Still x k = (y : ℕ) → M x (suc k) y ≡ true → M x k y ≡ true

    still-on : (x k : ℕ) → Still x k → Still x (suc k)
    still-on x k s y h = ⊎_elim (λ m. m) (λ f. let (z, b, m, p, e) = f in mark_on x k z y (s z m) p e) (next-marked x (suc k) y h)

    still-path : (x k : ℕ) → Still x k → {z y : ℕ} → M x k z ≡ true → P z → Path E P z y → M x k y ≡ true
    still-path x k s {z} {y} m p (last e) = s y (mark_on x k z y m p e)
    still-path x k s {z} {y} m p (next {z = v} e r w) = still-path x k s (s v (mark_on x k z v m p e)) r w

    -- so each round marks one node more, until one brings nothing more
    grows : (x k : ℕ) → (k ≤ count n (M x k)) ⊎ Still x k
    grows x zero = inl (omega arith)
    grows x (suc k) = ⊎_elim (λ c. go c (dec_le (count n (M x (suc k))) (count n (M x k)))) (λ s. inr (still-on x k s)) (grows x k)
      where
        go : k ≤ count n (M x k) → Dec (count n (M x (suc k)) ≤ count n (M x k)) → (suc k ≤ count n (M x (suc k))) ⊎ Still x (suc k)
        go c (yes l) = inr (still-on x k (λ y h. count-back n (M x k) (M x (suc k)) (λ y l. keeps x k y) l y (marked-below x (suc k) y h) h))
        go c (no l) = inl (omega arith)

    ends-below : {x y : ℕ} → Path E P x y → y < n
    ends-below (last e) = to_below _ _ e
    ends-below (next e p w) = ends-below w

    all-marked : {x y : ℕ} → Path E P x y → M x n y ≡ true
    all-marked {x} {y} w = ⊎_elim (λ c. count-full n (M x n) c y (ends-below w)) (λ s. go s w) (grows x n)
      where
        start : (z : ℕ) → E x z → M x n z ≡ true
        start z e = let q : n + 0 ≡ n = omega arith in rw q at (keeps-all x n 0 z (mark-first x z e))

        go : Still x n → {y : ℕ} → Path E P x y → M x n y ≡ true
        go s (last e) = start _ e
        go s (next e p w) = still-path x n s (start _ e) p w

    -- The two agree.
    pub reaches-path : (x y : ℕ) → reaches n edge pass x y ≡ true → Path E P x y
    unfolding reaches
    reaches-path x y h = (marked-path x n y h).0

    pub path-reaches : (x y : ℕ) → Path E P x y → reaches n edge pass x y ≡ true
    unfolding reaches
    path-reaches x y w = all-marked w

    -- r tells the first round that marks y, of the d rounds from the j-th on; it is 0 where none does
    abbrev Round : ℕ → ℕ → ℕ → ℕ → ℕ → Type 0
    Round x y j d r =
        ((r ≡ 0) × ((k : ℕ) → j ≤ k → k < j + d → M x k y ≡ false))
        ⊎ ((i : ℕ) × (r ≡ suc i) × (M x i y ≡ true) × ((k : ℕ) → j ≤ k → k < i → M x k y ≡ false))

    round_is : (x y j d : ℕ) → Round x y j d (round n edge pass y (marks n edge pass x j) (suc j) d)
    unfolding round marks
    round_is x y j zero = inl (refl, λ k a b. absurd (omega arith))
    round_is x y j (suc d) = go (truth (M x j y)) (round_is x y (suc j) d)
      where
        later : M x j y ≡ false → (k : ℕ) → j ≤ k → (suc j ≤ k → M x k y ≡ false) → M x k y ≡ false
        later t k a f = elim (ℕ_discrete k j) [ yes q ↦ ap (λ (i : ℕ). M x i y) q ∙ t | no q ↦ f (omega arith) ]

        go : {r : ℕ} → (M x j y ≡ true) ⊎ (M x j y ≡ false) → Round x y (suc j) d r → Round x y j (suc d) (cond (M x j y) (suc j) r)
        go (inl t) r = rw t (inr (j, refl, t, λ k a b. absurd (omega arith)))
        go (inr t) (inl (e, f)) = rw t (inl (e, λ k a b. later t k a (λ c. f k c (omega arith))))
        go (inr t) (inr (i, e, m, f)) = rw t (inr (i, e, m, λ k a b. later t k a (λ c. f k c b)))

    distance_is : (x y : ℕ) → Round x y 0 (suc n) (distance n edge pass x y)
    unfolding distance
    distance_is x y = round_is x y 0 (suc n)

    -- a node that no round before the i-th marks has no shorter path
    longer : {x y : ℕ} (w : Path E P x y) (i : ℕ) → ((k : ℕ) → 0 ≤ k → k < i → M x k y ≡ false) → suc i ≤ edges w
    longer w i f = go (dec_le (suc i) (edges w))
      where
        go : Dec (suc i ≤ edges w) → suc i ≤ edges w
        go (yes l) = l
        go (no l) = let a = edges_some w in absurd (clash (path-marked w (edges w - 1) (omega arith)) (f (edges w - 1) (omega arith) (omega arith)))

    -- The distance is the number of edges of some path, and of no path with fewer.
    pub distance-path : (x y : ℕ) → 0 < distance n edge pass x y → (w : Path E P x y) × (edges w ≡ distance n edge pass x y)
    distance-path x y h = go (distance_is x y)
      where
        go : Round x y 0 (suc n) (distance n edge pass x y) → (w : Path E P x y) × (edges w ≡ distance n edge pass x y)
        go (inl (e, f)) = absurd (omega arith)
        go (inr (i, e, m, f)) = let (w, l) = marked-path x i y m in (w, omega (arith, longer w i f))

    pub path-distance : (x y : ℕ) (w : Path E P x y) → (0 < distance n edge pass x y) × (distance n edge pass x y ≤ edges w)
    path-distance x y w = go (distance_is x y)
      where
        go : Round x y 0 (suc n) (distance n edge pass x y) → (0 < distance n edge pass x y) × (distance n edge pass x y ≤ edges w)
        go (inl (e, f)) = absurd (clash (all-marked w) (f n (omega arith) (omega arith)))
        go (inr (i, e, m, f)) = (omega arith, omega (arith, longer w i f))
