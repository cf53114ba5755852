-- Levels that start as 1 at the nodes to which the sources' edges lead and as 254, no level, elsewhere, that passed along edges of the
-- lists, and that are closed along all of them, are the fewest edges of paths.
-- Assumes nothing.
use Rattle.std.specs.Prelude.{◌≡◌, List, [], ◌∷◌, ℕ, zero, suc, ◌+◌, ◌-◌, ◌≤◌, ◌<◌, min, length, set}
use Rattle.std.proofs.Math.Path.{refl}
use Rattle.std.proofs.Common.{◌∙◌, arith, length-set}
use Rattle.std.proofs.Math.Decide.{dec_lt}
use Rattle.std.proofs.Math.ListN.{get_or}
use Rattle.lists.specs.Store.{at_set}
use Rattle.theory_paths.specs.Path.{Path, last, next, edges}
use Rattle.theory_paths.specs.PathLaws.{append, edges-append}
use Rattle.theory_paths.specs.Found.{Reached, ReachedIn}
use Rattle.search.specs.Sweep.{passed, Carried, Closed, flag}
use Rattle.search.specs.SweepLaws.{Inner, carried, flag-le, flag-some, flag-none, flag-mono}

-- the level of a node that had `old`, when an edge leads there from a node at level v
abbrev pub nearer : ℕ → ℕ → ℕ
nearer old v = min old (v + 1)

-- the levels of the two ends of an edge that was passed
abbrev pub Follows : ℕ → ℕ → Type 0
Follows v w = w ≤ v + 1

-- An edge from x to y was passed, and r is the level of y.
pub record Risen (x y : ℕ) (s t : List ℕ) (r : ℕ) : Type 0 where
  pub is : t ≡ set s y r
  pub level : r ≡ nearer (get_or s y 0) (get_or s x 0)

-- how many nodes have a level
pub told : List ℕ → ℕ
told [] = 0
told (x ∷ xs) = flag (254 - x) + told xs

pub told-le : (l : List ℕ) → told l ≤ length l
unfolding told
told-le [] = omega arith
told-le (x ∷ l) = omega (arith, flag-le (254 - x), told-le l)

told-one : (l : List ℕ) (i : ℕ) → get_or l i 0 ≡ 1 → 1 ≤ told l
unfolding told
told-one [] i e = absurd (omega arith)
told-one (x ∷ l) zero e = omega (arith, flag-some (254 - x) (λ z. omega arith))
told-one (x ∷ l) (suc i) e = omega (arith, told-one l i e)

told-less : (l : List ℕ) (i v : ℕ) → i < length l → v ≤ get_or l i 0 → told l ≤ told (set l i v)
unfolding told
told-less [] i v h e = absurd (omega arith)
told-less (x ∷ l) zero v h e = omega (arith, flag-mono (254 - x) (254 - v) (omega arith))
told-less (x ∷ l) (suc i) v h e = omega (arith, told-less l i v (omega arith) e)

told-new : (l : List ℕ) (i v : ℕ) → i < length l → 254 ≤ get_or l i 0 → v < 254 → suc (told l) ≤ told (set l i v)
unfolding told
told-new [] i v h e p = absurd (omega arith)
told-new (x ∷ l) zero v h e p = omega (arith, flag-some (254 - v) (λ z. omega arith), flag-none (254 - x) (omega arith))
told-new (x ∷ l) (suc i) v h e p = omega (arith, told-new l i v (omega arith) e p)

-- A source has an edge to y.
pub record FromSource (E : ℕ → ℕ → Type 0) (sources : List ℕ) (k y : ℕ) : Type 0 where
  pub source : ℕ
  pub below : source < k
  pub edge : E (get_or sources source 0) y

-- The levels to start with.
pub record Begun (E : ℕ → ℕ → Type 0) (Q : ℕ → Type 0) (sources : List ℕ) (k : ℕ) (d : List ℕ) : Type 0 where
  pub long : length d ≡ 192
  pub only : (y : ℕ) → Q y → get_or d y 0 < 254 → (get_or d y 0 ≡ 1) × FromSource E sources k y
  pub all : (b y : ℕ) → b < k → Q y → E (get_or sources b 0) y → get_or d y 0 ≤ 1

-- What they are in the end, 254 where there is no path.
pub record Measured (E : ℕ → ℕ → Type 0) (P Q : ℕ → Type 0) (sources : List ℕ) (k : ℕ) (d : List ℕ) : Type 0 where
  pub path : (y : ℕ) → Q y → get_or d y 0 < 254 → ReachedIn E P sources k (get_or d y 0) y
  pub least : (b y : ℕ) → b < k → Q y → (w : Reached E P sources b y) → (get_or d y 0 < 254) × (get_or d y 0 ≤ edges w)
  pub short : (y : ℕ) → Q y → get_or d y 0 < 254 → get_or d y 0 ≤ 192

-- Each level is the number of edges of a path, and there are no fewer nodes that have one: it fits.
pub record Ranked (S : ℕ → ℕ → Type 0) (Q : ℕ → Type 0) (d : List ℕ) : Type 0 where
  pub long : length d ≡ 192
  pub path : (y : ℕ) → Q y → get_or d y 0 < 254 → S (get_or d y 0) y
  pub short : (y : ℕ) → Q y → get_or d y 0 < 254 → get_or d y 0 ≤ told d

module _ {E : ℕ → ℕ → Type 0} {P Q : ℕ → Type 0} {L : ℕ → ℕ → Type 0} (inner : Inner E P Q L) (sources : List ℕ) (k : ℕ) where
  abbrev S : ℕ → ℕ → Type 0
  S = ReachedIn E P sources k

  edge_on : (j x y : ℕ) → S j x → P x → E x y → S (j + 1) y
  unfolding edges
  edge_on j x y r o e = record {
    source = r.source;
    below = r.below;
    path = append r.path o (last e);
    long = edges-append r.path o (last e) ∙ rw r.long;
  }

  module _ (d : List ℕ) (x y : ℕ) (i : Ranked S Q d) (l : L x y) where
    abbrev v : ℕ
    v = nearer (get_or d y 0) (get_or d x 0)

    ys : y < length d
    ys = omega (arith, i.long, inner.node x y l)

    grown : told d ≤ told (set d y v)
    grown = told-less d y v ys (omega arith)

    on : Dec (get_or d x 0 + 1 < get_or d y 0) → v < 254 → S v y
    on (yes h) b =
        let (e, p, qx, q) = inner.only x y l in
        let m : v ≡ get_or d x 0 + 1 = omega arith in
        rw m (edge_on (get_or d x 0) x y (i.path x qx (omega arith)) p e)
    on (no h) b = let m : v ≡ get_or d y 0 = omega arith in rw m (i.path y (inner.only x y l).3 (omega arith))

    fits : Dec (get_or d x 0 + 1 < get_or d y 0) → Dec (get_or d y 0 < 254) → v < 254 → v ≤ told (set d y v)
    fits (no h) f b = omega (arith, i.short y (inner.only x y l).3 (omega arith), grown)
    fits (yes h) (yes f) b = omega (arith, i.short y (inner.only x y l).3 f, grown)
    fits (yes h) (no f) b = omega (arith, i.short x (inner.only x y l).2 (omega arith), told-new d y v ys (omega arith) b)

    rank_step : Ranked S Q (passed nearer d x y)
    rank_step = record {
      long = simp length-set i.long;
      path = λ z w. at_set (λ m. m < 254 → S m z) d y v z ys (λ r b. rw r (on (dec_lt (get_or d x 0 + 1) (get_or d y 0)) b)) (λ _. i.path z w);
      short = λ z w. at_set (λ m. m < 254 → m ≤ told (set d y v)) d y v z ys
          (λ r b. fits (dec_lt (get_or d x 0 + 1) (get_or d y 0)) (dec_lt (get_or d y 0) 254) b) (λ _ b. omega (arith, i.short z w b, grown));
    }

  less-step : (s : List ℕ) → (t : List ℕ) (x y : ℕ) → (length t ≡ 192) × ((z : ℕ) → get_or t z 0 ≤ get_or s z 0) → L x y
      → (length (passed nearer t x y) ≡ 192) × ((z : ℕ) → get_or (passed nearer t x y) z 0 ≤ get_or s z 0)
  less-step s t x y i l =
      let ys : y < length t = omega (arith, i.0, inner.node x y l) in (
        simp length-set i.0,
        λ z. at_set (λ m. m ≤ get_or s z 0) t y _ z ys (λ r. let h = i.1 y in rw r (omega arith)) (λ _. i.1 z),
      )

  -- What is found: the fewest edges.
  pub levels-found : {s t : List ℕ} → Begun E Q sources k s → Carried nearer L s t → Closed Follows L t → Measured E P Q sources k t
  unfolding edges
  levels-found {s} {t} begun c shut = record {
    path = ranked.path;
    least = λ b y l q w. least b l q w;
    short = short;
  }
    where
      first : (y : ℕ) → Q y → get_or s y 0 < 254 → S (get_or s y 0) y
      first y q h =
          let (e, o) = begun.only y q h in
          rw e (record { source = o.source; below = o.below; path = last o.edge; long = refl })

      ranked : Ranked S Q t
      ranked = carried (Ranked S Q) rank_step
          (record {
            long = begun.long;
            path = first;
            short = λ y q h. let e = (begun.only y q h).0 in omega (arith, told-one s y e);
          }) c

      short : (y : ℕ) → Q y → get_or t y 0 < 254 → get_or t y 0 ≤ 192
      short y q h = omega (arith, ranked.short y q h, told-le t, ranked.long)

      less : (z : ℕ) → get_or t z 0 ≤ get_or s z 0
      less = (carried (λ t. (length t ≡ 192) × ((z : ℕ) → get_or t z 0 ≤ get_or s z 0)) (less-step s) (begun.long, λ z. omega arith) c).1

      along : {x z : ℕ} → Q x → get_or t x 0 < 254 → P x → Q z → (w : Path E P x z) → (get_or t z 0 < 254) × (get_or t z 0 ≤ get_or t x 0 + edges w)
      along {x} {z} qx h p q (last e) =
          let b = shut x z (inner.all x z p q e) in
          let m = short x qx h in
          (omega arith, omega arith)
      along {x} {z} qx h p q (next {z = v} e o r) =
          let b = shut x v (inner.all x v p (inner.pass x v e o) e) in
          let m = short x qx h in
          let (f, g) = along (inner.pass x v e o) (omega arith) o q r in
          (f, omega arith)

      least : (b : ℕ) → b < k → {z : ℕ} → Q z → (w : Reached E P sources b z) → (get_or t z 0 < 254) × (get_or t z 0 ≤ edges w)
      least b l {z} q (last e) = let h = begun.all b z l q e in let m = less z in (omega arith, omega arith)
      least b l {z} q (next {z = v} e o r) =
          let qv = inner.pass (get_or sources b 0) v e o in
          let h = begun.all b v l qv e in
          let m = less v in
          let (f, g) = along qv (omega arith) o q r in
          (f, omega arith)
