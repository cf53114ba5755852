-- Inductions over a block: the sides of its edges, ways from where it is entered, ways to what follows it.
-- Assumes nothing.
use Rattle.std.specs.Prelude.{◌≡◌, refl, Bool, true, false, List, [], ◌∷◌, ltb, length}
use Rattle.std.proofs.Common.{subst, arith, eq-eqb, ne_eqb, ltb-true, ltb-false, lt-ltb, le-ltb}
use Prim.Native.Nat.{ℕ, suc, ◌+◌, ◌≤◌, ◌<◌}
use Rattle.std.proofs.Math.Decide.{ℕ_discrete}
use Rattle.chart_writing.specs.Every.{All, joined, split}
use Rattle.theory_listing.specs.Tree.{Block, end, plain, barrier, loop, branch, around, node_count, construct_count, first, Sort, simple, stop, opens, closes, Cell, two, cells}

-- The construct in which an edge arrives at a node, and in which it leaves it (01: sides).
unfoldable pub arriving : Sort → ℕ → ℕ → ℕ
arriving simple n o = o
arriving stop n o = o
arriving opens n o = o
arriving closes n o = n

unfoldable pub leaving : Sort → ℕ → ℕ → ℕ
leaving simple n o = o
leaving stop n o = o
leaving opens n o = n
leaving closes n o = o

-- The edges of a node with two targets, by how these stand to each other.
pub two-same : (a : ℕ) → two a a ≡ a ∷ []
unfolding two
two-same a = rw (eq-eqb a a refl)

pub two-below : (a b : ℕ) → a < b → two a b ≡ a ∷ (b ∷ [])
unfolding two
two-below a b h = rw (ne_eqb a b (λ e. omega arith), lt-ltb a b h)

pub two-above : (a b : ℕ) → b < a → two a b ≡ b ∷ (a ∷ [])
unfolding two
two-above a b h = rw (ne_eqb a b (λ e. omega arith), le-ltb a b (omega arith))

by_two : (Q : List ℕ → Type 0) (a b : ℕ) → (a < b → Q (a ∷ (b ∷ []))) → (b < a → Q (b ∷ (a ∷ []))) → (a ≡ b → Q (a ∷ [])) → Q (two a b)
by_two Q a b below above same = go (ℕ_discrete a b)
  where
    apart : (a ≡ b → ⊥) → (x : Bool) → ltb a b ≡ x → Q (two a b)
    apart n true q = let h = ltb-true a b q in rw (two-below a b h) (below h)
    apart n false q = let l = ltb-false a b q in let h : b < a = omega (arith, n) in rw (two-above a b h) (above h)

    go : Dec (a ≡ b) → Q (two a b)
    go (yes e) = subst (λ (c : ℕ). Q (two a c)) e (rw (two-same a) (same e))
    go (no n) = apart n (ltb a b) refl

pub two-all : (P : ℕ → Type 0) (a b : ℕ) → P a → P b → All P (two a b)
two-all P a b p q = by_two (All P) a b (λ h. (p, (q, tt))) (λ h. (q, (p, tt))) (λ e. (p, tt))

pub all_two : (P : ℕ → Type 0) (a b : ℕ) → All P (two a b) → P a × P b
all_two P a b = by_two (λ l. All P l → P a × P b) a b (λ h g. (g.0, g.1.0)) (λ h g. (g.1.0, g.0)) (λ e g. (g.0, subst P e g.0))

-- every cell has its targets rising
abbrev pub Up : List ℕ → Type 0
Up [] = Unit {0}
Up (a ∷ l) = All (λ b. a < b) l × Up l

two_up : (a b : ℕ) → Up (two a b)
two_up a b = by_two Up a b (λ h. ((h, tt), (tt, tt))) (λ h. ((h, tt), (tt, tt))) (λ e. (tt, tt))

abbrev pub Upward : Cell → Type 0
Upward c = Up c.to

pub upward : (r : Block) (o m k t : ℕ) → All Upward (cells r o m k t)
unfolding cells
upward end o m k t = tt
upward (plain r) o m k t = ((tt, tt), upward r o m (suc k) t)
upward (barrier r) o m k t = ((tt, tt), upward r o m (suc k) t)
upward (loop b r) o m k t =
    (two_up _ _, joined Upward (cells b o m (suc k) k) _ (upward b o m (suc k) k) (upward r o (m + construct_count b) (suc k + node_count b) t))
upward (branch a b r) o m k t =
    let j = suc k + node_count a + node_count b in (
      two_up _ _,
      joined Upward (cells a o m (suc k) j) _ (upward a o m (suc k) j)
          (joined Upward (cells b o (m + construct_count a) (suc k + node_count a) j) _ (upward b o (m + construct_count a) (suc k + node_count a) j)
          ((tt, tt), upward r o (m + construct_count a + construct_count b) (suc j) t)),
    )
upward (around c b r) o m k t =
    let e = suc k + node_count b in (
      (tt, tt),
      joined Upward (cells b m (suc m) (suc k) e) _ (upward b m (suc m) (suc k) e)
          ((tt, tt), upward r o (suc m + construct_count b) (suc e) t),
    )

two-few : (a b : ℕ) → length (two a b) ≤ 2
two-few a b = by_two (λ l. length l ≤ 2) a b (λ h. omega arith) (λ h. omega arith) (λ e. omega arith)

abbrev pub Few : Cell → Type 0
Few c = length c.to ≤ 2

pub few : (r : Block) (o m k t : ℕ) → All Few (cells r o m k t)
unfolding cells
few end o m k t = tt
few (plain r) o m k t = (omega arith, few r o m (suc k) t)
few (barrier r) o m k t = (omega arith, few r o m (suc k) t)
few (loop b r) o m k t =
    (two-few (first b (suc k) k) (first r (suc k + node_count b) t), joined Few (cells b o m (suc k) k) _ (few b o m (suc k) k) (few r o (m + construct_count b) (suc k + node_count b) t))
few (branch a b r) o m k t =
    let j = suc k + node_count a + node_count b in (
      two-few (first a (suc k) j) (first b (suc k + node_count a) j),
      joined Few (cells a o m (suc k) j) _ (few a o m (suc k) j)
          (joined Few (cells b o (m + construct_count a) (suc k + node_count a) j) _ (few b o (m + construct_count a) (suc k + node_count a) j)
          (omega arith, few r o (m + construct_count a + construct_count b) (suc j) t)),
    )
few (around c b r) o m k t =
    let e = suc k + node_count b in (
      omega arith,
      joined Few (cells b m (suc m) (suc k) e) _ (few b m (suc m) (suc k) e)
          (omega arith, few r o (suc m + construct_count b) (suc e) t),
    )

-- Sides. Good o x: an edge may lead to x from the side o.
module _ (Good : ℕ → ℕ → Type 0) where
  abbrev pub Arrives : Cell → Type 0
  Arrives c = Good (arriving c.sort c.number c.lies) c.at

  abbrev pub Leaves : Cell → Type 0
  Leaves c = All (Good (leaving c.sort c.number c.lies)) c.to

  pub enter : (r : Block) (o m k t : ℕ) → All Arrives (cells r o m k t) → Good o t → Good o (first r k t)
  unfolding first cells arriving
  enter end o m k t h g = g
  enter (plain r) o m k t h g = h.0
  enter (barrier r) o m k t h g = h.0
  enter (loop b r) o m k t h g = h.0
  enter (branch a b r) o m k t h g = h.0
  enter (around c b r) o m k t h g = h.0

  pub sides : (r : Block) (o m k t : ℕ) → All Arrives (cells r o m k t) → Good o t → All Leaves (cells r o m k t)
  unfolding cells arriving leaving
  sides end o m k t h g = tt
  sides (plain r) o m k t h g = ((enter r o m (suc k) t h.1 g, tt), sides r o m (suc k) t h.1 g)
  sides (barrier r) o m k t h g = ((enter r o m (suc k) t h.1 g, tt), sides r o m (suc k) t h.1 g)
  sides (loop b r) o m k t h g =
      let s = split Arrives (cells b o m (suc k) k) (cells r o (m + construct_count b) (suc k + node_count b) t) h.1 in (
        two-all (Good o) (first b (suc k) k) (first r (suc k + node_count b) t) (enter b o m (suc k) k s.0 h.0) (enter r o (m + construct_count b) (suc k + node_count b) t s.1 g),
        joined Leaves (cells b o m (suc k) k) _ (sides b o m (suc k) k s.0 h.0) (sides r o (m + construct_count b) (suc k + node_count b) t s.1 g),
      )
  sides (branch a b r) o m k t h g =
      let j = suc k + node_count a + node_count b in
      let s = split Arrives (cells a o m (suc k) j) _ h.1 in
      let u = split Arrives (cells b o (m + construct_count a) (suc k + node_count a) j) _ s.1 in (
        two-all (Good o) (first a (suc k) j) (first b (suc k + node_count a) j) (enter a o m (suc k) j s.0 u.1.0) (enter b o (m + construct_count a) (suc k + node_count a) j u.0 u.1.0),
        joined Leaves (cells a o m (suc k) j) _ (sides a o m (suc k) j s.0 u.1.0)
            (joined Leaves (cells b o (m + construct_count a) (suc k + node_count a) j) _ (sides b o (m + construct_count a) (suc k + node_count a) j u.0 u.1.0)
            ((enter r o (m + construct_count a + construct_count b) (suc j) t u.1.1 g, tt), sides r o (m + construct_count a + construct_count b) (suc j) t u.1.1 g)),
      )
  sides (around c b r) o m k t h g =
      let e = suc k + node_count b in
      let s = split Arrives (cells b m (suc m) (suc k) e) _ h.1 in (
        (enter b m (suc m) (suc k) e s.0 s.1.0, tt),
        joined Leaves (cells b m (suc m) (suc k) e) _ (sides b m (suc m) (suc k) e s.0 s.1.0)
            ((enter r o (suc m + construct_count b) (suc e) t s.1.1 g, tt), sides r o (suc m + construct_count b) (suc e) t s.1.1 g),
      )

-- the edges of a cell are edges of E
abbrev pub Drawn : (ℕ → ℕ → Type 0) → Cell → Type 0
Drawn E c = All (E c.at) c.to

-- it holds of a cell's node
abbrev pub OfNode : (ℕ → Type 0) → Cell → Type 0
OfNode P c = P c.at

-- Ways in: what is kept along edges and holds where a way enters the block holds of all its nodes, and of what follows it.
module _ (E : ℕ → ℕ → Type 0) (R : ℕ → Type 0) (keep : (x y : ℕ) → R x → E x y → R y) where
  step : {x y : ℕ} → R x → E x y → R y
  step {x} {y} g d = keep x y g d

  pub forth : (r : Block) (o m k t : ℕ) → All (Drawn E) (cells r o m k t) → R (first r k t) → R t × All (OfNode R) (cells r o m k t)
  unfolding cells first
  forth end o m k t h g = (g, tt)
  forth (plain r) o m k t h g = let f = forth r o m (suc k) t h.1 (step g h.0.0) in (f.0, (g, f.1))
  forth (barrier r) o m k t h g = let f = forth r o m (suc k) t h.1 (step g h.0.0) in (f.0, (g, f.1))
  forth (loop b r) o m k t h g =
      let s = split (Drawn E) (cells b o m (suc k) k) (cells r o (m + construct_count b) (suc k + node_count b) t) h.1 in
      let d = all_two (E k) (first b (suc k) k) (first r (suc k + node_count b) t) h.0 in
      let f = forth b o m (suc k) k s.0 (step g d.0) in
      let q = forth r o (m + construct_count b) (suc k + node_count b) t s.1 (step g d.1) in
      (q.0, (g, joined (OfNode R) (cells b o m (suc k) k) _ f.1 q.1))
  forth (branch a b r) o m k t h g =
      let j = suc k + node_count a + node_count b in
      let s = split (Drawn E) (cells a o m (suc k) j) _ h.1 in
      let u = split (Drawn E) (cells b o (m + construct_count a) (suc k + node_count a) j) _ s.1 in
      let d = all_two (E k) (first a (suc k) j) (first b (suc k + node_count a) j) h.0 in
      let f = forth a o m (suc k) j s.0 (step g d.0) in
      let p = forth b o (m + construct_count a) (suc k + node_count a) j u.0 (step g d.1) in
      let q = forth r o (m + construct_count a + construct_count b) (suc j) t u.1.1 (step f.0 u.1.0.0) in
      (q.0, (g, joined (OfNode R) (cells a o m (suc k) j) _ f.1 (joined (OfNode R) (cells b o (m + construct_count a) (suc k + node_count a) j) _ p.1 (f.0, q.1))))
  forth (around c b r) o m k t h g =
      let e = suc k + node_count b in
      let s = split (Drawn E) (cells b m (suc m) (suc k) e) _ h.1 in
      let f = forth b m (suc m) (suc k) e s.0 (step g h.0.0) in
      let q = forth r o (suc m + construct_count b) (suc e) t s.1.1 (step f.0 s.1.0.0) in
      (q.0, (g, joined (OfNode R) (cells b m (suc m) (suc k) e) _ f.1 (f.0, q.1)))

-- Ways out: what is kept against edges and holds of what follows the block holds of all its nodes, and where a way enters it.
module _ (E : ℕ → ℕ → Type 0) (B : ℕ → Type 0) (keep : (x y : ℕ) → E x y → B y → B x) where
  step_back : {x y : ℕ} → E x y → B y → B x
  step_back {x} {y} d g = keep x y d g

  pub back : (r : Block) (o m k t : ℕ) → All (Drawn E) (cells r o m k t) → B t → B (first r k t) × All (OfNode B) (cells r o m k t)
  unfolding cells first
  back end o m k t h g = (g, tt)
  back (plain r) o m k t h g = let f = back r o m (suc k) t h.1 g in let z = step_back h.0.0 f.0 in (z, (z, f.1))
  back (barrier r) o m k t h g = let f = back r o m (suc k) t h.1 g in let z = step_back h.0.0 f.0 in (z, (z, f.1))
  back (loop b r) o m k t h g =
      let s = split (Drawn E) (cells b o m (suc k) k) (cells r o (m + construct_count b) (suc k + node_count b) t) h.1 in
      let d = all_two (E k) (first b (suc k) k) (first r (suc k + node_count b) t) h.0 in
      let q = back r o (m + construct_count b) (suc k + node_count b) t s.1 g in
      let z = step_back d.1 q.0 in
      let f = back b o m (suc k) k s.0 z in
      (z, (z, joined (OfNode B) (cells b o m (suc k) k) _ f.1 q.1))
  back (branch a b r) o m k t h g =
      let j = suc k + node_count a + node_count b in
      let s = split (Drawn E) (cells a o m (suc k) j) _ h.1 in
      let u = split (Drawn E) (cells b o (m + construct_count a) (suc k + node_count a) j) _ s.1 in
      let d = all_two (E k) (first a (suc k) j) (first b (suc k + node_count a) j) h.0 in
      let q = back r o (m + construct_count a + construct_count b) (suc j) t u.1.1 g in
      let y = step_back u.1.0.0 q.0 in
      let f = back a o m (suc k) j s.0 y in
      let p = back b o (m + construct_count a) (suc k + node_count a) j u.0 y in
      let z = step_back d.0 f.0 in
      (z, (z, joined (OfNode B) (cells a o m (suc k) j) _ f.1 (joined (OfNode B) (cells b o (m + construct_count a) (suc k + node_count a) j) _ p.1 (y, q.1))))
  back (around c b r) o m k t h g =
      let e = suc k + node_count b in
      let s = split (Drawn E) (cells b m (suc m) (suc k) e) _ h.1 in
      let q = back r o (suc m + construct_count b) (suc e) t s.1.1 g in
      let y = step_back s.1.0.0 q.0 in
      let f = back b m (suc m) (suc k) e s.0 y in
      let z = step_back h.0.0 f.0 in
      (z, (z, joined (OfNode B) (cells b m (suc m) (suc k) e) _ f.1 (y, q.1)))
