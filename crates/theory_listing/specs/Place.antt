-- The numbers of nodes and constructs in a block.
-- Assumes nothing.
use Rattle.std.specs.Prelude.{◌≡◌, List, [], ◌∷◌, ◌++◌, length, eqb}
use Rattle.std.proofs.Math.Path.{refl}
use Rattle.std.proofs.Common.{ap, arith, length-append, eq-eqb, ne_eqb}
use Prim.Native.Nat.{ℕ, zero, suc, ◌+◌, ◌≤◌, ◌<◌}
use Rattle.std.proofs.Math.Decide.{ℕ_discrete}
use Rattle.chart_writing.specs.Every.{All, joined, From, from-joined, from-split}
use Rattle.lists.specs.Counting.{one}
use Rattle.theory_listing.specs.Tree.{Block, end, plain, barrier, loop, branch, around, node_count, construct_count, Sort, simple, stop, opens, closes, Cell, cells, Part, constructs}

pub length-cells : (r : Block) (o m k t : ℕ) → length (cells r o m k t) ≡ node_count r
unfolding cells node_count
length-cells end o m k t = refl
length-cells (plain r) o m k t = ap suc (length-cells r o m (suc k) t)
length-cells (barrier r) o m k t = ap suc (length-cells r o m (suc k) t)
length-cells (loop b r) o m k t =
    ap suc (rw (length-append, length-cells b o m (suc k) k, length-cells r o (m + construct_count b) (suc k + node_count b) t))
length-cells (branch a b r) o m k t =
    let j = suc k + node_count a + node_count b in
    let second = length-cells b o (m + construct_count a) (suc k + node_count a) j in
    let rest = length-cells r o (m + construct_count a + construct_count b) (suc j) t in
    ap suc (simp (length-append, length-cells a o m (suc k) j, second, rest))
length-cells (around c b r) o m k t =
    let e = suc k + node_count b in
    ap suc (simp (length-append, length-cells b m (suc m) (suc k) e, length-cells r o (suc m + construct_count b) (suc e) t))

pub length-constructs : (r : Block) (o m : ℕ) → length (constructs r o m) ≡ construct_count r
unfolding constructs construct_count
length-constructs end o m = refl
length-constructs (plain r) o m = length-constructs r o m
length-constructs (barrier r) o m = length-constructs r o m
length-constructs (loop b r) o m = rw (length-append, length-constructs b o m, length-constructs r o (m + construct_count b))
length-constructs (branch a b r) o m =
    let second = length-constructs b o (m + construct_count a) in
    let rest = length-constructs r o (m + construct_count a + construct_count b) in
    simp (length-append, length-constructs a o m, second, rest)
length-constructs (around c b r) o m = ap suc (rw (length-append, length-constructs b m (suc m), length-constructs r o (suc m + construct_count b)))

-- every cell has its place for its number
abbrev pub Own : ℕ → Cell → Type 0
Own x c = c.at ≡ x

pub numbered : (r : Block) (o m k t : ℕ) → From Own k (cells r o m k t)
unfolding cells
numbered end o m k t = tt
numbered (plain r) o m k t = (refl, numbered r o m (suc k) t)
numbered (barrier r) o m k t = (refl, numbered r o m (suc k) t)
numbered (loop b r) o m k t = (
  refl,
  from-joined Own (suc k) (cells b o m (suc k) k) (cells r o (m + construct_count b) (suc k + node_count b) t) (numbered b o m (suc k) k)
      (rw (length-cells b o m (suc k) k) (numbered r o (m + construct_count b) (suc k + node_count b) t)),
)
numbered (branch a b r) o m k t =
    let j = suc k + node_count a + node_count b in (
      refl,
      from-joined Own (suc k) (cells a o m (suc k) j) _ (numbered a o m (suc k) j)
          (rw (length-cells a o m (suc k) j)
          (from-joined Own (suc k + node_count a) (cells b o (m + construct_count a) (suc k + node_count a) j) _ (numbered b o (m + construct_count a) (suc k + node_count a) j)
          (rw (length-cells b o (m + construct_count a) (suc k + node_count a) j)
          (refl, numbered r o (m + construct_count a + construct_count b) (suc j) t)))),
    )
numbered (around c b r) o m k t =
    let e = suc k + node_count b in (
      refl,
      from-joined Own (suc k) (cells b m (suc m) (suc k) e) _ (numbered b m (suc m) (suc k) e)
          (rw (length-cells b m (suc m) (suc k) e) (refl, numbered r o (suc m + construct_count b) (suc e) t)),
    )

-- P is the parent of each construct
module _ (P : ℕ → ℕ) where
  abbrev pub Parent : ℕ → Part → Type 0
  Parent i p = P i ≡ p.parent

  -- the construct that a cell lies in, by its own number
  abbrev pub home : Sort → ℕ → ℕ
  home simple n = n
  home stop n = n
  home opens n = P n
  home closes n = P n

  abbrev pub Lies : Cell → Type 0
  Lies c = home c.sort c.number ≡ c.lies

  pub lying : (r : Block) (o m k t : ℕ) → From Parent m (constructs r o m) → All Lies (cells r o m k t)
  unfolding cells constructs
  lying end o m k t h = tt
  lying (plain r) o m k t h = (refl, lying r o m (suc k) t h)
  lying (barrier r) o m k t h = (refl, lying r o m (suc k) t h)
  lying (loop b r) o m k t h =
      let s = from-split Parent m (constructs b o m) (constructs r o (m + construct_count b)) h in
      (refl, joined Lies (cells b o m (suc k) k) _ (lying b o m (suc k) k s.0) (lying r o (m + construct_count b) (suc k + node_count b) t (rw (length-constructs b o m) at s.1)))
  lying (branch a b r) o m k t h =
      let j = suc k + node_count a + node_count b in
      let s = from-split Parent m (constructs a o m) _ h in
      let u = from-split Parent (m + construct_count a) (constructs b o (m + construct_count a)) _ (rw (length-constructs a o m) at s.1) in (
        refl,
        joined Lies (cells a o m (suc k) j) _ (lying a o m (suc k) j s.0)
            (joined Lies (cells b o (m + construct_count a) (suc k + node_count a) j) _ (lying b o (m + construct_count a) (suc k + node_count a) j u.0)
            (refl, lying r o (m + construct_count a + construct_count b) (suc j) t (rw (length-constructs b o (m + construct_count a)) at u.1))),
      )
  lying (around c b r) o m k t h =
      let e = suc k + node_count b in
      let s = from-split Parent (suc m) (constructs b m (suc m)) _ h.1 in (
        h.0,
        joined Lies (cells b m (suc m) (suc k) e) _ (lying b m (suc m) (suc k) e s.0)
            (h.0, lying r o (suc m + construct_count b) (suc e) t (rw (length-constructs b m (suc m)) at s.1)),
      )

-- How many cells are counted by f, and how often c is among p numbers from m.
unfoldable pub hits : (Sort → ℕ → ℕ) → List Cell → ℕ
hits f [] = 0
hits f (c ∷ l) = f c.sort c.number + hits f l

unfoldable pub among : ℕ → ℕ → ℕ → ℕ
among m zero c = 0
among m (suc p) c = one (eqb m c) + among (suc m) p c

pub hits-joined : (f : Sort → ℕ → ℕ) (l r : List Cell) → hits f (l ++ r) ≡ hits f l + hits f r
unfolding hits
hits-joined f [] r = omega arith
hits-joined f (c ∷ l) r = let h = hits-joined f l r in omega arith

among-add : (m p q c : ℕ) → among m (p + q) c ≡ among m p c + among (m + p) q c
unfolding among
among-add m zero q c = let z : 0 + q ≡ q = omega arith in let y : m + 0 ≡ m = omega arith in rw (z, y) (omega arith)
among-add m (suc p) q c =
    let z : suc p + q ≡ suc (p + q) = omega arith in
    let y : m + suc p ≡ suc m + p = omega arith in
    let h = among-add (suc m) p q c in
    rw (z, y) (omega arith)

among_none : (m p c : ℕ) → c < m → among m p c ≡ 0
unfolding among
among_none m zero c h = refl
among_none m (suc p) c h = rw (ne_eqb m c (λ e. omega arith), among_none (suc m) p c (omega arith))

among-split : (m p c : ℕ) → m ≤ c → c < m + suc p → (suc m ≤ c → among (suc m) p c ≡ 1) → Dec (m ≡ c) → among m (suc p) c ≡ 1
unfolding among
among-split m p c h g rest (yes e) = rw (eq-eqb m c e, among_none (suc m) p c (omega arith))
among-split m p c h g rest (no e) = rw (ne_eqb m c e, rest (omega arith))

pub among_one : (m p c : ℕ) → m ≤ c → c < m + p → among m p c ≡ 1
among_one m zero c h g = absurd (omega arith)
among_one m (suc p) c h g = among-split m p c h g (λ l. among_one (suc m) p c l (omega arith)) (ℕ_discrete m c)

-- Counted once at the begin, or once at the end.
module _ (f : Sort → ℕ → ℕ) (c : ℕ)
    (none : (n : ℕ) → f simple n ≡ 0) (none-stop : (n : ℕ) → f stop n ≡ 0)
    (once : (n : ℕ) → f opens n + f closes n ≡ one (eqb n c)) where
  pub counted : (r : Block) (o m k t : ℕ) → hits f (cells r o m k t) ≡ among m (construct_count r) c
  unfolding cells construct_count hits among
  counted end o m k t = refl
  counted (plain r) o m k t = rw (none o, counted r o m (suc k) t) (omega arith)
  counted (barrier r) o m k t = rw (none-stop o, counted r o m (suc k) t) (omega arith)
  counted (loop b r) o m k t =
      let x = counted b o m (suc k) k in
      let z = counted r o (m + construct_count b) (suc k + node_count b) t in
      rw (none o, hits-joined f (cells b o m (suc k) k), x, z, among-add m (construct_count b) (construct_count r) c) (omega arith)
  counted (branch a b r) o m k t =
      let j = suc k + node_count a + node_count b in
      let x = counted a o m (suc k) j in
      let y = counted b o (m + construct_count a) (suc k + node_count a) j in
      let z = counted r o (m + construct_count a + construct_count b) (suc j) t in
      rw (
        none o,
        hits-joined f (cells a o m (suc k) j),
        hits-joined f (cells b o (m + construct_count a) (suc k + node_count a) j),
        among-add m (construct_count a) (construct_count b + construct_count r) c,
        among-add (m + construct_count a) (construct_count b) (construct_count r) c,
      )
      (simp none (omega arith))
  counted (around d b r) o m k t =
      let e = suc k + node_count b in
      let x = counted b m (suc m) (suc k) e in
      let z = counted r o (suc m + construct_count b) (suc e) t in
      rw (hits-joined f (cells b m (suc m) (suc k) e), among-add (suc m) (construct_count b) (construct_count r) c)
      (omega (arith, once m))
