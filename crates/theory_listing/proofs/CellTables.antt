-- The edges and the tables of a list of cells, by what holds of each cell.
-- Assumes nothing.
use Rattle.std.specs.Prelude.{◌≡◌, Bool, true, false, ◌&&◌, cond, ℕ, zero, suc, ◌+◌, ◌≤◌, ◌<◌, eqb, length, get_or}
use Rattle.std.proofs.Math.Path.{refl}
use Rattle.std.proofs.Common.{sym, subst, ap, ◌∙◌, inl, inr, arith, eq-eqb}
use mathlib.Core.List.{List, [], ◌∷◌, ◌++◌, map}
use Rattle.std.proofs.Math.Decide.{ℕ_discrete}
use Rattle.lists.specs.Truth.{both-and}
use Rattle.lists.specs.Range.{at-any, count}
use Rattle.lists.specs.Counting.{one}
use Rattle.chart.specs.Format.{Edge, no_edge, node_at, edge_at}
use Rattle.chart.specs.Scope.{begin_node, end_node, lies_in, scope}
use Rattle.chart.specs.Reading.{edge_in}
use Rattle.chart.specs.Refusal.{frames_in}
use Rattle.chart.proofs.Facts.{Rises}
use Rattle.chart_writing.specs.Every.{All, joined, split, every, Member, here, there, From}
use Rattle.theory_listing.specs.Tree.{Sort, simple, stop, opens, closes, Cell}
use Rattle.theory_listing.proofs.Flow.{Up, Upward, arriving, leaving}
use Rattle.theory_listing.specs.Place.{Own, home, hits}
use Rattle.theory_listing.specs.Meaning.{kind_byte, node_for, edge, edges_of}

pub map-from : {A B : Type 0} (f : A → B) (Q : ℕ → B → Type 0) (k : ℕ) (l : List A) → From Q k (map f l) → From (λ x a. Q x (f a)) k l
map-from f Q k [] h = tt
map-from f Q k (a ∷ l) h = (h.0, map-from f Q (suc k) l h.1)

pub from-map : {A : Type 0} (P Q : ℕ → A → Type 0) → ((x : ℕ) (a : A) → P x a → Q x a) → (k : ℕ) (l : List A) → From P k l → From Q k l
from-map P Q f k [] h = tt
from-map P Q f k (a ∷ l) h = (f k a h.0, from-map P Q f (suc k) l h.1)

pub length-mapped : {A B : Type 0} (f : A → B) (l : List A) → length (map f l) ≡ length l
length-mapped f [] = refl
length-mapped f (a ∷ l) = ap suc (length-mapped f l)

targets-edges : (Q : Edge → Type 0) (x : ℕ) (l : List ℕ) → All (λ y. Q (edge x y)) l → All Q (map (edge x) l)
targets-edges Q x [] h = tt
targets-edges Q x (y ∷ l) h = (h.0, targets-edges Q x l h.1)

edges-targets : (Q : Edge → Type 0) (x : ℕ) (l : List ℕ) → All Q (map (edge x) l) → All (λ y. Q (edge x y)) l
edges-targets Q x [] h = tt
edges-targets Q x (y ∷ l) h = (h.0, edges-targets Q x l h.1)

module _ (Q : Edge → Type 0) where
  abbrev pub Each : Cell → Type 0
  Each c = All (λ y. Q (edge c.at y)) c.to

  pub all_edges : (l : List Cell) → All Each l → All Q (edges_of l)
  unfolding edges_of
  all_edges [] h = tt
  all_edges (c ∷ l) h = joined Q (map (edge c.at) c.to) (edges_of l) (targets-edges Q c.at c.to h.0) (all_edges l h.1)

  pub edges-all : (l : List Cell) → All Q (edges_of l) → All Each l
  unfolding edges_of
  edges-all [] h = tt
  edges-all (c ∷ l) h =
      let s = split Q (map (edge c.at) c.to) (edges_of l) h in
      (edges-targets Q c.at c.to s.0, edges-all l s.1)

-- row 9, strictly rising: local, since the cells stand in the order of their numbers
abbrev Rising : List Edge → Type 0
Rising [] = Unit {0}
Rising (e ∷ l) = All (Rises e) l × Rising l

rising-joined : (x : ℕ) (l : List ℕ) (r : List Edge) → Up l → All (λ e. suc x ≤ e.from) r → Rising r → Rising (map (edge x) l ++ r)
rising-joined x [] r u f h = h
rising-joined x (y ∷ l) r u f h = (
  joined (Rises (edge x y)) (map (edge x) l) r
      (targets-edges (Rises (edge x y)) x l (every (λ b. y < b) (λ b. Rises (edge x y) (edge x b)) (λ b g. inr (refl, g)) l u.0))
      (every (λ e. suc x ≤ e.from) (Rises (edge x y)) (λ e g. inl g) r f),
  rising-joined x l r u.1 f h,
)

pub rising-edges : (k : ℕ) (l : List Cell) → From Own k l → All Upward l → Rising (edges_of l) × All (λ e. k ≤ e.from) (edges_of l)
unfolding edges_of
rising-edges k [] n u = (tt, tt)
rising-edges k (c ∷ l) n u =
    let h = rising-edges (suc k) l n.1 u.1 in (
      rising-joined c.at c.to (edges_of l) u.0 (subst (λ x. All (λ e. suc x ≤ e.from) (edges_of l)) (sym n.0) h.1) h.0,
      all_edges (λ e. k ≤ e.from) (c ∷ l) (head c.to, edges-all (λ e. k ≤ e.from) l (every (λ e. suc k ≤ e.from) (λ e. k ≤ e.from) (λ e g. omega arith) (edges_of l) h.1)),
    )
  where
    head : (t : List ℕ) → All (λ y. k ≤ c.at) t
    head [] = tt
    head (y ∷ t) = (omega (arith, n.0), head t)

-- of two neighbours
pub rising-at : (l : List Edge) (d : Edge) → Rising l → (i : ℕ) → suc i < length l → Rises (get_or l i d) (get_or l (suc i) d)
rising-at [] d h i b = absurd (omega arith)
rising-at (e ∷ []) d h i b = absurd (omega arith)
rising-at (e ∷ (f ∷ l)) d h zero b = h.0.0
rising-at (e ∷ (f ∷ l)) d h (suc i) b = rising-at (f ∷ l) d h.1 i (omega arith)

-- from every cell to every number
pub at-number : (P : ℕ → Type 0) (k : ℕ) (l : List Cell) → From Own k l → All (λ c. P c.at) l → (x : ℕ) → k ≤ x → x < k + length l → P x
at-number P k [] n h x a b = absurd (omega arith)
at-number P k (c ∷ l) n h x a b = go (ℕ_discrete k x) (λ g. at-number P (suc k) l n.1 h.1 x g (omega arith))
  where
    go : Dec (k ≡ x) → (suc k ≤ x → P x) → P x
    go (yes e) f = subst P (n.0 ∙ e) h.0
    go (no e) f = f (omega arith)

pub within : (k : ℕ) (l : List Cell) → From Own k l → All (λ c. (k ≤ c.at) × (c.at < k + length l)) l
within k [] n = tt
within k (c ∷ l) n = (
  (omega (arith, n.0), omega (arith, n.0)),
  every (λ d. (suc k ≤ d.at) × (d.at < suc k + length l)) (λ d. (k ≤ d.at) × (d.at < k + suc (length l))) (λ d g. (omega arith, omega arith)) l (within (suc k) l n.1),
)

-- a cell's sides are the scopes that the chart gives its node
module _ (P : ℕ → ℕ) where
  pub arrives-by : (s : Sort) (n o : ℕ) → home P s n ≡ o → scope end_node (kind_byte s) n (P n) ≡ arriving s n o
  unfolding kind_byte arriving scope lies_in
  arrives-by simple n o h = h
  arrives-by stop n o h = h
  arrives-by opens n o h = h
  arrives-by closes n o h = refl

  pub leaves_by : (s : Sort) (n o : ℕ) → home P s n ≡ o → scope begin_node (kind_byte s) n (P n) ≡ leaving s n o
  unfolding kind_byte leaving scope lies_in
  leaves_by simple n o h = h
  leaves_by stop n o h = h
  leaves_by opens n o h = refl
  leaves_by closes n o h = h

-- counts by index and counts along a list
count-shift : (n : ℕ) (f : ℕ → Bool) → count (suc n) f ≡ one (f 0) + count n (λ i. f (suc i))
unfolding count
count-shift zero f = go (f 0)
  where
    go : (b : Bool) → 0 + cond b 1 0 ≡ one b + 0
    go true = refl
    go false = refl
count-shift (suc n) f = let h = count-shift n f in omega arith

pub frames-hits : (kind c : ℕ) (l : List Cell)
    → frames_in (map node_for l) kind c (length (map node_for l)) ≡ hits (λ s n. one (eqb (kind_byte s) kind && eqb n c)) l
unfolding frames_in node_at hits count
frames-hits kind c [] = refl
frames-hits kind c (d ∷ l) =
    count-shift (length (map node_for l)) (λ x. eqb (node_at (node_for d ∷ map node_for l) x).kind kind && eqb (node_at (node_for d ∷ map node_for l) x).number c)
    ∙ ap (λ (n : ℕ). one (eqb (kind_byte d.sort) kind && eqb d.number c) + n) (frames-hits kind c l)

-- an edge of the list is an edge
member-at : {A : Type 0} (d : A) {a : A} (l : List A) → Member a l → (i : ℕ) × (i < length l) × (get_or l i d ≡ a)
member-at d [] x = elim x [ ]
member-at d (a ∷ l) here = (0, omega arith, refl)
member-at d (b ∷ l) (there m) = let (i, b, e) = member-at d l m in (suc i, omega arith, e)

pub member-edge : (es : List Edge) (e : Edge) → Member e es → edge_in es e.from e.to ≡ true
unfolding edge_in edge_at
member-edge es e m =
    let (i, b, q) = member-at (no_edge) es m in
    at-any (length es) _ i b (both-and _ _ (eq-eqb _ _ (ap (λ (e : Edge). e.from) q)) (eq-eqb _ _ (ap (λ (e : Edge). e.to) q)))
