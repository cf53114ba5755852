-- What holds of the nodes or edges in a range of a list holds of them in the list.
-- Assumes nothing.
use mathlib.Core.Path.{◌≡◌, refl, ap, sym, subst, ◌∙◌}
use mathlib.Core.Logic.{inl, inr, ⊎_elim}
use mathlib.Core.List.{List, []}
use Prim.Native.Nat.{ℕ, zero, suc, ◌+◌, ◌-◌, ◌≤◌, ◌<◌}
use native.Mathlib.Omega.{arith}
use native.Mathlib.Decide.{dec_lt}
use lib.ListN.{length, get_or, take, drop, length-drop, length-take, get_or-eq_default}
use lib.Seq.{get_or-take, get_or-drop, length-take-le}
use Rattle.std.specs.List.{slice_range}
use Rattle.lists.specs.Mask.{mask-carry}
use Rattle.lists.specs.Range.{count}
use Rattle.theory_paths.specs.Graph.{Rising, Places, lower}
use Rattle.theory_paths.specs.Path.{Path, edges}
use Rattle.theory_paths.specs.Found.{Leveled}
use Rattle.search.specs.Sweep.{Between}
use Rattle.search.specs.Steps.{Leads}
use Rattle.search.specs.Fed.{Fed, Sowed, Stored}
use Rattle.search.specs.Search.{Standing, Sown}
use Rattle.search.specs.Promises.{Arrives, Searches}
use Rattle.search.specs.declared.edges.Parts.{Parts}

-- a range

pub range-long : (l : List ℕ) (a b : ℕ) → b ≤ length l → length (slice_range l a b) ≡ b - a
range-long l a b h = length-take-le (b - a) (drop a l) (omega (arith, length-drop a l))

pub range-at : (l : List ℕ) (a b k : ℕ) → k < b - a → get_or (slice_range l a b) k 0 ≡ get_or l (a + k) 0
range-at l a b k h = get_or-take (b - a) (drop a l) k 0 h ∙ get_or-drop a l k 0

-- the first n of a list

abbrev pub Same : List ℕ → List ℕ → ℕ → Type 0
Same s t n = (b : ℕ) → b < n → get_or s b 0 ≡ get_or t b 0

pub front-same : (l : List ℕ) (n : ℕ) → Same (take n l) l n
front-same l n b h = get_or-take n l b 0 h

-- The numbers of a front are below a bound, as those of the list.
pub front-below : (l : List ℕ) (n v : ℕ) → 0 < v → ((b : ℕ) → get_or l b 0 < v) → (b : ℕ) → get_or (take n l) b 0 < v
front-below l n v p h b = go (dec_lt b n)
  where
    go : Dec (b < n) → get_or (take n l) b 0 < v
    go (yes q) = rw (front-same l n b q) (h b)
    go (no q) = rw (get_or-eq_default (take n l) 0 {n = b} (omega (arith, length-take n l))) p

pub range-below : (l : List ℕ) (a b v : ℕ) → 0 < v → ((k : ℕ) → get_or l k 0 < v) → (k : ℕ) → get_or (slice_range l a b) k 0 < v
range-below l a b v p h = front-below (drop a l) (b - a) v p (λ k. rw (get_or-drop a l k 0) (h (a + k)))

module _ {s t : List ℕ} {n : ℕ} (same : Same s t n) where
  pub sowed-same : {values places masks : List ℕ} → Sowed values places s n masks → Sowed values places t n masks
  sowed-same {values} {places} w = record {
    long = w.long;
    mask = λ y. mask-carry (λ b l. subst (λ (x : ℕ). Leads values places x y) (same b l)) (λ b l. subst (λ (x : ℕ). Leads values places x y) (sym (same b l))) (w.mask y);
  }

  pub stored-same : {v : ℕ} {old new : List ℕ} → Stored v s n old new → Stored v t n old new
  stored-same {v} {old} {new} w = record {
    at = λ b l. subst (λ (x : ℕ). get_or new x 0 ≡ v) (same b l) (w.at b l);
    rest = λ y o. w.rest y (λ b l e. o b l (sym (same b l) ∙ e));
  }

  pub standing-same : {stops : List ℕ} → Standing stops s n → Standing stops t n
  standing-same w = record {
    on = λ b l c. w.on b l (rw (same b l) c);
    number = λ y c. let (b, l, e) = w.number y c in (b, l, sym (same b l) ∙ e);
  }

  module _ {E : ℕ → ℕ → Type 0} where
    pub sown-same : {masks : List ℕ} → Sown E s n masks → Sown E t n masks
    sown-same w = record {
      long = w.long;
      mask = λ y. mask-carry (λ b l. subst (λ (x : ℕ). E x y) (same b l)) (λ b l. subst (λ (x : ℕ). E x y) (sym (same b l))) (w.mask y);
    }

    pub leveled-same : {P Q : ℕ → Type 0} {levels : List ℕ} → Leveled E P Q s n levels → Leveled E P Q t n levels
    leveled-same {P} {Q} {levels} w = record {
      path = λ y q l.
          let r = w.path y q l in
          let (p, e) = subst (λ (x : ℕ). (p : Path E P x y) × (edges p ≡ get_or levels y 0)) (same r.source r.below) (r.path, r.long) in
          record { source = r.source; below = r.below; path = p; long = e };
      least = λ b y l q. subst (λ (x : ℕ). (p : Path E P x y) → (0 < get_or levels y 0) × (get_or levels y 0 ≤ edges p)) (same b l) (w.least b y l q);
    }

-- Keys.

pub rising-front : (keys : List ℕ) (n : ℕ) → n ≤ length keys → Rising keys n → Rising (take n keys) (length (take n keys))
rising-front keys n h r i j l m =
    let k : j < n = omega (arith, length-take-le n keys h) in
    rw (front-same keys n i (omega arith), front-same keys n j k) (r i j l k)

same_count : (keys : List ℕ) (n x m : ℕ) → m ≤ n → count m (lower (take n keys) x) ≡ count m (lower keys x)
unfolding count
same_count keys n x zero l = refl
same_count keys n x (suc m) l = rw (front-same keys n m (omega arith), same_count keys n x m (omega arith)) refl

pub places-front : {places : List ℕ} (keys : List ℕ) (n : ℕ) → Places (take n keys) (length (take n keys)) places → n ≤ length keys → Places keys n places
places-front keys n P h = let Q = rw (length-take-le n keys h) at P in record { long = Q.long; at = λ x l. Q.at x l ∙ same_count keys n x n (omega arith) }

-- Edges.

between-front : {keys values : List ℕ} {n x y : ℕ} → Between (take n keys) (take n values) 0 n x y → Between keys values 0 n x y
between-front {keys} {values} {n} w = record {
  at = w.at;
  from = w.from;
  below = w.below;
  key = sym (front-same keys n w.at w.below) ∙ w.key;
  value = sym (front-same values n w.at w.below) ∙ w.value;
}

front-between : {keys values : List ℕ} {n x y : ℕ} → Between keys values 0 n x y → Between (take n keys) (take n values) 0 n x y
front-between {keys} {values} {n} w = record {
  at = w.at;
  from = w.from;
  below = w.below;
  key = front-same keys n w.at w.below ∙ w.key;
  value = front-same values n w.at w.below ∙ w.value;
}

between-range : {values : List ℕ} {a b x y : ℕ} → Between [] (slice_range values a b) 0 (b - a) x y → Between [] values a b x y
between-range {values} {a} {b} w = record {
  at = a + w.at;
  from = omega arith;
  below = omega (arith, w.below);
  key = w.key;
  value = sym (range-at values a b w.at w.below) ∙ w.value;
}

range-between : {values : List ℕ} {a b x y : ℕ} → Between [] values a b x y → Between [] (slice_range values a b) 0 (b - a) x y
range-between {values} {a} {b} w =
    let e : a + (w.at - a) ≡ w.at = omega (arith, w.from) in
    let l : w.at - a < b - a = omega (arith, w.from, w.below) in
    record { at = w.at - a; from = omega arith; below = l; key = w.key; value = range-at values a b (w.at - a) l ∙ ap (λ (k : ℕ). get_or values k 0) e ∙ w.value }

fed-same : {L M : ℕ → ℕ → Type 0} {from s t : List ℕ} → ((x y : ℕ) → L x y → M x y) → ((x y : ℕ) → M x y → L x y) → Fed L from s t → Fed M from s t
fed-same to back f = record {
  long = f.long;
  low = f.low;
  keep = f.keep;
  all = λ x y m. f.all x y (back x y m);
  only = λ y b h. ⊎_elim inl (λ v. inr (record { node = v.node; edge = to v.node y v.edge; bit = v.bit })) (f.only y b h);
}

pub fed-front : {from s t : List ℕ} (keys values : List ℕ) (n : ℕ) → Fed (Between (take n keys) (take n values) 0 (length (take n keys))) from s t
    → n ≤ length keys → Fed (Between keys values 0 n) from s t
fed-front keys values n f h = fed-same (λ x y. between-front) (λ x y. front-between) (rw (length-take-le n keys h) at f)

pub fed-range : {from s t : List ℕ} (values : List ℕ) (a b : ℕ) → Fed (Between [] (slice_range values a b) 0 (length (slice_range values a b))) from s t
    → b ≤ length values → Fed (Between [] values a b) from s t
fed-range values a b f h = fed-same (λ x y. between-range) (λ x y. range-between) (rw (range-long values a b h) at f)

-- What is promised of the first n nodes of a list.

module _ (nodes : List ℕ) (n : ℕ) (h : n ≤ length nodes) where
  long : length (take n nodes) ≡ n
  long = length-take-le n nodes h

  back : Same nodes (take n nodes) n
  back b l = sym (front-same nodes n b l)

  pub sowed-front : {values places masks : List ℕ} → Sowed values places (take n nodes) (length (take n nodes)) masks → Sowed values places nodes n masks
  sowed-front w = sowed-same (front-same nodes n) (rw long at w)

  pub stored-front : {v : ℕ} {old new : List ℕ} → Stored v (take n nodes) (length (take n nodes)) old new → Stored v nodes n old new
  stored-front w = stored-same (front-same nodes n) (rw long at w)

  pub arrives-front : {edges : List (List ℕ)} {parts : Parts} {masks : List ℕ} → Arrives edges parts (take n nodes) (length (take n nodes)) masks
      → Arrives edges parts nodes n masks
  arrives-front w e stops T S = sown-same (front-same nodes n) (rw long at (w e stops T (rw long (standing-same back S))))

  pub searches-front : {edges : List (List ℕ)} {places levels : List ℕ} → Searches edges places (take n nodes) (length (take n nodes)) levels
      → Searches edges places nodes n levels
  searches-front w e stops parts T P S = leveled-same (front-same nodes n) (rw long at (w e stops parts T P (rw long (standing-same back S))))
