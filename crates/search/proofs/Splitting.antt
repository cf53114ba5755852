-- One edge more keeps the two parts; and parts in order are ahead, forward and backward.
-- Assumes nothing.
use mathlib.Core.Path.{◌≡◌, refl, ◌∙◌}
use mathlib.Core.Logic.{◌⊎◌, inl, inr}
use mathlib.Core.Bool.{Bool, true, false}
use mathlib.Core.List.{List}
use Prim.Native.Nat.{ℕ, ◌+◌, ◌-◌, ◌≤◌, ◌<◌}
use native.Mathlib.Omega.{arith}
use native.Mathlib.Decide.{ℕ_discrete}
use borrow.Author.Count.{below_more}
use lib.ListN.{length, get_or, set, length-set}
use lib.Seq.{get_or-set_same, get_or-set_other}
use Rattle.lists.specs.Store.{at_set}
use Rattle.theory_paths.specs.Graph.{Listed, Rising}
use Rattle.theory_paths.specs.Found.{Clear}
use Rattle.theory_paths.specs.FoundLaws.{listed-turned}
use Rattle.search.specs.Sweep.{Between, Lies, Ahead, Lists, place}
use Rattle.search.specs.SweepLaws.{Inner}
use Rattle.search.specs.Parts.{Kept, Parted, Put, Come, Noted}

-- before the first edge

pub parted-none : (keys values stops s t : List ℕ) → length s ≡ 1024 → length t ≡ 1024
    → ((i : ℕ) → get_or s i 0 < 192) → ((i : ℕ) → get_or t i 0 < 192) → Parted keys values stops 0 s t 0 1024
parted-none keys values stops s t ls lt ns nt = record {
  long-s = ls;
  long-t = lt;
  few = omega arith;
  top = omega arith;
  node-s = ns;
  node-t = nt;
  up = λ i l. absurd (omega arith);
  down = λ i l m. absurd (omega arith);
  all = λ i l. absurd (omega arith);
  rising = λ i k l m. absurd (omega arith);
  falling = λ i k l m n. absurd (omega arith);
}

pub come-none : (keys values stops s t : List ℕ) → length s ≡ 1024 → length t ≡ 1024
    → ((i : ℕ) → get_or s i 0 < 192) → ((i : ℕ) → get_or t i 0 < 192) → Come keys values stops 0 s t 0
come-none keys values stops s t ls lt ns nt = record {
  long-s = ls;
  long-t = lt;
  few = omega arith;
  node-s = ns;
  node-t = nt;
  only = λ i l. absurd (omega arith);
  all = λ i l. absurd (omega arith);
}

listed-later : {keys values : List ℕ} {j x y : ℕ} → Listed keys values j x y → Listed keys values (j + 1) x y
listed-later l = record { at = l.at; below = omega (arith, l.below); key = l.key; value = l.value }

-- one edge more, for those to stops
pub come-turn : {keys values stops : List ℕ} {j : ℕ} {s t s' t' : List ℕ} {n n' : ℕ} → j < 1024 → get_or keys j 0 < 192 → get_or values j 0 < 192
    → Come keys values stops j s t n → Noted (get_or keys j 0) (get_or values j 0) (get_or stops (get_or values j 0) 0) s t n s' t' n'
    → Come keys values stops (j + 1) s' t' n'
come-turn {keys} {values} {stops} {j} {s} {t} {s'} {t'} {n} {n'} h kn vn i p = rw (p.is-s, p.is-t) (go (ℕ_discrete (get_or stops y 0) 0))
  where
    x : ℕ
    x = get_or keys j 0

    y : ℕ
    y = get_or values j 0

    in-s : n < length s
    in-s = omega (arith, i.long-s, i.few)

    in-t : n < length t
    in-t = omega (arith, i.long-t, i.few)

    old : (m k : ℕ) → k < n → Listed keys values (j + 1) (get_or (set s n x) k 0) (get_or (set t n y) k 0) × (Clear stops (get_or (set t n y) k 0) → ⊥)
    old m k l =
        rw (get_or-set_other s n k x 0 (λ z. omega arith), get_or-set_other t n k y 0 (λ z. omega arith)) (listed-later (i.only k l).0, (i.only k l).1)

    kept : (m : ℕ) → n ≤ m → {a b : ℕ} → Between s t 0 n a b → Between (set s n x) (set t n y) 0 m a b
    kept m l w = record {
      at = w.at;
      from = w.from;
      below = omega (arith, w.below);
      key = get_or-set_other s n w.at x 0 (λ z. omega (arith, w.below)) ∙ w.key;
      value = get_or-set_other t n w.at y 0 (λ z. omega (arith, w.below)) ∙ w.value;
    }

    with-count : (m : ℕ) → n ≤ m → m ≤ n + 1
        → ((k : ℕ) → k < m → Listed keys values (j + 1) (get_or (set s n x) k 0) (get_or (set t n y) k 0) × (Clear stops (get_or (set t n y) k 0) → ⊥))
        → ((Clear stops y → ⊥) → Between (set s n x) (set t n y) 0 m x y) → Come keys values stops (j + 1) (set s n x) (set t n y) m
    with-count m l u only new = record {
      long-s = simp length-set i.long-s;
      long-t = simp length-set i.long-t;
      few = omega (arith, i.few);
      node-s = λ k. at_set (λ v. v < 192) s n x k in-s (λ _. kn) (λ _. i.node-s k);
      node-t = λ k. at_set (λ v. v < 192) t n y k in-t (λ _. vn) (λ _. i.node-t k);
      only = only;
      all = λ k. below_more (λ k. (Clear stops (get_or values k 0) → ⊥) → Between (set s n x) (set t n y) 0 m (get_or keys k 0) (get_or values k 0)) j
          (λ k b c. kept m l (i.all k b c)) new k;
    }

    go : Dec (get_or stops y 0 ≡ 0) → Come keys values stops (j + 1) (set s n x) (set t n y) n'
    go (yes z) = let e = p.none z in rw e (with-count n (omega arith) (omega arith) (old n) (λ c. absurd (c z)))
    go (no z) =
        let e = p.one z in
        let ox : get_or (set s n x) n 0 ≡ x = get_or-set_same s n x 0 in-s in
        let oy : get_or (set t n y) n 0 ≡ y = get_or-set_same t n y 0 in-t in
        rw e (with-count (n + 1) (omega arith) (omega arith)
        (below_more (λ k. Listed keys values (j + 1) (get_or (set s n x) k 0) (get_or (set t n y) k 0) × (Clear stops (get_or (set t n y) k 0) → ⊥)) n
        (old (n + 1)) (rw (ox, oy) (record { at = j; below = omega arith; key = refl; value = refl }, z)))
        (λ _. record { at = n; from = omega arith; below = omega arith; key = ox; value = oy }))

module _ {keys values stops : List ℕ} {e j : ℕ} {s t : List ℕ} {ups low : ℕ} (order : Rising keys e) (within : j < e)
    (kn : get_or keys j 0 < 192) (vn : get_or values j 0 < 192) (i : Parted keys values stops j s t ups low) where
  abbrev x : ℕ
  x = get_or keys j 0

  abbrev y : ℕ
  y = get_or values j 0

  later : {a b : ℕ} → Kept keys values stops j a b → Kept keys values stops (j + 1) a b
  later k = record {
    edge = listed-later k.edge;
    from = k.from;
    to = k.to;
  }

  -- no edge before this one leaves a higher node
  highest : {a b : ℕ} → Kept keys values stops j a b → a ≤ x
  highest k = let l = k.edge in omega (arith, l.key, order l.at j (omega (arith, l.below)) within)

  own : Clear stops x → Clear stops y → Kept keys values stops (j + 1) x y
  own f g = record { edge = record { at = j; below = omega arith; key = refl; value = refl }; from = f; to = g }

  module _ (at : ℕ) (inside : (ups ≤ at) × (at < low)) where
    abbrev s' : List ℕ
    s' = set s at x

    abbrev t' : List ℕ
    t' = set t at y

    same_s : (k : ℕ) → (k ≡ at → ⊥) → get_or s' k 0 ≡ get_or s k 0
    same_s k n = get_or-set_other s at k x 0 n

    same-t : (k : ℕ) → (k ≡ at → ⊥) → get_or t' k 0 ≡ get_or t k 0
    same-t k n = get_or-set_other t at k y 0 n

    own-s : get_or s' at 0 ≡ x
    own-s = get_or-set_same s at x 0 (omega (arith, i.long-s, i.top))

    own-t : get_or t' at 0 ≡ y
    own-t = get_or-set_same t at y 0 (omega (arith, i.long-t, i.top))

    nodes-s : (k : ℕ) → get_or s' k 0 < 192
    nodes-s k = at_set (λ m. m < 192) s at x k (omega (arith, i.long-s, i.top)) (λ _. kn) (λ _. i.node-s k)

    nodes-t : (k : ℕ) → get_or t' k 0 < 192
    nodes-t k = at_set (λ m. m < 192) t at y k (omega (arith, i.long-t, i.top)) (λ _. vn) (λ _. i.node-t k)

    ups-kept : (k : ℕ) → k < ups → Kept keys values stops (j + 1) (get_or s' k 0) (get_or t' k 0) × (get_or s' k 0 < get_or t' k 0)
    ups-kept k l = rw (same_s k (λ q. omega arith), same-t k (λ q. omega arith)) (later (i.up k l).0, (i.up k l).1)

    downs-kept : (k : ℕ) → low ≤ k → k < 1024 → Kept keys values stops (j + 1) (get_or s' k 0) (get_or t' k 0) × (get_or t' k 0 ≤ get_or s' k 0)
    downs-kept k l m = rw (same_s k (λ q. omega arith), same-t k (λ q. omega arith)) (later (i.down k l m).0, (i.down k l m).1)

    -- what lay in a part lies there still, also when the part has grown
    lies : (u l : ℕ) {a b : ℕ} → ups ≤ u → l ≤ low → Lies s t ups low a b → Lies s' t' u l a b
    lies u l p q (inl w) = inl (record {
      at = w.at;
      from = w.from;
      below = omega (arith, w.below);
      key = same_s w.at (λ z. omega (arith, w.below)) ∙ w.key;
      value = same-t w.at (λ z. omega (arith, w.below)) ∙ w.value;
    })
    lies u l p q (inr w) = inr (record {
      at = w.at;
      from = omega (arith, w.from);
      below = w.below;
      key = same_s w.at (λ z. omega (arith, w.from)) ∙ w.key;
      value = same-t w.at (λ z. omega (arith, w.from)) ∙ w.value;
    })

    all_more : (u l : ℕ) → ups ≤ u → l ≤ low → (Clear stops x → Clear stops y → Lies s' t' u l x y)
        → (k : ℕ) → k < j + 1 → Clear stops (get_or keys k 0) → Clear stops (get_or values k 0) → Lies s' t' u l (get_or keys k 0) (get_or values k 0)
    all_more u l p q new k = below_more (λ k. Clear stops (get_or keys k 0) → Clear stops (get_or values k 0) → Lies s' t' u l (get_or keys k 0) (get_or values k 0)) j
        (λ k b f g. lies u l p q (i.all k b f g)) new k

    rising-old : (a k : ℕ) → a ≤ k → k < ups → get_or s' a 0 ≤ get_or s' k 0
    rising-old a k l m = rw (same_s a (λ q. omega arith), same_s k (λ q. omega arith)) (i.rising a k l m)

    falling-old : (a k : ℕ) → low ≤ a → a ≤ k → k < 1024 → get_or s' k 0 ≤ get_or s' a 0
    falling-old a k l m n = rw (same_s a (λ q. omega arith), same_s k (λ q. omega arith)) (i.falling a k l m n)

    -- it is not kept
    pub put-none : (Clear stops x → Clear stops y → ⊥) → Parted keys values stops (j + 1) s' t' ups low
    put-none n = record {
      long-s = simp length-set i.long-s;
      long-t = simp length-set i.long-t;
      few = omega (arith, i.few);
      top = i.top;
      node-s = nodes-s;
      node-t = nodes-t;
      up = ups-kept;
      down = downs-kept;
      all = all_more ups low (omega arith) (omega arith) (λ f g. absurd (n f g));
      rising = rising-old;
      falling = falling-old;
    }

    -- it rises
    pub put_up : Clear stops x → Clear stops y → x < y → at ≡ ups → Parted keys values stops (j + 1) s' t' (at + 1) low
    put_up f g h q = record {
      long-s = simp length-set i.long-s;
      long-t = simp length-set i.long-t;
      few = omega (arith, i.few);
      top = i.top;
      node-s = nodes-s;
      node-t = nodes-t;
      up = λ k l. below_more (λ k. Kept keys values stops (j + 1) (get_or s' k 0) (get_or t' k 0) × (get_or s' k 0 < get_or t' k 0)) at
          (λ k b. ups-kept k (omega arith)) (rw (own-s, own-t) (own f g, h)) k l;
      down = downs-kept;
      all = all_more (at + 1) low (omega arith) (omega arith)
          (λ _ _. inl (record { at = at; from = omega arith; below = omega arith; key = own-s; value = own-t }));
      rising = λ a k l m. below_more (λ k. a ≤ k → get_or s' a 0 ≤ get_or s' k 0) at (λ k b l. rising-old a k l (omega arith)) (last a) k m l;
      falling = falling-old;
    }
      where
        last : (a : ℕ) → a ≤ at → get_or s' a 0 ≤ get_or s' at 0
        last a l = go (ℕ_discrete a at)
          where
            go : Dec (a ≡ at) → get_or s' a 0 ≤ get_or s' at 0
            go (yes z) = rw z (omega arith)
            go (no z) = omega (arith, same_s a z, own-s, highest (i.up a (omega arith)).0)

    -- it falls
    pub put-down : Clear stops x → Clear stops y → y ≤ x → at + 1 ≡ low → Parted keys values stops (j + 1) s' t' ups at
    put-down f g h q = record {
      long-s = simp length-set i.long-s;
      long-t = simp length-set i.long-t;
      few = omega (arith, i.few);
      top = omega (arith, i.top);
      node-s = nodes-s;
      node-t = nodes-t;
      up = ups-kept;
      down = λ k l m. first k l m;
      all = all_more ups at (omega arith) (omega arith)
          (λ _ _. inr (record { at = at; from = omega arith; below = omega (arith, i.top); key = own-s; value = own-t }));
      rising = rising-old;
      falling = λ a k l m n. low_first a k l m n (ℕ_discrete a at) (ℕ_discrete k at);
    }
      where
        first : (k : ℕ) → at ≤ k → k < 1024
            → Kept keys values stops (j + 1) (get_or s' k 0) (get_or t' k 0) × (get_or t' k 0 ≤ get_or s' k 0)
        first k l m = go (ℕ_discrete k at)
          where
            go : Dec (k ≡ at) → Kept keys values stops (j + 1) (get_or s' k 0) (get_or t' k 0) × (get_or t' k 0 ≤ get_or s' k 0)
            go (yes z) = rw (z, own-s, own-t) (own f g, h)
            go (no z) = downs-kept k (omega arith) m

        low_first : (a k : ℕ) → at ≤ a → a ≤ k → k < 1024 → Dec (a ≡ at) → Dec (k ≡ at) → get_or s' k 0 ≤ get_or s' a 0
        low_first a k l m n (no z) d = falling-old a k (omega arith) m n
        low_first a k l m n (yes z) (yes w) = rw (z, w) (omega arith)
        low_first a k l m n (yes z) (no w) = rw z (omega (arith, same_s k w, own-s, highest (i.down k (omega arith) n).0))

-- one turn of the loop
pub put-turn : {keys values stops : List ℕ} {e j : ℕ} {s t s' t' : List ℕ} {ups low ups' low' : ℕ} {keep : Bool} → Rising keys e → j < e
    → get_or keys j 0 < 192 → get_or values j 0 < 192 → Parted keys values stops j s t ups low
    → (keep ≡ true → Clear stops (get_or keys j 0) × Clear stops (get_or values j 0))
    → (keep ≡ false → Clear stops (get_or keys j 0) → Clear stops (get_or values j 0) → ⊥)
    → Put (get_or keys j 0) (get_or values j 0) keep s t ups low s' t' ups' low' → Parted keys values stops (j + 1) s' t' ups' low'
put-turn {keys} {values} {stops} {e} {j} {s} {t} {s'} {t'} {ups} {low} {ups'} {low'} {keep} order within kn vn i yes-kept no-kept p = go p.way
  where
    go : ((keep ≡ false) × (ups' ≡ ups) × (low' ≡ low)) ⊎ (((keep ≡ true) × (get_or keys j 0 < get_or values j 0) × (p.at ≡ ups) × (ups' ≡ ups + 1) × (low' ≡ low))
        ⊎ ((keep ≡ true) × (get_or values j 0 ≤ get_or keys j 0) × (p.at + 1 ≡ low) × (ups' ≡ ups) × (low' ≡ p.at)))
        → Parted keys values stops (j + 1) s' t' ups' low'
    go (inl (z, u, l)) = rw (p.is-s, p.is-t, u, l) (put-none order within kn vn i p.at p.inside (no-kept z))
    go (inr (inl (z, h, q, u, l))) =
        let u' : ups' ≡ p.at + 1 = omega arith in
        rw (p.is-s, p.is-t, u', l) (put_up order within kn vn i p.at p.inside (yes-kept z).0 (yes-kept z).1 h q)
    go (inr (inr (z, h, q, u, l))) = rw (p.is-s, p.is-t, u, l) (put-down order within kn vn i p.at p.inside (yes-kept z).0 (yes-kept z).1 h q)

-- what the parts are good for

pub between-turned : {keys values : List ℕ} {a b x y : ℕ} → Between keys values a b x y → Between values keys a b y x
between-turned w = record { at = w.at; from = w.from; below = w.below; key = w.value; value = w.key }

swap : {s t : List ℕ} {ups low x y : ℕ} → Lies s t ups low x y → Lies t s ups low y x
swap (inl w) = inl (between-turned w)
swap (inr w) = inr (between-turned w)

module _ {keys values stops : List ℕ} {e : ℕ} {s t : List ℕ} {ups low : ℕ} (i : Parted keys values stops e s t ups low) where
  -- they have the graph's edges between nodes that may be passed
  lies-only : (x y : ℕ) → Lies s t ups low x y
      → Listed keys values e x y × Clear stops x × ((x < 192) × Clear stops x) × ((y < 192) × Clear stops y)
  lies-only x y l = elim l [
    | inl w ↦ rw (w.key, w.value) at (each w.at (i.up w.at w.below).0)
    | inr w ↦ rw (w.key, w.value) at (each w.at (i.down w.at w.from w.below).0)
  ]
    where
      each : (k : ℕ) → Kept keys values stops e (get_or s k 0) (get_or t k 0)
          → Listed keys values e (get_or s k 0) (get_or t k 0) × Clear stops (get_or s k 0) × ((get_or s k 0 < 192) × Clear stops (get_or s k 0))
          × ((get_or t k 0 < 192) × Clear stops (get_or t k 0))
      each k w = (w.edge, w.from, (i.node-s k, w.from), (i.node-t k, w.to))

  listed-lies : (x y : ℕ) → Clear stops x → Clear stops y → Listed keys values e x y → Lies s t ups low x y
  listed-lies x y p q l = rw (l.key, l.value) at (i.all l.at l.below (rw l.key p) (rw l.value q))

  pub parted-inner : ((j : ℕ) → get_or values j 0 < 192)
      → Inner (Listed keys values e) (Clear stops) (λ y. (y < 192) × Clear stops y) (Lies s t ups low)
  parted-inner vn = record {
    node = λ x y l. (lies-only x y l).3.0;
    only = lies-only;
    all = λ x y p q. listed-lies x y p q.1;
    pass = λ x z l p. (rw l.value at (vn l.at), p);
  }

  -- and turned round those of the graph turned round
  pub parted-turned : ((j : ℕ) → get_or keys j 0 < 192)
      → Inner (Listed values keys e) (Clear stops) (λ y. (y < 192) × Clear stops y) (Lies t s ups low)
  parted-turned kn = record {
    node = λ x y l. (lies-only y x (swap l)).2.0;
    only = λ x y l. let (e, p, q, r) = lies-only y x (swap l) in (listed-turned y x e, r.1, r, q);
    all = λ x y p q l. swap (listed-lies y x q.1 p (listed-turned x y l));
    pass = λ x z l p. (rw l.value at (kn l.at), p);
  }

  -- forward
  ups-ahead : Ahead s t 0 ups false
  unfolding place
  ups-ahead a k l m n q = absurd (omega (arith, i.rising a k (omega arith) n, (i.up k n).1))

  downs-ahead : Ahead s t low 1024 false
  unfolding place
  downs-ahead a k l m n q = inr (omega (arith, i.falling a k l (omega arith) n, (i.down k (omega arith) n).1))

  -- backward, along the edges turned round
  ups-back : Ahead t s 0 ups true
  unfolding place
  ups-back a k l m n q =
      let a' = 0 + (ups - 1 - a) in
      let k' = 0 + (ups - 1 - k) in
      absurd (omega (arith, i.rising k' a' (omega arith) (omega arith), (i.up a' (omega arith)).1))

  downs-back : Ahead t s low 1024 true
  unfolding place
  downs-back a k l m n q =
      let a' = low + (1024 - 1 - a) in
      let k' = low + (1024 - 1 - k) in
      inl (omega (arith, i.falling k' a' (omega arith) (omega arith) (omega arith), (i.down a' (omega arith) (omega arith)).1))

  pub lists-ahead : e ≤ 1024 → Lists s t ups low false
  lists-ahead few = record {
    apart = omega (arith, i.few);
    ups-most = omega (arith, i.few, i.top);
    low-most = i.top;
    key = i.node-s;
    value = i.node-t;
    rising = ups-ahead;
    falling = downs-ahead;
  }

  pub lists_back : e ≤ 1024 → Lists t s ups low true
  lists_back few = record {
    apart = omega (arith, i.few);
    ups-most = omega (arith, i.few, i.top);
    low-most = i.top;
    key = i.node-t;
    value = i.node-s;
    rising = ups-back;
    falling = downs-back;
  }
