-- Nodes that wait pass their masks on: what a visit does, a walk along the edges of one node, and a turn of the ring; when the ring is empty,
-- the masks are closed.
-- Assumes nothing.
use mathlib.Core.Path.{◌≡◌, refl, sym, ◌∙◌}
use mathlib.Core.Logic.{inl, inr, ⊎_elim}
use mathlib.Core.List.{List, [], ◌∷◌}
use Prim.Native.Nat.{ℕ, zero, suc, ◌+◌, ◌-◌, ◌%◌, ◌≤◌, ◌<◌}
use native.Mathlib.Omega.{arith}
use native.Mathlib.Decide.{ℕ_discrete, dec_lt}
use lib.Bits.{bit_or, or_self, or_lt}
use lib.ListN.{length, get_or, set, length-set, replicate, length-replicate}
use lib.Seq.{get_or-set_same, get_or-set_other}
use Rattle.lists.specs.Mask.{Sub, or_left, or_right, or-more}
use Rattle.lists.specs.Store.{at_set, stored, zeros, filled, filled-set, filled-lt, filled-unset, filled-le}
use Rattle.search.specs.Sweep.{Lies, Carried, start, then, Closed, weight, gap}
use Rattle.search.specs.Waiting.{Upto, Linked, Fits, Full, Visited, same, kept, fresh, Walk, none, more, entry, Waits, Waiting}

-- the weight after a store
weight-lt : (g : ℕ → ℕ) (l : List ℕ) (i v : ℕ) → i < length l → g v < g (get_or l i 0) → weight g (set l i v) < weight g l
unfolding weight
weight-lt g [] i v h e = absurd (omega arith)
weight-lt g (x ∷ l) zero v h e = omega arith
weight-lt g (x ∷ l) (suc i) v h e = omega (arith, weight-lt g l i v (omega arith) e)

-- what is not 0 stands in a list
within : (l : List ℕ) (i : ℕ) → (get_or l i 0 ≡ 0 → ⊥) → i < length l
within [] i h = absurd (h refl)
within (x ∷ l) zero h = omega arith
within (x ∷ l) (suc i) h = omega (arith, within l i h)

-- The first x nodes are held and stand in the ring; no other is held.
pub record Entering (x : ℕ) (h q : List ℕ) : Type 0 where
  pub held : length h ≡ 192
  pub ring : length q ≡ 256
  pub count : x ≤ filled h
  pub free : (i : ℕ) → x ≤ i → get_or h i 0 ≡ 0
  pub entries : (i : ℕ) → i < x → get_or q i 0 ≡ i

pub entering-none : {q : List ℕ} → length q ≡ 256 → Entering 0 (replicate 192 0) q
entering-none l = record {
  held = length-replicate {A = ℕ} 192 0;
  ring = l;
  count = omega arith;
  free = λ i _. zeros 192 i;
  entries = λ i m. absurd (omega arith);
}

pub entering-more : {x : ℕ} {h q : List ℕ} → x < 192 → Entering x h q → Entering (x + 1) (set h x 1) (set q x x)
entering-more {x} {h} {q} l i =
    let hs : x < length h = omega (arith, i.held) in
    let qs : x < length q = omega (arith, i.ring) in
    record {
      held = simp length-set i.held;
      ring = simp length-set i.ring;
      count = omega (arith, i.count, filled-set h x 1 hs (i.free x (omega arith)) (omega arith));
      free = λ j m. get_or-set_other h x j 1 0 (λ e. omega arith) ∙ i.free j (omega arith);
      entries = stored (λ j v. v ≡ j) q x x qs refl i.entries;
    }

pub entering-all : {x : ℕ} {h q : List ℕ} → 192 ≤ x → x ≤ 192 → Entering x h q → Full h q
entering-all a b i = record { held = i.held; ring = i.ring; all = omega (arith, i.count); entries = λ j m. i.entries j (omega arith) }

-- lengths
visited-masks : {bits y head : ℕ} {s h q : List ℕ} {n : ℕ} {s' h' q' : List ℕ} {n' : ℕ} → Visited bits y head s h q n s' h' q' n' → length s ≡ 192 → length s' ≡ 192
visited-masks (same e) l = l
visited-masks (kept e f) l = simp length-set l
visited-masks (fresh e f) l = simp length-set l

visited-held : {bits y head : ℕ} {s h q : List ℕ} {n : ℕ} {s' h' q' : List ℕ} {n' : ℕ} → Visited bits y head s h q n s' h' q' n' → length h ≡ 192 → length h' ≡ 192
visited-held (same e) l = l
visited-held (kept e f) l = l
visited-held (fresh e f) l = simp length-set l

visited-ring : {bits y head : ℕ} {s h q : List ℕ} {n : ℕ} {s' h' q' : List ℕ} {n' : ℕ} → Visited bits y head s h q n s' h' q' n' → length q ≡ 256 → length q' ≡ 256
visited-ring (same e) l = l
visited-ring (kept e f) l = l
visited-ring (fresh e f) l = simp length-set l

pub walk-fits : {values before : List ℕ} {bits head first : ℕ} {s h q : List ℕ} {n j : ℕ} {s' h' q' : List ℕ} {n' : ℕ}
    → Walk values before bits head first s h q n j s' h' q' n' → Fits s h q head n → Fits s' h' q' head n'
walk-fits none f = f
walk-fits (more g r w m) f = let k = walk-fits r f in record {
  masks = visited-masks w k.masks;
  held = visited-held w k.held;
  ring = visited-ring w k.ring;
  first = k.first;
  room = m;
}

-- entries of the ring once one more came
module _ (q : List ℕ) (head n y : ℕ) (long : length q ≡ 256) (few : n < 256) where
  pushed-old : (j : ℕ) → j < n → entry (set q ((head + n) % 256) y) head j ≡ entry q head j
  pushed-old j l = get_or-set_other q ((head + n) % 256) ((head + j) % 256) y 0 (λ z. omega arith)

  pushed-last : entry (set q ((head + n) % 256) y) head n ≡ y
  pushed-last = get_or-set_same q ((head + n) % 256) y 0 (omega arith)

  pushed : (P : ℕ → Type 0) (j : ℕ) → j < n + 1 → P y → (j < n → P (entry q head j)) → P (entry (set q ((head + n) % 256) y) head j)
  pushed P j l f g = go (ℕ_discrete j n)
    where
      go : Dec (j ≡ n) → P (entry (set q ((head + n) % 256) y) head j)
      go (yes e) = rw (e, pushed-last) f
      go (no e) = let b : j < n = omega arith in rw (pushed-old j b) (g b)

-- What is known while node x passes its bits on.
pub record Passing (L : ℕ → ℕ → Type 0) (x bits : ℕ) (s₀ : List ℕ) (head : ℕ) (s h q : List ℕ) (n : ℕ) : Type 0 where
  pub state : Waiting L (λ z. z ≡ x) s₀ head s h q n
  pub mask : get_or s x 0 ≡ bits

-- A visit of y, to which an edge of x leads.
pub record Came (L : ℕ → ℕ → Type 0) (x y bits : ℕ) (s₀ : List ℕ) (head : ℕ) (s : List ℕ) (n : ℕ) (s' h' q' : List ℕ) (n' : ℕ) : Type 0 where
  pub passing : Passing L x bits s₀ head s' h' q' n'
  pub there : Sub bits (get_or s' y 0)
  pub grows : (z : ℕ) → Sub (get_or s z 0) (get_or s' z 0)
  pub falls : weight gap s' + n' ≤ weight gap s + n

module _ {L : ℕ → ℕ → Type 0} {x y bits : ℕ} {s₀ : List ℕ} {head : ℕ} {s h q : List ℕ} {n : ℕ} (i : Passing L x bits s₀ head s h q n) (l : L x y) (yn : y < 192) where
  abbrev v : ℕ
  v = bit_or (get_or s y 0) bits

  ys : y < length s
  ys = omega (arith, i.state.fits.masks)

  -- the masks once y's has grown
  module _ (new : bit_or (get_or s y 0) bits ≡ get_or s y 0 → ⊥) where
    other : x ≡ y → ⊥
    other e = new (rw (sym e, i.mask) (or_self bits))

    small : v < 18446744073709551616
    small = or_lt 64 _ _ (i.state.bound y) (rw i.mask at (i.state.bound x))

    mask-kept : get_or (set s y v) x 0 ≡ bits
    mask-kept = get_or-set_other s y x v 0 other ∙ i.mask

    grown : (z : ℕ) → Sub (get_or s z 0) (get_or (set s y v) z 0)
    grown z = at_set (λ m. Sub (get_or s z 0) m) s y v z ys (λ e. rw e (or_left (get_or s y 0) bits)) (λ _ b k. k)

    come : Sub bits (get_or (set s y v) y 0)
    come = rw (get_or-set_same s y v 0 ys) (or_right (get_or s y 0) bits)

    carry : Carried bit_or L s₀ (set s y v)
    carry = rw i.mask at (then x y i.state.carried l)

    lighter : weight gap (set s y v) < weight gap s
    lighter = weight-lt gap s y v ys (omega (arith, or-more (get_or s y 0) bits, small))

    bounded : (z : ℕ) → get_or (set s y v) z 0 < 18446744073709551616
    bounded z = at_set (λ m. m < 18446744073709551616) s y v z ys (λ _. small) (λ _. i.state.bound z)

    passed_on : (z w : ℕ) → (z ≡ y → ⊥) → Sub (get_or s z 0) (get_or s w 0) → Sub (get_or (set s y v) z 0) (get_or (set s y v) w 0)
    passed_on z w d c = rw (get_or-set_other s y z v 0 d) (λ b k. grown w b (c b k))

  pub came : {s' h' q' : List ℕ} {n' : ℕ} → Visited bits y head s h q n s' h' q' n' → n' ≤ filled h' → Came L x y bits s₀ head s n s' h' q' n'
  came (same e) r = record {
    passing = i;
    there = rw e at (or_right (get_or s y 0) bits);
    grows = λ z b k. k;
    falls = omega arith;
  }
  came (kept e d) r =
      let f = i.state.fits in
      record {
        passing = record {
          state = record {
            fits = record { masks = simp length-set f.masks; held = f.held; ring = f.ring; first = f.first; room = f.room };
            bound = bounded e;
            carried = carry e;
            node = i.state.node;
            waits = i.state.waits;
            done = λ z o k w m. passed_on e z w (λ g. d (rw g at k)) (i.state.done z o k w m);
          };
          mask = mask-kept e;
        };
        there = come e;
        grows = grown e;
        falls = omega (arith, lighter e);
      }
  came (fresh e d) r =
      let f = i.state.fits in
      let few : n < 256 = omega (arith, f.room, filled-le h, f.held) in
      let hs : y < length h = omega (arith, f.held) in
      record {
        passing = record {
          state = record {
            fits = record {
              masks = simp length-set f.masks;
              held = simp length-set f.held;
              ring = simp length-set f.ring;
              first = f.first;
              room = r;
            };
            bound = bounded e;
            carried = carry e;
            node = λ j b. pushed q head n y f.ring few (λ z. z < 192) j b yn (i.state.node j);
            waits = λ z k. stands z few (ℕ_discrete z y) (λ u. at_set (λ m. (m ≡ 0 → ⊥) → get_or h z 0 ≡ 0 → ⊥) h y 1 z hs (λ g. absurd (u g)) (λ _ m. m) k);
            done = λ z o k w m.
                let u : z ≡ y → ⊥ = λ g. absurd (let own = get_or-set_same h y 1 0 hs in let at_y = rw g at k in omega arith) in
                passed_on e z w u (i.state.done z o (sym (get_or-set_other h y z 1 0 u) ∙ k) w m);
          };
          mask = mask-kept e;
        };
        there = come e;
        grows = grown e;
        falls = omega (arith, lighter e);
      }
    where
      stands : (z : ℕ) → n < 256 → Dec (z ≡ y) → ((z ≡ y → ⊥) → get_or h z 0 ≡ 0 → ⊥) → Waits (set q ((head + n) % 256) y) head (n + 1) z
      stands z few (yes g) k = record { at = n; below = omega arith; is = pushed-last q head n y i.state.fits.ring few ∙ sym g }
      stands z few (no g) k =
          let w = i.state.waits z (k g) in
          record { at = w.at; below = omega (arith, w.below); is = pushed-old q head n y i.state.fits.ring few w.at w.below ∙ w.is }

-- The walk along the edges of x: where it stands, and what it has passed.
pub record Walked (keys values : List ℕ) (P : ℕ → Type 0) (x bits : ℕ) (s₀ : List ℕ) (ups low head : ℕ) (s : List ℕ) (n j : ℕ) (s' h' q' : List ℕ) (n' : ℕ) : Type 0 where
  pub passing : Passing (Lies keys values ups low) x bits s₀ head s' h' q' n'
  pub at : 0 < j → P (j - 1) × (get_or keys (j - 1) 0 ≡ x)
  pub passed : (k : ℕ) → P k → get_or keys k 0 ≡ x → j ≤ k → Sub bits (get_or s' (get_or values k 0) 0)
  pub falls : weight gap s' + n' ≤ weight gap s + n

module _ (keys values : List ℕ) (ups low : ℕ) (kn : (j : ℕ) → get_or keys j 0 < 192) (vn : (j : ℕ) → get_or values j 0 < 192) where
  abbrev L : ℕ → ℕ → Type 0
  L = Lies keys values ups low

  abbrev P : ℕ → Type 0
  P = Upto ups low 1024

  lies : (k x : ℕ) → P k → get_or keys k 0 ≡ x → L x (get_or values k 0)
  lies k x p e = ⊎_elim (λ l. inl (record { at = k; from = omega arith; below = l; key = e; value = refl }))
      (λ l. inr (record { at = k; from = l.0; below = l.1; key = e; value = refl })) p

  placed : (x y : ℕ) → L x y → (k : ℕ) × P k × (get_or keys k 0 ≡ x) × (get_or values k 0 ≡ y)
  placed x y l = ⊎_elim (λ b. (b.at, inl b.below, b.key, b.value)) (λ b. (b.at, inr (b.from, b.below), b.key, b.value)) l

  from-node : (x y : ℕ) → L x y → x < 192
  from-node x y l = let (k, p, e, f) = placed x y l in rw e at (kn k)

  module _ {last before : List ℕ} (links : Linked keys P last before) (x : ℕ) {bits : ℕ} {s₀ : List ℕ} {head : ℕ} {s h q : List ℕ} {n : ℕ}
      (i : Passing L x bits s₀ head s h q n) where
    walked : {j : ℕ} {s' h' q' : List ℕ} {n' : ℕ} → Walk values before bits head (get_or last x 0) s h q n j s' h' q' n'
        → Walked keys values P x bits s₀ ups low head s n j s' h' q' n'
    walked none = record {
      passing = i;
      at = links.last-own x;
      passed = λ k p e l. absurd (let b = rw e at (links.last-all k p) in omega arith);
      falls = omega arith;
    }
    walked (more {j = j} {s₁ = s₁} {s₂ = s₂} g r w m) =
        let u = walked r in
        let (p, e) = u.at g in
        let c = came u.passing (lies (j - 1) x p e) (vn (j - 1)) w m in
        record {
          passing = c.passing;
          at = λ b. let (o, f) = links.before-own (j - 1) p b in (o, f ∙ e);
          passed = λ k o f l. each k (dec_lt (j - 1) k) (ℕ_discrete k (j - 1)) (c.grows (get_or values k 0)) (u.passed k o f) c.there
              (λ b. let z = links.before-all k (j - 1) o p b (f ∙ sym e) in omega arith);
          falls = omega (arith, c.falls, u.falls);
        }
      where
        each : (k : ℕ) → Dec (j - 1 < k) → Dec (k ≡ j - 1) → Sub (get_or s₁ (get_or values k 0) 0) (get_or s₂ (get_or values k 0) 0)
            → (j ≤ k → Sub bits (get_or s₁ (get_or values k 0) 0)) → Sub bits (get_or s₂ (get_or values (j - 1) 0) 0) → (k < j - 1 → ⊥)
            → Sub bits (get_or s₂ (get_or values k 0) 0)
        each k (yes b) d grows old here never = λ i m. grows i (old (omega arith) i m)
        each k (no b) (yes d) grows old here never = rw d here
        each k (no b) (no d) grows old here never = absurd (never (omega arith))

  -- the first entry of the ring leaves it
  module _ {s₀ : List ℕ} {head : ℕ} {s h q : List ℕ} {n : ℕ} (i : Waiting L (λ z. ⊥) s₀ head s h q n) (some : 0 < n) where
    abbrev x : ℕ
    x = get_or q head 0

    first-in : entry q head 0 ≡ x
    first-in = let e : (head + 0) % 256 ≡ head = omega (arith, i.fits.first) in rw e

    pub node-first : x < 192
    node-first = rw first-in at (i.node 0 some)

    popped : (j : ℕ) → entry q ((head + 1) % 256) j ≡ entry q head (j + 1)
    popped j = let e : ((head + 1) % 256 + j) % 256 ≡ (head + (j + 1)) % 256 = omega arith in rw e

    pub left-fits : Fits s (set h x 0) q ((head + 1) % 256) (n - 1)
    left-fits =
        let f = i.fits in
        record {
          masks = f.masks;
          held = simp length-set f.held;
          ring = f.ring;
          first = omega arith;
          room = omega (arith, filled-unset h x 0, f.room);
        }

    left : Passing L x (get_or s x 0) s₀ ((head + 1) % 256) s (set h x 0) q (n - 1)
    left =
        record {
          state = record {
            fits = left-fits;
            bound = i.bound;
            carried = i.carried;
            node = λ j b. rw (popped j) (i.node (j + 1) (omega arith));
            waits = λ z k. stands z k (ℕ_discrete z x);
            done = λ z o k. i.done z (λ b. b) (sym (get_or-set_other h x z 0 0 o) ∙ k);
          };
          mask = refl;
        }
      where
        behind : (z : ℕ) → (z ≡ x → ⊥) → Waits q head n z → Waits q ((head + 1) % 256) (n - 1) z
        behind z d w =
            let later : w.at ≡ 0 → ⊥ = λ e. d (sym (rw e at w.is) ∙ first-in) in
            let e : w.at - 1 + 1 ≡ w.at = omega arith in
            record { at = w.at - 1; below = omega (arith, w.below); is = popped (w.at - 1) ∙ rw e w.is }

        stands : (z : ℕ) → (get_or (set h x 0) z 0 ≡ 0 → ⊥) → Dec (z ≡ x) → Waits q ((head + 1) % 256) (n - 1) z
        stands z k (yes e) = absurd (k (rw e (get_or-set_same h x 0 0 (omega (arith, i.fits.held, node-first)))))
        stands z k (no d) = behind z d (i.waits z (λ g. k (get_or-set_other h x z 0 0 d ∙ g)))

    -- and passes its mask on
    pub turned : {last before : List ℕ} → Linked keys P last before → {s' h' q' : List ℕ} {n' : ℕ}
        → Walk values before (get_or s x 0) ((head + 1) % 256) (get_or last x 0) s (set h x 0) q (n - 1) 0 s' h' q' n'
        → Waiting L (λ z. ⊥) s₀ ((head + 1) % 256) s' h' q' n' × (weight gap s' + n' < weight gap s + n)
    turned links {s'} {h'} w =
        let u = walked links x left w in
        let i = u.passing.state in (
          record {
            fits = i.fits;
            bound = i.bound;
            carried = i.carried;
            node = i.node;
            waits = i.waits;
            done = λ z o k y l. each z y l (ℕ_discrete z x) (λ d. i.done z d k y l) u.passing.mask u.passed;
          },
          omega (arith, u.falls),
        )
      where
        each : (z y : ℕ) → L z y → Dec (z ≡ x) → ((z ≡ x → ⊥) → Sub (get_or s' z 0) (get_or s' y 0)) → get_or s' x 0 ≡ get_or s x 0
            → ((k : ℕ) → P k → get_or keys k 0 ≡ x → 0 ≤ k → Sub (get_or s x 0) (get_or s' (get_or values k 0) 0)) → Sub (get_or s' z 0) (get_or s' y 0)
        each z y l (no d) other mask passed = other d
        each z y l (yes e) other mask passed =
            let (k, p, f, g) = placed z y l in
            rw (e, mask) (rw g at (passed k p (f ∙ e) (omega arith)))

  pub begun : {s h q : List ℕ} → length s ≡ 192 → ((y : ℕ) → get_or s y 0 < 18446744073709551616) → Full h q → Waiting L (λ z. ⊥) s 0 s h q 192
  begun {s} {h} {q} l b f = record {
    fits = record { masks = l; held = f.held; ring = f.ring; first = omega arith; room = f.all };
    bound = b;
    carried = start;
    node = λ i m. rw (spot i m, f.entries i m) m;
    waits = λ x k. let m : x < 192 = omega (arith, within h x k, f.held) in record { at = x; below = m; is = rw (spot x m) (f.entries x m) };
    done = λ x o k y e. absurd (let m = filled-lt h x (omega (arith, f.held, from-node x y e)) k in omega (arith, f.held, f.all));
  }
    where
      spot : (i : ℕ) → i < 192 → (0 + i) % 256 ≡ i
      spot i m = omega arith

  -- the ring is empty
  pub drained : {s₀ : List ℕ} {head : ℕ} {s h q : List ℕ} → Waiting L (λ z. ⊥) s₀ head s h q 0 → Closed Sub L s
  drained {h = h} i x y l = i.done x (λ b. b) (free (ℕ_discrete (get_or h x 0) 0)) y l
    where
      free : Dec (get_or h x 0 ≡ 0) → get_or h x 0 ≡ 0
      free (yes e) = e
      free (no d) = absurd (let w = i.waits x d in omega (arith, w.below))
