-- A turn goes on from one more source, or from the next node of the queue. When none is left the levels are the fewest edges.
-- Assumes nothing.
use mathlib.Core.Path.{◌≡◌, refl, ◌∙◌}
use mathlib.Core.List.{List}
use Prim.Native.Nat.{ℕ, ◌+◌, ◌≤◌, ◌<◌}
use native.Mathlib.Omega.{arith}
use borrow.Author.Count.{below_more}
use lib.ListN.{length, get_or}
use Rattle.theory_paths.specs.Path.{Path, last, next, edges}
use Rattle.theory_paths.specs.PathLaws.{append, edges-append}
use Rattle.theory_paths.specs.Found.{Clear, Reached, ReachedIn, Leveled}
use Rattle.search.specs.Steps.{Leads, Bounded, Run}
use Rattle.search.specs.Invariant.{level_at, Queued, Spent, State}
use Rattle.search.proofs.Visits.{Grown, Met, room-end, run}

module _ (values places marks sources : List ℕ) (k : ℕ) where
  abbrev E : ℕ → ℕ → Type 0
  E = Leads values places

  abbrev S : ℕ → ℕ → Type 0
  S = ReachedIn E (Clear marks) sources k

  abbrev At : ℕ → ℕ → ℕ → List ℕ → List ℕ → ℕ → Type 0
  At = State E marks sources k

  pub begun : {q : List ℕ} → length marks ≡ 192 → length q ≡ 256 → At 0 1 0 marks q 0
  begun l m = record {
    queued = record {
      room = record { levels = l; queue = m; few = omega arith };
      free = λ y e. e;
      path = λ y c h. absurd (omega arith);
      waits = λ y c h. absurd (omega arith);
      node = λ i l. absurd (omega arith);
      clear = λ i l. absurd (omega arith);
      some = λ i l. absurd (omega arith);
      order = λ i j l h. absurd (omega arith);
      most = λ i l. absurd (omega arith);
      short = λ i l. absurd (omega arith);
    };
    first = λ c l. absurd (omega arith);
    done = λ i l. absurd (omega arith);
    left = λ i l h. absurd (omega arith);
    within = omega arith;
  }

  spent-grown : {d q : List ℕ} {n : ℕ} {d' q' : List ℕ} {n' w x : ℕ} → Grown d q n d' q' n' → Spent E marks d w x → Spent E marks d' w x
  spent-grown g s y l c = let (p, m) = s y l c in let e = g.levels y p in (omega arith, omega arith)

  -- a level that is no lower than those before
  higher : {v w : ℕ} {d q : List ℕ} {n : ℕ} → v ≤ w → Queued S marks v d q n → Queued S marks w d q n
  higher l Q = record {
    room = Q.room;
    free = Q.free;
    path = Q.path;
    waits = Q.waits;
    node = Q.node;
    clear = Q.clear;
    some = Q.some;
    order = Q.order;
    most = λ i h. omega (arith, Q.most i h);
    short = Q.short;
  }

  -- the edges of x lead to nodes at level w
  module _ (B : Bounded values places) {b v h : ℕ} {d q : List ℕ} {n : ℕ} {d' q' : List ℕ} {n' : ℕ} (s : At b v h d q n) (w x : ℕ) (some : 0 < w) (up : v ≤ w)
      (low : w ≤ n + 1) (new : (y : ℕ) → E x y → S w y) (r : Run values w (get_or places x 0) d q n (get_or places (x + 1) 0) d' q' n') where
    abbrev ran : (get_or places x 0 ≤ get_or places (x + 1) 0) × Queued S marks w d' q' n' × Grown d q n d' q' n'
        × ((j : ℕ) → get_or places x 0 ≤ j → j < get_or places (x + 1) 0 → Met marks w d' (get_or values j 0))
    ran = run S marks w some values (get_or places x 0) B.node
        (λ j l m c. new (get_or values j 0) (record { at = j; from = l; below = m; value = refl })) low (higher up s.queued) r

    spent : Spent E marks d' w x
    spent y l c = let (p, m) = rw l.value at (ran.3 l.at l.from l.below) in (p, m c)

    first-kept : (c : ℕ) → c < b → Spent E marks d' 1 (get_or sources c 0)
    first-kept c l = spent-grown ran.2 (s.first c l)

    level-kept : (i : ℕ) → i < n → level_at d' q' i ≡ level_at d q i
    level-kept i l = rw (ran.2.queue i l) (ran.2.levels (get_or q i 0) (s.queued.some i l))

    done-kept : (i : ℕ) → i < h → Spent E marks d' (level_at d' q' i + 1) (get_or q' i 0)
    done-kept i l =
        let m : i < n = omega (arith, s.within) in
        rw (level-kept i m, ran.2.queue i m) (spent-grown ran.2 (s.done i l))

  module _ (B : Bounded values places) where
    -- one more source
    pub source-turn : {b : ℕ} {d q : List ℕ} {n : ℕ} {d' q' : List ℕ} {n' : ℕ} → At b 1 0 d q n → b < k
        → Run values 1 (get_or places (get_or sources b 0) 0) d q n (get_or places (get_or sources b 0 + 1) 0) d' q' n' → At (b + 1) 1 0 d' q' n'
    unfolding edges
    source-turn {b} {n = n} {d' = d'} s l r =
        let x = get_or sources b 0 in
        let p : 0 < 1 = omega arith in
        let u : 1 ≤ 1 = omega arith in
        let o : (y : ℕ) → E x y → S 1 y = λ y e. record { source = b; below = l; path = last e; long = refl } in
        let m : 1 ≤ n + 1 = omega arith in
        record {
          queued = (ran B s 1 x p u m o r).1;
          first = below_more (λ c. Spent E marks d' 1 (get_or sources c 0)) b (first-kept B s 1 x p u m o r) (spent B s 1 x p u m o r);
          done = λ i h. absurd (omega arith);
          left = λ i h g. omega arith;
          within = omega arith;
        }

    -- the next node of the queue
    pub node-turn : {v h : ℕ} {d q : List ℕ} {n : ℕ} {d' q' : List ℕ} {n' : ℕ} → At k v h d q n → h < n
        → Run values (level_at d q h + 1) (get_or places (get_or q h 0) 0) d q n (get_or places (get_or q h 0 + 1) 0) d' q' n'
        → At k (level_at d q h + 1) (h + 1) d' q' n'
    unfolding edges
    node-turn {v} {h} {d} {q} {n} {d'} {q'} s l r =
        let x = get_or q h 0 in
        let w = level_at d q h + 1 in
        let p : 0 < w = omega arith in
        let u : v ≤ w = s.left h (omega arith) l in
        let m : w ≤ n + 1 = omega (arith, s.queued.short h l) in
        let clear = s.queued.clear h l in
        let to-x = s.queued.path x clear (s.queued.some h l) in
        let o : (y : ℕ) → E x y → S w y = λ y e. record {
          source = to-x.source;
          below = to-x.below;
          path = append to-x.path clear (last e);
          long = edges-append to-x.path clear (last e) ∙ rw to-x.long;
        } in
        let (_, Q, g, _) = ran B s w x p u m o r in
        let at-h = level-kept B s w x p u m o r h l in
        record {
          queued = Q;
          first = first-kept B s w x p u m o r;
          done = below_more (λ i. Spent E marks d' (level_at d' q' i + 1) (get_or q' i 0)) h (done-kept B s w x p u m o r)
              (rw (at-h, g.queue h l) (spent B s w x p u m o r));
          left = λ i a b. omega (arith, Q.order h i (omega arith) b);
          within = omega (arith, g.tail);
        }

  -- none is left
  pub found : {v h : ℕ} {d q : List ℕ} {n : ℕ} → At k v h d q n → n ≤ h → Leveled E (Clear marks) (Clear marks) sources k d
  unfolding edges
  found {d = d} s all = record { path = s.queued.path; least = λ b y l c w. least b l c w }
    where
      step : (x y : ℕ) → Clear marks x → 0 < get_or d x 0 → E x y → Clear marks y → (0 < get_or d y 0) × (get_or d y 0 ≤ get_or d x 0 + 1)
      step x y c h e o = let w = s.queued.waits x c h in (rw w.is at (s.done w.at (omega (arith, w.below)))) y e o

      along : {x z : ℕ} → Clear marks x → 0 < get_or d x 0 → Clear marks z → (w : Path E (Clear marks) x z)
          → (0 < get_or d z 0) × (get_or d z 0 ≤ get_or d x 0 + edges w)
      along {x} {z} c h o (last e) = step x z c h e o
      along {x} {z} c h o (next {z = y} e p r) =
          let (a, b) = step x y c h e p in
          let (f, g) = along p a o r in
          (f, omega arith)

      least : (b : ℕ) → b < k → {z : ℕ} → Clear marks z → (w : Reached E (Clear marks) sources b z) → (0 < get_or d z 0) × (get_or d z 0 ≤ edges w)
      least b l {z} o (last e) = s.first b l z e o
      least b l {z} o (next {z = y} e p r) =
          let (a, c) = s.first b l y e p in
          let (f, g) = along p a o r in
          (f, omega arith)

-- A turn is early enough, and its level fits.
pub record Within (head : ℕ) (d q : List ℕ) : Type 0 where
  pub early : head < 192
  pub node : get_or q head 0 < 192
  pub short : level_at d q head < 255

pub turn-within : {E : ℕ → ℕ → Type 0} {marks sources : List ℕ} {k b v head : ℕ} {d q : List ℕ} {n : ℕ} → State E marks sources k b v head d q n → head < n → Within head d q
turn-within {head = head} s h =
    let Q = s.queued in
    let e : head < 192 = omega (arith, room-end Q.room) in
    record { early = e; node = Q.node head h; short = omega (arith, Q.short head h) }
