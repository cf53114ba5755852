-- Each visit keeps what holds of the queue and the levels, and so does a run of them.
-- Assumes nothing.
use mathlib.Core.Path.{◌≡◌, refl, ap, ◌∙◌}
use mathlib.Core.Bool.{Bool, true, false}
use mathlib.Core.List.{List}
use Prim.Native.Nat.{ℕ, zero, suc, ◌+◌, ◌≤◌, ◌<◌}
use native.Mathlib.Omega.{arith}
use borrow.Author.Count.{below_more}
use lib.Dec.{eqb, eqb-suc-zero}
use lib.ListN.{length, get_or, set, length-set}
use mir.Val.{bool_byte}
use lib.Seq.{get_or-set_same, get_or-set_other}
use Rattle.lists.specs.Store.{at_set, filled-le, filled-set, filled-keep}
use Rattle.theory_paths.specs.Found.{Clear}
use Rattle.search.specs.Steps.{Room, Visited, known, fresh, Run, none, more}
use Rattle.search.specs.Invariant.{level_at, Waits, Queued}

-- whether a number is 0, as a flag
pub none-flag : (m : ℕ) → m ≡ 0 → bool_byte (eqb m 0) ≡ 1
none-flag zero e = refl
none-flag (suc m) e = absurd (omega arith)

pub flag-most : (b : Bool) → bool_byte b ≤ 1
flag-most true = omega arith
flag-most false = omega arith

-- a node that has a level does not join
pub known-adds : {y v : ℕ} {d q : List ℕ} {n : ℕ} → (get_or d y 0 ≡ 0 → ⊥) → Visited y v d q n (set d y (get_or d y 0)) (set q n y) (n + bool_byte (eqb (get_or d y 0) 0))
known-adds {y} {v} {d} {q} {n} h =
    let e : n + bool_byte (eqb (get_or d y 0) 0) ≡ n = omega (arith, some-flag (get_or d y 0) h) in
    rw e (known (omega arith))
  where
    some-flag : (m : ℕ) → (m ≡ 0 → ⊥) → bool_byte (eqb m 0) ≡ 0
    some-flag zero n = absurd (n refl)
    some-flag (suc m) n = ap bool_byte (eqb-suc-zero m)

-- the queue ends within its room
pub room-end : {d q : List ℕ} {n : ℕ} → Room d q n → n ≤ 192
room-end {d} r = omega (arith, r.levels, r.few, filled-le d)

pub visit-room : {y v : ℕ} {d q : List ℕ} {n : ℕ} {d' q' : List ℕ} {n' : ℕ} → 0 < v → y < 192 → Room d q n
    → Visited y v d q n d' q' n' → Room d' q' n'
visit-room {y} {v} {d} p l r (known h) = record {
  levels = simp length-set r.levels;
  queue = simp length-set r.queue;
  few = omega (arith, r.few, filled-keep d y (get_or d y 0) h);
}
visit-room {y} {v} {d} p l r (fresh e) = record {
  levels = simp length-set r.levels;
  queue = simp length-set r.queue;
  few = omega (arith, r.few, filled-set d y v (omega (arith, r.levels)) e p);
}

-- no level that was set is changed, nor an entry of the queue
pub record Grown (d q : List ℕ) (n : ℕ) (d' q' : List ℕ) (n' : ℕ) : Type 0 where
  pub levels : (x : ℕ) → 0 < get_or d x 0 → get_or d' x 0 ≡ get_or d x 0
  pub queue : (i : ℕ) → i < n → get_or q' i 0 ≡ get_or q i 0
  pub tail : n ≤ n'

-- y has a level, and at most v if it is no stop
abbrev pub Met : List ℕ → ℕ → List ℕ → ℕ → Type 0
Met marks v d y = (0 < get_or d y 0) × (Clear marks y → get_or d y 0 ≤ v)

module _ (S : ℕ → ℕ → Type 0) (marks : List ℕ) (v : ℕ) (some : 0 < v) where
  met-grown : {d q : List ℕ} {n : ℕ} {d' q' : List ℕ} {n' : ℕ} (y : ℕ) → Grown d q n d' q' n' → Met marks v d y → Met marks v d' y
  met-grown y g m = let e = g.levels y m.0 in (omega (arith, m.0), λ c. omega (arith, m.1 c))

  -- an edge leads to y
  module _ (y : ℕ) (d q : List ℕ) (n : ℕ) (Q : Queued S marks v d q n) (node : y < 192) (new : Clear marks y → S v y) (low : v ≤ n + 1) where
    abbrev R : List ℕ
    R = set q n y

    old : (i : ℕ) → i < n → get_or R i 0 ≡ get_or q i 0
    old i l = get_or-set_other q n i y 0 (λ e. omega arith)

    -- it had a level
    module _ (h : 0 < get_or d y 0) where
      abbrev K : List ℕ
      K = set d y (get_or d y 0)

      same : (x : ℕ) → get_or K x 0 ≡ get_or d x 0
      same x = at_set (λ m. m ≡ get_or d x 0) d y (get_or d y 0) x (omega (arith, Q.room.levels)) (λ r. rw r refl) (λ _. refl)

      level-kept : (i : ℕ) → i < n → level_at K R i ≡ level_at d q i
      level-kept i l = rw (old i l, same (get_or q i 0)) refl

      kept : Queued S marks v K R n
      kept = record {
        room = visit-room some node Q.room (known h);
        free = λ z e. Q.free z (omega (arith, same z));
        path = λ z c h. rw (same z) (Q.path z c (omega (arith, same z)));
        waits = λ z c h.
            let w = Q.waits z c (omega (arith, same z)) in
            record { at = w.at; below = w.below; is = old w.at w.below ∙ w.is };
        node = λ i l. rw (old i l) (Q.node i l);
        clear = λ i l. rw (old i l) (Q.clear i l);
        some = λ i l. omega (arith, level-kept i l, Q.some i l);
        order = λ i j l h. omega (arith, level-kept i (omega arith), level-kept j h, Q.order i j l h);
        most = λ i l. omega (arith, level-kept i l, Q.most i l);
        short = λ i l. omega (arith, level-kept i l, Q.short i l);
      }

    -- it joins the queue
    module _ (e : get_or d y 0 ≡ 0) where
      abbrev D : List ℕ
      D = set d y v

      yd : y < length d
      yd = omega (arith, Q.room.levels)

      grow : (x : ℕ) → 0 < get_or d x 0 → get_or D x 0 ≡ get_or d x 0
      grow x h = get_or-set_other d y x v 0 (λ r. let z : get_or d x 0 ≡ 0 = rw r e in omega arith)

      here : get_or R n 0 ≡ y
      here = get_or-set_same q n y 0 (omega (arith, Q.room.queue, room-end Q.room))

      level-old : (i : ℕ) → i < n → level_at D R i ≡ level_at d q i
      level-old i l = rw (old i l) (grow (get_or q i 0) (Q.some i l))

      level-new : level_at D R n ≡ v
      level-new = rw here (get_or-set_same d y v 0 yd)

      most : (i : ℕ) → i < n + 1 → level_at D R i ≤ v
      most = below_more (λ i. level_at D R i ≤ v) n (λ i l. omega (arith, level-old i l, Q.most i l)) (omega (arith, level-new))

      joined : Queued S marks v D R (n + 1)
      joined = record {
        room = visit-room some node Q.room (fresh e);
        free = λ z. at_set (λ m. m ≡ 0 → Clear marks z) d y v z yd (λ _ h. absurd (omega arith)) (λ _. Q.free z);
        path = λ z c. at_set (λ m. 0 < m → S m z) d y v z yd (λ r _. rw r (new (rw r at c))) (λ _. Q.path z c);
        waits = λ z c. at_set (λ m. 0 < m → Waits R (n + 1) z) d y v z yd
            (λ r _. record { at = n; below = omega arith; is = rw r here })
            (λ _ h.
            let w = Q.waits z c h in
            record { at = w.at; below = omega (arith, w.below); is = old w.at w.below ∙ w.is });
        node = below_more (λ i. get_or R i 0 < 192) n (λ i l. rw (old i l) (Q.node i l)) (rw here node);
        clear = below_more (λ i. Clear marks (get_or R i 0)) n (λ i l. rw (old i l) (Q.clear i l)) (rw here (Q.free y e));
        some = below_more (λ i. 0 < level_at D R i) n (λ i l. omega (arith, level-old i l, Q.some i l)) (omega (arith, level-new));
        order = λ i j l h. below_more (λ j. i ≤ j → level_at D R i ≤ level_at D R j) n
            (λ j h l. omega (arith, level-old i (omega arith), level-old j h, Q.order i j l h))
            (λ l. omega (arith, level-new, most i (omega arith))) j h l;
        most = most;
        short = below_more (λ i. level_at D R i ≤ i + 1) n (λ i l. omega (arith, level-old i l, Q.short i l)) (omega (arith, level-new));
      }

    visit : {d' q' : List ℕ} {n' : ℕ} → Visited y v d q n d' q' n' → Queued S marks v d' q' n' × Grown d q n d' q' n' × Met marks v d' y
    visit (known h) = (
      kept h,
      record { levels = λ x _. same h x; queue = old; tail = omega arith },
      (omega (arith, same h y), λ c. let w = Q.waits y c h in let m = rw w.is at (Q.most w.at w.below) in omega (arith, same h y)),
    )
    visit (fresh e) =
        let at_y : get_or (D e) y 0 ≡ v = get_or-set_same d y v 0 (yd e) in
        (joined e, record { levels = grow e; queue = old; tail = omega arith }, (omega arith, λ c. omega arith))

  -- edges lead to one node after the other
  pub run : (values : List ℕ) (a : ℕ) {d q : List ℕ} {n b : ℕ} {d' q' : List ℕ} {n' : ℕ} → ((j : ℕ) → get_or values j 0 < 192)
      → ((j : ℕ) → a ≤ j → j < b → Clear marks (get_or values j 0) → S v (get_or values j 0)) → v ≤ n + 1
      → Queued S marks v d q n → Run values v a d q n b d' q' n'
      → (a ≤ b) × Queued S marks v d' q' n' × Grown d q n d' q' n' × ((j : ℕ) → a ≤ j → j < b → Met marks v d' (get_or values j 0))
  run values a node new low Q none = (
    omega arith,
    Q,
    record { levels = λ x h. refl; queue = λ i l. refl; tail = omega arith },
    λ j l r. absurd (omega arith),
  )
  run values a node new low Q (more {b = b} {d₁ = d₁} {q₁ = q₁} {n₁ = n₁} {d₂ = d₂} r u) =
      let (l, Q₁, g₁, m₁) = run values a node (λ j l h. new j l (omega arith)) low Q r in
      let (Q₂, g₂, m₂) = visit (get_or values b 0) d₁ q₁ n₁ Q₁ (node b) (new b l (omega arith)) (omega (arith, g₁.tail)) u in (
        omega arith,
        Q₂,
        record {
          levels = λ x h. g₂.levels x (omega (arith, g₁.levels x h)) ∙ g₁.levels x h;
          queue = λ i h. g₂.queue i (omega (arith, g₁.tail)) ∙ g₁.queue i h;
          tail = omega (arith, g₁.tail, g₂.tail);
        },
        λ j c z. below_more (λ j. a ≤ j → Met marks v d₂ (get_or values j 0)) b (λ j l c. met-grown (get_or values j 0) g₂ (m₁ j c l)) (λ _. m₂) j z c,
      )
