-- What a sweep does: it keeps bounds, values change one way, a quiet one changes nothing, and one that runs ahead leaves all its edges closed.
-- Assumes nothing.
use mathlib.Core.Path.{◌≡◌, refl, sym, ◌∙◌}
use mathlib.Core.Logic.{◌⊎◌, ⊎_elim}
use mathlib.Core.Bool.{Bool, true, false}
use mathlib.Core.List.{List}
use Prim.Native.Nat.{ℕ, ◌+◌, ◌-◌, ◌≤◌, ◌<◌}
use native.Mathlib.Omega.{arith}
use native.Mathlib.Decide.{ℕ_discrete}
use borrow.Author.Count.{below_more}
use lib.Bits.{bit_or, bit_xor, or_lt, or_comm, or_self, xor_add_and, and_le_l, and_le_r}
use lib.ListN.{length, get_or, length-set}
use lib.Seq.{get_or-set_same, get_or-set_other}
use Rattle.lists.specs.Mask.{Sub, or_left, or_right, or-more}
use Rattle.lists.specs.Store.{at_set}
use Rattle.search.specs.Sweep.{Between, place, Step, Run, none, more, Carried, start, then, Closed, Ahead, Kind}
use Rattle.search.specs.LevelLaws.{nearer, Follows, Risen}

-- nothing is new in two sweeps only when nothing is in either
pub or-none : (a b : ℕ) → bit_or a b ≡ 0 → (a ≡ 0) × (b ≡ 0)
or-none a b e = (omega (arith, or-more a b), omega (arith, or-more b a, or_comm a b))

pub xor_same : (a b : ℕ) → bit_xor a b ≡ 0 → a ≡ b
xor_same a b e = omega (arith, xor_add_and a b, and_le_l a b, and_le_r a b)

-- masks and levels
pub masks-kind : Kind bit_or Sub Sub (λ m. m < 18446744073709551616)
masks-kind = record {
  same = λ a b h. h;
  over = λ a b c f g i h. g i (f i h);
  up = or_left;
  loop = or_self;
  near = λ a v. or_right a v;
  keep = λ v a b f g i h. g i (f i h);
  bound = λ a v. or_lt 64 a v;
}

pub levels-kind : Kind nearer (λ a b. b ≤ a) Follows (λ d. d ≤ 254)
levels-kind = record {
  same = λ a. omega arith;
  over = λ a b c f g. omega arith;
  up = λ a v. omega arith;
  loop = λ a. omega arith;
  near = λ a v. omega arith;
  keep = λ v a b f g. omega arith;
  bound = λ a v l m. omega arith;
}

-- places
module _ (a b : ℕ) where
  pub place-from : (back : Bool) (j : ℕ) → a ≤ j → j < b → a ≤ place a b back j
  unfolding place
  place-from true j l h = omega arith
  place-from false j l h = l

  pub place-below : (back : Bool) (j : ℕ) → a ≤ j → j < b → place a b back j < b
  unfolding place
  place-below true j l h = omega arith
  place-below false j l h = h

  -- the turn of a place is told as its place is
  turn : (back : Bool) (i : ℕ) → a ≤ i → i < b → place a b back (place a b back i) ≡ i
  unfolding place
  turn true i l h = omega arith
  turn false i l h = refl

-- What some steps did that told `new`.
pub record Swept (R : ℕ → ℕ → Type 0) (B : ℕ → Type 0) (s t : List ℕ) (new : ℕ) : Type 0 where
  pub long : length t ≡ 192
  pub bound : (y : ℕ) → B (get_or t y 0)
  pub grows : (y : ℕ) → R (get_or s y 0) (get_or t y 0)
  pub quiet : new ≡ 0 → (y : ℕ) → get_or t y 0 ≡ get_or s y 0

module _ {f : ℕ → ℕ → ℕ} {R C : ℕ → ℕ → Type 0} {B : ℕ → Type 0} (K : Kind f R C B) where
  swept_none : {s : List ℕ} → length s ≡ 192 → ((y : ℕ) → B (get_or s y 0)) → Swept R B s s 0
  swept_none {s} l b = record {
    long = l;
    bound = b;
    grows = λ y. K.same (get_or s y 0);
    quiet = λ _ y. refl;
  }

  pub swept-both : {s t u : List ℕ} {m n : ℕ} → Swept R B s t m → Swept R B t u n → Swept R B s u (bit_or m n)
  swept-both {s} {t} {u} {m} {n} p q = record {
    long = q.long;
    bound = q.bound;
    grows = λ y. K.over (get_or s y 0) (get_or t y 0) (get_or u y 0) (p.grows y) (q.grows y);
    quiet = λ e y. let (i, j) = or-none m n e in q.quiet j y ∙ p.quiet i y;
  }

  module _ {x y : ℕ} {s t : List ℕ} {new : ℕ} (xn : x < 192) (yn : y < 192) (long : length s ≡ 192) (bound : (z : ℕ) → B (get_or s z 0))
      (w : Step f x y s t new) where
    abbrev v : ℕ
    v = f (get_or s y 0) (get_or s x 0)

    ys : y < length s
    ys = omega arith

    step-swept : Swept R B s t new
    step-swept = rw w.is (record {
      long = simp length-set long;
      bound = λ z. at_set B s y v z ys (λ _. K.bound (get_or s y 0) (get_or s x 0) (bound y) (bound x)) (λ _. bound z);
      grows = λ z. at_set (λ m. R (get_or s z 0) m) s y v z ys (λ e. rw e (K.up (get_or s y 0) (get_or s x 0))) (λ _. K.same (get_or s z 0));
      quiet = λ e z. at_set (λ m. m ≡ get_or s z 0) s y v z ys (λ r. rw r (w.quiet e)) (λ _. refl);
    })

    step-off : (z : ℕ) → (z ≡ y → ⊥) → get_or t z 0 ≡ get_or s z 0
    step-off z n = rw w.is (get_or-set_other s y z v 0 n)

    -- a loop changes nothing
    step_loop : x ≡ y → (z : ℕ) → get_or t z 0 ≡ get_or s z 0
    step_loop e z = rw w.is (at_set (λ m. m ≡ get_or s z 0) s y v z ys (λ r. rw (r, e) (K.loop (get_or s y 0))) (λ _. refl))

    step-near : (x ≡ y → ⊥) → C (get_or t x 0) (get_or t y 0)
    step-near n = rw (step-off x n, w.is, get_or-set_same s y v 0 ys) (K.near (get_or s y 0) (get_or s x 0))

  self : (a : ℕ) → C a a
  self a = rw (K.loop a) at (K.near a a)

  module _ (keys values : List ℕ) (a b : ℕ) (back : Bool) (kn : (j : ℕ) → get_or keys j 0 < 192) (vn : (j : ℕ) → get_or values j 0 < 192) where
    pub run-swept : {s t : List ℕ} {j new : ℕ} → length s ≡ 192 → ((y : ℕ) → B (get_or s y 0))
        → Run f keys values a b back s j t new → Swept R B s t new
    run-swept l h none = swept_none l h
    run-swept l h (more {j = j} r w) =
        let i = run-swept l h r in
        swept-both i (step-swept (kn (place a b back j)) (vn (place a b back j)) i.long i.bound w)

    run-above : {s t : List ℕ} {j new : ℕ} → Run f keys values a b back s j t new → a ≤ j
    run-above none = omega arith
    run-above (more r w) = omega (arith, run-above r)

    -- each step goes along an edge between the places
    pub run-carried : {L : ℕ → ℕ → Type 0} {s t : List ℕ} {j new : ℕ} → ((x y : ℕ) → Between keys values a b x y → L x y) → j ≤ b
        → Run f keys values a b back s j t new → Carried f L s t
    run-carried in-l h none = start
    run-carried in-l h (more {j = j} r w) =
        let p = place a b back j in
        let l = run-above r in
        rw w.is (then (get_or keys p 0) (get_or values p 0) (run-carried in-l (omega arith) r)
        (in-l _ _ (record { at = p; from = place-from a b back j l (omega arith); below = place-below a b back j l (omega arith); key = refl; value = refl })))

    abbrev From : ℕ → ℕ
    From i = get_or keys (place a b back i) 0

    abbrev To : ℕ → ℕ
    To i = get_or values (place a b back i) 0

    turns-closed : {s t : List ℕ} {j new : ℕ} → Ahead keys values a b back → length s ≡ 192 → ((y : ℕ) → B (get_or s y 0)) → j ≤ b
        → Run f keys values a b back s j t new → (i : ℕ) → a ≤ i → i < j → C (get_or t (From i) 0) (get_or t (To i) 0)
    turns-closed ahead l h m none i o p = absurd (omega arith)
    turns-closed {s = s} ahead l h m (more {j = j} {t = t} {new = n} {u = u} r w) i o p =
        below_more (λ i. a ≤ i → C (get_or u (From i) 0) (get_or u (To i) 0)) j
        (λ i c o. old i (ℕ_discrete (From i) (To i)) (ℕ_discrete (From j) (To j)) (λ e. ahead i j o c (omega arith) e) (turns-closed ahead l h (omega arith) r i o c))
        (λ o. now (ℕ_discrete (From j) (To j)))
        i p o
      where
        q : Swept R B s t n
        q = run-swept l h r

        old : (i : ℕ) → Dec (From i ≡ To i) → Dec (From j ≡ To j) → (From i ≡ To j → (From i ≡ To i) ⊎ (From j ≡ To j))
            → C (get_or t (From i) 0) (get_or t (To i) 0) → C (get_or u (From i) 0) (get_or u (To i) 0)
        old i (yes e) d ah c = rw e (self (get_or u (To i) 0))
        old i (no e) (yes k) ah c =
            let still = step_loop (kn (place a b back j)) (vn (place a b back j)) q.long q.bound w k in
            rw (still (From i), still (To i)) c
        old i (no e) (no k) ah c =
            let st = step-swept (kn (place a b back j)) (vn (place a b back j)) q.long q.bound w in
            rw (step-off (kn (place a b back j)) (vn (place a b back j)) q.long q.bound w (From i) (λ z. ⊎_elim e k (ah z)))
            (K.keep (get_or t (From i) 0) (get_or t (To i) 0) (get_or u (To i) 0) c (st.grows (To i)))

        now : Dec (From j ≡ To j) → C (get_or u (From j) 0) (get_or u (To j) 0)
        now (yes e) = rw e (self (get_or u (To j) 0))
        now (no e) = step-near (kn (place a b back j)) (vn (place a b back j)) q.long q.bound w e

    -- a whole sweep that runs ahead leaves its edges closed
    pub run-closed : {s t : List ℕ} {new : ℕ} → Ahead keys values a b back → length s ≡ 192 → ((y : ℕ) → B (get_or s y 0))
        → Run f keys values a b back s b t new → Closed C (Between keys values a b) t
    run-closed {t = t} ahead l h r x y e =
        let i = place a b back e.at in
        let q = turn a b back e.at e.from e.below in
        let c = turns-closed ahead l h (omega arith) r i (place-from a b back e.at e.from e.below) (place-below a b back e.at e.from e.below) in
        rw (q, e.key, e.value) at c

  -- what is closed stays so in a quiet sweep
  pub quiet-closed : {L : ℕ → ℕ → Type 0} {s t : List ℕ} {new : ℕ} → Swept R B s t new → new ≡ 0 → Closed C L s → Closed C L t
  quiet-closed w e c x y l = rw (w.quiet e x, w.quiet e y) (c x y l)

pub carried_on : {f : ℕ → ℕ → ℕ} {L : ℕ → ℕ → Type 0} {s t u : List ℕ} → Carried f L s t → Carried f L t u → Carried f L s u
carried_on c start = c
carried_on c (then x y d l) = then x y (carried_on c d) l

-- for the code
pub place-true : (a b j : ℕ) (back : Bool) → back ≡ true → a + (b - 1 - j) ≡ place a b back j
unfolding place
place-true a b j back e = rw e refl

pub place-false : (a b j : ℕ) (back : Bool) → back ≡ false → j ≡ place a b back j
unfolding place
place-false a b j back e = rw e refl

module _ {f : ℕ → ℕ → ℕ} {keys values : List ℕ} {a b : ℕ} {back : Bool} {s : List ℕ} where
  pub run-from : {t : List ℕ} {j new : ℕ} → Run f keys values a b back s j t new → a ≤ j
  run-from none = omega arith
  run-from (more r w) = omega (arith, run-from r)

  pub run_long : {t : List ℕ} {j new : ℕ} → length s ≡ 192 → Run f keys values a b back s j t new → length t ≡ 192
  run_long l none = l
  run_long l (more {t = t} r w) = let h : length t ≡ 192 = run_long l r in rw w.is (simp length-set h)

-- an edge that was passed is a step of levels
pub risen-step : {x y : ℕ} {s t : List ℕ} {r : ℕ} → Risen x y s t r → Step nearer x y s t (bit_xor r (get_or s y 0))
risen-step {r = r} w = record { is = rw (w.is, w.level) refl; quiet = λ z. sym w.level ∙ xor_same r _ z }

-- one turn more, its place told otherwise
pub more-at : {f : ℕ → ℕ → ℕ} {keys values : List ℕ} {a b : ℕ} {back : Bool} {s t u : List ℕ} {j new d : ℕ} (p : ℕ) → p ≡ place a b back j
    → Run f keys values a b back s j t new → Step f (get_or keys p 0) (get_or values p 0) t u d → Run f keys values a b back s (j + 1) u (bit_or new d)
more-at p e r w = more r (rw e at w)
