-- Where all paths begin at the first source, a node's mask is that source's bit exactly where it has a level.
-- Assumes nothing.
use mathlib.Core.Path.{◌≡◌, refl, ap, sym, ◌∙◌, subst}
use mathlib.Core.List.{List}
use Prim.Native.Nat.{ℕ, zero, suc, ◌<◌}
use native.Mathlib.Omega.{arith}
use native.Mathlib.Decide.{ℕ_discrete}
use lib.Pow.{pow_pos, pow-lt}
use lib.ListN.{length, get_or, set, length-set}
use Rattle.lists.specs.Store.{at_set}
use Rattle.lists.specs.Mask.{Mask, has-none, has-own, has-pow}
use Rattle.theory_paths.specs.Path.{last, next}
use Rattle.theory_paths.specs.Graph.{Listed, Places}
use Rattle.theory_paths.specs.Found.{Clear, Reached, Leveled}
use Rattle.search.specs.Parts.{row, Split}
use Rattle.search.specs.Levels.{Each, Shows}
use Rattle.search.specs.Search.{Standing, Sown, Spread, Lone, Settled}
use Rattle.search.specs.declared.edges.Parts.{Parts}
use Rattle.search.proofs.Finding.{listed-placed}

-- the two sources keep their masks
module _ (sources levels s u : List ℕ) (h : get_or sources 0 0 < 192) (k : get_or sources 1 0 < 192) (w : Each Shows levels u) where
  abbrev x : ℕ
  x = get_or sources 0 0

  abbrev z : ℕ
  z = get_or sources 1 0

  abbrev one : List ℕ
  one = set u x (get_or s x 0)

  -- a mask is one of theirs, or as it was
  by : (P : ℕ → Type 0) (y : ℕ) → (y ≡ x → P (get_or s x 0)) → (y ≡ z → P (get_or s z 0)) → ((y ≡ x → ⊥) → (y ≡ z → ⊥) → P (get_or u y 0))
      → P (get_or (set one z (get_or s z 0)) y 0)
  by P y f g r =
      let first : x < length u = omega (arith, w.long) in
      let second : z < length one = simp length-set (omega (arith, w.long)) in
      at_set P one z (get_or s z 0) y second g (λ n. at_set P u x (get_or s x 0) y first f (λ d. r d n))

  neither : (b : ℕ) → b < 2 → (get_or sources b 0 ≡ x → ⊥) → (get_or sources b 0 ≡ z → ⊥) → ⊥
  neither zero l d n = d refl
  neither (suc zero) l d n = n refl
  neither (suc (suc b)) l d n = omega arith

  same : (y v : ℕ) → y ≡ v → get_or s v 0 ≡ get_or s y 0
  same y v e = ap (λ (i : ℕ). get_or s i 0) (sym e)

  pub settled : Settled sources levels s (set one z (get_or s z 0))
  settled = record {
    long = simp (length-set, length-set) w.long;
    at = λ b l. by (λ m. m ≡ get_or s (get_or sources b 0) 0) (get_or sources b 0) (same (get_or sources b 0) x) (same (get_or sources b 0) z)
        (λ d n. absurd (neither b l d n));
    rest = λ y l n. by (Shows (get_or levels y 0)) y (λ e. absurd (n 0 (omega arith) (sym e))) (λ e. absurd (n 1 (omega arith) (sym e))) (λ _ _. w.at y l);
  }

-- what a level tells
module _ {E : ℕ → ℕ → Type 0} (stops sources : List ℕ) {levels : List ℕ} {k : ℕ} (some : 0 < k) (first : (b y : ℕ) → b < k → E (get_or sources b 0) y → b ≡ 0)
    (v : Leveled E (Clear stops) (Clear stops) sources k levels) where
  begins : (b y : ℕ) → b < k → Reached E (Clear stops) sources b y → b ≡ 0
  begins b y l (last e) = first b y l e
  begins b y l (next {z = z} e p w) = first b z l e

  lone-mask : (y m : ℕ) → Clear stops y → Shows (get_or levels y 0) m → Dec (get_or levels y 0 ≡ 0) → Mask (λ b. Reached E (Clear stops) sources b y) k m
  lone-mask y m p h (yes z) = rw (h.0 z) (record {
    small = pow_pos k;
    only = λ b _ g. absurd (has-none b g);
    all = λ b l w. absurd (omega (arith, (v.least b y l p w).0));
  })
  lone-mask y m p h (no n) = rw (h.1 n) (record {
    small = pow-lt some;
    only = λ b l g.
        let r = v.path y p (omega arith) in
        subst (λ (i : ℕ). Reached E (Clear stops) sources i y) (begins r.source y r.below r.path ∙ sym (has-pow 0 b g)) r.path;
    all = λ b l w. rw (begins b y l w) (has-own 0);
  })

-- forward, along the edges of a table
module _ {edges : List (List ℕ)} {e : ℕ} {stops : List ℕ} {parts : Parts} (T : Split edges e stops parts) {places : List ℕ} (sources : List ℕ) {k : ℕ}
    (P : Places (row edges 0) e places) (a : Lone places sources k) where
  lone-first : (b y : ℕ) → b < k → Listed (row edges 0) (row edges 1) e (get_or sources b 0) y → b ≡ 0
  lone-first b y l t = go (ℕ_discrete b 0)
    where
      go : Dec (b ≡ 0) → b ≡ 0
      go (yes q) = q
      go (no n) =
          let one : b ≡ 1 = omega (arith, a.0) in
          let w = listed-placed T P (get_or sources 1 0) y (rw one at t) in
          absurd (omega (arith, w.from, w.below, a.1))

  pub settled-spread : {levels s t : List ℕ} → Standing stops sources k → Sown (Listed (row edges 0) (row edges 1) e) sources k s
      → Leveled (Listed (row edges 0) (row edges 1) e) (Clear stops) (Clear stops) sources k levels → Settled sources levels s t
      → Spread (Listed (row edges 0) (row edges 1) e) stops sources k t
  settled-spread {levels} {s} {t} S w v c = record {
    long = c.long;
    clear = λ y l p. lone-mask stops sources (omega (arith, a.0)) lone-first v y (get_or t y 0) p (c.rest y l (λ b m q. S.on b (omega (arith, a.0)) (rw q p)))
        (ℕ_discrete (get_or levels y 0) 0);
    stop = λ y l n.
        let (b, m, q) = S.number y n in
        let same : get_or t y 0 ≡ get_or s y 0 = rw q at (c.at b (omega (arith, a.0))) in
        rw same (w.mask y);
  }
