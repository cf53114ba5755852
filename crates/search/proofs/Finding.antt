-- What the sources' edges bring and sweeps close is what a search finds; and the edges of a table, forward and turned round.
-- Assumes nothing.
use mathlib.Core.Path.{◌≡◌, refl, sym, ◌∙◌}
use mathlib.Core.Logic.{⊎_elim}
use mathlib.Core.List.{List}
use Prim.Native.Nat.{ℕ, ◌+◌, ◌^◌, ◌≤◌, ◌<◌}
use native.Mathlib.Omega.{arith}
use native.Mathlib.Decide.{ℕ_discrete, dec_lt}
use lib.Bits.{bit_or}
use lib.Pow.{pow_pos, pow_mono}
use lib.ListN.{length, get_or, replicate, length-replicate, get_or-eq_default}
use lib.Seq.{get_or-set_other}
use Rattle.lists.specs.Mask.{Has, Sub, Mask, mask-carry, has-none}
use Rattle.lists.specs.Store.{zeros}
use Rattle.theory_paths.specs.Path.{Path, last, next}
use Rattle.theory_paths.specs.PathLaws.{append, final}
use Rattle.theory_paths.specs.Graph.{Listed, Places}
use Rattle.theory_paths.specs.Found.{Clear, Reached, Leveled}
use Rattle.theory_paths.specs.FoundLaws.{leveled-carry, listed-turned}
use Rattle.search.proofs.Sort.{rising-at, rising-in, places-rise}
use Rattle.search.specs.Sweep.{Between, Lies, Carried, Closed}
use Rattle.search.specs.SweepLaws.{Inner, carried, carried-long, masks-found}
use Rattle.search.specs.Parts.{row, Split}
use Rattle.search.proofs.Splitting.{parted-inner, parted-turned, between-turned}
use Rattle.search.specs.Fed.{Fed, Owned, Sowed, Stored}
use Rattle.search.specs.Steps.{Leads, Bounded}
use Rattle.search.specs.Search.{Standing, Sown, Spread, Cleared, Marked}
use Rattle.search.specs.declared.edges.Parts.{Parts}

-- the bits of the sources, at the nodes to which their edges lead
seeds : {E L : ℕ → ℕ → Type 0} {sources own s : List ℕ} {k : ℕ} → Owned sources k own → Fed L own (replicate 192 0) s
    → ((x y : ℕ) → L x y → E x y) → ((b y : ℕ) → b < k → E (get_or sources b 0) y → L (get_or sources b 0) y)
    → (y : ℕ) → Mask (λ b. E (get_or sources b 0) y) k (get_or s y 0)
seeds {k = k} o f only all y = record {
  small = f.low k o.low (λ z. rw (zeros 192 z) (pow_pos k)) y;
  only = λ b l h. ⊎_elim (λ h. absurd (has-none b (rw (zeros 192 y) at h))) (λ v. rw (o.only v.node b v.bit) (only v.node y v.edge)) (f.only y b h);
  all = λ b l e. f.all _ y (all b y l e) b (o.all b l);
}

-- they fit
pub fed-fits : {L : ℕ → ℕ → Type 0} {sources own old s : List ℕ} {k : ℕ} → old ≡ replicate 192 0 → k ≤ 64 → Owned sources k own → Fed L own old s
    → (length s ≡ 192) × ((y : ℕ) → get_or s y 0 < 18446744073709551616)
fed-fits {k = k} b h o f = (
  f.long ∙ rw b (length-replicate {A = ℕ} 192 0),
  λ y. omega (arith, f.low k o.low (λ z. rw (b, zeros 192 z) (pow_pos k)) y, pow_mono {j = 64} h),
)

pub sown-fits : {E : ℕ → ℕ → Type 0} {sources s : List ℕ} {k : ℕ} → k ≤ 64 → Sown E sources k s → (y : ℕ) → get_or s y 0 < 18446744073709551616
sown-fits h w y = omega (arith, (w.mask y).small, pow_mono {j = 64} h)

-- closed by sweeps
spread : {E L : ℕ → ℕ → Type 0} {stops sources s t : List ℕ} {k : ℕ} → Inner E (Clear stops) (λ y. (y < 192) × Clear stops y) L
    → length s ≡ 192 → ((y : ℕ) → Mask (λ b. E (get_or sources b 0) y) k (get_or s y 0)) → Carried bit_or L s t → Closed Sub L t
    → Spread E stops sources k t
spread {stops = stops} {sources} {s = s} {t} {k} i l m c f = record {
  long = carried-long l c;
  clear = λ y h p. masks-found i sources k l (λ z _. m z) c f y (h, p);
  stop = λ y h n. rw (still y n) (m y);
}
  where
    still : (y : ℕ) → (Clear stops y → ⊥) → get_or t y 0 ≡ get_or s y 0
    still y n = carried (λ t. get_or t y 0 ≡ get_or s y 0) (λ t x z q e. get_or-set_other t z y _ 0 (λ r. n (rw r (i.only x z e).3.1)) ∙ q) refl c

-- behind the last node
pub past : (l : List ℕ) (y : ℕ) → length l ≡ 192 → (y < 192 → ⊥) → get_or l y 0 ≡ 0
past l y q n = get_or-eq_default l 0 (omega arith)

pub path-node : {E : ℕ → ℕ → Type 0} {P : ℕ → Type 0} → ((x y : ℕ) → E x y → (x < 192) × (y < 192)) → {x y : ℕ} → Path E P x y → y < 192
path-node node (last e) = (node _ _ e).1
path-node node (next e p v) = path-node node v

-- cleared at the stops
module _ {E : ℕ → ℕ → Type 0} {stops sources masks new : List ℕ} {k : ℕ} (node : (x y : ℕ) → E x y → (x < 192) × (y < 192))
    (w : Spread E stops sources k masks) (S : Standing stops sources k) (c : Stored 0 sources k masks new) where
  gone : (y : ℕ) → (Clear stops y → ⊥) → get_or new y 0 ≡ 0
  gone y n = let (b, l, q) = S.number y n in rw q at (c.at b l)

  kept : (y : ℕ) → Clear stops y → get_or new y 0 ≡ get_or masks y 0
  kept y p = c.rest y (λ b l e. S.on b l (rw e p))

  empty : (l : List ℕ) (y : ℕ) → length l ≡ 192 → (y < 192 → ⊥) → Mask (λ b. Reached E (Clear stops) sources b y) k (get_or l y 0)
  empty l y q n = rw (past l y q n) (record { small = pow_pos k; only = λ b _ h. absurd (has-none b h); all = λ b _ v. absurd (n (path-node node v)) })

  pub cleared : Cleared E stops sources k new
  cleared = record {
    clear = λ y p. rw (kept y p) (elim (dec_lt y 192) [ yes l ↦ w.clear y l p | no n ↦ empty masks y w.long n ]);
    stop = gone;
  }

  -- and brought to the stops
  module _ {D : ℕ → ℕ → Type 0} {all : List ℕ} (f : Fed D new masks all) (only : (x y : ℕ) → D x y → E x y × (Clear stops y → ⊥))
      (brings : (x y : ℕ) → E x y → (Clear stops y → ⊥) → D x y) where
    masks-low : (y : ℕ) → get_or masks y 0 < 2 ^ k
    masks-low y = elim (dec_lt y 192) [
      | yes l ↦ elim (ℕ_discrete (get_or stops y 0) 0) [ yes p ↦ (w.clear y l p).small | no n ↦ (w.stop y l n).small ]
      | no n ↦ rw (past masks y w.long n) (pow_pos k)
    ]

    new-low : (y : ℕ) → get_or new y 0 < 2 ^ k
    new-low y = elim (ℕ_discrete (get_or stops y 0) 0) [ yes p ↦ rw (kept y p) (masks-low y) | no n ↦ rw (gone y n) (pow_pos k) ]

    -- a stop has what an edge brings, or a path to a node before it
    at-stop : (y : ℕ) → y < 192 → (Clear stops y → ⊥) → Mask (λ b. Reached E (Clear stops) sources b y) k (get_or all y 0)
    at-stop y l n = record {
      small = f.low k new-low masks-low y;
      only = λ b m h. ⊎_elim (λ h. last ((w.stop y l n).only b m h)) (λ v. via b m v.node (only v.node y v.edge).0 v.bit (ℕ_discrete (get_or stops v.node 0) 0)) (f.only y b h);
      all = λ b m v. ⊎_elim (λ e. f.keep y b ((w.stop y l n).all b m e))
          (λ r. let (z, u, p, e) = r in f.all z y (brings z y e n) b (rw (kept z p) ((w.clear z (node z y e).0 p).all b m u))) (final v);
    }
      where
        via : (b : ℕ) → b < k → (x : ℕ) → E x y → Has (get_or new x 0) b → Dec (Clear stops x) → Reached E (Clear stops) sources b y
        via b m x e h (yes p) = append ((w.clear x (node x y e).0 p).only b m (rw (kept x p) at h)) p (last e)
        via b m x e h (no q) = absurd (has-none b (rw (gone x q) at h))

    at_clear : (y : ℕ) → y < 192 → Clear stops y → Mask (λ b. Reached E (Clear stops) sources b y) k (get_or all y 0)
    at_clear y l p = record {
      small = f.low k new-low masks-low y;
      only = λ b m h. ⊎_elim ((w.clear y l p).only b m) (λ v. absurd ((only v.node y v.edge).1 p)) (f.only y b h);
      all = λ b m v. f.keep y b ((w.clear y l p).all b m v);
    }

    pub marked : Marked E stops sources k new all
    marked = record {
      every = record {
        mask = λ y. elim (dec_lt y 192) [
          | yes l ↦ elim (ℕ_discrete (get_or stops y 0) 0) [ yes p ↦ at_clear y l p | no n ↦ at-stop y l n ]
          | no n ↦ empty all y (f.long ∙ w.long) n
        ];
      };
      passable = cleared;
    }

-- the edges of a table
module _ {edges : List (List ℕ)} {e : ℕ} {stops : List ℕ} {parts : Parts} (T : Split edges e stops parts) where
  abbrev froms : List ℕ
  froms = row edges 0

  abbrev tos : List ℕ
  tos = row edges 1

  pub listed-node : (x y : ℕ) → Listed froms tos e x y → (x < 192) × (y < 192)
  listed-node x y l = (rw l.key at (T.from l.at), rw l.value at (T.to l.at))

  -- those that come to stops
  pub ins-listed : (x y : ℕ) → Between (row edges 4) (row edges 5) 0 parts.ins x y → Listed froms tos e x y × (Clear stops y → ⊥)
  ins-listed x y w = rw (w.key, w.value) at (T.come.only w.at w.below)

  pub listed-ins : (x y : ℕ) → Listed froms tos e x y → (Clear stops y → ⊥) → Between (row edges 4) (row edges 5) 0 parts.ins x y
  listed-ins x y l n = rw (l.key, l.value) at (T.come.all l.at l.below (rw l.value n))

  -- those at the places of a node
  module _ {places : List ℕ} (P : Places froms e places) where
    pub bounded : Bounded tos places
    bounded = record { node = T.to; place = λ x h. let (rise, most) = places-rise P x h in (rise, omega (arith, T.few)) }

    placed-listed : (s x y : ℕ) → s < 192 → Between froms tos (get_or places s 0) (get_or places (s + 1) 0) x y → Listed froms tos e x y × (x ≡ s)
    placed-listed s x y l i =
        let (h, k) = rising-in froms e i.at s T.order (omega (arith, i.from, P.at s (omega arith))) (omega (arith, i.below, P.at (s + 1) (omega arith))) in
        (record { at = i.at; below = h; key = i.key; value = i.value }, sym i.key ∙ k)

    pub listed-placed : (x y : ℕ) → Listed froms tos e x y → Between froms tos (get_or places x 0) (get_or places (x + 1) 0) x y
    listed-placed x y t =
        let m = (listed-node x y t).0 in
        let (from, to) = rw t.key at (rising-at froms e t.at T.order t.below) in
        record { at = t.at; from = omega (arith, P.at x (omega arith)); below = omega (arith, P.at (x + 1) (omega arith)); key = t.key; value = t.value }

    pub leads-listed : (x y : ℕ) → Leads tos places x y → Listed froms tos e x y
    leads-listed x y l =
        let (h, q) = placed-listed x (get_or froms l.at 0) y (inside (dec_lt x 192))
        (record { at = l.at; from = l.from; below = l.below; key = refl; value = l.value }) in
        rw q at h
      where
        inside : Dec (x < 192) → x < 192
        inside (yes m) = m
        inside (no n) =
            let none : get_or places (x + 1) 0 ≡ 0 = get_or-eq_default places 0 (omega (arith, P.long)) in
            absurd (omega (arith, l.below))

    pub listed-leads : (x y : ℕ) → Listed froms tos e x y → Leads tos places x y
    listed-leads x y t = let i = listed-placed x y t in record { at = i.at; from = i.from; below = i.below; value = i.value }

module _ {edges : List (List ℕ)} {e : ℕ} {stops : List ℕ} {parts : Parts} (T : Split edges e stops parts) {sources : List ℕ} {total : ℕ} where
  -- forward, from any sources
  pub sown-ahead : {places s : List ℕ} → Places (row edges 0) e places → Sowed (row edges 1) places sources total s
      → Sown (Listed (row edges 0) (row edges 1) e) sources total s
  sown-ahead P w = record { long = w.long; mask = λ y. mask-carry (λ b l v. leads-listed T P _ y v) (λ b l v. listed-leads T P _ y v) (w.mask y) }

  pub spread-ahead : {s t : List ℕ} → Sown (Listed (row edges 0) (row edges 1) e) sources total s
      → Carried bit_or (Lies (row edges 2) (row edges 3) parts.ups parts.low) s t → Closed Sub (Lies (row edges 2) (row edges 3) parts.ups parts.low) t
      → Spread (Listed (row edges 0) (row edges 1) e) stops sources total t
  spread-ahead w = spread (parted-inner T.plain T.to) w.long w.mask

  -- and backward
  pub spread-behind : {s t : List ℕ} → Sown (Listed (row edges 1) (row edges 0) e) sources total s
      → Carried bit_or (Lies (row edges 3) (row edges 2) parts.ups parts.low) s t → Closed Sub (Lies (row edges 3) (row edges 2) parts.ups parts.low) t
      → Spread (Listed (row edges 1) (row edges 0) e) stops sources total t
  spread-behind w = spread (parted-turned T.plain T.from) w.long w.mask

  module _ (S : Standing stops sources total) where
    -- backward, from the stops
    pub sown-behind : {own old s : List ℕ} → old ≡ replicate 192 0 → Owned sources total own → Fed (Between (row edges 5) (row edges 4) 0 parts.ins) own old s
        → Sown (Listed (row edges 1) (row edges 0) e) sources total s
    sown-behind b o f = record {
      long = f.long ∙ rw b (length-replicate {A = ℕ} 192 0);
      mask = seeds o (rw b at f) (λ x y w. listed-turned y x (ins-listed T y x (between-turned w)).0)
          (λ b y l w. between-turned (listed-ins T y (get_or sources b 0) (listed-turned (get_or sources b 0) y w) (S.on b l)));
    }

    pub marked-starts : {masks new all : List ℕ} → Spread (Listed (row edges 0) (row edges 1) e) stops sources total masks
        → Stored 0 sources total masks new → Fed (Between (row edges 4) (row edges 5) 0 parts.ins) new masks all
        → Marked (Listed (row edges 0) (row edges 1) e) stops sources total new all
    marked-starts w c f = marked (listed-node T) w S c f (ins-listed T) (listed-ins T)

    pub cleared-ends : {masks new : List ℕ} → Spread (Listed (row edges 1) (row edges 0) e) stops sources total masks
        → Stored 0 sources total masks new → Cleared (Listed (row edges 1) (row edges 0) e) stops sources total new
    cleared-ends w c = cleared (λ x y l. let (p, q) = listed-node T y x (listed-turned x y l) in (q, p)) w S c

    -- the levels of a search that starts from marks of the stops
    pub leveled-starts : {places marks levels : List ℕ} → Places (row edges 0) e places → Stored 1 sources total (replicate 192 0) marks
        → Leveled (Leads (row edges 1) places) (Clear marks) (Clear marks) sources total levels
        → Leveled (Listed (row edges 0) (row edges 1) e) (Clear stops) (Clear stops) sources total levels
    leveled-starts {marks = marks} P m = leveled-carry (leads-listed T P) (listed-leads T P) (λ z p. passed z p (ℕ_discrete (get_or stops z 0) 0)) plain plain
      where
        passed : (z : ℕ) → Clear marks z → Dec (Clear stops z) → Clear stops z
        passed z p (yes q) = q
        passed z p (no n) = let (b, l, q) = S.number z n in let one = rw q at (m.at b l) in absurd (omega arith)

        plain : (z : ℕ) → Clear stops z → Clear marks z
        plain z p = m.rest z (λ b l e. S.on b l (rw e p)) ∙ zeros 192 z
