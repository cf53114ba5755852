-- Row 10 of the refusals by masks and levels: the passes find the barriers that are joined to the source; from it a path leads to a node exactly
-- when a joined barrier leads there past no barrier.
-- Assumes nothing.
use mathlib.Core.Path.{◌≡◌, refl, ap, sym, ◌∙◌}
use mathlib.Core.Logic.{◌⊎◌, inl, inr, ⊎_elim}
use mathlib.Core.Bool.{Bool, true, false, ◌&&◌, ◌||◌, not, cond}
use mathlib.Core.List.{List}
use Prim.Native.Nat.{ℕ, zero, suc, ◌+◌, ◌-◌, ◌^◌, ◌≤◌, ◌<◌}
use native.Mathlib.Omega.{arith}
use native.Mathlib.Decide.{ℕ_discrete, dec_lt}
use lib.Bits.{bit_and, bit_or, or_comm}
use lib.Count.{ones}
use lib.Dec.{eqb, ltb}
use lib.ListN.{length, get_or}
use lib.Pow.{pow_pos, pow-lt, pow_mono}
use borrow.Author.Tests.{eqb-true, eq-eqb, ne_eqb, not-true, not-false, lt-ltb, le-ltb}
use Rattle.lists.specs.Truth.{truth, clash, false-if, true-not, and_both, both-and, and-fails, fails-and}
use Rattle.lists.specs.Range.{any, any_at, at-any, any_none, any-or, any_same, none_passes, count}
use Rattle.lists.specs.Counting.{count-all, count-full, count-hit}
use Rattle.lists.specs.Mask.{Has, Sub, Mask, or_cases, or_left, or_right, or-more, has-none, has-own, has-pow, mask-unique, mask_of, mask-of, mask_is}
use Rattle.lists.specs.Bits.{has, has-below, ones-mask}
use Rattle.lists.specs.Common.{and_both as has-each, both-and as Has-both, some-bit}
use Rattle.lists.specs.Select.{select, select-at, select-length}
use Rattle.chart.specs.Region.{barrier, Region}
use Rattle.chart.specs.WellFormed.{WellFormed}
use Rattle.theory_paths.specs.Path.{Path, Any, Open}
use Rattle.theory_paths.specs.PathLaws.{append, carry, reverse, cut-last, From}
use Rattle.theory_paths.specs.Decide.{no_barrier, no-barrier, barrier-no, any-path, path-any}
use Rattle.theory_paths.specs.Found.{Reached, Found}
use Rattle.theory_paths.specs.Admission.{cut_off, bad_paths}
use Rattle.theory_paths.specs.Phases.{Direction, forward, backward, barriers, barrier_at}
use Rattle.theory_paths.specs.PhasesLaws.{is-barrier, number-barrier, barrier-number, number-unique}
use Rattle.mark_tables.specs.Tables.{Along, leads_any, Stops, Barriers}
use Rattle.mark.specs.Joined.{Told, Joined, own, more, Passed, lost, lost_barrier, missing, Reaches, lost_in}

differ : (a b : ℕ) → (a ≡ b → ⊥) → not (eqb a b) ≡ true
differ a b n = rw (ne_eqb a b n)

-- as many bits are set as numbers are in the mask
ones-count : {P : ℕ → Type 0} {k m : ℕ} → Mask P k m → ones m ≡ count k (has m)
ones-count {k = k} {m} v =
    ap ones (mask_is (has m) (λ b l p. eq-eqb _ 1 (v.all b l p)) (λ b l p. v.only b l (eqb-true _ 1 p)) v) ∙ ones-mask (has m) k

lt-two-pow : (n : ℕ) → n < 2 ^ n
lt-two-pow zero = pow_pos 0
lt-two-pow (suc n) = omega (arith, lt-two-pow n, pow-lt {i = n} {j = suc n} (omega arith))

-- a number is as low as its bits
bits-low : (m k : ℕ) → ((b : ℕ) → Has m b → b < k) → m < 2 ^ k
bits-low m k f =
    let v = mask-of (has m) k in
    let n = mask_of (has m) k in
    let own : Mask (Has m) (k + m) m = record { small = omega (arith, lt-two-pow m, pow_mono {i = m} {j = k + m} (omega arith)); only = λ b l h. h; all = λ b l h. h } in
    let same : Mask (Has m) (k + m) n = record {
      small = omega (arith, v.small, pow_mono {i = k} {j = k + m} (omega arith));
      only = λ b l h. eqb-true _ 1 (v.only b (has-below n k b v.small h) h);
      all = λ b l h. v.all b (f b h) (eq-eqb _ 1 h);
    } in
    rw (mask-unique own same) v.small

-- one pass, and passes after each other, whatever joins two barriers

module _ (T : ℕ → ℕ → Type 0) where
  pub passed_none : (D : ℕ → ℕ → Type 0) (before : ℕ) → ((b c : ℕ) → D b c → ⊥) → Passed T D before before
  passed_none D before n = record { most = omega arith; keeps = λ b h. h; sound = λ b h. own h; done = λ b c d. absurd (n b c d) }

  -- pairs that bring nothing more
  pub passed-still : {D F : ℕ → ℕ → Type 0} {before all : ℕ} → ((b c : ℕ) → F b c → Has before c → T b c → D b c) → Passed T D before all → Passed T F before all
  passed-still f p = record { most = p.most; keeps = p.keeps; sound = p.sound; done = λ b c d h t. p.done b c (f b c d h t) h t }

  -- pairs that bring those of m
  passed-joins : {D F : ℕ → ℕ → Type 0} {before all : ℕ} (m : ℕ) → ((b : ℕ) → Has m b → Joined T before b)
      → ((b c : ℕ) → F b c → Has before c → T b c → D b c ⊎ Has m b) → Passed T D before all → Passed T F before (bit_or m all)
  passed-joins {all = all} m g f p = record {
    most = omega (arith, p.most, or-more all m, or_comm all m);
    keeps = λ i h. or_right m all i (p.keeps i h);
    sound = λ i h. ⊎_elim (g i) (p.sound i) (or_cases m all i h);
    done = λ b c d h t. ⊎_elim (λ e. or_right m all b (p.done b c e h t)) (or_left m all b) (f b c d h t);
  }

  -- what is joined to those that are joined
  through : {first before : ℕ} → ((b : ℕ) → Has before b → Joined T first b) → {b : ℕ} → Joined T before b → Joined T first b
  through f (own h) = f _ h
  through f (more j t) = more (through f j) t

  -- between the passes: the first are joined, and no barrier that is not
  pub record Joins (first all : ℕ) : Type 0 where
    pub begun : Sub first all
    pub sound : (b : ℕ) → Has all b → Joined T first b

  pub joins-none : (first : ℕ) → Joins first first
  joins-none first = record { begun = λ b h. h; sound = λ b h. own h }

  pub joins-more : {D : ℕ → ℕ → Type 0} {first before all : ℕ} → Joins first before → Passed T D before all → Joins first all
  joins-more j p = record { begun = λ b h. p.keeps b (j.begun b h); sound = λ b h. through j.sound (p.sound b h) }

  -- all are joined, or a pass brought nothing more
  module _ {total first : ℕ} (low : first < 2 ^ total) (bound : (b c : ℕ) → T b c → b < total) where
    below : {b : ℕ} → Joined T first b → b < total
    below (own {b} h) = has-below first total b low h
    below (more {b} {c} j t) = bound b c t

    joined-low : {all : ℕ} → Joins first all → all < 2 ^ total
    joined-low {all} j = bits-low all total (λ b h. below (j.sound b h))

    pub joined-full : {all : ℕ} → Joins first all → total ≤ ones all → Mask (Joined T first) total all
    joined-full {all} j f =
        let own : Mask (Has all) total all = record { small = joined-low j; only = λ b l h. h; all = λ b l h. h } in
        record {
          small = joined-low j;
          only = λ b l. j.sound b;
          all = λ b l _. eqb-true _ 1 (count-full total (has all) (omega (arith, ones-count own)) b l);
        }

    pub joined-all : {all : ℕ} → Joins first all → Passed T (λ b c. (b < total) × (c < total)) all all → Mask (Joined T first) total all
    joined-all {all} i p = record { small = joined-low i; only = λ b l. i.sound b; all = λ b l. bits }
      where
        bits : {b : ℕ} → Joined T first b → Has all b
        bits (own {b} h) = i.begun b h
        bits (more {b} {c} j t) = p.done b c (bound b c t, below j) (bits j) t

-- a barrier's turn in a pass, along the masks and against them

module _ (masks nodes : List ℕ) (total : ℕ) where
  abbrev mask_at : ℕ → ℕ
  mask_at b = get_or masks (get_or nodes b 0) 0

  abbrev With : ℕ → ℕ → Type 0
  With = Told false masks nodes total

  abbrev Against : ℕ → ℕ → Type 0
  Against = Told true masks nodes total

  pub along-more : {before all : ℕ} (b r : ℕ) → b < total → Passed With (λ i c. i < b) before all
      → r ≡ cond (eqb (bit_and (mask_at b) all) 0) all (bit_or (2 ^ b) all) → Passed With (λ i c. i < b + 1) before r
  along-more {before} {all} b r l p e = go (ℕ_discrete (bit_and (mask_at b) all) 0)
    where
      apart : bit_and (mask_at b) all ≡ 0 → (i c : ℕ) → i < b + 1 → Has before c → With i c → Dec (i ≡ b) → i < b
      apart z i c m h t (yes q) = absurd (has-none c (rw z at (Has-both (mask_at b) all c (rw q at t.1) (p.keeps c h))))
      apart z i c m h t (no n) = omega arith

      common : (bit_and (mask_at b) all ≡ 0 → ⊥) → Joined With before b
      common n =
          let m = bit_and (mask_at b) all in
          let v : Mask (Has m) m m = record { small = lt-two-pow m; only = λ i q h. h; all = λ i q h. h } in
          let (c, (q, h)) = (some-bit v).0 n in
          let (x, y) = has-each (mask_at b) all c h in
          more (p.sound c y) (l, x)

      turn : (i : ℕ) → i < b + 1 → Dec (i ≡ b) → (i < b) ⊎ Has (2 ^ b) i
      turn i m (yes q) = inr (rw q (has-own b))
      turn i m (no n) = inl (omega arith)

      go : Dec (bit_and (mask_at b) all ≡ 0) → Passed With (λ i c. i < b + 1) before r
      go (yes z) = rw (e, eq-eqb _ 0 z) (passed-still With (λ i c m h t. apart z i c m h t (ℕ_discrete i b)) p)
      go (no n) = rw (e, ne_eqb _ 0 n) (passed-joins With (2 ^ b) (λ i h. rw (has-pow b i h) (common n)) (λ i c m h t. turn i m (ℕ_discrete i b)) p)

  pub against-more : {before all : ℕ} (left r : ℕ) → 0 < left → Passed Against (λ b c. (left ≤ c) × (c < total)) before all
      → r ≡ cond (has all (left - 1)) (bit_or (mask_at (left - 1)) all) all → Passed Against (λ b c. (left - 1 ≤ c) × (c < total)) before r
  against-more {before} {all} left r some p e = elim (truth (has all (left - 1))) [
    | inl h ↦ rw (e, h) (passed-joins Against (mask_at (left - 1)) (λ b t. more (p.sound (left - 1) (eqb-true _ 1 h)) t) (λ b c d _ t. turn b c d t (ℕ_discrete c (left - 1))) p)
    | inr h ↦ rw (e, h) (passed-still Against (λ b c d j _. apart h c d j (ℕ_discrete c (left - 1))) p)
  ]
    where
      turn : (b c : ℕ) → (left - 1 ≤ c) × (c < total) → Against b c → Dec (c ≡ left - 1) → ((left ≤ c) × (c < total)) ⊎ Has (mask_at (left - 1)) b
      turn b c d t (yes q) = inr (rw q at t)
      turn b c d t (no n) = inl (omega (arith, d.0), d.1)

      apart : has all (left - 1) ≡ false → (c : ℕ) → (left - 1 ≤ c) × (c < total) → Has before c → Dec (c ≡ left - 1) → (left ≤ c) × (c < total)
      apart h c d j (yes q) = absurd (clash (eq-eqb _ 1 (rw q at (p.keeps c j))) h)
      apart h c d j (no n) = (omega (arith, d.0), d.1)

-- along any edges, in a direction

module _ {R : Region} (W : WellFormed R) where
  path-leads : (d : Direction) {x y : ℕ} → Path (Along d R) Any x y → leads_any d R x y ≡ true
  path-leads forward w = path-any R W _ _ w
  path-leads backward w = path-any R W _ _ (reverse w)

  leads-path : (d : Direction) (x y : ℕ) → leads_any d R x y ≡ true → Path (Along d R) Any x y
  leads-path forward x y h = any-path R W x y h
  leads-path backward x y h = reverse (any-path R W y x h)

  open? : (z : ℕ) → Dec (Open R z)
  open? z = elim (truth (no_barrier (R.role z))) [ inl h ↦ yes (no-barrier _ h) | inr h ↦ no (λ o. clash (barrier-no _ o) h) ]

  -- Where no barrier with M leads past no barrier to one without it: to what a path leads from one with M, one with M leads past no barrier.
  module _ (d : Direction) (nodes : List ℕ) {total : ℕ} (B : Barriers R nodes total) (M : ℕ → Type 0)
      (grows : (b c : ℕ) → b < total → c < total → M c → Path (Along d R) (Open R) (get_or nodes c 0) (get_or nodes b 0) → M b) where
    abbrev Node : ℕ → Type 0
    Node z = (b : ℕ) × (b < total) × (get_or nodes b 0 ≡ z) × M b

    closed : (x z : ℕ) → Node x → Path (Along d R) (Open R) x z → (Open R z → ⊥) → Node z
    closed x z (c, l, e, j) p n =
        let (b, m, q) = barrier-number R W z (is-barrier _ (false-if (λ h. n (no-barrier _ h)))) in
        let k : b < total = omega (arith, B.count) in
        let r : get_or nodes b 0 ≡ z = B.at b k ∙ q in
        (b, k, r, grows b c k l j (rw (e, r) p))

    abbrev Led : ℕ → Type 0
    Led = From {E = Along d R} {P = Open R} open? Node closed

    led : (source : ℕ) → source < total → M source → (x : ℕ) → leads_any d R (get_or nodes source 0) x ≡ true
        → (c : ℕ) × (c < total) × M c × Path (Along d R) (Open R) (get_or nodes c 0) x
    led source within m x h =
        let f : Led x = cut-last open? Node closed (source, within, refl, m) (leads-path d (get_or nodes source 0) x h) in
        let (c, l, e, j) = f.member in
        (c, l, j, rw e f.path)

  module _ (d : Direction) (nodes : List ℕ) {total : ℕ} (B : Barriers R nodes total) (source : ℕ) (within : source < total) where
    -- a barrier, other than the source, is not led to from there
    abbrev apart : ℕ → Bool
    apart b = not (eqb b source) && not (leads_any d R (get_or nodes source 0) (get_or nodes b 0))

    as-barriers : any total apart ≡ lost_barrier d R source
    as-barriers = rw (← B.count) (any_same total _ _ (λ b l. rw (B.at b l, B.at source within)))

    -- where T tells of each two barriers whether a path leads from one to the other, past none of them
    module _ (T : ℕ → ℕ → Type 0) (told-path : (b c : ℕ) → T b c → Path (Along d R) (Open R) (get_or nodes c 0) (get_or nodes b 0))
        (path-told : (b c : ℕ) → b < total → c < total → Path (Along d R) (Open R) (get_or nodes c 0) (get_or nodes b 0) → T b c)
        (all : ℕ) (v : Mask (Joined T (2 ^ source)) total all) where
      abbrev Own : ℕ → Type 0
      Own = Joined T (2 ^ source)

      -- a path leads from the source to each barrier that is joined, and to no other
      joined-path : {b : ℕ} → Own b → (b ≡ source) ⊎ Path (Along d R) Any (get_or nodes source 0) (get_or nodes b 0)
      joined-path (own {b} h) = inl (has-pow source b h)
      joined-path (more {b} {c} j t) =
          let p : Path (Along d R) Any (get_or nodes c 0) (get_or nodes b 0) = carry (λ x y e. e) (λ z o. tt) (told-path b c t) in
          inr (⊎_elim (λ e. rw e at p) (λ v. append v tt p) (joined-path j))

      led-joined : (b : ℕ) → b < total → leads_any d R (get_or nodes source 0) (get_or nodes b 0) ≡ true → Own b
      led-joined b k h =
          let on : (b c : ℕ) → b < total → c < total → Own c → Path (Along d R) (Open R) (get_or nodes c 0) (get_or nodes b 0) → Own b = λ b c k l j p.
          more j (path-told b c k l p) in
          let (c, l, j, p) = led d nodes B Own on source within (own (has-own source)) (get_or nodes b 0) h in
          on b c k l j p

      few-apart : ones all < total → lost_barrier d R source ≡ true
      few-apart f = sym as-barriers ∙ elim (truth (any total (λ b. not (has all b)))) [
        | inl h ↦ (let (b, l, t) = any_at total _ h in at-any total apart b l (lone b l t))
        | inr h ↦ absurd (full (count-all total (has all) (λ b l. not-false _ (none_passes total _ h b l))))
      ]
        where
          full : count total (has all) ≡ total → ⊥
          full e = omega (arith, ones-count v)

          lone : (b : ℕ) → b < total → not (has all b) ≡ true → apart b ≡ true
          lone b l h =
              let no : Own b → ⊥ = λ j. clash (eq-eqb _ 1 (v.all b l j)) (not-true _ h) in
              let unled : not (leads_any d R (get_or nodes source 0) (get_or nodes b 0)) ≡ true = rw (false-if (λ g. no (led-joined b l g))) in
              both-and _ _ (differ b source (λ e. no (rw e (own (has-own source))))) unled

      full-apart : total ≤ ones all → lost_barrier d R source ≡ false
      full-apart f = sym as-barriers ∙ any_none total apart (λ b l. fails-and _ _ (λ h.
          let j : Own b = v.only b l (eqb-true _ 1 (count-full total (has all) (omega (arith, ones-count v)) b l)) in
          ⊎_elim (λ e. absurd (clash (eq-eqb _ _ e) (not-true _ h))) (λ p. true-not _ (path-leads d p)) (joined-path j)))

      joined-told : ltb (ones all) total ≡ lost_barrier d R source
      joined-told = elim (dec_lt (ones all) total) [
        | yes l ↦ lt-ltb _ _ l ∙ sym (few-apart l)
        | no n ↦ (let l : total ≤ ones all = omega arith in le-ltb _ _ l ∙ sym (full-apart l))
      ]

    -- a barrier that is lost is a node that is
    pub barrier-lost : lost_barrier d R source ≡ true → lost d R (barrier_at R source) ≡ true
    barrier-lost h =
        let (b, l, t) = any_at (length (barriers R)) _ h in
        let (differs, unled) = and_both _ _ t in
        let other : barrier_at R b ≡ barrier_at R source → ⊥ = λ e.
        clash (eq-eqb _ _ (number-unique R W b source l (omega (arith, B.count)) e)) (not-true _ differs) in
        at-any R.nodes _ (barrier_at R b) (W.barrier-below (number-barrier R W b l)) (both-and _ _ (differ (barrier_at R b) (barrier_at R source) other) unled)

    -- where all barriers are led to, a node that is none is led to from the source exactly when some barrier leads there past no barrier
    module _ (f : lost_barrier d R source ≡ false) {values : List ℕ} (r : Reaches (Along d R) (Open R) nodes total values) where
      reached : (b : ℕ) → b < total → (b ≡ source → ⊥) → leads_any d R (get_or nodes source 0) (get_or nodes b 0) ≡ true
      reached b l n = not-false _ (and-fails _ _ (none_passes total apart (as-barriers ∙ f) b l) (differ b source n))

      on : (b x : ℕ) → b < total → Path (Along d R) (Open R) (get_or nodes b 0) x → leads_any d R (get_or nodes source 0) x ≡ true
      on b x l v =
          let p : Path (Along d R) Any (get_or nodes b 0) x = carry (λ x y e. e) (λ z o. tt) v in
          path-leads d (elim (ℕ_discrete b source) [ yes e ↦ rw e at p | no n ↦ append (leads-path d _ _ (reached b l n)) tt p ])

      none : (x : ℕ) → Open R x → get_or values x 0 ≡ 0 → leads_any d R (get_or nodes source 0) x ≡ true → ⊥
      none x o z h = let (c, l, j, p) = led d nodes B (λ b. Unit {0}) (λ b c k l j p. tt) source within tt x h in r.none c x l o p z

      same : (x : ℕ) → Open R x → Dec (get_or values x 0 ≡ 0) → eqb (get_or values x 0) 0 ≡ not (leads_any d R (get_or nodes source 0) x)
      same x o (yes z) = rw (eq-eqb _ _ z, false-if (none x o z))
      same x o (no n) = let (b, l, p) = r.some x o n in rw (ne_eqb _ _ n, on b x l p)

      -- a barrier is the source, or led to
      found : (x : ℕ) → R.role x ≡ barrier → (x ≡ get_or nodes source 0 → ⊥) → leads_any d R (get_or nodes source 0) x ≡ true
      found x k n =
          let (b, l, q) = barrier-number R W x k in
          let k : b < total = omega (arith, B.count) in
          let e : get_or nodes b 0 ≡ x = B.at b k ∙ q in
          rw e at (reached b k (λ s. n (sym e ∙ ap (λ (c : ℕ). get_or nodes c 0) s)))

      asked : (x : ℕ) → (no_barrier (R.role x) ≡ true) ⊎ (no_barrier (R.role x) ≡ false)
          → (eqb (cond (no_barrier (R.role x)) 0 1) 0 && eqb (get_or values x 0) 0) ≡ (not (eqb x (get_or nodes source 0)) && not (leads_any d R (get_or nodes source 0) x))
      asked x (inl t) =
          let other : x ≡ get_or nodes source 0 → ⊥ = λ e.
          clash t (ap no_barrier (ap R.role (e ∙ B.at source within) ∙ number-barrier R W source (omega (arith, B.count)))) in
          rw (t, ne_eqb _ _ other) (same x (no-barrier _ t) (ℕ_discrete (get_or values x 0) 0))
      asked x (inr t) = elim (ℕ_discrete x (get_or nodes source 0)) [
        | yes e ↦ rw (t, eq-eqb _ _ e)
        | no n ↦ rw (t, ne_eqb _ _ n, found x (is-barrier _ t) n)
      ]

      nodes-lost : {stops : List ℕ} → Stops R stops → missing stops values R.nodes ≡ lost d R (barrier_at R source)
      nodes-lost S = rw (← B.at source within) (any_same R.nodes _ _ (λ x l. rw (S.at x) (asked x (truth (no_barrier (R.role x))))))

    -- both together
    pub parts-lost : {stops values : List ℕ} → Reaches (Along d R) (Open R) nodes total values → Stops R stops
        → (lost_barrier d R source || missing stops values R.nodes) ≡ lost d R (barrier_at R source)
    parts-lost r S = elim (truth (lost_barrier d R source)) [
      | inl h ↦ rw (h, barrier-lost h)
      | inr h ↦ rw h (nodes-lost h r S)
    ]

  -- by the masks of a search from the barriers, past none of them, along these masks and against them

  module _ (nodes : List ℕ) {total : ℕ} (B : Barriers R nodes total) (source : ℕ) (within : source < total) {masks : List ℕ} (all : ℕ) where
    pub apart-told : (d : Direction) → Found (Along d R) (Open R) nodes total masks
        → (((b c : ℕ) → Told false masks nodes total b c → b < total) → Mask (Joined (Told false masks nodes total) (2 ^ source)) total all)
        → ltb (ones all) total ≡ lost_barrier d R source
    apart-told d w v = joined-told d nodes B source within (Told false masks nodes total)
        (λ b c t. let u = w.mask (get_or nodes b 0) in u.only c (has-below _ total c u.small t.1) t.1)
        (λ b c k l p. (k, (w.mask (get_or nodes b 0)).all c l p)) all (v (λ b c t. t.0))

    pub stuck-told : Found (Along forward R) (Open R) nodes total masks
        → (((b c : ℕ) → Told true masks nodes total b c → b < total) → Mask (Joined (Told true masks nodes total) (2 ^ source)) total all)
        → ltb (ones all) total ≡ lost_barrier backward R source
    stuck-told w v =
        let bound : (b c : ℕ) → Told true masks nodes total b c → b < total = λ b c. has-below _ total b (w.mask (get_or nodes c 0)).small in
        joined-told backward nodes B source within (Told true masks nodes total) (λ b c t. reverse ((w.mask (get_or nodes c 0)).only b (bound b c t) t))
        (λ b c k l p. (w.mask (get_or nodes c 0)).all b k (reverse p)) all (v bound)

-- masks and levels tell where a path leads

pub masks-reach : {E : ℕ → ℕ → Type 0} {P : ℕ → Type 0} {sources masks : List ℕ} {total : ℕ}
    → ((x : ℕ) → P x → Mask (λ b. Reached E P sources b x) total (get_or masks x 0)) → Reaches E P sources total masks
masks-reach w = record {
  some = λ x o n. let (b, (l, p)) = (some-bit (w x o)).0 n in (b, l, p);
  none = λ b x l o p. (some-bit (w x o)).1 (b, (l, p));
}

-- start is a barrier
pub some-barrier : (R : Region) → WellFormed R → 0 < length (barriers R)
some-barrier R W = let (b, l, e) = barrier-number R W R.start W.start-barrier in omega arith

-- row 10 by the barriers, where start is the first of the nodes and finish the last

module _ (R : Region) (W : WellFormed R) (first : R.start ≡ 0) (last : R.finish ≡ R.nodes - 1) where
  start-number : barrier_at R 0 ≡ R.start
  unfolding barriers count
  start-number =
      let is : not (no_barrier (R.role 0)) ≡ true = rw (← first, W.start-barrier) in
      (select-at R.nodes (λ x. not (no_barrier (R.role x))) 0 (rw first at (W.barrier-below W.start-barrier)) is).1 ∙ sym first

  finish-number : barrier_at R (length (barriers R) - 1) ≡ R.finish
  unfolding barriers
  finish-number =
      let f : ℕ → Bool = λ x. not (no_barrier (R.role x)) in
      let is : f R.finish ≡ true = rw W.finish-barrier in
      let below = W.barrier-below W.finish-barrier in
      let q : R.finish + 1 ≡ R.nodes = omega arith in
      let k : length (select R.nodes f) - 1 ≡ count R.finish f = omega (arith, select-length R.nodes f, rw q at (count-hit f R.finish is)) in
      ap (λ (k : ℕ). get_or (select R.nodes f) k 0) k ∙ (select-at R.nodes f R.finish below is).1

  pub both_ways : bad_paths R ≡ lost_in R
  unfolding bad_paths cut_off
  both_ways = rw (start-number, finish-number) (any-or R.nodes _ _)
