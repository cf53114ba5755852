-- What the search finds is what locks are needed for.
-- Assumes nothing.
use mathlib.Core.Path.{◌≡◌, refl, ap, sym, subst, ◌∙◌}
use mathlib.Core.Bool.{Bool, true, false, ◌&&◌, not, cond}
use mathlib.Core.List.{List}
use Prim.Native.Nat.{ℕ, ◌≤◌, ◌<◌}
use native.Mathlib.Omega.{arith}
use native.Mathlib.Decide.{dec_lt}
use lib.Dec.{eqb}
use lib.ListN.{get_or}
use borrow.Author.Tests.{eqb-true, eq-eqb}
use Rattle.lists.specs.Truth.{same_truth, and_both, both-and}
use Rattle.lists.specs.Range.{any_at, at-any}
use Rattle.lists.specs.Mask.{Has, has-none}
use Rattle.lists.specs.Bits.{has}
use Rattle.chart.specs.Region.{critical, Region}
use Rattle.theory_answers.specs.Answer.{is_in}
use Rattle.theory_answers.proofs.AnswerLaws.{in-of}
use Rattle.theory_answers.specs.Numbers.{asked}
use Rattle.theory_answers.specs.declared.Size.{Size}
use Rattle.theory_calls.specs.Locks.{is_critical, in_named, some_pair, needed, ever_needed, lock_byte}
use Rattle.theory_calls.proofs.LocksLaws.{critical-of}
use Rattle.mark_tables.specs.Tables.{Closed}
use Rattle.answer_constructs.specs.Marks.{Sized, Marks}
use Rattle.answer_constructs.specs.declared.kinds.Sets.{Sets}
use Rattle.answer_constructs.specs.declared.mask_table.MaskTable.{MaskTable}
use Rattle.answer_pairs.specs.Rules.{profile_at}
use Rattle.answer_names.specs.Names.{Names, InCriticals}
use Rattle.answer_met.specs.Meets.{unbarred, meets}
use Rattle.answer_met.proofs.Meeting.{met_by, unbarred-by}
use Rattle.answer_locks.specs.Fitting.{Fitting}
use Rattle.answer_locks.specs.Search.{partner, pairs, some_pair as some_pair_by, Searched}
use Rattle.answer_locks.specs.Bytes.{byte_by}
use Rattle.answer_locks.specs.declared.needed.Tried.{Tried}
use Rattle.answer_locks.proofs.Sized.{lacks, answer-fitting, barred-fitting, lacks-held}

-- a node inside a construct is one that a claim may name
abbrev pub InsideAsked : Region → Type 0
InsideAsked R = (x c : ℕ) → R.inside x c ≡ true → asked R x ≡ true

module _ {R : Region} {marks : MaskTable} {kinds : List ℕ} {sets : Sets} (M : Marks R marks kinds) (size : Size) (Z : Sized R size sets) {closed shut : List ℕ} (C : Closed R closed)
    (F : Fitting R.nodes sets marks.held closed shut) where
  -- a node is open where a claim may name it and the team can have it
  shut_at : (x : ℕ) → x < R.nodes → eqb (get_or shut x 0) 0 ≡ (asked R x && not (lacks R size x))
  shut_at x l = F.at x l ∙ rw (C.at x l, ← lacks-held sets M size Z x l) (ap (λ (b : Bool). b && not (lacks R size x)) (flag (asked R x)))
    where
      flag : (b : Bool) → eqb (cond b 0 1) 0 ≡ b
      flag true = refl
      flag false = refl

  module _ (names : List ℕ) {around : List ℕ} (I : InsideAsked R) (N : Names R names) (past : (y : ℕ) → R.nodes ≤ y → get_or names y 0 ≡ 0) (A : InCriticals R around)
      (test by : ℕ → ℕ → Bool) (fits : (x y : ℕ) → x < R.nodes → y < R.nodes → test x y ≡ ((not (lacks R size x) && not (lacks R size y)) && by x y))
      (c : ℕ) (l : c < R.constructs) (k : R.kind c ≡ critical) where
    -- the pairs of the definition, x first; and those of the search
    abbrev pair : ℕ → ℕ → Bool
    pair x y = (R.inside x c && in_named R y (R.name c)) && test x y

    abbrev partner_of : ℕ → ℕ → Bool
    partner_of x y = (eqb (get_or shut y 0) 0 && has (get_or names y 0) c) && by x y

    -- y has the name where its mask has the bit
    named-bit : (y : ℕ) → y < R.nodes → in_named R y (R.name c) ≡ true → (has (get_or names y 0) c ≡ true) × (asked R y ≡ true)
    unfolding in_named
    named-bit y m h =
        let (d, b, p) = any_at R.constructs (λ d. is_in R critical y d && eqb (R.name d) (R.name c)) h in
        let (i, e) = and_both (is_in R critical y d) _ p in
        let within = (in-of R critical y d).0 i in
        (eq-eqb _ 1 ((N y m).all c l (k, (d, (within, eqb-true _ _ e)))), I y d within.1)

    bit-named : (y : ℕ) → y < R.nodes → has (get_or names y 0) c ≡ true → in_named R y (R.name c) ≡ true
    unfolding in_named
    bit-named y m h =
        let (j, (d, (i, e))) = (N y m).only c l (eqb-true _ 1 h) in
        at-any R.constructs (λ d. is_in R critical y d && eqb (R.name d) (R.name c)) d (M.well-formed.inside-below i.1)
        (both-and _ _ ((in-of R critical y d).1 i) (eq-eqb _ _ e))

    to : some_pair R test c ≡ true → some_pair_by shut names around by R.nodes c ≡ true
    unfolding some_pair some_pair_by partner
    to h =
        let (x, lx, g) = any_at R.nodes _ h in
        let (y, ly, p) = any_at R.nodes (pair x) g in
        let (q, t) = and_both (R.inside x c && in_named R y (R.name c)) (test x y) p in
        let (i, n) = and_both (R.inside x c) (in_named R y (R.name c)) q in
        let (u, b) = and_both (not (lacks R size x) && not (lacks R size y)) (by x y) (sym (fits x y lx ly) ∙ t) in
        let (ux, uy) = and_both (not (lacks R size x)) (not (lacks R size y)) u in
        let (bit, ay) = named-bit y ly n in
        at-any R.nodes (λ x. pairs shut names (by x) (get_or shut x 0) (get_or around x 0) c) x lx (both-and _ _
        (both-and _ _ (shut_at x lx ∙ both-and _ _ (I x c i) ux) (eq-eqb _ 1 ((A.at x lx).all c l (k, i))))
        (at-any 192 (partner_of x) y (omega (arith, M.few)) (both-and _ _ (both-and _ _ (shut_at y ly ∙ both-and _ _ ay uy) bit) b)))

    below : (y : ℕ) → has (get_or names y 0) c ≡ true → y < R.nodes
    below y h = elim (dec_lt y R.nodes) [ yes m ↦ m | no m ↦ absurd (has-none c (subst (λ (n : ℕ). Has n c) (past y (omega arith)) (eqb-true _ 1 h))) ]

    from : some_pair_by shut names around by R.nodes c ≡ true → some_pair R test c ≡ true
    unfolding some_pair some_pair_by partner
    from h =
        let (x, lx, g) = any_at R.nodes (λ x. pairs shut names (by x) (get_or shut x 0) (get_or around x 0) c) h in
        let (q, p) = and_both (eqb (get_or shut x 0) 0 && has (get_or around x 0) c) _ g in
        let (ox, a) = and_both (eqb (get_or shut x 0) 0) (has (get_or around x 0) c) q in
        let (y, m, r) = any_at 192 (partner_of x) p in
        let (s, b) = and_both (eqb (get_or shut y 0) 0 && has (get_or names y 0) c) (by x y) r in
        let (oy, n) = and_both (eqb (get_or shut y 0) 0) (has (get_or names y 0) c) s in
        let ly = below y n in
        let ux = (and_both (asked R x) _ (sym (shut_at x lx) ∙ ox)).1 in
        let uy = (and_both (asked R y) _ (sym (shut_at y ly) ∙ oy)).1 in
        at-any R.nodes _ x lx (at-any R.nodes (pair x) y ly (both-and _ _
        (both-and _ _ ((A.at x lx).only c l (eqb-true _ 1 a)).1 (bit-named y ly n)) (fits x y lx ly ∙ both-and _ _ (both-and _ _ ux uy) b)))

    needs-by : some_pair R test c ≡ some_pair_by shut names around by R.nodes c
    needs-by = same_truth _ _ to from

  module _ (names : List ℕ) {around : List ℕ} (I : InsideAsked R) (N : Names R names) (past : (y : ℕ) → R.nodes ≤ y → get_or names y 0 ≡ 0) (A : InCriticals R around)
      {found : Tried} (S : Searched shut marks names around R.nodes found) (criticals : ℕ) (K : (c : ℕ) → c < R.constructs → is_critical R c ≡ has criticals c)
      (few : R.constructs ≤ 48) (c : ℕ) (l : c < R.constructs) where
    needed-by : R.kind c ≡ critical → needed R size c ≡ has found.needed c
    unfolding needed
    needed-by k = needs-by names I N past A _ (λ x. meets (profile_at marks x) marks)
        (λ x y lx ly. answer-fitting R size x y ∙ rw (met_by M x y lx ly)) c l k ∙ sym (S.needed c (omega arith))

    ever-by : R.kind c ≡ critical → ever_needed R size c ≡ has found.ever c
    unfolding ever_needed
    ever-by k = needs-by names I N past A _ (λ x. unbarred (profile_at marks x) marks)
        (λ x y lx ly. barred-fitting R size x y ∙ rw (unbarred-by M x y lx ly)) c l k ∙ sym (S.ever c (omega arith))

    pub byte-by : lock_byte R size c ≡ byte_by criticals found.ever found.needed c
    unfolding lock_byte byte_by
    byte-by = rw (K c l) (go (has criticals c) (λ h. let k = ((critical-of R c).0 (K c l ∙ h)).0 in (needed-by k, ever-by k)))
      where
        go : (b : Bool) {n e m f : Bool} → (b ≡ true → (n ≡ m) × (e ≡ f)) → ◌≡◌ {A = ℕ} (cond b (cond n 0 (cond e 1 2)) 255) (cond b (cond m 0 (cond f 1 2)) 255)
        go true h = let (p, q) = h refl in rw (p, q)
        go false h = refl
