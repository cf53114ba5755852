-- What an answer means: its rule is the first whose condition holds, and 0 is left to exactly the pairs that no rule excludes. An answer is at
-- most 5, and the same both ways round.
-- Assumes nothing.
use Rattle.std.specs.Prelude.{◌≡◌, refl, ◌⊎◌, ◌↔◌, ◌≢◌, Bool, true, false, ◌&&◌, ◌||◌, cond, List, ℕ, suc, ◌≤◌, ◌<◌}
use Rattle.std.proofs.Common.{ap, sym, ◌∙◌, subst, inl, inr, eqb-true, eq-eqb}
use native.Mathlib.Omega.{arith}
use Rattle.std.proofs.Math.Decide.{dec_lt}
use Rattle.std.proofs.Math.Dec.{eqb}
use Rattle.lists.specs.Truth.{bad, clash, truth, is, is_true, true-is}
use Rattle.lists.specs.Means.{both_of, either-of, not-of, unless, some_of, equal_of}
use Rattle.lists.specs.Range.{any}
use Rattle.chart.specs.Format.{decode}
use Rattle.chart.specs.Region.{Role, plain, barrier, opens, closes, Kind, Kind-discrete, single, master, ordered, section, Region}
use Rattle.chart.specs.Reading.{region_of}
use Rattle.chart.specs.InOrdered.{InOrdered}
use Rattle.chart.specs.InSection.{InSection}
use Rattle.chart.specs.WellFormed.{WellFormed}
use Rattle.chart.proofs.Records.{no-filter}
use Rattle.chart.proofs.Sections.{section-below}
use Rattle.theory_paths.specs.Phases.{Direction, forward, backward, Boundary, is_boundary}
use Rattle.theory_paths.specs.PhasesLaws.{boundary-means, returns-means}
use Rattle.theory_answers.specs.Answer.{is_in, in_ordered_of, frames, in_section, no_common, no_common_phase, both_in_masters, both_in_single, both_in_ordereds, both_in_section, answer}
use Rattle.theory_answers.specs.Unexcluded.{Returns, Common, In, Rule, by-phase, by-master, by-single, by-ordered, by-section, number, Excludes, First, first, none, Answers, Unexcluded}

pub in-of : (R : Region) (kind : Kind) (x c : ℕ) → (is_in R kind x c ≡ true) ↔ In R kind x c
unfolding is_in
in-of R kind x c = both_of (is_true (Kind-discrete (R.kind c) kind), true-is (Kind-discrete (R.kind c) kind)) ((λ h. h), λ h. h)

-- A node of this role is the begin of c, or the end.
frames-of : (r : Role) (c : ℕ) → (frames r c ≡ true) ↔ ((r ≡ opens c) ⊎ (r ≡ closes c))
frames-of plain c = ((λ h. absurd (bad (cc))), λ h. elim h [ inl q ↦ absurd (bad (cc)) | inr q ↦ absurd (bad (cc)) ])
frames-of barrier c = ((λ h. absurd (bad (cc))), λ h. elim h [ inl q ↦ absurd (bad (cc)) | inr q ↦ absurd (bad (cc)) ])
frames-of (opens d) c = ((λ h. inl (ap opens (eqb-true d c h))), λ h. elim h [ inl q ↦ eq-eqb d c (cc) | inr q ↦ absurd (bad (cc)) ])
frames-of (closes d) c = ((λ h. inr (ap closes (eqb-true d c h))), λ h. elim h [ inl q ↦ absurd (bad (cc)) | inr q ↦ eq-eqb d c (cc) ])

pub in-section-of : (R : Region) (x s : ℕ) → (in_section R x s ≡ true) ↔ InSection R x s
unfolding in_section
in-section-of R x s = (
  (λ h. let (k, i) = parts.0 h in record { is-section = k; within = i }),
  λ h. parts.1 (h.is-section, h.within),
)
  where
    parts : ((is (Kind-discrete (R.kind s) section) && (R.inside x s || frames (R.role x) s)) ≡ true)
        ↔ ((R.kind s ≡ section) × ((R.inside x s ≡ true) ⊎ ((R.role x ≡ opens s) ⊎ (R.role x ≡ closes s))))
    parts = both_of (is_true (Kind-discrete (R.kind s) section), true-is (Kind-discrete (R.kind s) section))
        (either-of ((λ h. h), λ h. h) (frames-of (R.role x) s))

unfoldable rule_of : ℕ → Rule
rule_of k = cond (eqb k 1) by-phase (cond (eqb k 2) by-master (cond (eqb k 3) by-single (cond (eqb k 4) by-ordered by-section)))

one-rule : (r s : Rule) → number r ≡ number s → r ≡ s
unfolding rule_of
one-rule r s e = sym (back r) ∙ ap rule_of e ∙ back s
  where
    back : (r : Rule) → rule_of (number r) ≡ r
    back by-phase = refl
    back by-master = refl
    back by-single = refl
    back by-ordered = refl
    back by-section = refl

number-some : (r : Rule) → number r ≡ 0 → ⊥
number-some by-phase e = omega arith
number-some by-master e = omega arith
number-some by-single e = omega arith
number-some by-ordered e = omega arith
number-some by-section e = omega arith

-- None of the rules numbered below k has its condition.
abbrev None : (Rule → Type 0) → ℕ → Type 0
None P k = (s : Rule) → number s < k → P s → ⊥

-- There is one first rule, or none.
module _ {P : Rule → Type 0} where
  pub first-unique : {v w : ℕ} → First P v → First P w → v ≡ w
  first-unique (first r p f) (first s q g) = go (dec_lt (number r) (number s)) (dec_lt (number s) (number r))
    where
      go : Dec (number r < number s) → Dec (number s < number r) → number r ≡ number s
      go (yes l) d = absurd (g r l p)
      go (no l) (yes d) = absurd (f s d q)
      go (no l) (no d) = omega arith
  first-unique (first r p f) (none g) = absurd (g r p)
  first-unique (none f) (first s q g) = absurd (f s q)
  first-unique (none f) (none g) = refl

  first-rule : {v : ℕ} → First P v → (r : Rule) → v ≡ number r → P r × None P (number r)
  first-rule (first s p f) r e = let q = one-rule s r e in (subst P q p, subst (λ (t : Rule). None P (number t)) q f)
  first-rule (none f) r e = absurd (number-some r (sym e))

  first-none : {v : ℕ} → First P v → v ≡ 0 → (r : Rule) → P r → ⊥
  first-none (first s p f) e r q = number-some s e
  first-none (none f) e r q = f r q

  -- one test of the chain, where no rule before it has its condition
  first-test : (r : Rule) {t : Bool} {v : ℕ} → (t ≡ true) ↔ P r → None P (number r) → (None P (suc (number r)) → First P v)
      → First P (cond t (number r) v)
  first-test r {t} p f more = elim (truth t) [
    | inl h ↦ rw h (first r (p.0 h) f)
    | inr h ↦ rw h (more (λ s l q. passed h s l q (dec_lt (number s) (number r))))
  ]
    where
      passed : t ≡ false → (s : Rule) → number s < suc (number r) → P s → Dec (number s < number r) → ⊥
      passed h s l q (yes d) = f s d q
      passed h s l q (no d) = clash (p.1 (subst P (one-rule s r (omega arith)) q)) h

-- where the conditions of one chain hold in another too, a first rule of the one leaves a first rule to the other
pub first-kept : {P Q : Rule → Type 0} → ((r : Rule) → P r → Q r) → {v w : ℕ} → First P v → First Q w → v ≢ 0 → w ≢ 0
first-kept h (first r p f) B n e = first-none B e r (h r p)
first-kept h (none f) B n e = n refl

-- each condition is the same both ways round
swap : (R : Region) (a b : ℕ) (r : Rule) → Excludes R a b r → Excludes R b a r
swap R a b by-phase (d, n) = (d, λ h. n (h.0, (h.1.1, h.1.0)))
swap R a b by-master (c, (d, ((x, y), e))) = (d, (c, ((y, x), sym e)))
swap R a b by-single (c, ((x, y), n)) = (c, ((y, x), n))
swap R a b by-ordered (d, ((x, y), n)) = (d, ((y, x), n))
swap R a b by-section (s, ((x, y), n)) = (s, ((y, x), n))

pub first-swap : (R : Region) (a b : ℕ) {v : ℕ} → First (Excludes R a b) v → First (Excludes R b a) v
first-swap R a b (first r p f) = first r (swap R a b r p) (λ s l q. f s l (swap R b a s q))
first-swap R a b (none f) = none (λ r q. f r (swap R b a r q))

-- one direction or the other
one_of : {P : Direction → Type 0} → (P forward ⊎ P backward) ↔ ((d : Direction) × P d)
one_of {P} = ((λ h. elim h [ inl p ↦ (forward, p) | inr p ↦ (backward, p) ]), λ (d, p). back d p)
  where
    back : (d : Direction) → P d → P forward ⊎ P backward
    back forward p = inl p
    back backward p = inr p

module _ {R : Region} (W : WellFormed R) where
  pub ordered_of : (x d : ℕ) → (in_ordered_of R x d ≡ true) ↔ InOrdered R x d
  unfolding in_ordered_of
  ordered_of x d = (
    (λ h. let (o, ((k, i), e)) = found.0 h in record { construct = o; is-ordered = k; of-do = e; within = i }),
    λ h. found.1 (h.construct, ((h.is-ordered, h.within), h.of-do)),
  )
    where
      found : (any R.constructs (λ o. is_in R ordered x o && eqb (R.parent o) d) ≡ true) ↔ ((o : ℕ) × (In R ordered x o × (R.parent o ≡ d)))
      found = some_of R.constructs _ (λ o. In R ordered x o × (R.parent o ≡ d)) (λ o. both_of (in-of R ordered x o) (equal_of (R.parent o) d))
          (λ o h. W.inside-below h.0.1)

  pub do-below : {x d : ℕ} → InOrdered R x d → d < R.constructs
  do-below o = subst (λ (d : ℕ). d < R.constructs) o.of-do (W.inside-below (W.ordered-inside o.within o.is-ordered))

  module _ (a b : ℕ) where
    -- starts and ends alike
    common-of : (d : Direction) → (any R.nodes (λ s. is_boundary d R a s && is_boundary d R b s) ≡ true) ↔ Common (Boundary d R) a b
    common-of d = some_of R.nodes _ (λ s. Boundary d R a s × Boundary d R b s)
        (λ s. both_of (boundary-means R W d a s) (boundary-means R W d b s)) (λ s h. W.barrier-below h.0.is-barrier)

    pub no-common-of : (d : Direction) → (no_common d R a b ≡ true) ↔ (Common (Boundary d R) a b → ⊥)
    unfolding no_common
    no-common-of d = not-of (common-of d)

    pub phase-of : (no_common_phase R a b ≡ true) ↔ Excludes R a b by-phase
    unfolding no_common_phase
    phase-of = let t = either-of (no-common-of forward) (no-common-of backward) in ((λ h. one_of.0 (t.0 h)), λ h. t.1 (one_of.1 h))

    pub masters-of : (both_in_masters R a b ≡ true) ↔ Excludes R a b by-master
    unfolding both_in_masters
    masters-of = some_of R.constructs _ (λ c. (d : ℕ) × ((In R master a c × In R master b d) × (R.thread c ≡ R.thread d)))
        (λ c. some_of R.constructs _ (λ d. (In R master a c × In R master b d) × (R.thread c ≡ R.thread d))
        (λ d. both_of (both_of (in-of R master a c) (in-of R master b d)) (equal_of (R.thread c) (R.thread d))) (λ d h. W.inside-below h.0.1.1))
        (λ c h. W.inside-below h.1.0.0.1)

    pub single_of : (both_in_single R a b ≡ true) ↔ Excludes R a b by-single
    unfolding both_in_single
    single_of = some_of R.constructs _ (λ c. (In R single a c × In R single b c) × (Returns R c → ⊥))
        (λ c. both_of (both_of (in-of R single a c) (in-of R single b c)) (not-of (returns-means R W c))) (λ c h. W.inside-below h.0.0.1)

    pub ordereds-of : (both_in_ordereds R a b ≡ true) ↔ Excludes R a b by-ordered
    unfolding both_in_ordereds
    ordereds-of = some_of R.constructs _ (λ d. (InOrdered R a d × InOrdered R b d) × (Returns R d → ⊥))
        (λ d. both_of (both_of (ordered_of a d) (ordered_of b d)) (not-of (returns-means R W d))) (λ d h. do-below h.0.0)

    pub section-of : (both_in_section R a b ≡ true) ↔ Excludes R a b by-section
    unfolding both_in_section
    section-of = some_of R.constructs _ (λ s. (InSection R a s × InSection R b s) × (Returns R (R.parent s) → ⊥))
        (λ s. both_of (both_of (in-section-of R a s) (in-section-of R b s)) (not-of (returns-means R W (R.parent s)))) (λ s h. section-below W h.0.0)

    -- What is computed is the answer; by `first-unique` nothing else is.
    pub answer-first : Answers R a b (answer R a b)
    unfolding answer
    answer-first =
        first-test by-phase phase-of (λ r l. absurd (number-some r (omega arith)))
        (λ f. first-test by-master masters-of f
        (λ f. first-test by-single single_of f
        (λ f. first-test by-ordered ordereds-of f
        (λ f. first-test by-section section-of f
        (λ f. none (λ r. f r (number-most r)))))))
      where
        number-most : (r : Rule) → number r < 6
        number-most by-phase = omega arith
        number-most by-master = omega arith
        number-most by-single = omega arith
        number-most by-ordered = omega arith
        number-most by-section = omega arith

    -- A rule's number is the answer exactly when its condition holds, and that of no earlier rule.
    pub answer-rule : (r : Rule) → (answer R a b ≡ number r) ↔ (Excludes R a b r × ((s : Rule) → number s < number r → Excludes R a b s → ⊥))
    answer-rule r = (first-rule answer-first r, λ h. first-unique answer-first (first r h.0 h.1))

    -- Rule 1, with no earlier rule.
    pub answer-phase : (answer R a b ≡ 1) ↔ ((d : Direction) × (Common (Boundary d R) a b → ⊥))
    answer-phase = ((λ e. ((answer-rule by-phase).0 e).0), λ h. (answer-rule by-phase).1 (h, λ s l. absurd (number-some s (omega arith))))

    -- 0 is the answer exactly when no rule excludes the pair.
    pub answer-unexcluded : (answer R a b ≡ 0) ↔ Unexcluded R a b
    answer-unexcluded = ((λ e. left (first-none answer-first e)), λ D. first-unique answer-first (none (closed D)))
      where
        left : ((r : Rule) → Excludes R a b r → ⊥) → Unexcluded R a b
        left f = record {
          common = λ d. unless _ (common-of d) (λ n. f by-phase (d, n));
          masters = λ c d k l i j q. f by-master (c, (d, (((k, i), (l, j)), q)));
          singles = λ c k i j. unless _ (returns-means R W c) (λ n. f by-single (c, (((k, i), (k, j)), n)));
          ordereds = λ d x y. unless _ (returns-means R W d) (λ n. f by-ordered (d, ((x, y), n)));
          sections = λ s x y. unless _ (returns-means R W (R.parent s)) (λ n. f by-section (s, ((x, y), n)));
        }

        closed : Unexcluded R a b → (r : Rule) → Excludes R a b r → ⊥
        closed D by-phase (d, n) = n (D.common d)
        closed D by-master (c, (d, ((x, y), e))) = D.masters c d x.0 y.0 x.1 y.1 e
        closed D by-single (c, ((x, y), n)) = n (D.singles c x.0 x.1 y.1)
        closed D by-ordered (d, ((x, y), n)) = n (D.ordereds d x y)
        closed D by-section (s, ((x, y), n)) = n (D.sections s x y)

  pub answer-symmetric : (a b : ℕ) → answer R a b ≡ answer R b a
  answer-symmetric a b = first-unique (first-swap R a b (answer-first a b)) (answer-first b a)

pub cond-most : (b : Bool) (x y : ℕ) {n : ℕ} → x ≤ n → y ≤ n → cond b x y ≤ n
cond-most true x y h k = h
cond-most false x y h k = k

pub answer-most : (R : Region) (a b : ℕ) → answer R a b ≤ 5
unfolding answer
answer-most R a b =
    cond-most (no_common_phase R a b) 1 _ (omega arith) (cond-most (both_in_masters R a b) 2 _ (omega arith)
    (cond-most (both_in_single R a b) 3 _ (omega arith) (cond-most (both_in_ordereds R a b) 4 _ (omega arith)
    (cond-most (both_in_section R a b) 5 0 (omega arith) (omega arith)))))

-- Rule 2 where all masters have one thread number: each node is inside some master.
pub any-masters : (R : Region) → ((c : ℕ) → R.thread c ≡ 0) → (a b : ℕ)
    → Excludes R a b by-master ↔ (((c : ℕ) × In R master a c) × ((d : ℕ) × In R master b d))
any-masters R z a b = (
  (λ (c, (d, ((x, y), e))). ((c, x), (d, y))),
  λ ((c, x), (d, y)). (c, (d, ((x, y), z c ∙ sym (z d)))),
)

-- so it is in each region of a chart of edition 1: rule 2 in 01's words
pub chart-masters : (s : List ℕ) → (decode s).trailer.edition ≡ 1 → (p a b : ℕ) → let R = region_of p (decode s) in
    Excludes R a b by-master ↔ (((c : ℕ) × In R master a c) × ((d : ℕ) × In R master b d))
chart-masters s e p = any-masters (region_of p (decode s)) (no-filter s (λ q. omega arith))
