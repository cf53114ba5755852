-- The pair rules as common bits: rule 1 is no common start or no common end, rules 2 to 5 are each a construct of their kind that both nodes
-- hold, and for a known size rule 7 is a master that one of them holds and the team lacks. So the answer is read off the masks.
-- Assumes nothing.
use Rattle.std.specs.Prelude.{◌≡◌, ◌⊎◌, ◌↔◌, Bool, ◌&&◌, ◌||◌, cond, List, ℕ, zero, suc, ◌+◌, ◌<◌, length, get_or}
use Rattle.std.proofs.Math.Path.{refl}
use Rattle.std.proofs.Common.{sym, ◌∙◌, subst, inl, inr, arith}
use Rattle.std.proofs.Math.Bool.{true, false, not}
use Rattle.std.specs.Int.Bits.{bit_and, bit_or, and_zero_r}
use Rattle.lists.specs.Range.{any, first, any_same, any_none, first_passes, first-is, first-least}
use Rattle.lists.specs.Truth.{truth, same_truth, or_cases, or_left, or_right}
use Rattle.lists.specs.Means.{not-of}
use Rattle.lists.specs.Mask.{Mask, mask-carry, mask-of, mask-either}
use Rattle.lists.specs.Common.{mask-both, common, common-test}
use Rattle.chart.specs.Region.{Kind, single, master, loop, section, Region}
use Rattle.chart.specs.WellFormed.{WellFormed}
use Rattle.chart.proofs.Sections.{section-below}
use Rattle.theory_answers.specs.Answer.{no_common, no_common_phase, both_in_masters, both_in_single, both_in_ordereds, both_in_section, answer, lacks_thread, answer_in, answer_for}
use Rattle.theory_answers.proofs.SizeLaws.{lacks-of}
use Rattle.theory_answers.specs.declared.Size.{Size}
use Rattle.theory_answers.specs.declared.Size.TheVariants.{Any, Of}
use Rattle.theory_answers.specs.Unexcluded.{Common}
use Rattle.theory_answers.proofs.AnswerLaws.{do-below, no-common-of, masters-of, single_of, ordereds-of, section-of}
use Rattle.theory_paths.specs.Phases.{Direction, forward, backward, Boundary, barriers, barrier_at, marked, marks}
use Rattle.theory_paths.specs.PhasesLaws.{Marked, marked-means, barrier-number}
use Rattle.answer_constructs.specs.Marks.{Holds, Held, OfKind, Kinds, Lacked, Sized, Marks}
use Rattle.answer_constructs.specs.declared.kinds.Sets.{Sets}
use Rattle.answer_constructs.specs.declared.mask_table.MaskTable.{MaskTable}
use Rattle.answer_pairs.specs.declared.rules.Profile.{Profile}

-- The masks of node x.
unfoldable pub profile_at : MaskTable → ℕ → Profile
profile_at marks x = record { starts = get_or marks.starts x 0; ends = get_or marks.ends x 0; held = get_or marks.held x 0 }

-- The number of the first of n rules that applies, of those from rule 2 on; 0 where none does.
unfoldable pub numbered : ℕ → (ℕ → Bool) → ℕ
numbered n rule = cond (any n rule) (first n rule + 2) 0

pub numbered-same : (n : ℕ) (f g : ℕ → Bool) → ((k : ℕ) → k < n → f k ≡ g k) → numbered n f ≡ numbered n g
unfolding numbered
numbered-same n f g h = rw (any_same n f g h) (go (truth (any n g)))
  where
    go : (any n g ≡ true) ⊎ (any n g ≡ false) → cond (any n g) (first n f + 2) 0 ≡ cond (any n g) (first n g + 2) 0
    go (inl t) =
        let (l, p) = first_passes n g t in
        rw (first-is n f (first n g) l (h (first n g) l ∙ p) (any_none (first n g) f (λ k m. h k (omega arith) ∙ first-least n g k m)))
    go (inr e) = rw e

-- The first rule for all teams, by whether the nodes have a common phase and by the rules from rule 2 on.
unfoldable pub by_rules : Bool → (ℕ → Bool) → ℕ
by_rules phase rule = cond (not phase) 1 (numbered 4 rule)

-- Ahead of it, of a known size: the team has one thread, or it lacks one that either node needs.
unfoldable pub by_size : Bool → Bool → ℕ → ℕ
by_size alone lacks ruled = cond alone 6 (cond lacks 7 ruled)

-- The k-th rule from rule 2 on, by what the two nodes hold: a construct of its kind in common.
abbrev pub rule_by : List ℕ → ℕ → ℕ → ℕ → Bool
rule_by kinds m n k = common (bit_and m n) (get_or kinds k 0)

-- The answer for all teams by the masks of the two nodes.
unfoldable pub ruled_by : List ℕ → Profile → Profile → ℕ
ruled_by kinds x y = by_rules (common x.starts y.starts && common x.ends y.ends) (rule_by kinds x.held y.held)

-- The answer for the teams that the sets are of.
unfoldable pub answer_by : Sets → Profile → Profile → ℕ
answer_by sets x y = by_size sets.alone (common (bit_or x.held y.held) sets.missing) (ruled_by sets.kinds x y)

-- Four tests in a row.
abbrev in_row : Bool → Bool → Bool → Bool → ℕ → Bool
in_row a b c d zero = a
in_row a b c d (suc zero) = b
in_row a b c d (suc (suc zero)) = c
in_row a b c d (suc (suc (suc k))) = d

-- The rules from rule 2 on, in their order.
abbrev pub rule_of : Region → ℕ → ℕ → ℕ → Bool
rule_of R a b = in_row (both_in_masters R a b) (both_in_single R a b) (both_in_ordereds R a b) (both_in_section R a b)

answer-ruled : (R : Region) (a b : ℕ) → answer R a b ≡ by_rules (not (no_common_phase R a b)) (rule_of R a b)
unfolding answer by_rules numbered any first
answer-ruled R a b = go (no_common_phase R a b) (both_in_masters R a b) (both_in_single R a b) (both_in_ordereds R a b) (both_in_section R a b)
  where
    go : (p m k d c : Bool) → cond p 1 (cond m 2 (cond k 3 (cond d 4 (cond c 5 0)))) ≡ by_rules (not p) (in_row m k d c)
    go true m k d c = refl
    go false true k d c = refl
    go false false true d c = refl
    go false false false true c = refl
    go false false false false true = refl
    go false false false false false = refl

module _ {R : Region} (W : WellFormed R) where
  mask-marks : (d : Direction) (x : ℕ) → Mask (Marked d R x) (length (barriers R)) (marks d R x)
  unfolding marks
  mask-marks d x =
      mask-carry (λ b l h. (marked-means R W d x b).0 (l, h)) (λ b l h. ((marked-means R W d x b).1 h).1) (mask-of (marked d R x) (length (barriers R)))

  module _ (a b : ℕ) where
    common-marks : (d : Direction) → (common (marks d R a) (marks d R b) ≡ true) ↔ Common (Boundary d R) a b
    common-marks d =
        let t = common-test (mask-marks d a) (mask-marks d b) in (
          (λ h. let (i, (l, (p, q))) = t.0 h in (barrier_at R i, (p.boundary, q.boundary))),
          λ (s, (p, q)). let (i, l, e) = barrier-number R W s p.is-barrier in
              t.1 (i, (l, (record { numbered = l; boundary = rw e p }, record { numbered = l; boundary = rw e q }))),
        )

    -- the test of rule 1, of one direction
    pub apart_by : (d : Direction) → no_common d R a b ≡ not (common (marks d R a) (marks d R b))
    apart_by d =
        let n = no-common-of W a b d in
        let m = not-of (common-marks d) in
        same_truth _ _ (λ h. m.1 (n.0 h)) (λ h. n.1 (m.0 h))

    phase-by : not (no_common_phase R a b) ≡ (common (marks forward R a) (marks forward R b) && common (marks backward R a) (marks backward R b))
    unfolding no_common_phase
    phase-by = rw (apart_by forward, apart_by backward) (go (common (marks forward R a) (marks forward R b)) (common (marks backward R a) (marks backward R b)))
      where
        go : (x y : Bool) → not (not x || not y) ≡ (x && y)
        go true true = refl
        go true false = refl
        go false y = refl

  module _ (a b : ℕ) {m n s : ℕ} (v : Held R a m) (w : Held R b n) where
    -- a construct of this kind that both hold
    both_hold : (kind : Kind) → OfKind R kind s
        → (common (bit_and m n) s ≡ true) ↔ ((d : ℕ) × ((d < R.constructs) × (Holds R a d kind × (Holds R b d kind × (R.kind d ≡ kind)))))
    both_hold kind z = let t = common-test (mask-both v w) z in (
      (λ h. let (d, (l, ((x, y), q))) = t.0 h in (d, (l, (subst (Holds R a d) q x, (subst (Holds R b d) q y, q))))),
      λ (d, (l, (x, (y, q)))). t.1 (d, (l, ((subst (Holds R a d) (sym q) x, subst (Holds R b d) (sym q) y), q))),
    )

    masters-by : OfKind R master s → both_in_masters R a b ≡ common (bit_and m n) s
    masters-by z = let t = both_hold master z in same_truth _ _
        (λ h. let (c, (d, ((x, y), e))) = (masters-of W a b).0 h in t.1 (c, (W.inside-below x.1, ((c, (x, refl)), ((d, (y, sym e)), x.0)))))
        (λ h. let (k, (l, (x, (y, q)))) = t.0 h in (masters-of W a b).1 (x.0, (y.0, ((x.1.0, y.1.0), x.1.1 ∙ sym y.1.1))))

    single-by : OfKind R single s → both_in_single R a b ≡ common (bit_and m n) s
    single-by z = let t = both_hold single z in same_truth _ _
        (λ h. let (c, ((x, y), f)) = (single_of W a b).0 h in t.1 (c, (W.inside-below x.1, ((x.1, f), ((y.1, f), x.0)))))
        (λ h. let (c, (l, (x, (y, q)))) = t.0 h in (single_of W a b).1 (c, (((q, x.0), (q, y.0)), x.1)))

    ordereds-by : OfKind R loop s → both_in_ordereds R a b ≡ common (bit_and m n) s
    ordereds-by z = let t = both_hold loop z in same_truth _ _
        (λ h. let (d, ((x, y), f)) = (ordereds-of W a b).0 h in
        t.1 (d, (do-below W x, ((x, f), ((y, f), subst (λ (e : ℕ). R.kind e ≡ loop) x.of-do (W.ordered-loop x.within x.is-ordered))))))
        (λ h. let (d, (l, (x, (y, q)))) = t.0 h in (ordereds-of W a b).1 (d, ((x.0, y.0), x.1)))

    section-by : OfKind R section s → both_in_section R a b ≡ common (bit_and m n) s
    section-by z = let t = both_hold section z in same_truth _ _
        (λ h. let (d, ((x, y), f)) = (section-of W a b).0 h in t.1 (d, (section-below W x, ((x, f), ((y, f), x.is-section)))))
        (λ h. let (d, (l, (x, (y, q)))) = t.0 h in (section-of W a b).1 (d, ((x.0, y.0), x.1)))

  -- each rule
  pub rule-by : (a b : ℕ) {m n : ℕ} (kinds : List ℕ) → Held R a m → Held R b n → Kinds R kinds → (k : ℕ) → k < 4 → rule_of R a b k ≡ rule_by kinds m n k
  rule-by a b kinds v w K zero l = masters-by a b v w (K 0 l)
  rule-by a b kinds v w K (suc zero) l = single-by a b v w (K 1 l)
  rule-by a b kinds v w K (suc (suc zero)) l = ordereds-by a b v w (K 2 l)
  rule-by a b kinds v w K (suc (suc (suc zero))) l = section-by a b v w (K 3 l)
  rule-by a b kinds v w K (suc (suc (suc (suc k)))) l = absurd (omega arith)

  -- a master that one of them holds, for a thread that a team of this size lacks
  module _ (size a b : ℕ) {m n s : ℕ} (v : Held R a m) (w : Held R b n) (z : Mask (Lacked R size) R.constructs s) where
    lacking : (x d : ℕ) → Lacked R size d → Holds R x d (R.kind d) → lacks_thread R size x ≡ true
    lacking x d (q, l) h = let (c, (i, e)) = subst (Holds R x d) q h in (lacks-of W size x).1 (c, (i, rw e l))

    lacked : (x : ℕ) → lacks_thread R size x ≡ true → (d : ℕ) × ((d < R.constructs) × (Holds R x d (R.kind d) × Lacked R size d))
    lacked x h = let (c, (i, l)) = (lacks-of W size x).0 h in (c, (W.inside-below i.1, (subst (Holds R x c) (sym i.0) (c, (i, refl)), (i.0, l))))

    pub lacks-by : (lacks_thread R size a || lacks_thread R size b) ≡ common (bit_or m n) s
    lacks-by = let t = common-test (mask-either v w) z in same_truth _ _
        (λ h. elim (or_cases (lacks_thread R size a) (lacks_thread R size b) h) [
          | inl p ↦ (let (d, (l, (x, q))) = lacked a p in t.1 (d, (l, (inl x, q))))
          | inr p ↦ (let (d, (l, (x, q))) = lacked b p in t.1 (d, (l, (inr x, q))))
        ])
        (λ h. let (d, (l, (x, q))) = t.0 h in elim x [
          | inl p ↦ or_left (lacks_thread R size a) (lacks_thread R size b) (lacking a d q p)
          | inr p ↦ or_right (lacks_thread R size a) (lacks_thread R size b) (lacking b d q p)
        ])

-- The answer, read off the masks of two nodes: for all teams, and for those of a size.
pub ruled-by : {R : Region} {marks : MaskTable} {kinds : List ℕ} → Marks R marks kinds → (a b : ℕ) → a < R.nodes → b < R.nodes
    → answer R a b ≡ ruled_by kinds (profile_at marks a) (profile_at marks b)
unfolding profile_at ruled_by by_rules
ruled-by {R} {marks} {kinds} M a b la lb =
    let W = M.well-formed in
    let rules = numbered-same 4 (rule_of R a b) (rule_by kinds (get_or marks.held a 0) (get_or marks.held b 0)) (rule-by W a b kinds (M.has-held a la) (M.has-held b lb) M.has-kinds) in
    answer-ruled R a b ∙ rw (
      phase-by W a b,
      rules,
      M.has-starts a (omega arith),
      M.has-starts b (omega arith),
      M.has-ends a (omega arith),
      M.has-ends b (omega arith),
    )

pub sized-by : (sets : Sets) (x y : Profile) {alone lacks : Bool} → sets.alone ≡ alone → common (bit_or x.held y.held) sets.missing ≡ lacks
    → answer_by sets x y ≡ cond alone 6 (cond lacks 7 (ruled_by sets.kinds x y))
unfolding answer_by by_size
sized-by sets x y p q = cc

-- where no thread is lacking
pub lacks-none : (both : ℕ) {missing : ℕ} → missing ≡ 0 → common both missing ≡ false
lacks-none both q = rw (q, and_zero_r both)

pub answer-by : {R : Region} {marks : MaskTable} (sets : Sets) → Marks R marks sets.kinds → (size : Size) → Sized R size sets
    → (a b : ℕ) → a < R.nodes → b < R.nodes → answer_for R size a b ≡ answer_by sets (profile_at marks a) (profile_at marks b)
unfolding profile_at answer_in
answer-by {marks = marks} sets M Any Z a b la lb =
    ruled-by M a b la lb ∙ sym (sized-by sets (profile_at marks a) (profile_at marks b) Z.0 (lacks-none (bit_or (get_or marks.held a 0) (get_or marks.held b 0)) Z.1))
answer-by {marks = marks} sets M (Of m) Z a b la lb =
    let lacks = lacks-by M.well-formed m a b (M.has-held a la) (M.has-held b lb) Z.1 in
    rw (ruled-by M a b la lb) (sym (sized-by sets (profile_at marks a) (profile_at marks b) Z.0 (sym lacks)))
