-- Each test of the team rules passes exactly where its rule holds.
-- Assumes nothing.
use Rattle.std.specs.Prelude.{◌≡◌, refl, ◌⊎◌, ◌↔◌, Bool, true, false, ◌&&◌, ◌||◌, not, ℕ, zero, suc, ◌≤◌, ◌<◌, leb, eqb}
use Rattle.std.proofs.Common.{ap, inl, inr, leb-true, le-leb}
use native.Mathlib.Omega.{arith}
use Rattle.std.proofs.Math.Decide.{ℕ_discrete}
use Rattle.std.proofs.lemmas.Bool.{not-true}
use Rattle.lists.specs.Truth.{bad, clash, truth, false-if, is_true, true-is, both-and, or_left, or_right, or_cases}
use Rattle.lists.specs.Range.{every, every-at}
use Rattle.lists.specs.Means.{both_of, not-of, equal_of}
use Rattle.chart.specs.Region.{Role, plain, barrier, opens, closes, Kind, Kind-discrete, single, master, critical, loop, ordered, sections, section, parallel, Region}
use Rattle.chart.specs.InSection.{SectionOf}
use Rattle.chart.specs.WellFormed.{WellFormed}
use Rattle.theory_team.specs.State.{State}
use Rattle.theory_team.specs.Step.{First, NotFirst, NoneOrdered, Taken, Untaken, AllTaken, MayEnter, MayPass}
use Rattle.theory_answers.proofs.AnswerLaws.{ordered_of}
use Rattle.theory_traces.specs.Tests.{is_kind, is_first, none_ordered, is_untaken, is_opening, is_section_of, all_taken, may_enter, may_pass, may_leave}

pub own : (t : Bool) → (t ≡ true) ↔ (t ≡ true)
own t = ((λ h. h), λ h. h)

fails_of : (t : Bool) → (not t ≡ true) ↔ (t ≡ false)
fails_of t = (not-true t, λ h. rw h)

pub kind-of : (a b : Kind) → (is_kind a b ≡ true) ↔ (a ≡ b)
kind-of a b = (is_true (Kind-discrete a b), true-is (Kind-discrete a b))

most-of : (m n : ℕ) → (leb m n ≡ true) ↔ (m ≤ n)
most-of m n = (leb-true m n, le-leb m n)

-- if P then Q
pub if-of : {s t : Bool} {P Q : Type 0} → (s ≡ true) ↔ P → (t ≡ true) ↔ Q → ((not s || t) ≡ true) ↔ (P → Q)
if-of {s} {t} p q = (
  (λ h a. elim (or_cases (not s) t h) [ inl g ↦ absurd (clash (p.1 a) (not-true s g)) | inr g ↦ q.0 g ]),
  λ f. elim (truth s) [ inl g ↦ or_right (not s) t (q.1 (f (p.0 g))) | inr g ↦ or_left (not s) t ((fails_of s).1 g) ],
)

-- P, or else Q
else-of : {s t : Bool} {P Q : Type 0} → (s ≡ true) ↔ P → (t ≡ true) ↔ Q → ((s || t) ≡ true) ↔ ((P → ⊥) → Q)
else-of {s} {t} p q = (
  (λ h n. elim (or_cases s t h) [ inl g ↦ absurd (n (p.0 g)) | inr g ↦ q.0 g ]),
  λ f. elim (truth s) [ inl g ↦ or_left s t g | inr g ↦ or_right s t (q.1 (f (λ a. clash (p.1 a) g))) ],
)

at_every : (n : ℕ) (f : ℕ → Bool) → ((k : ℕ) → k < n → f k ≡ true) → every n f ≡ true
unfolding every
at_every zero f h = refl
at_every (suc n) f h = both-and (every n f) (f n) (at_every n f (λ k l. h k (omega arith))) (h n (omega arith))

pub every_of : (n : ℕ) {f : ℕ → Bool} {P : ℕ → Type 0} → ((k : ℕ) → (f k ≡ true) ↔ P k) → (every n f ≡ true) ↔ ((k : ℕ) → k < n → P k)
every_of n {f} p = ((λ h k l. (p k).0 (every-at n f h k l)), λ h. at_every n f (λ k l. (p k).1 (h k l)))

-- where not every number passes, some one fails
fails-at : (n : ℕ) (f : ℕ → Bool) → every n f ≡ false → (k : ℕ) × (k < n) × (f k ≡ false)
unfolding every
fails-at zero f h = absurd (bad (cc))
fails-at (suc n) f h = go (truth (every n f)) (λ g. fails-at n f g) (truth (f n))
  where
    go : (every n f ≡ true) ⊎ (every n f ≡ false) → (every n f ≡ false → (k : ℕ) × (k < n) × (f k ≡ false)) → (f n ≡ true) ⊎ (f n ≡ false)
        → (k : ℕ) × (k < suc n) × (f k ≡ false)
    go (inr g) r p = let (k, l, q) = r g in (k, omega arith, q)
    go (inl g) r (inr p) = (n, omega arith, p)
    go (inl g) r (inl p) = absurd (clash (both-and (every n f) (f n) g p) h)

some-fails : (n : ℕ) {f : ℕ → Bool} {P : ℕ → Type 0} → ((k : ℕ) → (f k ≡ true) ↔ P k) → (not (every n f) ≡ true) ↔ ((k : ℕ) × (k < n) × (P k → ⊥))
some-fails n {f} p = (
  (λ h. let (k, l, g) = fails-at n f (not-true _ h) in (k, l, λ a. clash ((p k).1 a) g)),
  λ h. let (k, l, g) = h in rw (false-if {b = every n f} (λ e. g ((p k).0 (every-at n f e k l)))),
)

opening_of : (x : ℕ) (r : Role) → (is_opening x r ≡ true) ↔ (r ≡ opens x)
unfolding is_opening
opening_of x plain = ((λ h. absurd (bad (cc))), λ h. absurd (bad (cc)))
opening_of x barrier = ((λ h. absurd (bad (cc))), λ h. absurd (bad (cc)))
opening_of x (opens y) = ((λ h. ap opens ((equal_of y x).0 h)), λ h. (equal_of y x).1 (cc))
opening_of x (closes y) = ((λ h. absurd (bad (cc))), λ h. absurd (bad (cc)))

module _ (R : Region) (W : WellFormed R) (m : ℕ) (σ : State) where
  first_of : (t c : ℕ) → (is_first m σ t c ≡ true) ↔ First m σ t c
  unfolding is_first
  first_of t c = every_of m (λ k. most-of (σ.encounters k c) (σ.encounters t c))

  not-first-of : (t c : ℕ) → (not (is_first m σ t c) ≡ true) ↔ NotFirst m σ t c
  unfolding is_first
  not-first-of t c =
      let f = some-fails m (λ k. most-of (σ.encounters k c) (σ.encounters t c)) in
      ((λ h. let (k, l, n) = f.0 h in (k, l, over k n)), λ h. let (k, l, n) = h in f.1 (k, l, λ a. omega arith))
    where
      over : (k : ℕ) → (σ.encounters k c ≤ σ.encounters t c → ⊥) → σ.encounters t c < σ.encounters k c
      over k n = omega arith

  none-ordered-of : (t d : ℕ) → (none_ordered R m σ t d ≡ true) ↔ NoneOrdered R m σ t d
  unfolding none_ordered
  none-ordered-of t d =
      every_of m (λ k. else-of (equal_of k t) (if-of (ordered_of W (σ.node k) d) (not-of (equal_of (σ.encounters k d) (σ.encounters t d)))))

  -- thread t is not past the k-th instance of c, and has not taken x there
  abbrev Free : ℕ → ℕ → ℕ → ℕ → Type 0
  Free c k x t = (σ.encounters t c ≤ k) × (σ.encounters t c ≡ k → σ.taken t c x ≡ false)

  -- or is past it, or has
  abbrev Held : ℕ → ℕ → ℕ → ℕ → Type 0
  Held c k x t = (k < σ.encounters t c) ⊎ ((σ.encounters t c ≡ k) × (σ.taken t c x ≡ true))

  free_of : (c k x t : ℕ) → ((leb (σ.encounters t c) k && (not (eqb (σ.encounters t c) k) || not (σ.taken t c x))) ≡ true) ↔ Free c k x t
  free_of c k x t = both_of (most-of (σ.encounters t c) k) (if-of (equal_of (σ.encounters t c) k) (fails_of (σ.taken t c x)))

  pub untaken-of : (c k x : ℕ) → (is_untaken m σ c k x ≡ true) ↔ Untaken m σ c k x
  unfolding is_untaken
  untaken-of c k x = every_of m (free_of c k x)

  taken_of : (c k x : ℕ) → (not (is_untaken m σ c k x) ≡ true) ↔ Taken m σ c k x
  unfolding is_untaken
  taken_of c k x =
      let f = some-fails m (free_of c k x) in
      ((λ h. let (t, l, n) = f.0 h in (t, l, held t n (truth (σ.taken t c x)) (ℕ_discrete (σ.encounters t c) k))), λ h. let (t, l, g) = h in f.1 (t, l, not_free t g))
    where
      past : (t : ℕ) → (σ.encounters t c ≤ k → ⊥) → k < σ.encounters t c
      past t n = omega arith

      held : (t : ℕ) → (Free c k x t → ⊥) → (σ.taken t c x ≡ true) ⊎ (σ.taken t c x ≡ false) → Dec (σ.encounters t c ≡ k) → Held c k x t
      held t n (inl w) (yes q) = inr (q, w)
      held t n (inr w) (yes q) = absurd (n (omega arith, λ z. w))
      held t n w (no q) = inl (past t (λ l. n (l, λ z. absurd (q z))))

      not_free : (t : ℕ) → Held c k x t → Free c k x t → ⊥
      not_free t (inl l) f = let g = f.0 in omega arith
      not_free t (inr h) f = clash h.1 (f.1 h.0)

  section-of : (c x : ℕ) → (is_section_of R c x ≡ true) ↔ SectionOf R c x
  unfolding is_section_of
  section-of c x =
      let f = both_of (opening_of x (R.role (R.begin x))) (both_of (kind-of (R.kind x) section) (equal_of (R.parent x) c)) in
      ((λ h. let (b, (k, p)) = f.0 h in record { begun = b; is-section = k; of-sections = p }), λ S. f.1 (S.begun, (S.is-section, S.of-sections)))

  all-taken-of : (c k : ℕ) → (all_taken R m σ c k ≡ true) ↔ AllTaken R m σ c k
  unfolding all_taken
  all-taken-of c k =
      let f = every_of R.constructs (λ x. if-of (section-of c x) (taken_of c k x)) in
      ((λ h x S. f.0 h x (W.opens-below S.begun) S), λ h. f.1 (λ x l S. h x S))

  always : (true ≡ true) ↔ Unit {0}
  always = ((λ h. tt), λ h. refl)

  never : (false ≡ true) ↔ ⊥
  never = ((λ h. bad (cc)), λ h. absurd h)

  pub enter-of : (t c : ℕ) (k : Kind) → (may_enter R m σ t c k ≡ true) ↔ MayEnter R m σ t c k
  unfolding may_enter
  enter-of t c single = first_of t c
  enter-of t c master = equal_of t (R.thread c)
  enter-of t c critical = always
  enter-of t c loop = always
  enter-of t c ordered = none-ordered-of t (R.parent c)
  enter-of t c sections = never
  enter-of t c section = always
  enter-of t c parallel = never

  pub pass_of : (t c : ℕ) (k : Kind) → (may_pass R m σ t c k ≡ true) ↔ MayPass R m σ t c k
  unfolding may_pass
  pass_of t c single = not-first-of t c
  pass_of t c master = not-of (equal_of t (R.thread c))
  pass_of t c critical = never
  pass_of t c loop = always
  pass_of t c ordered = never
  pass_of t c sections = all-taken-of c (suc (σ.encounters t c))
  pass_of t c section = never
  pass_of t c parallel = never

  pub leave-of : (t c : ℕ) → (may_leave R m σ t c ≡ true) ↔ (R.kind c ≡ sections → AllTaken R m σ c (σ.encounters t c))
  unfolding may_leave
  leave-of t c = if-of (kind-of (R.kind c) sections) (all-taken-of c (σ.encounters t c))
