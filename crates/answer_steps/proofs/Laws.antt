-- The tests' loops, the codes of roles and kinds, and what is read of a region's table.
-- Assumes nothing.
use mathlib.Core.Path.{◌≡◌, refl, sym, ◌∙◌, ap, subst}
use mathlib.Core.Logic.{◌⊎◌, inl, inr}
use mathlib.Core.Bool.{Bool, true, false, ◌&&◌, not}
use mathlib.Core.List.{List}
use Prim.Native.Nat.{ℕ, ◌+◌, ◌<◌}
use native.Mathlib.Numerals.{add-one}
use lib.Dec.{eqb}
use lib.ListN.{get_or}
use borrow.Author.Tests.{eq-eqb, ne_eqb, eqb-true}
use Rattle.lists.specs.Truth.{clash, false-if, is_true, true-is, same_truth}
use Rattle.lists.specs.Range.{every, every-at}
use Rattle.chart.specs.Region.{Role, plain, barrier, opens, closes, Kind, single, master, critical, loop, ordered, sections, section, parallel, Region}
use Rattle.chart.specs.Scope.{kind_of}
use Rattle.theory_team.specs.State.{State}
use Rattle.theory_traces.specs.Tests.{is_kind, is_opening, may_enter, may_pass}
use Rattle.theory_traces.proofs.DecideLaws.{cond_cases}
use Rattle.answer_steps.specs.Tables.{role_by, Tabled}

pub every_more : (n : ℕ) (f : ℕ → Bool) → every n f ≡ true → f n ≡ true → every (n + 1) f ≡ true
unfolding every
every_more n f h g = rw (add-one n, every, h, g)

pub every-fails : (n : ℕ) (f : ℕ → Bool) (k : ℕ) → k < n → f k ≡ false → every n f ≡ false
every-fails n f k l h = false-if (λ g. clash (every-at n f g k l) h)

-- the roles, by their codes
pub role-opens : (code number : ℕ) → code ≡ 2 → role_by code number ≡ opens number
unfolding role_by
role-opens code number q = rw q

pub role-closes : (code number : ℕ) → code ≡ 3 → role_by code number ≡ closes number
unfolding role_by
role-closes code number q = rw q

pub role-barrier : (code number : ℕ) → code ≡ 1 → role_by code number ≡ barrier
unfolding role_by
role-barrier code number q = rw q

pub role-plain : (code number : ℕ) → (code ≡ 1 → ⊥) → (code ≡ 2 → ⊥) → (code ≡ 3 → ⊥) → role_by code number ≡ plain
unfolding role_by
role-plain code number a b c = rw (ne_eqb code 1 a, ne_eqb code 2 b, ne_eqb code 3 c)

-- what holds of every role that opens nothing
pub role-else : (P : Role → Type 0) (code number : ℕ) → (code ≡ 2 → ⊥) → P barrier → P (closes number) → P plain → P (role_by code number)
unfolding role_by
role-else P code number a p q r = rw (ne_eqb code 2 a) (cond_cases (eqb code 1) _ _ P (λ h. p) (λ h. cond_cases (eqb code 3) _ _ P (λ h. q) (λ h. r)))

-- the kinds, by their bytes
abbrev Coded : ℕ → Kind → Type 0
Coded b single = b ≡ 1
Coded b master = b ≡ 2
Coded b critical = Unit {0}
Coded b loop = b ≡ 4
Coded b ordered = b ≡ 5
Coded b sections = b ≡ 6
Coded b section = b ≡ 7
Coded b parallel = b ≡ 8

coded : (b : ℕ) → Coded b (kind_of b)
unfolding kind_of
coded b =
    cond_cases (eqb b 1) _ _ (Coded b) (eqb-true b 1) (λ h. cond_cases (eqb b 2) _ _ (Coded b) (eqb-true b 2) (λ h. cond_cases (eqb b 4) _ _ (Coded b) (eqb-true b 4)
    (λ h. cond_cases (eqb b 5) _ _ (Coded b) (eqb-true b 5) (λ h. cond_cases (eqb b 6) _ _ (Coded b) (eqb-true b 6)
    (λ h. cond_cases (eqb b 7) _ _ (Coded b) (eqb-true b 7) (λ h. cond_cases (eqb b 8) _ _ (Coded b) (eqb-true b 8) (λ h. tt)))))))

kind-test : (kind : Kind) (code : ℕ) → kind_of code ≡ kind → ((b : ℕ) → Coded b kind → b ≡ code) → (b : ℕ) → is_kind (kind_of b) kind ≡ eqb b code
kind-test kind code q f b = same_truth _ _
    (λ h. eq-eqb b code (f b (subst (Coded b) (is_true _ h) (coded b)))) (λ h. true-is _ (ap kind_of (eqb-true b code h) ∙ q))

pub loop-test : (b : ℕ) → is_kind (kind_of b) loop ≡ eqb b 4
unfolding kind_of
loop-test = kind-test loop 4 refl (λ b h. h)

pub ordered-test : (b : ℕ) → is_kind (kind_of b) ordered ≡ eqb b 5
unfolding kind_of
ordered-test = kind-test ordered 5 refl (λ b h. h)

pub sections-test : (b : ℕ) → is_kind (kind_of b) sections ≡ eqb b 6
unfolding kind_of
sections-test = kind-test sections 6 refl (λ b h. h)

pub section-test : (b : ℕ) → is_kind (kind_of b) section ≡ eqb b 7
unfolding kind_of
section-test = kind-test section 7 refl (λ b h. h)

-- a section, by the code and the number of its begin, its byte and its parent
opening : (code number x : ℕ) → is_opening x (role_by code number) ≡ (eqb code 2 && eqb number x)
unfolding is_opening role_by
opening code number x = cond_cases (eqb code 1) _ _ (λ r. is_opening x r ≡ (eqb code 2 && eqb number x)) (λ h. rw (eqb-true code 1 h))
    (λ h. cond_cases (eqb code 2) _ _ (λ r. is_opening x r ≡ (eqb code 2 && eqb number x)) (λ g. rw g) (λ g. rw g (cond_cases (eqb code 3) _ _ (λ r. is_opening x r ≡ false) (λ e. refl) (λ e. refl))))

and_assoc : (a b c : Bool) → ((a && b) && c) ≡ (a && (b && c))
and_assoc true b c = refl
and_assoc false b c = refl

pub section-by : (code number kind parent c x : ℕ)
    → (((eqb code 2 && eqb number x) && eqb kind 7) && eqb parent c) ≡ (is_opening x (role_by code number) && (is_kind (kind_of kind) section && eqb parent c))
section-by code number kind parent c x = rw (opening code number x, section-test kind) (and_assoc (eqb code 2 && eqb number x) (eqb kind 7) (eqb parent c))

-- the kind of a byte that is known
pub kind_at : {R : Region} {table : List ℕ} → Tabled R table → (c : ℕ) → c < R.constructs → {b : ℕ} (kind : Kind) → b ≡ get_or table (1792 + c) 0 → (code : ℕ) → b ≡ code
    → kind_of code ≡ kind → R.kind c ≡ kind
kind_at T c l kind q code e k = T.kind c l ∙ ap kind_of (sym q ∙ e) ∙ k

module _ (R : Region) (m : ℕ) (σ : State) (t c : ℕ) where
  -- the last kinds that are asked for at a begin
  pub enter-last : (b : ℕ) → R.kind c ≡ kind_of b → (b ≡ 1 → ⊥) → (b ≡ 2 → ⊥) → (b ≡ 5 → ⊥) → (b ≡ 6 → ⊥) → may_enter R m σ t c (R.kind c) ≡ not (eqb b 8)
  unfolding may_enter kind_of
  enter-last b q x1 x2 x5 x6 =
      let P : Kind → Type 0 = λ k. may_enter R m σ t c k ≡ not (eqb b 8) in
      rw (q, ne_eqb b 1 x1, ne_eqb b 2 x2, ne_eqb b 5 x5, ne_eqb b 6 x6)
      (cond_cases (eqb b 4) _ _ P (λ h. rw (eqb-true b 4 h)) (λ h. cond_cases (eqb b 7) _ _ P (λ g. rw (eqb-true b 7 g)) (λ g. cond_cases (eqb b 8) _ _ P (λ e. rw e) (λ e. rw e))))

  -- a single or a master is passed by whoever may not enter it
  pub picked-passes : {r : Bool} → (R.kind c ≡ single) ⊎ (R.kind c ≡ master) → r ≡ may_enter R m σ t c (R.kind c) → not r ≡ may_pass R m σ t c (R.kind c)
  unfolding may_enter may_pass
  picked-passes (inl k) h = rw (h, k)
  picked-passes (inr k) h = rw (h, k)

  -- of what is left, a do is passed
  pub pass-last : (b : ℕ) → R.kind c ≡ kind_of b → (b ≡ 1 → ⊥) → (b ≡ 2 → ⊥) → (b ≡ 6 → ⊥) → may_pass R m σ t c (R.kind c) ≡ eqb b 4
  unfolding may_pass kind_of
  pass-last b q x1 x2 x6 =
      let P : Kind → Type 0 = λ k. may_pass R m σ t c k ≡ eqb b 4 in
      rw (q, ne_eqb b 1 x1, ne_eqb b 2 x2, ne_eqb b 6 x6)
      (cond_cases (eqb b 4) _ _ P (λ h. rw h)
      (λ h. cond_cases (eqb b 5) _ _ P (λ g. rw h) (λ g. cond_cases (eqb b 7) _ _ P (λ e. rw h) (λ e. cond_cases (eqb b 8) _ _ P (λ f. rw h) (λ f. rw h)))))

-- a number of a construct that the table has
pub in_table : {R : Region} {table : List ℕ} → Tabled R table → {c : ℕ} → c < get_or table 2033 0 → c < R.constructs
in_table T l = rw T.constructs l

pub differ : {a b c d : ℕ} → a ≡ c → b ≡ d → not (eqb a b) ≡ not (eqb c d)
differ p q = rw (p, q)

-- what holds of every role that is no barrier
pub role-open : (P : Role → Type 0) (code number : ℕ) → (code ≡ 1 → ⊥) → P (opens number) → P (closes number) → P plain → P (role_by code number)
unfolding role_by
role-open P code number a p q r = rw (ne_eqb code 1 a) (cond_cases (eqb code 2) _ _ P (λ h. p) (λ h. cond_cases (eqb code 3) _ _ P (λ h. q) (λ h. r)))
