-- Truth values: taking tests apart and putting them together.
-- Assumes nothing.
use Rattle.std.specs.Prelude.{◌≡◌, refl, ◌⊎◌, Bool, true, false, ◌&&◌, ◌||◌, not, ℕ, eqb}
use Rattle.std.proofs.Common.{sym, inl, inr, arith, eqb-true, eq-eqb}
use Rattle.std.specs.Bool.{beq}
use Rattle.std.proofs.lemmas.Bool.{not-false}

-- what `cc` derives from two different constructors that are equal
pub bad : ◌≡◌ {A = ℕ} 0 1 → ⊥
bad h = omega arith

pub clash : {b : Bool} → b ≡ true → b ≡ false → ⊥
clash p q = bad (cc)

pub truth : (b : Bool) → (b ≡ true) ⊎ (b ≡ false)
truth true = inl refl
truth false = inr refl

pub false-if : {b : Bool} → (b ≡ true → ⊥) → b ≡ false
false-if {b} f = elim (truth b) [ inl h ↦ absurd (f h) | inr h ↦ h ]

-- the test of something decided
unfoldable pub is : {P : Type 0} → Dec P → Bool
is (yes p) = true
is (no p) = false

pub is_true : {P : Type 0} (d : Dec P) → is d ≡ true → P
unfolding is
is_true (yes p) h = p
is_true (no p) h = absurd (bad (cc))

pub true-is : {P : Type 0} (d : Dec P) → P → is d ≡ true
unfolding is
true-is (yes p) h = refl
true-is (no p) h = absurd (p h)

pub and_both : (a b : Bool) → (a && b) ≡ true → (a ≡ true) × (b ≡ true)
and_both true b h = (refl, h)
and_both false b h = absurd (bad (cc))

pub both-and : (a b : Bool) → a ≡ true → b ≡ true → (a && b) ≡ true
both-and true b h k = k
both-and false b h k = absurd (bad (cc))

pub or_cases : (a b : Bool) → (a || b) ≡ true → (a ≡ true) ⊎ (b ≡ true)
or_cases true b h = inl refl
or_cases false b h = inr h

pub or_left : (a b : Bool) → a ≡ true → (a || b) ≡ true
or_left true b h = refl
or_left false b h = absurd (bad (cc))

pub or_right : (a b : Bool) → b ≡ true → (a || b) ≡ true
or_right true b h = refl
or_right false b h = h

pub true-not : (b : Bool) → b ≡ true → not b ≡ false
true-not true h = refl
true-not false h = absurd (bad (cc))

pub and-false : (b : Bool) → (b && false) ≡ false
and-false true = refl
and-false false = refl

pub and-true : (b : Bool) → (b && true) ≡ b
and-true true = refl
and-true false = refl

pub or-false : (b : Bool) → (b || false) ≡ b
or-false true = refl
or-false false = refl

pub or-neither : (a b : Bool) → (a || b) ≡ false → (a ≡ false) × (b ≡ false)
or-neither true b h = absurd (bad (cc))
or-neither false b h = (refl, h)

pub neither-or : (a b : Bool) → a ≡ false → b ≡ false → (a || b) ≡ false
neither-or a b h k = rw (h, k)

pub and-fails : (a b : Bool) → (a && b) ≡ false → a ≡ true → b ≡ false
and-fails true b h k = h
and-fails false b h k = absurd (bad (cc))

pub fails-and : (a b : Bool) → (a ≡ true → b ≡ false) → (a && b) ≡ false
fails-and true b h = h refl
fails-and false b h = refl

pub same_truth : (a b : Bool) → (a ≡ true → b ≡ true) → (b ≡ true → a ≡ true) → a ≡ b
same_truth true b h k = sym (h refl)
same_truth false b h k = sym (false-if (λ g. clash (k g) refl))

-- the test that two numbers differ
pub not_eqb : (a b : ℕ) → not (eqb a b) ≡ false → a ≡ b
not_eqb a b h = eqb-true a b (not-false (eqb a b) h)

pub eq-not-eqb : (a b : ℕ) → a ≡ b → not (eqb a b) ≡ false
eq-not-eqb a b h = rw (eq-eqb a b h)

pub beq-equal : (a b : Bool) → beq a b ≡ true → a ≡ b
beq-equal true true h = refl
beq-equal false false h = refl
beq-equal true false h = absurd (bad (cc))
beq-equal false true h = absurd (bad (cc))
