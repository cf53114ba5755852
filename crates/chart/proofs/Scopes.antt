-- What the role and the scopes of a node say of its record, for begins and ends alike, and what the bytes of constructs give.
-- Assumes nothing.
use mathlib.Core.Path.{◌≡◌, refl, subst}
use mathlib.Core.Logic.{◌⊎◌, inl, inr, ◌≢◌}
use mathlib.Core.Bool.{Bool, true, false, cond}
use Prim.Native.Nat.{ℕ, ◌≤◌, ◌<◌}
use native.Mathlib.Omega.{arith}
use native.Mathlib.Decide.{ℕ_discrete}
use lib.Dec.{eqb}
use borrow.Author.Tests.{eqb-true, eq-eqb, ne_eqb, lt-ltb, le-ltb}
use Rattle.lists.specs.Truth.{truth}
use Rattle.chart.specs.Format.{outside}
use Rattle.chart.specs.Region.{Role, plain, barrier, opens, closes, Kind, single, master, critical, loop, ordered, sections, section, parallel}
use Rattle.chart.specs.Scope.{single_byte, master_byte, loop_byte, ordered_byte, sections_byte, section_byte, parallel_byte, barrier_node, begin_node, end_node, kind_of, lies_in, scope, Encloses, up}
use Rattle.chart.specs.Nested.{role_in}
use Rattle.chart.proofs.Tree.{first_step}
use Rattle.chart.proofs.Reading.{Frame, begin, end, marks}

-- the kind of a frame's node
abbrev pub byte_of : Frame → ℕ
byte_of begin = begin_node
byte_of end = end_node

pub frame_byte : (f : Frame) → begin_node ≤ byte_of f
frame_byte begin = omega arith
frame_byte end = omega arith

-- what a node's role for the region p says of its record, and back
module _ (p : ℕ) (counts : ℕ → Bool) where
  abbrev Means : ℕ → ℕ → Role → Type 0
  Means kind number plain = Unit {0}
  Means kind number barrier = (barrier_node ≤ kind) × (number ≡ p)
  Means kind number (opens c) = (kind ≡ begin_node) × (number ≡ c) × (counts c ≡ true)
  Means kind number (closes c) = (kind ≡ end_node) × (number ≡ c) × (counts c ≡ true)

  role-means : (kind number : ℕ) → Dec (kind ≡ barrier_node) → Dec (kind ≡ begin_node) → Dec (kind ≡ end_node) → Dec (number ≡ p)
      → (counts number ≡ true) ⊎ (counts number ≡ false) → Means kind number (role_in p counts kind number)
  unfolding role_in
  role-means kind number (yes a) b d (yes q) m = rw (eq-eqb kind barrier_node a, eq-eqb number p q) (omega arith, q)
  role-means kind number (yes a) b d (no q) m = rw (eq-eqb kind barrier_node a, ne_eqb number p q) tt
  role-means kind number (no a) (yes b) d (yes q) m = rw (ne_eqb kind barrier_node a, eq-eqb kind begin_node b, eq-eqb number p q) (omega arith, q)
  role-means kind number (no a) (yes b) d (no q) (inl m) = rw (ne_eqb kind barrier_node a, eq-eqb kind begin_node b, ne_eqb number p q, m) (b, refl, m)
  role-means kind number (no a) (yes b) d (no q) (inr m) = rw (ne_eqb kind barrier_node a, eq-eqb kind begin_node b, ne_eqb number p q, m) tt
  role-means kind number (no a) (no b) (yes d) (yes q) m = rw (ne_eqb kind barrier_node a, ne_eqb kind begin_node b, eq-eqb kind end_node d, eq-eqb number p q) (omega arith, q)
  role-means kind number (no a) (no b) (yes d) (no q) (inl m) = rw (ne_eqb kind barrier_node a, ne_eqb kind begin_node b, eq-eqb kind end_node d, ne_eqb number p q, m) (d, refl, m)
  role-means kind number (no a) (no b) (yes d) (no q) (inr m) = rw (ne_eqb kind barrier_node a, ne_eqb kind begin_node b, eq-eqb kind end_node d, ne_eqb number p q, m) tt
  role-means kind number (no a) (no b) (no d) q m = rw (ne_eqb kind barrier_node a, ne_eqb kind begin_node b, ne_eqb kind end_node d) tt

  pub role-is : (kind number : ℕ) (role : Role) → role_in p counts kind number ≡ role → Means kind number role
  role-is kind number role h =
      subst (Means kind number) h
      (role-means kind number (ℕ_discrete kind barrier_node) (ℕ_discrete kind begin_node) (ℕ_discrete kind end_node) (ℕ_discrete number p) (truth (counts number)))

  pub role-marks : (f : Frame) (kind number c : ℕ) → role_in p counts kind number ≡ marks f c → (kind ≡ byte_of f) × (number ≡ c) × (counts c ≡ true)
  role-marks begin kind number c h = role-is kind number (opens c) h
  role-marks end kind number c h = role-is kind number (closes c) h

  pub marks-role : (f : Frame) {kind number c : ℕ} → kind ≡ byte_of f → number ≡ c → c ≢ p → counts c ≡ true → role_in p counts kind number ≡ marks f c
  unfolding role_in
  marks-role begin {c = c} h k n m = rw (h, k, ne_eqb c p n, m)
  marks-role end {c = c} h k n m = rw (h, k, ne_eqb c p n, m)

  pub barrier-role : {kind number : ℕ} → kind ≡ barrier_node → number ≡ p → role_in p counts kind number ≡ barrier
  unfolding role_in
  barrier-role {kind} {number} h k = rw (h, eq-eqb number p k)

  pub frame-barrier : (f : Frame) {kind number : ℕ} → kind ≡ byte_of f → number ≡ p → role_in p counts kind number ≡ barrier
  unfolding role_in
  frame-barrier begin {kind} {number} h k = rw (h, eq-eqb number p k)
  frame-barrier end {kind} {number} h k = rw (h, eq-eqb number p k)

-- where a node lies, and its scope, by its kind
pub lies-number : {kind : ℕ} (number parent : ℕ) → kind < begin_node → lies_in kind number parent ≡ number
unfolding lies_in
lies-number {kind} number parent l = rw (lt-ltb kind begin_node l)

pub lies-parent : {kind : ℕ} (number parent : ℕ) → begin_node ≤ kind → lies_in kind number parent ≡ parent
unfolding lies_in
lies-parent {kind} number parent l = rw (le-ltb kind begin_node l)

pub scope-own : {own kind : ℕ} (number parent : ℕ) → kind ≡ own → scope own kind number parent ≡ number
unfolding scope
scope-own {own} {kind} number parent q = rw (eq-eqb kind own q)

pub scope-other : {own kind : ℕ} (number parent : ℕ) → kind ≢ own → scope own kind number parent ≡ lies_in kind number parent
unfolding scope
scope-other {own} {kind} number parent n = rw (ne_eqb kind own n)

module _ (parent : ℕ → ℕ) (f : Frame) (kind number : ℕ) where
  abbrev pub Lies : ℕ → Type 0
  Lies c = Encloses parent (lies_in kind number (parent number)) c

  abbrev pub Scoped : ℕ → Type 0
  Scoped c = Encloses parent (scope (byte_of f) kind number (parent number)) c

  frame-lies : kind ≡ byte_of f → lies_in kind number (parent number) ≡ parent number
  frame-lies q = let l = frame_byte f in lies-parent number (parent number) (omega arith)

  pub to-scope : {c : ℕ} → (kind ≡ byte_of f → number ≢ outside) → Lies c → Scoped c
  to-scope {c} inner e = go (ℕ_discrete kind (byte_of f))
    where
      go : Dec (kind ≡ byte_of f) → Scoped c
      go (yes q) = rw (scope-own number (parent number) q) (up (inner q) (rw (frame-lies q) at e))
      go (no n) = rw (scope-other number (parent number) n) e

  pub of-scope : {c : ℕ} → Scoped c → Lies c ⊎ ((kind ≡ byte_of f) × (number ≡ c))
  of-scope {c} e = go (ℕ_discrete kind (byte_of f))
    where
      go : Dec (kind ≡ byte_of f) → Lies c ⊎ ((kind ≡ byte_of f) × (number ≡ c))
      go (yes q) = elim (first_step (rw (scope-own number (parent number) q) at e)) [ inl h ↦ inr (q, h) | inr h ↦ inl (rw (frame-lies q) h) ]
      go (no n) = inl (rw (scope-other number (parent number) n) at e)

-- the bytes of the kinds that nesting asks for
abbrev Byte : ℕ → Kind → Type 0
Byte byte single = Unit {0}
Byte byte master = Unit {0}
Byte byte critical = Unit {0}
Byte byte loop = Unit {0}
Byte byte ordered = byte ≡ ordered_byte
Byte byte sections = byte ≡ sections_byte
Byte byte section = byte ≡ section_byte
Byte byte parallel = byte ≡ parallel_byte

kind-byte : (byte : ℕ) → Byte byte (kind_of byte)
unfolding kind_of
kind-byte byte =
    either (eqb byte single_byte) single _ (λ h. tt) (either (eqb byte master_byte) master _ (λ h. tt) (either (eqb byte loop_byte) loop _ (λ h. tt)
    (either (eqb byte ordered_byte) ordered _ (eqb-true byte ordered_byte) (either (eqb byte sections_byte) sections _ (eqb-true byte sections_byte)
    (either (eqb byte section_byte) section _ (eqb-true byte section_byte) (either (eqb byte parallel_byte) parallel critical (eqb-true byte parallel_byte) tt))))))
  where
    either : (b : Bool) (k j : Kind) → (b ≡ true → Byte byte k) → Byte byte j → Byte byte (cond b k j)
    either true k j h g = h refl
    either false k j h g = g

byte-of : (byte : ℕ) (kind : Kind) → kind_of byte ≡ kind → Byte byte kind
byte-of byte kind h = subst (Byte byte) h (kind-byte byte)

pub ordered-byte : (byte : ℕ) → kind_of byte ≡ ordered → byte ≡ ordered_byte
ordered-byte byte h = byte-of byte ordered h

pub sections-byte : (byte : ℕ) → kind_of byte ≡ sections → byte ≡ sections_byte
sections-byte byte h = byte-of byte sections h

pub section-byte : (byte : ℕ) → kind_of byte ≡ section → byte ≡ section_byte
section-byte byte h = byte-of byte section h

pub parallel-byte : (byte : ℕ) → kind_of byte ≡ parallel → byte ≡ parallel_byte
parallel-byte byte h = byte-of byte parallel h

pub loop-byte : {byte : ℕ} → byte ≡ loop_byte → kind_of byte ≡ loop
unfolding kind_of
loop-byte h = rw h

pub byte-sections : {byte : ℕ} → byte ≡ sections_byte → kind_of byte ≡ sections
unfolding kind_of
byte-sections h = rw h

pub byte-section : {byte : ℕ} → byte ≡ section_byte → kind_of byte ≡ section
unfolding kind_of
byte-section h = rw h
