-- Phases is correct: demand 2 holds of the number and the bytes that its definition gives, for all bytes; and no others have it.
-- Assumes nothing.
use Rattle.std.specs.Prelude.{◌≡◌, refl, ◌⊎◌, ◌↔◌, Bool, true, false, not, cond, List, [], ℕ, zero, suc, ◌+◌, ◌*◌, ◌-◌, ◌/◌, ◌%◌, ◌^◌, ◌≤◌, ◌<◌, ℤ, length, get_or}
use Rattle.std.proofs.Common.{sym, ◌∙◌, inl, inr, arith, lt-ltb, le-ltb}
use Rattle.std.proofs.Math.Path.{subst}
use Rattle.std.proofs.Math.Decide.{dec_lt}
use Rattle.std.proofs.Math.ListN.{get_or-eq_default}
use Rattle.std.proofs.lemmas.Bool.{not-false}
use Rattle.lists.specs.Truth.{clash, truth}
use Rattle.lists.specs.Range.{count}
use Rattle.lists.specs.Mask.{Has, mask-unique}
use Rattle.lists.specs.Digits.{digit-bit}
use Rattle.lists.specs.Select.{select-at, select-number}
use Rattle.lists.specs.Tab.{tab-at, tab-length}
use Rattle.chart.specs.Format.{decode}
use Rattle.chart.specs.Region.{Region}
use Rattle.chart.specs.Reading.{region_of}
use Rattle.chart.specs.WellFormed.{WellFormed}
use Rattle.theory_paths.specs.Decide.{no_barrier, no-barrier, barrier-no}
use Rattle.theory_paths.specs.Admission.{region_rows}
use Rattle.theory_paths.specs.AdmissionLaws.{admitted-well-formed}
use Rattle.theory_paths.specs.Phases.{Direction, forward, backward, Boundary, barriers, barrier_at, marks}
use Rattle.theory_paths.specs.PhasesLaws.{Marked, barrier-of, number-barrier, bit-means, boundary-kept}
use Rattle.output.specs.Output.{number_of}
use Rattle.output.proofs.OutputCorrectLaws.{output-correct, output-only}
use Rattle.theory_calls.specs.Bytes.{byte_of}
use Rattle.theory_calls.specs.Phases.{phase_byte, phases_result, phases_written, phases_left}
use Rattle.theory_calls.specs.PhasesCorrect.{BarriersBelow, start, more, same, Numbered, place, BitSet, PhaseBits, PhasesCorrect}

-- the test that barriers are counted by
abbrev is_barrier : Region → ℕ → Bool
is_barrier R x = not (no_barrier (R.role x))

-- as many barriers stand below a node as are counted there, and no other number
pub below-count : (R : Region) (x : ℕ) → BarriersBelow R x (count x (is_barrier R))
unfolding count
below-count R zero = start
below-count R (suc x) = go (truth (is_barrier R x)) (below-count R x)
  where
    go : (is_barrier R x ≡ true) ⊎ (is_barrier R x ≡ false) → BarriersBelow R x (count x (is_barrier R))
        → BarriersBelow R (suc x) (count x (is_barrier R) + cond (is_barrier R x) 1 0)
    go (inl t) w =
        let q : suc (count x (is_barrier R)) ≡ count x (is_barrier R) + cond (is_barrier R x) 1 0 = rw t (omega arith) in
        subst (BarriersBelow R (suc x)) q (more ((barrier-of (R.role x)).0 t) w)
    go (inr t) w =
        let q : count x (is_barrier R) ≡ count x (is_barrier R) + cond (is_barrier R x) 1 0 = rw t (omega arith) in
        subst (BarriersBelow R (suc x)) q (same (no-barrier (R.role x) (not-false _ t)) w)

pub count-below : {R : Region} {x b : ℕ} → BarriersBelow R x b → b ≡ count x (is_barrier R)
unfolding count
count-below start = refl
count-below (more e w) = rw e (omega (arith, count-below w))
count-below {R} (same {x} o w) = rw (barrier-no (R.role x) o) (omega (arith, count-below w))

module _ {R : Region} (W : WellFormed R) where
  -- the number of a barrier by the relation and by the list
  numbered-at : {b s : ℕ} → Numbered R b s → (b < length (barriers R)) × (barrier_at R b ≡ s)
  unfolding barriers
  numbered-at {b} {s} N =
      let at = select-at R.nodes (is_barrier R) s (W.barrier-below N.is-barrier) ((barrier-of (R.role s)).1 N.is-barrier) in
      rw (count-below N.below) at

  pub at-numbered : (b : ℕ) → b < length (barriers R) → Numbered R b (barrier_at R b)
  unfolding barriers
  at-numbered b l = record {
    is-barrier = number-barrier R W b l;
    below = subst (BarriersBelow R (barrier_at R b)) (select-number R.nodes (is_barrier R) b l) (below-count R (barrier_at R b));
  }

  marked-numbered : (d : Direction) (x b : ℕ) → Marked d R x b ↔ ((s : ℕ) × (Numbered R b s × Boundary d R x s))
  marked-numbered d x b = (
    (λ m. (barrier_at R b, (at-numbered b m.numbered, m.boundary))),
    λ (s, (N, B)). let (l, e) = numbered-at N in record { numbered = l; boundary = rw e B },
  )

-- a byte of the result is one of a node's mask
byte-of-mask : (R : Region) (d : Direction) (x k : ℕ) → k < 8 → phase_byte R (16 * x + place d + k) ≡ byte_of (marks d R x) k
unfolding phase_byte
byte-of-mask R forward x k l =
    let i : (16 * x + 0 + k) % 16 ≡ k = omega arith in
    let n : (16 * x + 0 + k) / 16 ≡ x = omega arith in
    let m : (16 * x + 0 + k) % 8 ≡ k = omega arith in
    rw (i, n, m, lt-ltb k 8 l)
byte-of-mask R backward x k l =
    let i : (16 * x + 8 + k) % 16 ≡ 8 + k = omega arith in
    let n : (16 * x + 8 + k) / 16 ≡ x = omega arith in
    let m : (16 * x + 8 + k) % 8 ≡ k = omega arith in
    rw (i, n, m, le-ltb (8 + k) 8 (omega arith))

-- and so for bits
bit-of-mask : (R : Region) (d : Direction) (x b : ℕ) → b < 64 → phase_byte R (16 * x + place d + b / 8) / 2 ^ (b % 8) % 2 ≡ marks d R x / 2 ^ b % 2
unfolding byte_of
bit-of-mask R d x b l =
    let q : 8 * (b / 8) + b % 8 ≡ b = omega arith in
    rw (byte-of-mask R d x (b / 8) (omega arith)) (digit-bit 8 (marks d R x) (b / 8) (b % 8) (omega arith) ∙ rw q)

place-most : (d : Direction) → place d ≤ 8
place-most forward = omega arith
place-most backward = omega arith

byte_small : (R : Region) (j : ℕ) → phase_byte R j < 256
unfolding phase_byte byte_of
byte_small R j = omega arith

-- Bytes are below 256.
abbrev pub Bytes : List ℕ → Type 0
Bytes l = (j : ℕ) → get_or l j 0 < 256

module _ (R : Region) where
  result-length : length (phases_result R) ≡ 16 * R.nodes
  unfolding phases_result
  result-length = tab-length (16 * R.nodes) (phase_byte R)

  result-at : (j : ℕ) → j < 16 * R.nodes → get_or (phases_result R) j 0 ≡ phase_byte R j
  unfolding phases_result
  result-at j l = tab-at (16 * R.nodes) (phase_byte R) 0 j l

  result-bytes : Bytes (phases_result R)
  result-bytes j = go (dec_lt j (16 * R.nodes))
    where
      go : Dec (j < 16 * R.nodes) → get_or (phases_result R) j 0 < 256
      go (yes l) = rw (result-at j l) (byte_small R j)
      go (no l) = rw (get_or-eq_default (phases_result R) 0 {n = j} (omega (arith, result-length))) (omega arith)

  -- what begins with the result has the bits
  result-bits : WellFormed R → (new : List ℕ) → ((j : ℕ) → j < 16 * R.nodes → get_or new j 0 ≡ get_or (phases_result R) j 0) → PhaseBits R new
  result-bits W new e d x b l m =
      let j = 16 * x + place d + b / 8 in
      let below : 16 * x + place d + b / 8 < 16 * R.nodes = omega (arith, place-most d) in
      let r : get_or new j 0 / 2 ^ (b % 8) % 2 ≡ marks d R x / 2 ^ b % 2 = rw (e j below, result-at j below) (bit-of-mask R d x b m) in
      let t = bit-means R W d x b in
      let u = marked-numbered W d x b in
      ((λ h. u.0 (t.0 (sym r ∙ h))), λ h. r ∙ t.1 (u.1 h))

  -- a node outside the region is written as a barrier (02, Note 12): none of its bits is set
  pub outside-unset : WellFormed R → (new : List ℕ) → PhaseBits R new → (d : Direction) (x b : ℕ) → x < R.nodes → b < 64 → R.kept x ≡ false
      → BitSet new (16 * x + place d) b → ⊥
  outside-unset W new P d x b l m out h = let (s, (N, B)) = (P d x b l m).0 h in clash (boundary-kept R W d B) out

  -- and the bits leave one list of bytes
  module _ (l m : List ℕ) (L : PhaseBits R l) (M : PhaseBits R m) (l-bytes : Bytes l) (m-bytes : Bytes m) where
    same_byte : (d : Direction) (x k : ℕ) → x < R.nodes → k < 8 → get_or l (16 * x + place d + k) 0 ≡ get_or m (16 * x + place d + k) 0
    same_byte d x k lx lk = mask-unique {P = Has (get_or m (16 * x + place d + k) 0)} {k = 8}
        (record { small = l-bytes _; only = λ i b h. turn l m i b L M h; all = λ i b h. turn m l i b M L h })
        (record { small = m-bytes _; only = λ i b h. h; all = λ i b h. h })
      where
        turn : (v w : List ℕ) (i : ℕ) → i < 8 → PhaseBits R v → PhaseBits R w → Has (get_or v (16 * x + place d + k) 0) i → Has (get_or w (16 * x + place d + k) 0) i
        turn v w i b from to h =
            let p : (8 * k + i) / 8 ≡ k = omega arith in
            let q : (8 * k + i) % 8 ≡ i = omega arith in
            let below : 8 * k + i < 64 = omega arith in
            let s : BitSet v (16 * x + place d) (8 * k + i) = rw (p, q) h in
            rw (p, q) at ((to d x (8 * k + i) lx below).1 ((from d x (8 * k + i) lx below).0 s))

    same_bytes : (j : ℕ) → j < 16 * R.nodes → get_or l j 0 ≡ get_or m j 0
    same_bytes j b = go (dec_lt (j % 16) 8)
      where
        go : Dec (j % 16 < 8) → get_or l j 0 ≡ get_or m j 0
        go (yes h) = let q : 16 * (j / 16) + 0 + j % 16 ≡ j = omega arith in rw q at (same_byte forward (j / 16) (j % 16) (omega arith) h)
        go (no h) = let q : 16 * (j / 16) + 8 + (j % 16 - 8) ≡ j = omega arith in rw q at (same_byte backward (j / 16) (j % 16 - 8) (omega arith) (omega arith))

-- Demand 2 for Phases.
pub phases-correct : (s : List ℕ) (p : ℕ) (old : List ℕ) → PhasesCorrect s p old (number_of (phases_written s p old)) (phases_left s p old)
phases-correct s p old =
    let R = region_of p (decode s) in
    output-correct (region_rows s p) [] (phases_result R) old (16 * R.nodes) (result-length R) (PhaseBits R) (λ a new e. result-bits R (admitted-well-formed s p a) new e)

-- No other number and no other bytes are correct.
pub phases-only : (s : List ℕ) (p : ℕ) (old : List ℕ) (number : ℤ) (new : List ℕ) → Bytes new → PhasesCorrect s p old number new
    → (number ≡ number_of (phases_written s p old)) × (new ≡ phases_left s p old)
phases-only s p old number new small =
    let R = region_of p (decode s) in
    output-only (region_rows s p) [] (phases_result R) old (16 * R.nodes) (result-length R) (PhaseBits R) number new
    (λ a h. same_bytes R new (phases_result R) h (result-bits R (admitted-well-formed s p a) (phases_result R) (λ j l. refl)) small (result-bytes R))
