-- The call that tells which locks can be dropped is correct: what is asked of it holds of the number and the bytes that its definition gives, for all
-- bytes; and no others have it.
-- Assumes nothing.
use Rattle.std.specs.Prelude.{◌≡◌, refl, ◌↔◌, true, false, cond, List, ℕ, ◌<◌, ℤ, length, get_or}
use Rattle.std.proofs.Common.{sym, subst, ◌∙◌, inl, inr, arith}
use Rattle.lists.specs.Truth.{truth, clash, false-if}
use Rattle.lists.specs.Tab.{tab-at, tab-length}
use Rattle.chart.specs.Format.{decode}
use Rattle.chart.specs.Region.{Region}
use Rattle.chart.specs.Reading.{region_of}
use Rattle.chart.specs.WellFormed.{WellFormed}
use Rattle.theory_paths.specs.Connected.{Connected}
use Rattle.theory_paths.specs.Admission.{region_rows, AdmittedIn}
use Rattle.theory_paths.specs.AdmissionLaws.{admitted-well-formed, admitted-connected}
use Rattle.theory_answers.specs.Size.{size_rows}
use Rattle.theory_answers.specs.declared.Size.{Size}
use Rattle.theory_exact.proofs.Dropped.{dropped, always-dropped}
use Rattle.output.specs.Output.{number_of}
use Rattle.output.proofs.OutputCorrectLaws.{output-correct, output-only}
use Rattle.theory_calls.specs.Locks.{is_critical, needed, ever_needed, lock_byte, locks_result, locks_written_for, locks_left_for}
use Rattle.theory_calls.specs.Needed.{CriticalOf, Needed, EverNeeded}
use Rattle.theory_calls.proofs.LocksLaws.{needed-ever, critical-of, inside-node, needed_of, ever-needed-of, unneeded-droppable, ever-unneeded-droppable}
use Rattle.theory_calls.specs.LocksCorrect.{LockBytes, LocksCorrectFor}

-- The byte of a critical, by what runs need.
data Byte (R : Region) (size : Size) (c byte : ℕ) : Type 0 where
  finished : byte ≡ 0 → Needed R size c → Byte R size c byte
  unfinished : byte ≡ 1 → (Needed R size c → ⊥) → EverNeeded R size c → Byte R size c byte
  none : byte ≡ 2 → (EverNeeded R size c → ⊥) → Byte R size c byte

module _ {R : Region} {size : Size} {c byte : ℕ} where
  byte-critical : Byte R size c byte → byte ≡ 255 → ⊥
  byte-critical (finished e n) q = omega arith
  byte-critical (unfinished e f n) q = omega arith
  byte-critical (none e f) q = omega arith

  byte-0 : Byte R size c byte → (byte ≡ 0) ↔ Needed R size c
  byte-0 (finished e n) = ((λ q. n), λ n. e)
  byte-0 (unfinished e f n) = ((λ q. absurd (omega arith)), λ n. absurd (f n))
  byte-0 (none e f) = ((λ q. absurd (omega arith)), λ n. absurd (f (needed-ever size n)))

  byte-1 : Byte R size c byte → (byte ≡ 1) ↔ ((Needed R size c → ⊥) × EverNeeded R size c)
  byte-1 (finished e n) = ((λ q. absurd (omega arith)), λ z. absurd (z.0 n))
  byte-1 (unfinished e f n) = ((λ q. (f, n)), λ z. e)
  byte-1 (none e f) = ((λ q. absurd (omega arith)), λ z. absurd (f z.1))

  byte-2 : Byte R size c byte → (byte ≡ 2) ↔ (EverNeeded R size c → ⊥)
  byte-2 (finished e n) = ((λ q. absurd (omega arith)), λ f. absurd (f (needed-ever size n)))
  byte-2 (unfinished e f n) = ((λ q. absurd (omega arith)), λ g. absurd (g n))
  byte-2 (none e f) = ((λ q. f), λ g. e)

module _ (R : Region) (size : Size) where
  result-length : length (locks_result R size) ≡ R.constructs
  unfolding locks_result
  result-length = tab-length R.constructs (lock_byte R size)

  result-at : (c : ℕ) → c < R.constructs → get_or (locks_result R size) c 0 ≡ lock_byte R size c
  unfolding locks_result
  result-at c l = tab-at R.constructs (lock_byte R size) 0 c l

  byte-other : (c : ℕ) → is_critical R c ≡ false → lock_byte R size c ≡ 255
  unfolding lock_byte
  byte-other c h = rw h

  byte-by : (c : ℕ) → is_critical R c ≡ true → lock_byte R size c ≡ cond (needed R size c) 0 (cond (ever_needed R size c) 1 2)
  unfolding lock_byte
  byte-by c h = rw h

  module _ (W : WellFormed R) (C : Connected R) (below : (x c : ℕ) → R.inside x c ≡ true → x < R.nodes) where
    abbrev needs : (c : ℕ) → (needed R size c ≡ true) ↔ Needed R size c
    needs c = needed_of W C below size c

    abbrev ever-needs : (c : ℕ) → (ever_needed R size c ≡ true) ↔ EverNeeded R size c
    ever-needs c = ever-needed-of W C below size c

    -- a byte of a critical that is so by these three, where one of them holds
    byte-from : (c byte : ℕ) → (Needed R size c → byte ≡ 0) → ((Needed R size c → ⊥) → EverNeeded R size c → byte ≡ 1) → ((EverNeeded R size c → ⊥) → byte ≡ 2) → Byte R size c byte
    byte-from c byte z o t = elim (truth (needed R size c)) [
      | inl h ↦ finished (z ((needs c).0 h)) ((needs c).0 h)
      | inr h ↦ elim (truth (ever_needed R size c)) [
        | inl g ↦ (let f : Needed R size c → ⊥ = λ N. clash ((needs c).1 N) h in unfinished (o f ((ever-needs c).0 g)) f ((ever-needs c).0 g))
        | inr g ↦ (let f : EverNeeded R size c → ⊥ = λ N. clash ((ever-needs c).1 N) g in none (t f) f)
      ]
    ]

    -- the byte of a critical
    critical-byte : (c : ℕ) → CriticalOf R c → Byte R size c (lock_byte R size c)
    critical-byte c K =
        let q = byte-by c ((critical-of R c).1 K) in
        byte-from c (lock_byte R size c)
        (λ N. q ∙ rw ((needs c).1 N))
        (λ f N. q ∙ rw (false-if (λ h. f ((needs c).0 h)), (ever-needs c).1 N))
        (λ f. q ∙ rw (false-if (λ h. f (needed-ever size ((needs c).0 h))), false-if (λ h. f ((ever-needs c).0 h))))

    -- what begins with the result has the bytes
    result-bytes : (new : List ℕ) → ((c : ℕ) → c < R.constructs → get_or new c 0 ≡ get_or (locks_result R size) c 0) → LockBytes R size new
    result-bytes new e = record {
      others = λ c l. ((λ q K. byte-critical (byte-of c K) q), λ f. at c l ∙ byte-other c (false-if (λ h. f ((critical-of R c).0 h))));
      needed = λ c K. byte-0 (byte-of c K);
      unneeded = λ c K. byte-1 (byte-of c K);
      never-needed = λ c K. byte-2 (byte-of c K);
      enough = λ locks given. dropped W C locks size (λ c k u. unneeded-droppable W C below size c k (false-if (λ h.
          let K : CriticalOf R c = (k, W.inside-begun ((needs c).0 h).in_c) in
          given c K u ((byte-0 (byte-of c K)).1 ((needs c).0 h)))));
      always-enough = λ locks given. always-dropped W C locks size (λ c k u. ever-unneeded-droppable W C below size c k (false-if (λ h.
          let K : CriticalOf R c = (k, W.inside-begun ((ever-needs c).0 h).in_c) in
          (byte-2 (byte-of c K)).0 (given c K u) ((ever-needs c).0 h))));
    }
      where
        at : (c : ℕ) → c < R.constructs → get_or new c 0 ≡ lock_byte R size c
        at c l = e c l ∙ result-at c l

        byte-of : (c : ℕ) → CriticalOf R c → Byte R size c (get_or new c 0)
        byte-of c K = subst (Byte R size c) (sym (at c (W.opens-below K.1))) (critical-byte c K)

    -- two lists that have the bytes begin alike
    same_bytes : {l m : List ℕ} → LockBytes R size l → LockBytes R size m → (c : ℕ) → c < R.constructs → get_or l c 0 ≡ get_or m c 0
    same_bytes {l} {m} L M c b = elim (truth (is_critical R c)) [
      | inr h ↦ (let f : CriticalOf R c → ⊥ = λ K. clash ((critical-of R c).1 K) h in (L.others c b).1 f ∙ sym ((M.others c b).1 f))
      | inl h ↦ (let K = (critical-of R c).0 h in like K (byte-from c (get_or l c 0) (L.needed c K).1 (λ f N. (L.unneeded c K).1 (f, N)) (L.never-needed c K).1))
    ]
      where
        like : CriticalOf R c → Byte R size c (get_or l c 0) → get_or l c 0 ≡ get_or m c 0
        like K (finished e n) = e ∙ sym ((M.needed c K).1 n)
        like K (unfinished e f n) = e ∙ sym ((M.unneeded c K).1 (f, n))
        like K (none e f) = e ∙ sym ((M.never-needed c K).1 f)

module _ (s : List ℕ) (p : ℕ) (size : Size) where
  abbrev R : Region
  R = region_of p (decode s)

  bytes_of : AdmittedIn s p → (new : List ℕ) → ((c : ℕ) → c < R.constructs → get_or new c 0 ≡ get_or (locks_result R size) c 0) → LockBytes R size new
  bytes_of a = result-bytes R size (admitted-well-formed s p a) (admitted-connected s p a) (inside-node s p a)

  -- What is asked of the call.
  pub locks-correct : (old : List ℕ) → LocksCorrectFor s p size old (number_of (locks_written_for s p size old)) (locks_left_for s p size old)
  locks-correct old = output-correct (region_rows s p) (size_rows size) (locks_result R size) old R.constructs (result-length R size) (LockBytes R size) bytes_of

  -- No other number and no other bytes are correct.
  pub locks-only : (old : List ℕ) (number : ℤ) (new : List ℕ) → LocksCorrectFor s p size old number new
      → (number ≡ number_of (locks_written_for s p size old)) × (new ≡ locks_left_for s p size old)
  locks-only old number new =
      output-only (region_rows s p) (size_rows size) (locks_result R size) old R.constructs (result-length R size) (LockBytes R size) number new
      (λ a h. same_bytes R size (admitted-well-formed s p a) (admitted-connected s p a) (inside-node s p a) h (bytes_of a (locks_result R size) (λ j l. refl)))
