-- The links, one access earlier; and the next write.
-- Assumes nothing.
use mathlib.Core.Path.{◌≡◌, sym, ◌∙◌}
use mathlib.Core.List.{List}
use Prim.Native.Nat.{ℕ, ◌+◌, ◌≤◌, ◌<◌}
use native.Mathlib.Omega.{arith}
use native.Mathlib.Decide.{ℕ_discrete, dec_lt}
use lib.ListN.{length, length-set}
use lib.Seq.{get_or-set_same, get_or-set_other}
use Rattle.theory_calls.specs.Access.{total, access_at}
use Rattle.answer_races.specs.declared.same_variable.NextTwo.{NextTwo}
use Rattle.answer_races.specs.Linked.{FirstFrom, Same, Beside, Linked, none, link_at, linked_to}

-- to a write each access of its variable is one that it may race with
pub beside-write : (list : List ℕ) (variable : ℕ) {n i k : ℕ} → FirstFrom (Same list variable) n i k → FirstFrom (Beside list 1 variable) n i k
beside-write list variable F = record { from = F.from; own = λ l. (F.own l, omega arith); none = λ x l m p q. F.none x l m p q.0 }

module _ (list : List ℕ) (i : ℕ) {k : ℕ} (few : total list ≤ 1024) (F : FirstFrom (Same list (access_at list i).variable) (total list) (i + 1) k) where
  pub write-none : i < total list → total list ≤ k → FirstFrom (Beside list 0 (access_at list i).variable) (total list) (i + 1) 1024
  write-none h l = record { from = omega arith; own = λ p. absurd (omega arith); none = λ x p u v q. F.none x p (omega arith) v q.0 }

  pub write-here : ((access_at list k).write ≡ 0 → ⊥) → FirstFrom (Beside list 0 (access_at list i).variable) (total list) (i + 1) k
  write-here d = record { from = F.from; own = λ l. (F.own l, omega arith); none = λ x l m p q. F.none x l m p q.0 }

  pub write-later : {m : ℕ} → k < total list → (access_at list k).write ≡ 0 → FirstFrom (Beside list 0 (access_at list k).variable) (total list) (k + 1) m
      → FirstFrom (Beside list 0 (access_at list i).variable) (total list) (i + 1) m
  write-later {m} l z G = record {
    from = omega (arith, F.from, G.from);
    own = λ h. ((G.own h).0 ∙ F.own l, (G.own h).1);
    none = λ x h p u q. go x h p u q (dec_lt x k) (ℕ_discrete x k);
  }
    where
      go : (x : ℕ) → i + 1 ≤ x → x < m → x < total list → Beside list 0 (access_at list i).variable x → Dec (x < k) → Dec (x ≡ k) → ⊥
      go x h p u q (yes y) e = F.none x h y u q.0
      go x h p u q (no y) (yes e) = let w : 0 < 0 + (access_at list k).write = rw e at q.1 in omega arith
      go x h p u q (no y) (no e) = G.none x (omega arith) p u (q.0 ∙ sym (F.own l), q.1)

module _ (links : List NextTwo) (j k : ℕ) (long : length links ≡ 1025) (low : j < 1024) where
  own : link_at (linked_to links j k) j ≡ record { first = k; second = (link_at links k).first }
  own = get_or-set_same links j _ none (omega arith)

  other : (x : ℕ) → (x ≡ j → ⊥) → link_at (linked_to links j k) x ≡ link_at links x
  other x d = get_or-set_other links j x _ none (λ q. d q)

  pub link-length : length (linked_to links j k) ≡ 1025
  link-length = length-set links j _ ∙ long

module _ (list : List ℕ) {links : List NextTwo} (write i k : ℕ) {m : ℕ} (long : length links ≡ 1025) (low : i < 1024) (e : m ≡ i + 1) (small : k ≤ 1024)
    (F : FirstFrom (Beside list write (access_at list i).variable) (total list) (i + 1) k) (L : Linked list write m links) where
  pub linked-more : Linked list write i (linked_to links i k)
  linked-more = record {
    next = λ j h l. next j h l (ℕ_discrete j i);
    second = λ j h l. second j h l (ℕ_discrete j i);
    small = λ j h l. few j h l (ℕ_discrete j i);
  }
    where
      next : (j : ℕ) → i ≤ j → j < total list → Dec (j ≡ i)
          → FirstFrom (Beside list write (access_at list j).variable) (total list) (j + 1) (link_at (linked_to links i k) j).first
      next j h l (yes q) = rw (q, own links i k long low) F
      next j h l (no q) = rw (other links i k long low j q) (L.next j (omega arith) l)

      second : (j : ℕ) → i ≤ j → j < total list → Dec (j ≡ i) → (link_at (linked_to links i k) j).first < total list
          → FirstFrom (Beside list write (access_at list j).variable) (total list) ((link_at (linked_to links i k) j).first + 1) (link_at (linked_to links i k) j).second
      second j h l (yes q) = rw (q, own links i k long low) (λ b. rw (F.own b).0 at (L.next k (omega (arith, F.from)) b))
      second j h l (no q) = rw (other links i k long low j q) (L.second j (omega arith) l)

      few : (j : ℕ) → i ≤ j → j < total list → Dec (j ≡ i) → (link_at (linked_to links i k) j).first ≤ 1024
      few j h l (yes q) = rw (q, own links i k long low) small
      few j h l (no q) = rw (other links i k long low j q) (L.small j (omega arith) l)
