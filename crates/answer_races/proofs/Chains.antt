-- The first of each bucket and the chains, one access earlier; and a search along a chain.
-- Assumes nothing.
use mathlib.Core.Path.{◌≡◌, refl, ap, sym, ◌∙◌}
use mathlib.Core.List.{List}
use Prim.Native.Nat.{ℕ, ◌+◌, ◌%◌, ◌≤◌, ◌<◌}
use native.Mathlib.Omega.{arith}
use native.Mathlib.Decide.{ℕ_discrete, dec_lt}
use lib.ListN.{length, get_or, set, replicate, get_or-replicate}
use Rattle.lists.specs.Store.{at_set}
use Rattle.theory_calls.specs.Access.{total, access_at}
use Rattle.answer_races.specs.Linked.{FirstFrom, Same, bucket}

module _ (key : ℕ → ℕ) (n : ℕ) where
  -- of each bucket the first access from i on
  abbrev pub Heads : ℕ → List ℕ → Type 0
  Heads i heads = (b : ℕ) → b < 1021 → FirstFrom (λ x. key x ≡ b) n i (get_or heads b 0)

  -- of each access from i on the first after it
  abbrev pub Chains : ℕ → List ℕ → Type 0
  Chains i under = (j : ℕ) → i ≤ j → j < n → FirstFrom (λ x. key x ≡ key j) n (j + 1) (get_or under j 0)

  pub heads-none : n ≤ 1024 → Heads n (replicate 1021 1024)
  heads-none l b h =
      let q : get_or {A = ℕ} (replicate 1021 1024) b 0 ≡ 1024 = get_or-replicate 1021 b 1024 0 h in
      rw q (record { from = l; own = λ m. absurd (omega arith); none = λ x m k p e. omega arith })

  here : (i : ℕ) → FirstFrom (λ x. key x ≡ key i) n i i
  here i = record { from = omega arith; own = λ l. refl; none = λ x l m p e. omega arith }

  before : {i m b k : ℕ} → m ≡ i + 1 → FirstFrom (λ x. key x ≡ b) n m k → (b ≡ key i → ⊥) → FirstFrom (λ x. key x ≡ b) n i k
  before {i} {m} {b} {k} e F d = record {
    from = omega (arith, F.from);
    own = F.own;
    none = λ x l h p q. go x l h p q (ℕ_discrete x i);
  }
    where
      go : (x : ℕ) → i ≤ x → x < k → x < n → key x ≡ b → Dec (x ≡ i) → ⊥
      go x l h p q (yes z) = d (sym q ∙ ap key z)
      go x l h p q (no z) = F.none x (omega arith) h p q

  pub heads-more : (heads : List ℕ) {i m : ℕ} → length heads ≡ 1021 → m ≡ i + 1 → key i < 1021 → Heads m heads → Heads i (set heads (key i) i)
  heads-more heads {i} long e l H b h =
      at_set (λ k. FirstFrom (λ x. key x ≡ b) n i k) heads (key i) i b (omega arith) (λ q. rw q (here i)) (λ d. before e (H b h) d)

  pub chains-more : (under : List ℕ) {i m v : ℕ} → i < length under → m ≡ i + 1 → FirstFrom (λ x. key x ≡ key i) n m v → Chains m under → Chains i (set under i v)
  chains-more under {i} {m} {v} l e F C j h p =
      at_set (λ k. FirstFrom (λ x. key x ≡ key j) n (j + 1) k) under i v j l (λ q. rw (q, ← e) F) (λ d. C j (omega arith) p)

-- A search along the chain of access i stands at k: none passed is of its variable.
pub record Sought (list : List ℕ) (i k : ℕ) : Type 0 where
  pub from : i + 1 ≤ k
  pub own : k < total list → bucket list k ≡ bucket list i
  pub none : (x : ℕ) → i + 1 ≤ x → x < k → x < total list → Same list (access_at list i).variable x → ⊥

module _ (list : List ℕ) (i : ℕ) where
  pub one-bucket : (x : ℕ) → Same list (access_at list i).variable x → bucket list x ≡ bucket list i
  unfolding bucket
  one-bucket x q = ap (λ (v : ℕ). v % 1021) q

  pub sought-first : {k : ℕ} → FirstFrom (λ x. bucket list x ≡ bucket list i) (total list) (i + 1) k → Sought list i k
  sought-first F = record { from = F.from; own = F.own; none = λ x l m p q. F.none x l m p (one-bucket x q) }

  pub sought-more : {k m : ℕ} → k < total list → (Same list (access_at list i).variable k → ⊥) → Sought list i k
      → FirstFrom (λ x. bucket list x ≡ bucket list k) (total list) (k + 1) m → Sought list i m
  sought-more {k} {m} l d S F = record {
    from = omega (arith, S.from, F.from);
    own = λ h. F.own h ∙ S.own l;
    none = λ x h p u q. go x h p u q (dec_lt x k) (ℕ_discrete x k);
  }
    where
      go : (x : ℕ) → i + 1 ≤ x → x < m → x < total list → Same list (access_at list i).variable x → Dec (x < k) → Dec (x ≡ k) → ⊥
      go x h p u q (yes y) z = S.none x h y u q
      go x h p u q (no y) (yes z) = d (rw z at q)
      go x h p u q (no y) (no z) = F.none x (omega arith) p u (one-bucket x q ∙ sym (S.own l))

  pub sought-found : {k : ℕ} → Same list (access_at list i).variable k → Sought list i k → FirstFrom (Same list (access_at list i).variable) (total list) (i + 1) k
  sought-found q S = record { from = S.from; own = λ l. q; none = S.none }

  pub sought-none : {k : ℕ} → total list ≤ k → total list ≤ 1024 → i < total list → Sought list i k
      → FirstFrom (Same list (access_at list i).variable) (total list) (i + 1) 1024
  sought-none l m h S = record { from = omega arith; own = λ p. absurd (omega arith); none = λ x p u v. S.none x p (omega arith) v }
