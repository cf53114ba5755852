-- The walk of a row: its start, an access visited, and its end.
-- Assumes nothing.
use mathlib.Core.Path.{◌≡◌, refl, sym, ◌∙◌}
use mathlib.Core.Bool.{◌&&◌, ◌||◌, not, cond}
use mathlib.Core.List.{List}
use Prim.Native.Nat.{ℕ, ◌+◌, ◌-◌, ◌≤◌, ◌<◌}
use native.Mathlib.Omega.{arith}
use native.Mathlib.Decide.{ℕ_discrete, dec_lt}
use lib.Dec.{eqb}
use lib.ListN.{length, get_or, set, length-set}
use lib.Seq.{get_or-set_same}
use borrow.Author.Tests.{eq-eqb, ne_eqb}
use Rattle.lists.specs.Store.{at_set}
use Rattle.lists.specs.Tab.{tab}
use Rattle.theory_calls.specs.Access.{total, access_at}
use Rattle.theory_calls.specs.Races.{harmless}
use Rattle.answer_races.specs.declared.same_variable.NextTwo.{NextTwo}
use Rattle.answer_races.specs.Linked.{FirstFrom, Beside, Linked, link_at}
use Rattle.answer_races.specs.declared.rows.Line.{Line}
use Rattle.answer_races.specs.Bytes.{line_race, by_line}
use Rattle.answer_races.specs.Walked.{Walked}
use Rattle.answer_races.proofs.Filled.{filled-tab}

module _ {P : ℕ → Type 0} {f : ℕ → ℕ} {n i m k : ℕ} {out : List ℕ} (skip : (x : ℕ) → (P (i + x) → ⊥) → f x ≡ 0) (from : i ≤ m) (w : Walked f n i m out) (F : FirstFrom P n m k) where
  -- an access passed over
  past : (x : ℕ) → i + x < k → i + x < n → Dec (i + x < m) → get_or out x 0 ≡ f x
  past x l h (yes p) = w.done x p h
  past x l h (no p) = w.rest x (omega arith) ∙ sym (skip x (λ q. F.none (i + x) (omega arith) l h q))

  pub walk-visit : (v : ℕ) → k < n → length out ≡ n - i → v ≡ f (k - i) → Walked f n i (k + 1) (set out (k - i) v)
  walk-visit v l long e =
      let here : k - i < length out = omega (arith, F.from) in record {
        done = λ x h p. at_set (λ b. b ≡ f x) out (k - i) v x here (λ q. rw q e) (λ d. past x (omega (arith, F.from)) p (dec_lt (i + x) m));
        rest = λ x h. at_set (λ b. b ≡ 0) out (k - i) v x here (λ q. absurd (omega (arith, F.from))) (λ d. w.rest x (omega (arith, F.from)));
      }

  pub walk_end : n ≤ k → length out ≡ n - i → out ≡ tab (n - i) f
  walk_end l long = filled-tab f (n - i) out long (λ x h. past x (omega arith) (omega arith) (dec_lt (i + x) m))

-- the byte of two accesses that may race is that of their nodes, and of two others it is 0
module _ (line : Line) (list : List ℕ) (i j : ℕ) where
  pub byte-beside : Beside list (access_at list i).write (access_at list i).variable j → by_line line (access_at list i) (access_at list j) ≡ line_race line (access_at list j).node
  unfolding by_line harmless
  byte-beside (v, w) = rw (eq-eqb _ _ (sym v)) (go (ℕ_discrete (access_at list i).write 0) (ℕ_discrete (access_at list j).write 0))
    where
      go : Dec ((access_at list i).write ≡ 0) → Dec ((access_at list j).write ≡ 0)
          → cond (eqb (access_at list i).write 0 && eqb (access_at list j).write 0) 0 (line_race line (access_at list j).node) ≡ line_race line (access_at list j).node
      go (no p) d = rw (ne_eqb _ _ p)
      go (yes p) (no q) = rw (eq-eqb _ _ p, ne_eqb _ _ q)
      go (yes p) (yes q) = absurd (omega arith)

  pub byte-here : (v : ℕ) → i ≤ j → Beside list (access_at list i).write (access_at list i).variable j → v ≡ line_race line (access_at list j).node
      → v ≡ by_line line (access_at list i) (access_at list (i + (j - i)))
  byte-here v l b e = let q : i + (j - i) ≡ j = omega arith in rw q (e ∙ sym (byte-beside b))

  pub byte-other : (Beside list (access_at list i).write (access_at list i).variable j → ⊥) → by_line line (access_at list i) (access_at list j) ≡ 0
  unfolding by_line harmless
  byte-other d = go (ℕ_discrete (access_at list i).variable (access_at list j).variable)
    where
      reads : ((access_at list i).variable ≡ (access_at list j).variable) → ((access_at list i).write ≡ 0) × ((access_at list j).write ≡ 0)
      reads v = elim (dec_lt 0 ((access_at list i).write + (access_at list j).write)) [ yes h ↦ absurd (d (sym v, h)) | no h ↦ (omega arith, omega arith) ]

      go : Dec ((access_at list i).variable ≡ (access_at list j).variable)
          → cond (not (eqb (access_at list i).variable (access_at list j).variable) || (eqb (access_at list i).write 0 && eqb (access_at list j).write 0)) 0 (line_race line (access_at list j).node) ≡ 0
      go (no v) = rw (ne_eqb _ _ v)
      go (yes v) = let (p, q) = reads v in rw (eq-eqb _ _ v, eq-eqb _ _ p, eq-eqb _ _ q)

-- the byte of access i with the one at place x of its row
abbrev pub bytes : List ℕ → ℕ → Line → ℕ → ℕ
bytes list i line x = by_line line (access_at list i) (access_at list (i + x))

-- The walk of row i stands at access j, whose first link is k.
pub record Walking (list : List ℕ) (i : ℕ) (links : List NextTwo) (line : Line) (j k size : ℕ) (out : List ℕ) : Type 0 where
  pub long : length out ≡ size
  pub from : i ≤ j
  pub below : j < total list
  pub same : (access_at list j).variable ≡ (access_at list i).variable
  pub link : k ≡ (link_at links j).first
  pub walked : Walked (bytes list i line) (total list) i (j + 1) out

module _ (list : List ℕ) (line : Line) (i : ℕ) {j k : ℕ} {out : List ℕ} (from : i ≤ j) (long : length out ≡ total list - i)
    (F : FirstFrom (Beside list (access_at list i).write (access_at list i).variable) (total list) j k) (w : Walked (bytes list i line) (total list) i j out) where
  pub visit : {v : ℕ} → k < total list → v ≡ line_race line (access_at list k).node → Walked (bytes list i line) (total list) i (k + 1) (set out (k - i) v)
  visit h e = walk-visit (λ x d. byte-other line list i (i + x) d) from w F _ h long (byte-here line list i k _ (omega (arith, F.from)) (F.own h) e)

  pub visits-end : total list ≤ k → out ≡ tab (total list - i) (bytes list i line)
  visits-end h = walk_end (λ x d. byte-other line list i (i + x) d) from w F h long

module _ {list : List ℕ} {line : Line} {links : List NextTwo} {i j k size : ℕ} {out : List ℕ} (L : Linked list (access_at list i).write 0 links) (full : i + size ≡ total list)
    (W : Walking list i links line j k size out) where
  -- the link leads on
  pub next-beside : FirstFrom (Beside list (access_at list i).write (access_at list i).variable) (total list) (j + 1) k
  next-beside = rw (W.link, ← W.same) (L.next j (omega arith) W.below)

  -- and so does the second one
  pub second-beside : {l : ℕ} → k < total list → l ≡ (link_at links j).second → FirstFrom (Beside list (access_at list i).write (access_at list i).variable) (total list) (k + 1) l
  second-beside h q = rw (q, W.link, ← W.same) (L.second j (omega arith) W.below (rw W.link at h))

  pub walking-visit : {v : ℕ} → k < total list → v ≡ line_race line (access_at list k).node → Walked (bytes list i line) (total list) i (k + 1) (set out (k - i) v)
  walking-visit h e = visit list line i (omega (arith, W.from)) (omega (arith, W.long)) next-beside W.walked h e

  pub walking-end : total list ≤ k → out ≡ tab size (bytes list i line)
  walking-end h = rw (sym size-is) (visits-end list line i (omega (arith, W.from)) (omega (arith, W.long)) next-beside W.walked h)
    where
      size-is : total list - i ≡ size
      size-is = omega arith

  pub visited-end : {l v : ℕ} → k < total list → v ≡ line_race line (access_at list k).node → l ≡ (link_at links j).second → total list ≤ l
      → set out (k - i) v ≡ tab size (bytes list i line)
  visited-end {l} {v} h e q m =
      rw (sym size-is) (visits-end list line i (omega (arith, W.from, next-beside.from)) (length-set out (k - i) v ∙ omega (arith, W.long)) (second-beside h q) (walking-visit h e) m)
    where
      size-is : total list - i ≡ size
      size-is = omega arith

  pub walking-on : {l o u v : ℕ} → k < total list → v ≡ line_race line (access_at list k).node → l ≡ (link_at links j).second → l < total list
      → u ≡ line_race line (access_at list l).node → o ≡ (link_at links l).first → Walking list i links line l o size (set (set out (k - i) v) (l - i) u)
  walking-on {l} {o} {u} {v} h e q m d r = record {
    long = length-set _ _ _ ∙ length-set out (k - i) v ∙ W.long;
    from = omega (arith, W.from, next-beside.from, (second-beside h q).from);
    below = m;
    same = ((second-beside h q).own m).0;
    link = r;
    walked = visit list line i (omega (arith, W.from, next-beside.from)) (length-set out (k - i) v ∙ omega (arith, W.long)) (second-beside h q) (walking-visit h e) m d;
  }

-- a row that was cleared, but for its own byte if it is that of a write
module _ (line : Line) (list : List ℕ) (n i : ℕ) (out : List ℕ) (zero : (x : ℕ) → get_or out x 0 ≡ 0) where
  own-place : i + 0 ≡ i
  own-place = omega arith

  pub walk-read : (access_at list i).write ≡ 0 → Walked (bytes list i line) n i (i + 1) out
  walk-read e = record {
    done = λ x l m. let q : x ≡ 0 = omega arith in zero x ∙ sym (rw (q, own-place) (byte-other line list i i (λ b. omega (arith, b.1))));
    rest = λ x l. zero x;
  }

  pub walk-write : (v : ℕ) → 0 < length out → (access_at list i).write ≡ 1 → v ≡ line_race line (access_at list i).node → Walked (bytes list i line) n i (i + 1) (set out 0 v)
  walk-write v some w e = record {
    done = λ x l m. let q : x ≡ 0 = omega arith in rw (q, own-place, get_or-set_same out 0 v 0 some) (e ∙ sym (byte-beside line list i i (refl, omega arith)));
    rest = λ x l. at_set (λ b. b ≡ 0) out 0 v x some (λ q. absurd (omega arith)) (λ d. zero x);
  }
