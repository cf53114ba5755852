-- Masks that start as the bits of the sources at the nodes to which their edges lead, that passed along edges of the lists, and that are
-- closed along all of them, are what a search finds.
-- Assumes nothing.
use Rattle.std.specs.Prelude.{◌≡◌, refl, List, ℕ, zero, suc, ◌^◌, ◌≤◌, ◌<◌, length, get_or}
use Rattle.std.proofs.Common.{⊎_elim, arith, length-set}
use Rattle.std.specs.Int.Bits.{bit_or}
use Rattle.std.proofs.lemmas.Nat.{or_lt}
use Rattle.lists.specs.Mask.{Has, Sub, Mask, or_cases, or_left}
use Rattle.lists.specs.Store.{at_set}
use Rattle.theory_paths.specs.Path.{Path, last, next}
use Rattle.theory_paths.specs.PathLaws.{append}
use Rattle.theory_paths.specs.Found.{Reached}
use Rattle.search.specs.Sweep.{passed, Carried, start, then, Closed, flag}

pub flag-some : (n : ℕ) → (n ≡ 0 → ⊥) → flag n ≡ 1
unfolding flag
flag-some zero h = absurd (h refl)
flag-some (suc n) h = refl

pub flag-none : (n : ℕ) → n ≡ 0 → flag n ≡ 0
unfolding flag
flag-none zero h = refl
flag-none (suc n) h = absurd (omega arith)

pub flag-le : (n : ℕ) → flag n ≤ 1
unfolding flag
flag-le zero = omega arith
flag-le (suc n) = omega arith

pub flag-mono : (m n : ℕ) → m ≤ n → flag m ≤ flag n
unfolding flag
flag-mono zero n h = omega arith
flag-mono (suc m) zero h = absurd (omega arith)
flag-mono (suc m) (suc n) h = omega arith

-- Of the edges of a graph, L has those from a node with P to one with Q; each node with P to which an edge leads has Q.
pub record Inner (E : ℕ → ℕ → Type 0) (P Q : ℕ → Type 0) (L : ℕ → ℕ → Type 0) : Type 0 where
  pub node : (x y : ℕ) → L x y → y < 192
  pub only : (x y : ℕ) → L x y → E x y × P x × Q x × Q y
  pub all : (x y : ℕ) → P x → Q y → E x y → L x y
  pub pass : (x z : ℕ) → E x z → P z → Q z

-- what each step keeps holds at the end
pub carried : {f : ℕ → ℕ → ℕ} {L : ℕ → ℕ → Type 0} {s t : List ℕ} (J : List ℕ → Type 0)
    → ((s : List ℕ) (x y : ℕ) → J s → L x y → J (passed f s x y)) → J s → Carried f L s t → J t
carried J k j start = j
carried J k j (then {t = t} x y c l) = k t x y (carried J k j c) l

pub carried-long : {f : ℕ → ℕ → ℕ} {L : ℕ → ℕ → Type 0} {s t : List ℕ} → length s ≡ 192 → Carried f L s t → length t ≡ 192
carried-long = carried (λ s. length s ≡ 192) (λ s x y l _. simp length-set l)

-- Each bit of a mask has a path.
pub record Sound (T : ℕ → ℕ → Type 0) (Q : ℕ → Type 0) (k : ℕ) (s : List ℕ) : Type 0 where
  pub long : length s ≡ 192
  pub low : (y : ℕ) → Q y → get_or s y 0 < 2 ^ k
  pub path : (y b : ℕ) → Q y → Has (get_or s y 0) b → b < k → T b y

module _ {E : ℕ → ℕ → Type 0} {P Q : ℕ → Type 0} {L : ℕ → ℕ → Type 0} (inner : Inner E P Q L) (sources : List ℕ) (k : ℕ) where
  abbrev T : ℕ → ℕ → Type 0
  T = Reached E P sources

  sound-step : (s : List ℕ) (x y : ℕ) → Sound T Q k s → L x y → Sound T Q k (passed bit_or s x y)
  sound-step s x y i l =
      let (e, p, qx, q) = inner.only x y l in
      let ys : y < length s = omega (arith, i.long, inner.node x y l) in
      record {
        long = simp length-set i.long;
        low = λ z w. at_set (λ m. m < 2 ^ k) s y _ z ys (λ _. or_lt k _ _ (i.low y q) (i.low x qx)) (λ _. i.low z w);
        path = λ z b w. at_set (λ m. Has m b → b < k → T b z) s y _ z ys
            (λ r h c. rw r (⊎_elim (λ o. i.path y b q o c) (λ o. append (i.path x b qx o c) p (last e)) (or_cases _ _ b h)))
            (λ _. i.path z b w);
      }

  grows-step : (s : List ℕ) → (t : List ℕ) (x y : ℕ) → (length t ≡ 192) × ((z : ℕ) → Sub (get_or s z 0) (get_or t z 0)) → L x y
      → (length (passed bit_or t x y) ≡ 192) × ((z : ℕ) → Sub (get_or s z 0) (get_or (passed bit_or t x y) z 0))
  grows-step s t x y i l =
      let ys : y < length t = omega (arith, i.0, inner.node x y l) in (
        simp length-set i.0,
        λ z. at_set (λ m. Sub (get_or s z 0) m) t y _ z ys (λ r b h. or_left _ _ b (rw r at (i.1 z b h))) (λ _. i.1 z),
      )

  -- What is found: the nodes with Q have the bits of the sources from which a path leads there.
  pub masks-found : {s t : List ℕ} → length s ≡ 192 → ((y : ℕ) → Q y → Mask (λ b. E (get_or sources b 0) y) k (get_or s y 0))
      → Carried bit_or L s t → Closed Sub L t → (y : ℕ) → Q y → Mask (λ b. T b y) k (get_or t y 0)
  masks-found {s} {t} long seeds c shut y q = record {
    small = sound.low y q;
    only = λ b l h. sound.path y b q h l;
    all = λ b l w. all_of b l q w;
  }
    where
      sound : Sound T Q k t
      sound = carried (Sound T Q k) sound-step
          (record { long = long; low = λ y q. (seeds y q).small; path = λ y b q h l. last ((seeds y q).only b l h) }) c

      grows : (z : ℕ) → Sub (get_or s z 0) (get_or t z 0)
      grows = (carried (λ t. (length t ≡ 192) × ((z : ℕ) → Sub (get_or s z 0) (get_or t z 0))) (grows-step s) (long, λ z b h. h) c).1

      along : (b : ℕ) {x z : ℕ} → Has (get_or t x 0) b → P x → Q z → Path E P x z → Has (get_or t z 0) b
      along b {x} {z} h p w (last e) = shut x z (inner.all x z p w e) b h
      along b {x} {z} h p w (next {z = v} e o r) = along b (shut x v (inner.all x v p (inner.pass x v e o) e) b h) o w r

      all_of : (b : ℕ) → b < k → {z : ℕ} → Q z → T b z → Has (get_or t z 0) b
      all_of b l {z} w (last e) = grows z b ((seeds z w).all b l e)
      all_of b l {z} w (next {z = v} e o r) = along b (grows v b ((seeds v (inner.pass (get_or sources b 0) v e o)).all b l e)) o w r
