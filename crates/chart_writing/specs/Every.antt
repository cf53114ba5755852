-- What holds of every element of a list, and of every element and its place.
-- Assumes nothing.
use Rattle.std.specs.Prelude.{◌≡◌, refl, List, [], ◌∷◌, ◌++◌, ℕ, zero, suc, ◌+◌, ◌<◌, length, get_or}
use Rattle.std.proofs.Common.{sym, subst, ap, append_assoc, add-zero, zero-add, arith}

next : (k n : ℕ) → k + suc n ≡ suc k + n
next k n = omega arith

module _ {A : Type 0} where
  abbrev pub All : (A → Type 0) → List A → Type 0
  All P [] = Unit {0}
  All P (a ∷ l) = P a × All P l

  module _ (P : A → Type 0) where
    pub joined : (l r : List A) → All P l → All P r → All P (l ++ r)
    joined [] r f g = g
    joined (a ∷ l) r f g = (f.0, joined l r f.1 g)

    pub split : (l r : List A) → All P (l ++ r) → All P l × All P r
    split [] r f = (tt, f)
    split (a ∷ l) r f = let s = split l r f.1 in ((f.0, s.0), s.1)

  pub every : (P Q : A → Type 0) → ((a : A) → P a → Q a) → (l : List A) → All P l → All Q l
  every P Q f [] h = tt
  every P Q f (a ∷ l) h = (f a h.0, every P Q f l h.1)

  pub both : (P Q : A → Type 0) (l : List A) → All P l → All Q l → All (λ a. P a × Q a) l
  both P Q [] f g = tt
  both P Q (a ∷ l) f g = ((f.0, g.0), both P Q l f.1 g.1)

  pub data Member (a : A) : List A → Type 0 where
    here : {l : List A} → Member a (a ∷ l)
    there : {b : A} {l : List A} → Member a l → Member a (b ∷ l)

  pub members : (l : List A) → All (λ a. Member a l) l
  members [] = tt
  members (a ∷ l) = (here, every (λ b. Member b l) (λ b. Member b (a ∷ l)) (λ b h. there h) l (members l))

-- What holds of each element and its place, the first being at k.
module _ {A : Type 0} where
  abbrev pub From : (ℕ → A → Type 0) → ℕ → List A → Type 0
  From Q k [] = Unit {0}
  From Q k (a ∷ l) = Q k a × From Q (suc k) l

  module _ (Q : ℕ → A → Type 0) where
    pub from-joined : (k : ℕ) (l r : List A) → From Q k l → From Q (k + length l) r → From Q k (l ++ r)
    from-joined k [] r f g = subst (λ n. From Q n r) (add-zero k) g
    from-joined k (a ∷ l) r f g = (f.0, from-joined (suc k) l r f.1 (subst (λ n. From Q n r) (next k (length l)) g))

    pub from-split : (k : ℕ) (l r : List A) → From Q k (l ++ r) → From Q k l × From Q (k + length l) r
    from-split k [] r f = (tt, subst (λ n. From Q n r) (sym (add-zero k)) f)
    from-split k (a ∷ l) r f =
        let s = from-split (suc k) l r f.1 in
        ((f.0, s.0), subst (λ n. From Q n r) (sym (next k (length l))) s.1)

    pub placed : (P : A → Type 0) → ((x : ℕ) (a : A) → Q x a → P a) → (k : ℕ) (l : List A) → From Q k l → All P l
    placed P f k [] h = tt
    placed P f k (a ∷ l) h = (f k a h.0, placed P f (suc k) l h.1)

  pub from-both : (Q S : ℕ → A → Type 0) (k : ℕ) (l : List A) → From Q k l → From S k l → From (λ x a. Q x a × S x a) k l
  from-both Q S k [] f g = tt
  from-both Q S k (a ∷ l) f g = ((f.0, g.0), from-both Q S (suc k) l f.1 g.1)

  -- each stands where it is looked up, below the end
  abbrev pub Looked : List A → A → ℕ → ℕ → A → Type 0
  Looked l d e x a = (get_or l x d ≡ a) × (x < e)

  looked-from : (d : A) (p l : List A) → From (Looked (p ++ l) d (length p + length l)) (length p) l
  looked-from d p [] = tt
  looked-from d p (a ∷ l) = (
    (at-end p, below (length p) (length l)),
    subst (λ n. From (Looked (p ++ (a ∷ l)) d (length p + suc (length l))) n l) (length-snoc p)
        (subst (λ (w : List A). From (Looked w d (length p + suc (length l))) (length (p ++ (a ∷ []))) l) (append_assoc p (a ∷ []) l)
        (subst (λ e. From (Looked (p ++ (a ∷ []) ++ l) d e) (length (p ++ (a ∷ []))) l) (ends (length (p ++ (a ∷ []))) (length p) (length l) (length-snoc p)) (looked-from d (p ++ (a ∷ [])) l))),
  )
    where
      at-end : (q : List A) → get_or (q ++ (a ∷ l)) (length q) d ≡ a
      at-end [] = refl
      at-end (b ∷ q) = at-end q

      length-snoc : (q : List A) → length (q ++ (a ∷ [])) ≡ suc (length q)
      length-snoc [] = refl
      length-snoc (b ∷ q) = ap suc (length-snoc q)

      below : (x y : ℕ) → x < x + suc y
      below x y = omega arith

      ends : (x y z : ℕ) → x ≡ suc y → x + z ≡ y + suc z
      ends x y z h = omega arith

  pub looked : (d : A) (l : List A) → From (Looked l d (length l)) 0 l
  looked d l = subst (λ e. From (Looked l d e) 0 l) (zero-add (length l)) (looked-from d [] l)

  -- what holds of every element holds at every place
  pub at_place : (P : A → Type 0) (d : A) (l : List A) → All P l → (x : ℕ) → x < length l → P (get_or l x d)
  at_place P d [] h x b = absurd (omega arith)
  at_place P d (a ∷ l) h zero b = h.0
  at_place P d (a ∷ l) h (suc x) b = at_place P d l h.1 x (omega arith)
