-- Three sweeps side by side: one turn more, and what they keep; and the loop of such sweeps along the rising edges and the falling ones.
-- Assumes nothing.
use mathlib.Core.Path.{◌≡◌, refl}
use mathlib.Core.Bool.{Bool, true, false}
use mathlib.Core.List.{List}
use Prim.Native.Nat.{ℕ, ◌+◌, ◌≤◌, ◌<◌}
use lib.Bits.{bit_or, or_zero_l}
use lib.ListN.{length, get_or}
use Rattle.lists.specs.Mask.{Sub}
use Rattle.search.specs.Sweep.{Lies, Lists, place, Step, Run, none, Carried, Kind}
use Rattle.search.specs.LevelLaws.{nearer, Follows}
use Rattle.search.specs.Together.{Quietly, Together, Lent, Shut}
use Rattle.search.proofs.Runs.{masks-kind, levels-kind, or-none, run-swept, run-from, more-at, place-false, carried_on}
use Rattle.search.proofs.Turns.{Closing, opened, still, again, closing-closed, rebase}

pub begun : {keys values : List ℕ} {a b : ℕ} {s d t : List ℕ} → Together keys values a b s d t a s d t 0
begun = record {
  starts = record { own = 0; is = none; quiet = λ e. refl };
  levels = record { own = 0; is = none; quiet = λ e. refl };
  ends = record { own = 0; is = none; quiet = λ e. refl };
}

pub from : {keys values : List ℕ} {a b : ℕ} {s d t : List ℕ} {j : ℕ} {s' d' t' : List ℕ} {new : ℕ} → Together keys values a b s d t j s' d' t' new → a ≤ j
from w = run-from w.starts.is

-- what the three bring is new where one of them brings it
none_or : (a b : ℕ) → a ≡ 0 → b ≡ 0 → bit_or a b ≡ 0
none_or a b e f = rw (e, f) (or_zero_l 0)

three : (m p q r : ℕ) → bit_or (bit_or (bit_or m p) q) r ≡ 0 → (m ≡ 0) × (p ≡ 0) × (q ≡ 0) × (r ≡ 0)
three m p q r e =
    let (f, z) = or-none (bit_or (bit_or m p) q) r e in
    let (g, y) = or-none (bit_or m p) q f in
    let (h, x) = or-none m p g in
    (h, x, y, z)

pub turned : {keys values : List ℕ} {a b : ℕ} {s d t : List ℕ} {j : ℕ} {s₁ d₁ t₁ : List ℕ} {new : ℕ} (at : ℕ) → at ≡ place a b true j
    → Together keys values a b s d t j s₁ d₁ t₁ new
    → {s₂ d₂ t₂ : List ℕ} {p q r : ℕ}
    → Step bit_or (get_or keys j 0) (get_or values j 0) s₁ s₂ p → Step nearer (get_or keys j 0) (get_or values j 0) d₁ d₂ q
    → Step bit_or (get_or values at 0) (get_or keys at 0) t₁ t₂ r
    → Together keys values a b s d t (j + 1) s₂ d₂ t₂ (bit_or (bit_or (bit_or new p) q) r)
turned {a = a} {b} {j = j} {new = new} at e w {p = p} {q} {r} x y z = record {
  starts = record { own = bit_or w.starts.own p; is = more-at j (place-false a b j false refl) w.starts.is x; quiet = λ o. let (m, f, g, h) = three new p q r o in none_or _ _ (w.starts.quiet m) f };
  levels = record { own = bit_or w.levels.own q; is = more-at j (place-false a b j false refl) w.levels.is y; quiet = λ o. let (m, f, g, h) = three new p q r o in none_or _ _ (w.levels.quiet m) g };
  ends = record { own = bit_or w.ends.own r; is = more-at at e w.ends.is z; quiet = λ o. let (m, f, g, h) = three new p q r o in none_or _ _ (w.ends.quiet m) h };
}

module _ {keys values : List ℕ} (kn : (j : ℕ) → get_or keys j 0 < 192) (vn : (j : ℕ) → get_or values j 0 < 192) where
  pub together-lent : {a b : ℕ} {s d t : List ℕ} {j : ℕ} {s' d' t' : List ℕ} {new : ℕ} → Lent s d t → Together keys values a b s d t j s' d' t' new
      → Lent s' d' t'
  together-lent l w =
      let x = run-swept masks-kind _ _ _ _ _ kn vn l.starts l.starts_fit w.starts.is in
      let y = run-swept levels-kind _ _ _ _ _ kn vn l.levels l.levels-fit w.levels.is in
      let z = run-swept masks-kind _ _ _ _ _ vn kn l.ends l.ends-fit w.ends.is in
      record { starts = x.long; levels = y.long; ends = z.long; starts_fit = x.bound; levels-fit = y.bound; ends-fit = z.bound }

-- the turns of one of the three
module _ {f : ℕ → ℕ → ℕ} {R C : ℕ → ℕ → Type 0} {B : ℕ → Type 0} (K : Kind f R C B)
    {keys values : List ℕ} {ups low : ℕ} {back : Bool} (L : Lists keys values ups low back) where
  one-opened : {s t u : List ℕ} {m n : ℕ} → length s ≡ 192 → ((y : ℕ) → B (get_or s y 0)) → Quietly (Run f keys values 0 ups back s ups t) m
      → Quietly (Run f keys values low 1024 back t 1024 u) n → Quietly (Closing f C B keys values ups low s u) n
  one-opened l b r q = record { own = q.own; is = opened K L l b r.is q.is; quiet = q.quiet }

  one-still : {s t u : List ℕ} {m n : ℕ} → n ≡ 0 → Quietly (Closing f C B keys values ups low s t) m
      → Quietly (Run f keys values 0 ups back t ups u) n → Quietly (Closing f C B keys values ups low s u) n
  one-still e i r = record { own = r.own; is = still K L i.is (r.quiet e) r.is; quiet = r.quiet }

  one_again : {s t u v : List ℕ} {m n k : ℕ} → Quietly (Closing f C B keys values ups low s t) m → Quietly (Run f keys values 0 ups back t ups u) n
      → Quietly (Run f keys values low 1024 back u 1024 v) k → Quietly (Closing f C B keys values ups low s v) k
  one_again i r q = record { own = q.own; is = again K L i.is r.is q.is; quiet = q.quiet }

-- Three tables came from others along edges of the lists. The falling edges are closed in each, and once nothing is new the rising ones are.
pub record Nearing (keys values : List ℕ) (ups low : ℕ) (s d t s' d' t' : List ℕ) (new : ℕ) : Type 0 where
  pub starts : Quietly (Closing bit_or Sub (λ m. m < 18446744073709551616) keys values ups low s s') new
  pub levels : Quietly (Closing nearer Follows (λ n. n ≤ 254) keys values ups low d d') new
  pub ends : Quietly (Closing bit_or Sub (λ m. m < 18446744073709551616) values keys ups low t t') new

module _ {keys values : List ℕ} {ups low : ℕ} (L : Lists keys values ups low false) (M : Lists values keys ups low true) where
  pub all-opened : {s d t s₁ d₁ t₁ s₂ d₂ t₂ : List ℕ} {m n : ℕ} → Lent s d t → Together keys values 0 ups s d t ups s₁ d₁ t₁ m
      → Together keys values low 1024 s₁ d₁ t₁ 1024 s₂ d₂ t₂ n → Nearing keys values ups low s d t s₂ d₂ t₂ n
  all-opened l r q = record {
    starts = one-opened masks-kind L l.starts l.starts_fit r.starts q.starts;
    levels = one-opened levels-kind L l.levels l.levels-fit r.levels q.levels;
    ends = one-opened masks-kind M l.ends l.ends-fit r.ends q.ends;
  }

  pub all-still : {s d t s₁ d₁ t₁ s₂ d₂ t₂ : List ℕ} {m n : ℕ} → n ≡ 0 → Nearing keys values ups low s d t s₁ d₁ t₁ m
      → Together keys values 0 ups s₁ d₁ t₁ ups s₂ d₂ t₂ n → Nearing keys values ups low s d t s₂ d₂ t₂ n
  all-still e i r = record {
    starts = one-still masks-kind L e i.starts r.starts;
    levels = one-still levels-kind L e i.levels r.levels;
    ends = one-still masks-kind M e i.ends r.ends;
  }

  pub all-again : {s d t s₁ d₁ t₁ s₂ d₂ t₂ s₃ d₃ t₃ : List ℕ} {m n k : ℕ} → Nearing keys values ups low s d t s₁ d₁ t₁ m
      → Together keys values 0 ups s₁ d₁ t₁ ups s₂ d₂ t₂ n → Together keys values low 1024 s₂ d₂ t₂ 1024 s₃ d₃ t₃ k
      → Nearing keys values ups low s d t s₃ d₃ t₃ k
  all-again i r q = record {
    starts = one_again masks-kind L i.starts r.starts q.starts;
    levels = one_again levels-kind L i.levels r.levels q.levels;
    ends = one_again masks-kind M i.ends r.ends q.ends;
  }

pub nearing-lent : {keys values : List ℕ} {ups low : ℕ} {s d t s' d' t' : List ℕ} {new : ℕ} → Nearing keys values ups low s d t s' d' t' new → Lent s' d' t'
nearing-lent i = record {
  starts = i.starts.is.half.long;
  levels = i.levels.is.half.long;
  ends = i.ends.is.half.long;
  starts_fit = i.starts.is.half.bound;
  levels-fit = i.levels.is.half.bound;
  ends-fit = i.ends.is.half.bound;
}

one-rebased : {f : ℕ → ℕ → ℕ} {C : ℕ → ℕ → Type 0} {B : ℕ → Type 0} {keys values : List ℕ} {ups low : ℕ} {s t : List ℕ} {new : ℕ}
    → Quietly (Closing f C B keys values ups low s t) new → Quietly (Closing f C B keys values ups low t t) new
one-rebased i = record { own = i.own; is = rebase i.is; quiet = i.quiet }

pub all-rebased : {keys values : List ℕ} {ups low : ℕ} {s d t s' d' t' : List ℕ} {new : ℕ} → Nearing keys values ups low s d t s' d' t' new
    → Nearing keys values ups low s' d' t' s' d' t' new
all-rebased i = record { starts = one-rebased i.starts; levels = one-rebased i.levels; ends = one-rebased i.ends }

-- masks that were brought near and then closed are shut, and so are those in which nothing is new
pub one-shut : {keys values : List ℕ} {ups low : ℕ} {s t u : List ℕ} {new : ℕ}
    → Quietly (Closing bit_or Sub (λ m. m < 18446744073709551616) keys values ups low s t) new → new ≡ 0
    → Carried bit_or (Lies keys values ups low) u s → Shut keys values ups low u t
one-shut i e c = (carried_on c i.is.half.carried, closing-closed i.is (i.quiet e))
