-- The turns of the loop that sweeps along the rising edges and the falling ones until nothing is new.
-- Assumes nothing.
use mathlib.Core.Path.{◌≡◌}
use mathlib.Core.Logic.{inl, inr, ⊎_elim}
use mathlib.Core.Bool.{Bool}
use mathlib.Core.List.{List}
use Prim.Native.Nat.{ℕ}
use native.Mathlib.Omega.{arith}
use lib.ListN.{length, get_or}
use Rattle.search.specs.Sweep.{Between, Lies, Run, Carried, start, Closed, Lists, Kind}
use Rattle.search.proofs.Runs.{run-swept, run-carried, run-closed, quiet-closed, carried_on}

-- The values t came from s along edges of the lists.
pub record Half (f : ℕ → ℕ → ℕ) (B : ℕ → Type 0) (keys values : List ℕ) (ups low : ℕ) (s t : List ℕ) : Type 0 where
  pub long : length t ≡ 192
  pub bound : (y : ℕ) → B (get_or t y 0)
  pub carried : Carried f (Lies keys values ups low) s t

-- The falling edges are closed, and once nothing is new the rising ones are.
pub record Closing (f : ℕ → ℕ → ℕ) (C : ℕ → ℕ → Type 0) (B : ℕ → Type 0) (keys values : List ℕ) (ups low : ℕ) (s t : List ℕ) (new : ℕ) : Type 0 where
  pub half : Half f B keys values ups low s t
  pub falling : Closed C (Between keys values low 1024) t
  pub rising : new ≡ 0 → Closed C (Between keys values 0 ups) t

module _ {f : ℕ → ℕ → ℕ} {R C : ℕ → ℕ → Type 0} {B : ℕ → Type 0} (K : Kind f R C B)
    {keys values : List ℕ} {ups low : ℕ} {back : Bool} (L : Lists keys values ups low back) where
  rise : {s t u : List ℕ} {n : ℕ} → Half f B keys values ups low s t → Run f keys values 0 ups back t ups u n
      → Half f B keys values ups low s u × Closed C (Between keys values 0 ups) u
  rise h r =
      let w = run-swept K keys values 0 ups back L.key L.value h.long h.bound r in (
        record {
          long = w.long;
          bound = w.bound;
          carried = carried_on h.carried (run-carried K keys values 0 ups back L.key L.value (λ x y. inl) (omega arith) r);
        },
        run-closed K keys values 0 ups back L.key L.value L.rising h.long h.bound r,
      )

  fall : {s t u : List ℕ} {n : ℕ} → Half f B keys values ups low s t → Closed C (Between keys values 0 ups) t
      → Run f keys values low 1024 back t 1024 u n → Closing f C B keys values ups low s u n
  fall h c r =
      let w = run-swept K keys values low 1024 back L.key L.value h.long h.bound r in
      record {
        half = record {
          long = w.long;
          bound = w.bound;
          carried = carried_on h.carried (run-carried K keys values low 1024 back L.key L.value (λ x y. inr) (omega arith) r);
        };
        falling = run-closed K keys values low 1024 back L.key L.value L.falling h.long h.bound r;
        rising = λ e. quiet-closed K w e c;
      }

  -- the first two sweeps
  pub opened : {s t u : List ℕ} {m n : ℕ} → length s ≡ 192 → ((y : ℕ) → B (get_or s y 0))
      → Run f keys values 0 ups back s ups t m → Run f keys values low 1024 back t 1024 u n → Closing f C B keys values ups low s u n
  opened l b r q = let (h, c) = rise (record { long = l; bound = b; carried = start }) r in fall h c q

  -- a turn whose first sweep is quiet
  pub still : {s t u : List ℕ} {m n : ℕ} → Closing f C B keys values ups low s t m → n ≡ 0 → Run f keys values 0 ups back t ups u n → Closing f C B keys values ups low s u n
  still i e r =
      let w = run-swept K keys values 0 ups back L.key L.value i.half.long i.half.bound r in
      let (h, c) = rise i.half r in
      record { half = h; falling = quiet-closed K w e i.falling; rising = λ _. c }

  -- a turn of two sweeps
  pub again : {s t u v : List ℕ} {m n k : ℕ} → Closing f C B keys values ups low s t m → Run f keys values 0 ups back t ups u n
      → Run f keys values low 1024 back u 1024 v k → Closing f C B keys values ups low s v k
  again i r q = let (h, c) = rise i.half r in fall h c q

pub closing-closed : {f : ℕ → ℕ → ℕ} {C : ℕ → ℕ → Type 0} {B : ℕ → Type 0} {keys values : List ℕ} {ups low : ℕ} {s t : List ℕ} {new : ℕ}
    → Closing f C B keys values ups low s t new → new ≡ 0 → Closed C (Lies keys values ups low) t
closing-closed i e x y l = ⊎_elim (i.rising e x y) (i.falling x y) l

pub rebase : {f : ℕ → ℕ → ℕ} {C : ℕ → ℕ → Type 0} {B : ℕ → Type 0} {keys values : List ℕ} {ups low : ℕ} {s t : List ℕ} {new : ℕ}
    → Closing f C B keys values ups low s t new → Closing f C B keys values ups low t t new
rebase i = record { half = record { long = i.half.long; bound = i.half.bound; carried = start }; falling = i.falling; rising = i.rising }
