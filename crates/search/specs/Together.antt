-- Starts, levels and ends that are swept together, each by a run of its own: starts s and levels d along the edges, ends t against them.
-- Assumes nothing.
use Rattle.std.specs.Prelude.{◌≡◌, true, false, List, ℕ, ◌≤◌, ◌<◌, get_or, length}
use Rattle.std.specs.Int.Bits.{bit_or}
use Rattle.lists.specs.Mask.{Sub}
use Rattle.search.specs.Sweep.{Lies, Run, Carried, Closed}
use Rattle.search.specs.LevelLaws.{nearer}

-- What has P of some number, which is 0 where `new` is.
pub record Quietly (P : ℕ → Type 0) (new : ℕ) : Type 0 where
  pub own : ℕ
  pub is : P own
  pub quiet : new ≡ 0 → own ≡ 0

-- The turns from a up to j of three sweeps, which tell `new`.
pub record Together (keys values : List ℕ) (a b : ℕ) (s d t : List ℕ) (j : ℕ) (s' d' t' : List ℕ) (new : ℕ) : Type 0 where
  pub starts : Quietly (Run bit_or keys values a b false s j s') new
  pub levels : Quietly (Run nearer keys values a b false d j d') new
  pub ends : Quietly (Run bit_or values keys a b true t j t') new

-- Tables that can be swept: as long as in the code, and their values in bounds.
pub record Lent (s d t : List ℕ) : Type 0 where
  pub starts : length s ≡ 192
  pub levels : length d ≡ 192
  pub ends : length t ≡ 192
  pub starts_fit : (y : ℕ) → get_or s y 0 < 18446744073709551616
  pub levels-fit : (y : ℕ) → get_or d y 0 ≤ 254
  pub ends-fit : (y : ℕ) → get_or t y 0 < 18446744073709551616

-- Masks that passed along edges until they are closed along all of them.
abbrev pub Shut : List ℕ → List ℕ → ℕ → ℕ → List ℕ → List ℕ → Type 0
Shut keys values ups low s s' = Carried bit_or (Lies keys values ups low) s s' × Closed Sub (Lies keys values ups low) s'
