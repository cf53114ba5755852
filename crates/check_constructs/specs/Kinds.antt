-- Kinds of constructs as bits of a byte: those that stand above a construct, those that may not, and that of its parent.
-- Assumes nothing.
use Rattle.std.specs.Prelude.{◌≡◌, Bool, ◌&&◌, not, List, ℕ, ◌+◌, ◌%◌, ◌^◌, ◌≤◌, ◌<◌, ltb, length, get_or}
use Rattle.lists.specs.Mask.{Mask, mask_of}
use Rattle.lists.specs.Common.{common}
use Rattle.chart.specs.Format.{Construct, construct_at}
use Rattle.chart.specs.Scope.{kind_of, parent_of}
use Rattle.chart.specs.Nested.{is_parallel}
use Rattle.chart.specs.Nesting.{kinds, may_enclose, misplaced}
use Rattle.chart.proofs.Tree.{Below}
use Rattle.chart.proofs.Near.{Near}

-- The byte with the bit of a kind: bit k for kind k. Parallel and no kind share bit 0: neither stands above anything in its region.
abbrev pub bit_of : ℕ → ℕ
bit_of kind = 2 ^ (kind % 8)

-- k is p or stands above it, in one region.
abbrev pub NearIn : List Construct → ℕ → ℕ → Type 0
NearIn cs = Near (parent_of cs) (is_parallel cs)

-- The byte has the kinds of p and of what stands above it, in one region: of all that stands above a child of p.
abbrev pub KindsFrom : List Construct → ℕ → ℕ → Type 0
KindsFrom cs p = Mask (λ kind. (k : ℕ) × (NearIn cs p k × ((construct_at cs k).kind ≡ kind))) 8

-- The byte has the kind of p.
abbrev pub KindAt : List Construct → ℕ → ℕ → Type 0
KindAt cs p byte = byte ≡ bit_of (construct_at cs p).kind

-- A byte for each of the first c constructs, and one for none, which is 255 and has the last place.
pub record NotedTo (Byte : ℕ → ℕ → Type 0) (c : ℕ) (table : List ℕ) : Type 0 where
  pub long : length table ≡ 64
  pub at : (p : ℕ) → Below c p → Byte p (get_or table (p % 64) 0)

-- A construct of the kind `above` may not stand above one of the kind `kind`, whatever their names.
unfoldable pub barred_by : ℕ → ℕ → Bool
barred_by kind above = ltb 0 above && not (may_enclose (kind_of kind) (kind_of above))

-- For each kind, counted from 0, the kinds that may not stand above it.
pub record BarredTable (table : List ℕ) : Type 0 where
  pub long : length table ≡ kinds
  pub entry : (kind : ℕ) → kind < kinds → get_or table kind 0 ≡ mask_of (barred_by (kind + 1)) 8

-- For each kind, counted from 0, the kinds that may not be its parent's.
pub record PlaceTable (table : List ℕ) : Type 0 where
  pub long : length table ≡ kinds
  pub entry : (kind above : ℕ) → kind < kinds → above ≤ kinds → common (bit_of above) (get_or table kind 0) ≡ misplaced (kind + 1) above
