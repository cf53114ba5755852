-- One cell stored: its node's record, then its edges'.
-- Assumes nothing.
use mathlib.Core.Path.{◌≡◌}
use mathlib.Core.List.{List, [], ◌∷◌, ◌++◌, map, append-nil}
use Prim.Native.Nat.{ℕ, ◌+◌, ◌*◌, ◌≤◌}
use native.Mathlib.Omega.{arith}
use lib.ListN.{length, take}
use Rattle.chart_writing.specs.Bytes.{field_bytes}
use Rattle.chart_writing.specs.Encode.{edge_record, flat}
use Rattle.theory_listing.specs.Tree.{Sort, cell}
use Rattle.theory_listing.specs.Meaning.{kind_byte, edge, edges_of}
use Rattle.call_listing.specs.Stored.{Stored}

module _ (k : ℕ) (sort : Sort) (kind number lies : ℕ) (q : kind_byte sort ≡ kind) (e e' : ℕ) (N E N' E' : List ℕ) where
  pub stored-cell : (to : List ℕ) → take (4 * (k + 1)) N' ≡ take (4 * k) N ++ (kind ∷ (number ∷ field_bytes 0 []))
      → take (2 * e') E' ≡ take (2 * e) E ++ flat edge_record (map (edge k) to) → e' ≡ e + length (map (edge k) to) → e' ≤ e + 2
      → Stored (cell k sort number lies to ∷ []) k (k + 1) e e' N E N' E'
  unfolding flat edges_of
  stored-cell to n d c f =
      let last = append-nil (map (edge k) to) in
      record { node-bytes = rw q n; edge-bytes = rw last d; edge_count = rw last c; edges_few = omega (arith, f) }
