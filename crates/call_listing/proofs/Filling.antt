-- The records of an item, from those of its parts.
-- Assumes nothing.
use mathlib.Core.Path.{◌≡◌, refl, sym}
use mathlib.Core.Bool.{Bool, true, false, cond}
use mathlib.Core.List.{List, [], ◌∷◌, ◌++◌, append-nil}
use Prim.Native.Nat.{ℕ, suc, ◌+◌, ◌*◌}
use native.Mathlib.Omega.{arith}
use native.Mathlib.Nat.{add-zero}
use native.Mathlib.Numerals.{add-one}
use lib.ListN.{take}
use Rattle.chart_writing.specs.Bytes.{field_bytes}
use Rattle.chart_writing.specs.Encode.{flat}
use Rattle.theory_listing.specs.Tree.{Block, end, plain, barrier, loop, branch, around, node_count, construct_count, first, simple, stop, opens, Cell, cell, two, cells, constructs}
use Rattle.theory_listing.specs.Grammar.{Item, one_plain, one-barrier, one-loop, one-branch, one-around, put}
use Rattle.theory_listing.proofs.Flow.{two-same}
use Rattle.call_listing.specs.Stored.{Stored, StoredParts}
use Rattle.call_listing.specs.declared.tables.Spot.{Spot}
use Rattle.call_listing.specs.Reads.{Filled, end_cells}
use Rattle.call_listing.proofs.Joining.{stored-joined, parts-joined, parts_none}

-- a block leads to itself, where the node after it follows
first-self : (b : Block) (k : ℕ) → first b k (k + node_count b) ≡ k
unfolding first node_count
first-self end k = add-zero k
first-self (plain r) k = refl
first-self (barrier r) k = refl
first-self (loop b r) k = refl
first-self (branch a b r) k = refl
first-self (around c b r) k = refl

module _ (spot : Spot) where
  abbrev o : ℕ
  o = spot.owner

  abbrev m : ℕ
  m = spot.part

  abbrev k : ℕ
  k = spot.node

  abbrev t : ℕ
  t = spot.follow

  abbrev e : ℕ
  e = spot.edge

  pub plain-filled : (i : Item) {e' : ℕ} {N E N' E' : List ℕ} (C : List ℕ) → i ≡ one_plain → Stored (cell k simple o o (two t t) ∷ []) k (k + 1) e e' N E N' E'
      → Filled (put i end) spot e' N E C N' E' C
  unfolding put cells node_count constructs construct_count first
  plain-filled i C is h = rw is (rw (two-same t) at h, parts_none m (m + 0) C (sym (add-zero m)))

  pub barrier-filled : (i : Item) {e' : ℕ} {N E N' E' : List ℕ} (C : List ℕ) → i ≡ one-barrier → Stored (cell k stop o o (two t t) ∷ []) k (k + 1) e e' N E N' E'
      → Filled (put i end) spot e' N E C N' E' C
  unfolding put cells node_count constructs construct_count first
  barrier-filled i C is h = rw is (rw (two-same t) at h, parts_none m (m + 0) C (sym (add-zero m)))

  pub loop-filled : (i : Item) (b : Block) (x : ℕ) (C C2 : List ℕ) {e1 e2 : ℕ} {N E N1 E1 N2 E2 : List ℕ} → i ≡ one-loop b → x ≡ first b (k + 1) k
      → Stored (cell k simple o o (two x t) ∷ []) k (k + 1) e e1 N E N1 E1
      → Stored (cells b o m (k + 1) k) (k + 1) (k + 1 + node_count b) e1 e2 N1 E1 N2 E2
      → StoredParts (constructs b o m) m (m + construct_count b) C C2
      → Filled (put i end) spot e2 N E C N2 E2 C2
  unfolding put cells node_count constructs construct_count first
  loop-filled i b x C C2 is q h g p =
      let n : k + suc (node_count b + 0) ≡ suc k + node_count b = omega arith in
      let both = stored-joined (cell k simple o o (two x t) ∷ []) (cells b o m (k + 1) k) h g in rw is (
        rw (n, append-nil (cells b o m (suc k) k)) (rw (add-one k) at (rw q at both)),
        rw (append-nil (constructs b o m), add-zero (construct_count b)) p,
      )

  pub branch-filled : (i : Item) (a b : Block) (x y l j c : ℕ) (C C1 C2 : List ℕ) {e0 e1 e2 e3 : ℕ} {N E N0 E0 N1 E1 N2 E2 N3 E3 : List ℕ}
      → i ≡ one-branch a b → x ≡ first a (k + 1) j → y ≡ first b l j → l ≡ k + 1 + node_count a → j ≡ l + node_count b → c ≡ construct_count a
      → Stored (cell k simple o o (two x y) ∷ []) k (k + 1) e e0 N E N0 E0
      → Stored (cells a o m (k + 1) j) (k + 1) (k + 1 + node_count a) e0 e1 N0 E0 N1 E1
      → StoredParts (constructs a o m) m (m + construct_count a) C C1
      → Stored (cells b o (m + c) l j) l (l + node_count b) e1 e2 N1 E1 N2 E2
      → StoredParts (constructs b o (m + c)) (m + c) (m + c + construct_count b) C1 C2
      → Stored (cell j simple o o (two t t) ∷ []) j (j + 1) e2 e3 N2 E2 N3 E3
      → Filled (put i end) spot e3 N E C N3 E3 C2
  unfolding put cells node_count constructs construct_count first
  branch-filled i a b x y l j c C C1 C2 is qx qy ql qj qc h0 h1 p1 h2 p2 h3 =
      let to-l : l ≡ suc k + node_count a = omega (arith, ql) in
      let to_j : j ≡ suc k + node_count a + node_count b = omega (arith, ql, qj) in
      let last : k + suc (node_count a + (node_count b + suc 0)) ≡ j + 1 = omega (arith, to_j) in
      let second : k + 1 + node_count a ≡ l = omega (arith, ql) in
      let third : l + node_count b ≡ j = omega (arith, qj) in
      let tail = stored-joined (cells b o (m + c) l j) (cell j simple o o (t ∷ []) ∷ []) (rw third at h2) (rw (two-same t) at h3) in
      let rest = stored-joined (cells a o m (k + 1) j) (cells b o (m + c) l j ++ (cell j simple o o (t ∷ []) ∷ [])) (rw second at h1) tail in
      let all = stored-joined (cell k simple o o (two x y) ∷ []) (cells a o m (k + 1) j ++ (cells b o (m + c) l j ++ (cell j simple o o (t ∷ []) ∷ []))) h0 rest in
      let parts = parts-joined (constructs a o m) (constructs b o (m + c)) m (m + c) (m + c + construct_count b) C C1 C2 (rw (sym qc) at p1) p2 in
      let count : m + (construct_count a + (construct_count b + 0)) ≡ m + construct_count a + construct_count b = omega arith in rw is (
        rw last
            (rw (sym qc, sym to_j, sym to-l, sym (add-one k), sym qx, sym qy) all),
        rw (append-nil (constructs b o (m + construct_count a)), count) (rw qc at parts),
      )

  -- number is m, as a byte
  pub construct-filled : (i : Item) (kind byte : ℕ) (w : Bool) (b : Block) (number j n : ℕ) (C C0 C1 : List ℕ) {e0 e1 e2 : ℕ} {N E N0 E0 N1 E1 N2 E2 : List ℕ}
      → i ≡ one-around kind w b → byte ≡ kind → number ≡ m → j ≡ k + 1 + node_count b → k + n ≡ j + 1 + cond w 1 0
      → take (4 * (m + 1)) C0 ≡ take (4 * m) C ++ (byte ∷ (o ∷ field_bytes 0 []))
      → Stored (cell k opens number o (two (k + 1) (k + 1)) ∷ []) k (k + 1) e e0 N E N0 E0
      → Stored (cells b number (m + 1) (k + 1) j) (k + 1) (k + 1 + node_count b) e0 e1 N0 E0 N1 E1
      → StoredParts (constructs b number (m + 1)) (m + 1) (m + 1 + construct_count b) C0 C1
      → Stored (end_cells w o m j t) j (k + n) e1 e2 N1 E1 N2 E2
      → Filled (put i end) spot e2 N E C N2 E2 C1
  unfolding put cells node_count constructs construct_count first flat
  construct-filled i kind byte w b number j n C C0 C1 {e0} {e1} {e2} {N} {E} {N0} {E0} {N1} {E1} {N2} {E2} is qb qm qj qn p0 h0 h1 p1 h2 =
      rw is (go w qn h2)
    where
      begin : Cell
      begin = cell k opens m o (suc k ∷ [])

      made : (w : Bool) → Stored (end_cells w o m j t) j (k + n) e1 e2 N1 E1 N2 E2
          → Stored ((begin ∷ []) ++ (cells b m (suc m) (suc k) (suc k + node_count b) ++ end_cells w o m (suc k + node_count b) t)) k (k + n) e e2 N E N2 E2
      made w h2 =
          let to_j : j ≡ suc k + node_count b = omega (arith, qj) in
          let second : k + 1 + node_count b ≡ j = omega (arith, qj) in
          let head = rw (qm, two-same (k + 1)) at h0 in
          let body = rw (second, qm) at h1 in
          rw (sym to_j, sym (add-one k), sym (add-one m)) (stored-joined (cell k opens m o ((k + 1) ∷ []) ∷ []) (cells b m (m + 1) (k + 1) j ++ end_cells w o m j t) head (stored-joined (cells b m (m + 1) (k + 1) j) (end_cells w o m j t) body h2))

      listed : StoredParts (record { kind = kind; parent = o } ∷ (constructs b m (suc m) ++ [])) m (m + suc (construct_count b + 0)) C C1
      listed =
          let count : m + suc (construct_count b + 0) ≡ m + 1 + construct_count b = omega arith in
          rw (append-nil (constructs b m (suc m)), count, sym (add-one m)) (parts-joined (record { kind = kind; parent = o } ∷ []) (constructs b m (m + 1)) m (m + 1) (m + 1 + construct_count b) C C0 C1 (rw qb at p0) (rw qm at p1))

      go : (w : Bool) → k + n ≡ j + 1 + cond w 1 0 → Stored (end_cells w o m j t) j (k + n) e1 e2 N1 E1 N2 E2
          → Filled (put (one-around kind w b) end) spot e2 N E C N2 E2 C1
      go true q h =
          let last : k + suc (node_count b + suc (suc 0)) ≡ k + n = omega (arith, q, qj) in
          (rw (last, first-self b (suc k)) (made true h), listed)
      go false q h =
          let last : k + suc (node_count b + suc 0) ≡ k + n = omega (arith, q, qj) in
          (rw (last, first-self b (suc k)) (made false h), listed)
