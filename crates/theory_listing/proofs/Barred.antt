-- Row 5 of a listing is a barrier inside a construct (02, Note 2), and nothing else.
-- Assumes nothing.
use Rattle.std.specs.Prelude.{◌≡◌, ◌⊎◌, Bool, true, false, ◌&&◌, ◌||◌, not, List, [], ◌∷◌, ◌++◌, ltb}
use Rattle.std.proofs.Math.Path.{refl, ap}
use Rattle.std.proofs.Common.{sym, ◌∙◌, inl, inr, add-zero, zero-add}
use Prim.Native.Nat.{ℕ, zero, suc, ◌+◌, ◌≤◌, ◌<◌, ◌-◌}
use native.Mathlib.Omega.{arith}
use Rattle.std.proofs.Math.Dec.{eqb}
use Rattle.std.proofs.Math.ListN.{length}
use borrow.Author.Tests.{eq-eqb, ne_eqb, lt-ltb}
use Rattle.lists.specs.Truth.{and-false, or-false}
use Rattle.lists.specs.Range.{any, any_same}
use Rattle.chart.specs.Format.{outside, Node, Construct, no_node, node_at, construct_at}
use Rattle.chart.specs.Scope.{parallel_byte}
use Rattle.chart.specs.Nested.{is_parallel}
use Rattle.chart.specs.Refusal.{bad_node, bad_outer, bad_node_at, bad_nodes}
use Rattle.chart_writing.specs.Every.{All, joined, From, from-both, Looked, looked}
use Rattle.theory_listing.specs.Tree.{Block, end, plain, barrier, loop, branch, around, node_count, construct_count, Sort, simple, stop, opens, closes, Cell, cells, constructs}
use Rattle.theory_listing.specs.GrammarLaws.{Kinds, kinds-constructs}
use Rattle.theory_listing.specs.Meaning.{kind_byte, finish, inner, whole, node_for, block_nodes, block_constructs, block_chart}
use Rattle.theory_listing.proofs.CellTables.{map-from, from-map, length-mapped}
use Rattle.theory_listing.proofs.BlockTables.{letters-below}
use Rattle.theory_listing.proofs.Counts.{length-block_constructs}

-- A barrier stands inside a construct; `inside` says whether the block does.
unfoldable pub barrier_inside : Bool → Block → Bool
barrier_inside inside end = false
barrier_inside inside (plain r) = barrier_inside inside r
barrier_inside inside (barrier r) = inside || barrier_inside inside r
barrier_inside inside (loop b r) = barrier_inside inside b || barrier_inside inside r
barrier_inside inside (branch a b r) = barrier_inside inside a || (barrier_inside inside b || barrier_inside inside r)
barrier_inside inside (around c b r) = barrier_inside true b || barrier_inside inside r

-- a cell is such a barrier
abbrev barred : Sort → ℕ → Bool
barred simple n = false
barred stop n = not (eqb n outside)
barred opens n = false
barred closes n = false

abbrev any_of : List Cell → Bool
any_of [] = false
any_of (c ∷ l) = barred c.sort c.number || any_of l

or_assoc : (a b c : Bool) → ((a || b) || c) ≡ (a || (b || c))
or_assoc true b c = refl
or_assoc false b c = refl

any-joined : (l r : List Cell) → any_of (l ++ r) ≡ (any_of l || any_of r)
any-joined [] r = refl
any-joined (c ∷ l) r =
    let b = barred c.sort c.number in
    ap (λ (x : Bool). b || x) (any-joined l r) ∙ sym (or_assoc b (any_of l) (any_of r))

any_cells : (r : Block) (o m k t : ℕ) → m + construct_count r ≤ outside → any_of (cells r o m k t) ≡ barrier_inside (not (eqb o outside)) r
unfolding cells barrier_inside construct_count
any_cells end o m k t h = refl
any_cells (plain r) o m k t h = any_cells r o m (suc k) t h
any_cells (barrier r) o m k t h = ap (λ b. not (eqb o outside) || b) (any_cells r o m (suc k) t h)
any_cells (loop b r) o m k t h =
    any-joined (cells b o m (suc k) k) _
    ∙ rw (any_cells b o m (suc k) k (omega arith), any_cells r o (m + construct_count b) (suc k + node_count b) t (omega arith))
any_cells (branch a b r) o m k t h =
    let j = suc k + node_count a + node_count b in
    let first = any_cells a o m (suc k) j (omega arith) in
    let second = any_cells b o (m + construct_count a) (suc k + node_count a) j (omega arith) in
    let rest = any_cells r o (m + construct_count a + construct_count b) (suc j) t (omega arith) in
    any-joined (cells a o m (suc k) j) _ ∙ rw (any-joined (cells b o (m + construct_count a) (suc k + node_count a) j), first, second, rest)
any_cells (around c b r) o m k t h =
    let e = suc k + node_count b in
    let first = any_cells b m (suc m) (suc k) e (omega arith) in
    let rest = any_cells r o (suc m + construct_count b) (suc e) t (omega arith) in
    any-joined (cells b m (suc m) (suc k) e) _ ∙ rw (first, rest, ne_eqb m outside (λ q. omega arith))

-- the numbers of a cell: a construct's, or none, which a begin and an end have not
abbrev Numbered : ℕ → Sort → ℕ → Type 0
Numbered most simple n = (n < most) ⊎ (n ≡ outside)
Numbered most stop n = (n < most) ⊎ (n ≡ outside)
Numbered most opens n = n < most
Numbered most closes n = n < most

module _ (most : ℕ) where
  abbrev Fits : Cell → Type 0
  Fits c = Numbered most c.sort c.number

  cells_fit : (r : Block) (o m k t : ℕ) → (o < most) ⊎ (o ≡ outside) → m + construct_count r ≤ most → All Fits (cells r o m k t)
  unfolding cells construct_count
  cells_fit end o m k t g h = tt
  cells_fit (plain r) o m k t g h = (g, cells_fit r o m (suc k) t g h)
  cells_fit (barrier r) o m k t g h = (g, cells_fit r o m (suc k) t g h)
  cells_fit (loop b r) o m k t g h =
      let rest = cells_fit r o (m + construct_count b) (suc k + node_count b) t g (omega arith) in
      (g, joined Fits (cells b o m (suc k) k) _ (cells_fit b o m (suc k) k g (omega arith)) rest)
  cells_fit (branch a b r) o m k t g h =
      let j = suc k + node_count a + node_count b in
      let second = cells_fit b o (m + construct_count a) (suc k + node_count a) j g (omega arith) in
      let rest = cells_fit r o (m + construct_count a + construct_count b) (suc j) t g (omega arith) in (
        g,
        joined Fits (cells a o m (suc k) j) _ (cells_fit a o m (suc k) j g (omega arith))
            (joined Fits (cells b o (m + construct_count a) (suc k + node_count a) j) _ second (g, rest)),
      )
  cells_fit (around c b r) o m k t g h =
      let e = suc k + node_count b in
      let rest = cells_fit r o (suc m + construct_count b) (suc e) t g (omega arith) in
      (omega arith, joined Fits (cells b m (suc m) (suc k) e) _ (cells_fit b m (suc m) (suc k) e (inl (omega arith)) (omega arith)) (omega arith, rest))

-- what the row says of a cell
module _ (constructs : List Construct) (few : length constructs ≤ outside) (n : ℕ) (other : is_parallel constructs n ≡ false) where
  known : (n < length constructs) ⊎ (n ≡ outside) → (not (ltb n (length constructs)) && not (eqb n outside)) ≡ false
  known (inl l) = rw (lt-ltb n (length constructs) l)
  known (inr e) = rw (eq-eqb n outside e, and-false)

  twice : (v w : Bool) → ((v && true) || false) || (w && v) ≡ v
  twice true w = refl
  twice false w = and-false w

  row-five : (s : Sort) (all x : ℕ) → Numbered (length constructs) s n → (bad_node constructs (kind_byte s) n || bad_outer all x (kind_byte s) n) ≡ barred s n
  unfolding bad_node bad_outer kind_byte
  row-five simple all x h = rw (known h, and-false)
  row-five stop all x h = rw (known h, other) (twice (not (eqb n outside)) (eqb x 0 || eqb x (all - 1)))
  row-five opens all x h = rw (known (inl h), ne_eqb n outside (λ e. omega arith), and-false)
  row-five closes all x h = rw (known (inl h), ne_eqb n outside (λ e. omega arith), and-false)

any-shift : (n : ℕ) (f : ℕ → Bool) → any (suc n) f ≡ (f 0 || any n (λ i. f (suc i)))
unfolding any
any-shift zero f = sym (or-false (f 0))
any-shift (suc n) f = ap (λ (b : Bool). b || f (suc n)) (any-shift n f) ∙ or_assoc (f 0) (any n (λ i. f (suc i))) (f (suc n))

any-from : (f : ℕ → Bool) (k : ℕ) (l : List Cell) → From (λ x c. f x ≡ barred c.sort c.number) k l → any (length l) (λ i. f (k + i)) ≡ any_of l
unfolding any
any-from f k [] h = refl
any-from f k (c ∷ l) h =
    let rest = any_same (length l) (λ i. f (k + suc i)) (λ i. f (suc k + i)) (λ i b. ap f (next i)) ∙ any-from f (suc k) l h.1 in
    any-shift (length l) (λ i. f (k + i)) ∙ rw (add-zero k, h.0, rest)
  where
    next : (i : ℕ) → k + suc i ≡ suc k + i
    next i = omega arith

all_from : {A : Type 0} (P : A → Type 0) (k : ℕ) (l : List A) → All P l → From (λ x a. P a) k l
all_from P k [] h = tt
all_from P k (a ∷ l) h = (h.0, all_from P (suc k) l h.1)

module _ (b : Block) (kinds : Kinds b) (few : length (block_constructs b) ≤ outside) where
  whole-fits : All (Fits (length (block_constructs b))) (whole b)
  unfolding whole
  whole-fits =
      let most = length (block_constructs b) in
      (inr refl, joined (Fits most) (inner b) _ (cells_fit most b outside 0 1 (finish b) (inr refl) (omega (arith, length-block_constructs b))) (inr refl, tt))

  no-parallel : (c : ℕ) → is_parallel (block_constructs b) c ≡ false
  unfolding is_parallel
  no-parallel c = ne_eqb (construct_at (block_constructs b) c).kind parallel_byte (λ e. omega (arith, e, letters-below (constructs b outside 0) (kinds-constructs b outside 0 kinds) c))

  each : From (λ x c. bad_node_at (block_chart b) x ≡ barred c.sort c.number) 0 (whole b)
  unfolding bad_node_at node_at
  each =
      let l = block_nodes b in
      let cs = block_constructs b in
      from-map (λ x c. Looked l no_node (length l) x (node_for c) × Fits (length cs) c) (λ x c. bad_node_at (block_chart b) x ≡ barred c.sort c.number)
      (λ x c h. ap (λ (v : Node). bad_node cs v.kind v.number || bad_outer (length l) x v.kind v.number) h.0.0 ∙ row-five cs few c.number (no-parallel c.number) c.sort (length l) x h.1)
      0 (whole b)
      (from-both (λ x c. Looked l no_node (length l) x (node_for c)) (λ x c. Fits (length cs) c) 0 (whole b) (map-from node_for (Looked l no_node (length l)) 0 (whole b) (looked no_node l)) (all_from (Fits (length cs)) 0 (whole b) whole-fits))

  any-whole : any_of (whole b) ≡ barrier_inside false b
  unfolding whole
  any-whole =
      any-joined (inner b) _ ∙ or-false (any_of (inner b)) ∙ any_cells b outside 0 1 (finish b) (omega (arith, length-block_constructs b))

  pub five-barred : bad_nodes (block_chart b) ≡ barrier_inside false b
  unfolding bad_nodes
  five-barred =
      let f = bad_node_at (block_chart b) in
      ap (λ (n : ℕ). any n f) (length-mapped node_for (whole b))
      ∙ any_same (length (whole b)) f (λ i. f (0 + i)) (λ i l. ap f (sym (zero-add i))) ∙ any-from f 0 (whole b) each ∙ any-whole
