-- One step of each function of the reader, by what stands in the text.
-- Assumes nothing.
use mathlib.Core.Path.{◌≡◌, refl, sym, ◌∙◌, ap}
use mathlib.Core.Logic.{◌≢◌}
use mathlib.Core.Bool.{Bool, true, false, ◌||◌}
use mathlib.Core.List.{List}
use Prim.Native.Nat.{ℕ, zero, suc, pred, ◌+◌, ◌<◌, ◌≤◌, ◌-◌}
use native.Mathlib.Omega.{arith}
use lib.Dec.{eqb, ltb}
use lib.ListN.{length, get_or}
use borrow.Author.Tests.{le-ltb, lt-ltb, eq-eqb, ne_eqb}
use Rattle.chart.specs.Scope.{single_byte, loop_byte}
use Rattle.theory_listing.specs.Tree.{Block, end, node_count, construct_count}
use Rattle.theory_listing.specs.Grammar.{plain_letter, barrier_letter, loop_letter, branch_letter, nowait_letter, open_brace, close_brace, most_depth, Item, one_plain, one-barrier, one-loop, one-branch, one-around, put, Read, up_to, stopped, after, pick, stands, braced, letter_kind, followed, item_by, block_of, listed}
use Rattle.theory_listing.proofs.Counts.{too_many_lem}
use Rattle.std.specs.Prelude.{Ok, Err}
use Rattle.chart.specs.declared.format.Refusal.TheVariants.{BadGrammar, TooDeep, TooLarge}
use Rattle.call_listing.specs.Extent.{Told, reached, extent_of, alone, item_extent, onward, added_to, closed_at, followed_at, limited_to}

-- the same counts, up to the same place
upto : {n a p m b q : ℕ} → n ≡ m → a ≡ b → p ≡ q → reached n a p ≡ reached m b q
upto e f g = cc

picked : (b : Bool) (x y : Read Block) → pick b (λ u. extent_of x) (λ u. extent_of y) ≡ extent_of (pick b (λ u. x) (λ u. y))
picked true x y = refl
picked false x y = refl

-- the counts of an item add to those of the rest of its block
nodes-put : (i : Item) (r : Block) → node_count (put i r) ≡ node_count (put i end) + node_count r
unfolding put node_count
nodes-put one_plain r = omega arith
nodes-put one-barrier r = omega arith
nodes-put (one-loop b) r = omega arith
nodes-put (one-branch a b) r = omega arith
nodes-put (one-around c true b) r = omega arith
nodes-put (one-around c false b) r = omega arith

constructs-put : (i : Item) (r : Block) → construct_count (put i r) ≡ construct_count (put i end) + construct_count r
unfolding put construct_count
constructs-put one_plain r = omega arith
constructs-put one-barrier r = omega arith
constructs-put (one-loop b) r = omega arith
constructs-put (one-branch a b) r = omega arith
constructs-put (one-around c true b) r = omega arith
constructs-put (one-around c false b) r = omega arith

-- an item's extent by those of its blocks
extent-loop : (x : Read Block) → extent_of (alone (after x (λ b n. up_to (one-loop b) n))) ≡ added_to 1 0 (extent_of x)
unfolding put node_count construct_count
extent-loop (up_to b n) = upto refl (omega arith) (omega arith)
extent-loop (stopped e) = refl

extent-branch : (x : Read Block) (y : ℕ → Read Block)
    → extent_of (alone (after x (λ a n. after (y n) (λ b m. up_to (one-branch a b) m))))
    ≡ onward (extent_of x) (λ r. added_to (r.nodes + 2) r.constructs (extent_of (y r.next)))
unfolding put node_count construct_count
extent-branch (up_to a n) y = go (y n)
  where
    go : (z : Read Block) → extent_of (alone (after z (λ b m. up_to (one-branch a b) m))) ≡ added_to (node_count a + 2) (construct_count a) (extent_of z)
    go (up_to b m) = upto refl (omega arith) (omega arith)
    go (stopped e) = refl
extent-branch (stopped e) y = refl

-- a construct after its block
abbrev pub followed_after : List ℕ → ℕ → Told → Told
followed_after s k told = onward told (λ read. Ok (followed_at s k read))

extent-around : (s : List ℕ) (k : ℕ) (x : Read Block) → extent_of (alone (after x (λ b n. followed s k b n))) ≡ followed_after s k (extent_of x)
unfolding followed put node_count construct_count
extent-around s k (up_to b n) = go (eqb k single_byte || eqb k loop_byte) (stands s n nowait_letter)
  where
    go : (x y : Bool)
        → extent_of (alone (pick x
        (λ u. pick y (λ u. up_to (one-around k false b) (n + 1)) (λ u. up_to (one-around k true b) n))
        (λ u. up_to (one-around k false b) n)))
        ≡ Ok (pick x
        (λ u. pick y
        (λ u. record { next = n + 1; nodes = node_count b + 2; constructs = construct_count b + 1 })
        (λ u. record { next = n; nodes = node_count b + 3; constructs = construct_count b + 1 }))
        (λ u. record { next = n; nodes = node_count b + 2; constructs = construct_count b + 1 }))
    go true true = upto refl (omega arith) (omega arith)
    go true false = upto refl (omega arith) (omega arith)
    go false y = upto refl (omega arith) (omega arith)
extent-around s k (stopped e) = refl

-- a block in braces, read by k
module _ (s : List ℕ) (d at : ℕ) (k : ℕ → ℕ → Read Block) where
  pub braced-short : length s ≤ at → Err BadGrammar ≡ extent_of (braced s d at k)
  unfolding braced
  braced-short h = rw (le-ltb at (length s) h)

  pub braced-other : at < length s → get_or s at 0 ≢ open_brace → Err BadGrammar ≡ extent_of (braced s d at k)
  unfolding braced
  braced-other h e = rw (lt-ltb at (length s) h, ne_eqb (get_or s at 0) open_brace e)

  pub braced-deep : at < length s → get_or s at 0 ≡ open_brace → d ≡ 0 → Err TooDeep ≡ extent_of (braced s d at k)
  unfolding braced
  braced-deep h e z = rw (lt-ltb at (length s) h, eq-eqb (get_or s at 0) open_brace e, eq-eqb d 0 z)

  pub braced-open : at < length s → get_or s at 0 ≡ open_brace → d ≢ 0 → onward (extent_of (k (d - 1) (at + 1))) (closed_at s) ≡ extent_of (braced s d at k)
  unfolding braced
  braced-open h e z = rw (lt-ltb at (length s) h, eq-eqb (get_or s at 0) open_brace e, ne_eqb d 0 z) (go (k (d - 1) (at + 1)))
    where
      go : (x : Read Block)
          → onward (extent_of x) (closed_at s) ≡ extent_of (after x (λ b n. pick (stands s n close_brace) (λ u. up_to b (n + 1)) (λ u. stopped 14)))
      go (up_to b n) = picked (stands s n close_brace) (up_to b (n + 1)) (stopped 14)
      go (stopped e) = refl

-- an item by its first byte b, its blocks read by k
module _ (s : List ℕ) (d at b : ℕ) (k : ℕ → ℕ → Read Block) where
  abbrev told : Told
  told = extent_of (alone (item_by s d at b k))

  pub item-plain : b ≡ plain_letter → reached (at + 1) 1 0 ≡ told
  unfolding item_by put node_count construct_count
  item-plain e = rw (eq-eqb b plain_letter e)

  module _ (n : b ≢ plain_letter) where
    pub item-barrier : b ≡ barrier_letter → reached (at + 1) 1 0 ≡ told
    unfolding item_by put node_count construct_count
    item-barrier e = rw (ne_eqb b plain_letter n, eq-eqb b barrier_letter e)

    module _ (m : b ≢ barrier_letter) where
      pub item-loop : b ≡ loop_letter → added_to 1 0 (extent_of (braced s d (at + 1) k)) ≡ told
      unfolding item_by
      item-loop e = rw (ne_eqb b plain_letter n, ne_eqb b barrier_letter m, eq-eqb b loop_letter e) (sym (extent-loop (braced s d (at + 1) k)))

      module _ (l : b ≢ loop_letter) where
        pub item-branch : b ≡ branch_letter → onward (extent_of (braced s d (at + 1) k)) (λ r. added_to (r.nodes + 2) r.constructs (extent_of (braced s d r.next k))) ≡ told
        unfolding item_by
        item-branch e =
            rw (ne_eqb b plain_letter n, ne_eqb b barrier_letter m, ne_eqb b loop_letter l, eq-eqb b branch_letter e)
            (sym (extent-branch (braced s d (at + 1) k) (λ n. braced s d n k)))

        module _ (i : b ≢ branch_letter) where
          pub item-other : letter_kind b ≡ 0 → Err BadGrammar ≡ told
          unfolding item_by
          item-other z =
              rw (ne_eqb b plain_letter n, ne_eqb b barrier_letter m, ne_eqb b loop_letter l, ne_eqb b branch_letter i, eq-eqb (letter_kind b) 0 z)

          pub item-around : letter_kind b ≢ 0 → followed_after s (letter_kind b) (extent_of (braced s d (at + 1) k)) ≡ told
          unfolding item_by
          item-around z =
              rw (ne_eqb b plain_letter n, ne_eqb b barrier_letter m, ne_eqb b loop_letter l, ne_eqb b branch_letter i, ne_eqb (letter_kind b) 0 z)
              (sym (extent-around s (letter_kind b) (braced s d (at + 1) k)))

-- a block, by what stands at its begin
module _ (s : List ℕ) (d at : ℕ) where
  pub block-end : (f : ℕ) → 0 < f → length s ≤ at → reached at 0 0 ≡ extent_of (block_of f s d at)
  unfolding block_of node_count construct_count
  block-end zero z h = absurd (omega arith)
  block-end (suc f) z h = rw (le-ltb at (length s) h)

  pub block-brace : (f : ℕ) → 0 < f → at < length s → get_or s at 0 ≡ close_brace → reached at 0 0 ≡ extent_of (block_of f s d at)
  unfolding block_of node_count construct_count
  block-brace zero z h e = absurd (omega arith)
  block-brace (suc f) z h e = rw (lt-ltb at (length s) h, eq-eqb (get_or s at 0) close_brace e)

  -- an item was read there, and the rest is a block
  pub block_more : (f : ℕ) {x : Told} → 0 < f → at < length s → get_or s at 0 ≢ close_brace → item_extent (pred f) s d at ≡ x
      → extent_of (block_of f s d at) ≡ onward x (λ r. added_to r.nodes r.constructs (extent_of (block_of (pred f) s d r.next)))
  unfolding block_of
  block_more zero z h e q = absurd (omega arith)
  block_more (suc f) z h e q =
      rw (lt-ltb at (length s) h, ne_eqb (get_or s at 0) close_brace e)
      (go (item_by s d at (get_or s at 0) (λ e n. block_of f s e n)) (λ n. block_of f s d n)
      ∙ ap (λ x. onward x (λ r. added_to r.nodes r.constructs (extent_of (block_of f s d r.next)))) q)
    where
      rest : (i : Item) (x : Read Block)
          → extent_of (after x (λ r m. up_to (put i r) m)) ≡ added_to (node_count (put i end)) (construct_count (put i end)) (extent_of x)
      rest i (up_to r m) = upto refl (omega (arith, nodes-put i r)) (omega (arith, constructs-put i r))
      rest i (stopped e) = refl

      go : (x : Read Item) (y : ℕ → Read Block)
          → extent_of (after x (λ i n. after (y n) (λ r m. up_to (put i r) m))) ≡ onward (extent_of (alone x)) (λ r. added_to r.nodes r.constructs (extent_of (y r.next)))
      go (up_to i n) y = rest i (y n)
      go (stopped e) y = refl

-- what a loop over items has counted, and what is left
pub add_none : (h a b : ℕ) (x y : Told) → x ≡ added_to a b y → reached h 0 0 ≡ y → reached h a b ≡ x
add_none h a b x y e g = let z : reached h a b ≡ reached h (0 + a) (0 + b) = upto refl (omega arith) (omega arith) in z ∙ ap (added_to a b) g ∙ sym e

pub add-more : (a b n p : ℕ) (x : Told) → added_to a b (added_to n p x) ≡ added_to (a + n) (b + p) x
add-more a b n p (Ok r) = upto refl (omega arith) (omega arith)
add-more a b n p (Err e) = refl

pub add_start : (x : Told) → x ≡ added_to 0 0 x
add_start (Ok r) = upto refl (omega arith) (omega arith)
add_start (Err e) = refl

-- the whole text
abbrev pub ending : List ℕ → Told → Told
ending s x = onward x (λ r. pick (eqb r.next (length s)) (λ u. Ok r) (λ u. Err BadGrammar))

pub whole-extent : (s : List ℕ) → ending s (extent_of (block_of (suc (length s)) s most_depth 0)) ≡ extent_of (listed s)
unfolding listed
whole-extent s = go (block_of (suc (length s)) s most_depth 0)
  where
    go : (x : Read Block) → ending s (extent_of x) ≡ extent_of (after x (λ b n. pick (eqb n (length s)) (λ u. up_to b n) (λ u. stopped 14)))
    go (up_to b n) = picked (eqb n (length s)) (up_to b n) (stopped 14)
    go (stopped e) = refl

-- row 16 by nodes and constructs alone
abbrev pub limiting : Told → Told
limiting x = onward x (λ r. pick (ltb 190 r.nodes) (λ u. Err TooLarge) (λ u. pick (ltb 48 r.constructs) (λ u. Err TooLarge) (λ u. Ok r)))

pub limited-extent : (x : Read Block) → limiting (extent_of x) ≡ limited_to x
unfolding limited_to
limited-extent (up_to b n) = rw (too_many_lem b) (go (ltb 190 (node_count b)) (ltb 48 (construct_count b)))
  where
    go : (x y : Bool)
        → pick x (λ u. Err TooLarge) (λ u. pick y (λ u. Err TooLarge) (λ u. extent_of (up_to b n)))
        ≡ pick (x || y) (λ u. Err TooLarge) (λ u. extent_of (up_to b n))
    go true y = refl
    go false true = refl
    go false false = refl
limited-extent (stopped e) = refl
