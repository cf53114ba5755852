-- What a block or an item that was read begins with.
-- Assumes nothing.
use mathlib.Core.Path.{◌≡◌, refl, sym, ap, ◌∙◌}
use mathlib.Core.Logic.{◌≢◌}
use mathlib.Core.Bool.{Bool, true, false, ◌||◌}
use mathlib.Core.List.{List}
use Prim.Native.Nat.{ℕ, zero, suc, pred, ◌+◌, ◌-◌, ◌<◌, ◌≤◌}
use native.Mathlib.Omega.{arith}
use lib.Dec.{eqb, ltb}
use lib.ListN.{length, get_or}
use borrow.Author.Tests.{le-ltb, lt-ltb, eq-eqb, ne_eqb, ltb-true, ltb-false, eqb-true, eqb-false}
use Rattle.lists.specs.Truth.{bad, and_both}
use Rattle.chart.specs.Scope.{single_byte, loop_byte}
use Rattle.theory_listing.specs.Tree.{Block, end, node_count, construct_count, first}
use Rattle.theory_listing.specs.Grammar.{plain_letter, barrier_letter, loop_letter, branch_letter, nowait_letter, open_brace, close_brace, Item, one_plain, one-barrier, one-loop, one-branch, one-around, put, Read, up_to, stopped, after, pick, stands, braced, letter_kind, followed, item_by, block_of}
use Rattle.call_listing.specs.Reads.{ahead_of}

pub nodes-put : (i : Item) (r : Block) → node_count (put i r) ≡ node_count (put i end) + node_count r
unfolding put node_count
nodes-put one_plain r = omega arith
nodes-put one-barrier r = omega arith
nodes-put (one-loop b) r = omega arith
nodes-put (one-branch a b) r = omega arith
nodes-put (one-around c true b) r = omega arith
nodes-put (one-around c false b) r = omega arith

pub parts-put : (i : Item) (r : Block) → construct_count (put i r) ≡ construct_count (put i end) + construct_count r
unfolding put construct_count
parts-put one_plain r = omega arith
parts-put one-barrier r = omega arith
parts-put (one-loop b) r = omega arith
parts-put (one-branch a b) r = omega arith
parts-put (one-around c true b) r = omega arith
parts-put (one-around c false b) r = omega arith

pub some-nodes : (i : Item) → 1 ≤ node_count (put i end)
unfolding put node_count
some-nodes one_plain = omega arith
some-nodes one-barrier = omega arith
some-nodes (one-loop b) = omega arith
some-nodes (one-branch a b) = omega arith
some-nodes (one-around c true b) = omega arith
some-nodes (one-around c false b) = omega arith

first-put : (i : Item) (r : Block) (k t : ℕ) → first (put i r) k t ≡ k
unfolding first put
first-put one_plain r k t = refl
first-put one-barrier r k t = refl
first-put (one-loop b) r k t = refl
first-put (one-branch a b) r k t = refl
first-put (one-around c true b) r k t = refl
first-put (one-around c false b) r k t = refl

-- the first item of a block, and its rest
pub record Begun (f : ℕ) (s : List ℕ) (d at : ℕ) (b : Block) (last : ℕ) : Type 0 where
  pub what : Item
  pub next : ℕ
  pub rest : Block
  pub item-read : item_by s d at (get_or s at 0) (λ e n. block_of f s e n) ≡ up_to what next
  pub rest_read : block_of f s d next ≡ up_to rest last
  pub whole : put what rest ≡ b

module _ (s : List ℕ) (d at : ℕ) (b : Block) (last : ℕ) where
  pub ended : (f : ℕ) → 0 < f → length s ≤ at → block_of f s d at ≡ up_to b last → end ≡ b
  unfolding block_of
  ended zero z h q = absurd (omega arith)
  ended (suc f) z h q = let p = rw (le-ltb at (length s) h) at q in cc

  pub ended-brace : (f : ℕ) → 0 < f → at < length s → get_or s at 0 ≡ close_brace → block_of f s d at ≡ up_to b last → end ≡ b
  unfolding block_of
  ended-brace zero z h g q = absurd (omega arith)
  ended-brace (suc f) z h g q = let p = rw (lt-ltb at (length s) h, eq-eqb (get_or s at 0) close_brace g) at q in cc

  pub begun : (f : ℕ) → 0 < f → at < length s → get_or s at 0 ≢ close_brace → block_of f s d at ≡ up_to b last → Begun (pred f) s d at b last
  unfolding block_of
  begun zero z h g q = absurd (omega arith)
  begun (suc f) z h g q =
      go (item_by s d at (get_or s at 0) (λ e n. block_of f s e n)) refl (rw (lt-ltb at (length s) h, ne_eqb (get_or s at 0) close_brace g) at q)
    where
      on : (i : Item) (n : ℕ) → item_by s d at (get_or s at 0) (λ e n. block_of f s e n) ≡ up_to i n → (y : Read Block) → block_of f s d n ≡ y
          → after y (λ r m. up_to (put i r) m) ≡ up_to b last → Begun f s d at b last
      on i n p (up_to w m) u v = record { what = i; next = n; rest = w; item-read = p; rest_read = cc; whole = cc }
      on i n p (stopped x) u v = absurd (bad (cc))

      go : (x : Read Item) → item_by s d at (get_or s at 0) (λ e n. block_of f s e n) ≡ x
          → after x (λ i n. after (block_of f s d n) (λ r m. up_to (put i r) m)) ≡ up_to b last → Begun f s d at b last
      go (up_to i n) p v = on i n p (block_of f s d n) refl v
      go (stopped x) p v = absurd (bad (cc))

  pub ahead-first : (f : ℕ) → 0 < f → block_of f s d at ≡ up_to b last → (k t : ℕ) → ahead_of s at k t ≡ first b k t
  unfolding first
  ahead-first f z q k t = go (ltb at (length s)) refl (eqb (get_or s at 0) close_brace) refl
    where
      go : (x : Bool) → ltb at (length s) ≡ x → (y : Bool) → eqb (get_or s at 0) close_brace ≡ y → pick x (λ u. pick y (λ u. t) (λ u. k)) (λ u. t) ≡ first b k t
      go false h y g = ap (λ w. first w k t) (ended f z (ltb-false at (length s) h) q)
      go true h true g = ap (λ w. first w k t) (ended-brace f z (ltb-true at (length s) h) (eqb-true (get_or s at 0) close_brace g) q)
      go true h false g =
          let w = begun f z (ltb-true at (length s) h) (eqb-false (get_or s at 0) close_brace g) q in
          sym (first-put w.what w.rest k t) ∙ ap (λ w. first w k t) w.whole

pub ahead-most : (s : List ℕ) (at k t most r : ℕ) → r ≡ ahead_of s at k t → k ≤ most → t ≤ most → r ≤ most
ahead-most s at k t most r e p q = rw e (go (ltb at (length s)) (eqb (get_or s at 0) close_brace))
  where
    go : (x y : Bool) → pick x (λ u. pick y (λ u. t) (λ u. k)) (λ u. t) ≤ most
    go false y = q
    go true true = q
    go true false = p

-- a block in braces, from its opening brace on
pub record Opened (f : ℕ) (s : List ℕ) (d at : ℕ) (b : Block) (next : ℕ) : Type 0 where
  pub below : at < length s
  pub deep : 0 < d
  pub close : ℕ
  pub inner : block_of f s (d - 1) (at + 1) ≡ up_to b close
  pub closes : close < length s
  pub past : close + 1 ≡ next

module _ (f : ℕ) (s : List ℕ) (d : ℕ) where
  abbrev blocks : ℕ → ℕ → Read Block
  blocks e n = block_of f s e n

  stands-below : (at b : ℕ) → stands s at b ≡ true → at < length s
  stands-below at b h = ltb-true _ _ (and_both (ltb at (length s)) _ h).0

  opened : (at : ℕ) (b : Block) (next : ℕ) → braced s d at (λ e n. block_of f s e n) ≡ up_to b next → Opened f s d at b next
  unfolding braced
  opened at b next h = go (stands s at open_brace) refl (eqb d 0) refl (block_of f s (d - 1) (at + 1)) refl h
    where
      on : at < length s → 0 < d → (c : Block) (close : ℕ) → block_of f s (d - 1) (at + 1) ≡ up_to c close → (x : Bool) → stands s close close_brace ≡ x
          → pick x (λ u. up_to c (close + 1)) (λ u. stopped 14) ≡ up_to b next → Opened f s d at b next
      on p q c close r true t h =
          let e : c ≡ b = cc in
          record { below = p; deep = q; close = close; inner = r ∙ ap (λ w. up_to w close) e; closes = stands-below close close_brace t; past = cc }
      on p q c close r false t h = absurd (bad (cc))

      go : (x : Bool) → stands s at open_brace ≡ x → (y : Bool) → eqb d 0 ≡ y → (r : Read Block) → block_of f s (d - 1) (at + 1) ≡ r
          → pick x (λ u. pick y (λ u. stopped 15) (λ u. after r (λ b next. pick (stands s next close_brace) (λ u. up_to b (next + 1)) (λ u. stopped 14)))) (λ u. stopped 14) ≡ up_to b next
          → Opened f s d at b next
      go false p y q r e h = absurd (bad (cc))
      go true p true q r e h = absurd (bad (cc))
      go true p false q (stopped x) e h = absurd (bad (cc))
      go true p false q (up_to c close) e h =
          let n = eqb-false d 0 q in
          on (stands-below at open_brace p) (omega (arith, n)) c close e (stands s close close_brace) refl h

  module _ (at : ℕ) (i : Item) (next : ℕ) (read : item_by s d at (get_or s at 0) (λ e n. block_of f s e n) ≡ up_to i next) where
    pub plain-item : get_or s at 0 ≡ plain_letter → i ≡ one_plain
    unfolding item_by
    plain-item e = let p = rw (eq-eqb (get_or s at 0) plain_letter e) at read in cc

    pub barrier-item : get_or s at 0 ≡ barrier_letter → i ≡ one-barrier
    unfolding item_by
    barrier-item e = let p = rw (ne_eqb (get_or s at 0) plain_letter (λ q. omega (arith, e, q)), eq-eqb (get_or s at 0) barrier_letter e) at read in cc

    pub record Looped : Type 0 where
      pub block : Block
      pub is : i ≡ one-loop block
      pub braces : Opened f s d (at + 1) block next

    pub loop-item : get_or s at 0 ≡ loop_letter → Looped
    unfolding item_by
    loop-item e =
        go (braced s d (at + 1) (λ e n. block_of f s e n)) refl
        (rw (ne_eqb (get_or s at 0) plain_letter (λ q. omega (arith, e, q)), ne_eqb (get_or s at 0) barrier_letter (λ q. omega (arith, e, q)), eq-eqb (get_or s at 0) loop_letter e) at read)
      where
        go : (x : Read Block) → braced s d (at + 1) (λ e n. block_of f s e n) ≡ x → after x (λ b next. up_to (one-loop b) next) ≡ up_to i next → Looped
        go (stopped x) p h = absurd (bad (cc))
        go (up_to b n) p h = let e : n ≡ next = cc in record { block = b; is = cc; braces = opened (at + 1) b next (p ∙ ap (up_to b) e) }

    pub record Forked : Type 0 where
      pub first_block : Block
      pub second_block : Block
      pub mid : ℕ
      pub is : i ≡ one-branch first_block second_block
      pub first-braces : Opened f s d (at + 1) first_block mid
      pub second-braces : Opened f s d mid second_block next

    pub branch-item : get_or s at 0 ≡ branch_letter → Forked
    unfolding item_by
    branch-item e =
        go (braced s d (at + 1) (λ e n. block_of f s e n)) refl
        (rw (ne_eqb (get_or s at 0) plain_letter (λ q. omega (arith, e, q)), ne_eqb (get_or s at 0) barrier_letter (λ q. omega (arith, e, q)), ne_eqb (get_or s at 0) loop_letter (λ q. omega (arith, e, q)), eq-eqb (get_or s at 0) branch_letter e) at read)
      where
        on : (a : Block) (mid : ℕ) → Opened f s d (at + 1) a mid → (x : Read Block) → braced s d mid (λ e n. block_of f s e n) ≡ x
            → after x (λ b next. up_to (one-branch a b) next) ≡ up_to i next → Forked
        on a mid o (stopped x) p h = absurd (bad (cc))
        on a mid o (up_to b n) p h =
            let e : n ≡ next = cc in
            record { first_block = a; second_block = b; mid = mid; is = cc; first-braces = o; second-braces = opened mid b next (p ∙ ap (up_to b) e) }

        go : (x : Read Block) → braced s d (at + 1) (λ e n. block_of f s e n) ≡ x
            → after x (λ a next. after (braced s d next (λ e n. block_of f s e n)) (λ b next. up_to (one-branch a b) next)) ≡ up_to i next → Forked
        go (stopped x) p h = absurd (bad (cc))
        go (up_to a mid) p h = on a mid (opened (at + 1) a mid p) (braced s d mid (λ e n. block_of f s e n)) refl h

    pub record Wrapped : Type 0 where
      pub block : Block
      pub waits : Bool
      pub mid : ℕ
      pub is : i ≡ one-around (letter_kind (get_or s at 0)) waits block
      pub braces : Opened f s d (at + 1) block mid

    pub around-item : get_or s at 0 ≢ plain_letter → get_or s at 0 ≢ barrier_letter → get_or s at 0 ≢ loop_letter → get_or s at 0 ≢ branch_letter → Wrapped
    unfolding item_by followed
    around-item p b l r =
        go (eqb (letter_kind (get_or s at 0)) 0) (braced s d (at + 1) (λ e n. block_of f s e n)) refl
        (rw (ne_eqb (get_or s at 0) plain_letter p, ne_eqb (get_or s at 0) barrier_letter b, ne_eqb (get_or s at 0) loop_letter l, ne_eqb (get_or s at 0) branch_letter r) at read)
      where
        kind : ℕ
        kind = letter_kind (get_or s at 0)

        on : (c : Block) (mid : ℕ) → Opened f s d (at + 1) c mid → (x y : Bool)
            → pick x (λ u. pick y (λ u. up_to (one-around (letter_kind (get_or s at 0)) false c) (mid + 1)) (λ u. up_to (one-around (letter_kind (get_or s at 0)) true c) mid)) (λ u. up_to (one-around (letter_kind (get_or s at 0)) false c) mid)
            ≡ up_to i next → Wrapped
        on c mid o true true h = record { block = c; waits = false; mid = mid; is = cc; braces = o }
        on c mid o true false h = record { block = c; waits = true; mid = mid; is = cc; braces = o }
        on c mid o false y h = record { block = c; waits = false; mid = mid; is = cc; braces = o }

        go : (z : Bool) (x : Read Block) → braced s d (at + 1) (λ e n. block_of f s e n) ≡ x
            → pick z (λ u. stopped 14) (λ u. after x (λ b next. followed s (letter_kind (get_or s at 0)) b next)) ≡ up_to i next → Wrapped
        go true x p h = absurd (bad (cc))
        go false (stopped x) p h = absurd (bad (cc))
        go false (up_to c mid) p h =
            on c mid (opened (at + 1) c mid p) (eqb (letter_kind (get_or s at 0)) single_byte || eqb (letter_kind (get_or s at 0)) loop_byte) (stands s mid nowait_letter) h
