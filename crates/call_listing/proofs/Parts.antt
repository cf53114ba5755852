-- The blocks inside an item, where they stand in the text.
-- Assumes nothing.
use mathlib.Core.Path.{◌≡◌, refl, ap, ◌∙◌}
use mathlib.Core.Logic.{◌≢◌}
use mathlib.Core.Bool.{Bool, true, false, cond}
use mathlib.Core.List.{List}
use Prim.Native.Nat.{ℕ, ◌+◌, ◌-◌, ◌≤◌, ◌<◌}
use native.Mathlib.Omega.{arith}
use lib.ListN.{length, get_or}
use Rattle.theory_listing.specs.Tree.{Block, end, node_count, construct_count, simple, stop, opens, closes}
use Rattle.theory_listing.specs.Meaning.{kind_byte}
use Rattle.theory_listing.specs.Grammar.{plain_letter, barrier_letter, loop_letter, branch_letter, letter_kind, Item, one-loop, one-branch, one-around, put, up_to, block_of}
use Rattle.call_listing.specs.declared.tables.Spot.{Spot}
use Rattle.call_listing.specs.Reads.{Takes, item_at}
use Rattle.call_listing.proofs.Begins.{Opened, loop-item, branch-item, around-item}

pub kind-simple : kind_byte simple ≡ 0
unfolding kind_byte
kind-simple = refl

pub kind-stop : kind_byte stop ≡ 1
unfolding kind_byte
kind-stop = refl

pub kind-opens : kind_byte opens ≡ 2
unfolding kind_byte
kind-opens = refl

pub kind-closes : kind_byte closes ≡ 3
unfolding kind_byte
kind-closes = refl

module _ (s : List ℕ) (spot : Spot) (fuel : ℕ) where
  -- a block in braces after the letter, whose nodes follow the item's first
  pub record Inside (b : Block) : Type 0 where
    pub deep : 0 < spot.depth
    pub within : spot.at + 2 ≤ length s
    pub close : ℕ
    pub closes : close < length s
    pub read : block_of fuel s (spot.depth - 1) (spot.at + 2) ≡ up_to b close
    pub enough : length s - (spot.at + 2) < fuel
    pub node-few : spot.node ≤ 191
    pub first-few : spot.node + 1 ≤ 191
    pub nodes-fit : spot.node + 1 + node_count b ≤ 191

  unfoldable inside : (b : Block) (next : ℕ) → spot.at < length s → length s - spot.at ≤ fuel → Opened fuel s spot.depth (spot.at + 1) b next
      → spot.node + 1 + node_count b ≤ 191 → Inside b
  inside b next l h o fits =
      let two : spot.at + 1 + 1 ≡ spot.at + 2 = omega arith in
      record {
        deep = o.deep;
        within = omega (arith, o.below);
        close = o.close;
        closes = o.closes;
        read = rw two at o.inner;
        enough = omega arith;
        node-few = omega arith;
        first-few = omega arith;
        nodes-fit = fits;
      }

-- A loop, a branch and a construct of n nodes, each the item i that was read at a spot and has room there.
pub record InLoop (s : List ℕ) (spot : Spot) (n fuel : ℕ) (i : Item) : Type 0 where
  pub block : Block
  pub is : i ≡ one-loop block
  pub size : n ≡ node_count block + 1
  pub parts_are : construct_count (put i end) ≡ construct_count block
  pub inside : Inside s spot fuel block

pub record InBranch (s : List ℕ) (spot : Spot) (n fuel : ℕ) (i : Item) : Type 0 where
  pub one : Block
  pub other : Block
  pub is : i ≡ one-branch one other
  pub size : n ≡ node_count one + node_count other + 2
  pub parts_are : construct_count (put i end) ≡ construct_count one + construct_count other
  pub inside : Inside s spot fuel one
  pub other-within : inside.close + 2 ≤ length s
  pub other-close : ℕ
  pub other-read : block_of fuel s (spot.depth - 1) (inside.close + 2) ≡ up_to other other-close
  pub join-few : spot.node + n - 1 ≤ 191

pub record InConstruct (s : List ℕ) (spot : Spot) (n fuel : ℕ) (i : Item) : Type 0 where
  pub block : Block
  pub waits : Bool
  pub is : i ≡ one-around (letter_kind (get_or s spot.at 0)) waits block
  pub size : n ≡ node_count block + 2 + cond waits 1 0
  pub parts_are : construct_count (put i end) ≡ construct_count block + 1
  pub inside : Inside s spot fuel block

around-count : (c : ℕ) (w : Bool) (b : Block)
    → (node_count (put (one-around c w b) end) ≡ node_count b + 2 + cond w 1 0) × (construct_count (put (one-around c w b) end) ≡ construct_count b + 1)
unfolding put node_count construct_count
around-count c true b = (omega arith, omega arith)
around-count c false b = (omega arith, omega arith)

module _ (s : List ℕ) (spot : Spot) (n : ℕ) (took : Takes s spot n) (fuel : ℕ) (i : Item) (next : ℕ) (enough : length s - spot.at ≤ fuel)
    (read : item_at fuel s spot ≡ up_to i next) where
  pub in-loop : get_or s spot.at 0 ≡ loop_letter → InLoop s spot n fuel i
  unfolding put node_count construct_count
  in-loop letter =
      let w = loop-item fuel s spot.depth spot.at i next read letter in
      let count : node_count (put (one-loop w.block) end) ≡ node_count w.block + 1 = omega arith in
      let size : n ≡ node_count w.block + 1 = took.counted fuel i next enough read ∙ ap (λ (i : Item). node_count (put i end)) w.is ∙ count in
      let p : construct_count (put (one-loop w.block) end) ≡ construct_count w.block = omega arith in
      record {
        block = w.block;
        is = w.is;
        size = size;
        parts_are = ap (λ (i : Item). construct_count (put i end)) w.is ∙ p;
        inside = inside s spot fuel w.block next took.below enough w.braces (omega (arith, took.nodes-fit));
      }

  pub in-branch : get_or s spot.at 0 ≡ branch_letter → InBranch s spot n fuel i
  unfolding put node_count construct_count inside
  in-branch letter =
      let w = branch-item fuel s spot.depth spot.at i next read letter in
      let a = w.first_block in
      let b = w.second_block in
      let o = w.second-braces in
      let two : w.mid + 1 ≡ w.first-braces.close + 2 = omega (arith, w.first-braces.past) in
      let count : node_count (put (one-branch a b) end) ≡ node_count a + node_count b + 2 = omega arith in
      let size : n ≡ node_count a + node_count b + 2 = took.counted fuel i next enough read ∙ ap (λ (i : Item). node_count (put i end)) w.is ∙ count in
      let p : construct_count (put (one-branch a b) end) ≡ construct_count a + construct_count b = omega arith in
      let within : w.first-braces.close + 2 ≤ length s = omega (arith, o.below, w.first-braces.past) in
      let other : block_of fuel s (spot.depth - 1) (w.first-braces.close + 2) ≡ up_to b o.close = rw two at o.inner in
      record {
        one = a;
        other = b;
        is = w.is;
        size = size;
        parts_are = ap (λ (i : Item). construct_count (put i end)) w.is ∙ p;
        inside = inside s spot fuel a w.mid took.below enough w.first-braces (omega (arith, took.nodes-fit));
        other-within = within;
        other-close = o.close;
        other-read = other;
        join-few = omega (arith, took.nodes-fit);
      }

  pub in-construct : get_or s spot.at 0 ≢ plain_letter → get_or s spot.at 0 ≢ barrier_letter → get_or s spot.at 0 ≢ loop_letter → get_or s spot.at 0 ≢ branch_letter
      → InConstruct s spot n fuel i
  in-construct p q r l =
      let w = around-item fuel s spot.depth spot.at i next read p q r l in
      let count = around-count (letter_kind (get_or s spot.at 0)) w.waits w.block in
      let size : n ≡ node_count w.block + 2 + cond w.waits 1 0 = took.counted fuel i next enough read ∙ ap (λ (i : Item). node_count (put i end)) w.is ∙ count.0 in
      record {
        block = w.block;
        waits = w.waits;
        is = w.is;
        size = size;
        parts_are = ap (λ (i : Item). construct_count (put i end)) w.is ∙ count.1;
        inside = inside s spot fuel w.block w.mid took.below enough w.braces (omega (arith, took.nodes-fit));
      }
