-- What the calls in a loop, a branch or a construct ask, from what is known of its blocks.
-- Assumes nothing.
use mathlib.Core.Path.{◌≡◌, ap, sym, ◌∙◌}
use mathlib.Core.List.{List}
use Prim.Native.Nat.{ℕ, ◌+◌, ◌*◌, ◌-◌, ◌≤◌, ◌<◌}
use native.Mathlib.Omega.{arith}
use lib.ListN.{length}
use Rattle.lists.specs.Truth.{bad}
use Rattle.chart.specs.declared.format.Refusal.{Refusal}
use Rattle.theory_listing.specs.Tree.{Block, end, node_count, construct_count, first}
use Rattle.theory_listing.specs.Grammar.{Item, put, up_to, block_of}
use Rattle.std.specs.Prelude.{Ok, Err}
use Rattle.call_listing.specs.declared.reader.Extent.{Extent}
use Rattle.call_listing.specs.Extent.{Told, reached, extent_of, Within}
use Rattle.call_listing.proofs.Bounds.{within-read}
use Rattle.call_listing.specs.declared.tables.Spot.{Spot}
use Rattle.call_listing.specs.Reads.{Reads, ahead_of}
use Rattle.call_listing.proofs.Begins.{ahead-first}
use Rattle.call_listing.proofs.Parts.{Inside, InBranch}

-- the tables have room for a node and its edges
pub cell_room : (k e x y : ℕ) {n m : ℕ} → n ≡ 768 → m ≡ 768 → k ≤ 191 → e ≤ 2 * k → x ≤ 191 → y ≤ 191
    → (4 * k + 4 ≤ n) × (2 * e + 4 ≤ m) × (k < 256) × (x < 256) × (y < 256)
cell_room k e x y p q a b c d = (omega arith, omega arith, omega arith, omega arith, omega arith)

-- a node has two edges at most
pub few-after : (k k' j : ℕ) {e e' : ℕ} → e' + 2 * k ≤ e + 2 * k' → e ≤ 2 * k → k' ≡ j → e' ≤ 2 * j
few-after k k' j h few q = omega arith

module _ (s : List ℕ) (spot : Spot) where
  module _ {fuel : ℕ} {b : Block} (p : Inside s spot fuel b) where
    -- what is asked to fill that block: fewer bytes are left, and it was read and fits
    pub falls-first : {t : ℕ} → 4 * (length s - spot.at) ≡ t → 4 * (length s - (spot.at + 2)) + 2 < t
    falls-first q = omega (arith, q, p.within)

    pub reads_first : (o m follow e : ℕ) → m + construct_count b ≤ 48
        → Reads s (record { at = spot.at + 2; depth = spot.depth - 1; owner = o; part = m; node = spot.node + 1; follow = follow; edge = e })
    reads_first o m follow e parts =
        record { fuel = fuel; block = b; last = p.close; enough = p.enough; read = p.read; nodes-fit = p.nodes-fit; parts-fit = parts }

    -- where a way into the block leads
    pub leads-first : {r : ℕ} (k follow : ℕ) → r ≡ ahead_of s (spot.at + 2) k follow → r ≡ first b k follow
    leads-first k follow q = q ∙ ahead-first s (spot.depth - 1) (spot.at + 2) b p.close fuel (omega (arith, p.enough)) p.read k follow

    -- what the reader told of that block
    module _ {answer : Told} (tells : (f : ℕ) → length s - (spot.at + 2) < f → answer ≡ extent_of (block_of f s (spot.depth - 1) (spot.at + 2))) where
      pub told : {got : Extent} → answer ≡ Ok got → (got.next ≡ p.close) × (got.nodes ≡ node_count b) × (got.constructs ≡ construct_count b)
      told {got} q =
          let e : ◌≡◌ {A = Told} (Ok got) (reached p.close (node_count b) (construct_count b)) = sym q ∙ tells fuel p.enough ∙ ap extent_of p.read in
          let same : got ≡ record { next = p.close; nodes = node_count b; constructs = construct_count b } = cc in
          (ap (λ (x : Extent). x.next) same, ap (λ (x : Extent). x.nodes) same, ap (λ (x : Extent). x.constructs) same)

      pub never-stopped : {refusal : Refusal} → answer ≡ Err refusal → ⊥
      never-stopped {refusal} q =
          let e : ◌≡◌ {A = Told} (Err refusal) (reached p.close (node_count b) (construct_count b)) = sym q ∙ tells fuel p.enough ∙ ap extent_of p.read in
          bad (cc)

  -- a branch's blocks, by what the reader told of the first: where it closes, how many nodes and constructs it has
  pub record Second {n fuel : ℕ} {i : Item} (p : InBranch s spot n fuel i) (x y z : ℕ) : Type 0 where
    pub past : spot.at + 2 ≤ x + 2
    pub within : x + 2 ≤ length s
    pub enough : length s - (x + 2) < fuel
    pub read : block_of fuel s (spot.depth - 1) (x + 2) ≡ up_to p.other p.other-close
    pub to-second : spot.node + 1 + node_count p.one ≡ spot.node + 1 + y
    pub second-few : spot.node + 1 + y ≤ 191
    pub to-join : spot.node + 1 + y + node_count p.other ≡ spot.node + n - 1
    pub to-parts : z ≡ construct_count p.one

  pub told-branch : {n fuel : ℕ} {i : Item} (p : InBranch s spot n fuel i) {answer : Told} {got : Extent} → Within (spot.at + 2) (length s) answer
      → ((f : ℕ) → length s - (spot.at + 2) < f → answer ≡ extent_of (block_of f s (spot.depth - 1) (spot.at + 2))) → answer ≡ Ok got → Second p got.next got.nodes got.constructs
  told-branch p {answer} {got} within tells q =
      let is = told p.inside tells q in
      let from = (within-read (spot.at + 2) (length s) q within).0 in
      let place : p.inside.close ≡ got.next = sym is.0 in
      record {
        past = omega arith;
        within = omega (arith, p.other-within);
        enough = omega (arith, p.inside.enough);
        read = rw place at p.other-read;
        to-second = omega (arith, is.1);
        second-few = omega (arith, is.1, p.inside.nodes-fit);
        to-join = omega (arith, is.1, p.size);
        to-parts = is.2;
      }

  -- what is asked to fill the second block
  pub falls-second : {n fuel : ℕ} {i : Item} (p : InBranch s spot n fuel i) {x y z : ℕ} → Second p x y z → {t : ℕ} → 4 * (length s - spot.at) ≡ t
      → 4 * (length s - (x + 2)) + 2 < t
  falls-second p w q = omega (arith, q, p.inside.within, w.past)

  pub reads_second : {n fuel : ℕ} {i : Item} (p : InBranch s spot n fuel i) {x y z : ℕ} → Second p x y z → (o follow e : ℕ) → spot.part + construct_count (put i end) ≤ 48
      → Reads s (record { at = x + 2; depth = spot.depth - 1; owner = o; part = spot.part + z; node = spot.node + 1 + y; follow = follow; edge = e })
  reads_second {fuel = fuel} p w o follow e parts = record {
    fuel = fuel;
    block = p.other;
    last = p.other-close;
    enough = w.enough;
    read = w.read;
    nodes-fit = omega (arith, p.join-few, w.to-join);
    parts-fit = omega (arith, p.parts_are, w.to-parts);
  }

  pub leads-second : {n fuel : ℕ} {i : Item} (p : InBranch s spot n fuel i) {x y z : ℕ} → Second p x y z → {r : ℕ} (k follow : ℕ) → r ≡ ahead_of s (x + 2) k follow
      → r ≡ first p.other k follow
  leads-second {fuel = fuel} p {x} w k follow q = q ∙ ahead-first s (spot.depth - 1) (x + 2) p.other p.other-close fuel (omega (arith, w.enough)) w.read k follow
