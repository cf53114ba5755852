-- The loop over the items of a block: what is left of the block, and how its records complete those of the whole.
-- Assumes nothing.
use mathlib.Core.Path.{◌≡◌, refl, ap, sym, ◌∙◌}
use mathlib.Core.Logic.{◌≢◌}
use mathlib.Core.List.{List, ◌++◌}
use Prim.Native.Nat.{ℕ, pred, ◌+◌, ◌-◌, ◌≤◌, ◌<◌}
use native.Mathlib.Omega.{arith}
use lib.ListN.{length, get_or}
use Rattle.lists.specs.Truth.{bad}
use Rattle.chart.specs.declared.format.Refusal.{Refusal}
use Rattle.theory_listing.specs.Tree.{Block, end, node_count, construct_count, first, cells, constructs}
use Rattle.theory_listing.specs.Grammar.{close_brace, put, up_to, block_of}
use Rattle.theory_listing.specs.Items.{cells-item, constructs-item}
use Rattle.std.specs.Prelude.{Ok, Err}
use Rattle.call_listing.specs.declared.reader.Extent.{Extent}
use Rattle.call_listing.specs.Extent.{Told, reached, extent_of, alone, item_extent}
use Rattle.call_listing.specs.Stored.{Stored, StoredParts}
use Rattle.call_listing.specs.declared.tables.Spot.{Spot}
use Rattle.call_listing.specs.Reads.{Takes, Filled, ahead_of}
use Rattle.call_listing.proofs.Joining.{stored-joined, parts-joined, stored-none, parts_none}
use Rattle.call_listing.proofs.Begins.{nodes-put, parts-put, Begun, begun, ended, ended-brace, ahead-first}

-- Of the block b at a spot, what is left where filling goes on.
pub record Left (s : List ℕ) (spot here : Spot) (b : Block) (last : ℕ) (N₀ E₀ C₀ N E C : List ℕ) : Type 0 where
  pub fuel : ℕ
  pub rest : Block
  pub enough : length s - here.at < fuel
  pub read : block_of fuel s spot.depth here.at ≡ up_to rest last
  pub nodes-are : here.node + node_count rest ≡ spot.node + node_count b
  pub parts_are : here.part + construct_count rest ≡ spot.part + construct_count b
  pub completes : (e : ℕ) (N' E' C' : List ℕ)
      → Stored (cells rest spot.owner here.part here.node spot.follow) here.node (spot.node + node_count b) here.edge e N E N' E'
      → StoredParts (constructs rest spot.owner here.part) here.part (spot.part + construct_count b) C C'
      → Filled b spot e N₀ E₀ C₀ N' E' C'

-- The spot of the item there, which a node follows.
abbrev pub spot_of : Spot → Spot → ℕ → Spot
spot_of spot here follow = record { at = here.at; depth = spot.depth; owner = spot.owner; part = here.part; node = here.node; follow = follow; edge = here.edge }

pub left-all : (s : List ℕ) (spot : Spot) (b : Block) (last : ℕ) (N E C : List ℕ) (f : ℕ) → length s - spot.at < f → block_of f s spot.depth spot.at ≡ up_to b last
    → Left s spot spot b last N E C N E C
left-all s spot b last N E C f h r = record {
  fuel = f;
  rest = b;
  enough = h;
  read = r;
  nodes-are = refl;
  parts_are = refl;
  completes = λ e N' E' C' st p. (st, p);
}

module _ {s : List ℕ} {spot here : Spot} {b : Block} {last : ℕ} {N₀ E₀ C₀ N E C : List ℕ} (l : Left s spot here b last N₀ E₀ C₀ N E C) where
  pub left-none : end ≡ l.rest → Filled b spot here.edge N₀ E₀ C₀ N E C
  unfolding cells constructs node_count construct_count
  left-none q =
      let n : here.node + 0 ≡ spot.node + node_count b = rw (sym q) at l.nodes-are in
      let p : here.part + 0 ≡ spot.part + construct_count b = rw (sym q) at l.parts_are in
      l.completes here.edge N E C
      (rw (sym q) (stored-none here.node (spot.node + node_count b) here.edge N E (omega (arith, n))))
      (rw (sym q) (parts_none here.part (spot.part + construct_count b) C (omega (arith, p))))

  -- nothing is left at a brace, and at the text's end
  pub left-brace : here.at < length s → get_or s here.at 0 ≡ close_brace → Filled b spot here.edge N₀ E₀ C₀ N E C
  left-brace below brace = left-none (ended-brace s spot.depth here.at l.rest last l.fuel (omega (arith, l.enough)) below brace l.read)

  pub left_ended : length s ≤ here.at → Filled b spot here.edge N₀ E₀ C₀ N E C
  left_ended h = left-none (ended s spot.depth here.at l.rest last l.fuel (omega (arith, l.enough)) h l.read)

  module _ (below : here.at < length s) (other : get_or s here.at 0 ≢ close_brace) where
    pub turn : Begun (pred l.fuel) s spot.depth here.at l.rest last
    turn = begun s spot.depth here.at l.rest last l.fuel (omega (arith, l.enough)) below other l.read

    -- what the reader told of the item
    module _ {told : Told} (tells : (f : ℕ) → length s - here.at ≤ f → told ≡ item_extent f s spot.depth here.at) where
      is-turn : told ≡ reached turn.next (node_count (put turn.what end)) (construct_count (put turn.what end))
      is-turn = tells (pred l.fuel) (omega (arith, l.enough)) ∙ ap (λ r. extent_of (alone r)) turn.item-read

      pub never : {refusal : Refusal} → told ≡ Err refusal → ⊥
      never q = let e = is-turn in bad (cc)

      module _ {got : Extent} (q : told ≡ Ok got) where
        record Turned : Type 0 where
          to-next : got.next ≡ turn.next
          to-nodes : got.nodes ≡ node_count (put turn.what end)
          to-parts : got.constructs ≡ construct_count (put turn.what end)
          nodes-left : here.node + got.nodes + node_count turn.rest ≡ spot.node + node_count b
          parts-left : here.part + got.constructs + construct_count turn.rest ≡ spot.part + construct_count b

        turned : Turned
        turned =
            let e = is-turn in
            let same : got ≡ record { next = turn.next; nodes = node_count (put turn.what end); constructs = construct_count (put turn.what end) } = cc in
            let n-is = ap (λ (x : Extent). x.nodes) same in
            let c-is = ap (λ (x : Extent). x.constructs) same in
            let nodes : node_count (put turn.what turn.rest) ≡ node_count l.rest = ap node_count turn.whole in
            let parts : construct_count (put turn.what turn.rest) ≡ construct_count l.rest = ap construct_count turn.whole in
            record {
              to-next = ap (λ (x : Extent). x.next) same;
              to-nodes = n-is;
              to-parts = c-is;
              nodes-left = omega (arith, nodes-put turn.what turn.rest, l.nodes-are);
              parts-left = omega (arith, parts-put turn.what turn.rest, l.parts_are);
            }

        -- the item was read and fits, as the block does
        pub takes : (follow : ℕ) → spot.node + node_count b ≤ 191 → spot.part + construct_count b ≤ 48 → Takes s (spot_of spot here follow) got.nodes × (here.part + got.constructs ≤ 48)
        takes follow nodes parts =
            let w = turned in (
              record {
                fuel = pred l.fuel;
                item = turn.what;
                next = turn.next;
                below = below;
                enough = omega (arith, l.enough);
                read = turn.item-read;
                counted = λ f i x h r.
                    let e : ◌≡◌ {A = Told} (Ok got) (reached x (node_count (put i end)) (construct_count (put i end))) = sym q ∙ tells f h ∙ ap (λ v. extent_of (alone v)) r in
                    let same : got ≡ record { next = x; nodes = node_count (put i end); constructs = construct_count (put i end) } = cc in
                    ap (λ (x : Extent). x.nodes) same;
                nodes-fit = omega (arith, w.nodes-left);
                parts-fit = omega (arith, w.to-parts, w.parts-left);
              },
              omega (arith, w.parts-left),
            )

        -- and what is left after it
        pub left-next : {follow e1 : ℕ} {N1 E1 C1 : List ℕ} → here.at < got.next → follow ≡ ahead_of s got.next (here.node + got.nodes) spot.follow
            → Filled (put turn.what end) (spot_of spot here follow) e1 N E C N1 E1 C1
            → Left s spot (record { at = got.next; depth = spot.depth; owner = spot.owner; part = here.part + got.constructs; node = here.node + got.nodes; follow = spot.follow; edge = e1 }) b last N₀ E₀ C₀ N1 E1 C1
        left-next {follow} {e1} {N1} {E1} {C1} up qf h =
            let w = turned in
            let i = turn.what in
            let r = turn.rest in
            let k = here.node + got.nodes in
            let m = here.part + got.constructs in
            let node : here.node + node_count (put i end) ≡ k = omega (arith, w.to-nodes) in
            let part : here.part + construct_count (put i end) ≡ m = omega (arith, w.to-parts) in
            let read : block_of (pred l.fuel) s spot.depth got.next ≡ up_to r last = ap (λ n. block_of (pred l.fuel) s spot.depth n) w.to-next ∙ turn.rest_read in
            let way : follow ≡ first r k spot.follow =
            qf ∙ ahead-first s spot.depth got.next r last (pred l.fuel) (omega (arith, l.enough, below)) read k spot.follow in
            record {
              fuel = pred l.fuel;
              rest = r;
              enough = omega (arith, l.enough, up);
              read = read;
              nodes-are = w.nodes-left;
              parts_are = w.parts-left;
              completes = λ e N' E' C' st p.
                  let cs : cells l.rest spot.owner here.part here.node spot.follow
                  ≡ cells (put i end) spot.owner here.part here.node follow ++ cells r spot.owner m k spot.follow =
                  ap (λ (z : Block). cells z spot.owner here.part here.node spot.follow) (sym turn.whole)
                  ∙ rw (node, part, sym way) at (cells-item i r spot.owner here.part here.node spot.follow) in
                  let ps : constructs l.rest spot.owner here.part ≡ constructs (put i end) spot.owner here.part ++ constructs r spot.owner m =
                  ap (λ (z : Block). constructs z spot.owner here.part) (sym turn.whole) ∙ rw part at (constructs-item i r spot.owner here.part) in
                  l.completes e N' E' C'
                  (rw cs (stored-joined (cells (put i end) spot.owner here.part here.node follow) (cells r spot.owner m k spot.follow) (rw node at h.0) st))
                  (rw ps (parts-joined (constructs (put i end) spot.owner here.part) (constructs r spot.owner m) here.part m (spot.part + construct_count b) C C1 C' (rw part at h.1) p));
            }
