-- The rows of the call: those of reading, and those that are left for the chart.
-- Assumes nothing.
use mathlib.Core.Path.{◌≡◌, refl, ap, sym, ◌∙◌}
use mathlib.Core.Logic.{inl, inr}
use mathlib.Core.Bool.{Bool, true, false}
use mathlib.Core.List.{List}
use mathlib.Core.Option.{none, some}
use Prim.Native.Nat.{ℕ, ◌+◌, ◌*◌, ◌≤◌, ◌<◌}
use native.Mathlib.Omega.{arith}
use lib.Dec.{ltb}
use lib.ListN.{length}
use borrow.Author.Tests.{lt-ltb, le-ltb, ltb-false}
use Rattle.lists.specs.Truth.{bad, or-neither}
use Rattle.chart.specs.Format.{decode, construct_bytes}
use Rattle.chart.specs.Refusal.{bad_nodes, bad_constructs, bad_barriers, first_of, numbered}
use Rattle.chart.specs.Checked.{Laid, counts_of}
use Rattle.chart.specs.declared.format.Chart.{Chart}
use Rattle.chart.specs.declared.format.Refusal.{Refusal}
use Rattle.chart.proofs.Accepted.{laid}
use Rattle.output.specs.Output.{room_row, output_rows, written_by, left_by}
use Rattle.chart_writing.specs.Trailer.{trailer_for}
use Rattle.theory_listing.specs.Tree.{Block, node_count, construct_count}
use Rattle.theory_listing.specs.Grammar.{Read, up_to, stopped, pick, listed}
use Rattle.theory_listing.specs.GrammarLaws.{Kinds, Fine, listed-fine}
use Rattle.theory_listing.specs.Meaning.{block_bytes}
use Rattle.theory_listing.specs.Call.{block_read, stopped_by, too_many, block_rows, listing_bytes, listing_rows, listing_written, listing_left}
use Rattle.theory_listing.proofs.Counts.{too_many_lem, length-block_constructs}
use Rattle.theory_listing.proofs.BlockTables.{length-nodes}
use Rattle.theory_listing.proofs.Admitted.{block-decoded, block-laid}
use Rattle.std.specs.Prelude.{Ok, Err}
use Rattle.call_listing.specs.declared.reader.Extent.{Extent}
use Rattle.call_listing.specs.Extent.{extent_of, limited_to}
use Rattle.call_listing.specs.Chart.{counts_for, ListedWithin, late_rows}
use Rattle.call_listing.proofs.TablesLaws.{same-chart}
use Rattle.chart.specs.declared.format.Refusal.TheVariants.{BadNodes, BadConstructs, BadBarriers, NoRoom, TooLarge}

module _ (bytes : List ℕ) (room : ℕ) where
  pub five : bad_nodes (decode bytes) ≡ true → first_of (late_rows bytes room) ≡ some BadNodes
  unfolding late_rows first_of
  five h = rw h

  module _ (no-five : bad_nodes (decode bytes) ≡ false) where
    pub six : bad_constructs (decode bytes) ≡ true → first_of (late_rows bytes room) ≡ some BadConstructs
    unfolding late_rows first_of
    six h = rw (no-five, h)

    module _ (no_six : bad_constructs (decode bytes) ≡ false) where
      pub eight : bad_barriers (decode bytes) ≡ true → first_of (late_rows bytes room) ≡ some BadBarriers
      unfolding late_rows first_of
      eight h = rw (no-five, no_six, h)

      module _ (no-eight : bad_barriers (decode bytes) ≡ false) where
        pub eleven : room < length bytes → first_of (late_rows bytes room) ≡ some NoRoom
        unfolding late_rows first_of room_row
        eleven h = rw (no-five, no_six, no-eight, lt-ltb room (length bytes) h)

        pub no_row : length bytes ≤ room → first_of (late_rows bytes room) ≡ none
        unfolding late_rows first_of room_row
        no_row h = rw (no-five, no_six, no-eight, le-ltb room (length bytes) h)

module _ (text : List ℕ) (nodes constructs : ℕ) (small : ListedWithin text nodes constructs) where
  abbrev b : Block
  b = small.block

  pub few : too_many small.block ≡ false
  few =
      too_many_lem b
      ∙ rw (le-ltb 190 (node_count b) (omega (arith, small.node-count, small.nodes-fit)), le-ltb 48 (construct_count b) (omega (arith, small.construct-count, small.constructs-fit)))

  pub small-laid : Laid (block_bytes small.block) (counts_for small.block)
  unfolding counts_of trailer_for
  small-laid =
      let counts : counts_of (block_bytes b) ≡ counts_for b =
      rw (block-decoded b) (same-chart refl (length-nodes b) refl (length-block_constructs b) refl) in
      rw counts at (laid (block_bytes b) (block-laid b few))

  pub small-counts : (chart : Chart) → chart ≡ counts_for small.block
      → (chart.nodes ≤ 192) × (chart.edges ≤ 1024) × (chart.constructs ≤ 48)
      × (length (block_bytes small.block) ≡ 4 * chart.nodes + 2 * chart.edges + 4 * chart.constructs + 16)
  unfolding construct_bytes
  small-counts chart q = rw q (small-laid.nodes-most, small-laid.edges_most, small-laid.constructs-most, small-laid.whole)

  -- the rows before these do not apply
  pub late-listing : (out : List ℕ)
      → (written_by (late_rows (block_bytes small.block) (length out)) (length (block_bytes small.block)) ≡ listing_written text out)
      × (left_by (late_rows (block_bytes small.block) (length out)) (block_bytes small.block) out ≡ listing_left text out)
  unfolding listing_written listing_left listing_rows output_rows block_rows listing_bytes late_rows written_by left_by block_read stopped_by first_of
  late-listing out = (rw (small.read, few, block-decoded b), rw (small.read, few, block-decoded b))

module _ (text : List ℕ) where
  -- few enough nodes and constructs were read
  pub small-read : (all : Extent) → Ok all ≡ limited_to (listed text) → ListedWithin text all.nodes all.constructs
  unfolding limited_to
  small-read all h = go (listed text) refl h
    where
      on : (b : Block) (x : ℕ) → listed text ≡ up_to b x → (y : Bool) → too_many b ≡ y → Ok all ≡ pick y (λ u. Err TooLarge) (λ u. extent_of (up_to b x)) → ListedWithin text all.nodes all.constructs
      on b x r true t q = absurd (bad (cc))
      on b x r false t q =
          let same : all ≡ record { next = x; nodes = node_count b; constructs = construct_count b } = cc in
          let n = ap (λ (e : Extent). e.nodes) same in
          let c = ap (λ (e : Extent). e.constructs) same in
          let limits = or-neither (ltb 190 (node_count b)) (ltb 48 (construct_count b)) (sym (too_many_lem b) ∙ t) in
          record {
            block = b;
            last = x;
            read = r;
            node-count = n;
            construct-count = c;
            nodes-fit = omega (arith, n, ltb-false 190 (node_count b) limits.0);
            constructs-fit = omega (arith, c, ltb-false 48 (construct_count b) limits.1);
          }

      go : (read : Read Block) → listed text ≡ read → Ok all ≡ limited_to read → ListedWithin text all.nodes all.constructs
      go (up_to b x) r q = on b x r (too_many b) refl q
      go (stopped number) r q = absurd (bad (cc))

  -- 14, 15 or 16
  pub refused-read : (refusal : Refusal) (room : ℕ) → Err refusal ≡ limited_to (listed text) → first_of (listing_rows text room) ≡ some refusal
  unfolding limited_to listing_rows output_rows block_rows first_of stopped_by block_read
  refused-read refusal room h = go (listed text) refl (listed-fine text) h
    where
      over : (b : Block) (x : ℕ) → listed text ≡ up_to b x → (y : Bool) → too_many b ≡ y → Err refusal ≡ pick y (λ u. Err TooLarge) (λ u. extent_of (up_to b x)) → first_of (listing_rows text room) ≡ some refusal
      over b x r true t q = let same : refusal ≡ TooLarge = cc in rw (r, t, same)
      over b x r false t q = absurd (bad (cc))

      go : (read : Read Block) → listed text ≡ read → Fine Kinds (length text) (length text) read → Err refusal ≡ limited_to read → first_of (listing_rows text room) ≡ some refusal
      go (up_to b x) r f q = over b x r (too_many b) refl q
      go (stopped number) r (inl e) q = let same : refusal ≡ numbered number = cc in rw (r, same, e)
      go (stopped number) r (inr e) q = let same : refusal ≡ numbered number = cc in rw (r, same, e)
