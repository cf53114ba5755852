-- Sets of nodes that a node may meet, by the bits of their words.
-- Assumes nothing.
use mathlib.Core.Path.{◌≡◌, refl, ◌∙◌}
use mathlib.Core.Bool.{Bool, true, false, ◌&&◌, not}
use mathlib.Core.List.{List}
use Prim.Native.Nat.{ℕ, ◌+◌}
use lib.Bits.{bit_and}
use lib.Dec.{eqb}
use lib.ListN.{get_or}
use Rattle.lists.specs.Bits.{has}
use Rattle.answer_pairs.specs.declared.rules.Profile.{Profile}
use Rattle.answer_nodes.specs.NodeSets.{SharedFrom}
use Rattle.answer_nodes.proofs.BitTests.{has-and}
use Rattle.answer_met.specs.Meets.{unbarred, meets, SetFrom}
use Rattle.answer_constructs.specs.declared.mask_table.MaskTable.{MaskTable}

module _ (closed : List ℕ) (marks : MaskTable) (own : Profile) (first : ℕ) where
  -- of 64 nodes, those that share a start and hold no construct in common
  pub unbarred-from : (s h r : ℕ) → SharedFrom closed marks.starts own.starts first s → SharedFrom closed marks.held own.held first h
      → ((j : ℕ) → has r j ≡ (has s j && not (has h j))) → SetFrom closed (unbarred own marks) first r
  unfolding unbarred
  unbarred-from s h r S H W j l = W j ∙ rw (S j l, H j l) (go (eqb (get_or closed (first + j) 0) 0) _ _)
    where
      go : (o s h : Bool) → ((o && s) && not (o && h)) ≡ (o && (s && not h))
      go true s h = refl
      go false s h = refl

  -- and of these, those that share an end
  pub met-from : (set e : ℕ) → SetFrom closed (unbarred own marks) first set → SharedFrom closed marks.ends own.ends first e
      → SetFrom closed (meets own marks) first (bit_and set e)
  unfolding meets
  met-from set e S E j l = has-and set e j ∙ rw (S j l, E j l) (go (eqb (get_or closed (first + j) 0) 0) _ _)
    where
      go : (o u e : Bool) → ((o && u) && (o && e)) ≡ (o && (u && e))
      go true u e = refl
      go false u e = refl
