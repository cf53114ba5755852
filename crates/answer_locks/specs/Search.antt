-- The criticals that some pair of nodes needs, by masks of nodes.
-- Assumes nothing.
use Rattle.std.specs.Prelude.{◌≡◌, Bool, true, ◌&&◌, ◌||◌, List, [], ℕ, ◌<◌, eqb, get_or}
use Rattle.lists.specs.Range.{any}
use Rattle.lists.specs.Bits.{has}
use Rattle.lists.specs.Common.{common}
use Rattle.masks.specs.declared.unions.Words.{Words}
use Rattle.answer_pairs.specs.Rules.{profile_at}
use Rattle.answer_pairs.specs.declared.rules.Profile.{Profile}
use Rattle.answer_met.specs.Meets.{unbarred, meets}
use Rattle.answer_locks.specs.declared.needed.Tried.{Tried}
use Rattle.answer_constructs.specs.declared.mask_table.MaskTable.{MaskTable}

-- A node of the set has bit c of the names.
unfoldable pub has_named : Words → List (List ℕ) → ℕ → Bool
has_named set named c =
    common set.low (get_or (get_or named 0 []) c 0) || (common set.middle (get_or (get_or named 1 []) c 0) || common set.high (get_or (get_or named 2 []) c 0))

-- Some node that is not closed and has bit c of the names passes the test.
unfoldable pub partner : List ℕ → List ℕ → (ℕ → Bool) → ℕ → Bool
partner closed names test c = any 192 (λ y. (eqb (get_or closed y 0) 0 && has (get_or names y 0) c) && test y)

-- Node x is not closed, c is around it, and it has such a partner.
abbrev pub pairs : List ℕ → List ℕ → (ℕ → Bool) → ℕ → ℕ → ℕ → Bool
pairs closed names test flag around c = (eqb flag 0 && has around c) && partner closed names test c

-- Some node of the first n.
unfoldable pub some_pair : List ℕ → List ℕ → List ℕ → (ℕ → ℕ → Bool) → ℕ → ℕ → Bool
some_pair closed names around test n c = any n (λ x. pairs closed names (test x) (get_or closed x 0) (get_or around x 0) c)

-- Why a node need not be tried.
pub data Skips (flag : ℕ) (own : Profile) (around : ℕ) (last : Tried) : Type 0 where
  shut : (flag ≡ 0 → ⊥) → Skips flag own around last
  bare : around ≡ 0 → Skips flag own around last
  again : around ≡ last.around → own ≡ last.own → Skips flag own around last

-- A mask has what a node with these masks adds to it.
abbrev pub Covers : List ℕ → List ℕ → (ℕ → Bool) → ℕ → ℕ → Type 0
Covers closed names test around mask = (c : ℕ) → c < 64 → (has around c && partner closed names test c) ≡ true → has mask c ≡ true

-- Both masks have what the last node adds.
pub record Kept (closed : List ℕ) (marks : MaskTable) (names : List ℕ) (t : Tried) : Type 0 where
  pub ever : Covers closed names (unbarred t.own marks) t.around t.ever
  pub needed : Covers closed names (meets t.own marks) t.around t.needed

-- What a node adds to a mask.
abbrev pub Adds : List ℕ → List ℕ → (ℕ → Bool) → ℕ → ℕ → ℕ → ℕ → Type 0
Adds closed names test flag around old new = (c : ℕ) → c < 64 → has new c ≡ (has old c || pairs closed names test flag around c)

-- One node more.
pub record Tries (closed : List ℕ) (marks : MaskTable) (names : List ℕ) (flag : ℕ) (own : Profile) (around : ℕ) (last r : Tried) : Type 0 where
  pub ever : Adds closed names (unbarred own marks) flag around last.ever r.ever
  pub needed : Adds closed names (meets own marks) flag around last.needed r.needed
  pub kept : Kept closed marks names r

-- The first n nodes.
pub record Searched (closed : List ℕ) (marks : MaskTable) (names around : List ℕ) (n : ℕ) (t : Tried) : Type 0 where
  pub ever : (c : ℕ) → c < 64 → has t.ever c ≡ some_pair closed names around (λ x. unbarred (profile_at marks x) marks) n c
  pub needed : (c : ℕ) → c < 64 → has t.needed c ≡ some_pair closed names around (λ x. meets (profile_at marks x) marks) n c
  pub kept : Kept closed marks names t
