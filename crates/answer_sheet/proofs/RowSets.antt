-- A row from sets of nodes: an entry by what of the sets have its node.
-- Assumes nothing.
use mathlib.Core.Path.{◌≡◌, refl, ap, sym, ◌∙◌}
use mathlib.Core.Logic.{inl, inr}
use mathlib.Core.Bool.{Bool, true, false, ◌&&◌, ◌||◌, cond}
use mathlib.Core.List.{List}
use Prim.Native.Nat.{ℕ, ◌+◌, ◌*◌, ◌-◌, ◌/◌, ◌%◌, ◌^◌, ◌<◌}
use native.Mathlib.Omega.{arith}
use lib.Bits.{bit_and, bit_or, and_zero_l, or_comm}
use lib.Dec.{eqb}
use lib.ListN.{get_or}
use Rattle.lists.specs.Truth.{same_truth, and-false, or_cases as either, or_left, or_right}
use Rattle.lists.specs.Mask.{or_cases, or_left as in_left, or_right as in_right, or-more}
use Rattle.lists.specs.Bits.{has}
use Rattle.lists.specs.Common.{and_both, both-and, common}
use Rattle.answer_constructs.specs.declared.kinds.Sets.{Sets}
use Rattle.answer_constructs.specs.declared.mask_table.MaskTable.{MaskTable}
use Rattle.masks.specs.declared.unions.Words.{Words}
use Rattle.answer_pairs.specs.Rules.{profile_at, numbered-same, by_rules, by_size, rule_by, ruled_by, answer_by}
use Rattle.answer_pairs.specs.declared.rules.Profile.{Profile}
use Rattle.answer_nodes.specs.Shared.{common-of}
use Rattle.answer_nodes.specs.NodeSets.{SharedFrom, Sharing}
use Rattle.answer_nodes.proofs.BitTests.{has-and, none_has}
use Rattle.answer_sheet.specs.Eights.{covered, digit}
use Rattle.answer_sheet.specs.declared.eights.Planes.{Planes}
use Rattle.answer_sheet.specs.Sheet.{row_of, PhaseOnly, RuleSets}
use Rattle.answer_sheet.proofs.Ranks.{phase-digit}

-- three masks have a bit in common, whichever two are met first
turned : (x m y : ℕ) → common (bit_and x m) y ≡ true → common (bit_and x y) m ≡ true
turned x m y h =
    let (b, (p, q)) = (common-of (bit_and x m) y).0 h in
    let (r, s) = and_both x m b p in
    (common-of (bit_and x y) m).1 (b, (both-and x y b r q, s))

meets : (x m y : ℕ) → common (bit_and x m) y ≡ common (bit_and x y) m
meets x m y = same_truth _ _ (turned x m y) (turned x y m)

-- one of two masks meets a third
either_meets : (x y m : ℕ) → common (bit_or x y) m ≡ (common x m || common m y)
either_meets x y m = same_truth _ _
    (λ h. let (b, (p, q)) = (common-of (bit_or x y) m).0 h in elim (or_cases x y b p) [
      | inl r ↦ or_left (common x m) (common m y) ((common-of x m).1 (b, (r, q)))
      | inr r ↦ or_right (common x m) (common m y) ((common-of m y).1 (b, (q, r)))
    ])
    (λ h. elim (either (common x m) (common m y) h) [
      | inl r ↦ (let (b, (p, q)) = (common-of x m).0 r in (common-of (bit_or x y) m).1 (b, (in_left x y b p, q)))
      | inr r ↦ (let (b, (p, q)) = (common-of m y).0 r in (common-of (bit_or x y) m).1 (b, (in_right x y b q, p)))
    ])

-- two masks are 0 where their union is
pub or-none : (a b : ℕ) → bit_or a b ≡ 0 → (a ≡ 0) × (b ≡ 0)
or-none a b e = (omega (arith, or-more a b), omega (arith, or-more b a, or_comm a b))

-- one entry, where the sets have no node that is closed
module _ (closed : List ℕ) (marks : MaskTable) (sets : Sets) (own : Profile) (x : ℕ) where
  -- the entry by what of the sets have the node, and by what the team lacks
  abbrev made : (s e z : Bool) (rule : ℕ → Bool) → ℕ
  made s e z rule = by_size sets.alone (common own.held sets.missing || z) (by_rules (s && e) rule)

  -- a rule's set has it
  abbrev Met : Bool → (ℕ → Bool) → Type 0
  Met o rule = (k : ℕ) → k < 4 → rule k ≡ (o && common (bit_and own.held (get_or sets.kinds k 0)) (profile_at marks x).held)

  row-entry : {s e z : Bool} (rule : ℕ → Bool) → let o = eqb (get_or closed x 0) 0 in
      s ≡ (o && common own.starts (profile_at marks x).starts) → e ≡ (o && common own.ends (profile_at marks x).ends)
      → Met o rule → z ≡ (o && common sets.missing (profile_at marks x).held) → covered closed x (made s e z rule) ≡ row_of closed sets marks own x
  unfolding row_of covered by_rules ruled_by answer_by
  row-entry {s} {e} {z} rule = go (eqb (get_or closed x 0) 0)
    where
      go : (o : Bool) → s ≡ (o && common own.starts (profile_at marks x).starts) → e ≡ (o && common own.ends (profile_at marks x).ends)
          → Met o rule → z ≡ (o && common sets.missing (profile_at marks x).held)
          → cond o (made s e z rule) 255 ≡ cond o (answer_by sets own (profile_at marks x)) 255
      go true S E T Z =
          let y = (profile_at marks x).held in
          rw (
            S,
            E,
            numbered-same 4 rule (rule_by sets.kinds own.held y) (λ k l. T k l ∙ meets own.held (get_or sets.kinds k 0) y),
            Z,
            either_meets own.held y sets.missing,
          )
      go false S E T Z = refl

-- 64 entries, by their numbers before and after the team's size is looked at
word_row : (closed : List ℕ) (marks : MaskTable) (sets : Sets) (own : Profile) (w : ℕ) (f g : ℕ → ℕ) (s e z : ℕ) (rule : ℕ → ℕ)
    → SharedFrom closed marks.starts own.starts (64 * w) s → SharedFrom closed marks.ends own.ends (64 * w) e
    → ((k : ℕ) → k < 4 → SharedFrom closed marks.held (bit_and own.held (get_or sets.kinds k 0)) (64 * w) (rule k))
    → SharedFrom closed marks.held sets.missing (64 * w) z
    → ((j : ℕ) → f j ≡ by_rules (has (bit_and s e) j) (λ k. has (rule k) j))
    → ((j : ℕ) → j < 64 → g j ≡ by_size sets.alone (common own.held sets.missing || has z j) (f j))
    → (j : ℕ) → j < 64 → covered closed (64 * w + j) (g j) ≡ row_of closed sets marks own (64 * w + j)
unfolding profile_at
word_row closed marks sets own w f g s e z rule S E T Z ranks sized j l =
    let x = 64 * w + j in
    let ruled = ranks j ∙ ap (λ (b : Bool). by_rules b (λ k. has (rule k) j)) (has-and s e j) in
    ap (covered closed x) (sized j l ∙ ap (by_size sets.alone (common own.held sets.missing || has z j)) ruled)
    ∙ row-entry closed marks sets own x (λ k. has (rule k) j) (S j l) (E j l) (λ k m. T k m j l) (Z j l)

-- no node shares a bit with the empty mask
none-shared : (closed masks : List ℕ) (first mask : ℕ) → mask ≡ 0 → SharedFrom closed masks mask first 0
none-shared closed masks first mask q j l = rw (q, none_has j, and_zero_l (get_or masks (first + j) 0)) (sym (and-false (eqb (get_or closed (first + j) 0) 0)))

-- 64 entries of a node to which only the first rule can apply: no other set has a node
pub phase-word : (closed : List ℕ) (marks : MaskTable) (sets : Sets) (own : Profile) (w s e : ℕ) → PhaseOnly sets own.held
    → SharedFrom closed marks.starts own.starts (64 * w) s → SharedFrom closed marks.ends own.ends (64 * w) e
    → (j : ℕ) → j < 64 → covered closed (64 * w + j) (1 - bit_and s e / 2 ^ j % 2) ≡ row_of closed sets marks own (64 * w + j)
unfolding by_size
phase-word closed marks sets own w s e O S E =
    word_row closed marks sets own w number number s e 0 (λ k. 0) S E kind
    (none-shared closed marks.held (64 * w) sets.missing O.lacks-none) (λ j. rw (none_has j) (phase-digit (bit_and s e) j))
    (λ j l. rw (O.several, O.holds-none, and_zero_l sets.missing, none_has j))
  where
    number : ℕ → ℕ
    number j = 1 - bit_and s e / 2 ^ j % 2

    kind : (k : ℕ) → k < 4 → SharedFrom closed marks.held (bit_and own.held (get_or sets.kinds k 0)) (64 * w) 0
    kind k l = none-shared closed marks.held (64 * w) (bit_and own.held (get_or sets.kinds k 0)) (rw O.holds-none (and_zero_l (get_or sets.kinds k 0)))

module _ (closed : List ℕ) (marks : MaskTable) (sets : Sets) (own : Profile) {s e z : Words} {low middle high : List ℕ}
    (S : Sharing closed marks.starts own.starts s) (E : Sharing closed marks.ends own.ends e)
    (T : RuleSets closed marks.held own.held sets.kinds low middle high)
    (Z : Sharing closed marks.held sets.missing z) {lacks : Bool} (L : lacks ≡ common own.held sets.missing)
  where
    pub low-row : (p q : Planes) → ((j : ℕ) → digit p j ≡ by_rules (has (bit_and s.low e.low) j) (λ k. has (get_or low k 0) j))
        → ((j : ℕ) → j < 64 → digit q j ≡ by_size sets.alone (lacks || has z.low j) (digit p j))
        → (j : ℕ) → j < 64 → covered closed (64 * 0 + j) (digit q j) ≡ row_of closed sets marks own (64 * 0 + j)
    low-row p q ranks sized = word_row closed marks sets own 0 (digit p) (digit q) s.low e.low z.low (λ k. get_or low k 0)
        S.low E.low T.in-low Z.low ranks (rw L at sized)

    pub middle-row : (p q : Planes) → ((j : ℕ) → digit p j ≡ by_rules (has (bit_and s.middle e.middle) j) (λ k. has (get_or middle k 0) j))
        → ((j : ℕ) → j < 64 → digit q j ≡ by_size sets.alone (lacks || has z.middle j) (digit p j))
        → (j : ℕ) → j < 64 → covered closed (64 * 1 + j) (digit q j) ≡ row_of closed sets marks own (64 * 1 + j)
    middle-row p q ranks sized = word_row closed marks sets own 1 (digit p) (digit q) s.middle e.middle z.middle (λ k. get_or middle k 0)
        S.middle E.middle T.in-middle Z.middle ranks (rw L at sized)

    pub high-row : (p q : Planes) → ((j : ℕ) → digit p j ≡ by_rules (has (bit_and s.high e.high) j) (λ k. has (get_or high k 0) j))
        → ((j : ℕ) → j < 64 → digit q j ≡ by_size sets.alone (lacks || has z.high j) (digit p j))
        → (j : ℕ) → j < 64 → covered closed (64 * 2 + j) (digit q j) ≡ row_of closed sets marks own (64 * 2 + j)
    high-row p q ranks sized = word_row closed marks sets own 2 (digit p) (digit q) s.high e.high z.high (λ k. get_or high k 0)
        S.high E.high T.in-high Z.high ranks (rw L at sized)
