-- What row 6 of the refusals stands for, as facts over the constructs of a chart, and that the row's test fails exactly where they hold.
-- A name that ends in `fit` or `fits` goes from the test to the facts, one that begins with `fit` goes back.
-- Assumes nothing.
use mathlib.Core.Path.{◌≡◌, refl, sym, ◌∙◌}
use mathlib.Core.Logic.{inl, inr, ◌≢◌}
use mathlib.Core.Bool.{Bool, true, false, ◌&&◌, ◌||◌, not, beq}
use mathlib.Core.List.{List}
use Prim.Native.Nat.{ℕ, ◌≤◌, ◌<◌}
use native.Mathlib.Omega.{arith}
use lib.Dec.{eqb, ltb}
use lib.ListN.{length}
use borrow.Author.Tests.{ltb-true, ltb-false, eqb-true, eqb-false, not-true, not-false, lt-ltb, le-ltb, eq-eqb, ne_eqb}
use Rattle.lists.specs.Truth.{truth, clash, same_truth, beq-equal, true-not, and-false, or-neither, neither-or, and-fails, fails-and, not_eqb, eq-not-eqb}
use Rattle.lists.specs.Range.{any, none_passes, any_none}
use Rattle.chart.specs.Format.{outside, Construct, Decoded, node_at, construct_at}
use Rattle.chart.specs.Scope.{begin_node, master_byte, critical_byte, loop_byte, ordered_byte, sections_byte, section_byte, kind_of, parent_of}
use Rattle.chart.specs.Nested.{is_parallel}
use Rattle.chart.specs.Nesting.{kinds, may_enclose, encloses_near, same_critical, excluded, wrongly_above, misplaced, misnested}
use Rattle.chart.specs.Refusal.{foreign_number, bad_construct, bad_alone, stray_node, bad_constructs}
use Rattle.chart.proofs.Tree.{Below, below_more, lower}
use Rattle.chart.proofs.Near.{Near, near-encloses, near-computed, near-computes}

-- a number that is neither below a bound nor outside
pub below-fits : (bound p : ℕ) → (not (ltb p bound) && not (eqb p outside)) ≡ false → Below bound p
below-fits bound p h = elim (truth (ltb p bound)) [
  | inl l ↦ inr (ltb-true p bound l)
  | inr l ↦ inl (not_eqb p outside (and-fails (not (ltb p bound)) (not (eqb p outside)) h (rw l)))
]

pub fit-below : (bound p : ℕ) → Below bound p → (not (ltb p bound) && not (eqb p outside)) ≡ false
fit-below bound p (inl q) = rw (eq-eqb p outside q) (and-false (not (ltb p bound)))
fit-below bound p (inr l) = rw (lt-ltb p bound l)

-- Row 6, of a construct by itself.
pub record ConstructFits (c kind parent name filter : ℕ) : Type 0 where
  pub least : 1 ≤ kind
  pub most : kind ≤ kinds
  pub parent-lower : Below c parent
  pub unnamed : kind ≢ critical_byte → name ≡ 0
  pub unfiltered : kind ≢ master_byte → filter ≡ 0

-- A construct of this kind and name may stand below one of the kind `above`.
pub record MayStand (kind name above above_name : ℕ) : Type 0 where
  pub kinds : may_enclose (kind_of kind) (kind_of above) ≡ true
  pub names : kind ≡ critical_byte → above ≡ critical_byte → name ≢ above_name

-- A construct of the kind `kind` may have a parent of the kind `above`.
pub record Placed (kind above : ℕ) : Type 0 where
  pub in-loop : kind ≡ ordered_byte → above ≡ loop_byte
  pub in-sections : kind ≡ section_byte → above ≡ sections_byte
  pub is-section : above ≡ sections_byte → kind ≡ section_byte

-- Row 6, of a construct among the others of its region.
pub record Nests (constructs : List Construct) (c : ℕ) : Type 0 where
  pub below : {k : ℕ} → Near (parent_of constructs) (is_parallel constructs) (parent_of constructs c) k
      → MayStand (construct_at constructs c).kind (construct_at constructs c).name (construct_at constructs k).kind (construct_at constructs k).name
  pub placed : Placed (construct_at constructs c).kind (construct_at constructs (parent_of constructs c)).kind

abbrev pub Alone : List Construct → Type 0
Alone constructs =
    (c : ℕ) → c < length constructs
    → let k = construct_at constructs c in ConstructFits c k.kind k.parent k.name k.filter

pub record ConstructsFit (D : Decoded) : Type 0 where
  pub alone : Alone D.constructs
  pub nested : (c : ℕ) → c < length D.constructs → Nests D.constructs c
  -- only begins and ends lie directly in a sections
  pub bare : (x : ℕ) → x < length D.nodes → (node_at D.nodes x).kind < begin_node → (construct_at D.constructs (node_at D.nodes x).number).kind ≢ sections_byte

-- a number that only one kind has
only-fits : (only kind number : ℕ) → foreign_number only kind number ≡ false → kind ≢ only → number ≡ 0
unfolding foreign_number
only-fits only kind number h n = not_eqb number 0 (and-fails (not (eqb kind only)) (not (eqb number 0)) h (rw (ne_eqb kind only n)))

fit-only : (only kind number : ℕ) → (kind ≢ only → number ≡ 0) → foreign_number only kind number ≡ false
unfolding foreign_number
fit-only only kind number h =
    fails-and (not (eqb kind only)) (not (eqb number 0)) (λ k. eq-not-eqb number 0 (h (eqb-false kind only (not-true (eqb kind only) k))))

pub construct-fits : (c kind parent name filter : ℕ) → bad_construct c kind parent name filter ≡ false → ConstructFits c kind parent name filter
unfolding bad_construct
construct-fits c kind parent name filter h =
    let a = or-neither (ltb kind 1 || ltb kinds kind) _ h in
    let b = or-neither (ltb kind 1) (ltb kinds kind) a.0 in
    let d = or-neither (not (ltb parent c) && not (eqb parent outside)) _ a.1 in
    let f = or-neither (foreign_number critical_byte kind name) (foreign_number master_byte kind filter) d.1 in
    record {
      least = ltb-false kind 1 b.0;
      most = ltb-false kinds kind b.1;
      parent-lower = below-fits c parent d.0;
      unnamed = only-fits critical_byte kind name f.0;
      unfiltered = only-fits master_byte kind filter f.1;
    }

pub fit-construct : (c kind parent name filter : ℕ) → ConstructFits c kind parent name filter → bad_construct c kind parent name filter ≡ false
unfolding bad_construct
fit-construct c kind parent name filter F =
    neither-or _ _ (neither-or _ _ (le-ltb kind 1 F.least) (le-ltb kinds kind F.most)) (neither-or _ _ (fit-below c parent F.parent-lower)
    (neither-or _ _ (fit-only critical_byte kind name F.unnamed) (fit-only master_byte kind filter F.unfiltered)))

stand-fits : (kind name above above_name : ℕ) → excluded kind name above above_name ≡ false → MayStand kind name above above_name
unfolding excluded same_critical
stand-fits kind name above above_name h =
    let a = or-neither (not (may_enclose (kind_of kind) (kind_of above))) _ h in
    record {
      kinds = not-false (may_enclose (kind_of kind) (kind_of above)) a.0;
      names = λ k j. eqb-false name above_name (and-fails (eqb above critical_byte) (eqb name above_name)
          (and-fails (eqb kind critical_byte) _ a.1 (eq-eqb kind critical_byte k)) (eq-eqb above critical_byte j));
    }

fit-stand : (kind name above above_name : ℕ) → MayStand kind name above above_name → excluded kind name above above_name ≡ false
unfolding excluded same_critical
fit-stand kind name above above_name F =
    neither-or _ _ (true-not (may_enclose (kind_of kind) (kind_of above)) F.kinds)
    (fails-and (eqb kind critical_byte) _ (λ k. fails-and (eqb above critical_byte) (eqb name above_name)
    (λ j. ne_eqb name above_name (F.names (eqb-true kind critical_byte k) (eqb-true above critical_byte j)))))

place-fits : (kind above : ℕ) → misplaced kind above ≡ false → Placed kind above
unfolding misplaced
place-fits kind above h =
    let a = or-neither (eqb kind ordered_byte && not (eqb above loop_byte)) _ h in
    let same : eqb kind section_byte ≡ eqb above sections_byte = beq-equal _ _ (not-false _ a.1) in
    record {
      in-loop = λ k. not_eqb above loop_byte (and-fails (eqb kind ordered_byte) _ a.0 (eq-eqb kind ordered_byte k));
      in-sections = λ k. eqb-true above sections_byte (sym same ∙ eq-eqb kind section_byte k);
      is-section = λ k. eqb-true kind section_byte (same ∙ eq-eqb above sections_byte k);
    }

equal-beq : (a b : Bool) → a ≡ b → not (beq a b) ≡ false
equal-beq true true h = refl
equal-beq false false h = refl
equal-beq true false h = absurd (clash refl h)
equal-beq false true h = absurd (clash h refl)

fit-place : (kind above : ℕ) → Placed kind above → misplaced kind above ≡ false
unfolding misplaced
fit-place kind above F =
    neither-or _ _
    (fails-and (eqb kind ordered_byte) _ (λ k. eq-not-eqb above loop_byte (F.in-loop (eqb-true kind ordered_byte k))))
    (equal-beq _ _ (same_truth _ _
    (λ k. eq-eqb above sections_byte (F.in-sections (eqb-true kind section_byte k)))
    (λ k. eq-eqb kind section_byte (F.is-section (eqb-true above sections_byte k)))))

module _ (constructs : List Construct) where
  -- parents that are lower or outside, so that the walk upwards finds all that encloses
  module _ (alone : Alone constructs) where
    pub parents-lower : (c : ℕ) → c < length constructs → Below c (parent_of constructs c)
    unfolding parent_of
    parents-lower c l = (alone c l).parent-lower

    nesting-fits : (c : ℕ) → c < length constructs → misnested constructs c ≡ false → Nests constructs c
    unfolding misnested wrongly_above
    nesting-fits c l h =
        let size = length constructs in
        let a = or-neither (any size (wrongly_above constructs c)) _ h in
        let parent = parent_of constructs in
        let near : Below size (parent c) = below_more (omega arith) (parents-lower c l) in
        record {
          below = λ {k} e. stand-fits _ _ _ _ (and-fails (encloses_near parent (is_parallel constructs) size (parent c) k) _
              (none_passes size (wrongly_above constructs c) a.0 k (lower parent size parents-lower (near-encloses e) size (omega arith) near))
              (near-computes parent (is_parallel constructs) size parents-lower e size size (omega arith) (omega arith) near));
          placed = place-fits _ _ a.1;
        }

  fit-nesting : (c : ℕ) → Nests constructs c → misnested constructs c ≡ false
  unfolding misnested wrongly_above
  fit-nesting c F =
      let size = length constructs in
      neither-or _ _
      (any_none size (wrongly_above constructs c) (λ k l. fails-and (encloses_near (parent_of constructs) (is_parallel constructs) size (parent_of constructs c) k) _
      (λ e. fit-stand _ _ _ _ (F.below (near-computed (parent_of constructs) (is_parallel constructs) size (parent_of constructs c) k e)))))
      (fit-place _ _ F.placed)

pub constructs-fit : (D : Decoded) → bad_constructs D ≡ false → ConstructsFit D
unfolding bad_constructs bad_alone stray_node
constructs-fit D h =
    let size = length D.constructs in
    let a = or-neither (any size (bad_alone D.constructs)) _ h in
    let b = or-neither (any size (misnested D.constructs)) (any (length D.nodes) (stray_node D)) a.1 in
    let alone : Alone D.constructs = λ c l. construct-fits _ _ _ _ _ (none_passes size (bad_alone D.constructs) a.0 c l) in
    record {
      alone = alone;
      nested = λ c l. nesting-fits D.constructs alone c l (none_passes size (misnested D.constructs) b.0 c l);
      bare = λ x l k. eqb-false _ sections_byte
          (and-fails (ltb (node_at D.nodes x).kind begin_node) _ (none_passes (length D.nodes) (stray_node D) b.1 x l) (lt-ltb _ begin_node k));
    }

pub fit-constructs : (D : Decoded) → ConstructsFit D → bad_constructs D ≡ false
unfolding bad_constructs bad_alone stray_node
fit-constructs D F =
    let size = length D.constructs in
    neither-or _ _ (any_none size (bad_alone D.constructs) (λ c l. fit-construct _ _ _ _ _ (F.alone c l)))
    (neither-or _ _ (any_none size (misnested D.constructs) (λ c l. fit-nesting D.constructs c (F.nested c l)))
    (any_none (length D.nodes) (stray_node D)
    (λ x l. fails-and (ltb (node_at D.nodes x).kind begin_node) _ (λ k. ne_eqb _ sections_byte (F.bare x l (ltb-true _ begin_node k))))))
