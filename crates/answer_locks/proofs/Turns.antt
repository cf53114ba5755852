-- One node more: skipped, or tried.
-- Assumes nothing.
use mathlib.Core.Path.{◌≡◌, refl, sym, ap, subst, ◌∙◌}
use mathlib.Core.Logic.{◌⊎◌, inl, inr}
use mathlib.Core.Bool.{Bool, true, false, ◌&&◌, ◌||◌}
use mathlib.Core.List.{List}
use Prim.Native.Nat.{ℕ, ◌+◌, ◌<◌}
use lib.Bits.{bit_or}
use lib.Dec.{eqb}
use lib.ListN.{get_or}
use borrow.Author.Tests.{eqb-true, eq-eqb}
use Rattle.lists.specs.Truth.{truth, clash, false-if, and_both, both-and, and-false, or_right}
use Rattle.lists.specs.Range.{any, any_next}
use Rattle.lists.specs.Mask.{has-none}
use Rattle.lists.specs.Bits.{has}
use Rattle.answer_nodes.proofs.BitTests.{has-or}
use Rattle.answer_pairs.specs.Rules.{profile_at}
use Rattle.answer_pairs.specs.declared.rules.Profile.{Profile}
use Rattle.masks.specs.declared.unions.Words.{Words}
use Rattle.answer_met.specs.Meets.{unbarred, meets, NodeSet}
use Rattle.answer_nodes.specs.NodeSets.{ByBit}
use Rattle.answer_locks.specs.Search.{has_named, partner, pairs, some_pair, Skips, shut, bare, again, Covers, Kept, Adds, Tries, Searched}
use Rattle.answer_locks.specs.declared.needed.Tried.{Tried}
use Rattle.answer_locks.proofs.Partners.{partner-by, partner-more}
use Rattle.answer_constructs.specs.declared.mask_table.MaskTable.{MaskTable}

absorbed : (a p : Bool) → (p ≡ true → a ≡ true) → a ≡ (a || p)
absorbed true p f = refl
absorbed false p f = sym (false-if (λ h. clash (f h) refl))

module _ (closed names : List ℕ) where
  -- what a skipped node would add is there, for a test by masks
  skip-adds : (test : Profile → ℕ → Bool) {flag : ℕ} {own : Profile} {around : ℕ} {last : Tried} (mask : ℕ) → Skips flag own around last
      → Covers closed names (test last.own) last.around mask → Adds closed names (test own) flag around mask mask
  skip-adds test {flag} {own} {around} {last} mask k C c l = absorbed (has mask c) _ (go k)
    where
      go : Skips flag own around last → pairs closed names (test own) flag around c ≡ true → has mask c ≡ true
      go k h =
          let (b, p) = and_both (eqb flag 0 && has around c) (partner closed names (test own) c) h in
          let (o, a) = and_both (eqb flag 0) (has around c) b in
          elim k [
            | shut n ↦ absurd (n (eqb-true flag 0 o))
            | bare q ↦ absurd (has-none c (eqb-true _ 1 (rw q at a)))
            | again q r ↦ C c l (both-and _ _ (rw q at a) (subst (λ (x : Profile). partner closed names (test x) c ≡ true) r p))
          ]

  module _ (test : ℕ → Bool) {flag : ℕ} (o : flag ≡ 0) (around : ℕ) where
    -- what a tried node adds
    new-adds : (old new : ℕ) → ((c : ℕ) → c < 64 → has new c ≡ (has around c && partner closed names test c)) → Adds closed names test flag around old (bit_or old new)
    new-adds old new h c l = has-or old new c ∙ rw (h c l, eq-eqb flag 0 o)

    adds-covers : (old new : ℕ) → Adds closed names test flag around old new → Covers closed names test around new
    adds-covers old new A c l h = A c l ∙ or_right (has old c) _ (rw (eq-eqb flag 0 o) h)

met-unbarred : (own : Profile) (marks : MaskTable) (y : ℕ) → meets own marks y ≡ true → unbarred own marks y ≡ true
unfolding meets
met-unbarred own marks y h = (and_both (unbarred own marks y) _ h).0

module _ {closed : List ℕ} {marks : MaskTable} {names : List ℕ} where
  pub skip-tries : {flag : ℕ} {own : Profile} {around : ℕ} {last : Tried} → Skips flag own around last → Kept closed marks names last
      → Tries closed marks names flag own around last last
  skip-tries {last = last} k K = record {
    ever = skip-adds closed names (λ own. unbarred own marks) last.ever k K.ever;
    needed = skip-adds closed names (λ own. meets own marks) last.needed k K.needed;
    kept = K;
  }

  module _ {named : List (List ℕ)} (N : ByBit closed names named) {flag : ℕ} (o : flag ≡ 0) (own : Profile) (around : ℕ) (last : Tried) where
    pub new-tries : {set met : Words} (ever needed : ℕ) → NodeSet closed (unbarred own marks) set → NodeSet closed (meets own marks) met
        → ((c : ℕ) → has ever c ≡ (has around c && has_named set named c)) → ((c : ℕ) → has needed c ≡ (has ever c && has_named met named c))
        → Tries closed marks names flag own around last (record { own = own; around = around; ever = bit_or last.ever ever; needed = bit_or last.needed needed })
    new-tries ever needed S M E F = record {
      ever = A;
      needed = B;
      kept = record {
        ever = adds-covers closed names (unbarred own marks) o around last.ever _ A;
        needed = adds-covers closed names (meets own marks) o around last.needed _ B;
      };
    }
      where
        ever-is : (c : ℕ) → c < 64 → has ever c ≡ (has around c && partner closed names (unbarred own marks) c)
        ever-is c l = E c ∙ ap (λ (b : Bool). has around c && b) (partner-by closed names (unbarred own marks) c l S N)

        both : (a u m : Bool) → (m ≡ true → u ≡ true) → ((a && u) && m) ≡ (a && m)
        both true u m f = go (truth m)
          where
            go : (m ≡ true) ⊎ (m ≡ false) → (u && m) ≡ m
            go (inl h) = rw (f h)
            go (inr h) = rw h (and-false u)
        both false u m f = refl

        needed-is : (c : ℕ) → c < 64 → has needed c ≡ (has around c && partner closed names (meets own marks) c)
        needed-is c l = F c ∙ rw (ever-is c l, partner-by closed names (meets own marks) c l M N)
            (both (has around c) _ _ (partner-more closed names (meets own marks) (unbarred own marks) c (met-unbarred own marks)))

        A : Adds closed names (unbarred own marks) flag around last.ever (bit_or last.ever ever)
        A = new-adds closed names (unbarred own marks) o around last.ever ever ever-is

        B : Adds closed names (meets own marks) flag around last.needed (bit_or last.needed needed)
        B = new-adds closed names (meets own marks) o around last.needed needed needed-is

  -- before the first node, and one node more of all
  pub searched-none : (around : List ℕ) (own : Profile) → Searched closed marks names around 0 (record { own = own; around = 0; ever = 0; needed = 0 })
  unfolding some_pair any
  searched-none around own = record {
    ever = λ c l. none c;
    needed = λ c l. none c;
    kept = record { ever = λ c l h. absurd (bare_of c _ h); needed = λ c l h. absurd (bare_of c _ h) };
  }
    where
      none : (c : ℕ) → has 0 c ≡ false
      none c = false-if (λ h. has-none c (eqb-true _ 1 h))

      bare_of : (c : ℕ) (b : Bool) → (has 0 c && b) ≡ true → ⊥
      bare_of c b h = clash (and_both (has 0 c) b h).0 (none c)

  pub searched-more : {around : List ℕ} {x : ℕ} {last r : Tried} → Searched closed marks names around x last
      → Tries closed marks names (get_or closed x 0) (profile_at marks x) (get_or around x 0) last r → Searched closed marks names around (x + 1) r
  unfolding some_pair
  searched-more {around} {x} S T = record {
    ever = λ c l. T.ever c l ∙ rw (S.ever c l) (sym (any_next x _));
    needed = λ c l. T.needed c l ∙ rw (S.needed c l) (sym (any_next x _));
    kept = T.kept;
  }
