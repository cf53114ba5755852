-- Two nodes that a claim may name are concurrent where they have a start and an end in common and hold no construct in common.
-- Assumes nothing.
use mathlib.Core.Path.{◌≡◌, refl, sym, subst}
use mathlib.Core.Bool.{Bool, true, false, ◌&&◌, ◌||◌, not, cond}
use mathlib.Core.List.{List}
use Prim.Native.Nat.{ℕ, ◌+◌, ◌<◌}
use native.Mathlib.Omega.{arith}
use lib.Dec.{eqb}
use lib.ListN.{get_or}
use borrow.Author.Tests.{ne_eqb}
use Rattle.lists.specs.Range.{any, first, at-any, any_at, any_same}
use Rattle.lists.specs.Truth.{and-false, same_truth}
use Rattle.lists.specs.Common.{mask-both, common, common-test}
use Rattle.chart.specs.Region.{Kind, single, master, critical, loop, ordered, sections, section, parallel, Region}
use Rattle.theory_answers.specs.Answer.{no_common, both_in_masters, both_in_single, both_in_ordereds, both_in_section, answer}
use Rattle.theory_exact.specs.Barred.{is_barred}
use Rattle.theory_paths.specs.Phases.{forward}
use Rattle.answer_constructs.specs.Marks.{Holds, rule_kind, Marks}
use Rattle.answer_constructs.specs.declared.mask_table.MaskTable.{MaskTable}
use Rattle.answer_pairs.specs.Rules.{profile_at, numbered, by_rules, rule_by, ruled_by, rule_of, apart_by, rule-by, ruled-by}
use Rattle.answer_met.specs.Meets.{unbarred, meets}

module _ {R : Region} {marks : MaskTable} {kinds : List ℕ} (M : Marks R marks kinds) (a b : ℕ) (la : a < R.nodes) (lb : b < R.nodes) where
  -- a rule from rule 2 on, by what both hold
  abbrev rule : ℕ → Bool
  rule = rule_by kinds (get_or marks.held a 0) (get_or marks.held b 0)

  met-rule : (k : ℕ) → k < 4 → rule k ≡ true → common (get_or marks.held a 0) (get_or marks.held b 0) ≡ true
  met-rule k l h =
      let v = M.has-held a la in
      let w = M.has-held b lb in
      let (d, (m, (x, q))) = (common-test (mask-both v w) (M.has-kinds k l)).0 h in
      (common-test v w).1 (d, (m, x))

  by-rule : (k d : ℕ) → k < 4 → d < R.constructs → R.kind d ≡ rule_kind k → Holds R a d (R.kind d) → Holds R b d (R.kind d) → any 4 rule ≡ true
  by-rule k d l m q x y = at-any 4 rule k l ((common-test (mask-both (M.has-held a la) (M.has-held b lb)) (M.has-kinds k l)).1 (d, (m, ((x, y), q))))

  by_kind : (d : ℕ) → d < R.constructs → (k : Kind) → R.kind d ≡ k → Holds R a d (R.kind d) → Holds R b d (R.kind d) → any 4 rule ≡ true
  by_kind d l master q x y = by-rule 0 d (omega arith) l q x y
  by_kind d l single q x y = by-rule 1 d (omega arith) l q x y
  by_kind d l loop q x y = by-rule 2 d (omega arith) l q x y
  by_kind d l section q x y = by-rule 3 d (omega arith) l q x y
  by_kind d l critical q x y = absurd (subst (Holds R a d) q x)
  by_kind d l ordered q x y = absurd (subst (Holds R a d) q x)
  by_kind d l sections q x y = absurd (subst (Holds R a d) q x)
  by_kind d l parallel q x y = absurd (subst (Holds R a d) q x)

  held_by : any 4 rule ≡ common (get_or marks.held a 0) (get_or marks.held b 0)
  held_by = same_truth _ _
      (λ h. let (k, l, p) = any_at 4 rule h in met-rule k l p)
      (λ h. let (d, (l, (x, y))) = (common-test (M.has-held a la) (M.has-held b lb)).0 h in by_kind d l (R.kind d) refl x y)

  pub met_by : eqb (answer R a b) 0 ≡ meets (profile_at marks a) marks b
  unfolding meets unbarred ruled_by by_rules numbered profile_at
  met_by = rw (ruled-by M a b la lb, ← held_by) (go
      (common (get_or marks.starts a 0) (get_or marks.starts b 0)) (common (get_or marks.ends a 0) (get_or marks.ends b 0)) (any 4 rule) (first 4 rule))
    where
      go : (s e r : Bool) (k : ℕ) → eqb (cond (not (s && e)) 1 (cond r (k + 2) 0)) 0 ≡ ((s && not r) && e)
      go false e r k = refl
      go true false r k = sym (and-false (not r))
      go true true true k = rw (ne_eqb (k + 2) 0 (λ q. omega arith))
      go true true false k = refl

  -- and so they are in runs that need not finish, without the end
  pub unbarred-by : not (is_barred R a b) ≡ unbarred (profile_at marks a) marks b
  unfolding unbarred is_barred profile_at any
  unbarred-by =
      let W = M.well-formed in
      let rules : any 4 (rule_of R a b) ≡ any 4 rule = any_same 4 (rule_of R a b) rule (rule-by W a b kinds (M.has-held a la) (M.has-held b lb) M.has-kinds) in
      let barred : is_barred R a b ≡ (no_common forward R a b || any 4 (rule_of R a b)) =
      in_row (no_common forward R a b) (both_in_masters R a b) (both_in_single R a b) (both_in_ordereds R a b) (both_in_section R a b) in
      rw (
        barred,
        rules,
        held_by,
        apart_by W a b forward,
        ← M.has-starts a (omega (arith, M.few)),
        ← M.has-starts b (omega (arith, M.few)),
      ) (go (common (get_or marks.starts a 0) (get_or marks.starts b 0)) (common (get_or marks.held a 0) (get_or marks.held b 0)))
    where
      in_row : (p m k d c : Bool) → (p || (m || (k || (d || c)))) ≡ (p || (((m || k) || d) || c))
      in_row true m k d c = refl
      in_row false true k d c = refl
      in_row false false true d c = refl
      in_row false false false d c = refl

      go : (s h : Bool) → not (not s || h) ≡ (s && not h)
      go true h = refl
      go false h = refl
