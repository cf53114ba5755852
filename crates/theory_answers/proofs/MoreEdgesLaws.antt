-- More edges only loosen: a never of the larger chart is a never of the smaller, in each of their regions and for each size of teams.
-- Assumes nothing.
use Rattle.std.specs.Prelude.{◌≡◌, ◌≢◌, ℕ}
use Rattle.std.proofs.Common.{sym, ◌∙◌, subst, subst₂, inl, inr, arith}
use Rattle.std.proofs.Math.Bool.{false}
use mathlib.Core.List.{List, [], ◌∷◌}
use Rattle.lists.specs.Truth.{and_both, both-and}
use Rattle.lists.specs.Range.{first-same}
use Rattle.chart.specs.Format.{Decoded, decode}
use Rattle.chart.specs.Region.{Kind, Region}
use Rattle.chart.specs.Scope.{lies_at, scope_at, begin_node, end_node}
use Rattle.chart.specs.Nested.{kept_in}
use Rattle.chart.specs.Reading.{edge_in, inside_at, frame_of, region_of}
use Rattle.chart.specs.Refusal.{Row}
use Rattle.chart.specs.InOrdered.{InOrdered}
use Rattle.chart.specs.InSection.{InSection}
use Rattle.chart.proofs.Rows.{none-applies, applies-none, second-decides, both-pass}
use Rattle.theory_paths.specs.Path.{BarrierFree}
use Rattle.theory_paths.specs.PathLaws.{carry}
use Rattle.theory_paths.specs.Admission.{admit_rows, bad_region, region_rows, Admitted, AdmittedIn}
use Rattle.theory_paths.specs.AdmissionLaws.{admitted-well-formed}
use Rattle.theory_paths.specs.Phases.{Direction, forward, backward, Free, Boundary}
use Rattle.theory_answers.specs.Answer.{answer_for}
use Rattle.theory_answers.specs.Unexcluded.{Returns, In, Rule, by-phase, by-master, by-single, by-ordered, by-section, Excludes, Lacks, AnswersIn, alone, lacking, fitting, AnswersFor}
use Rattle.theory_answers.specs.Numbers.{asked}
use Rattle.theory_answers.proofs.AnswerLaws.{first-kept}
use Rattle.theory_answers.proofs.SizeLaws.{has_all, answer-for}
use Rattle.theory_answers.specs.declared.Size.{Size}
use Rattle.theory_answers.specs.declared.Size.TheVariants.{Any, Of}
use Rattle.theory_answers.specs.MoreEdges.{MoreEdges, Widens}
use Rattle.chart.specs.declared.format.Refusal.TheVariants.{NoRegion}

module _ {R S : Region} (X : Widens R S) where
  -- paths, and with them starts, ends and returns, only become more
  wide-path : {x y : ℕ} → BarrierFree R x y → BarrierFree S x y
  wide-path w = carry X.edge (λ z o q. o (sym (X.role z) ∙ q)) w

  wide-free : (d : Direction) (x y : ℕ) → Free d R x y → Free d S x y
  wide-free forward x y w = wide-path w
  wide-free backward x y w = wide-path w

  pub wide-boundary : (d : Direction) {x s : ℕ} → Boundary d R x s → Boundary d S x s
  wide-boundary d {x} {s} B = record {
    no-barrier = λ q. B.no-barrier (sym (X.role x) ∙ q);
    is-barrier = X.role s ∙ B.is-barrier;
    path = wide-free d s x B.path;
  }

  wide-returns : (c : ℕ) → Returns R c → Returns S c
  wide-returns c w = subst₂ (λ (x y : ℕ). BarrierFree S x y) (sym (X.end c)) (sym (X.begin c)) (wide-path w)

  -- and what a node is inside stays
  same_in : (k : Kind) {x c : ℕ} → In S k x c → In R k x c
  same_in k {x} {c} (q, i) = (sym (X.kind c) ∙ q, sym (X.inside x c) ∙ i)

  same-ordered : {x d : ℕ} → InOrdered S x d → InOrdered R x d
  same-ordered {x} o = record {
    construct = o.construct;
    is-ordered = sym (X.kind o.construct) ∙ o.is-ordered;
    of-do = sym (X.parent o.construct) ∙ o.of-do;
    within = sym (X.inside x o.construct) ∙ o.within;
  }

  same-section : {x s : ℕ} → InSection S x s → InSection R x s
  same-section {x} {s} i = record {
    is-section = sym (X.kind s) ∙ i.is-section;
    within = elim i.within [
      | inl h ↦ inl (sym (X.inside x s) ∙ h)
      | inr h ↦ inr (elim h [ inl q ↦ inl (sym (X.role x) ∙ q) | inr q ↦ inr (sym (X.role x) ∙ q) ])
    ];
  }

  -- Rule by rule: what excludes a pair in the larger excludes it in the smaller.
  pub loosen : (a b : ℕ) (r : Rule) → Excludes S a b r → Excludes R a b r
  loosen a b by-phase (d, n) = (d, λ (s, (x, y)). n (s, (wide-boundary d x, wide-boundary d y)))
  loosen a b by-master (c, (d, ((x, y), e))) = (c, (d, ((same_in _ x, same_in _ y), sym (X.thread c) ∙ e ∙ X.thread d)))
  loosen a b by-single (c, ((x, y), n)) = (c, ((same_in _ x, same_in _ y), λ w. n (wide-returns c w)))
  loosen a b by-ordered (d, ((x, y), n)) = (d, ((same-ordered x, same-ordered y), λ w. n (wide-returns d w)))
  loosen a b by-section (s, ((x, y), n)) =
      (s, ((same-section x, same-section y), λ w. n (subst (Returns S) (sym (X.parent s)) (wide-returns (R.parent s) w))))

  -- 6 and 7 do not depend on edges
  same-lacks : (m : ℕ) {x : ℕ} → Lacks S m x → Lacks R m x
  same-lacks m (c, (i, l)) = (c, (same_in _ i, rw (X.thread c) at l))

  -- so an answer other than 0 in the larger leaves no 0 to the smaller
  pub kept_for : (size : Size) (a b : ℕ) {v w : ℕ} → AnswersFor S size a b v → AnswersFor R size a b w → v ≢ 0 → w ≢ 0
  kept_for Any a b A B = first-kept (loosen a b) A B
  kept_for (Of m) a b A B = go A B
    where
      go : {v w : ℕ} → AnswersIn S m a b v → AnswersIn R m a b w → v ≢ 0 → w ≢ 0
      go A (alone h) n e = omega arith
      go A (lacking h x) n e = omega arith
      go (alone l) (fitting h f g B) n e = omega arith
      go (lacking l (inl x)) (fitting h f g B) n e = has_all R m a f (same-lacks m x)
      go (lacking l (inr x)) (fitting h f g B) n e = has_all R m b g (same-lacks m x)
      go (fitting l f' g' A) (fitting h f g B) n e = first-kept (loosen a b) A B n e

  -- and what a claim may name stays
  pub same_asked : (x : ℕ) → asked S x ≡ asked R x
  unfolding asked
  same_asked x = rw (X.kept x, X.role x)

module _ {D E : Decoded} (M : MoreEdges D E) where
  same-scope : (own x : ℕ) → scope_at own E.nodes E.constructs x ≡ scope_at own D.nodes D.constructs x
  unfolding scope_at
  same-scope own x = rw (M.kind x, M.number x, M.constructs)

  same-inside : (x c : ℕ) → inside_at E.nodes E.constructs x c ≡ inside_at D.nodes D.constructs x c
  unfolding inside_at lies_at
  same-inside x c = rw (M.kind x, M.number x, M.constructs)

  same_kept : (p x : ℕ) → kept_in E.nodes E.constructs p x ≡ kept_in D.nodes D.constructs p x
  unfolding kept_in
  same_kept p x = rw (M.nodes, same-scope begin_node x, same-scope end_node x, M.constructs)

  same-frame : (kind c : ℕ) → frame_of E.nodes kind c ≡ frame_of D.nodes kind c
  unfolding frame_of
  same-frame kind c = rw M.nodes (first-same _ _ _ (λ x. rw (M.kind x, M.number x)))

  -- reading for a region keeps it
  pub widens : (p : ℕ) → Widens (region_of p D) (region_of p E)
  widens p = record {
    nodes = M.nodes;
    kept = same_kept p;
    role = λ x. rw (M.kind x, M.number x, M.constructs);
    inside = λ x c. rw (same-inside x c, M.constructs);
    kind = λ c. rw M.constructs;
    parent = λ c. rw M.constructs;
    thread = λ c. rw M.constructs;
    begin = same-frame begin_node;
    end = same-frame end_node;
    edge = λ x y h. let (a, b) = and_both (edge_in D.edges x y) _ h in both-and _ _ (M.edges x y a) (rw (same-scope begin_node x, M.constructs) b);
  }

  same-region : (p : ℕ) → bad_region E p ≡ bad_region D p
  unfolding bad_region
  same-region p = rw M.constructs

module _ (s t : List ℕ) (p : ℕ) (smaller : Admitted s) (larger : AdmittedIn t p) (M : MoreEdges (decode s) (decode t)) where
  -- a region of the larger is one of the smaller
  pub smaller-in : AdmittedIn s p
  unfolding region_rows
  smaller-in =
      let rows : List Row = record { refusal = NoRegion; applies = bad_region (decode s) p } ∷ [] in
      let more : List Row = record { refusal = NoRegion; applies = bad_region (decode t) p } ∷ [] in
      let named : bad_region (decode t) p ≡ false = (none-applies more (both-pass (admit_rows t) more larger).1).0 in
      second-decides (admit_rows s) rows smaller ∙ applies-none rows (sym (same-region M p) ∙ named, tt)

-- Note 8, of the answers for all teams and of those for teams of one size.
pub more-edges-loosen : (s t : List ℕ) (p : ℕ) → Admitted s → AdmittedIn t p → MoreEdges (decode s) (decode t)
    → (size : Size) (a b : ℕ) → answer_for (region_of p (decode t)) size a b ≢ 0 → answer_for (region_of p (decode s)) size a b ≢ 0
more-edges-loosen s t p smaller larger M size a b =
    let narrow = admitted-well-formed s p (smaller-in s t p smaller larger M) in
    let wide = admitted-well-formed t p larger in
    kept_for (widens M p) size a b (answer-for wide size a b) (answer-for narrow size a b)
