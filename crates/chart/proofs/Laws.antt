-- A region that its reading supplies with the facts of proofs/Reading.antt is well formed. This rests on those facts alone.
-- Assumes nothing.
use mathlib.Core.Path.{◌≡◌, refl, ap, sym, ◌∙◌, subst}
use mathlib.Core.Logic.{◌⊎◌, inl, inr, ◌≢◌}
use mathlib.Core.Bool.{true, false}
use Prim.Native.Nat.{ℕ}
use Rattle.lists.specs.Truth.{bad, clash, false-if, same_truth}
use Rattle.chart.specs.Region.{opens, closes, Kind, single, master, critical, loop, ordered, sections, section, parallel, Outermost, Region}
use Rattle.chart.specs.InSection.{SectionOf, InSection}
use Rattle.chart.specs.Scope.{Encloses, here}
use Rattle.chart.specs.Nesting.{may_enclose}
use Rattle.chart.specs.WellFormed.{WellFormed}
use Rattle.chart.proofs.Tree.{linear, higher, step-below}
use Rattle.chart.proofs.Reading.{Frame, begin, end, marks, Reads}

outermost-alone : (kind above : Kind) → Outermost kind → may_enclose kind above ≡ false
unfolding may_enclose
outermost-alone single above u = refl
outermost-alone master above u = absurd u
outermost-alone critical above u = absurd u
outermost-alone loop above u = refl
outermost-alone ordered above u = absurd u
outermost-alone sections above u = refl
outermost-alone section above u = absurd u
outermost-alone parallel above u = absurd u

section-above : (kind : Kind) → kind ≢ parallel → may_enclose kind section ≡ true → kind ≡ critical
unfolding may_enclose
section-above single n h = absurd (bad (cc))
section-above master n h = absurd (bad (cc))
section-above critical n h = refl
section-above loop n h = absurd (bad (cc))
section-above ordered n h = absurd (bad (cc))
section-above sections n h = absurd (bad (cc))
section-above section n h = absurd (bad (cc))
section-above parallel n h = absurd (n refl)

masters-apart : (kind above : Kind) → kind ≡ master → above ≡ master → may_enclose kind above ≡ false
unfolding may_enclose
masters-apart kind above p q = rw (p, q)

module _ {R : Region} {Counts : ℕ → Type 0} {lies : ℕ → ℕ} {scope : Frame → ℕ → ℕ} (F : Reads R Counts lies scope) where
  -- a node inside c, or the begin (the end) of c: its scope is enclosed by c
  abbrev Crosses : Frame → ℕ → ℕ → Type 0
  Crosses f x c = (R.inside x c ≡ true) ⊎ (R.role x ≡ marks f c)

  crosses-counts : (f : Frame) (x c : ℕ) → Crosses f x c → Counts c
  crosses-counts f x c (inl i) = F.inside-counts i
  crosses-counts f x c (inr w) = F.marks-counts f c w

  crosses-scope : (f : Frame) (x c : ℕ) → Crosses f x c → Encloses R.parent (scope f x) c
  crosses-scope f x c (inl i) = F.lies-scope f x (F.inside-enclosed i)
  crosses-scope f x c (inr w) = rw (F.marks-scope f c w) (here (F.counts-not-outside (F.marks-counts f c w)))

  scope-crosses : (f : Frame) (x c : ℕ) → Counts c → Encloses R.parent (scope f x) c → Crosses f x c
  scope-crosses f x c m e = elim (F.scope-cases f x e m) [ inl a ↦ inl (F.enclosed-inside a m) | inr w ↦ inr w ]

  along : {x y c : ℕ} → R.edge x y ≡ true → Crosses begin x c → Crosses end y c
  along {x} {y} {c} e h =
      scope-crosses end y c (crosses-counts begin x c h)
      (subst (λ (p : ℕ). Encloses R.parent p c) (F.scopes-agree e) (crosses-scope begin x c h))

  against : {x y c : ℕ} → R.edge x y ≡ true → Crosses end y c → Crosses begin x c
  against {x} {y} {c} e h =
      scope-crosses begin x c (crosses-counts end y c h)
      (subst (λ (p : ℕ). Encloses R.parent p c) (sym (F.scopes-agree e)) (crosses-scope end y c h))

  inside-same : (x y k : ℕ) → lies x ≡ lies y → R.inside x k ≡ true → R.inside y k ≡ true
  inside-same x y k q i = F.enclosed-inside (subst (λ (p : ℕ). Encloses R.parent p k) q (F.inside-enclosed i)) (F.inside-counts i)

  same-inside : (x y k : ℕ) → lies x ≡ lies y → R.inside x k ≡ R.inside y k
  same-inside x y k q = same_truth (R.inside x k) (R.inside y k) (inside-same x y k q) (inside-same y x k (sym q))

  begin-enclosed : {x c k : ℕ} → R.role x ≡ opens c → R.inside x k ≡ true → Encloses R.parent (R.parent c) k
  begin-enclosed {c = c} {k} w i = subst (λ (p : ℕ). Encloses R.parent p k) (F.marks-lies begin c w) (F.inside-enclosed i)

  -- two constructs that enclose a node, neither of which may stand above the other, are one
  one_of : {x c k : ℕ} → R.inside x c ≡ true → R.inside x k ≡ true
      → may_enclose (R.kind c) (R.kind k) ≡ false → may_enclose (R.kind k) (R.kind c) ≡ false → c ≡ k
  one_of i j p q = elim (linear (F.inside-enclosed i) (F.inside-enclosed j)) [
    | inl e ↦ e
    | inr (inl a) ↦ absurd (clash (F.nested (F.inside-counts i) (F.inside-counts j) a) p)
    | inr (inr a) ↦ absurd (clash (F.nested (F.inside-counts j) (F.inside-counts i) a) q)
  ]

  loop-encloses : {x o : ℕ} → R.inside x o ≡ true → R.kind o ≡ ordered → R.inside x (R.parent o) ≡ true
  loop-encloses i k =
      let m = F.ordered-counts (F.inside-counts i) k in
      F.enclosed-inside (higher (F.inside-enclosed i) (here (F.counts-not-outside m))) m

  loop-encloses-begin : {x o : ℕ} → R.role x ≡ opens o → R.kind o ≡ ordered → R.inside x (R.parent o) ≡ true
  loop-encloses-begin {x} {o} w k =
      let m = F.ordered-counts (F.marks-counts begin o w) k in
      F.enclosed-inside (rw (F.marks-lies begin o w) (here (F.counts-not-outside m))) m

  sections-enclose : {x s : ℕ} → R.inside x s ≡ true → R.kind s ≡ section → R.inside x (R.parent s) ≡ true
  sections-enclose i k =
      let m = F.section-counts (F.inside-counts i) k in
      F.enclosed-inside (higher (F.inside-enclosed i) (here (F.counts-not-outside m))) m

  sections-enclose-begin : {x s : ℕ} → R.role x ≡ opens s → R.kind s ≡ section → R.inside x (R.parent s) ≡ true
  sections-enclose-begin {x} {s} w k =
      let m = F.section-counts (F.marks-counts begin s w) k in
      F.enclosed-inside (rw (F.marks-lies begin s w) (here (F.counts-not-outside m))) m

  -- whatever is inside a sections is inside a section of it, or is its begin or end
  framing : (f : Frame) (x s : ℕ) → R.role x ≡ marks f s → (R.role x ≡ opens s) ⊎ (R.role x ≡ closes s)
  framing begin x s w = inl w
  framing end x s w = inr w

  in-section : {x c : ℕ} → R.inside x c ≡ true → R.kind c ≡ sections → (s : ℕ) × (SectionOf R c s × InSection R x s)
  in-section {x} {c} i k = elim (step-below (F.inside-enclosed i)) [
    | inl q ↦ (let (f, s, w, j) = F.directly-in q (F.inside-counts i) k in (
      s,
      (
        record { begun = F.framed begin s (F.marks-counts f s w); is-section = j; of-sections = sym (F.marks-lies f s w) ∙ q },
        record { is-section = j; within = inr (framing f x s w) },
      ),
    ))
    | inr h ↦ (let (s, q, e) = h in
        let d = F.directly-below (F.enclosed-below e) q (F.inside-counts i) k in
        (s, (record { begun = F.framed begin s d.0; is-section = d.1; of-sections = q }, record { is-section = d.1; within = inl (F.enclosed-inside e d.0) })))
  ]

  pub laws : WellFormed R
  laws = record {
    kept-below = F.kept-below;
    from-below = λ e. F.kept-below (F.from-kept e);
    to_below = λ e. F.kept-below (F.to-kept e);
    from-kept = F.from-kept;
    to-kept = F.to-kept;
    barrier-below = F.barrier-below;
    begin-below = λ {x} {c} w. F.marks-below begin c w;
    end_below = λ {x} {c} w. F.marks-below end c w;
    opens-below = λ {x} {c} w. F.counts-below (F.marks-counts begin c w);
    inside-below = λ i. F.counts-below (F.inside-counts i);
    opens-begin = λ {x} {c} w. F.marks-only begin c w;
    closes-end = λ {x} {c} w. F.marks-only end c w;
    closes-begun = λ {x} {c} w. F.framed begin c (F.marks-counts end c w);
    opens-ended = λ {x} {c} w. F.framed end c (F.marks-counts begin c w);
    inside-begun = λ {x} {c} i. F.framed begin c (F.inside-counts i);
    enter = λ e i. against e (inl i);
    leave = λ e i. along e (inl i);
    after-begin = λ e w. along e (inr w);
    before-end = λ e w. against e (inr w);
    same-scope = λ {x} {c} w k. same-inside (R.end c) x k
        (F.marks-lies end c (F.framed end c (F.marks-counts begin c w)) ∙ sym (F.marks-lies begin c w));
    begin-outside = λ {x} {c} w. false-if (λ i. F.not-in-itself (F.marks-counts begin c w) (begin-enclosed w i));
    barrier-outside = λ w c. false-if (λ i. F.barrier-bare w (F.inside-enclosed i) (F.inside-counts i));
    outermost = λ {x} {c} w u k. false-if (λ i.
        clash (F.nested (F.marks-counts begin c w) (F.inside-counts i) (begin-enclosed w i)) (outermost-alone _ _ u));
    one-outermost = λ i j u v. one_of i j (outermost-alone _ _ u) (outermost-alone _ _ v);
    ordered-begin = loop-encloses-begin;
    ordered-inside = loop-encloses;
    ordered-loop = λ i k. F.ordered-loop (F.inside-counts i) k;
    one-thread = λ i j p q. ap R.thread (one_of i j (masters-apart _ _ p q) (masters-apart _ _ q p));
    no-parallel = λ {x} {c} w. F.no-parallel (F.marks-counts begin c w);
    section-begin = sections-enclose-begin;
    section-inside = sections-enclose;
    section-sections = λ {x} {s} w k. F.section-sections (F.marks-counts begin s w) k;
    section-critical = λ {x} {k} {s} w i q. section-above (R.kind k) (F.no-parallel (F.marks-counts begin k w))
        (subst (λ (j : Kind). may_enclose (R.kind k) j ≡ true) q (F.nested (F.marks-counts begin k w) (F.inside-counts i) (begin-enclosed w i)));
    sections-section = in-section;
    section-out = F.section-out;
    start-barrier = F.start-barrier;
    finish-barrier = F.finish-barrier;
    start_first = F.start_first;
    finish-last = F.finish-last;
  }
