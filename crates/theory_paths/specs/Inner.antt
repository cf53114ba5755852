-- Row 10 is asked of the outermost region alone, and connects every region: a path into an inner region, after its last entry, leads from the
-- region's begin on inside it, and a path out of it leads inside it to its end.
-- Assumes nothing.
use Rattle.std.specs.Prelude.{◌≡◌, refl, ◌⊎◌, ◌≢◌, true, false, ℕ, ◌≤◌, ◌<◌, ltb, length}
use Rattle.std.proofs.Common.{sym, ◌∙◌, subst, inl, inr, arith}
use Rattle.lists.specs.Truth.{and_both, or_cases}
use Rattle.chart.specs.Format.{outside, Decoded}
use Rattle.chart.specs.Scope.{barrier_node, begin_node, Encloses, here, parent_of}
use Rattle.chart.specs.Nested.{is_parallel, lies_within, kept_in}
use Rattle.chart.specs.Reading.{region, region_of}
use Rattle.chart.specs.WellFormed.{WellFormed}
use Rattle.chart.proofs.Constructs.{parallel-below, parallel-inner}
use Rattle.chart.proofs.Facts.{Named, TablesFit, FrameAt}
use Rattle.chart.proofs.Tree.{outside-encloses}
use Rattle.chart.proofs.Reading.{Frame, begin, end, marks}
use Rattle.chart.proofs.Scopes.{byte_of}
use Rattle.chart.proofs.Tables.{lies, scoped, scope-below, lies-scope, scope-frame, frame-only, frame_here, frame-scope, frame-lies, frame_found, edge-at, start-lies, finish-lies}
use Rattle.chart.proofs.RegionFacts.{counts-within, within-encloses, edge_in_lem, edge-within, edge_of, start-outer, start-inner, finish-outer, finish-inner, encloses-within, marks-at}
use Rattle.chart.proofs.Accepted.{well-formed-tables}
use Rattle.theory_paths.specs.Path.{Path, Edge, Any}
use Rattle.theory_paths.specs.PathLaws.{reverse}
use Rattle.theory_paths.specs.Doors.{inner-path}
use Rattle.theory_paths.specs.Connected.{Connected}
use Rattle.theory_paths.specs.Admission.{bad_paths}
use Rattle.theory_paths.specs.Row10.{from_start, to-finish, connected}

module _ (D : Decoded) (few : length D.constructs ≤ outside) (F : TablesFit D) (h : bad_paths (region D) ≡ false) where
  whole : WellFormed (region D)
  whole = well-formed-tables D few F outside (inl refl)

  module _ (p : ℕ) (is : is_parallel D.constructs p ≡ true) where
    inner-p : p ≢ outside
    inner-p = parallel-inner D.constructs p few is

    abbrev parent : ℕ → ℕ
    parent = parent_of D.constructs

    below : p < length D.constructs
    below = parallel-below D.constructs p is

    -- what lies in the region, and its begin and end
    abbrev In : ℕ → Type 0
    In x = Encloses parent (lies D x) p

    abbrev At : Frame → ℕ → Type 0
    At f x = FrameAt D.nodes (byte_of f) p x

    to-scope : (f : Frame) (x : ℕ) → In x ⊎ At f x → Encloses parent (scoped D f x) p
    to-scope f x (inl i) = lies-scope D F f x i
    to-scope f x (inr w) = subst (λ (q : ℕ). Encloses parent q p) (sym (frame-scope D F f x p w)) (here inner-p)

    -- edges of the chart that touch the region
    scopes : (x y : ℕ) → Edge (region D) x y → scoped D begin x ≡ scoped D end y
    scopes x y e = (edge-at D F x y (edge_in_lem D outside x y e)).scopes

    back : (x y : ℕ) → Edge (region D) x y → In y ⊎ At end y → In x ⊎ At begin x
    back x y e b = scope-frame D F begin x (subst (λ (q : ℕ). Encloses parent q p) (sym (scopes x y e)) (to-scope end y b))

    forth : (x y : ℕ) → Edge (region D) x y → In x ⊎ At begin x → In y ⊎ At end y
    forth x y e b = scope-frame D F end y (subst (λ (q : ℕ). Encloses parent q p) (scopes x y e) (to-scope begin x b))

    keeps : (x y : ℕ) → In x ⊎ At begin x → Edge (region D) x y → Edge (region_of p D) x y
    keeps x y b e = edge_of D p x y (edge_in_lem D outside x y e) (encloses-within D p F (scoped D begin x) (scope-below D F begin x) (to-scope begin x b))

    -- Start and Finish of the chart are not in the region
    start-out : In (region D).start → ⊥
    start-out i = outside-encloses (start-lies D F) (subst In (start-outer D outside refl) i)

    finish-out : In (region D).finish → ⊥
    finish-out i = outside-encloses (finish-lies D F) (subst In (finish-outer D outside refl) i)

    kinds : {k f : ℕ} → k ≡ barrier_node → k ≡ f → begin_node ≤ f → ⊥
    kinds a b l = omega arith

    frames : (f : Frame) → begin_node ≤ byte_of f
    frames begin = omega arith
    frames end = omega arith

    start-no : (f : Frame) → At f (region D).start → ⊥
    start-no f w = kinds F.barriers.start (subst (At f) (start-outer D outside refl) w).0 (frames f)

    start_none : In (region D).start ⊎ At end (region D).start → ⊥
    start_none b = elim b [ inl i ↦ start-out i | inr w ↦ start-no end w ]

    finish-no-end : At end (region D).finish → ⊥
    finish-no-end w = kinds F.barriers.finish (subst (At end) (finish-outer D outside refl) w).0 (omega arith)

    from-begin : (x : ℕ) → x < length D.nodes → In x ⊎ At end x → Path (Edge (region_of p D)) Any (region_of p D).start x
    from-begin x l b =
        subst (λ (d : ℕ). Path (Edge (region_of p D)) Any d x) (sym (start-inner D p inner-p))
        (inner-path In (At begin) (At end) (λ z w. frame-only D F begin z p w) (frame_found D F begin p below) back keeps
        start-out (start-no begin) (from_start (region D) whole h x l (λ q. start_none (subst (λ (z : ℕ). In z ⊎ At end z) q b))) b)

    to_end : (x : ℕ) → x < length D.nodes → In x → Path (Edge (region_of p D)) Any x (region_of p D).finish
    to_end x l i =
        subst (λ (d : ℕ). Path (Edge (region_of p D)) Any x d) (sym (finish-inner D p inner-p))
        (reverse (inner-path {E = λ a b. Edge (region D) b a} {F = λ a b. Edge (region_of p D) b a} In (At end) (At begin) (λ z w. frame-only D F end z p w) (frame_found D F end p below)
        (λ a b e v. forth b a e v) (λ a b v e. keeps b a (back b a e v) e)
        finish-out finish-no-end (reverse (to-finish (region D) whole h x l (λ q. finish-out (subst In q i)))) (inl i)))

    -- what is one of the region, other than its begin, and what an edge of the region leads to
    kept-scopes : (x : ℕ) → (region_of p D).kept x ≡ true → (lies_within D.constructs p (scoped D begin x) ≡ true) ⊎ (lies_within D.constructs p (scoped D end x) ≡ true)
    unfolding kept_in
    kept-scopes x k = or_cases _ _ (and_both (ltb x (length D.nodes)) _ k).1

    kept-to : (x : ℕ) → (region_of p D).kept x ≡ true → x ≢ (region_of p D).start → In x ⊎ At end x
    kept-to x k n = elim (kept-scopes x k) [
      | inl w ↦ elim (scope-frame D F begin x (within-encloses D p (scoped D begin x) inner-p w)) [
        | inl i ↦ inl i
        | inr b ↦ absurd (n (frame-only D F begin x p b ∙ sym (start-inner D p inner-p)))
      ]
      | inr w ↦ scope-frame D F end x (within-encloses D p (scoped D end x) inner-p w)
    ]

    edge_to : (x y : ℕ) → Edge (region_of p D) x y → In y ⊎ At end y
    edge_to x y e =
        scope-frame D F end y (subst (λ (q : ℕ). Encloses parent q p) (edge-at D F x y (edge_in_lem D p x y e)).scopes
        (within-encloses D p (scoped D begin x) inner-p (edge-within D p x y e)))

    marks-to-end : (f : Frame) (x c : ℕ) → (region_of p D).role x ≡ marks f c → Path (Edge (region_of p D)) Any x (region_of p D).finish
    marks-to-end f x c w =
        let m = marks-at D p F f x c w in
        to_end x (frame_here D F f x c m.0)
        (subst (λ (q : ℕ). Encloses parent q p) (sym (frame-lies D F f x c m.0)) (counts-within D p m.1 inner-p))

    inner : Connected (region_of p D)
    inner = record {
      from_start = λ {x} k n. from-begin x ((well-formed-tables D few F p (inr is)).kept-below k) (kept-to x k n);
      to-finish = λ {x} {y} e n. elim (edge_to x y e) [
        | inl i ↦ to_end y (edge-at D F x y (edge_in_lem D p x y e)).to_below i
        | inr w ↦ absurd (n (frame-only D F end y p w ∙ sym (finish-inner D p inner-p)))
      ];
      begin-to-finish = λ {x} {c} w. marks-to-end begin x c w;
      end-to-finish = λ {x} {c} w. marks-to-end end x c w;
    }

  pub connected-in : (p : ℕ) → Named D.constructs p → Connected (region_of p D)
  connected-in p (inl q) = subst (λ (k : ℕ). Connected (region_of k D)) (sym q) (connected (region D) whole h)
  connected-in p (inr n) = inner p n
