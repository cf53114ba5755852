-- The columns make the table of the region.
-- Assumes nothing.
use mathlib.Core.Path.{◌≡◌, refl, sym, ◌∙◌, ap}
use mathlib.Core.Logic.{inl, inr}
use mathlib.Core.Bool.{Bool, true, false, ◌&&◌, cond}
use mathlib.Core.List.{List}
use Prim.Native.Nat.{ℕ, ◌+◌, ◌-◌, ◌*◌, ◌/◌, ◌%◌, ◌≤◌, ◌<◌}
use native.Mathlib.Omega.{arith}
use native.Mathlib.Decide.{dec_lt, ℕ_discrete}
use lib.Dec.{eqb, ltb}
use lib.ListN.{length, get_or}
use borrow.Author.Tests.{eq-eqb, ne_eqb, lt-ltb, le-ltb}
use Rattle.lists.specs.Truth.{false-if}
use Rattle.lists.specs.Bits.{has, has_of, mask-empty, mask-same}
use Rattle.lists.specs.Mask.{mask_of}
use Rattle.chart.specs.Format.{outside, no_node, Decoded, decode, node_at, construct_at}
use Rattle.chart.specs.Region.{Role, ordered, section, Region}
use Rattle.chart.specs.Scope.{begin_node, end_node, kind_of, parent_of, lies_in, lies_at}
use Rattle.chart.specs.Nested.{counts_in}
use Rattle.chart.specs.Reading.{inside_at}
use Rattle.chart.specs.Checked.{reading}
use Rattle.chart.specs.declared.format.Chart.{Chart}
use Rattle.chart.proofs.Records.{nodes-length, constructs-length}
use Rattle.chart.proofs.Constructs.{parallel-below}
use Rattle.chart.proofs.Facts.{frame-construct}
use Rattle.chart.proofs.Tables.{node-fit, no-node}
use Rattle.chart.proofs.Tree.{outside-encloses, computed}
use Rattle.theory_traces.specs.Tests.{is_kind, is_section_of, is_opening}
use Rattle.check_nodes.specs.Framed.{Framed}
use Rattle.mark_tables.specs.Tables.{Accepted}
use Rattle.mark_tables.proofs.Accepted.{tables}
use Rattle.answer_constructs.proofs.Constructs.{ordered-parent}
use Rattle.answer_steps.specs.Tables.{role_by, Tabled}
use Rattle.answer_steps.specs.Words.{Column, Beside, role_code, node_word, construct_word}
use Rattle.answer_steps.specs.Children.{section_at, ordered_at, sort_at, Children}
use Rattle.answer_steps.proofs.Laws.{ordered-test, section-by}
use Rattle.answer_steps.proofs.Roles.{role-coded, code_same, code-kind}

-- the words past the last node
past_word : (D : Decoded) (p members which x : ℕ) → length D.nodes ≤ x → node_word D p members which x ≡ 0
unfolding node_word role_code inside_at lies_at lies_in
past_word D p members which x l = rw (no-node D x l) (go (eqb which 0) (eqb which 1))
  where
    empty : mask_of (inside_at D.nodes D.constructs x) 48 ≡ 0
    empty = mask-empty _ 48 (λ d k. false-if (λ h. outside-encloses (lies (no-node D x l)) (computed (parent_of D.constructs) (length D.constructs) _ d h)))
      where
        lies : node_at D.nodes x ≡ no_node → lies_at D.nodes D.constructs x ≡ outside
        lies q = rw q

    go : (a b : Bool) → cond a 0 (cond b 0 (mask_of (inside_at D.nodes D.constructs x) 48)) ≡ 0
    go true b = refl
    go false true = refl
    go false false = empty

module _ (s : List ℕ) (chart : Chart) (A : Accepted s chart) where
  abbrev D : Decoded
  D = decode s

  abbrev p : ℕ
  p = chart.region

  abbrev R : Region
  R = reading s chart

  abbrev kind : ℕ → ℕ
  kind x = (node_at D.nodes x).kind

  abbrev number : ℕ → ℕ
  number x = (node_at D.nodes x).number

  few : R.constructs ≤ 48
  few = omega (arith, constructs-length s chart A.laid, A.laid.constructs-most)

  frame : (x : ℕ) → 2 ≤ kind x → number x < R.constructs
  frame x l = frame-construct (node-fit D (tables s chart A) x) l

  -- a parallel's region
  region-below : (p ≡ outside → ⊥) → p < R.constructs
  region-below d = elim A.named [ inl q ↦ absurd (d q) | inr h ↦ parallel-below D.constructs p h ]

  pub region-few : (p ≡ outside → ⊥) → p < 64
  region-few d = omega (arith, region-below d, few)

  module _ (members : ℕ) (begins ends : List ℕ) (mem : members ≡ mask_of (counts_in D.constructs p) chart.constructs) where
    has-member : (c : ℕ) → c < R.constructs → has members c ≡ counts_in D.constructs p c
    has-member c l = ap (λ (w : ℕ). has w c) mem ∙ has_of (counts_in D.constructs p) chart.constructs c (omega (arith, constructs-length s chart A.laid))

    role-word : (x : ℕ) → R.role x ≡ role_by (node_word D p members 0 x) (node_word D p members 1 x)
    unfolding node_word
    role-word x =
        role-coded p (counts_in D.constructs p) (kind x) (number x) (node-fit D (tables s chart A) x).known
        ∙ ap (λ (c : ℕ). role_by c (cond (ltb (kind x) 2) 0 (number x)))
        (code_same p (counts_in D.constructs p) (has members) (kind x) (number x) (λ l. sym (has-member (number x) (frame x l))))

    number_word : (x : ℕ) → 2 ≤ node_word D p members 0 x → node_word D p members 1 x < R.constructs
    unfolding node_word
    number_word x l = let k = code-kind p (has members) (kind x) (number x) l in rw (le-ltb (kind x) 2 k) (frame x k)

    number-few : (x : ℕ) → node_word D p members 1 x < 48
    unfolding node_word
    number-few x = go (dec_lt (kind x) 2)
      where
        go : Dec (kind x < 2) → cond (ltb (kind x) 2) 0 (number x) < 48
        go (yes l) = rw (lt-ltb (kind x) 2 l) (omega arith)
        go (no l) = rw (le-ltb (kind x) 2 (omega arith)) (omega (arith, frame x (omega arith), few))

    inside-word : (x c : ℕ) → c < R.constructs → R.inside x c ≡ (has (node_word D p members 2 x) c && has members c)
    unfolding node_word
    inside-word x c l = sym (rw (has_of (inside_at D.nodes D.constructs x) 48 c (omega (arith, few)), has-member c l) refl)

    module _ (B : Framed D begin_node begins) (E : Framed D end_node ends) where
      -- where the team begins and ends
      start-frame : R.start ≡ cond (eqb p outside) 0 (get_or begins p 0)
      start-frame = elim (ℕ_discrete p outside) [ yes q ↦ rw (eq-eqb p outside q) | no d ↦ rw (ne_eqb p outside d) (sym (B.at p (region-below d))) ]

      start-low : R.start < 256
      start-low = elim (ℕ_discrete p outside) [
        | yes q ↦ rw (eq-eqb p outside q) (omega arith)
        | no d ↦ rw (ne_eqb p outside d, sym (B.at p (region-below d))) (omega (arith, B.node p))
      ]

      finish-frame : R.finish ≡ cond (eqb p outside) (chart.nodes - 1) (get_or ends p 0)
      finish-frame = elim (ℕ_discrete p outside) [
        | yes q ↦ rw (eq-eqb p outside q, nodes-length s chart A.laid)
        | no d ↦ rw (ne_eqb p outside d) (sym (E.at p (region-below d)))
      ]

      module _ {t0 t1 t2 t3 t4 t5 t6 t7 t8 t9 t10 t11 t12 : List ℕ} (blank : (j : ℕ) → get_or t0 j 0 ≡ 0) (long : length t0 ≡ 2133)
          (N0 : Column 1024 chart.nodes (node_word D p members 0) t0 t1) (N1 : Column 1280 chart.nodes (node_word D p members 1) t1 t2)
          (N2 : Column 1536 chart.nodes (node_word D p members 2) t2 t3)
          (C0 : Column 1792 chart.constructs (construct_word D begins ends 0) t3 t4) (C1 : Column 1840 chart.constructs (construct_word D begins ends 1) t4 t5)
          (C2 : Column 1888 chart.constructs (construct_word D begins ends 2) t5 t6) (C3 : Column 1936 chart.constructs (construct_word D begins ends 3) t6 t7)
          (C4 : Column 1984 chart.constructs (construct_word D begins ends 4) t7 t8)
          (numbers : (get_or t9 2032 0 ≡ members) × (get_or t9 2033 0 ≡ chart.constructs) × (get_or t9 2036 0 ≡ chart.nodes))
          (bounds : (get_or t9 2034 0 ≡ cond (eqb p outside) 0 (get_or begins p 0)) × (get_or t9 2035 0 ≡ cond (eqb p outside) (chart.nodes - 1) (get_or ends p 0)))
          (S : Beside 2032 2037 t8 t9)
          (K0 : Children 0 (get_or t9 2033 0) t9 t10) (K1 : Children 1 (get_or t10 2033 0) t10 t11)
          (edges : (x y : ℕ) → x < 256 → y < 256 → R.edge x y ≡ has (get_or t12 (4 * x + y / 64) 0) (y % 64)) (T : Beside 0 1024 t11 t12) where
        n-most : chart.nodes ≤ 192
        n-most = A.laid.nodes-most

        -- what is written after the numbers, after the nodes' columns, and after the constructs'
        last : (j : ℕ) → 1024 ≤ j → j < 2037 → get_or t12 j 0 ≡ get_or t9 j 0
        last j a b = T.rest j (inr (omega arith)) ∙ K1.beside.rest j (inl (omega arith)) ∙ K0.beside.rest j (inl (omega arith))

        after-nodes : (j : ℕ) → 1024 ≤ j → j < 1792 → get_or t12 j 0 ≡ get_or t3 j 0
        after-nodes j a b =
            last j (omega arith) (omega arith) ∙ S.rest j (inl (omega arith)) ∙ C4.rest j (inl (omega arith)) ∙ C3.rest j (inl (omega arith))
            ∙ C2.rest j (inl (omega arith)) ∙ C1.rest j (inl (omega arith)) ∙ C0.rest j (inl (omega arith))

        after-all : (j : ℕ) → 1792 ≤ j → j < 2032 → get_or t12 j 0 ≡ get_or t8 j 0
        after-all j a b = last j (omega arith) (omega arith) ∙ S.rest j (inl (omega arith))

        -- a column of the nodes goes on with zeros
        node-word : (which a : ℕ) {old new : List ℕ} → Column a chart.nodes (node_word D p members which) old new → ((j : ℕ) → a ≤ j → j < a + 256 → get_or old j 0 ≡ 0)
            → ((j : ℕ) → a ≤ j → j < a + 256 → get_or t12 j 0 ≡ get_or new j 0) → (x : ℕ) → x < 256 → get_or t12 (a + x) 0 ≡ node_word D p members which x
        node-word which a C z later x l = go (dec_lt x chart.nodes)
          where
            go : Dec (x < chart.nodes) → get_or t12 (a + x) 0 ≡ node_word D p members which x
            go (yes h) = later (a + x) (omega arith) (omega arith) ∙ C.at x h
            go (no h) =
                later (a + x) (omega arith) (omega arith) ∙ C.rest (a + x) (inr (omega arith)) ∙ z (a + x) (omega arith) (omega arith)
                ∙ sym (past_word D p members which x (omega (arith, nodes-length s chart A.laid)))

        role : (x : ℕ) → x < 256 → get_or t12 (1024 + x) 0 ≡ node_word D p members 0 x
        role = node-word 0 1024 N0 (λ j a b. blank j)
            (λ j a b. after-nodes j (omega arith) (omega arith) ∙ N2.rest j (inl (omega arith)) ∙ N1.rest j (inl (omega arith)))

        named : (x : ℕ) → x < 256 → get_or t12 (1280 + x) 0 ≡ node_word D p members 1 x
        named = node-word 1 1280 N1 (λ j a b. N0.rest j (inr (omega arith)) ∙ blank j) (λ j a b. after-nodes j (omega arith) (omega arith) ∙ N2.rest j (inl (omega arith)))

        around : (x : ℕ) → x < 256 → get_or t12 (1536 + x) 0 ≡ node_word D p members 2 x
        around = node-word 2 1536 N2 (λ j a b. N1.rest j (inr (omega arith)) ∙ N0.rest j (inr (omega arith)) ∙ blank j) (λ j a b. after-nodes j (omega arith) (omega arith))

        below : {c : ℕ} → c < R.constructs → c < chart.constructs
        below l = omega (arith, constructs-length s chart A.laid)

        kind-word : (c : ℕ) → c < R.constructs → get_or t12 (1792 + c) 0 ≡ (construct_at D.constructs c).kind
        unfolding construct_word
        kind-word c l =
            let h = below l in
            after-all (1792 + c) (omega arith) (omega arith) ∙ C4.rest (1792 + c) (inl (omega arith)) ∙ C3.rest (1792 + c) (inl (omega arith))
            ∙ C2.rest (1792 + c) (inl (omega arith)) ∙ C1.rest (1792 + c) (inl (omega arith)) ∙ C0.at c h

        parent-word : (c : ℕ) → c < R.constructs → get_or t12 (1840 + c) 0 ≡ (construct_at D.constructs c).parent
        unfolding construct_word
        parent-word c l =
            let h = below l in
            after-all (1840 + c) (omega arith) (omega arith) ∙ C4.rest (1840 + c) (inl (omega arith)) ∙ C3.rest (1840 + c) (inl (omega arith))
            ∙ C2.rest (1840 + c) (inl (omega arith)) ∙ C1.at c h

        thread-word : (c : ℕ) → c < R.constructs → get_or t12 (1888 + c) 0 ≡ (construct_at D.constructs c).filter
        unfolding construct_word
        thread-word c l =
            let h = below l in
            after-all (1888 + c) (omega arith) (omega arith) ∙ C4.rest (1888 + c) (inl (omega arith)) ∙ C3.rest (1888 + c) (inl (omega arith)) ∙ C2.at c h

        begin-word : (c : ℕ) → c < R.constructs → get_or t12 (1936 + c) 0 ≡ get_or begins c 0
        unfolding construct_word
        begin-word c l = let h = below l in after-all (1936 + c) (omega arith) (omega arith) ∙ C4.rest (1936 + c) (inl (omega arith)) ∙ C3.at c h

        end-word : (c : ℕ) → c < R.constructs → get_or t12 (1984 + c) 0 ≡ get_or ends c 0
        unfolding construct_word
        end-word c l = let h = below l in after-all (1984 + c) (omega arith) (omega arith) ∙ C4.at c h

        count : get_or t9 2033 0 ≡ R.constructs
        count = numbers.1 ∙ sym (constructs-length s chart A.laid)

        -- the sorts of the constructs, as the region has them
        section-sort : (c x : ℕ) → x < R.constructs → (sort_at 0 t9 x && eqb (get_or t9 (1840 + x) 0) c) ≡ is_section_of R c x
        unfolding sort_at section_at is_section_of parent_of
        section-sort c x l =
            let begin : get_or t9 (1936 + x) 0 ≡ R.begin x = sym (last (1936 + x) (omega arith) (omega (arith, few))) ∙ begin-word x l ∙ B.at x l in
            let low : R.begin x < 256 = omega (arith, B.node x, sym (B.at x l)) in
            let code = sym (last (1024 + R.begin x) (omega arith) (omega arith)) ∙ role (R.begin x) low in
            let number = sym (last (1280 + R.begin x) (omega arith) (omega arith)) ∙ named (R.begin x) low in
            let kind = sym (last (1792 + x) (omega arith) (omega (arith, few))) ∙ kind-word x l in
            let parent = sym (last (1840 + x) (omega arith) (omega (arith, few))) ∙ parent-word x l in
            rw (begin, code, number, kind, parent) (section-by (node_word D p members 0 (R.begin x)) (node_word D p members 1 (R.begin x)) _ _ c x
            ∙ ap (λ (r : Role). is_opening x r && (is_kind (R.kind x) section && eqb (R.parent x) c)) (sym (role-word (R.begin x))))

        ordered-sort : (d o : ℕ) → o < R.constructs
            → (sort_at 1 t10 o && eqb (get_or t10 (1840 + o) 0) d) ≡ ((is_kind (R.kind o) ordered && has (get_or t12 2032 0) o) && eqb (R.parent o) d)
        unfolding sort_at ordered_at parent_of
        ordered-sort d o l =
            let back : (j : ℕ) → 1024 ≤ j → j < 2037 → get_or t10 j 0 ≡ get_or t12 j 0 = λ j a b. K0.beside.rest j (inl (omega arith)) ∙ sym (last j a b) in
            let kind = back (1792 + o) (omega arith) (omega (arith, few)) ∙ kind-word o l in
            let parent = back (1840 + o) (omega arith) (omega (arith, few)) ∙ parent-word o l in
            rw (kind, back 2032 (omega arith) (omega arith), parent) (ap (λ (b : Bool). (b && has (get_or t12 2032 0) o) && eqb (R.parent o) d) (sym (ordered-test _)))

        pub tabled : Tabled R t12
        unfolding parent_of
        tabled = record {
          long = T.long ∙ K1.beside.long ∙ K0.beside.long ∙ S.long ∙ C4.long ∙ C3.long ∙ C2.long ∙ C1.long ∙ C0.long ∙ N2.long ∙ N1.long ∙ N0.long ∙ long;
          edge = edges;
          role = λ x l. rw (role x l, named x l) (role-word x);
          number = λ x l h. rw (named x l) (number_word x (rw (role x l) at h));
          numbers = λ x l. rw (named x l) (number-few x);
          inside = λ x c l h. rw (around x l, last 2032 (omega arith) (omega arith), numbers.0) (inside-word x c h);
          kind = λ c l. sym (ap kind_of (kind-word c l));
          parent = λ c l. sym (parent-word c l);
          thread = λ c l. sym (thread-word c l);
          begin = λ c l. sym (begin-word c l ∙ B.at c l);
          end = λ c l. sym (end-word c l ∙ E.at c l);
          begins = λ c l. rw (begin-word c l) (omega (arith, B.node c));
          dos = λ c l q. rw (parent-word c l) (ordered-parent s chart A c l (sym (kind-word c l) ∙ q));
          constructs = constructs-length s chart A.laid ∙ sym (last 2033 (omega arith) (omega arith) ∙ numbers.1);
          few = few;
          start = start-frame ∙ sym (last 2034 (omega arith) (omega arith) ∙ bounds.0);
          starts = start-low;
          finish = finish-frame ∙ sym (last 2035 (omega arith) (omega arith) ∙ bounds.1);
          nodes = nodes-length s chart A.laid ∙ sym (last 2036 (omega arith) (omega arith) ∙ numbers.2);
          few-nodes = omega (arith, nodes-length s chart A.laid, n-most);
          sections = λ c l. T.rest (2037 + c) (inr (omega arith)) ∙ K1.beside.rest (2037 + c) (inl (omega arith)) ∙ K0.at c l
              ∙ ap (mask_of _) count ∙ mask-same _ _ R.constructs (section-sort c);
          ordereds = λ d l. T.rest (2085 + d) (inr (omega arith)) ∙ K1.at d l ∙ ap (mask_of _) (K0.beside.rest 2033 (inl (omega arith)) ∙ count) ∙ mask-same _ _ R.constructs (ordered-sort d);
        }
