-- The table of a region's edges as it is filled, one edge of the chart after the other.
-- Assumes nothing.
use mathlib.Core.Path.{◌≡◌, refl, ap, sym, ◌∙◌, subst}
use mathlib.Core.Logic.{◌⊎◌, inl, inr}
use mathlib.Core.Bool.{true, false}
use mathlib.Core.List.{List, [], ◌∷◌, ◌++◌}
use Prim.Native.Nat.{ℕ, zero, suc, ◌+◌, ◌≤◌, ◌<◌}
use native.Mathlib.Omega.{arith}
use native.Mathlib.Decide.{dec_lt}
use native.Mathlib.Numerals.{add-one}
use lib.ListN.{length, get_or, set, replicate, length-replicate, length-append}
use borrow.Author.Tests.{eq-eqb}
use Rattle.lists.specs.Truth.{truth, false-if}
use Rattle.lists.specs.Range.{count_most}
use Rattle.lists.specs.Store.{Written, written-more, at_set, zeros}
use Rattle.lists.specs.Select.{select, select-hit, select-miss, select-length, append_at, append-off}
use Rattle.chart.specs.Format.{outside, Edge, Decoded, decode, edge_at}
use Rattle.chart.specs.Nested.{lies_within}
use Rattle.chart.specs.declared.format.Chart.{Chart}
use Rattle.chart.proofs.Facts.{TablesFit}
use Rattle.chart.proofs.Records.{nodes-length, edges-length}
use Rattle.theory_paths.specs.Cut.{keeps, cut, edges_of, edges-long, edges_at}
use Rattle.search.specs.Parts.{row, Split, Sized, Next}
use Rattle.search.specs.declared.edges.Parts.{Parts}
use Rattle.search.proofs.Placing.{split-none}
use Rattle.mark_tables.proofs.Accepted.{tables}
use Rattle.mark_tables.proofs.Columns.{edge-past}
use Rattle.mark_tables.proofs.Cutting.{flag_of}
use Rattle.mark_tables.specs.Tables.{Accepted, Columns, Stored, left, kept, Blank, Tabled}

-- a table of zeros is blank

blank-row : {A : Type 0} (n : ℕ) (x d : A) (r : ℕ) → r < n → get_or (replicate n x) r d ≡ x
blank-row zero x d r l = absurd (omega arith)
blank-row (suc n) x d zero l = refl
blank-row (suc n) x d (suc r) l = blank-row n x d r (omega arith)

blank-past : (n : ℕ) (x : List ℕ) (r : ℕ) → n ≤ r → get_or (replicate n x) r [] ≡ []
blank-past zero x r l = refl
blank-past (suc n) x zero l = absurd (omega arith)
blank-past (suc n) x (suc r) l = blank-past n x r (omega arith)

blank-rows : (r : ℕ) → r < 6 → row (replicate 6 (replicate 1024 0)) r ≡ replicate 1024 0
blank-rows r l = blank-row 6 (replicate 1024 0) [] r l

pub blank_none : Blank (replicate 6 (replicate 1024 0))
blank_none = record {
  six = length-replicate {A = List ℕ} 6 (replicate 1024 0);
  long = λ r l. rw (blank-rows r l) (length-replicate {A = ℕ} 1024 0);
  none = λ r j. elim (dec_lt r 6) [ yes l ↦ rw (blank-rows r l) (zeros 1024 j) | no n ↦ rw (blank-past 6 (replicate 1024 0) r (omega arith)) refl ];
}

-- the edges that are kept of the first n

module _ (D : Decoded) (p : ℕ) where
  abbrev column : (Edge → ℕ) → List ℕ → ℕ → ℕ
  column pick numbers j = pick (edge_at D.edges (get_or numbers j 0))

  pub record Kept (n : ℕ) (froms tos : List ℕ) (total : ℕ) : Type 0 where
    pub count : total ≡ length (select n (keeps D p))
    pub from : Written (column (λ (e : Edge). e.from) (select n (keeps D p))) total froms
    pub to : Written (column (λ (e : Edge). e.to) (select n (keeps D p))) total tos

  kept-none : {froms tos : List ℕ} → ((j : ℕ) → get_or froms j 0 ≡ 0) → ((j : ℕ) → get_or tos j 0 ≡ 0) → Kept 0 froms tos 0
  unfolding select
  kept-none a b = record {
    count = refl;
    from = record { at = λ j l. absurd (omega arith); past = λ j _. a j };
    to = record { at = λ j l. absurd (omega arith); past = λ j _. b j };
  }

  kept-most : {n : ℕ} {froms tos : List ℕ} {total : ℕ} → Kept n froms tos total → total ≤ n
  kept-most {n} K = omega (arith, K.count, select-length n (keeps D p), count_most n (keeps D p))

  -- one more in a column
  put-column : (pick : Edge → ℕ) (n : ℕ) {total : ℕ} {l : List ℕ} (v : ℕ) → keeps D p n ≡ true → total < length l → total ≡ length (select n (keeps D p))
      → v ≡ pick (edge_at D.edges n) → Written (column pick (select n (keeps D p))) total l → Written (column pick (select (n + 1) (keeps D p))) (total + 1) (set l total v)
  put-column pick n {total} {l} v h room q e w =
      let f = keeps D p in
      let z = select-hit f n h in
      written-more {l = l} v room
      (e ∙ ap (λ (k : ℕ). pick (edge_at D.edges k)) (sym (ap (λ (k : List ℕ). get_or k total 0) z ∙ ap (λ (k : ℕ). get_or (select n f ++ (n ∷ [])) k 0) q ∙ append_at (select n f) n)))
      (record {
        at = λ j m. w.at j m ∙ ap (λ (k : ℕ). pick (edge_at D.edges k)) (sym (ap (λ (k : List ℕ). get_or k j 0) z ∙ append-off (select n f) n j (λ y. omega arith)));
        past = w.past;
      })

  kept-flag : (n : ℕ) {flag from to : ℕ} {froms tos : List ℕ} {total : ℕ} {froms' tos' : List ℕ} {total' : ℕ}
      → flag ≡ flag_of (keeps D p n) → from ≡ (edge_at D.edges n).from → to ≡ (edge_at D.edges n).to → total < length froms → total < length tos
      → Kept n froms tos total → Stored flag from to froms tos total froms' tos' total' → Kept (n + 1) froms' tos' total'
  kept-flag n {froms = froms} {tos} {total} q a b room room' K (left h) =
      let z = sym (select-miss (keeps D p) n (false-if (λ t. none (rw t at q) h))) in
      record {
        count = K.count ∙ ap length z;
        from = subst (λ (l : List ℕ). Written (column (λ (e : Edge). e.from) l) total froms) z K.from;
        to = subst (λ (l : List ℕ). Written (column (λ (e : Edge). e.to) l) total tos) z K.to;
      }
    where
      none : {flag : ℕ} → flag ≡ 1 → flag ≡ 0 → ⊥
      none e o = omega arith
  kept-flag n {from = from} {to} {total = total} q a b room room' K (kept h) =
      let t = some (truth (keeps D p n)) in
      record {
        count = omega (arith, K.count, length-append (select n (keeps D p)) (n ∷ []), ap length (select-hit (keeps D p) n t));
        from = put-column (λ (e : Edge). e.from) n from t room K.count a K.from;
        to = put-column (λ (e : Edge). e.to) n to t room' K.count b K.to;
      }
    where
      some : (keeps D p n ≡ true) ⊎ (keeps D p n ≡ false) → keeps D p n ≡ true
      some (inl t) = t
      some (inr t) = absurd (h (q ∙ ap flag_of t))

  kept-column : (pick : Edge → ℕ) → ((edges : List Edge) (i : ℕ) → length edges ≤ i → pick (edge_at edges i) ≡ 0) → {total : ℕ} {l : List ℕ} → total ≡ length (cut D p)
      → Written (column pick (cut D p)) total l → (i : ℕ) → get_or l i 0 ≡ pick (edge_at (edges_of p D) i)
  kept-column pick past {total} q w i = elim (dec_lt i total) [
    | yes b ↦ w.at i b ∙ ap pick (sym (edges_at D p i (omega arith)))
    | no b ↦ w.past i (omega arith) ∙ sym (past (edges_of p D) i (omega (arith, edges-long D p)))
  ]

  kept-all : {froms tos : List ℕ} {total : ℕ} → Kept (length D.edges) froms tos total → Columns (edges_of p D) froms tos × (total ≡ length (edges_of p D))
  kept-all K = (
    record {
      from = kept-column (λ (e : Edge). e.from) (λ edges i l. (edge-past edges i l).0) K.count K.from;
      to = kept-column (λ (e : Edge). e.to) (λ edges i l. (edge-past edges i l).1) K.count K.to;
    },
    K.count ∙ sym (edges-long D p),
  )

  -- The table after the first n edges of the chart: those of them that are the region's, parted.
  pub record Tabling (n : ℕ) (stops : List ℕ) (table : List (List ℕ)) (total : ℕ) (parts : Parts) : Type 0 where
    pub columns : Kept n (row table 0) (row table 1) total
    pub sized : Sized table
    pub split : Split table total stops parts
    -- none of them leaves a higher node than the next edge
    pub most : n < length D.edges → (i : ℕ) → i < total → get_or (row table 0) i 0 ≤ (edge_at D.edges n).from

  pub tabling-none : {table : List (List ℕ)} (stops : List ℕ) → Blank table → Tabling 0 stops table 0 (record { ups = 0; low = 1024; ins = 0 })
  tabling-none stops b = record {
    columns = kept-none (b.none 0) (b.none 1);
    sized = record { six = b.six; from = b.long 0 (omega arith); to = b.long 1 (omega arith) };
    split = split-none stops b.long (λ r j. omega (arith, b.none r j));
    most = λ l i m. absurd (omega arith);
  }

  next-higher : TablesFit D → (n : ℕ) → n + 1 < length D.edges → (edge_at D.edges n).from ≤ (edge_at D.edges (n + 1)).from
  next-higher F n l = rw (add-one n) (elim (F.edges.rising n (omega arith)) [ inl h ↦ omega (arith, h) | inr h ↦ omega (arith, h.0) ])

  most-more : (n : ℕ) {flag from to : ℕ} {froms tos : List ℕ} {total : ℕ} {froms' tos' : List ℕ} {total' : ℕ} → (edge_at D.edges n).from ≤ (edge_at D.edges (n + 1)).from
      → from ≡ (edge_at D.edges n).from → total < length froms → ((i : ℕ) → i < total → get_or froms i 0 ≤ (edge_at D.edges n).from)
      → Stored flag from to froms tos total froms' tos' total' → (i : ℕ) → i < total' → get_or froms' i 0 ≤ (edge_at D.edges (n + 1)).from
  most-more n next a room old (left h) i m = omega (arith, old i m)
  most-more n {from = from} {froms = froms} {total = total} next a room old (kept h) i m =
      at_set (λ v. v ≤ (edge_at D.edges (n + 1)).from) froms total from i room (λ _. omega arith) (λ z. omega (arith, old i (omega arith)))

  pub tabling-more : (n : ℕ) {flag from to : ℕ} {stops : List ℕ} {old new : List (List ℕ)} {total total' : ℕ} {parts parts' : Parts} → TablesFit D → n < length D.edges → total < 1024
      → flag ≡ flag_of (keeps D p n) → from ≡ (edge_at D.edges n).from → to ≡ (edge_at D.edges n).to → Tabling n stops old total parts
      → Stored flag from to (row old 0) (row old 1) total (row new 0) (row new 1) total' → Split new total' stops parts' × Sized new
      → Tabling (n + 1) stops new total' parts'
  tabling-more n F l few q a b T S (P, Z) = record {
    columns = kept-flag n q a b (omega (arith, T.sized.from)) (omega (arith, T.sized.to)) T.columns S;
    sized = Z;
    split = P;
    most = λ m. most-more n (next-higher F n m) a (omega (arith, T.sized.from)) (T.most l) S;
  }

  pub tabling-all : {n : ℕ} {stops : List ℕ} {table : List (List ℕ)} {total : ℕ} {parts : Parts} → n ≡ length D.edges → Tabling n stops table total parts
      → Tabled p D stops table total parts
  tabling-all q T = let (columns, count) = kept-all (rw q at T.columns) in record { six = T.sized.six; count = count; columns = columns; split = T.split }

-- each edge is one of the outermost region
pub keeps-all : (D : Decoded) (p n : ℕ) → p ≡ outside → true ≡ keeps D p n
unfolding lies_within
keeps-all D p n q = rw (eq-eqb p outside q) refl

-- the next edge may stand there
pub tabling-room : (s : List ℕ) (chart : Chart) → Accepted s chart → {n : ℕ} {stops : List ℕ} {table : List (List ℕ)} {total from to : ℕ} {parts : Parts} → n < chart.edges
    → from ≡ (edge_at (decode s).edges n).from → to ≡ (edge_at (decode s).edges n).to → Tabling (decode s) chart.region n stops table total parts
    → Next table total stops parts from to
tabling-room s chart A {n} l a b T =
    let nodes = nodes-length s chart A.laid in
    let edges = edges-length s chart A.laid in
    let E = (tables s chart A).edges.alone n (omega arith) in
    record {
      split = T.split;
      sized = T.sized;
      within = omega (arith, kept-most (decode s) chart.region T.columns, A.laid.edges_most);
      from = omega (arith, E.from-below, A.laid.nodes-most);
      to = omega (arith, E.to_below, A.laid.nodes-most);
      most = λ i m. rw a (T.most (omega arith) i m);
    }
