-- The parts of a chart with one edge more, or one less, put together; and how an edge is found.
-- Assumes nothing.
use mathlib.Core.Path.{◌≡◌, refl, ap, sym, ◌∙◌}
use mathlib.Core.Bool.{Bool, true, false, not, ◌&&◌, cond}
use mathlib.Core.List.{List, [], ◌∷◌, ◌++◌}
use mathlib.Core.Option.{none}
use Prim.Native.Nat.{ℕ, ◌+◌, ◌*◌, ◌-◌, ◌≤◌, ◌<◌}
use native.Mathlib.Omega.{arith}
use lib.Dec.{eqb}
use lib.ListN.{length, take}
use lib.Seq.{length-take-le}
use borrow.Author.Tests.{eq-eqb}
use mir.Val.{bool_byte}
use Rattle.lists.specs.Truth.{both-and, false-if, same_truth}
use Rattle.lists.specs.Range.{count, at-any, count_most, count-more}
use Rattle.chart.specs.Format.{Edge, decode, edge_at, construct_bytes}
use Rattle.chart.specs.Reading.{edge_in}
use Rattle.chart.specs.Refusal.{rises, first_of, trailer_rows}
use Rattle.chart.specs.Checked.{Laid, counts_of}
use Rattle.chart.specs.declared.format.Chart.{Chart}
use Rattle.chart.proofs.Accepted.{laid}
use Rattle.chart.proofs.Records.{edges-length}
use Rattle.chart_writing.specs.Bytes.{trailer_bytes}
use Rattle.chart_writing.specs.BytesLaws.{same-trailer}
use Rattle.chart_writing.specs.Trailer.{trailer_for, small-edition, trailer-is}
use Rattle.chart_writing.proofs.Putting.{chained}
use Rattle.theory_edits.specs.Splice.{place, longer, shorter, record_at, records_from, inserted, removed}
use Rattle.call_edges.specs.Splicing.{LaidAs}
use Rattle.theory_edits.specs.PlaceLaws.{Rising, at_place}

pub byte-is : (b : Bool) → bool_byte b ≡ cond b 1 0
byte-is true = refl
byte-is false = refl

pub byte_most : (b : Bool) → bool_byte b ≤ 1
byte_most true = omega arith
byte_most false = omega arith

-- the place, counted edge by edge
pub place-more : (edges : List Edge) (x y i : ℕ) {sum r : ℕ} → sum ≡ count i (λ k. rises (edge_at edges k).from (edge_at edges k).to x y)
    → r ≡ bool_byte (rises (edge_at edges i).from (edge_at edges i).to x y)
    → sum + r ≡ count (i + 1) (λ k. rises (edge_at edges k).from (edge_at edges k).to x y)
place-more edges x y i e f = rw (e, f, byte-is) (sym (count-more i (λ k. rises (edge_at edges k).from (edge_at edges k).to x y)))

pub place-most : (s : List ℕ) (chart : Chart) → Laid s chart → (x y : ℕ) → place (decode s).edges x y ≤ chart.edges
unfolding place
place-most s chart L x y =
    let most = count_most (length (decode s).edges) (λ i. rises (edge_at (decode s).edges i).from (edge_at (decode s).edges i).to x y) in
    omega (arith, most, edges-length s chart L)

bytes_most : (edition c : ℕ) → construct_bytes edition c ≤ 6 * c
unfolding construct_bytes
bytes_most edition c = go (eqb edition 2)
  where
    go : (b : Bool) → cond b (6 * c) (4 * c) ≤ 6 * c
    go true = omega arith
    go false = omega arith

-- a chart that rows 1 to 4 let pass: its counts, and where a record among its edges may stand
pub record Room (s : List ℕ) (chart : Chart) (at : ℕ) : Type 0 where
  pub edition : chart.edition ≤ 2
  pub nodes : chart.nodes ≤ 192
  pub edges : chart.edges ≤ 1024
  pub constructs : chart.constructs ≤ 48
  pub whole : at + 16 ≤ length s
  pub most : length s ≤ 3120

module _ (s : List ℕ) (passes : first_of (trailer_rows s) ≡ none) where
  abbrev counts : Chart
  counts = counts_of s

  pub room : (place : ℕ) → place ≤ counts.edges → Room s counts (4 * counts.nodes + 2 * place)
  unfolding counts_of
  room place l =
      let L = laid s passes in
      let c = bytes_most counts.edition counts.constructs in
      record {
        edition = small-edition s passes;
        nodes = L.nodes-most;
        edges = L.edges_most;
        constructs = L.constructs-most;
        whole = omega (arith, L.whole);
        most = omega (arith, L.whole, c, L.nodes-most, L.edges_most, L.constructs-most);
      }

  -- the trailer of the longer chart, by its counts
  longer-for : (edition n e c : ℕ) → longer (trailer_for edition n e c) ≡ trailer_for edition n (e + 1) c
  unfolding longer trailer_for
  longer-for edition n e c =
      let all : 4 * n + 2 * e + construct_bytes edition c + 16 + 2 ≡ 4 * n + 2 * (e + 1) + construct_bytes edition c + 16 = omega arith in
      let some : 2 * e + construct_bytes edition c + 16 + 2 ≡ 2 * (e + 1) + construct_bytes edition c + 16 = omega arith in
      same-trailer refl refl refl refl all some refl refl

  longer-is : longer (decode s).trailer ≡ trailer_for counts.edition counts.nodes (counts.edges + 1) counts.constructs
  unfolding counts_of
  longer-is = ap longer (trailer-is s passes) ∙ longer-for counts.edition counts.nodes counts.edges counts.constructs

  -- where a record stands, by the counts
  pub stands : (chart : Chart) → chart ≡ counts_of s → (x y : ℕ) {n : ℕ} → n ≡ place (decode s).edges x y → 4 * chart.nodes + 2 * n ≡ record_at s x y
  unfolding record_at counts_of
  stands chart e x y q = rw (e, q)

  -- the parts, one after the other
  pub longer-put : (chart : Chart) → chart ≡ counts_of s → (x y at : ℕ) → at ≡ record_at s x y → {l₁ l₂ l₃ l₄ : List ℕ} → l₁ ≡ take at s → l₂ ≡ l₁ ++ (x ∷ [])
      → l₃ ≡ l₂ ++ (y ∷ []) → l₄ ≡ l₃ ++ (records_from s at ++ trailer_bytes (trailer_for chart.edition chart.nodes (chart.edges + 1) chart.constructs))
      → l₄ ≡ inserted s x y
  unfolding inserted
  longer-put chart e x y at h p q r t =
      let first = q ∙ ap (λ (l : List ℕ). l ++ (x ∷ [])) p in
      let both = chained (take at s) (x ∷ []) (y ∷ []) first r in
      rw (← h, longer-is) (rw e at (chained (take at s) (x ∷ y ∷ []) _ both t))

  -- for one edge less
  shorter-for : (edition n e c : ℕ) → 1 ≤ e → shorter (trailer_for edition n e c) ≡ trailer_for edition n (e - 1) c
  unfolding shorter trailer_for
  shorter-for edition n e c h =
      let all : 4 * n + 2 * e + construct_bytes edition c + 16 - 2 ≡ 4 * n + 2 * (e - 1) + construct_bytes edition c + 16 = omega arith in
      let some : 2 * e + construct_bytes edition c + 16 - 2 ≡ 2 * (e - 1) + construct_bytes edition c + 16 = omega arith in
      same-trailer refl refl refl refl all some refl refl

  shorter-is : shorter (decode s).trailer ≡ trailer_for counts.edition counts.nodes (counts.edges - 1) counts.constructs
  unfolding counts_of
  shorter-is = ap shorter (trailer-is s passes) ∙ shorter-for counts.edition counts.nodes counts.edges counts.constructs (laid s passes).one-edge

  module _ (chart : Chart) (e : chart ≡ counts_of s) (x y at : ℕ) (h : at ≡ record_at s x y) where
    abbrev rest : List ℕ
    rest = records_from s (at + 2) ++ trailer_bytes (trailer_for chart.edition chart.nodes (chart.edges - 1) chart.constructs)

    whole : take at s ++ rest ≡ removed s x y
    unfolding removed
    whole = rw (← h, shorter-is, ← e)

    pub shorter-put : {l₁ l₂ l₃ l₄ : List ℕ} → l₁ ≡ take at s → l₂ ≡ l₁ ++ rest → l₃ ≡ l₂ ++ (0 ∷ []) → l₄ ≡ l₃ ++ (0 ∷ [])
        → l₄ ≡ removed s x y ++ (0 ∷ 0 ∷ [])
    shorter-put p q r t =
        let all = q ∙ ap (λ (l : List ℕ). l ++ rest) p ∙ whole in
        chained (removed s x y) (0 ∷ []) (0 ∷ []) (r ∙ ap (λ (l : List ℕ). l ++ (0 ∷ [])) all) t

-- a chart whose counts these are: a record among its edges, and the one at the place of an edge
pub room_at : (s : List ℕ) (chart : Chart) → LaidAs s chart → (place : ℕ) → place ≤ chart.edges → Room s chart (4 * chart.nodes + 2 * place)
room_at s chart (passes, is) place l = rw is (room s passes place (rw is at l))

pub room_for : (s : List ℕ) (chart : Chart) → LaidAs s chart → (x y n : ℕ) → n ≡ place (decode s).edges x y → Room s chart (4 * chart.nodes + 2 * n)
room_for s chart (passes, is) x y n e = rw (e, is) (room s passes _ (place-most s _ (laid s passes) x y))

-- the bytes before it
pub front-room : {s : List ℕ} {chart : Chart} (at : ℕ) → Room s chart at → length (take at s) ≡ at
front-room {s} at f = let whole = f.whole in length-take-le at s (omega arith)

-- an edge is where its place says, or nowhere
module _ (edges : List Edge) (rising : Rising edges) (x y : ℕ) where
  abbrev here : Edge
  here = edge_at edges (place edges x y)

  pub past-edges : length edges ≤ place edges x y → true ≡ not (edge_in edges x y)
  past-edges l = rw (false-if {b = edge_in edges x y} (λ h. past (at_place edges rising x y h).0))
    where
      past : place edges x y < length edges → ⊥
      past h = omega arith

  pub stands_there : place edges x y < length edges → {a b : ℕ} → a ≡ here.from → b ≡ here.to → not (eqb a x && eqb b y) ≡ not (edge_in edges x y)
  unfolding edge_in
  stands_there l e f = rw (e, f) (ap not (same_truth _ _ there back))
    where
      there : (eqb here.from x && eqb here.to y) ≡ true → edge_in edges x y ≡ true
      there h = at-any (length edges) _ (place edges x y) l h

      back : edge_in edges x y ≡ true → (eqb here.from x && eqb here.to y) ≡ true
      back h =
          let same = (at_place edges rising x y h).1 in
          both-and _ _ (eq-eqb _ _ (ap (λ (e : Edge). e.from) same)) (eq-eqb _ _ (ap (λ (e : Edge). e.to) same))
