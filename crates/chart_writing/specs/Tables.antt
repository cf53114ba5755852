-- The tables of a chart, one after the other in its bytes: what is decoded of each is what its own bytes say.
-- Assumes nothing.
use Rattle.std.specs.Prelude.{◌≡◌, Bool, true, false, cond, eqb, drop}
use Rattle.std.proofs.Math.Path.{refl, ap}
use Rattle.std.proofs.Common.{sym, ◌∙◌, length-append, drop_at}
use mathlib.Core.List.{List, [], ◌∷◌, ◌++◌}
use Prim.Native.Nat.{ℕ, zero, suc, ◌+◌, ◌*◌, ◌-◌, ◌≤◌, ◌<◌}
use native.Mathlib.Omega.{arith}
use Rattle.std.proofs.Math.Nat.{mul-suc}
use Rattle.std.proofs.Math.ListN.{length, length-drop, get_or-append}
use Rattle.std.proofs.Math.Seq.{drop-append-le, drop-append-add}
use Rattle.chart.specs.Format.{field, Node, Edge, Construct, Trailer, Decoded, node_of, edge_of, construct_of, construct_width, construct_bytes, trailer_of, records, last_trailer, decode}
use Rattle.chart.proofs.Records.{bytes-width}

-- A record is read from its own bytes alone.
abbrev pub Local : {A : Type 0} → (List ℕ → A) → ℕ → Type 0
Local read width = (l more : List ℕ) → width ≤ length l → read (l ++ more) ≡ read l

module _ {A : Type 0} (read : List ℕ → A) (width : ℕ) (own : Local read width) where
  pub records-front : (n : ℕ) (l more : List ℕ) → width * n ≤ length l → records read width n (l ++ more) ≡ records read width n l
  unfolding records
  records-front zero l more h = refl
  records-front (suc n) l more h =
      let q : width * suc n ≡ width + width * n = omega (arith, mul-suc width n) in
      let fits : width ≤ length l = omega arith in
      let rest : width * n ≤ length (drop width l) = omega (arith, length-drop width l) in
      rw (own l more fits, drop-append-le width l more fits, records-front n (drop width l) more rest)

  -- the records of two runs of bytes, one after the other
  pub records-append : (m n : ℕ) (l more : List ℕ) → length l ≡ width * m → records read width (m + n) (l ++ more) ≡ records read width m l ++ records read width n more
  unfolding records
  records-append zero n [] more h = let z : 0 + n ≡ n = omega arith in rw z
  records-append zero n (a ∷ l) more h = absurd (some (omega (arith, h)))
    where
      some : suc (length l) ≡ 0 → ⊥
      some q = omega arith
  records-append (suc m) n l more h =
      let z : suc m + n ≡ suc (m + n) = omega arith in
      let q : width * suc m ≡ width + width * m = omega (arith, mul-suc width m) in
      let fits : width ≤ length l = omega arith in
      let rest : length (drop width l) ≡ width * m = omega (arith, length-drop width l) in
      rw (z, records, own l more fits, drop-append-le width l more fits, records-append m n (drop width l) more rest)

field-own : (l more : List ℕ) (at : ℕ) → at + 1 < length l → field (l ++ more) at ≡ field l at
unfolding field
field-own l more at h = rw (get_or-append l more 0 at (omega arith), get_or-append l more 0 (at + 1) h)

pub node-own : Local node_of 4
unfolding node_of
node-own l more h = rw (get_or-append l more 0 0 (omega arith), get_or-append l more 0 1 (omega arith), field-own l more 2 (omega arith))

pub edge-own : Local edge_of 2
unfolding edge_of
edge-own l more h = rw (get_or-append l more 0 0 (omega arith), get_or-append l more 0 1 (omega arith))

pub construct-own : (edition : ℕ) → Local (construct_of edition) (construct_width edition)
unfolding construct_of construct_width
construct-own edition l more h =
    let four = wide (eqb edition 2) h in
    rw (get_or-append l more 0 0 (omega (arith, four)), get_or-append l more 0 1 (omega (arith, four)), field-own l more 2 (omega (arith, four)), filter (eqb edition 2) h)
  where
    wide : (b : Bool) → cond b 6 4 ≤ length l → 4 ≤ length l
    wide true h = omega arith
    wide false h = omega arith

    filter : (b : Bool) → cond b 6 4 ≤ length l → cond b (field (l ++ more) 4) 0 ≡ cond b (field l 4) 0
    filter true h = field-own l more 4 (omega arith)
    filter false h = refl

-- Where the trailer says how many records there are in each table.
module _ (N E C T : List ℕ) (t : Trailer) (reads : trailer_of T ≡ t) (long : length T ≡ 16)
    (nodes-long : length N ≡ 4 * t.nodes) (edges-long : length E ≡ 2 * t.edges) (constructs-long : length C ≡ construct_bytes t.edition t.constructs) where
  abbrev bytes : List ℕ
  bytes = N ++ (E ++ (C ++ T))

  pub tables-length : length bytes ≡ length N + length E + length C + 16
  tables-length = omega (arith, length-append N (E ++ (C ++ T)), length-append E (C ++ T), length-append C T)

  from-trailer : drop (length bytes - 16) bytes ≡ T
  from-trailer =
      let q : length bytes - 16 ≡ length N + (length E + length C) = omega (arith, tables-length) in
      rw q (drop-append-add N (E ++ (C ++ T)) (length E + length C) ∙ drop-append-add E (C ++ T) (length C) ∙ drop_at C T (length C) refl)

  pub tables-trailer : last_trailer bytes ≡ t
  unfolding last_trailer
  tables-trailer = ap trailer_of from-trailer ∙ reads

  from-edges : drop (4 * t.nodes) bytes ≡ E ++ (C ++ T)
  from-edges = drop_at N (E ++ (C ++ T)) (4 * t.nodes) nodes-long

  from-constructs : drop (4 * t.nodes + 2 * t.edges) bytes ≡ C ++ T
  from-constructs =
      ap (λ (k : ℕ). drop (k + 2 * t.edges) bytes) (sym nodes-long) ∙ drop-append-add N (E ++ (C ++ T)) (2 * t.edges)
      ∙ drop_at E (C ++ T) (2 * t.edges) edges-long

  same : {a b : List Node} {p q : List Edge} {k j : List Construct} {u v : Trailer} → a ≡ b → p ≡ q → k ≡ j → u ≡ v
      → ◌≡◌ {A = Decoded} (record { nodes = a; edges = p; constructs = k; trailer = u }) (record { nodes = b; edges = q; constructs = j; trailer = v })
  same f g h k = λ i. record { nodes = f i; edges = g i; constructs = h i; trailer = k i }

  pub decode-tables : decode bytes ≡ record {
    nodes = records node_of 4 t.nodes N;
    edges = records edge_of 2 t.edges E;
    constructs = records (construct_of t.edition) (construct_width t.edition) t.constructs C;
    trailer = t;
  }
  unfolding decode
  decode-tables = rw (tables-trailer, from-edges, from-constructs) (same
      (records-front node_of 4 node-own t.nodes N (E ++ (C ++ T)) (omega (arith, nodes-long)))
      (records-front edge_of 2 edge-own t.edges E (C ++ T) (omega (arith, edges-long)))
      (records-front (construct_of t.edition) (construct_width t.edition) (construct-own t.edition) t.constructs C T (omega (arith, constructs-long, bytes-width t.edition t.constructs)))
      refl)
