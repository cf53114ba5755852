-- The tables of a block's chart, and its bytes from them.
-- Assumes nothing.
use mathlib.Core.Path.{◌≡◌, refl, ap, sym, subst, ◌∙◌}
use mathlib.Core.Bool.{Bool, true, false}
use mathlib.Core.List.{List, [], ◌∷◌, ◌++◌, append_assoc, append-nil}
use Prim.Native.Nat.{ℕ, suc, ◌+◌, ◌*◌, ◌≤◌}
use native.Mathlib.Omega.{arith}
use native.Mathlib.Nat.{zero-add}
use lib.Dec.{eqb}
use lib.ListN.{length, take}
use lib.Seq.{length-take-le}
use Rattle.lists.specs.Truth.{bad}
use Rattle.chart.specs.Format.{outside, construct_bytes}
use Rattle.chart.specs.declared.format.Chart.{Chart}
use Rattle.chart_writing.specs.Bytes.{field_bytes, trailer_bytes}
use Rattle.chart_writing.specs.Encode.{flat, encode}
use Rattle.chart_writing.specs.Trailer.{trailer_for}
use Rattle.theory_listing.specs.Tree.{Block, node_count, construct_count, first, stop, cell, two, cells, constructs}
use Rattle.theory_listing.specs.Grammar.{most_depth, Read, up_to, stopped, after, pick, block_of, listed}
use Rattle.theory_listing.proofs.Flow.{two-same}
use Rattle.theory_listing.specs.Meaning.{kind_byte, whole, edges_of, block_nodes, block_edges, block_constructs, block_bytes}
use Rattle.theory_listing.proofs.BlockTables.{length-nodes}
use Rattle.theory_listing.proofs.Counts.{length-block_constructs, block-length}
use Rattle.call_listing.specs.Stored.{Stored, StoredParts}
use Rattle.call_listing.specs.Chart.{Tabled}
use Rattle.call_listing.proofs.Joining.{stored-joined}

pub listed-read : (s : List ℕ) (b : Block) (last : ℕ) → listed s ≡ up_to b last → block_of (suc (length s)) s most_depth 0 ≡ up_to b last
unfolding listed
listed-read s b last h = go (block_of (suc (length s)) s most_depth 0) refl h
  where
    on : (c : Block) (n : ℕ) (x : Bool) → pick x (λ u. up_to c n) (λ u. stopped 14) ≡ up_to b last → up_to c n ≡ up_to b last
    on c n true q = q
    on c n false q = absurd (bad (cc))

    go : (r : Read Block) → block_of (suc (length s)) s most_depth 0 ≡ r
        → after r (λ b next. pick (eqb next (length s)) (λ u. up_to b next) (λ u. stopped 14)) ≡ up_to b last → block_of (suc (length s)) s most_depth 0 ≡ up_to b last
    go (up_to c n) e q = e ∙ on c n (eqb n (length s)) q
    go (stopped x) e q = absurd (bad (cc))

-- Finish has no edges
stored_last : (f e : ℕ) (N E N' : List ℕ) → take (4 * (f + 1)) N' ≡ take (4 * f) N ++ (1 ∷ (255 ∷ field_bytes 0 []))
    → Stored (cell f stop outside outside [] ∷ []) f (f + 1) e e N E N' E
unfolding flat edges_of kind_byte
stored_last f e N E N' h = record { node-bytes = h; edge-bytes = sym (append-nil (take (2 * e) E)); edge_count = omega arith; edges_few = omega arith }

pub tables-made : (b : Block) (x f e0 e1 : ℕ) (N E C N0 E0 N1 E1 C1 N2 : List ℕ) → node_count b ≤ 190 → f ≡ node_count b + 1 → x ≡ first b 1 f
    → Stored (cell 0 stop outside outside (two x x) ∷ []) 0 1 0 e0 N E N0 E0
    → Stored (cells b outside 0 1 f) 1 (1 + node_count b) e0 e1 N0 E0 N1 E1
    → StoredParts (constructs b outside 0) 0 (0 + construct_count b) C C1
    → take (4 * (f + 1)) N2 ≡ take (4 * f) N1 ++ (1 ∷ (255 ∷ field_bytes 0 []))
    → Tabled b (node_count b) e1 N2 E1 C1
unfolding whole
tables-made b x f e0 e1 N E C N0 E0 N1 E1 C1 N2 few qf qx h0 h1 p h2 =
    let third : 1 + node_count b ≡ f = omega (arith, qf) in
    let to-f : f ≡ suc (node_count b) = omega (arith, qf) in
    let start = cell 0 stop outside outside (x ∷ []) in
    let last = cell f stop outside outside [] in
    let tail = stored-joined (cells b outside 0 1 f) (last ∷ []) (rw third at h1) (stored_last f e1 N1 E1 N2 h2) in
    let all = stored-joined (start ∷ []) (cells b outside 0 1 f ++ (last ∷ [])) (rw (two-same x) at h0) tail in
    let is : start ∷ (cells b outside 0 1 f ++ (last ∷ [])) ≡ whole b = rw (qx, to-f) in
    let done = subst (λ cs. Stored cs 0 (f + 1) 0 e1 N E N2 E1) is all in
    let count : 0 + construct_count b ≡ length (block_constructs b) = zero-add (construct_count b) ∙ sym (length-block_constructs b) in
    let all-nodes : f + 1 ≡ node_count b + 2 = omega (arith, qf) in
    record {
      edges_few = omega (arith, done.edges_few, qf, few);
      edge_count = done.edge_count ∙ zero-add (length (block_edges b));
      node-bytes = rw all-nodes at done.node-bytes;
      edge-bytes = done.edge-bytes;
      construct-bytes = rw count at p;
    }

pub chart-put : (n e c : ℕ) (out nodes edges parts out1 out2 out3 out4 T : List ℕ) → n ≤ length nodes → e ≤ length edges → c ≤ length parts
    → take (0 + length (take n nodes)) out1 ≡ take 0 out ++ take n nodes
    → take (n + length (take e edges)) out2 ≡ take n out1 ++ take e edges
    → take (n + e + length (take c parts)) out3 ≡ take (n + e) out2 ++ take c parts
    → take (n + e + c + 16) out4 ≡ take (n + e + c) out3 ++ T
    → take (n + e + c + 16) out4 ≡ take n nodes ++ (take e edges ++ (take c parts ++ T))
chart-put n e c out nodes edges parts out1 out2 out3 out4 T fn fe fc p1 p2 p3 p4 =
    let first : take n out1 ≡ take n nodes = rw (length-take-le n nodes fn, zero-add n) at p1 in
    let second : take (n + e) out2 ≡ take n nodes ++ take e edges = rw (length-take-le e edges fe, first) at p2 in
    let third : take (n + e + c) out3 ≡ (take n nodes ++ take e edges) ++ take c parts = rw (length-take-le c parts fc, second) at p3 in
    p4 ∙ ap (λ (l : List ℕ). l ++ T) third ∙ append_assoc (take n nodes ++ take e edges) (take c parts) T ∙ append_assoc (take n nodes) (take e edges) (take c parts ++ T)

pub same-chart : {a b c d e a' b' c' d' e' : ℕ} → a ≡ a' → b ≡ b' → c ≡ c' → d ≡ d' → e ≡ e'
    → ◌≡◌ {A = Chart} (record { edition = a; nodes = b; edges = c; constructs = d; region = e }) (record { edition = a'; nodes = b'; edges = c'; constructs = d'; region = e' })
same-chart p q r s t = λ i. record { edition = p i; nodes = q i; edges = r i; constructs = s i; region = t i }

bytes-long : (b : Block) → length (block_bytes b) ≡ 4 * length (block_nodes b) + 2 * length (block_edges b) + 4 * length (block_constructs b) + 16
unfolding construct_bytes
bytes-long b = omega (arith, block-length b, length-nodes b, length-block_constructs b)

pub bytes-made : (b : Block) (n e c : ℕ) (N E C out : List ℕ) → n ≡ node_count b → c ≡ construct_count b → Tabled b n e N E C
    → take (4 * (n + 2) + 2 * e + 4 * c + 16) out ≡ take (4 * (n + 2)) N ++ (take (2 * e) E ++ (take (4 * c) C ++ trailer_bytes (trailer_for 1 (n + 2) e c)))
    → take (length (block_bytes b)) out ≡ block_bytes b
unfolding block_bytes encode
bytes-made b n e c N E C out qn qc t h =
    let nodes : n + 2 ≡ length (block_nodes b) = omega (arith, qn, length-nodes b) in
    let parts : c ≡ length (block_constructs b) = qc ∙ sym (length-block_constructs b) in
    let tables = rw (t.node-bytes, t.edge-bytes, rw (sym parts) at t.construct-bytes) at h in
    subst (λ (l : ℕ). take l out ≡ block_bytes b) (sym (bytes-long b)) (rw (nodes, t.edge_count, parts) at tables)
