-- Records stored in two steps are stored in one.
-- Assumes nothing.
use mathlib.Core.Path.{◌≡◌, refl, ap, sym, ◌∙◌}
use mathlib.Core.List.{List, [], ◌∷◌, ◌++◌, map, append_assoc, append-nil}
use Prim.Native.Nat.{ℕ, ◌*◌}
use native.Mathlib.Omega.{arith}
use lib.ListN.{take, length-append}
use Rattle.chart_writing.specs.Encode.{node_record, edge_record, construct_record, flat}
use Rattle.chart_writing.proofs.Putting.{chained}
use Rattle.theory_listing.specs.Tree.{Cell, Part}
use Rattle.theory_listing.specs.Meaning.{written_edition, node_for, edge, edges_of, construct_for}
use Rattle.call_listing.specs.Stored.{Stored, StoredParts}

flat-joined : {A : Type 0} (write : A → List ℕ) (l r : List A) → flat write (l ++ r) ≡ flat write l ++ flat write r
unfolding flat
flat-joined write [] r = refl
flat-joined write (a ∷ l) r = ap (λ (m : List ℕ). write a ++ m) (flat-joined write l r) ∙ sym (append_assoc (write a) (flat write l) (flat write r))

map-joined : {A B : Type 0} (f : A → B) (l r : List A) → map f (l ++ r) ≡ map f l ++ map f r
map-joined f [] r = refl
map-joined f (a ∷ l) r = ap (λ m. f a ∷ m) (map-joined f l r)

pub edges-joined : (l r : List Cell) → edges_of (l ++ r) ≡ edges_of l ++ edges_of r
unfolding edges_of
edges-joined [] r = refl
edges-joined (c ∷ l) r =
    ap (λ m. map (edge c.at) c.to ++ m) (edges-joined l r) ∙ sym (append_assoc (map (edge c.at) c.to) (edges_of l) (edges_of r))

pub stored-joined : (cs ds : List Cell) {k k1 k2 e e1 e2 : ℕ} {N E N1 E1 N2 E2 : List ℕ}
    → Stored cs k k1 e e1 N E N1 E1 → Stored ds k1 k2 e1 e2 N1 E1 N2 E2 → Stored (cs ++ ds) k k2 e e2 N E N2 E2
stored-joined cs ds {k} {k1} {k2} {e} {e1} {e2} {N} {E} a b = record {
  node-bytes =
      rw (map-joined node_for cs ds, flat-joined node_record (map node_for cs) (map node_for ds))
      (chained (take (4 * k) N) (flat node_record (map node_for cs)) (flat node_record (map node_for ds)) a.node-bytes b.node-bytes);
  edge-bytes =
      rw (edges-joined cs ds, flat-joined edge_record (edges_of cs) (edges_of ds))
      (chained (take (2 * e) E) (flat edge_record (edges_of cs)) (flat edge_record (edges_of ds)) a.edge-bytes b.edge-bytes);
  edge_count = rw (edges-joined cs ds) (omega (arith, length-append (edges_of cs) (edges_of ds), a.edge_count, b.edge_count));
  edges_few = omega (arith, a.edges_few, b.edges_few);
}

pub parts-joined : (ps qs : List Part) (m m1 m2 : ℕ) (C C1 C2 : List ℕ)
    → StoredParts ps m m1 C C1 → StoredParts qs m1 m2 C1 C2 → StoredParts (ps ++ qs) m m2 C C2
parts-joined ps qs m m1 m2 C C1 C2 a b =
    let write = construct_record written_edition in
    rw (map-joined construct_for ps qs, flat-joined write (map construct_for ps) (map construct_for qs))
    (chained (take (4 * m) C) (flat write (map construct_for ps)) (flat write (map construct_for qs)) a b)

pub stored-none : (k k' e : ℕ) (N E : List ℕ) → k ≡ k' → Stored [] k k' e e N E N E
unfolding flat edges_of
stored-none k k' e N E q =
    rw q (record { node-bytes = sym (append-nil (take (4 * k') N)); edge-bytes = sym (append-nil (take (2 * e) E)); edge_count = omega arith; edges_few = omega arith })

pub parts_none : (m m' : ℕ) (C : List ℕ) → m ≡ m' → StoredParts [] m m' C C
unfolding flat
parts_none m m' C q = rw q (sym (append-nil (take (4 * m') C)))
