-- What is encoded is decoded again, and rows 1 to 4 of the refusals let it pass.
-- Assumes nothing.
use Rattle.std.specs.Prelude.{◌≡◌, Bool, true, false, cond, ℕ, suc, ◌+◌, ◌*◌, ◌/◌, ◌%◌, eqb, length}
use Rattle.std.proofs.Math.Path.{refl}
use Rattle.std.proofs.Common.{sym, ◌∙◌}
use mathlib.Core.List.{List, [], ◌∷◌, ◌++◌}
use Rattle.std.proofs.Math.Option.{none}
use native.Mathlib.Omega.{arith}
use Rattle.std.proofs.Math.Nat.{mul-suc}
use Rattle.std.proofs.Math.ListN.{length-append}
use Rattle.std.proofs.Math.Seq.{drop_at}
use borrow.Author.Tests.{le-ltb}
use Rattle.lists.specs.Truth.{neither-or, eq-not-eqb}
use Rattle.chart.specs.Format.{field, Node, Edge, Construct, Trailer, node_of, edge_of, construct_of, construct_width, construct_bytes, records, decode, size}
use Rattle.chart.specs.Refusal.{bad_edition, bad_marks, bad_counts, bad_lengths, first_of, trailer_rows}
use Rattle.chart.proofs.Records.{bytes-width}
use Rattle.chart.proofs.Rows.{applies-none}
use Rattle.chart_writing.specs.Every.{All, every}
use Rattle.chart_writing.specs.Bytes.{trailer_bytes}
use Rattle.chart_writing.specs.BytesLaws.{trailer-back}
use Rattle.chart_writing.specs.Tables.{tables-length, decode-tables}
use Rattle.chart_writing.specs.Trailer.{trailer_for}
use Rattle.chart_writing.specs.Encode.{node_record, edge_record, construct_record, flat, encode}

field_back : (v : ℕ) → v % 256 + 256 * (v / 256) ≡ v
field_back v = omega arith

-- One table: each of its records is read back from its bytes.
module _ {A : Type 0} (write : A → List ℕ) (width : ℕ) (long : (a : A) → length (write a) ≡ width) where
  pub flat-length : (l : List A) → length (flat write l) ≡ width * length l
  unfolding flat
  flat-length [] = omega arith
  flat-length (a ∷ l) = length-append (write a) (flat write l) ∙ omega (arith, long a, flat-length l, mul-suc width (length l))

  module _ (read : List ℕ → A) where
    abbrev pub Back : A → Type 0
    Back a = (rest : List ℕ) → read (write a ++ rest) ≡ a

    pub records-flat : (l : List A) → All Back l → records read width (length l) (flat write l) ≡ l
    unfolding records flat
    records-flat [] h = refl
    records-flat (a ∷ l) h = rw (h.0 (flat write l), drop_at (write a) (flat write l) width (long a), records-flat l h.1)

all : {A : Type 0} (P : A → Type 0) → ((a : A) → P a) → (l : List A) → All P l
all P f [] = tt
all P f (a ∷ l) = (f a, all P f l)

node-back : (v : Node) → Back node_record 4 (λ v. refl) node_of v
unfolding node_of field
node-back v rest = rw (field_back v.tag)

edge-back : (e : Edge) → Back edge_record 2 (λ e. refl) edge_of e
unfolding edge_of
edge-back e rest = refl

-- The edition has a place for what the record says: a filter other than 0 only in edition 2.
abbrev pub Recorded : ℕ → Construct → Type 0
Recorded edition k = cond (eqb edition 2) k.filter 0 ≡ k.filter

construct-long : (edition : ℕ) (k : Construct) → length (construct_record edition k) ≡ construct_width edition
unfolding construct_width
construct-long edition k = go (eqb edition 2)
  where
    go : (b : Bool) → suc (suc (suc (suc (length (cond b (k.filter % 256 ∷ (k.filter / 256 ∷ [])) []))))) ≡ cond b 6 4
    go true = refl
    go false = refl

construct-back : (edition : ℕ) (k : Construct) → Recorded edition k → Back (construct_record edition) (construct_width edition) (construct-long edition) (construct_of edition) k
unfolding construct_of field
construct-back edition k w rest = let f = filter (eqb edition 2) ∙ w in λ i. record { kind = k.kind; parent = k.parent; name = field_back k.name i; filter = f i }
  where
    filter : (b : Bool)
        → cond b (field ((k.kind ∷ (k.parent ∷ (k.name % 256 ∷ (k.name / 256 ∷ cond b (k.filter % 256 ∷ (k.filter / 256 ∷ [])) [])))) ++ rest) 4) 0
        ≡ cond b k.filter 0
    filter true = field_back k.filter
    filter false = refl

module _ (edition : ℕ) (nodes : List Node) (edges : List Edge) (constructs : List Construct) where
  abbrev n : ℕ
  n = length nodes

  abbrev e : ℕ
  e = length edges

  abbrev c : ℕ
  c = length constructs

  abbrev N : List ℕ
  N = flat node_record nodes

  abbrev E : List ℕ
  E = flat edge_record edges

  abbrev C : List ℕ
  C = flat (construct_record edition) constructs

  abbrev t : Trailer
  t = trailer_for edition (length nodes) (length edges) (length constructs)

  length-N : length N ≡ 4 * n
  length-N = flat-length node_record 4 (λ v. refl) nodes

  length-E : length E ≡ 2 * e
  length-E = flat-length edge_record 2 (λ v. refl) edges

  length-C : length C ≡ construct_bytes edition c
  length-C = flat-length (construct_record edition) (construct_width edition) (construct-long edition) constructs ∙ sym (bytes-width edition c)

  pub encode-length : length (encode edition nodes edges constructs) ≡ size edition n e c
  unfolding encode trailer_for
  encode-length = omega (arith, tables-length N E C (trailer_bytes t) t (trailer-back t) refl length-N length-E length-C, length-N, length-E, length-C)

  -- What is encoded is decoded again.
  pub decode-encode : All (Recorded edition) constructs
      → decode (encode edition nodes edges constructs) ≡ record { nodes = nodes; edges = edges; constructs = constructs; trailer = t }
  unfolding encode trailer_for
  decode-encode w =
      let back = every (Recorded edition) (Back (construct_record edition) (construct_width edition) (construct-long edition) (construct_of edition)) (construct-back edition) constructs w in
      decode-tables N E C (trailer_bytes t) t (trailer-back t) refl length-N length-E length-C
      ∙ rw (
        records-flat node_record 4 (λ v. refl) node_of nodes (all _ node-back nodes),
        records-flat edge_record 2 (λ v. refl) edge_of edges (all _ edge-back edges),
        records-flat (construct_record edition) (construct_width edition) (construct-long edition) (construct_of edition) constructs back,
      )

  -- Rows 1 to 4 let it pass, where the edition is known and the counts are within their limits.
  pub encode-laid : All (Recorded edition) constructs → bad_edition edition ≡ false → bad_counts n e c ≡ false
      → first_of (trailer_rows (encode edition nodes edges constructs)) ≡ none
  unfolding trailer_rows bad_marks bad_lengths trailer_for
  encode-laid w known few =
      applies-none (trailer_rows (encode edition nodes edges constructs)) (
        le-ltb (length (encode edition nodes edges constructs)) 16 (omega (arith, encode-length)),
        (
          rw (decode-encode w) (neither-or _ _ known refl),
          (
            rw (decode-encode w) few,
            (
              rw (decode-encode w)
                  (neither-or _ _ (eq-not-eqb _ _ encode-length)
                  (neither-or _ _ (eq-not-eqb _ _ (sym encode-length)) (neither-or _ _ (eq-not-eqb t.to-edges t.to-edges refl) (eq-not-eqb t.to-constructs t.to-constructs refl)))),
              tt,
            ),
          ),
        ),
      )
