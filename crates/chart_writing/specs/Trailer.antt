-- The trailer of a chart by its edition and counts; every chart that rows 1 to 4 let pass has this one.
-- Assumes nothing.
use Rattle.std.specs.Prelude.{◌≡◌, ◌⊎◌, true, false, not, List, ℕ, ◌+◌, ◌*◌, ◌≤◌, eqb, length}
use Rattle.std.proofs.Math.Path.{refl}
use Rattle.std.proofs.Common.{inl, inr, arith}
use Rattle.std.proofs.Math.Option.{none}
use Rattle.lists.specs.Truth.{truth, or-neither, and-fails, not_eqb}
use Rattle.chart.specs.Format.{Trailer, decode, construct_bytes, size, trailer_size}
use Rattle.chart.specs.Refusal.{bad_edition, bad_marks, bad_lengths, first_of, trailer_rows}
use Rattle.chart.proofs.Rows.{none-applies}
use Rattle.chart_writing.specs.BytesLaws.{same-trailer}

unfoldable pub trailer_for : ℕ → ℕ → ℕ → ℕ → Trailer
trailer_for edition n e c = record {
  edition = edition;
  nodes = n;
  edges = e;
  constructs = c;
  to-nodes = size edition n e c;
  to-edges = 2 * e + construct_bytes edition c + trailer_size;
  to-constructs = construct_bytes edition c + trailer_size;
  closing = 0x434F;
}

-- one of the two editions
known-edition : (edition : ℕ) → bad_edition edition ≡ false → edition ≤ 2
unfolding bad_edition
known-edition edition h = go (truth (not (eqb edition 1)))
  where
    go : (not (eqb edition 1) ≡ true) ⊎ (not (eqb edition 1) ≡ false) → edition ≤ 2
    go (inl t) = let e = not_eqb edition 2 (and-fails (not (eqb edition 1)) (not (eqb edition 2)) h t) in omega arith
    go (inr f) = let e = not_eqb edition 1 f in omega arith

module _ (s : List ℕ) (passes : first_of (trailer_rows s) ≡ none) where
  abbrev t : Trailer
  t = (decode s).trailer

  pub small-edition : t.edition ≤ 2
  unfolding trailer_rows bad_marks
  small-edition = known-edition t.edition (or-neither (bad_edition t.edition) _ (none-applies (trailer_rows s) passes).1.0).0

  pub trailer-is : t ≡ trailer_for t.edition t.nodes t.edges t.constructs
  unfolding trailer_rows bad_marks bad_lengths trailer_for
  trailer-is =
      let rows = none-applies (trailer_rows s) passes in
      let bytes = size t.edition t.nodes t.edges t.constructs in
      let whole = or-neither (not (eqb (length s) bytes)) _ rows.1.1.1.0 in
      let nodes = or-neither (not (eqb t.to-nodes (length s))) _ whole.1 in
      let edges = or-neither (not (eqb t.to-edges (2 * t.edges + construct_bytes t.edition t.constructs + trailer_size))) _ nodes.1 in
      let to-nodes : t.to-nodes ≡ bytes = cc (not_eqb t.to-nodes (length s) nodes.0, not_eqb (length s) bytes whole.0) in
      same-trailer refl refl refl refl to-nodes (not_eqb _ _ edges.0) (not_eqb _ _ edges.1)
      (not_eqb t.closing 0x434F (or-neither (bad_edition t.edition) _ rows.1.0).1)
