-- Every chart that a block of 01's kinds means, and that 16, 5, 6 and 8 do not refuse, is admitted, as bytes.
-- Assumes nothing.
use Rattle.std.specs.Prelude.{◌≡◌, ◌≢◌, ◌⊎◌, true, false, ◌||◌, not, List, [], ◌∷◌, ◌++◌, map, ℕ, ◌+◌, ◌≤◌, ◌<◌, ◌-◌, eqb}
use Rattle.std.proofs.Math.Path.{refl}
use Rattle.std.proofs.Common.{sym, subst, ◌∙◌, inl, inr, arith}
use Rattle.std.proofs.Math.Option.{none}
use Rattle.std.proofs.Math.Dec.{ltb}
use Rattle.std.proofs.Math.ListN.{length}
use borrow.Author.Tests.{eq-eqb, ltb-false}
use Rattle.lists.specs.Truth.{clash, both-and, or-neither, neither-or, fails-and, true-not}
use Rattle.lists.specs.Range.{any_none}
use Rattle.chart.specs.Format.{outside, Decoded, decode}
use Rattle.chart.specs.Nested.{lies_within}
use Rattle.chart.specs.Region.{Region}
use Rattle.chart.specs.Reading.{region}
use Rattle.chart.specs.Refusal.{bad_edition, bad_counts, bad_nodes, bad_constructs, bad_barriers, first_of, trailer_rows, table_rows, chart_rows}
use Rattle.chart.specs.WellFormed.{WellFormed}
use Rattle.chart.proofs.Facts.{fit_edges}
use Rattle.chart.proofs.Rows.{applies-none, second-decides}
use Rattle.chart.proofs.Accepted.{tables-fit, well-formed-tables}
use Rattle.theory_paths.specs.Path.{Path, last, next, Any}
use Rattle.theory_paths.specs.PathLaws.{append}
use Rattle.theory_paths.specs.Decide.{reaches_any, path-any}
use Rattle.theory_paths.specs.Admission.{cut_off, bad_paths, admit_rows, Admitted}
use Rattle.chart_writing.specs.Every.{All, joined, split, every, Member, members}
use Rattle.chart_writing.specs.Encoded.{Recorded, decode-encode, encode-laid}
use Rattle.theory_listing.specs.Tree.{Block, first, Part, constructs}
use Rattle.theory_listing.proofs.Flow.{Drawn, forth, back}
use Rattle.theory_listing.specs.GrammarLaws.{Kinds}
use Rattle.theory_listing.specs.Meaning.{written_edition, finish, inner, whole, construct_for, block_nodes, block_edges, block_constructs, block_chart, block_bytes}
use Rattle.theory_listing.specs.Call.{too_many}
use Rattle.theory_listing.proofs.CellTables.{edges-all, at-number, member-edge}
use Rattle.theory_listing.proofs.BlockTables.{length_whole, length-nodes, whole-numbered, frames-fit, edges_fit}

-- edition 1 has a place for all that a listing says
recorded : (l : List Part) → All (Recorded written_edition) (map construct_for l)
recorded [] = tt
recorded (p ∷ l) = (refl, recorded l)

module _ (r : Block) where
  abbrev D : Decoded
  D = block_chart r

  -- What was written decodes to the chart that the block means.
  pub block-decoded : decode (block_bytes r) ≡ block_chart r
  unfolding block_bytes
  block-decoded = decode-encode written_edition (block_nodes r) (block_edges r) (block_constructs r) (recorded (constructs r outside 0))

  -- Rows 1 to 4 let it pass.
  pub block-laid : too_many r ≡ false → first_of (trailer_rows (block_bytes r)) ≡ none
  unfolding block_bytes too_many bad_edition
  block-laid few = encode-laid written_edition (block_nodes r) (block_edges r) (block_constructs r) (recorded (constructs r outside 0)) refl few

  -- row 10
  abbrev R : Region
  R = region D

  abbrev E : ℕ → ℕ → Type 0
  E x y = R.edge x y ≡ true

  drawn : All (Drawn E) (whole r)
  unfolding lies_within
  drawn =
      edges-all (λ e. E e.from e.to) (whole r)
      (every (λ e. Member e (block_edges r)) (λ e. E e.from e.to) (λ e m. both-and _ _ (member-edge (block_edges r) e m) refl) (block_edges r) (members (block_edges r)))

  abbrev From0 : ℕ → Type 0
  From0 x = x ≢ 0 → Path E Any 0 x

  abbrev Home : ℕ → Type 0
  Home x = (x ≡ finish r) ⊎ Path E Any x (finish r)

  all-reached : All (λ c. From0 c.at) (whole r)
  unfolding whole
  all-reached =
      let s = split (Drawn E) (inner r) _ drawn.1 in
      let w = forth E (Path E Any 0) (λ x y g e. append g tt (last e)) r outside 0 1 (finish r) s.0 (last drawn.0.0) in (
        (λ h. absurd (h refl)),
        joined (λ c. From0 c.at) (inner r) _
            (every (λ c. Path E Any 0 c.at) (λ c. From0 c.at) (λ c g h. g) (inner r) w.1)
            ((λ h. w.0), tt),
      )

  home-back : (x y : ℕ) → E x y → Home y → Home x
  home-back x y e (inl q) = inr (last (subst (λ z. E x z) q e))
  home-back x y e (inr w) = inr (next e tt w)

  all-home : All (λ c. Home c.at) (whole r)
  unfolding whole
  all-home =
      let s = split (Drawn E) (inner r) _ drawn.1 in
      let w = back E Home home-back r outside 0 1 (finish r) s.0 (inl refl) in (
        home-back 0 (first r 1 (finish r)) drawn.0.0 w.0,
        joined (λ c. Home c.at) (inner r) _ w.1 (inl refl, tt),
      )

  module _ (kinds : Kinds r) (few : too_many r ≡ false)
      (five : bad_nodes D ≡ false) (six : bad_constructs D ≡ false) (eight : bad_barriers D ≡ false) where
    constructs-few : length (block_constructs r) ≤ 48
    unfolding too_many bad_counts
    constructs-few =
        let n = length (block_nodes r) in
        let e = length (block_edges r) in
        let rest = (or-neither (ltb n 2 || ltb 192 n) _ few).1 in
        ltb-false 48 _ (or-neither (ltb e 1 || ltb 1024 e) (ltb 48 (length (block_constructs r))) rest).1

    tables : first_of (table_rows D) ≡ none
    unfolding table_rows
    tables = applies-none (table_rows D) (five, (six, (frames-fit r, (eight, (fit_edges D (edges_fit r kinds), tt)))))

    W : WellFormed R
    W = well-formed-tables D (omega (arith, constructs-few)) (tables-fit D tables) outside (inl refl)

    joined-up : (x : ℕ) → x < length (block_nodes r) → cut_off R x ≡ false
    unfolding cut_off
    joined-up x l =
        let l2 : x < 0 + length (whole r) = omega (arith, length-nodes r, length_whole r) in
        let forth = at-number From0 0 (whole r) (whole-numbered r) all-reached x (omega arith) l2 in
        let home = at-number Home 0 (whole r) (whole-numbered r) all-home x (omega arith) l2 in
        neither-or _ _
        (fails-and (not (eqb x 0)) (not (reaches_any R 0 x)) (λ n. rw (path-any R W 0 x (forth (λ q. differ x 0 n q)))))
        (fails-and (not (eqb x (length (block_nodes r) - 1))) (not (reaches_any R x (length (block_nodes r) - 1))) (λ n. homed n home))
      where
        ends : length (block_nodes r) - 1 ≡ finish r
        ends = omega (arith, length-nodes r)

        differ : (x y : ℕ) → not (eqb x y) ≡ true → x ≡ y → ⊥
        differ x y n q = clash n (true-not _ (eq-eqb x y q))

        homed : not (eqb x (length (block_nodes r) - 1)) ≡ true → Home x → not (reaches_any R x (length (block_nodes r) - 1)) ≡ false
        homed n (inl q) = absurd (differ x (length (block_nodes r) - 1) n (q ∙ sym ends))
        homed n (inr w) = rw (path-any R W x (length (block_nodes r) - 1) (subst (Path E Any x) (sym ends) w))

    ten : bad_paths R ≡ false
    unfolding bad_paths
    ten = any_none (length (block_nodes r)) (cut_off R) joined-up

    pub block-admitted : Admitted (block_bytes r)
    unfolding admit_rows chart_rows
    block-admitted =
        let s = block_bytes r in
        let rows : first_of (trailer_rows s ++ table_rows (decode s)) ≡ none = second-decides (trailer_rows s) (table_rows (decode s)) (block-laid few) ∙ rw block-decoded tables in
        second-decides (trailer_rows s ++ table_rows (decode s)) _ rows ∙ rw block-decoded (applies-none _ (ten, tt))
