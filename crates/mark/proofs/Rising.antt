-- Where no edge falls between nodes that are no barriers, paths past no barrier rise, and no construct that begins before it ends returns.
-- Assumes nothing.
use mathlib.Core.Path.{◌≡◌, sym, ap, ◌∙◌, subst}
use mathlib.Core.Logic.{◌⊎◌, inl, inr}
use mathlib.Core.Bool.{Bool, true, false}
use mathlib.Core.List.{List}
use Prim.Native.Nat.{ℕ, ◌<◌}
use native.Mathlib.Omega.{arith}
use lib.ListN.{length, get_or}
use Rattle.lists.specs.Truth.{truth, false-if}
use Rattle.lists.specs.Bits.{mask-empty}
use Rattle.chart.specs.Format.{Decoded, decode}
use Rattle.chart.specs.Region.{barrier, Region}
use Rattle.chart.specs.Scope.{begin_node, end_node}
use Rattle.chart.specs.Reading.{frame_of}
use Rattle.chart.specs.Checked.{reading}
use Rattle.chart.specs.declared.format.Chart.{Chart}
use Rattle.chart.specs.WellFormed.{WellFormed}
use Rattle.chart.proofs.Reading.{end}
use Rattle.chart.proofs.Tables.{frame_found}
use Rattle.chart.proofs.RegionFacts.{barrier-at, finish-inner}
use Rattle.theory_paths.specs.Path.{Path, last, next, Edge, Open}
use Rattle.theory_paths.specs.PathLaws.{first_edge, last-edge}
use Rattle.theory_paths.specs.Decide.{no_barrier, no-barrier, free-path, returns}
use Rattle.theory_paths.specs.Phases.{returning}
use Rattle.theory_paths.specs.PhasesLaws.{is-barrier}
use Rattle.check_nodes.specs.Framed.{Framed}
use Rattle.mark_tables.specs.Tables.{Accepted, Arranged, Stops}
use Rattle.mark_tables.proofs.Accepted.{tables, few-constructs, well-formed}
use Rattle.mark.proofs.Searching.{clear-node, none-back}
use Rattle.search.specs.declared.edges.Parts.{Parts}

module _ {R : Region} {edges : List (List ℕ)} {places stops : List ℕ} {parts : Parts} (T : Arranged R edges places stops parts) (S : Stops R stops)
    (flat : parts.low ≡ 1024) where
  edge-rises : (x y : ℕ) → Open R x → Open R y → Edge R x y → x < y
  edge-rises x y p q e =
      let i = T.edge-listed x y e in
      elim (T.split.plain.all i.at i.below (rw i.key (clear-node S x p)) (rw i.value (clear-node S y q))) [
        | inl b ↦ rw (b.key ∙ i.key, b.value ∙ i.value) at (T.split.plain.up b.at b.below).1
        | inr b ↦ absurd (omega (arith, b.from, b.below))
      ]

  path-rises : (x y : ℕ) → Open R x → Open R y → Path (Edge R) (Open R) x y → x < y
  path-rises x y p q (last e) = edge-rises x y p q e
  path-rises x y p q (next {z = z} e r w) = let a = edge-rises x z p r e in let b = path-rises z y r q w in omega arith

module _ (s : List ℕ) (chart : Chart) (A : Accepted s chart) where
  abbrev D : Decoded
  D = decode s

  abbrev R : Region
  R = reading s chart

  W : WellFormed R
  W = well-formed s chart A

  -- of the ends only that of the region's own parallel is a barrier, and no edge leaves it
  none-on : (c y : ℕ) → c < length D.constructs → R.role (frame_of D.nodes end_node c) ≡ barrier → R.edge (frame_of D.nodes end_node c) y ≡ true → ⊥
  none-on c y l w e =
      let f = frame_found D (tables s chart A) end c l in
      let q : chart.region ≡ c = sym (barrier-at D chart.region (frame_of D.nodes end_node c) w).1 ∙ f.1 in
      let finish = finish-inner D chart.region (λ o. omega (arith, few-constructs s chart A)) ∙ ap (frame_of D.nodes end_node) q in
      W.finish-last (subst (λ (x : ℕ). R.edge x y ≡ true) (sym finish) e)

  pub none-return : {edges : List (List ℕ)} {places stops begins ends : List ℕ} {parts : Parts} → Arranged R edges places stops parts → Stops R stops
      → parts.low ≡ 1024 → Framed D begin_node begins → Framed D end_node ends → ((c : ℕ) → c < length D.constructs → get_or begins c 0 < get_or ends c 0)
      → 0 ≡ returning R
  unfolding returning returns
  none-return {begins = begins} {ends} T S flat B E before = sym (mask-empty _ _ (λ c l. false-if (λ h. never c l (free-path R W _ _ h) (truth (opens c)) (truth (closes c)))))
    where
      opens : ℕ → Bool
      opens c = no_barrier (R.role (frame_of D.nodes begin_node c))

      closes : ℕ → Bool
      closes c = no_barrier (R.role (frame_of D.nodes end_node c))

      never : (c : ℕ) → c < length D.constructs → Path (Edge R) (Open R) (frame_of D.nodes end_node c) (frame_of D.nodes begin_node c)
          → (opens c ≡ true) ⊎ (opens c ≡ false) → (closes c ≡ true) ⊎ (closes c ≡ false) → ⊥
      never c l w (inr t) z = let e = last-edge w in none-back s chart A c e.0 l (is-barrier _ t) e.1
      never c l w (inl t) (inr z) = let e = first_edge w in none-on c e.0 l (is-barrier _ z) e.1
      never c l w (inl t) (inl z) =
          omega (arith, path-rises T S flat _ _ (no-barrier _ z) (no-barrier _ t) w, before c l, B.at c l, E.at c l)
