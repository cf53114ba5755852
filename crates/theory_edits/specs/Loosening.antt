-- One edge more only loosens (02, Note 8): it is one of the sets of edges that may be added.
-- Assumes nothing.
use Rattle.std.specs.Prelude.{◌≡◌, refl, true, ◌||◌, ◌&&◌, List, ◌++◌, ℕ, eqb, length}
use Rattle.std.proofs.Common.{ap, sym, ◌∙◌, inl, inr, eq-eqb}
use Rattle.lists.specs.Truth.{or_cases, or_left, or_right}
use Rattle.chart.specs.Format.{Node, Edge, Decoded, node_at}
use Rattle.chart.specs.Reading.{edge_in}
use Rattle.theory_answers.specs.MoreEdges.{MoreEdges}
use Rattle.theory_edits.specs.PlaceLaws.{one, in-append, in_one}
use Rattle.theory_edits.specs.Splice.{WithEdge}

module _ {D E : Decoded} {x y : ℕ} (W : WithEdge D E x y) where
  -- The edges are those that there were, and (x, y).
  pub edge_more : (u v : ℕ) → edge_in E.edges u v ≡ (edge_in W.before u v || ((eqb x u && eqb y v) || edge_in W.after u v))
  edge_more u v =
      ap (λ (l : List Edge). edge_in l u v) W.edges-new ∙ in-append W.before (one x y ++ W.after) u v
      ∙ rw (in-append (one x y) W.after u v, in_one x y u v)

  pub edge_in_lem : edge_in E.edges x y ≡ true
  edge_in_lem = edge_more x y ∙ or_right (edge_in W.before x y) _ (or_left (eqb x x && eqb y y) _ (rw (eq-eqb x x refl, eq-eqb y y refl)))

  still : (u v : ℕ) → edge_in D.edges u v ≡ true → edge_in E.edges u v ≡ true
  still u v h =
      let both = sym (ap (λ (l : List Edge). edge_in l u v) W.edges-old ∙ in-append W.before W.after u v) ∙ h in
      edge_more u v ∙ elim (or_cases (edge_in W.before u v) (edge_in W.after u v) both) [
        | inl p ↦ or_left (edge_in W.before u v) _ p
        | inr p ↦ or_right (edge_in W.before u v) _ (or_right (eqb x u && eqb y v) (edge_in W.after u v) p)
      ]

  pub more_edges : MoreEdges D E
  more_edges = record {
    nodes = ap length W.nodes;
    kind = λ z. ap (λ (l : List Node). (node_at l z).kind) W.nodes;
    number = λ z. ap (λ (l : List Node). (node_at l z).number) W.nodes;
    constructs = W.constructs;
    edges = still;
  }
