-- More edges only loosen (02, Note 8): of two admitted charts alike but that one has all the edges of the other and perhaps more, a never of the
-- larger is a never of the smaller, in each of their regions and for each size of teams. The edges that one has more are any, all of them
-- together.
-- Assumes nothing.
use Rattle.std.specs.Prelude.{◌≡◌, ◌≢◌, true, ℕ, length}
use Rattle.std.proofs.Common.{sym, ◌∙◌, subst, subst₂, inl, inr, arith}
use Rattle.std.proofs.Math.Bool.{false}
use mathlib.Core.List.{List, [], ◌∷◌}
use Rattle.lists.specs.Truth.{and_both, both-and}
use Rattle.lists.specs.Range.{first-same}
use Rattle.chart.specs.Format.{Decoded, decode, node_at}
use Rattle.chart.specs.Region.{Kind, Region}
use Rattle.chart.specs.Scope.{lies_at, scope_at, begin_node, end_node}
use Rattle.chart.specs.Nested.{kept_in}
use Rattle.chart.specs.Reading.{edge_in, inside_at, frame_of, region_of}
use Rattle.chart.specs.Refusal.{Row}
use Rattle.chart.specs.InOrdered.{InOrdered}
use Rattle.chart.specs.InSection.{InSection}
use Rattle.chart.proofs.Rows.{none-applies, applies-none, second-decides, both-pass}
use Rattle.theory_paths.specs.Path.{BarrierFree}
use Rattle.theory_paths.specs.PathLaws.{carry}
use Rattle.theory_paths.specs.Admission.{admit_rows, bad_region, region_rows, Admitted, AdmittedIn}
use Rattle.theory_paths.specs.AdmissionLaws.{admitted-well-formed}
use Rattle.theory_paths.specs.Phases.{Direction, forward, backward, Free, Boundary}
use Rattle.theory_answers.specs.Answer.{answer_for}
use Rattle.theory_answers.specs.Unexcluded.{Returns, In, Rule, by-phase, by-master, by-single, by-ordered, by-section, Excludes, Lacks, AnswersIn, alone, lacking, fitting, AnswersFor}
use Rattle.theory_answers.specs.Numbers.{asked}
use Rattle.theory_answers.specs.declared.Size.{Size}
use Rattle.theory_answers.specs.declared.Size.TheVariants.{Any, Of}

-- E is the chart D with perhaps more edges. Tags, and the edition, may differ; what the edition lets a construct have, its filter, may not.
pub record MoreEdges (D E : Decoded) : Type 0 where
  pub nodes : length E.nodes ≡ length D.nodes
  pub kind : (x : ℕ) → (node_at E.nodes x).kind ≡ (node_at D.nodes x).kind
  pub number : (x : ℕ) → (node_at E.nodes x).number ≡ (node_at D.nodes x).number
  pub constructs : E.constructs ≡ D.constructs
  pub edges : (x y : ℕ) → edge_in D.edges x y ≡ true → edge_in E.edges x y ≡ true

-- The same of regions: S is R with perhaps more edges.
pub record Widens (R S : Region) : Type 0 where
  pub nodes : S.nodes ≡ R.nodes
  pub kept : (x : ℕ) → S.kept x ≡ R.kept x
  pub role : (x : ℕ) → S.role x ≡ R.role x
  pub inside : (x c : ℕ) → S.inside x c ≡ R.inside x c
  pub kind : (c : ℕ) → S.kind c ≡ R.kind c
  pub parent : (c : ℕ) → S.parent c ≡ R.parent c
  pub thread : (c : ℕ) → S.thread c ≡ R.thread c
  pub begin : (c : ℕ) → S.begin c ≡ R.begin c
  pub end : (c : ℕ) → S.end c ≡ R.end c
  pub edge : (x y : ℕ) → R.edge x y ≡ true → S.edge x y ≡ true
