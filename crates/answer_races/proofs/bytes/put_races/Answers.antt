-- `answer_races::bytes::put_races` meets its contract.
-- Assumes nothing.
use mathlib.Core.Path.{◌≡◌, refl, ap, ◌∙◌}
use mathlib.Core.List.{List, ◌++◌}
use Prim.Native.Nat.{ℕ, ◌≤◌, ◌<◌}
use native.Mathlib.Omega.{arith}
use lib.ListN.{length, drop}
use Rattle.lists.specs.Store.{zeros}
use Rattle.chart.specs.Region.{Region}
use Rattle.chart.specs.Checked.{reading}
use Rattle.chart.proofs.Records.{nodes-length}
use Rattle.theory_calls.specs.Access.{access_at}
use Rattle.theory_calls.proofs.RaceLaws.{whole-accesses, few-accesses}
use Rattle.answer_nodes.proofs.Joining.{rows-past}
use Rattle.answer_races.proofs.BytesLaws.{fields_fit, all-pairs}
use Rattle.answer_races.proofs.bytes.put_races.Goals as goal

pub gather_all-requires : goal.gather_all-requires
gather_all-requires c =
    (rows-past c.requires.1.1 (nodes-length _ c.args.chart c.requires.0.laid), refl)

pub gather_sets-requires : goal.gather_sets-requires
gather_sets-requires c =
    (λ x l m. c.fill_names.ensures.by_index x l ∙ zeros 192 x, refl)

pub fill_races-requires : goal.fill_races-requires
fill_races-requires c =
    let read : Region =
    reading c.args.s.now c.args.chart in
    let nodes-are : (read.nodes ≡ c.args.chart.nodes) × (0 < read.nodes) × (read.nodes ≤ 192) =
    let n = nodes-length _ c.args.chart c.requires.0.laid in
    (omega (arith, n), omega (arith, n, c.requires.0.laid.two-nodes), omega (arith, n, c.requires.0.laid.nodes-most)) in
    let fits : (j : ℕ) → ((access_at c.args.accesses.now j).node < 192) × ((access_at c.args.accesses.now j).write ≤ 1) =
    λ j. let (same, some, most) = nodes-are in
    let (node, write) = fields_fit read c.args.accesses.now c.requires.1.1.well-formed c.requires.2 some j in
    (omega arith, write) in
    let list = c.args.accesses.now in
    (omega (arith, whole-accesses read list c.requires.2, few-accesses read list c.requires.2), c.requires.3, fits)

pub returns : goal.returns
returns c =
    let read : Region =
    reading c.args.s.now c.args.chart in
    let nodes-are : (read.nodes ≡ c.args.chart.nodes) × (0 < read.nodes) × (read.nodes ≤ 192) =
    let n = nodes-length _ c.args.chart c.requires.0.laid in
    (omega (arith, n), omega (arith, n, c.requires.0.laid.two-nodes), omega (arith, n, c.requires.0.laid.nodes-most)) in
    let all = all-pairs read c.args.accesses.now c.requires.1.1.well-formed c.requires.2 c.fill_lines.new.lines c.requires.1.1 c.load_closed.ensures c.fill_names.ensures.names
    (λ a l z. c.fill_lines.ensures a (omega (arith, nodes-are.0)) z) in
    c.fill_races.ensures ∙ ap (λ (l : List ℕ). l ++ drop (length l) c.args.out.now) all
