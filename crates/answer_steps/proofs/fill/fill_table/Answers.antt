-- `answer_steps::fill::fill_table` meets its contract.
-- Assumes nothing.
use mathlib.Core.Path.{◌≡◌, ◌∙◌}
use mathlib.Core.Logic.{◌⊎◌, inl, inr}
use mathlib.Core.List.{List}
use Prim.Native.Nat.{ℕ, ◌+◌, ◌≤◌, ◌<◌}
use native.Mathlib.Omega.{arith}
use lib.ListN.{length, get_or, length-replicate}
use Rattle.lists.specs.Store.{zeros}
use Rattle.answer_steps.specs.Words.{construct_word}
use Rattle.answer_steps.proofs.Whole.{region-few, tabled}
use Rattle.answer_steps.proofs.fill.fill_table.Goals as goal

pub put_numbers-requires : goal.put_numbers-requires
put_numbers-requires c = (omega (arith, c.requires.laid.two-nodes), region-few _ c.args.chart c.requires, c.fill_constructs-5.ensures.long ∙ c.fill_constructs-4.ensures.long ∙ c.fill_constructs-3.ensures.long ∙ c.fill_constructs-2.ensures.long ∙ c.fill_constructs.ensures.long ∙ c.fill_nodes-3.ensures.long ∙ c.fill_nodes-2.ensures.long ∙ c.fill_nodes.ensures.long ∙ length-replicate {A = ℕ} 2133 0, c.frames.ensures.0.node, c.frames.ensures.1.node)

-- where the numbers are put, and before it
pub fill_children-requires : goal.fill_children-requires
unfolding construct_word
fill_children-requires c =
    let table : List ℕ =
    c.put_numbers.new.table in
    let few : c.args.chart.constructs ≤ 48 =
    c.requires.laid.constructs-most in
    let nodes : c.args.chart.nodes ≤ 192 =
    c.requires.laid.nodes-most in
    let long : length table ≡ 2133 =
    c.put_numbers.ensures.beside.long ∙ c.fill_constructs-5.ensures.long ∙ c.fill_constructs-4.ensures.long ∙ c.fill_constructs-3.ensures.long
    ∙ c.fill_constructs-2.ensures.long ∙ c.fill_constructs.ensures.long ∙ c.fill_nodes-3.ensures.long ∙ c.fill_nodes-2.ensures.long
    ∙ c.fill_nodes.ensures.long ∙ length-replicate {A = ℕ} 2133 0 in
    let blank : (j : ℕ) → (j < 1024) ⊎ (2037 ≤ j) → get_or table j 0 ≡ 0 =
    λ j t. elim t [
      | inl l ↦ c.put_numbers.ensures.beside.rest j (inl (omega arith)) ∙ c.fill_constructs-5.ensures.rest j (inl (omega arith)) ∙ c.fill_constructs-4.ensures.rest j (inl (omega arith))
          ∙ c.fill_constructs-3.ensures.rest j (inl (omega arith)) ∙ c.fill_constructs-2.ensures.rest j (inl (omega arith)) ∙ c.fill_constructs.ensures.rest j (inl (omega arith))
          ∙ c.fill_nodes-3.ensures.rest j (inl (omega arith)) ∙ c.fill_nodes-2.ensures.rest j (inl (omega arith)) ∙ c.fill_nodes.ensures.rest j (inl (omega arith))
          ∙ zeros 2133 j
      | inr l ↦ c.put_numbers.ensures.beside.rest j (inr (omega arith)) ∙ c.fill_constructs-5.ensures.rest j (inr (omega (arith, few))) ∙ c.fill_constructs-4.ensures.rest j (inr (omega (arith, few)))
          ∙ c.fill_constructs-3.ensures.rest j (inr (omega (arith, few))) ∙ c.fill_constructs-2.ensures.rest j (inr (omega (arith, few))) ∙ c.fill_constructs.ensures.rest j (inr (omega (arith, few)))
          ∙ c.fill_nodes-3.ensures.rest j (inr (omega (arith, nodes))) ∙ c.fill_nodes-2.ensures.rest j (inr (omega (arith, nodes))) ∙ c.fill_nodes.ensures.rest j (inr (omega (arith, nodes)))
          ∙ zeros 2133 j
    ] in
    let count : get_or table 2033 0 ≡ c.args.chart.constructs =
    c.put_numbers.ensures.table_after.1 in
    let begins : (x : ℕ) → x < get_or table 2033 0 → get_or table (1936 + x) 0 < 256 =
    λ x l. let small : x < c.args.chart.constructs = omega (arith, count) in
    let e = c.put_numbers.ensures.beside.rest (1936 + x) (inl (omega (arith, few))) ∙ c.fill_constructs-5.ensures.rest (1936 + x) (inl (omega (arith, few))) ∙ c.fill_constructs-4.ensures.at x small in
    omega (arith, e, c.frames.ensures.0.node x) in
    record { table_len = (long, omega arith, omega (arith, count, few)); by_index = begins; by_index_2 = λ j l. blank j (inr (omega arith)) }

pub fill_children-requires-2 : goal.fill_children-requires-2
unfolding construct_word
fill_children-requires-2 c =
    let table : List ℕ =
    c.put_numbers.new.table in
    let few : c.args.chart.constructs ≤ 48 =
    c.requires.laid.constructs-most in
    let nodes : c.args.chart.nodes ≤ 192 =
    c.requires.laid.nodes-most in
    let long : length table ≡ 2133 =
    c.put_numbers.ensures.beside.long ∙ c.fill_constructs-5.ensures.long ∙ c.fill_constructs-4.ensures.long ∙ c.fill_constructs-3.ensures.long
    ∙ c.fill_constructs-2.ensures.long ∙ c.fill_constructs.ensures.long ∙ c.fill_nodes-3.ensures.long ∙ c.fill_nodes-2.ensures.long
    ∙ c.fill_nodes.ensures.long ∙ length-replicate {A = ℕ} 2133 0 in
    let blank : (j : ℕ) → (j < 1024) ⊎ (2037 ≤ j) → get_or table j 0 ≡ 0 =
    λ j t. elim t [
      | inl l ↦ c.put_numbers.ensures.beside.rest j (inl (omega arith)) ∙ c.fill_constructs-5.ensures.rest j (inl (omega arith)) ∙ c.fill_constructs-4.ensures.rest j (inl (omega arith))
          ∙ c.fill_constructs-3.ensures.rest j (inl (omega arith)) ∙ c.fill_constructs-2.ensures.rest j (inl (omega arith)) ∙ c.fill_constructs.ensures.rest j (inl (omega arith))
          ∙ c.fill_nodes-3.ensures.rest j (inl (omega arith)) ∙ c.fill_nodes-2.ensures.rest j (inl (omega arith)) ∙ c.fill_nodes.ensures.rest j (inl (omega arith))
          ∙ zeros 2133 j
      | inr l ↦ c.put_numbers.ensures.beside.rest j (inr (omega arith)) ∙ c.fill_constructs-5.ensures.rest j (inr (omega (arith, few))) ∙ c.fill_constructs-4.ensures.rest j (inr (omega (arith, few)))
          ∙ c.fill_constructs-3.ensures.rest j (inr (omega (arith, few))) ∙ c.fill_constructs-2.ensures.rest j (inr (omega (arith, few))) ∙ c.fill_constructs.ensures.rest j (inr (omega (arith, few)))
          ∙ c.fill_nodes-3.ensures.rest j (inr (omega (arith, nodes))) ∙ c.fill_nodes-2.ensures.rest j (inr (omega (arith, nodes))) ∙ c.fill_nodes.ensures.rest j (inr (omega (arith, nodes)))
          ∙ zeros 2133 j
    ] in
    let count : get_or table 2033 0 ≡ c.args.chart.constructs =
    c.put_numbers.ensures.table_after.1 in
    let begins : (x : ℕ) → x < get_or table 2033 0 → get_or table (1936 + x) 0 < 256 =
    λ x l. let small : x < c.args.chart.constructs = omega (arith, count) in
    let e = c.put_numbers.ensures.beside.rest (1936 + x) (inl (omega (arith, few))) ∙ c.fill_constructs-5.ensures.rest (1936 + x) (inl (omega (arith, few))) ∙ c.fill_constructs-4.ensures.at x small in
    omega (arith, e, c.frames.ensures.0.node x) in
    let one = c.fill_children.ensures.beside in
    let n = one.rest 2033 (inl (omega arith)) in record { table_len = (one.long ∙ long, omega arith, omega (arith, n, count, few)); by_index = (λ x l. let small : x < 48 = omega (arith, n, count, few) in omega (arith, one.rest (1936 + x) (inl (omega arith)), begins x (omega (arith, n)))); by_index_2 = λ j l. one.rest j (inr (omega arith)) ∙ blank j (inr (omega arith)) }

pub fill_edges-requires : goal.fill_edges-requires
fill_edges-requires c =
    let table : List ℕ =
    c.put_numbers.new.table in
    let few : c.args.chart.constructs ≤ 48 =
    c.requires.laid.constructs-most in
    let nodes : c.args.chart.nodes ≤ 192 =
    c.requires.laid.nodes-most in
    let long : length table ≡ 2133 =
    c.put_numbers.ensures.beside.long ∙ c.fill_constructs-5.ensures.long ∙ c.fill_constructs-4.ensures.long ∙ c.fill_constructs-3.ensures.long
    ∙ c.fill_constructs-2.ensures.long ∙ c.fill_constructs.ensures.long ∙ c.fill_nodes-3.ensures.long ∙ c.fill_nodes-2.ensures.long
    ∙ c.fill_nodes.ensures.long ∙ length-replicate {A = ℕ} 2133 0 in
    let blank : (j : ℕ) → (j < 1024) ⊎ (2037 ≤ j) → get_or table j 0 ≡ 0 =
    λ j t. elim t [
      | inl l ↦ c.put_numbers.ensures.beside.rest j (inl (omega arith)) ∙ c.fill_constructs-5.ensures.rest j (inl (omega arith)) ∙ c.fill_constructs-4.ensures.rest j (inl (omega arith))
          ∙ c.fill_constructs-3.ensures.rest j (inl (omega arith)) ∙ c.fill_constructs-2.ensures.rest j (inl (omega arith)) ∙ c.fill_constructs.ensures.rest j (inl (omega arith))
          ∙ c.fill_nodes-3.ensures.rest j (inl (omega arith)) ∙ c.fill_nodes-2.ensures.rest j (inl (omega arith)) ∙ c.fill_nodes.ensures.rest j (inl (omega arith))
          ∙ zeros 2133 j
      | inr l ↦ c.put_numbers.ensures.beside.rest j (inr (omega arith)) ∙ c.fill_constructs-5.ensures.rest j (inr (omega (arith, few))) ∙ c.fill_constructs-4.ensures.rest j (inr (omega (arith, few)))
          ∙ c.fill_constructs-3.ensures.rest j (inr (omega (arith, few))) ∙ c.fill_constructs-2.ensures.rest j (inr (omega (arith, few))) ∙ c.fill_constructs.ensures.rest j (inr (omega (arith, few)))
          ∙ c.fill_nodes-3.ensures.rest j (inr (omega (arith, nodes))) ∙ c.fill_nodes-2.ensures.rest j (inr (omega (arith, nodes))) ∙ c.fill_nodes.ensures.rest j (inr (omega (arith, nodes)))
          ∙ zeros 2133 j
    ] in
    let one = c.fill_children.ensures.beside in
    let two = c.fill_children-2.ensures.beside in
    record { accepted = (c.requires, two.long ∙ one.long ∙ long); by_index = λ j l. two.rest j (inl (omega arith)) ∙ one.rest j (inl (omega arith)) ∙ blank j (inl l) }

pub returns : goal.returns
returns c =
    let F = c.frames.ensures in
    let N = c.put_numbers.ensures in
    let E = c.fill_edges.ensures in
    tabled _ c.args.chart c.requires _ _ _ c.members_of-members.ensures F.0 F.1 (zeros 2133) (length-replicate {A = ℕ} 2133 0)
    c.fill_nodes.ensures c.fill_nodes-2.ensures c.fill_nodes-3.ensures c.fill_constructs.ensures c.fill_constructs-2.ensures
    c.fill_constructs-3.ensures c.fill_constructs-4.ensures c.fill_constructs-5.ensures N.table_after N.fact N.beside c.fill_children.ensures
    c.fill_children-2.ensures E.0 E.1
