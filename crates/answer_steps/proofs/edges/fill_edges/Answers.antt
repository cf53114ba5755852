-- `answer_steps::edges::fill_edges` meets its contract.
-- Assumes nothing.
use mathlib.Core.Path.{sym, ◌∙◌}
use Rattle.mark_tables.proofs.Tabling.{blank_none}
use Rattle.answer_steps.proofs.Marking.{edge-any}
use Rattle.answer_steps.proofs.edges.fill_edges.Goals as goal

pub load_edges-loaded-requires : goal.load_edges-loaded-requires
load_edges-loaded-requires c = (c.requires.accepted.0, blank_none)

pub returns : goal.returns
returns c =
    let T = c.load_edges-loaded.ensures.tabled in
    let (m, beside) = c.mark_edges.ensures in
    (λ x y l k. edge-any c.args.s.now c.args.chart T.columns x y ∙ sym (rw T.count at (m.at x y l k)), beside)
