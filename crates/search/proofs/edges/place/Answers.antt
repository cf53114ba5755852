-- `search::edges::place` meets its contract.
-- Assumes nothing.
use native.Mathlib.Omega.{arith}
use Rattle.search.proofs.Steps.{wrote}
use Rattle.search.proofs.Placing.{split-more}
use Rattle.search.proofs.edges.place.Goals as goal

pub returns : goal.returns
returns c =
    let N = c.requires in
    let (f, t, b) = wrote c.args.edges.now 0 1 c.args.j c.args.from c.args.to (omega (arith, N.sized.six)) (omega (arith, N.sized.six)) (λ e. omega arith) in let p = split-more N f t b c.kept.ensures.clear c.kept.ensures.fact c.put-parted.ensures c.note.ensures in record { split = p.0; edges_after = p.1 }
