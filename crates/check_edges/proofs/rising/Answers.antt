-- `check_edges::rising` meets its contract.
-- Assumes nothing.
use Rattle.check_edges.proofs.Scopes.{by_key}
use Rattle.check_edges.proofs.rising.Goals as goal

pub returns : goal.returns
returns c =
    let a = c.args.a in
    let b = c.args.b in
    rw (c.key.ensures.0, c.key-2.ensures.0)
    (by_key a.from a.to b.from b.to c.key.ensures.1 c.key-2.ensures.1)
