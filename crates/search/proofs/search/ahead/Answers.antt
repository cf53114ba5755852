-- `search::search::ahead` meets its contract.
-- Assumes nothing.
use Rattle.search.proofs.Finding.{sown-ahead}
use Rattle.search.proofs.search.ahead.Goals as goal

pub returns : goal.returns
returns c = λ e stops T P. c.proceed.ensures e stops _ _ T (sown-ahead T P c.depart.ensures.sowed)
