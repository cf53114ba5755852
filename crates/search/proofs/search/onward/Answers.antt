-- `search::search::onward` meets its contract, whichever way it takes.
-- Assumes nothing.
use Rattle.search.proofs.Settling.{settled-spread}
use Rattle.search.proofs.search.onward.Goals as goal

pub returns-then-lone : goal.returns-then-lone
returns-then-lone c =
    let (q, alone) = c.lone.ensures c.if-lone.true in
    record { goes_on = (λ e stops T P S w v. settled-spread T _ P alone (rw q at S) w (rw q at v) c.settle.ensures); masks_len = c.settle.ensures.long }

pub returns-else-lone : goal.returns-else-lone
returns-else-lone c =
    let (e, stops, T, w) = c.requires.by_index in
    record { goes_on = (λ e stops T P S w v. c.proceed.ensures e stops _ _ T w); masks_len = (c.proceed.ensures e stops _ _ T w).long }
