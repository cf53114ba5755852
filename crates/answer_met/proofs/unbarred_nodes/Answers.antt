-- `answer_met::unbarred_nodes` meets its contract.
-- Assumes nothing.
use Prim.Native.Nat.{◌*◌}
use Rattle.answer_met.proofs.SetBits.{unbarred-from}
use Rattle.answer_met.proofs.unbarred_nodes.Goals as goal

pub returns : goal.returns
returns c = λ closed marks I.
    let own = c.args.own in
    let S = c.sharing-s.ensures closed marks.starts I.starts in
    let H = c.sharing-h.ensures closed marks.held I.held in record {
      low = unbarred-from closed marks own (64 * 0) _ _ _ S.low H.low c.without.ensures;
      middle = unbarred-from closed marks own (64 * 1) _ _ _ S.middle H.middle c.without-2.ensures;
      high = unbarred-from closed marks own (64 * 2) _ _ _ S.high H.high c.without-3.ensures;
    }
