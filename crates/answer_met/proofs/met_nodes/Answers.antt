-- `answer_met::met_nodes` meets its contract.
-- Assumes nothing.
use Prim.Native.Nat.{◌*◌}
use Rattle.answer_met.proofs.SetBits.{met-from}
use Rattle.answer_met.proofs.met_nodes.Goals as goal

pub returns : goal.returns
returns c = λ closed marks I U.
    let own = c.args.own in
    let E = c.sharing-e.ensures closed marks.ends I.ends in record {
      low = met-from closed marks own (64 * 0) _ _ U.low E.low;
      middle = met-from closed marks own (64 * 1) _ _ U.middle E.middle;
      high = met-from closed marks own (64 * 2) _ _ U.high E.high;
    }
