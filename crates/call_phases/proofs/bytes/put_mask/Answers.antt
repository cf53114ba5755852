-- `call_phases::bytes::put_mask` meets its contract.
-- Assumes nothing.
use Rattle.std.proofs.Common.{arith, ◌∙◌}
use Rattle.call_phases.proofs.Writes.{put-bytes}
use Rattle.call_phases.proofs.bytes.put_mask.Goals as goal

pub returns : goal.returns
returns c = put-bytes _ _ _ _ _ (omega arith) c.requires (c.copy_from_slice.ensures.after ∙ c.to_le_bytes.ensures)
