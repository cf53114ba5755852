-- `call_replay::records::team_of` meets its contract.
-- Assumes nothing.
use mathlib.Core.Path.{refl, ◌∙◌}
use Prim.Native.Nat.{ℕ, ◌<◌}
use Rattle.lists.specs.Mask.{mask_of}
use Rattle.theory_traces.specs.Call.{record_of}
use Rattle.answer_steps.specs.Teams.{unknown}
use Rattle.call_replay.proofs.Results.{tab-is}
use Rattle.call_replay.proofs.records.team_of.Goals as goal

pub returns : goal.returns
unfolding record_of
returns c = (
  (λ σ S. tab-is unknown 8 (record_of σ) c.args.team.now.threads S.long (λ t l. rw (
    ← S.node t l,
    ← tab-is 0 48 (σ.encounters t) _ (S.wide t l).0 (λ j k. S.count t j l k),
    ← tab-is 0 48 (λ j. mask_of (σ.taken t j) 48) _ (S.wide t l).1 (λ j k. S.taken t j l k),
  ) refl)),
  refl,
  refl,
)
