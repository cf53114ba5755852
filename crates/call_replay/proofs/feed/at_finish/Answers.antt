-- `call_replay::feed::at_finish` meets its contract.
-- Assumes nothing.
use mathlib.Core.Path.{sym, ◌∙◌, ap}
use Prim.Native.Nat.{ℕ}
use native.Mathlib.Omega.{arith}
use lib.Dec.{eqb}
use Rattle.lists.specs.Range.{every}
use Rattle.theory_traces.specs.Replay.{at_finish}
use Rattle.call_replay.proofs.feed.at_finish.Goals as goal

pub at-requires : goal.at-requires
at-requires c = (c.requires.1.long, omega arith)

pub returns : goal.returns
unfolding at_finish
returns c = λ R σ T S. c.all_at.ensures σ S ∙ ap (λ (x : ℕ). every c.args.m (λ k. eqb (σ.node k) x)) (c.at.ensures ∙ sym T.finish)
