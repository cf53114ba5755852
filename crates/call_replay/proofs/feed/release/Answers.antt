-- `call_replay::feed::release` meets its contract. The loop's invariant: the threads passed have gone.
-- Assumes nothing.
use mathlib.Core.Path.{◌≡◌, refl}
use Prim.Native.Nat.{◌-◌}
use native.Mathlib.Omega.{arith}
use Rattle.call_replay.proofs.Releases.{going-none, going_more, shows-released}
use Rattle.call_replay.proofs.feed.release.Goals as goal

pub loop-t-init : goal.loop-t-init
loop-t-init c = (omega arith, λ old B. going-none B)

pub loop-t-preserved : goal.loop-t-preserved
loop-t-preserved c = (omega arith, λ old B. going_more (omega (arith, c.requires.shows.2)) refl (c.loop-t.invariant.1 old B))

pub returns : goal.returns
returns c =
    let q : c.loop-t.t ≡ c.args.m = omega arith in
    let G = rw q at (c.loop-t.invariant.1 c.args.team.now c.set_all_back.ensures) in
    record { shows_2 = (λ σ S. shows-released σ S c.requires.shows.2 c.requires.by_index G); team_after = refl }
