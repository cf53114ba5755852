-- `answer_names::fill_around` meets its contract.
-- Assumes nothing.
use Rattle.answer_names.proofs.Peers.{own-small, all-criticals, spread-around}
use Rattle.answer_names.proofs.fill_around.Goals as goal

pub spread-requires : goal.spread-requires
spread-requires c =
    (c.requires.0, own-small _ c.args.chart c.requires.0 c.requires.1 c.own_bits-all.ensures.own_bits, c.requires.2)

pub returns : goal.returns
returns c =
    let G = c.requires.1 in record { criticals = rw c.own_bits-all.ensures.value (all-criticals _ c.args.chart c.requires.0 G); in_criticals = spread-around _ c.args.chart c.requires.0 G c.own_bits-all.ensures.own_bits c.spread.ensures }
