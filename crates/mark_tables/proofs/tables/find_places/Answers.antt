-- `mark_tables::tables::find_places` meets its contract.
-- Assumes nothing.
use native.Mathlib.Omega.{arith}
use lib.Seq.{length-take-le}
use Rattle.search.specs.Parts.{row}
use Rattle.search.proofs.Ranges.{front-below, rising-front, places-front}
use Rattle.mark_tables.proofs.Columns.{first-edges}
use Rattle.mark_tables.proofs.tables.find_places.Goals as goal

pub places_rising-requires : goal.places_rising-requires
places_rising-requires c =
    let keys = row c.args.table.now 0 in
    let (few, rising, sized, nodes) = c.requires.e_bound in
    let long = length-take-le c.args.e keys (omega (arith, sized.from)) in
    record { e_bound = (rw long few, rising-front keys c.args.e (omega (arith, sized.from)) rising, c.requires.places_value); by_index = front-below keys c.args.e 192 (omega arith) nodes }

pub returns : goal.returns
returns c =
    let P = places-front (row c.args.table.now 0) c.args.e c.places_rising.ensures (omega (arith, c.requires.e_bound.2.from)) in
    record { places = P; first_edges = λ edges C q. first-edges C q P }
