-- `mark_tables::tables::load_tables` meets its contract: what is loaded, parted and found is the chart's.
-- Assumes nothing.
use mathlib.Core.Path.{refl}
use Rattle.mark_tables.proofs.Columns.{arranged, handed}
use Rattle.mark_tables.proofs.tables.load_tables.Goals as goal

pub returns : goal.returns
returns c =
    let A = c.requires.0 in
    let T = c.load_edges-loaded.ensures.tabled in
    let P = c.find_places.ensures.places in
    let first = c.find_places.ensures.first_edges in
    record { arranged = arranged _ _ A T P; handed = handed _ _ A T (first _ T.columns T.count); stops = (c.load_stops.ensures, c.barriers-barriers.ensures, refl, refl) }
