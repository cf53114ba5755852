-- The begin of a sections leads to each of its sections: by row 10 some edge leads to a section's begin, and from nowhere else can one come.
-- Assumes nothing.
use Rattle.std.specs.Prelude.{◌≡◌, true, ℕ}
use Rattle.std.proofs.Common.{subst}
use Rattle.lists.specs.Truth.{bad}
use Rattle.chart.specs.Region.{opens, section, Region}
use Rattle.chart.specs.WellFormed.{WellFormed}
use Rattle.chart.proofs.Sections.{assigned-from}
use Rattle.theory_paths.specs.PathLaws.{first_edge, last-edge}
use Rattle.theory_paths.specs.Connected.{Connected}

pub assigned : {R : Region} → WellFormed R → Connected R → {x s : ℕ} → R.role x ≡ opens s → R.kind s ≡ section → R.edge (R.begin (R.parent s)) x ≡ true
assigned {R} W C {x} w k =
    let out = first_edge (C.begin-to-finish w) in
    let (z, e) = last-edge (C.from_start (W.from-kept out.1) (λ q. bad (cc (w, W.start-barrier, q)))) in
    subst (λ (n : ℕ). R.edge n x ≡ true) (W.opens-begin (assigned-from W w k e)) e
