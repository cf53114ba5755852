-- `program_io::printing::print` meets its contract.
-- Assumes nothing.
use mathlib.Core.Path.{sym, ◌∙◌}
use Rattle.theory_calls.specs.Admission.{admitted}
use Rattle.bohrali.proofs.SmallCounts.{small-counts}
use Rattle.program_io.proofs.printing.print.Goals as goal

pub print_admitted-requires : goal.print_admitted-requires
unfolding admitted
print_admitted-requires g c =
    (small-counts c.args.s.now _ (sym c.admit.ensures ∙ c.in-Ok.is)).nodes
