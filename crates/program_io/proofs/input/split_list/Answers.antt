-- `program_io::input::split_list` meets its contract.
-- Assumes nothing.
use Rattle.std.proofs.Common.{rules, arith, ◌∙◌, ◌≡◌}
use Rattle.chart.specs.Format.{field}
use Rattle.program_io.proofs.List.{size_is, parts}
use Rattle.program_io.proofs.input.split_list.Goals as goal

pub returns-clause-whole : goal.returns-clause-whole
returns-clause-whole c =
    let front = c.in_ok-size.ensures.cases in
    let n : c.from.result ≡ field c.args.input.now 0 = c.from.ensures ∙ size_is c.args.input.now front.0 c.from_le_bytes.ensures in
    let (some, all) = c.split_at_checked.ensures.variant in
    (λ q. let h = some q in omega arith, λ h. all (omega arith))

pub returns-clause-parts : goal.returns-clause-parts
returns-clause-parts c =
    let s = c.args.input.now in
    let front = c.in_ok-size.ensures.cases in
    let n : c.from.result ≡ field s 0 = c.from.ensures ∙ size_is s front.0 c.from_le_bytes.ensures in
    search (rules, parts s front.1 n)
