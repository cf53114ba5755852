-- `call_listing::drawing::listing` meets its contract.
-- Assumes nothing.
use Rattle.std.proofs.Common.{◌≡◌, Err, rules, sym, ◌∙◌, length}
use Rattle.theory_listing.specs.Call.{listing_written, listing_left}
use Rattle.output.proofs.Outputs.{refused}
use Rattle.call_listing.proofs.Rows.{small-read, refused-read}
use Rattle.call_listing.proofs.drawing.listing.Goals as goal

pub write_chart-requires : goal.write_chart-requires
write_chart-requires c = small-read c.args.text.now c.in_ok-all.all (sym c.in_ok-all.was ∙ c.read_limited.ensures)

pub returns-in_err-all : goal.returns-in_err-all
unfolding listing_written listing_left
returns-in_err-all c =
    let same : c.from_residual.result ≡ Err c.in_err-all.field-0.0 = search rules in
    let a = c.args in
    let p = refused _ _ _ a.out.now (refused-read a.text.now _ (length a.out.now) (sym c.in_err-all.was ∙ c.read_limited.ensures)) in
    record { value = same ∙ p.0; out_after = p.1 }

pub returns : goal.returns
returns c = record { value = c.write_chart.ensures.value; out_after = c.write_chart.ensures.out_after }
