-- `bohrali::c::bohrali_listing` meets its contract.
-- Assumes nothing.
use mathlib.Core.Path.{◌≡◌, ap, sym, ◌∙◌}
use mathlib.Core.List.{[]}
use native.Mathlib.Omega.{arith}
use lib.ListN.{length}
use borrow.Author.Rules.{rules}
use mir.Syntax.{w64}
use mir.Val.{to_z, of_z}
use Rattle.output.specs.Output.{number_of}
use Rattle.output.proofs.Outputs.{had-room}
use Rattle.output.proofs.OutputCorrectLaws.{carried}
use Rattle.theory_listing.specs.Grammar.{listed}
use Rattle.theory_listing.specs.Call.{block_rows, listing_bytes, listing_rows, listing_written}
use Rattle.theory_listing.specs.ListingCorrect.{ListingCorrect}
use Rattle.theory_listing.proofs.ListingCorrectLaws.{listing-correct}
use Rattle.bohrali.proofs.c.bohrali_listing.Goals as goal

-- a result that was written had room, and so fits
pub number_of-requires : goal.number_of-requires
unfolding listing_written listing_rows
number_of-requires c count h =
    let text = c.args.text.now in
    let r = had-room (block_rows (listed text)) [] (length c.args.out.now) (length (listing_bytes text)) (sym c.listing.ensures.value ∙ h) in
    omega (arith, r.0, r.1)

pub returns : goal.returns
returns c =
    let e : to_z w64 (of_z w64 c.number_of.result) ≡ c.number_of.result = search rules in
    let both = carried (ListingCorrect _ _) (e ∙ c.number_of.ensures ∙ ap number_of c.listing.ensures.value) c.listing.ensures.out_after (listing-correct _ _) in
    record { value = both.0; out_after = both.1.0; listing_correct = both.1.1 }
