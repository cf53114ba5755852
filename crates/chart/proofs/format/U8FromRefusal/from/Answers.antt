-- The number of a refusal is its row's: the variants are numbered in the order of the rows.
-- Assumes nothing.
use denote.Enum.Declared.{tag_of}
use Rattle.std.proofs.Common.{◌≡◌, ◌+◌, refl}
use Rattle.chart.specs.Refusal.{row_number}
use Rattle.chart.specs.contracts.format.Refusal.{the_type}
use Rattle.chart.specs.declared.format.Refusal.{Refusal}
use Rattle.chart.specs.declared.format.Refusal.TheVariants.{TooShort, BadMarks, BadCounts, BadLengths, BadNodes, BadConstructs, BadFrames, BadBarriers, BadEdges, BadPaths, NoRoom, OddClaims, BadNumber, BadGrammar, TooDeep, TooLarge, OldReceipt, NoSpace, NoEdge, BadAccesses, BadSize, BadTrace, NoRegion}
use Rattle.chart.proofs.format.U8FromRefusal.from.Goals as goal

numbered : (refusal : Refusal) → tag_of the_type refusal + 1 ≡ row_number refusal
unfolding row_number
numbered TooShort = refl
numbered BadMarks = refl
numbered BadCounts = refl
numbered BadLengths = refl
numbered BadNodes = refl
numbered BadConstructs = refl
numbered BadFrames = refl
numbered BadBarriers = refl
numbered BadEdges = refl
numbered BadPaths = refl
numbered NoRoom = refl
numbered OddClaims = refl
numbered BadNumber = refl
numbered BadGrammar = refl
numbered TooDeep = refl
numbered TooLarge = refl
numbered OldReceipt = refl
numbered NoSpace = refl
numbered NoEdge = refl
numbered BadAccesses = refl
numbered BadSize = refl
numbered BadTrace = refl
numbered NoRegion = refl

pub returns : goal.returns
returns c = numbered c.args.refusal
