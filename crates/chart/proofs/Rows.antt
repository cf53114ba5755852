-- The refusal table as a first match: what the first row that applies is in two tables, one after the other, and what it says where none does.
-- Assumes nothing.
use mathlib.Core.Path.{◌≡◌, refl, sym, ap, ◌∙◌}
use mathlib.Core.Bool.{Bool, true, false, cond}
use mathlib.Core.List.{List, [], ◌∷◌, ◌++◌}
use mathlib.Core.Option.{none, some}
use Rattle.lists.specs.Truth.{bad}
use Rattle.chart.specs.Refusal.{Row, first_of, row_number, numbered}
use Rattle.chart.specs.declared.format.Refusal.{Refusal}
use Rattle.chart.specs.declared.format.Refusal.TheVariants.{TooShort, BadMarks, BadCounts, BadLengths, BadNodes, BadConstructs, BadFrames, BadBarriers, BadEdges, BadPaths, NoRoom, OddClaims, BadNumber, BadGrammar, TooDeep, TooLarge, OldReceipt, NoSpace, NoEdge, BadAccesses, BadSize, BadTrace, NoRegion}

-- No row applies, a part for each row in their order.
abbrev pub NoneApplies : List Row → Type 0
NoneApplies [] = Unit {0}
NoneApplies (row ∷ rows) = (row.applies ≡ false) × NoneApplies rows

head-passes : (row : Row) (rows : List Row) → first_of (row ∷ rows) ≡ none → (row.applies ≡ false) × (first_of rows ≡ none)
unfolding first_of
head-passes row rows h = go row.applies h
  where
    go : (applies : Bool) → cond applies (some row.refusal) (first_of rows) ≡ none → (applies ≡ false) × (first_of rows ≡ none)
    go true h = absurd (bad (cc))
    go false h = (refl, h)

pub none-applies : (rows : List Row) → first_of rows ≡ none → NoneApplies rows
none-applies [] h = tt
none-applies (row ∷ rows) h = let p = head-passes row rows h in (p.0, none-applies rows p.1)

pub applies-none : (rows : List Row) → NoneApplies rows → first_of rows ≡ none
unfolding first_of
applies-none [] h = refl
applies-none (row ∷ rows) h = rw h.0 (applies-none rows h.1)

-- in two tables, one after the other, the second one decides where the first one refuses nothing
pub first-decides : (rows more : List Row) (refusal : Refusal) → first_of rows ≡ some refusal → first_of (rows ++ more) ≡ some refusal
unfolding first_of
first-decides [] more refusal h = absurd (bad (cc))
first-decides (row ∷ rows) more refusal h = go row.applies h (first-decides rows more refusal)
  where
    go : (applies : Bool) → cond applies (some row.refusal) (first_of rows) ≡ some refusal
        → (first_of rows ≡ some refusal → first_of (rows ++ more) ≡ some refusal)
        → cond applies (some row.refusal) (first_of (rows ++ more)) ≡ some refusal
    go true h later = h
    go false h later = later h

pub second-decides : (rows more : List Row) → first_of rows ≡ none → first_of (rows ++ more) ≡ first_of more
unfolding first_of
second-decides [] more h = refl
second-decides (row ∷ rows) more h = let p = head-passes row rows h in rw p.0 (second-decides rows more p.1)

pub both-pass : (rows more : List Row) → first_of (rows ++ more) ≡ none → (first_of rows ≡ none) × (first_of more ≡ none)
unfolding first_of
both-pass [] more h = (refl, h)
both-pass (row ∷ rows) more h =
    let p = head-passes row (rows ++ more) h in
    let both = both-pass rows more p.1 in
    (rw p.0 both.0, both.1)

-- The number of a refusal leads back to it.
found-again : (r : Refusal) → numbered (row_number r) ≡ r
unfolding row_number
found-again TooShort = refl
found-again BadMarks = refl
found-again BadCounts = refl
found-again BadLengths = refl
found-again BadNodes = refl
found-again BadConstructs = refl
found-again BadFrames = refl
found-again BadBarriers = refl
found-again BadEdges = refl
found-again BadPaths = refl
found-again NoRoom = refl
found-again OddClaims = refl
found-again BadNumber = refl
found-again BadGrammar = refl
found-again TooDeep = refl
found-again TooLarge = refl
found-again OldReceipt = refl
found-again NoSpace = refl
found-again NoEdge = refl
found-again BadAccesses = refl
found-again BadSize = refl
found-again BadTrace = refl
found-again NoRegion = refl

-- Refusals with one number are one.
pub one-number : (r s : Refusal) → row_number r ≡ row_number s → r ≡ s
one-number r s h = sym (found-again r) ∙ (ap numbered h ∙ found-again s)
