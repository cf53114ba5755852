-- Two nodes are inside criticals of a common name where their masks of names have a bit in common.
-- Assumes nothing.
use mathlib.Core.Path.{◌≡◌, refl, sym, ◌∙◌}
use Prim.Native.Nat.{ℕ}
use Rattle.lists.specs.Truth.{same_truth}
use Rattle.lists.specs.Common.{common, common-test}
use Rattle.chart.specs.Region.{Region}
use Rattle.chart.specs.WellFormed.{WellFormed}
use Rattle.theory_calls.specs.Races.{share_name}
use Rattle.theory_calls.proofs.RaceLaws.{share-named}
use Rattle.answer_names.specs.Names.{NamesAt}

pub share-by : {R : Region} → WellFormed R → (a b : ℕ) {m n : ℕ} → NamesAt R a m → NamesAt R b n → share_name R a b ≡ common m n
share-by {R} W a b v w = let t = common-test v w in same_truth _ _
    (λ h. let (c, (d, ((x, y), e))) = (share-named W a b).0 h in t.1 (c, (W.inside-below x.1, ((x.0, (c, (x, refl))), (x.0, (d, (y, sym e)))))))
    (λ h. let (k, (l, ((p, (c, (x, e))), (q, (d, (y, f)))))) = t.0 h in (share-named W a b).1 (c, (d, ((x, y), e ∙ sym f))))
