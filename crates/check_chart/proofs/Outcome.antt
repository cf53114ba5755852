-- An answer read backwards: the table's first match that it was made from.
-- Assumes nothing.
use Rattle.std.specs.Prelude.{Ok, Err}
use mathlib.Core.Path.{◌≡◌, refl, ap}
use mathlib.Core.Option.{Option, none, some}
use Prim.Native.Nat.{ℕ}
use Rattle.lists.specs.Truth.{bad}
use Rattle.chart.specs.Checked.{checked_by}
use Rattle.chart.specs.declared.format.Chart.{Chart}
use Rattle.chart.specs.declared.format.Refusal.{Refusal}

pub passed_none : (o : Option Refusal) (counts chart : Chart) → checked_by o counts ≡ Ok chart → (o ≡ none) × (counts ≡ chart)
unfolding checked_by
passed_none none counts chart h = (refl, cc)
passed_none (some refusal) counts chart h = absurd (bad (cc))

pub refused-some : (o : Option Refusal) (counts : Chart) (refusal : Refusal) → checked_by o counts ≡ Err refusal → o ≡ some refusal
unfolding checked_by
refused-some none counts refusal h = absurd (bad (cc))
refused-some (some given) counts refusal h = ap some same
  where
    same : given ≡ refusal
    same = cc
