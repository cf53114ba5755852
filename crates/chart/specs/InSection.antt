-- The sections of a sections construct (02, Note 1), of which both the team rules and the pair rules speak.
-- Assumes nothing.
use Rattle.std.specs.Prelude.{◌≡◌, ◌⊎◌, true, ℕ}
use Rattle.chart.specs.Region.{opens, closes, section, Region}

-- x is a section of the sections construct c.
pub record SectionOf (R : Region) (c x : ℕ) : Type 0 where
  pub begun : R.role (R.begin x) ≡ opens x
  pub is-section : R.kind x ≡ section
  pub of-sections : R.parent x ≡ c

-- Node x is inside the section s, "its begin and end counted as inside" (02). This is asked for answer 5 alone: elsewhere a begin and an end
-- lie in the parent.
pub record InSection (R : Region) (x s : ℕ) : Type 0 where
  pub is-section : R.kind s ≡ section
  pub within : (R.inside x s ≡ true) ⊎ ((R.role x ≡ opens s) ⊎ (R.role x ≡ closes s))
