-- What rows 5 to 9 of the refusals say of a region, a field for each fact. Facts are keyed by what a node is or is inside of, never by
-- "c is below the count". Row 10's facts are in crate `theory_paths`.
-- Assumes nothing.
use Rattle.std.specs.Prelude.{◌≡◌, ◌⊎◌, ◌≢◌, true, false, ℕ, ◌<◌}
use Rattle.chart.specs.Region.{barrier, opens, closes, master, critical, loop, ordered, sections, section, parallel, Outermost, Region}
use Rattle.chart.specs.InSection.{SectionOf, InSection}

pub record WellFormed (R : Region) : Type 0 where
  -- numbers that occur are below the counts
  pub kept-below : {x : ℕ} → R.kept x ≡ true → x < R.nodes
  pub from-below : {x y : ℕ} → R.edge x y ≡ true → x < R.nodes
  pub to_below : {x y : ℕ} → R.edge x y ≡ true → y < R.nodes
  pub barrier-below : {x : ℕ} → R.role x ≡ barrier → x < R.nodes
  pub begin-below : {x c : ℕ} → R.role x ≡ opens c → x < R.nodes
  pub end_below : {x c : ℕ} → R.role x ≡ closes c → x < R.nodes
  pub opens-below : {x c : ℕ} → R.role x ≡ opens c → c < R.constructs
  pub inside-below : {x c : ℕ} → R.inside x c ≡ true → c < R.constructs
  -- an edge leads from a node of the region to one
  pub from-kept : {x y : ℕ} → R.edge x y ≡ true → R.kept x ≡ true
  pub to-kept : {x y : ℕ} → R.edge x y ≡ true → R.kept y ≡ true
  -- each construct has one begin and one end
  pub opens-begin : {x c : ℕ} → R.role x ≡ opens c → x ≡ R.begin c
  pub closes-end : {x c : ℕ} → R.role x ≡ closes c → x ≡ R.end c
  pub closes-begun : {x c : ℕ} → R.role x ≡ closes c → R.role (R.begin c) ≡ opens c
  pub opens-ended : {x c : ℕ} → R.role x ≡ opens c → R.role (R.end c) ≡ closes c
  pub inside-begun : {x c : ℕ} → R.inside x c ≡ true → R.role (R.begin c) ≡ opens c
  -- scopes agree along an edge: a construct is entered from its begin and left to its end
  pub enter : {x y c : ℕ} → R.edge x y ≡ true → R.inside y c ≡ true → (R.inside x c ≡ true) ⊎ (R.role x ≡ opens c)
  pub leave : {x y c : ℕ} → R.edge x y ≡ true → R.inside x c ≡ true → (R.inside y c ≡ true) ⊎ (R.role y ≡ closes c)
  pub after-begin : {x y c : ℕ} → R.edge x y ≡ true → R.role x ≡ opens c → (R.inside y c ≡ true) ⊎ (R.role y ≡ closes c)
  pub before-end : {x y c : ℕ} → R.edge x y ≡ true → R.role y ≡ closes c → (R.inside x c ≡ true) ⊎ (R.role x ≡ opens c)
  -- a begin and its end are inside the same constructs, their own not among them; a barrier is inside none
  pub same-scope : {x c : ℕ} → R.role x ≡ opens c → (k : ℕ) → R.inside (R.end c) k ≡ R.inside x k
  pub begin-outside : {x c : ℕ} → R.role x ≡ opens c → R.inside x c ≡ false
  pub barrier-outside : {x : ℕ} → R.role x ≡ barrier → (c : ℕ) → R.inside x c ≡ false
  -- nesting
  pub outermost : {x c : ℕ} → R.role x ≡ opens c → Outermost (R.kind c) → (k : ℕ) → R.inside x k ≡ false
  pub one-outermost : {x c k : ℕ} → R.inside x c ≡ true → R.inside x k ≡ true → Outermost (R.kind c) → Outermost (R.kind k) → c ≡ k
  pub ordered-begin : {x o : ℕ} → R.role x ≡ opens o → R.kind o ≡ ordered → R.inside x (R.parent o) ≡ true
  pub ordered-inside : {x o : ℕ} → R.inside x o ≡ true → R.kind o ≡ ordered → R.inside x (R.parent o) ≡ true
  pub ordered-loop : {x o : ℕ} → R.inside x o ≡ true → R.kind o ≡ ordered → R.kind (R.parent o) ≡ loop
  pub one-thread : {x c k : ℕ} → R.inside x c ≡ true → R.inside x k ≡ true → R.kind c ≡ master → R.kind k ≡ master → R.thread c ≡ R.thread k
  -- a parallel is no construct of the region around it: its begin and end are plain there
  pub no-parallel : {x c : ℕ} → R.role x ≡ opens c → R.kind c ≢ parallel
  -- sections: a section's parent is a sections, and only criticals begin in a section; whatever is inside a sections is in a section of it, or is
  -- the begin or the end of one; and no edge leads from a section's end to a section's begin, so that it leads to the end of the sections
  pub section-begin : {x s : ℕ} → R.role x ≡ opens s → R.kind s ≡ section → R.inside x (R.parent s) ≡ true
  pub section-inside : {x s : ℕ} → R.inside x s ≡ true → R.kind s ≡ section → R.inside x (R.parent s) ≡ true
  pub section-sections : {x s : ℕ} → R.role x ≡ opens s → R.kind s ≡ section → R.kind (R.parent s) ≡ sections
  pub section-critical : {x k s : ℕ} → R.role x ≡ opens k → R.inside x s ≡ true → R.kind s ≡ section → R.kind k ≡ critical
  pub sections-section : {x c : ℕ} → R.inside x c ≡ true → R.kind c ≡ sections → (s : ℕ) × (SectionOf R c s × InSection R x s)
  pub section-out : {x y s : ℕ} → R.edge x y ≡ true → R.role x ≡ closes s → R.kind s ≡ section → R.role y ≡ closes (R.parent s)
  -- start and finish
  pub start-barrier : R.role R.start ≡ barrier
  pub finish-barrier : R.role R.finish ≡ barrier
  pub start_first : {x : ℕ} → R.edge x R.start ≡ true → ⊥
  pub finish-last : {y : ℕ} → R.edge R.finish y ≡ true → ⊥
