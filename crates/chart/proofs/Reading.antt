-- The interface between a chart's checks and the laws of its regions: named facts of a region, which are all that the laws rest
-- on. Whatever is to be read as a region has to supply them.
-- Assumes nothing.
use mathlib.Core.Path.{◌≡◌}
use mathlib.Core.Logic.{◌⊎◌, ◌≢◌}
use mathlib.Core.Bool.{true}
use Prim.Native.Nat.{ℕ, ◌<◌}
use Rattle.chart.specs.Format.{outside}
use Rattle.chart.specs.Region.{Role, barrier, opens, closes, loop, ordered, sections, section, parallel, Region}
use Rattle.chart.specs.Scope.{Encloses}
use Rattle.chart.specs.Nesting.{may_enclose}

-- The two nodes that frame a construct: its begin, which opens it, and its end, which closes it. What holds of the one along an edge
-- holds of the other against it.
pub data Frame : Type 0 where
  begin end : Frame

abbrev pub marks : Frame → ℕ → Role
marks begin c = opens c
marks end c = closes c

abbrev pub frame_in : Region → Frame → ℕ → ℕ
frame_in R begin c = R.begin c
frame_in R end c = R.end c

-- c is a construct of the region where `Counts c`. A node x lies in the construct `lies x`; its scope is `scope begin x` leaving it and
-- `scope end x` arriving at it.
pub record Reads (R : Region) (Counts : ℕ → Type 0) (lies : ℕ → ℕ) (scope : Frame → ℕ → ℕ) : Type 0 where
  -- numbers
  pub counts-below : {c : ℕ} → Counts c → c < R.constructs
  pub counts-not-outside : {c : ℕ} → Counts c → c ≢ outside
  pub kept-below : {x : ℕ} → R.kept x ≡ true → x < R.nodes
  pub barrier-below : {x : ℕ} → R.role x ≡ barrier → x < R.nodes
  pub from-kept : {x y : ℕ} → R.edge x y ≡ true → R.kept x ≡ true
  pub to-kept : {x y : ℕ} → R.edge x y ≡ true → R.kept y ≡ true
  -- the frame of a construct
  pub marks-below : (f : Frame) {x : ℕ} (c : ℕ) → R.role x ≡ marks f c → x < R.nodes
  pub marks-counts : (f : Frame) {x : ℕ} (c : ℕ) → R.role x ≡ marks f c → Counts c
  pub marks-only : (f : Frame) {x : ℕ} (c : ℕ) → R.role x ≡ marks f c → x ≡ frame_in R f c
  pub marks-lies : (f : Frame) {x : ℕ} (c : ℕ) → R.role x ≡ marks f c → lies x ≡ R.parent c
  pub framed : (f : Frame) (c : ℕ) → Counts c → R.role (frame_in R f c) ≡ marks f c
  -- inside is enclosed, by constructs of the region
  pub inside-counts : {x c : ℕ} → R.inside x c ≡ true → Counts c
  pub inside-enclosed : {x c : ℕ} → R.inside x c ≡ true → Encloses R.parent (lies x) c
  pub enclosed-inside : {x c : ℕ} → Encloses R.parent (lies x) c → Counts c → R.inside x c ≡ true
  pub barrier-bare : {x c : ℕ} → R.role x ≡ barrier → Encloses R.parent (lies x) c → Counts c → ⊥
  -- scopes
  pub lies-scope : (f : Frame) (x : ℕ) {c : ℕ} → Encloses R.parent (lies x) c → Encloses R.parent (scope f x) c
  pub marks-scope : (f : Frame) {x : ℕ} (c : ℕ) → R.role x ≡ marks f c → scope f x ≡ c
  pub scope-cases : (f : Frame) (x : ℕ) {c : ℕ} → Encloses R.parent (scope f x) c → Counts c
      → Encloses R.parent (lies x) c ⊎ (R.role x ≡ marks f c)
  pub scopes-agree : {x y : ℕ} → R.edge x y ≡ true → scope begin x ≡ scope end y
  -- nesting
  pub not-in-itself : {c : ℕ} → Counts c → Encloses R.parent (R.parent c) c → ⊥
  pub nested : {c k : ℕ} → Counts c → Counts k → Encloses R.parent (R.parent c) k → may_enclose (R.kind c) (R.kind k) ≡ true
  pub ordered-counts : {c : ℕ} → Counts c → R.kind c ≡ ordered → Counts (R.parent c)
  pub ordered-loop : {c : ℕ} → Counts c → R.kind c ≡ ordered → R.kind (R.parent c) ≡ loop
  pub section-counts : {c : ℕ} → Counts c → R.kind c ≡ section → Counts (R.parent c)
  pub section-sections : {c : ℕ} → Counts c → R.kind c ≡ section → R.kind (R.parent c) ≡ sections
  pub no-parallel : {c : ℕ} → Counts c → R.kind c ≢ parallel
  -- what lies directly in a sections is the begin or the end of a section, and what stands there is a section
  pub directly-in : {x c : ℕ} → lies x ≡ c → Counts c → R.kind c ≡ sections → (f : Frame) × (s : ℕ) × (R.role x ≡ marks f s) × (R.kind s ≡ section)
  pub directly-below : {k c : ℕ} → k < R.constructs → R.parent k ≡ c → Counts c → R.kind c ≡ sections → Counts k × (R.kind k ≡ section)
  pub enclosed-below : {x k : ℕ} → Encloses R.parent (lies x) k → k < R.constructs
  pub section-out : {x y s : ℕ} → R.edge x y ≡ true → R.role x ≡ closes s → R.kind s ≡ section → R.role y ≡ closes (R.parent s)
  -- start and finish
  pub start-barrier : R.role R.start ≡ barrier
  pub finish-barrier : R.role R.finish ≡ barrier
  pub start_first : {x : ℕ} → R.edge x R.start ≡ true → ⊥
  pub finish-last : {y : ℕ} → R.edge R.finish y ≡ true → ⊥
