-- The steps of a team of m threads, as 01's team rules list them, with 02's steps for sections (Note 1) and its filters for masters (Note 5). A
-- critical's begin is left like any other: locks (02, Note 9) are in specs/Locks.antt, beside these rules. No path, phase or answer is mentioned here.
-- Assumes nothing.
use Rattle.std.specs.Prelude.{◌≡◌, ◌⊎◌, ◌≢◌, true, false, ℕ, suc, ◌≤◌, ◌<◌}
use Rattle.chart.specs.Region.{Role, plain, barrier, opens, closes, Kind, single, master, critical, loop, ordered, sections, section, parallel, Region}
use Rattle.chart.specs.InOrdered.{InOrdered}
use Rattle.chart.specs.InSection.{SectionOf}
use Rattle.theory_team.specs.State.{State, moved, left, took, released}

-- Thread t is about to leave the begin of c for the k-th time, k its count and one; no thread has left it for the k-th time before. (Counts
-- go up by one, so a thread has if its count is k or more.)
abbrev pub First : ℕ → State → ℕ → ℕ → Type 0
First m σ t c = (k : ℕ) → k < m → σ.encounters k c ≤ σ.encounters t c

-- Or some thread has.
abbrev pub NotFirst : ℕ → State → ℕ → ℕ → Type 0
NotFirst m σ t c = (k : ℕ) × (k < m) × (σ.encounters t c < σ.encounters k c)

-- No thread but t is inside an ordered of the do d in the same instance of d as t.
abbrev pub NoneOrdered : Region → ℕ → State → ℕ → ℕ → Type 0
NoneOrdered R m σ t d = (k : ℕ) → k < m → k ≢ t → InOrdered R (σ.node k) d → σ.encounters k d ≢ σ.encounters t d

-- Section x of c is taken in the k-th instance of c (02: in that meeting): some thread has taken it there, or is past that instance (02: "in a
-- meeting that some thread is past, all are taken").
abbrev pub Taken : ℕ → State → ℕ → ℕ → ℕ → Type 0
Taken m σ c k x = (t : ℕ) × (t < m) × ((k < σ.encounters t c) ⊎ ((σ.encounters t c ≡ k) × (σ.taken t c x ≡ true)))

-- Or no thread has taken it, and none is past.
abbrev pub Untaken : ℕ → State → ℕ → ℕ → ℕ → Type 0
Untaken m σ c k x = (t : ℕ) → t < m → (σ.encounters t c ≤ k) × (σ.encounters t c ≡ k → σ.taken t c x ≡ false)

-- All sections of c are taken in its k-th instance.
abbrev pub AllTaken : Region → ℕ → State → ℕ → ℕ → Type 0
AllTaken R m σ c k = (x : ℕ) → SectionOf R c x → Taken m σ c k x

-- What lets thread t, at the begin of c, take an edge, by the kind of c (01: single begin, master begin, do begin, ordered begin). Into a
-- master goes the thread of its number alone (02: the filter of a masked). The begin of a sections construct is left by `take` and `pass` alone.
-- A parallel is no construct of the region that it stands in: there its begin and end are plain nodes.
abbrev pub MayEnter : Region → ℕ → State → ℕ → ℕ → Kind → Type 0
MayEnter R m σ t c single = First m σ t c
MayEnter R m σ t c master = t ≡ R.thread c
MayEnter R m σ t c critical = Unit {0}
MayEnter R m σ t c loop = Unit {0}
MayEnter R m σ t c ordered = NoneOrdered R m σ t (R.parent c)
MayEnter R m σ t c sections = ⊥
MayEnter R m σ t c section = Unit {0}
MayEnter R m σ t c parallel = ⊥

-- What lets it go straight to the end of c. A single or a master allows one of the two and not the other; at a do the thread chooses; the begin of
-- a sections leads straight to the end once all its sections are taken in the instance that t comes to; criticals, ordereds and the sections
-- themselves are not passed.
abbrev pub MayPass : Region → ℕ → State → ℕ → ℕ → Kind → Type 0
MayPass R m σ t c single = NotFirst m σ t c
MayPass R m σ t c master = t ≢ R.thread c
MayPass R m σ t c critical = ⊥
MayPass R m σ t c loop = Unit {0}
MayPass R m σ t c ordered = ⊥
MayPass R m σ t c sections = AllTaken R m σ c (suc (σ.encounters t c))
MayPass R m σ t c section = ⊥
MayPass R m σ t c parallel = ⊥

-- What lets it take an edge from a node that is no begin, by the node's role. The end of a sections construct is left so once all its sections are
-- taken in t's instance (02: "Once all are taken, the begin leads straight to the end, and the end is left along an edge").
abbrev pub MayMove : Region → ℕ → State → ℕ → Role → Type 0
MayMove R m σ t plain = Unit {0}
MayMove R m σ t barrier = ⊥
MayMove R m σ t (opens c) = ⊥
MayMove R m σ t (closes c) = R.kind c ≡ sections → AllTaken R m σ c (σ.encounters t c)

-- A step of thread t to node v. The thread, the node and the state before determine the state after.
pub data ThreadStep (R : Region) (m : ℕ) (σ : State) (t v : ℕ) : State → Type 0 where
  -- 01: a move, from a node other than a begin
  move : MayMove R m σ t (R.role (σ.node t)) → R.edge (σ.node t) v ≡ true → ThreadStep R m σ t v (moved σ t v)
  -- 01: a move, from a begin
  enter : {c : ℕ} → R.role (σ.node t) ≡ opens c → MayEnter R m σ t c (R.kind c) → R.edge (σ.node t) v ≡ true → ThreadStep R m σ t v (left σ t c v)
  -- from a begin straight to the end: this too is leaving the begin, and is counted
  pass : {c : ℕ} → R.role (σ.node t) ≡ opens c → MayPass R m σ t c (R.kind c) → v ≡ R.end c → ThreadStep R m σ t v (left σ t c v)
  -- from a do's end to a node that an edge leads to from its begin, in the same instance (01: meeting): this is not leaving the begin
  again : {c : ℕ} → R.role (σ.node t) ≡ closes c → R.kind c ≡ loop → R.edge (R.begin c) v ≡ true → ThreadStep R m σ t v (moved σ t v)
  -- 02: "a thread steps to the begin of some section that no thread has taken in that meeting", on leaving the begin of the sections construct,
  -- "counted as for single": the meeting is the instance that t comes to
  take : {c x : ℕ} → R.role (σ.node t) ≡ opens c → R.kind c ≡ sections → SectionOf R c x → Untaken m σ c (suc (σ.encounters t c)) x → v ≡ R.begin x
      → ThreadStep R m σ t v (took (left σ t c v) t c x)
  -- or at its end: the meeting is t's latest instance, and this is not leaving the begin
  take_next : {c x : ℕ} → R.role (σ.node t) ≡ closes c → R.kind c ≡ sections → SectionOf R c x → Untaken m σ c (σ.encounters t c) x → v ≡ R.begin x
      → ThreadStep R m σ t v (took (moved σ t v) t c x)

-- A step of the team: of one thread, or of all.
pub data Step (R : Region) (m : ℕ) (σ : State) : State → Type 0 where
  one : {t v : ℕ} {τ : State} → t < m → ThreadStep R m σ t v τ → Step R m σ τ
  -- 01: an opening. All stand at one barrier b, not finish; each takes an edge of its own choice, `to t`; a new interval (01: stretch) begins.
  release : (b : ℕ) (to : ℕ → ℕ) → R.role b ≡ barrier → b ≢ R.finish
      → ((t : ℕ) → t < m → σ.node t ≡ b) → ((t : ℕ) → t < m → R.edge b (to t) ≡ true) → Step R m σ (released m σ to)
