-- A region: the control flow of one parallel region as one team runs it. Everything past the format is defined over it: paths, phases,
-- answers, team rules. How a chart is read for one of its regions is in specs/Reading.antt.
-- Assumes nothing.
use Rattle.std.specs.Prelude.{Bool, ℕ}

-- What a node is: it opens or closes a construct (01: begin and end), or is a barrier, or is plain.
pub data Role : Type 0 where
  plain barrier : Role
  opens closes : ℕ → Role

-- The kinds of constructs; `loop` is 01's do. A `section` stands in a `sections` (02, Note 1). A `master` is 01's, for thread 0, and the masked
-- that replaces it, for any one thread (02, Note 5). A `parallel` opens a region of its own (02, Note 12).
pub data Kind : Type 0 where
  single master critical loop ordered sections section parallel : Kind
  deriving Discrete as Kind-discrete

-- Kinds above which nothing of their region may stand.
abbrev pub Outermost : Kind → Type 0
Outermost single = Unit {0}
Outermost master = ⊥
Outermost critical = ⊥
Outermost loop = Unit {0}
Outermost ordered = ⊥
Outermost sections = Unit {0}
Outermost section = ⊥
Outermost parallel = ⊥

pub record Region : Type 0 where
  -- node numbers and construct numbers that occur are below these
  pub nodes : ℕ
  pub constructs : ℕ
  -- node x is one of the region, its start and its finish among them
  pub kept : ℕ → Bool
  pub role : ℕ → Role
  pub edge : ℕ → ℕ → Bool
  -- node x is inside construct c, at any depth (01: inside); a construct's begin and end are not
  pub inside : ℕ → ℕ → Bool
  pub kind : ℕ → Kind
  pub parent : ℕ → ℕ
  -- the number of the one thread that goes into a master
  pub thread : ℕ → ℕ
  -- the name of a critical
  pub name : ℕ → ℕ
  pub begin : ℕ → ℕ
  pub end : ℕ → ℕ
  -- 01: Start and Finish, the barriers at which the team begins and ends
  pub start : ℕ
  pub finish : ℕ
