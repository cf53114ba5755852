-- The nesting rule (01: "Nesting"): what may stand anywhere above what, up to the edge of a region (02, Note 12).
-- Assumes nothing.
use Rattle.std.specs.Prelude.{Bool, true, false, ◌&&◌, ◌||◌, not, ◌≡◌, List, [], ℕ, zero, suc, ◌+◌, ◌<◌, eqb, length, get_or}
use Rattle.std.specs.Bool.{beq}
use Rattle.lists.specs.Range.{any}
use Rattle.chart.specs.Format.{outside, Construct, construct_at}
use Rattle.chart.specs.Region.{Kind, single, master, critical, loop, ordered, sections, section, parallel}
use Rattle.chart.specs.Scope.{critical_byte, loop_byte, ordered_byte, sections_byte, section_byte, kind_of, parent_of}
use Rattle.chart.specs.Nested.{is_parallel}

-- May a construct of the second kind stand above one of the first? Above single, do and sections: nothing. Above master: critical. Above
-- ordered: do. Above section: sections. Above critical and parallel: every kind. What stands above a parallel is not asked of what stands in it.
unfoldable pub may_enclose : Kind → Kind → Bool
may_enclose single above = false
may_enclose master single = false
may_enclose master master = false
may_enclose master critical = true
may_enclose master loop = false
may_enclose master ordered = false
may_enclose master sections = false
may_enclose master section = false
may_enclose master parallel = false
may_enclose critical above = true
may_enclose loop above = false
may_enclose ordered single = false
may_enclose ordered master = false
may_enclose ordered critical = false
may_enclose ordered loop = true
may_enclose ordered ordered = false
may_enclose ordered sections = false
may_enclose ordered section = false
may_enclose ordered parallel = false
may_enclose sections above = false
may_enclose section single = false
may_enclose section master = false
may_enclose section critical = false
may_enclose section loop = false
may_enclose section ordered = false
may_enclose section sections = true
may_enclose section section = false
may_enclose section parallel = false
may_enclose parallel above = true

-- Two criticals of the same name, the unnamed ones among them.
unfoldable pub same_critical : ℕ → ℕ → ℕ → ℕ → Bool
same_critical kind name above above_name = eqb kind critical_byte && (eqb above critical_byte && eqb name above_name)

-- A construct of the kind `above` may not stand above one of the kind `kind`: by their kinds, or as two criticals of the same name.
unfoldable pub excluded : ℕ → ℕ → ℕ → ℕ → Bool
excluded kind name above above_name = not (may_enclose (kind_of kind) (kind_of above)) || same_critical kind name above above_name

-- k is the construct p or stands above it, and no parallel does up to there, k among them: nesting starts anew inside each region. `fuel`
-- bounds the walk upwards.
unfoldable pub encloses_near : (ℕ → ℕ) → (ℕ → Bool) → ℕ → ℕ → ℕ → Bool
encloses_near parent shut zero p k = false
encloses_near parent shut (suc fuel) p k =
    (not (eqb p outside) && not (shut p)) && (eqb p k || encloses_near parent shut fuel (parent p) k)

-- Construct k stands above construct c in its region and may not stand there.
unfoldable pub wrongly_above : List Construct → ℕ → ℕ → Bool
wrongly_above constructs c k =
    encloses_near (parent_of constructs) (is_parallel constructs) (length constructs) (parent_of constructs c) k
    && excluded (construct_at constructs c).kind (construct_at constructs c).name (construct_at constructs k).kind (construct_at constructs k).name

-- A construct of the kind `kind` whose parent is of the kind `above`: an ordered in no do, a section in no sections, or another construct
-- directly in a sections (02: wrongly in a sections), a parallel too.
unfoldable pub misplaced : ℕ → ℕ → Bool
misplaced kind above =
    (eqb kind ordered_byte && not (eqb above loop_byte)) || not (beq (eqb kind section_byte) (eqb above sections_byte))

-- Construct c breaks the nesting rule.
unfoldable pub misnested : List Construct → ℕ → Bool
misnested constructs c =
    any (length constructs) (wrongly_above constructs c)
    || misplaced (construct_at constructs c).kind (construct_at constructs (parent_of constructs c)).kind

-- How many kinds there are: their bytes are 1 to 8.
abbrev pub kinds : ℕ
kinds = 8

-- A table that has the rule: rows by kind, columns by kind above, kinds counted from 0.
pub record NestingTable (table : List (List Bool)) : Type 0 where
  pub entry : (kind above : ℕ) → kind < kinds → above < kinds → get_or (get_or table kind []) above false ≡ may_enclose (kind_of (kind + 1)) (kind_of (above + 1))
