-- Levels that start at 1 where the sources' edges lead and that sweeps close are the fewest edges.
-- Assumes nothing.
use mathlib.Core.Path.{◌≡◌}
use mathlib.Core.List.{List}
use Prim.Native.Nat.{ℕ, ◌≤◌, ◌<◌}
use native.Mathlib.Omega.{arith}
use native.Mathlib.Decide.{ℕ_discrete, dec_lt}
use lib.ListN.{get_or}
use Rattle.lists.specs.Common.{some-bit}
use Rattle.theory_paths.specs.Path.{edges}
use Rattle.theory_paths.specs.PathLaws.{edges_some}
use Rattle.theory_paths.specs.Graph.{Listed}
use Rattle.theory_paths.specs.Found.{Clear, Reached, ReachedIn, Leveled}
use Rattle.search.specs.Sweep.{Lies, Carried, Closed}
use Rattle.search.specs.SweepLaws.{Inner}
use Rattle.search.specs.LevelLaws.{nearer, Follows, FromSource, Begun, Measured, levels-found}
use Rattle.search.specs.Parts.{row, Split}
use Rattle.search.proofs.Splitting.{parted-inner}
use Rattle.search.specs.Levels.{Each, Begins, Tells}
use Rattle.search.specs.Search.{Sown}
use Rattle.search.specs.declared.edges.Parts.{Parts}
use Rattle.search.proofs.Finding.{past, path-node, listed-node}

-- levels to start from fit
pub begins-fit : {s d : List ℕ} → Each Begins s d → (y : ℕ) → get_or d y 0 ≤ 254
begins-fit {s} {d} w y = elim (dec_lt y 192) [
  | yes l ↦ (let (none, one) = w.at y l in elim (ℕ_discrete (get_or s y 0) 0) [ yes e ↦ omega (arith, none e) | no n ↦ omega (arith, one n) ])
  | no n ↦ omega (arith, past d y w.long n)
]

abbrev Inside : List ℕ → ℕ → Type 0
Inside stops y = (y < 192) × Clear stops y

module _ {E L : ℕ → ℕ → Type 0} (stops : List ℕ) {sources s d u v : List ℕ} {k : ℕ} (inner : Inner E (Clear stops) (Inside stops) L)
    (node : (x y : ℕ) → E x y → (x < 192) × (y < 192)) (sown : Sown E sources k s) (begins : Each Begins s d) (c : Carried nearer L d u)
    (shut : Closed Follows L u) (tells : Each Tells u v) where
  begun : Begun E (Inside stops) sources k d
  begun = record {
    long = begins.long;
    only = λ y q h. only y q.0 h (ℕ_discrete (get_or s y 0) 0);
    all = λ b y l q e. omega (arith, (begins.at y q.0).1 ((some-bit (sown.mask y)).1 (b, (l, e))));
  }
    where
      only : (y : ℕ) → y < 192 → get_or d y 0 < 254 → Dec (get_or s y 0 ≡ 0) → (get_or d y 0 ≡ 1) × FromSource E sources k y
      only y l h (yes e) = absurd (omega (arith, (begins.at y l).0 e))
      only y l h (no n) =
          let (b, (m, e)) = (some-bit (sown.mask y)).0 n in
          ((begins.at y l).1 n, record { source = b; below = m; edge = e })

  found : Measured E (Clear stops) (Inside stops) sources k u
  found = levels-found inner sources k begun c shut

  some : (y : ℕ) → Inside stops y → get_or u y 0 < 254 → 0 < get_or u y 0
  some y q m = let r = found.path y q m in omega (arith, r.long, edges_some r.path)

  pub leveled : Leveled E (Clear stops) (Clear stops) sources k v
  leveled = record {
    path = λ y p h. path y p h (dec_lt y 192) (dec_lt (get_or u y 0) 254);
    least = λ b y l p w. least b y l (path-node node w, p) w;
  }
    where
      path : (y : ℕ) → Clear stops y → 0 < get_or v y 0 → Dec (y < 192) → Dec (get_or u y 0 < 254)
          → ReachedIn E (Clear stops) sources k (get_or v y 0) y
      path y p h (no n) m = absurd (omega (arith, past v y tells.long n))
      path y p h (yes l) (yes m) = rw ((tells.at y l).0 m) (found.path y (l, p) m)
      path y p h (yes l) (no m) = absurd (omega (arith, (tells.at y l).1 (omega arith)))

      least : (b y : ℕ) → b < k → Inside stops y → (w : Reached E (Clear stops) sources b y) → (0 < get_or v y 0) × (get_or v y 0 ≤ edges w)
      least b y l q w =
          let (m, n) = found.least b y l q w in
          let e = (tells.at y q.0).0 m in
          (omega (arith, some y q m), omega arith)

-- forward, along the edges of a table
pub leveled-ahead : {edges : List (List ℕ)} {e : ℕ} {stops sources s d u v : List ℕ} {parts : Parts} {total : ℕ} → Split edges e stops parts
    → Sown (Listed (row edges 0) (row edges 1) e) sources total s → Each Begins s d
    → Carried nearer (Lies (row edges 2) (row edges 3) parts.ups parts.low) d u → Closed Follows (Lies (row edges 2) (row edges 3) parts.ups parts.low) u
    → Each Tells u v → Leveled (Listed (row edges 0) (row edges 1) e) (Clear stops) (Clear stops) sources total v
leveled-ahead {stops = stops} T = leveled stops (parted-inner T.plain T.to) (listed-node T)
