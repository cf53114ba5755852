-- What a search finds, as the masks and levels of a region, one time for both directions; as the constructs that return.
-- Assumes nothing.
use mathlib.Core.Path.{◌≡◌, refl, ap, sym, ◌∙◌, subst}
use mathlib.Core.Logic.{◌⊎◌, inl, inr}
use mathlib.Core.Bool.{Bool, true, false, ◌||◌, not, cond}
use mathlib.Core.List.{List}
use Prim.Native.Nat.{ℕ, ◌+◌, ◌≤◌, ◌<◌}
use native.Mathlib.Omega.{arith}
use lib.Dec.{eqb}
use lib.ListN.{length, get_or}
use borrow.Author.Tests.{eqb-true}
use Rattle.lists.specs.Truth.{truth, clash, false-if}
use Rattle.lists.specs.Range.{count}
use Rattle.lists.specs.Mask.{Mask, mask-carry, mask_of, mask_is}
use Rattle.lists.specs.Least.{least-unique}
use Rattle.lists.specs.Bits.{has, has_of, mask-same, mask-empty}
use Rattle.chart.specs.Format.{Decoded, decode}
use Rattle.chart.specs.Region.{barrier, Region}
use Rattle.chart.specs.Scope.{begin_node, end_node}
use Rattle.chart.specs.Reading.{frame_of}
use Rattle.chart.specs.Checked.{reading}
use Rattle.chart.specs.declared.format.Chart.{Chart}
use Rattle.chart.proofs.Reading.{begin}
use Rattle.chart.proofs.Tables.{frame_found}
use Rattle.chart.proofs.RegionFacts.{barrier-at, start-inner}
use Rattle.chart.specs.WellFormed.{WellFormed}
use Rattle.theory_paths.specs.Path.{Path, edges, Open}
use Rattle.theory_paths.specs.PathLaws.{carry, edges-carry, reverse, edges-reverse, last-edge}
use Rattle.theory_paths.specs.ReachLaws.{distance-path, path-distance}
use Rattle.theory_paths.specs.Decide.{no_barrier, no-barrier, barrier-no, free-path, reaches_free, returns}
use Rattle.theory_paths.specs.Graph.{Listed}
use Rattle.theory_paths.specs.Found.{Clear, Reached, Found, Leveled}
use Rattle.theory_paths.specs.FoundLaws.{found-carry, leveled-carry}
use Rattle.theory_paths.specs.Phases.{Direction, forward, backward, leads, is_boundary, barriers, barrier_at, marked, marks, edges_free, nearest}
use Rattle.theory_paths.specs.PhasesLaws.{is-barrier, number-barrier, barrier-number, leads-free, free-leads}
use Rattle.theory_paths.specs.Cut.{edges_of}
use Rattle.check_nodes.specs.Framed.{Framed}
use Rattle.mark_tables.specs.Tables.{Accepted, Along, Arranged, Handed, Stops, Barriers, Returned}
use Rattle.mark_tables.proofs.Accepted.{tables, few-constructs, well-formed}
use Rattle.mark_tables.proofs.Columns.{places-first}
use Rattle.search.specs.Parts.{row}
use Rattle.search.specs.Search.{Ready, Standing, Spread, Cleared}
use Rattle.search.specs.declared.edges.Parts.{Parts}
use Rattle.mark.specs.Joined.{lost, lost_barrier, missing, Reaches}
use Rattle.mark.proofs.Blanks.{missing-counted}
use Rattle.mark.proofs.JoiningLaws.{masks-reach, parts-lost}

module _ {R : Region} (W : WellFormed R) where
  -- past no barrier
  free-mask : (d : Direction) (sources : List ℕ) (total y m : ℕ) → Mask (λ b. Reached (Along d R) (Open R) sources b y) total m
      → m ≡ mask_of (λ b. leads d R (get_or sources b 0) y) total
  free-mask forward sources total y m w = mask_is _ (λ b _. free-leads R W forward (get_or sources b 0) y) (λ b _. leads-free R W forward (get_or sources b 0) y) w
  free-mask backward sources total y m w = mask_is _ (λ b _. free-leads R W backward (get_or sources b 0) y) (λ b _. leads-free R W backward (get_or sources b 0) y)
      (mask-carry (λ b _. reverse) (λ b _. reverse) w)

  -- the fewest edges are those of some path, in that direction, and no path has fewer
  edges-path : (d : Direction) (x y : ℕ) → 0 < edges_free d R x y → (w : Path (Along d R) (Open R) x y) × (edges w ≡ edges_free d R x y)
  edges-path forward x y h =
      let (w, q) = distance-path R.nodes R.edge (λ z. no_barrier (R.role z)) (λ x y. W.to_below) x y h in
      (carry (λ x y e. e) (λ z. no-barrier (R.role z)) w, edges-carry (λ x y e. e) (λ z. no-barrier (R.role z)) w ∙ q)
  edges-path backward x y h =
      let (w, q) = distance-path R.nodes R.edge (λ z. no_barrier (R.role z)) (λ x y. W.to_below) y x h in
      let v = carry (λ x y e. e) (λ z. no-barrier (R.role z)) w in
      (reverse v, edges-reverse v ∙ edges-carry (λ x y e. e) (λ z. no-barrier (R.role z)) w ∙ q)

  path-edges : (d : Direction) (x y : ℕ) (w : Path (Along d R) (Open R) x y) → (0 < edges_free d R x y) × (edges_free d R x y ≤ edges w)
  path-edges forward x y w =
      let (p, q) = path-distance R.nodes R.edge (λ z. no_barrier (R.role z)) (λ x y. W.to_below) x y (carry (λ x y e. e) (λ z. barrier-no (R.role z)) w) in
      (p, omega (arith, edges-carry (λ x y e. e) (λ z. barrier-no (R.role z)) w))
  path-edges backward x y w =
      let v = reverse w in
      let (p, q) = path-distance R.nodes R.edge (λ z. no_barrier (R.role z)) (λ x y. W.to_below) y x (carry (λ x y e. e) (λ z. barrier-no (R.role z)) v) in
      (p, omega (arith, edges-carry (λ x y e. e) (λ z. barrier-no (R.role z)) v, edges-reverse w))

  found-nearest : (d : Direction) {sources levels : List ℕ} {total : ℕ} → Barriers R sources total
      → Leveled (Along d R) (Open R) (Open R) sources total levels → (x : ℕ) → Open R x → get_or levels x 0 ≡ nearest d R x
  unfolding nearest
  found-nearest d {sources} {levels} {total} B F x o =
      least-unique (λ b. edges_free d R (barrier_at R b) x) (length (barriers R)) (get_or levels x 0) (record { one = one; below = below })
    where
      few : total ≡ length (barriers R)
      few = B.count

      same : (b : ℕ) → b < total → edges_free d R (get_or sources b 0) x ≡ edges_free d R (barrier_at R b) x
      same b l = ap (λ (z : ℕ). edges_free d R z x) (B.at b l)

      below : (b : ℕ) → b < length (barriers R) → 0 < edges_free d R (barrier_at R b) x
          → (0 < get_or levels x 0) × (get_or levels x 0 ≤ edges_free d R (barrier_at R b) x)
      below b l h =
          let k : b < total = omega arith in
          let (w, q) = edges-path d (get_or sources b 0) x (omega (arith, same b k)) in
          let (a, c) = F.least b x k o w in
          (a, omega (arith, same b k))

      one : 0 < get_or levels x 0 → (b : ℕ) × (b < length (barriers R)) × (edges_free d R (barrier_at R b) x ≡ get_or levels x 0)
      one h =
          let r = F.path x o h in
          let (p, q) = path-edges d (get_or sources r.source 0) x r.path in
          let l : r.source < length (barriers R) = omega (arith, r.below) in
          let (a, c) = below r.source l (omega (arith, same r.source r.below)) in
          (r.source, l, omega (arith, same r.source r.below, r.long))

clear-free : (b : Bool) → ◌≡◌ {A = ℕ} (cond b 0 1) 0 → b ≡ true
clear-free true h = refl
clear-free false h = absurd (omega arith)

module _ {R : Region} {stops : List ℕ} (S : Stops R stops) where
  open-node : (z : ℕ) → Clear stops z → Open R z
  open-node z h = no-barrier (R.role z) (clear-free (no_barrier (R.role z)) (sym (S.at z) ∙ h))

  pub clear-node : (z : ℕ) → Open R z → Clear stops z
  clear-node z h = S.at z ∙ rw (barrier-no (R.role z) h)

  stopped : (z : ℕ) → no_barrier (R.role z) ≡ false → Clear stops z → ⊥
  stopped z t h = clash (clear-free (no_barrier (R.role z)) (sym (S.at z) ∙ h)) t

  -- where the stops have no mask, the blank ones tell whether a node was missed
  pub blanks : {E : ℕ → ℕ → Type 0} {nodes masks : List ℕ} {total : ℕ} → Barriers R nodes total → Cleared E stops nodes total masks
      → not (eqb (count R.nodes (λ x. eqb (get_or masks x 0) 0)) total) ≡ missing stops masks R.nodes
  blanks {masks = masks} B w = missing-counted masks S B (λ x t. w.stop x (stopped x t))

  -- stops stand on the barriers
  pub standing : WellFormed R → {nodes : List ℕ} {total : ℕ} → Barriers R nodes total → Standing stops nodes total
  standing W {total = total} B = record {
    on = λ b l. stopped _ (ap no_barrier (ap R.role (B.at b l) ∙ number-barrier R W b (omega (arith, B.count))));
    number = λ y n.
        let (b, l, q) = barrier-number R W y (is-barrier _ (false-if (λ t. n (S.at y ∙ rw t)))) in
        let k : b < total = omega (arith, B.count) in
        (b, k, B.at b k ∙ q);
  }

  module _ (d : Direction) {E : ℕ → ℕ → Type 0} (f : (x y : ℕ) → E x y → Along d R x y) (g : (x y : ℕ) → Along d R x y → E x y) where
    -- the search's own words: along edges in a direction, past no stop
    pub found-along : {sources : List ℕ} {total : ℕ} {masks : List ℕ} → Found E (Clear stops) sources total masks → Found (Along d R) (Open R) sources total masks
    found-along = found-carry f g open-node clear-node

    pub leveled-along : {sources : List ℕ} {total : ℕ} {levels : List ℕ} → Leveled E (Clear stops) (Clear stops) sources total levels
        → Leveled (Along d R) (Open R) (Open R) sources total levels
    leveled-along = leveled-carry f g open-node clear-node clear-node

    along-mask : (sources : List ℕ) (total y m : ℕ) → Mask (λ b. Reached E (Clear stops) sources b y) total m
        → Mask (λ b. Reached (Along d R) (Open R) sources b y) total m
    along-mask sources total y m = mask-carry (λ b _. carry f open-node) (λ b _. carry g clear-node)

    -- masks tell of the nodes that are no barriers whether a path leads there
    pub cleared-reach : {sources : List ℕ} {total : ℕ} {masks : List ℕ} → Cleared E stops sources total masks → Reaches (Along d R) (Open R) sources total masks
    cleared-reach {sources} {total} {masks} w = masks-reach (λ x o. along-mask sources total x (get_or masks x 0) (w.clear x (clear-node x o)))

    -- with the barriers that are apart from a source, the blank masks tell whether a node is
    pub lost-told : (W : WellFormed R) {nodes : List ℕ} {total : ℕ} (B : Barriers R nodes total) (source : ℕ) → source < total → {masks : List ℕ}
        → Cleared E stops nodes total masks
        → (lost_barrier d R source || not (eqb (count R.nodes (λ x. eqb (get_or masks x 0) 0)) total)) ≡ lost d R (barrier_at R source)
    lost-told W B source l w = rw (blanks B w) (parts-lost W d _ B source l (cleared-reach w) S)

    -- barriers keep no mask
    pub all-masks : WellFormed R → {nodes : List ℕ} {total : ℕ} {masks : List ℕ} → Barriers R nodes total → Cleared E stops nodes total masks
        → (y : ℕ) → get_or masks y 0 ≡ marks d R y
    unfolding marks marked is_boundary
    all-masks W {nodes} {total} {masks} B w y = go (truth (no_barrier (R.role y)))
      where
        go : (no_barrier (R.role y) ≡ true) ⊎ (no_barrier (R.role y) ≡ false) → get_or masks y 0 ≡ mask_of (marked d R y) (length (barriers R))
        go (inl t) =
            let same : mask_of (λ b. leads d R (get_or nodes b 0) y) total ≡ mask_of (λ b. leads d R (get_or (barriers R) b 0) y) (length (barriers R))
            = rw (← B.count) (mask-same _ _ _ (λ b l. rw (B.at b l))) in
            free-mask W d nodes total y (get_or masks y 0) (along-mask nodes total y (get_or masks y 0) (w.clear y (S.at y ∙ rw t)))
            ∙ same
            ∙ mask-same _ (marked d R y) _ (λ b l. rw (t, number-barrier R W b l))
        go (inr t) = w.stop y (stopped y t) ∙ sym (mask-empty (marked d R y) _ (λ b l. rw t))

    -- and the levels are the fewest edges
    pub all-levels : WellFormed R → {nodes : List ℕ} {total : ℕ} {levels : List ℕ} → Barriers R nodes total
        → Leveled E (Clear stops) (Clear stops) nodes total levels → (x : ℕ) → Open R x → get_or levels x 0 ≡ nearest d R x
    all-levels W B w = found-nearest W d B (leveled-along w)

-- what a search asks of the tables

pub ready : {p : ℕ} {D : Decoded} {edges : List (List ℕ)} {places : List ℕ} {parts : Parts} → Handed p D edges places parts → Ready edges places parts
ready {p} {D} H = record { count = length (edges_of p D); stops = H.stops; split = H.split; begins = places-first H.columns H.begins }

-- the constructs that return: bit c of the mask of the begin of c, in a search from the ends. Of the begins only that of the region's own
-- parallel is a barrier, and no edge leads to it.

module _ (s : List ℕ) (chart : Chart) (A : Accepted s chart) where
  abbrev D : Decoded
  D = decode s

  abbrev R : Region
  R = reading s chart

  W : WellFormed R
  W = well-formed s chart A

  start-begin : (c : ℕ) → c < length D.constructs → R.role (frame_of D.nodes begin_node c) ≡ barrier → R.start ≡ frame_of D.nodes begin_node c
  start-begin c l w =
      let f = frame_found D (tables s chart A) begin c l in
      let q : chart.region ≡ c = sym (barrier-at D chart.region (frame_of D.nodes begin_node c) w).1 ∙ f.1 in
      start-inner D chart.region (λ o. omega (arith, few-constructs s chart A)) ∙ ap (frame_of D.nodes begin_node) q

  pub none-back : (c x : ℕ) → c < length D.constructs → R.role (frame_of D.nodes begin_node c) ≡ barrier → R.edge x (frame_of D.nodes begin_node c) ≡ true → ⊥
  none-back c x l w e = W.start_first (subst (λ (y : ℕ). R.edge x y ≡ true) (sym (start-begin c l w)) e)

  pub ends-reach : (n : ℕ) → n ≡ length (decode s).constructs
      → {edges : List (List ℕ)} {places stops begins ends sources masks : List ℕ} {parts : Parts} {total : ℕ} (T : Arranged (reading s chart) edges places stops parts)
      → Stops (reading s chart) stops → Framed (decode s) begin_node begins → Framed (decode s) end_node ends
      → (first : ℕ) → first + n ≤ total → ((c : ℕ) → c < n → get_or sources (first + c) 0 ≡ get_or ends c 0)
      → Spread (Listed (row edges 0) (row edges 1) T.count) stops sources total masks
      → Returned (reading s chart) (mask_of (λ c. has (get_or masks (get_or begins c 0) 0) (first + c)) n)
  unfolding returns
  ends-reach n q {edges} {stops = stops} {begins} {ends} {sources} {masks} {total = total} T S B E first few at w = λ c l _.
      has_of (λ c. has (get_or masks (get_or begins c 0) 0) (first + c)) n c (omega arith) ∙ bit c l (truth (no_barrier (R.role (get_or begins c 0))))
    where
      end : (c : ℕ) → c < length D.constructs → get_or sources (first + c) 0 ≡ frame_of D.nodes end_node c
      end c l = at c (omega arith) ∙ E.at c l

      edge_in : (c : ℕ) {y : ℕ} → Listed (row edges 0) (row edges 1) T.count (get_or sources (first + c) 0) (get_or begins c 0) → get_or begins c 0 ≡ y
          → R.edge (get_or sources (first + c) 0) y ≡ true
      edge_in c e q = subst (λ (y : ℕ). R.edge (get_or sources (first + c) 0) y ≡ true) q (T.listed-edge _ _ e)

      bit : (c : ℕ) → c < length D.constructs → (no_barrier (R.role (get_or begins c 0)) ≡ true) ⊎ (no_barrier (R.role (get_or begins c 0)) ≡ false)
          → has (get_or masks (get_or begins c 0) 0) (first + c) ≡ reaches_free R (frame_of D.nodes end_node c) (frame_of D.nodes begin_node c)
      bit c l (inl t) =
          ap (λ (m : ℕ). has m (first + c)) (free-mask W forward sources total (get_or begins c 0) _ (along-mask S forward T.listed-edge T.edge-listed sources total (get_or begins c 0) _
          (w.clear (get_or begins c 0) (B.node c) (S.at _ ∙ rw t))))
          ∙ has_of (λ b. reaches_free R (get_or sources b 0) (get_or begins c 0)) total (first + c) (omega arith)
          ∙ ap (λ (x : ℕ). reaches_free R x (get_or begins c 0)) (end c l)
          ∙ ap (reaches_free R (frame_of D.nodes end_node c)) (B.at c l)
      bit c l (inr t) =
          let b : R.role (frame_of D.nodes begin_node c) ≡ barrier = rw (← B.at c l) (is-barrier _ t) in
          false-if (λ h. none-back c (get_or sources (first + c) 0) l b
          (edge_in c ((w.stop (get_or begins c 0) (B.node c) (stopped S _ t)).only (first + c) (omega arith) (eqb-true _ 1 h)) (B.at c l)))
          ∙ sym (false-if (λ h. let e = last-edge (free-path R W _ _ h) in none-back c e.0 l b e.1))
