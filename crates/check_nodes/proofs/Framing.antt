-- Noting the nodes by their kinds and numbers, a node at a time; what row 7 tells from the places and the count; and where it does not apply,
-- the places are those of the constructs' begins and ends.
-- Assumes nothing.
use mathlib.Core.Path.{◌≡◌, refl, sym, ap, ◌∙◌}
use mathlib.Core.Logic.{inl, inr, ◌≢◌}
use mathlib.Core.Bool.{Bool, true, false, ◌||◌, not}
use mathlib.Core.List.{List}
use Prim.Native.Nat.{ℕ, ◌+◌, ◌*◌, ◌/◌, ◌≤◌, ◌<◌}
use native.Mathlib.Omega.{arith}
use native.Mathlib.Decide.{ℕ_discrete, dec_lt}
use lib.Dec.{eqb, leb}
use lib.ListN.{length, get_or, set, replicate, length-set, get_or-replicate}
use borrow.Author.Tests.{ne_eqb, eqb-false, le-leb, lt-leb}
use Rattle.lists.specs.Truth.{clash, truth, false-if, same_truth, or-neither, neither-or, not_eqb, eq-not-eqb}
use Rattle.lists.specs.Range.{any_none, none_passes, count, count-more, count-one, first-is}
use Rattle.lists.specs.Counting.{one}
use Rattle.lists.specs.Store.{Written, at_set, zeros}
use Rattle.chart.specs.Format.{Decoded, decode, node_at}
use Rattle.chart.specs.Scope.{begin_node, end_node}
use Rattle.chart.specs.Reading.{frame_of}
use Rattle.chart.specs.Refusal.{bad_nodes, bad_frame, bad_frames, frames_in}
use Rattle.chart.specs.Checked.{Laid}
use Rattle.chart.specs.declared.format.Chart.{Chart}
use Rattle.chart.proofs.Records.{nodes-length, constructs-length}
use Rattle.chart.proofs.Facts.{FrameAt, OneFrame, is_frame, is-frame, frame_is, frame-construct, nodes-fit, frames-fit}
use Rattle.check_nodes.specs.Framed.{Framed, BothFramed, place_of, not_noted, noted_at, lacking, Stands, Noted}
use Rattle.check_nodes.proofs.Ones.{all_one, least, each-one, both-kinds}

pub true-if : {b : Bool} → (b ≡ false → ⊥) → b ≡ true
true-if {b} f = elim (truth b) [ inl h ↦ h | inr h ↦ absurd (f h) ]

pub framed-none : (D : Decoded) (kind : ℕ) → length D.constructs ≡ 0 → Framed D kind (replicate 64 0)
framed-none D kind q = record { at = λ c l. absurd (omega arith); node = λ c. omega (arith, zeros 64 c); there = λ c l. absurd (omega arith) }

pub noted-none : (D : Decoded) → Noted D 0 (replicate 256 not_noted) 0
unfolding count
noted-none D = record {
  long = refl;
  at = λ place l. inr (get_or-replicate 256 place not_noted 0 l, λ y m. absurd (omega arith));
  counted = refl;
}

-- half a kind is 1 for a begin and an end, else 0
half : (kind : ℕ) → kind ≤ end_node → kind / 2 ≡ one (leb begin_node kind)
half kind known = go (dec_lt kind begin_node)
  where
    go : Dec (kind < begin_node) → kind / 2 ≡ one (leb begin_node kind)
    go (yes l) = rw (lt-leb begin_node kind l) (omega arith)
    go (no l) = rw (le-leb begin_node kind (omega arith)) (omega arith)

-- one node more
pub noted_more : (D : Decoded) {x frames : ℕ} {noted : List ℕ} → (node_at D.nodes x).kind ≤ end_node → Noted D x noted frames
    → Noted D (x + 1) (set noted (place_of D x) x) (frames + (node_at D.nodes x).kind / 2)
noted_more D {x} {frames} {noted} known N = record {
  long = length-set noted (place_of D x) x ∙ N.long;
  at = λ place l. at_set (Stands D (x + 1) place) noted (place_of D x) x place (omega (arith, N.long)) (λ q. inl (omega arith, sym q)) (λ n. later place n (N.at place l));
  counted = cc (N.counted, half (node_at D.nodes x).kind known, count-more x (λ y. leb begin_node (node_at D.nodes y).kind));
}
  where
    later : (place : ℕ) → place ≢ place_of D x → Stands D x place (get_or noted place 0) → Stands D (x + 1) place (get_or noted place 0)
    later place n (inl (l, q)) = inl (omega arith, q)
    later place n (inr (e, no_one)) = inr (
      e,
      λ y l q. elim (ℕ_discrete y x) [
        | yes z ↦ n (sym q ∙ ap (place_of D) z)
        | no z ↦ no_one y (omega arith) q
      ],
    )

module _ (s : List ℕ) (chart : Chart) (L : Laid s chart) (good : bad_nodes (decode s) ≡ false) where
  -- row 5 leaves the four kinds, and to a begin or an end the number of a construct
  pub in_order : (x : ℕ) → x < chart.nodes
      → let node = node_at (decode s).nodes x in
      (node.kind ≤ end_node) × (begin_node ≤ node.kind → node.number < chart.constructs)
  in_order x l =
      let F = (nodes-fit (decode s) good).alone x (omega (arith, nodes-length s chart L)) in
      (F.known, λ k. omega (arith, frame-construct F k, constructs-length s chart L))

  module _ {noted : List ℕ} {frames : ℕ} (N : Noted (decode s) chart.nodes noted frames) where
    -- the place of a construct in the row of begins or ends is that of its frames alone
    framed : {kind c x : ℕ} → begin_node ≤ kind → c < chart.constructs → x < chart.nodes → place_of (decode s) x ≡ kind * 64 + c → FrameAt (decode s).nodes kind c x
    framed {kind} {c} {x} k l b q =
        let node = node_at (decode s).nodes x in
        let same : node.kind ≡ kind = omega (arith, L.constructs-most) in
        let below : node.number < chart.constructs = (in_order x b).1 (omega arith) in
        (same, omega (arith, L.constructs-most))

    place : {kind c : ℕ} (x : ℕ) → c < chart.constructs → FrameAt (decode s).nodes kind c x → place_of (decode s) x ≡ kind * 64 + c
    place x l (k, q) = omega (arith, k, q, L.constructs-most)

    -- where no construct lacks a node of the kind, the noted ones are theirs
    there : {kind c : ℕ} → begin_node ≤ kind → kind ≤ end_node → lacking kind chart.constructs noted ≡ false → c < chart.constructs
        → (noted_at kind noted c < chart.nodes) × FrameAt (decode s).nodes kind c (noted_at kind noted c)
    there {kind} {c} k m h l = elim (N.at (kind * 64 + c) (omega (arith, L.constructs-most))) [
      | inl (b, q) ↦ (b, framed k l b q)
      | inr (e, no_one) ↦ absurd (eqb-false (noted_at kind noted c) not_noted (none_passes chart.constructs _ h c l) e)
    ]

    -- and where each has one, none lacks it
    none-lacks : {kind : ℕ} → kind ≤ end_node → ((c : ℕ) → c < length (decode s).constructs → OneFrame (decode s).nodes kind c)
        → lacking kind chart.constructs noted ≡ false
    none-lacks {kind} m one = any_none chart.constructs _ (λ c l. ne_eqb (noted_at kind noted c) not_noted (has c l))
      where
        has : (c : ℕ) → c < chart.constructs → noted_at kind noted c ≢ not_noted
        has c l e =
            let O = one c (omega (arith, constructs-length s chart L)) in
            elim (N.at (kind * 64 + c) (omega (arith, L.constructs-most))) [
              | inl (b, q) ↦ absurd (omega (arith, L.nodes-most))
              | inr (z, no_one) ↦ no_one O.node (omega (arith, O.below, nodes-length s chart L)) (place O.node l O.there)
            ]

    -- a kind's half of row 7, by counts
    abbrev not_one : ℕ → ℕ → Bool
    not_one kind c = not (eqb (frames_in (decode s).nodes kind c (length (decode s).nodes)) 1)

    one_each : (kind : ℕ) → bad_frame (decode s) kind ≡ false → (c : ℕ) → c < chart.constructs → count chart.nodes (is_frame (decode s).nodes kind c) ≡ 1
    unfolding bad_frame frames_in
    one_each kind h c l =
        let passed = none_passes (length (decode s).constructs) (not_one kind) h c (omega (arith, constructs-length s chart L)) in
        rw (nodes-length s chart L) at (not_eqb (frames_in (decode s).nodes kind c (length (decode s).nodes)) 1 passed)

    fit-each : (kind : ℕ) → ((c : ℕ) → c < chart.constructs → count chart.nodes (is_frame (decode s).nodes kind c) ≡ 1) → bad_frame (decode s) kind ≡ false
    unfolding bad_frame frames_in
    fit-each kind h =
        any_none (length (decode s).constructs) (not_one kind)
        (λ c l. eq-not-eqb (frames_in (decode s).nodes kind c (length (decode s).nodes)) 1
        (rw (nodes-length s chart L) (h c (omega (arith, constructs-length s chart L)))))

    -- where row 7 does not apply, there are two frames for each construct
    pub two-each : bad_frames (decode s) ≡ false → frames ≡ 2 * chart.constructs
    unfolding bad_frames
    two-each h =
        let nodes = (decode s).nodes in
        let n = chart.nodes in
        let k = chart.constructs in
        let (b, e) = or-neither (bad_frame (decode s) begin_node) (bad_frame (decode s) end_node) h in
        omega (arith, N.counted, both-kinds nodes n k in_order, all_one nodes begin_node n k (one_each begin_node b), all_one nodes end_node n k (one_each end_node e))

    -- where there are two for each, and none lacks its begin or its end, each has one of each
    fit : frames ≡ 2 * chart.constructs → lacking begin_node chart.constructs noted ≡ false → lacking end_node chart.constructs noted ≡ false → bad_frames (decode s) ≡ false
    unfolding bad_frames
    fit two b e =
        let nodes = (decode s).nodes in
        let n = chart.nodes in
        let k = chart.constructs in
        let begun = has {kind = begin_node} (omega arith) (omega arith) b in
        let ended = has {kind = end_node} (omega arith) (omega arith) e in
        let all = both-kinds nodes n k in_order in
        let begins = least nodes begin_node n k begun in
        let ends = least nodes end_node n k ended in
        neither-or _ _
        (fit-each begin_node (each-one nodes begin_node n k begun (omega (arith, N.counted))))
        (fit-each end_node (each-one nodes end_node n k ended (omega (arith, N.counted))))
      where
        has : {kind : ℕ} → begin_node ≤ kind → kind ≤ end_node → lacking kind chart.constructs noted ≡ false
            → (c : ℕ) → c < chart.constructs → 1 ≤ count chart.nodes (is_frame (decode s).nodes kind c)
        has {kind} k m h c l =
            let (b, p) = there k m h l in
            count-one chart.nodes (is_frame (decode s).nodes kind c) (noted_at kind noted c) b (frame_is (decode s).nodes kind c _ p)

    pub decides : frames ≡ 2 * chart.constructs
        → (lacking begin_node chart.constructs noted || lacking end_node chart.constructs noted) ≡ bad_frames (decode s)
    decides two = same_truth _ _
        (λ h. true-if (λ g. let F = frames-fit (decode s) g in clash h (neither-or _ _ (none-lacks (omega arith) F.begins) (none-lacks (omega arith) F.ends))))
        (λ h. true-if (λ g. let (b, e) = or-neither (lacking begin_node chart.constructs noted) _ g in clash h (fit two b e)))

    framed-by : {kind : ℕ} {places : List ℕ} → begin_node ≤ kind → kind ≤ end_node → ((c : ℕ) → c < length (decode s).constructs → OneFrame (decode s).nodes kind c)
        → Written (noted_at kind noted) chart.constructs places → Framed (decode s) kind places
    unfolding frame_of
    framed-by {kind} {places} k m one W = record {
      at = λ c l. W.at c (few l) ∙ sym (only c l);
      node = λ c. elim (dec_lt c chart.constructs) [
        | yes l ↦ omega (arith, W.at c l, (placed l).0, L.nodes-most)
        | no l ↦ omega (arith, W.past c (omega arith))
      ];
      there = λ c l. rw (only c l) (placed (few l)).1.0;
    }
      where
        few : {c : ℕ} → c < length (decode s).constructs → c < chart.constructs
        few l = omega (arith, constructs-length s chart L)

        placed : {c : ℕ} → c < chart.constructs → (noted_at kind noted c < chart.nodes) × FrameAt (decode s).nodes kind c (noted_at kind noted c)
        placed l = there k m (none-lacks m one) l

        only : (c : ℕ) → c < length (decode s).constructs → frame_of (decode s).nodes kind c ≡ noted_at kind noted c
        only c l =
            let D = decode s in
            let O = one c l in
            let (b, p) = placed (few l) in
            let n = nodes-length s chart L in
            let here = O.only (noted_at kind noted c) (omega arith) p in
            let test = is_frame D.nodes kind c in
            first-is (length D.nodes) test (noted_at kind noted c) (omega arith) (frame_is D.nodes kind c _ p)
            (any_none _ test (λ x m. false-if (λ h. omega (arith, here, O.only x (omega arith) (is-frame D.nodes kind c x h)))))

    -- the places that were taken from what was noted
    pub both-framed : {begins ends : List ℕ} → bad_frames (decode s) ≡ false → Written (noted_at begin_node noted) chart.constructs begins
        → Written (noted_at end_node noted) chart.constructs ends → BothFramed (decode s) begins ends
    both-framed h b e = let F = frames-fit (decode s) h in (framed-by (omega arith) (omega arith) F.begins b, framed-by (omega arith) (omega arith) F.ends e)
