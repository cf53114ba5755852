-- A node holds what is held in the construct that it lies in, and a begin or an end of a section that section.
-- Assumes nothing.
use mathlib.Core.Path.{◌≡◌, refl, sym, ◌∙◌, subst}
use mathlib.Core.Logic.{◌⊎◌, inl, inr, ◌≢◌}
use mathlib.Core.Bool.{true, false}
use mathlib.Core.List.{List}
use Prim.Native.Nat.{ℕ, ◌≤◌, ◌<◌}
use native.Mathlib.Omega.{arith}
use native.Mathlib.Decide.{ℕ_discrete, dec_lt}
use lib.Bits.{bit_and, bit_or}
use lib.ListN.{length, get_or, replicate}
use Rattle.lists.specs.Truth.{bad, clash}
use Rattle.lists.specs.Mask.{Mask, mask-carry, mask-either}
use Rattle.lists.specs.Common.{mask-both}
use Rattle.lists.specs.Store.{zeros}
use Rattle.chart.specs.Format.{outside, decode, node_at}
use Rattle.chart.specs.Region.{opens, closes, Kind, single, master, critical, loop, ordered, sections, section, parallel, Region}
use Rattle.chart.specs.Scope.{begin_node, end_node, here, lies_at, parent_of}
use Rattle.chart.specs.Nested.{is_parallel, counts_in}
use Rattle.chart.specs.Checked.{reading}
use Rattle.chart.specs.declared.format.Chart.{Chart}
use Rattle.chart.proofs.Records.{nodes-length, constructs-length}
use Rattle.chart.proofs.Scopes.{role-marks, marks-role, lies-number, lies-parent}
use Rattle.chart.proofs.Reading.{Frame, begin, end, marks}
use Rattle.chart.proofs.Facts.{NodeFits, frame-construct}
use Rattle.chart.proofs.Tree.{Below, first_step, below_more}
use Rattle.chart.proofs.Tables.{lies, node-fit}
use Rattle.chart.proofs.RegionFacts.{Counts, counts-open}
use Rattle.theory_answers.specs.Unexcluded.{Returns}
use Rattle.theory_paths.specs.Phases.{forward, backward}
use Rattle.mark_tables.specs.Tables.{Accepted, Masks}
use Rattle.mark_tables.proofs.Accepted.{tables, well-formed}
use Rattle.answer_constructs.specs.Below.{HeldBelow}
use Rattle.answer_constructs.specs.Marks.{Holds, Held, OfKind, Kinds, Marks}
use Rattle.answer_constructs.specs.Chains.{Gives, HeldIn, Chains, mask_at}
use Rattle.answer_constructs.proofs.Facts.{few, is_read}
use Rattle.answer_constructs.proofs.Constructs.{no-bit, held_at, parent-lower}

module _ (s : List ℕ) (chart : Chart) (A : Accepted s chart) where
  abbrev R : Region
  R = reading s chart

  -- a construct of the region
  abbrev Member : ℕ → Type 0
  Member = Counts (decode s) chart.region

  abbrev number : ℕ → ℕ
  number x = (node_at (decode s).nodes x).number

  abbrev kind : ℕ → ℕ
  kind x = (node_at (decode s).nodes x).kind

  node-fits : (x : ℕ) → NodeFits (decode s).constructs (kind x) (number x)
  node-fits x = node-fit (decode s) (tables s chart A) x

  pub kind-known : (x : ℕ) → (node_at (decode s).nodes x).kind ≤ end_node
  kind-known x = (node-fits x).known

  pub number-place : (x : ℕ) → Below chart.constructs (node_at (decode s).nodes x).number
  number-place x = subst (λ (n : ℕ). Below n (number x)) (constructs-length s chart A.laid) (node-fits x).number-below

  pub frame-number : (x : ℕ) → begin_node ≤ (node_at (decode s).nodes x).kind → (node_at (decode s).nodes x).number < length (decode s).constructs
  frame-number x k = frame-construct (node-fits x) k

  pub parent_place : (c : ℕ) → c < length (decode s).constructs → Below chart.constructs (parent_of (decode s).constructs c)
  parent_place c l = below_more (omega (arith, constructs-length s chart A.laid)) (parent-lower s chart A c l)

  -- x is the begin or the end of the section d, whose sections does not return
  abbrev Frames : ℕ → ℕ → Type 0
  Frames x d = (R.kind d ≡ section) × (((R.role x ≡ opens d) ⊎ (R.role x ≡ closes d)) × (Returns R (R.parent d) → ⊥))

  abbrev Around : ℕ → ℕ → Type 0
  Around x d = HeldIn R Member (lies (decode s) x) d

  module _ (x d : ℕ) where
    -- what a construct around the node gives, by the kind of the construct
    given : (c : ℕ) (kind : Kind) → R.kind c ≡ kind → R.inside x c ≡ true → Gives R c d kind → Holds R x d (R.kind d)
    given c single k i (q, f) = subst (Holds R x d) (sym (subst (λ (e : ℕ). R.kind e ≡ single) (sym q) k)) (subst (λ (e : ℕ). R.inside x e ≡ true) (sym q) i, f)
    given c master k i (j, t) = subst (Holds R x d) (sym j) (c, ((k, i), t))
    given c critical k i g = absurd g
    given c loop k i g = absurd g
    given c ordered k i (q, f) =
        subst (Holds R x d) (sym (subst (λ (e : ℕ). R.kind e ≡ loop) (sym q) ((well-formed s chart A).ordered-loop i k)))
        (record { construct = c; is-ordered = k; of-do = sym q; within = i }, f)
    given c sections k i g = absurd g
    given c parallel k i g = absurd g
    given c section k i (q, f) =
        let j = subst (λ (e : ℕ). R.kind e ≡ section) (sym q) k in
        subst (Holds R x d) (sym j) (record { is-section = j; within = inl (subst (λ (e : ℕ). R.inside x e ≡ true) (sym q) i) }, f)

    -- and what the node holds, by its kind
    around : (c : ℕ) → R.inside x c ≡ true → Gives R c d (R.kind c) → Around x d
    around c i g = (c, ((is_read s chart A).inside-enclosed i, ((is_read s chart A).inside-counts i, g)))

    giver : (kind : Kind) → R.kind d ≡ kind → Holds R x d kind → Around x d ⊎ Frames x d
    giver single k (i, f) = inl (around d i (subst (Gives R d d) (sym k) (refl, f)))
    giver master k (c, ((m, i), t)) = inl (around c i (subst (Gives R c d) (sym m) (k, t)))
    giver critical k h = absurd h
    giver loop k (o, f) = inl (around o.construct o.within (subst (Gives R o.construct d) (sym o.is-ordered) (sym o.of-do, f)))
    giver ordered k h = absurd h
    giver sections k h = absurd h
    giver parallel k h = absurd h
    giver section k (i, f) = elim i.within [ inl w ↦ inl (around d w (subst (Gives R d d) (sym k) (refl, f))) | inr w ↦ inr (k, (w, f)) ]

    holds : Around x d ⊎ Frames x d → Holds R x d (R.kind d)
    holds (inl (c, (e, (n, g)))) = given c (R.kind c) refl ((is_read s chart A).enclosed-inside e n) g
    holds (inr (k, (w, f))) = subst (Holds R x d) (sym k) (record { is-section = k; within = inr w }, f)

  -- the mask of what a node holds
  held_by : (x : ℕ) {m : ℕ} → Mask (λ d. Around x d ⊎ Frames x d) R.constructs m → Held R x m
  held_by x v = mask-carry (λ d l h. holds x d h) (λ d l h. giver x d (R.kind d) refl h) v

  -- what a begin or an end of a construct of the region says of its record
  framed : (f : Frame) (x d : ℕ) → R.role x ≡ marks f d → (begin_node ≤ kind x) × (number x ≡ d) × (counts_in (decode s).constructs chart.region d ≡ true)
  framed begin x d w = let r = role-marks chart.region (counts_in (decode s).constructs chart.region) begin (kind x) (number x) d w in (omega (arith, r.0), r.1, r.2)
  framed end x d w = let r = role-marks chart.region (counts_in (decode s).constructs chart.region) end (kind x) (number x) d w in (omega (arith, r.0), r.1, r.2)

  frames : (x d : ℕ) → (R.role x ≡ opens d) ⊎ (R.role x ≡ closes d) → (begin_node ≤ kind x) × (number x ≡ d) × (counts_in (decode s).constructs chart.region d ≡ true)
  frames x d (inl w) = framed begin x d w
  frames x d (inr w) = framed end x d w

  -- a node that is no begin or end lies where its number says, and frames nothing
  module _ {chains : List ℕ} (K : Chains (reading s chart) (Counts (decode s) chart.region) chart.constructs chains) (x : ℕ) where
    same : (node_at (decode s).nodes x).kind < begin_node → lies (decode s) x ≡ number x
    unfolding lies_at
    same k = lies-number (number x) (R.parent (number x)) k

    pub plain-held : (node_at (decode s).nodes x).kind < begin_node → Held (reading s chart) x (mask_at chains (node_at (decode s).nodes x).number)
    plain-held k =
        let v = held_at K A.laid.constructs-most (number x) (number-place x) in
        let q = same k in
        held_by x (mask-carry (λ d m h. inl (rw q h)) (λ d m h. elim h [ inl a ↦ rw q at a | inr f ↦ absurd (none d f.1.0) ]) v)
      where
        none : (d : ℕ) → (R.role x ≡ opens d) ⊎ (R.role x ≡ closes d) → ⊥
        none d w = omega (arith, (frames x d w).0)

    -- a node that names no construct lies in none and frames none
    pub outside-held : (node_at (decode s).nodes x).number ≡ outside → Held (reading s chart) x 0
    unfolding mask_at
    outside-held q = elim (dec_lt (kind x) begin_node) [
      | yes k ↦ rw q at (plain-held k)
      | no k ↦ absurd (omega (arith, q, frame-number x (omega arith), few s chart A))
    ]

    -- a begin or an end
    module _ (k : begin_node ≤ (node_at (decode s).nodes x).kind) where
      number-below : number x < R.constructs
      number-below = frame-number x k

      inner : number x ≢ outside
      inner q = omega (arith, number-below, few s chart A)

      -- it frames its own construct, where that is one of the region
      other : Member (number x) → number x ≢ chart.region
      other n z = elim A.named [
        | inl q ↦ inner (z ∙ q)
        | inr h ↦ clash h (subst (λ (c : ℕ). is_parallel (decode s).constructs c ≡ false) z (counts-open (decode s) chart.region (number x) n.1))
      ]

      frames-own : Member (number x) → (R.role x ≡ opens (number x)) ⊎ (R.role x ≡ closes (number x))
      frames-own n = go (ℕ_discrete (kind x) begin_node) (node-fits x).known
        where
          go : Dec (kind x ≡ begin_node) → kind x ≤ end_node → (R.role x ≡ opens (number x)) ⊎ (R.role x ≡ closes (number x))
          go (yes q) m = inl (marks-role chart.region (counts_in (decode s).constructs chart.region) begin q refl (other n) n.1)
          go (no d) m = inr (marks-role chart.region (counts_in (decode s).constructs chart.region) end (omega arith) refl (other n) n.1)

      -- what its own construct gives of sections: itself
      gives-own : (d : ℕ) (kind : Kind) → Member (number x) → R.kind (number x) ≡ kind → R.kind d ≡ section → Gives R (number x) d kind → Frames x d
      gives-own d single n j z (q, f) = absurd (bad (cc (j, z, q)))
      gives-own d master n j z (q, f) = absurd (bad (cc (z, q)))
      gives-own d critical n j z g = absurd g
      gives-own d loop n j z g = absurd g
      gives-own d ordered n j z (q, f) = absurd (bad (cc ((is_read s chart A).ordered-loop n j, z, q)))
      gives-own d sections n j z g = absurd g
      gives-own d section n j z (q, f) = (z, (subst (λ (e : ℕ). (R.role x ≡ opens e) ⊎ (R.role x ≡ closes e)) (sym q) (frames-own n), f))
      gives-own d parallel n j z g = absurd g

      up : lies (decode s) x ≡ R.parent (number x)
      unfolding lies_at
      up = lies-parent (number x) (R.parent (number x)) k

      pub frame-held : {m : ℕ} → OfKind (reading s chart) section m
          → Held (reading s chart) x (bit_or (mask_at chains (parent_of (decode s).constructs (node_at (decode s).nodes x).number)) (bit_and (mask_at chains (node_at (decode s).nodes x).number) m))
      frame-held S =
          let above = held_at K A.laid.constructs-most (R.parent (number x)) (parent_place (number x) number-below) in
          let own = mask-both (held_at K A.laid.constructs-most (number x) (number-place x)) S in
          held_by x (mask-carry to from (mask-either above own))
        where
          to : (d : ℕ) → d < R.constructs → HeldIn R Member (R.parent (number x)) d ⊎ (HeldIn R Member (number x) d × (R.kind d ≡ section)) → Around x d ⊎ Frames x d
          to d m (inl h) = inl (rw up h)
          to d m (inr ((c, (e, (n, g))), z)) = elim (first_step e) [
            | inl q ↦ inr (gives-own d (R.kind (number x)) (subst Member (sym q) n) refl z (subst (λ (c : ℕ). Gives R c d (R.kind c)) (sym q) g))
            | inr a ↦ inl (rw up (c, (a, (n, g))))
          ]

          from : (d : ℕ) → d < R.constructs → Around x d ⊎ Frames x d → HeldIn R Member (R.parent (number x)) d ⊎ (HeldIn R Member (number x) d × (R.kind d ≡ section))
          from d m (inl h) = inl (rw up at h)
          from d m (inr (z, (w, f))) =
              let r = frames x d w in
              let q = r.1 in
              inr ((number x, (here inner, (subst Member (sym q) (m, r.2), subst (λ (c : ℕ). Gives R c d (R.kind c)) (sym q) (subst (Gives R d d) (sym z) (refl, f))))), z)

  -- no node has a bit where there are no constructs
  pub none-held : chart.constructs ≡ 0 → (x : ℕ) → Held (reading s chart) x (get_or (replicate 192 0) x 0)
  none-held z x = let none = constructs-length s chart A.laid in rw (zeros 192 x) (no-bit (λ b l h. omega arith))

  -- all nodes
  pub all-marks : (starts ends held : List ℕ) {noted kinds : List ℕ}
      → Masks forward (reading s chart) starts → Masks backward (reading s chart) ends
      → HeldBelow (reading s chart) chart.nodes held → Kinds (reading s chart) kinds
      → Marks (reading s chart) (record { starts = starts; ends = ends; held = held; kinds = noted }) kinds
  all-marks starts ends held from to below K =
      let n = nodes-length s chart A.laid in
      record {
        well-formed = well-formed s chart A;
        few = omega (arith, A.laid.nodes-most);
        has-starts = from;
        has-ends = to;
        has-held = λ x l. below.has-held x (omega arith);
        none-past = λ x l. below.rest x (omega arith);
        has-kinds = K;
      }
