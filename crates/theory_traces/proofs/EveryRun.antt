-- Every run is the replay of some trace: the replay takes it to the run's last state, and marks every pair that is met in it.
-- Assumes nothing.
use Rattle.std.specs.Prelude.{◌≡◌, false, cond}
use Rattle.std.proofs.Math.Path.{refl, subst, fun_ext}
use Rattle.std.proofs.Common.{sym, ◌∙◌, ap, get_or-append-add}
use Rattle.std.proofs.Math.Bool.{true}
use mathlib.Core.List.{List, [], ◌∷◌, ◌++◌}
use Rattle.std.proofs.Math.Option.{some}
use Prim.Native.Nat.{ℕ, zero, suc, ◌+◌, ◌*◌, ◌/◌, ◌%◌, ◌≤◌, ◌<◌}
use native.Mathlib.Omega.{arith}
use Rattle.std.proofs.Math.Decide.{ℕ_discrete, dec_lt}
use Rattle.std.proofs.Math.ListN.{length, get_or, length-append, get_or-append}
use Rattle.std.proofs.Math.Seq.{get_or-append_seam}
use Rattle.lists.specs.Truth.{is}
use Rattle.chart.specs.Region.{Region}
use Rattle.chart.specs.WellFormed.{WellFormed}
use Rattle.theory_paths.specs.Connected.{Connected}
use Rattle.theory_team.specs.State.{State, initial, released}
use Rattle.theory_team.specs.Step.{Step, one, release}
use Rattle.theory_team.specs.Run.{Run, done, step, StateOf, now, later}
use Rattle.theory_traces.specs.Owned.{Own}
use Rattle.theory_traces.specs.Replay.{Play, reached, begun, chosen_now, feed, going, onward, next, progress, replayed}
use Rattle.theory_traces.specs.Legal.{Gathered, Together}
use Rattle.theory_traces.specs.Outside.{target-kept}
use Rattle.theory_traces.proofs.ReplayLaws.{together-of, grows-reached}
use Rattle.theory_traces.proofs.Feeding.{pending, chosen-part, chosen-whole, release-gathered, step-fed, choice-fed}

-- a release goes where the team's threads go
released-same : (m : ℕ) (σ : State) (f g : ℕ → ℕ) → ((t : ℕ) → t < m → f t ≡ g t) → released m σ f ≡ released m σ g
unfolding released is
released-same m σ f g h =
    ap (λ (node : ℕ → ℕ). record { node = node; encounters = λ t c. 0; taken = λ t c x. false }) (fun_ext (λ t. go t (dec_lt t m)))
  where
    go : (t : ℕ) (d : Dec (t < m)) → cond (is d) (f t) (σ.node t) ≡ cond (is d) (g t) (σ.node t)
    go t (yes l) = rw (h t l)
    go t (no l) = refl

-- numbers of two lists, one after the other
both_below : (n : ℕ) (xs ys : List ℕ) → ((i : ℕ) → get_or xs i 0 < n) → ((i : ℕ) → get_or ys i 0 < n) → (i : ℕ) → get_or (xs ++ ys) i 0 < n
both_below n [] ys f g i = g i
both_below n (x ∷ xs) ys f g zero = f 0
both_below n (x ∷ xs) ys f g (suc i) = both_below n xs ys (λ i. f (suc i)) g i

entry-below : (n t v : ℕ) → t < n → v < n → (i : ℕ) → get_or (t ∷ v ∷ []) i 0 < n
entry-below n t v l j zero = l
entry-below n t v l j (suc zero) = j
entry-below n t v l j (suc (suc i)) = omega arith

module _ (R : Region) (W : WellFormed R) (C : Connected R) (m : ℕ) where
  -- The replay of a trace, which is bytes, takes every entry and has come to this play.
  pub record Reads (trace : List ℕ) (P : Play) : Type 0 where
    pub entries : ℕ
    pub whole : length trace ≡ 2 * entries
    pub legal : progress R m trace entries ≡ going P
    pub bytes : (i : ℕ) → get_or trace i 0 < 256

  -- entries behind the k-th do not matter
  progress-append : (trace more : List ℕ) (k : ℕ) → 2 * k ≤ length trace → progress R m (trace ++ more) k ≡ progress R m trace k
  unfolding progress
  progress-append trace more zero l = refl
  progress-append trace more (suc k) l =
      rw (get_or-append trace more 0 (2 * k) (omega arith), get_or-append trace more 0 (2 * k + 1) (omega arith), progress-append trace more k (omega arith))

  read-entry : (trace : List ℕ) (P Q : Play) (t v : ℕ) → t < 256 → v < 256 → Reads trace P → feed R m P t v ≡ some Q → Reads (trace ++ (t ∷ v ∷ [])) Q
  unfolding progress next onward
  read-entry trace P Q t v lt lv D h =
      let k = D.entries in
      let thread : get_or (trace ++ (t ∷ v ∷ [])) (2 * k) 0 ≡ t = rw (← D.whole) (get_or-append_seam trace t (v ∷ []) 0) in
      let node : get_or (trace ++ (t ∷ v ∷ [])) (2 * k + 1) 0 ≡ v = rw (← D.whole) (get_or-append-add trace (t ∷ v ∷ []) 1 0) in
      let before : progress R m (trace ++ (t ∷ v ∷ [])) k ≡ going P = progress-append trace (t ∷ v ∷ []) k (omega (arith, D.whole)) ∙ D.legal in
      record {
        entries = suc k;
        whole = omega (arith, length-append trace (t ∷ v ∷ []), D.whole);
        legal = rw (thread, node, before, h);
        bytes = both_below 256 trace (t ∷ v ∷ []) D.bytes (entry-below 256 t v lt lv);
      }

  module _ (P : Play) (G : Gathered R m P.state) (to : ℕ → ℕ) (edges : (t : ℕ) → t < m → R.edge (P.state.node 0) (to t) ≡ true) where
    -- the nodes chosen by the first j threads
    abbrev Chosen : List ℕ → ℕ → Type 0
    Chosen nodes j = (length nodes ≡ j) × ((t : ℕ) → t < j → get_or nodes t 0 ≡ to t)

    one_more : (nodes : List ℕ) (j : ℕ) → Chosen nodes j → Chosen (nodes ++ (to j ∷ [])) (suc j)
    one_more nodes j (few, same) = (omega (arith, length-append nodes (to j ∷ [])), λ t l. go t (ℕ_discrete t j) l)
      where
        go : (t : ℕ) → Dec (t ≡ j) → t < suc j → get_or (nodes ++ (to j ∷ [])) t 0 ≡ to t
        go t (yes q) l = rw (q, ← few) (get_or-append_seam nodes (to (length nodes)) [] 0)
        go t (no q) l = get_or-append nodes (to j ∷ []) 0 t (omega arith) ∙ same t (omega arith)

    last-chosen : (nodes more : List ℕ) → Chosen more m → chosen_now m (pending P nodes) more ≡ reached m P.met (released m P.state to)
    last-chosen nodes more (few, same) = chosen-whole m (pending P nodes) more few ∙ ap (reached m P.met) (released-same m P.state (λ t. get_or more t 0) to same)

    choose-next : m ≤ 256 → R.nodes ≤ 256 → (trace nodes : List ℕ) (j : ℕ) → j < m → Chosen nodes j → Reads trace (pending P nodes)
        → Reads (trace ++ (j ∷ to j ∷ [])) (chosen_now m (pending P nodes) (nodes ++ (to j ∷ [])))
    choose-next few n trace nodes j l C D =
        let t : j < 256 = omega arith in
        let v : to j < 256 = omega (arith, W.to_below (edges j l)) in
        read-entry trace (pending P nodes) _ j (to j) t v D (choice-fed R W m (pending P nodes) j (to j) (record { gathered = G; in_order = sym C.0; along = edges j l }))

    -- after the entries of the first j threads
    record Choosing (j : ℕ) : Type 0 where
      trace : List ℕ
      nodes : List ℕ
      chosen : Chosen nodes j
      reads : Reads trace (pending P nodes)

    chooses : m ≤ 256 → R.nodes ≤ 256 → (trace : List ℕ) → Reads trace (pending P []) → (j : ℕ) → j < m → Choosing j
    chooses few n trace D zero l = record { trace = trace; nodes = []; chosen = (refl, λ t l. absurd (omega arith)); reads = D }
    chooses few n trace D (suc j) l =
        let C = chooses few n trace D j (omega arith) in
        let more = one_more C.nodes j C.chosen in
        record {
          trace = C.trace ++ (j ∷ to j ∷ []);
          nodes = C.nodes ++ (to j ∷ []);
          chosen = more;
          reads = subst (Reads (C.trace ++ (j ∷ to j ∷ []))) (chosen-part m (pending P C.nodes) (C.nodes ++ (to j ∷ [])) (omega (arith, more.0)))
              (choose-next few n C.trace C.nodes j (omega arith) C.chosen C.reads);
        }

    -- with the last entry the team is released
    released-by : m ≤ 256 → R.nodes ≤ 256 → (trace : List ℕ) → Reads trace (pending P []) → 1 ≤ m
        → (longer : List ℕ) × Reads longer (reached m P.met (released m P.state to))
    released-by few n trace D l = last m refl
      where
        last : (k : ℕ) → k ≡ m → (longer : List ℕ) × Reads longer (reached m P.met (released m P.state to))
        last zero e = absurd (omega arith)
        last (suc j) e =
            let C = chooses few n trace D j (omega arith) in
            let more = one_more C.nodes j C.chosen in (
              C.trace ++ (j ∷ to j ∷ []),
              subst (Reads (C.trace ++ (j ∷ to j ∷ []))) (last-chosen C.nodes (C.nodes ++ (to j ∷ [])) (subst (Chosen (C.nodes ++ (to j ∷ []))) e more))
                  (choose-next few n C.trace C.nodes j (omega arith) C.chosen C.reads),
            )

  -- what is met in the states of a run is marked
  abbrev Marked : Play → State → Type 0
  Marked P σ = (a b : ℕ) → Together m σ a b → P.met a b ≡ true

  unfoldable AllMarked : Play → {σ τ : State} → Run R m σ τ → Type 0
  AllMarked P {σ} done = Marked P σ
  AllMarked P {σ} (step s r) = Marked P σ × AllMarked P r

  first-marked : (P : Play) {σ τ : State} (r : Run R m σ τ) → AllMarked P r → Marked P σ
  unfolding AllMarked
  first-marked P done M = M
  first-marked P (step s r) M = M.0

  state-marked : (P : Play) {σ τ μ : State} {r : Run R m σ τ} → StateOf R m σ τ r μ → AllMarked P r → Marked P μ
  unfolding AllMarked
  state-marked P (now {r = r}) M = first-marked P r M
  state-marked P (later h) M = state-marked P h M.1

  -- a trace goes on along a run: from the play P, in the state that the run begins in, to a play in its last state, with the old marks and those of
  -- all its states
  record Along (P : Play) {σ τ : State} (r : Run R m σ τ) : Type 0 where
    trace : List ℕ
    play : Play
    reads : Reads trace play
    same : play.state ≡ τ
    keeps : (a b : ℕ) → P.met a b ≡ true → play.met a b ≡ true
    marks : AllMarked play r

  -- What is left to say of a run: a trace of bytes, all of which the replay takes, that leads to the run's last state and marks every pair met in it.
  pub record Replays {τ : State} (r : Run R m (initial R) τ) : Type 0 where
    pub trace : List ℕ
    pub bytes : (i : ℕ) → get_or trace i 0 < 256
    pub even : length trace % 2 ≡ 0
    pub play : Play
    pub legal : replayed R m trace ≡ going play
    pub same : play.state ≡ τ
    pub marks : (μ : State) → StateOf R m (initial R) τ r μ → (a b : ℕ) → Together m μ a b → play.met a b ≡ true

  module _ (most : m ≤ 256) (least : 1 ≤ m) (n : R.nodes ≤ 256) where
    -- the entries of one step
    step-read : (trace : List ℕ) (P : Play) → P.chosen ≡ [] → Reads trace P → {τ : State} → Step R m P.state τ
        → (longer : List ℕ) × Reads longer (reached m P.met τ)
    step-read trace P c D (one {t} {v} l s) =
        let thread : t < 256 = omega arith in
        let node : v < 256 = omega (arith, W.kept-below (target-kept W C s)) in
        (trace ++ (t ∷ v ∷ []), read-entry trace P _ t v thread node D (step-fed R W m P t v l s))
    step-read trace P c D (release b to h e all edges) =
        let from : (t : ℕ) → t < m → R.edge (P.state.node 0) (to t) ≡ true = λ t l. subst (λ (x : ℕ). R.edge x (to t) ≡ true) (sym (all 0 least)) (edges t l) in
        released-by P (release-gathered R W m least h e all) to from most n trace (subst (λ (nodes : List ℕ). Reads trace (pending P nodes)) c D) least

    along : {σ τ : State} (r : Run R m σ τ) (trace : List ℕ) (P : Play) → P.state ≡ σ → P.chosen ≡ [] → Own m P → Reads trace P → Along P r
    unfolding AllMarked reached
    along done trace P e c M D = record {
      trace = trace;
      play = P;
      reads = D;
      same = e;
      keeps = λ a b h. h;
      marks = subst (Marked P) e M;
    }
    along (step {τ = ρ} s r) trace P e c M D =
        let (longer, E) = step-read trace P c D (subst (λ (π : State). Step R m π ρ) (sym e) s) in
        let G = grows-reached m P ρ in
        let A = along r longer (reached m P.met ρ) refl refl (G.owns M) E in
        let keeps : (a b : ℕ) → P.met a b ≡ true → A.play.met a b ≡ true = λ a b h. A.keeps a b (G.keeps a b h) in
        record {
          trace = A.trace;
          play = A.play;
          reads = A.reads;
          same = A.same;
          keeps = keeps;
          marks = (subst (Marked A.play) e (λ a b h. keeps a b (M a b h)), A.marks);
        }

    -- Every run of a team is replayed.
    pub every-run-replays : {τ : State} (r : Run R m (initial R) τ) → Replays r
    unfolding progress begun reached
    every-run-replays r =
        let start : Reads [] (begun R m) = record { entries = 0; whole = refl; legal = refl; bytes = λ i. omega arith } in
        let A = along r [] (begun R m) refl refl (λ a b h. (together-of m (initial R) a b).1 h) start in
        let half : length A.trace / 2 ≡ A.reads.entries = omega (arith, A.reads.whole) in
        record {
          trace = A.trace;
          bytes = A.reads.bytes;
          even = omega (arith, A.reads.whole);
          play = A.play;
          legal = rw half A.reads.legal;
          same = A.same;
          marks = λ μ h. state-marked A.play h A.marks;
        }
