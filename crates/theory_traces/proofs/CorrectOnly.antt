-- Nothing else is correct: the promise leaves one number with its values, and so one answer (`values-apart`), one content of the records and one of the bytes.
-- Assumes nothing.
use Rattle.std.specs.Prelude.{◌≡◌, refl, ◌⊎◌, Bool, false, List, ℕ, suc, ◌+◌, ◌*◌, ◌/◌, ◌%◌, ◌≤◌, ◌<◌, ℤ, pos, length, Ok}
use Rattle.std.proofs.Common.{sym, ◌∙◌, inl, inr, arith, mod-lt, div-lt_iff_lt-mul, div-add-mod', ext_get_or}
use Rattle.std.proofs.Math.Path.{ap, subst}
use Rattle.std.proofs.Math.Bool.{true, cond}
use Rattle.std.proofs.Math.Option.{Option, none, some}
use Rattle.std.proofs.Math.Decide.{dec_lt}
use Rattle.std.proofs.Math.ListN.{get_or}
use Rattle.lists.specs.Truth.{truth, clash, false-if}
use Rattle.lists.specs.Tab.{tab}
use Rattle.chart.specs.Format.{decode}
use Rattle.chart.specs.Region.{Region}
use Rattle.chart.specs.Reading.{region_of}
use Rattle.chart.specs.Refusal.{first_of}
use Rattle.chart.specs.declared.format.Refusal.{Refusal}
use Rattle.chart.specs.WellFormed.{WellFormed}
use Rattle.theory_paths.specs.AdmissionLaws.{admitted-well-formed}
use Rattle.theory_team.specs.State.{State}
use Rattle.theory_team.specs.Run.{Finished}
use Rattle.theory_traces.specs.Legal.{thread_at, target_at, Legal, MetBy}
use Rattle.theory_traces.specs.Replay.{Play, feed, Progress, going, stopped, progress, replayed, outcome_of, play_of}
use Rattle.theory_traces.proofs.ReplayLaws.{goes_on, halts, stays, finish-of}
use Rattle.theory_traces.proofs.LegalLaws.{FollowsTo, progress-follows, legal-comes, met-marked}
use Rattle.theory_traces.specs.Call.{replay_rows, record_of, replay_answer, records_left, sheet_left, Values, values_of}
use Rattle.theory_traces.proofs.CallLaws.{passed-admitted}
use Rattle.theory_traces.specs.Correct.{Says, Told, ReplayCorrect}
use Rattle.theory_traces.proofs.CorrectLaws.{passed-team, replay-correct}
use Rattle.theory_traces.specs.declared.Thread.{Thread}

module _ (R : Region) (W : WellFormed R) (m : ℕ) (least : 1 ≤ m) (trace : List ℕ) where
  -- where k entries are legal and values say so, the replay came to the same play and has those values
  record Arrived (k : ℕ) (σ : State) (said : Values) : Type 0 where
    play : Play
    came : progress R m trace k ≡ going play
    last : play_of (replayed R m trace) ≡ play
    gives : said ≡ values_of (Ok (outcome_of R m (replayed R m trace)))
    same : play.state ≡ σ

  arrived : {k : ℕ} {σ : State} {nodes : List ℕ} → Legal R m trace k σ nodes → (z : ℤ) → z ≡ pos 0 → (f : Option Bool) (b : Option ℕ) → Says R m trace k σ f b
      → Arrived k σ (record { number = z; finished = f; forbidden = b })
  unfolding outcome_of play_of values_of
  arrived {σ = σ} L z q (some true) none (e, f) =
      let C = legal-comes R W m least trace L in
      let end = (finish-of R W m C.play.state).1 (subst (Finished R m) (sym C.same-state) f) in
      record { play = C.play; came = C.came; last = rw (← e, C.came); gives = rw (q, ← e, C.came, end); same = C.same-state }
  arrived L z q (some false) none (e, f) =
      let C = legal-comes R W m least trace L in
      let on = false-if (λ h. f (subst (Finished R m) C.same-state ((finish-of R W m C.play.state).0 h))) in
      record { play = C.play; came = C.came; last = rw (← e, C.came); gives = rw (q, ← e, C.came, on); same = C.same-state }
  arrived {k} L z q (some false) (some index) (e, (l, illegal)) =
      let C = legal-comes R W m least trace L in
      let end : replayed R m trace ≡ stopped C.play k = stays R m trace C.play k (suc k) (length trace / 2) l (stop C.play C.came (feed R m C.play (thread_at trace k) (target_at trace k)) refl) in
      record { play = C.play; came = C.came; last = rw end; gives = rw (q, e, end); same = C.same-state }
    where
      stop : (P : Play) → progress R m trace k ≡ going P → (o : Option Play) → feed R m P (thread_at trace k) (target_at trace k) ≡ o
          → progress R m trace (suc k) ≡ stopped P k
      stop P c none h = halts R m trace k P c h
      stop P c (some Q) h = absurd (illegal _ _ (subst (FollowsTo R W m least trace (suc k)) (goes_on R m trace k P Q c h) (progress-follows R W m least trace (suc k))).legal)
  arrived L z q (some true) (some index) h = absurd h
  arrived L z q none forbidden h = absurd h

  told-arrives : {said : Values} {σ : State} {sheet : List ℕ} (T : Told R m trace said σ sheet) → Arrived T.entries σ said
  told-arrives {said} T = arrived T.legal said.number T.number said.finished said.forbidden T.says

  -- and the sheet has the same bytes
  told-marks : {said : Values} {σ : State} {sheet : List ℕ} (T : Told R m trace said σ sheet) (a b : ℕ) → a < R.nodes → b < R.nodes
      → get_or sheet (a * R.nodes + b) 0 ≡ cond ((play_of (replayed R m trace)).met a b) 1 0
  unfolding play_of
  told-marks {said} {σ} {sheet} T a b la lb =
      let A = told-arrives T in
      let follows = subst (FollowsTo R W m least trace T.entries) A.came (progress-follows R W m least trace T.entries) in
      go A (follows.marks a b) (truth (A.play.met a b)) ∙ ap (λ (P : Play). cond (P.met a b) 1 0) (sym A.last)
    where
      go : (A : Arrived T.entries σ said) → (A.play.met a b ≡ true → MetBy R m trace T.entries a b) → (A.play.met a b ≡ true) ⊎ (A.play.met a b ≡ false)
          → get_or sheet (a * R.nodes + b) 0 ≡ cond (A.play.met a b) 1 0
      go A marks (inl h) = rw h (T.met a b la lb (marks h))
      go A marks (inr h) = rw h (T.not-met a b la lb (λ M. clash (subst (λ (p : Progress). (play_of p).met a b ≡ true) A.came (met-marked R W m least trace M)) h))

-- bytes that agree in every row agree
rows_same : (n : ℕ) (l r : List ℕ) → ((a b : ℕ) → a < n → b < n → get_or l (a * n + b) 0 ≡ get_or r (a * n + b) 0) → (j : ℕ) → j < n * n → get_or l j 0 ≡ get_or r j 0
rows_same n l r same j h = go (dec_lt 0 n)
  where
    go : Dec (0 < n) → get_or l j 0 ≡ get_or r j 0
    go (yes p) = rw (div-add-mod' j n) at (same (j / n) (j % n) ((div-lt_iff_lt-mul p).1 h) (mod-lt j p))
    go (no p) = let q : n ≡ 0 = omega arith in let z : j < 0 * 0 = rw q at h in absurd (omega arith)

module _ (s : List ℕ) (p : ℕ) (trace : List ℕ) (records : List Thread) (old : List ℕ) where
  abbrev R : Region
  R = region_of p (decode s)

  abbrev m : ℕ
  m = length records

  abbrev refused : Option Refusal
  refused = first_of (replay_rows s p trace m (length old))

  -- What is correct is what the definitions give.
  pub replay-only : (said : Values) (left : List Thread) (new : List ℕ) → ReplayCorrect s p trace records old said left new
      → (said ≡ values_of (replay_answer s p trace m old)) × ((left ≡ records_left s p trace records old) × (new ≡ sheet_left s p trace m old))
  replay-only said left new C = go refused refl
    where
      D : ReplayCorrect s p trace records old (values_of (replay_answer s p trace m old)) (records_left s p trace records old) (sheet_left s p trace m old)
      D = replay-correct s p trace records old

      passed : refused ≡ none → (said ≡ values_of (replay_answer s p trace m old)) × ((left ≡ records_left s p trace records old) × (new ≡ sheet_left s p trace m old))
      passed h =
          let W = admitted-well-formed s p (passed-admitted s p trace m old h) in
          let least = (passed-team s p trace m old h).0 in
          let (σ, (l, T)) = C.replays h in
          let (τ, (k, S)) = D.replays h in
          let A = told-arrives R W m least trace T in
          let B = told-arrives R W m least trace S in
          let same : σ ≡ τ = sym A.same ∙ ap (λ (P : Play). P.state) (sym A.last ∙ B.last) ∙ B.same in
          let at = rows_same R.nodes new (sheet_left s p trace m old) (λ a b la lb. told-marks R W m least trace T a b la lb ∙ sym (told-marks R W m least trace S a b la lb)) in
          (A.gives ∙ sym B.gives, (l ∙ ap (λ (π : State). tab m (record_of π)) same ∙ sym k, ext_get_or 0 new (sheet_left s p trace m old) (C.long ∙ sym D.long) (λ j b. entry h at j (dec_lt j (R.nodes * R.nodes)))))
        where
          entry : refused ≡ none → ((j : ℕ) → j < R.nodes * R.nodes → get_or new j 0 ≡ get_or (sheet_left s p trace m old) j 0) → (j : ℕ) → Dec (j < R.nodes * R.nodes)
              → get_or new j 0 ≡ get_or (sheet_left s p trace m old) j 0
          entry h at j (yes l) = at j l
          entry h at j (no l) = C.rest h j (omega arith) ∙ sym (D.rest h j (omega arith))

      go : (o : Option Refusal) → refused ≡ o → (said ≡ values_of (replay_answer s p trace m old)) × ((left ≡ records_left s p trace records old) × (new ≡ sheet_left s p trace m old))
      go none h = passed h
      go (some row) h = let (x, (y, z)) = C.refuses row h in let (u, (v, w)) = D.refuses row h in (x ∙ sym u, (y ∙ sym v, z ∙ sym w))
