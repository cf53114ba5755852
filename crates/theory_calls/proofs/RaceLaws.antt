-- What is computed of two accesses is what they are to each other, and nothing else is. No finished run that keeps the locks has two threads at a
-- synchronization pair together. How many pairs there are, and where the byte of each stands.
-- Assumes nothing.
use Rattle.std.proofs.Math.Path.{◌≡◌}
use Rattle.std.specs.Prelude.{refl, ◌⊎◌, ◌≢◌, ◌↔◌, Bool, true, false, ◌||◌, not, cond, List, ℕ, ◌+◌, ◌*◌, ◌%◌, ◌-◌, ◌≤◌, ◌<◌, eqb, ltb, length, get_or}
use Rattle.std.proofs.Common.{sym, ◌∙◌, eqb-true, ltb-false}
use Rattle.std.proofs.Math.Logic.{inl, inr}
use native.Mathlib.Omega.{arith}
use Rattle.std.proofs.Math.Decide.{ℕ_discrete}
use Rattle.std.proofs.lemmas.Bool.{not-false}
use Rattle.lists.specs.Truth.{bad, truth, clash, is_true, true-is, or-neither}
use Rattle.lists.specs.Means.{both_of, either-of, not-of, unless, some_of, equal_of}
use Rattle.lists.specs.Range.{any, none_passes}
use Rattle.lists.specs.Rows.{rows-by-length, rows-by-at}
use Rattle.lists.specs.Triangle.{pairs_from, pair_count, pair_place, pairs-all}
use Rattle.chart.specs.Region.{Kind-discrete, critical, Region}
use Rattle.chart.specs.WellFormed.{WellFormed}
use Rattle.theory_paths.specs.Path.{Open}
use Rattle.theory_paths.specs.Connected.{Connected}
use Rattle.theory_answers.specs.Answer.{is_in, answer}
use Rattle.theory_answers.specs.Unexcluded.{In}
use Rattle.theory_answers.specs.Numbers.{bad_number}
use Rattle.theory_team.specs.Run.{Concurrent}
use Rattle.theory_team.specs.Locks.{LockedIn}
use Rattle.theory_exact.proofs.AnsweredLaws.{answer-exact}
use Rattle.theory_exact.specs.Synchronized.{synchronized}
use Rattle.theory_calls.specs.declared.Access.{Access}
use Rattle.theory_calls.specs.Access.{total, access_at, bad_access, bad_accesses}
use Rattle.theory_calls.specs.Races.{share_name, harmless, race_at, race, races}
use Rattle.theory_calls.specs.Race.{NoRace, Racing, CommonName, Race, no_race, synchronization, data-race}

module _ {R : Region} (W : WellFormed R) where
  in-critical : (x c : ℕ) → (is_in R critical x c ≡ true) ↔ In R critical x c
  unfolding is_in
  in-critical x c = both_of (is_true (Kind-discrete (R.kind c) critical), true-is (Kind-discrete (R.kind c) critical)) ((λ h. h), λ h. h)

  -- two criticals around the nodes, of one name
  abbrev Named : ℕ → ℕ → ℕ → ℕ → Type 0
  Named a b c d = (In R critical a c × In R critical b d) × (R.name c ≡ R.name d)

  pub share-named : (a b : ℕ) → (share_name R a b ≡ true) ↔ ((c : ℕ) × ((d : ℕ) × Named a b c d))
  unfolding share_name
  share-named a b = some_of R.constructs _ (λ c. (d : ℕ) × Named a b c d)
      (λ c. some_of R.constructs _ (Named a b c)
      (λ d. both_of (both_of (in-critical a c) (in-critical b d)) (equal_of (R.name c) (R.name d))) (λ d h. W.inside-below h.0.1.1))
      (λ c h. W.inside-below h.1.0.0.1)

  pub share-of : (a b : ℕ) → (share_name R a b ≡ true) ↔ CommonName R a b
  share-of a b = (
    (λ h. let (c, (d, (((k, i), (l, j)), e))) = (share-named a b).0 h in
        (R.name c, (record { construct = c; is-critical = k; of-name = refl; within = i }, record { construct = d; is-critical = l; of-name = sym e; within = j }))),
    λ (name, (x, y)). (share-named a b).1 (x.construct, (y.construct, (((x.is-critical, x.within), (y.is-critical, y.within)), x.of-name ∙ sym y.of-name))),
  )

  module _ (C : Connected R) (i j : Access) where
    -- With locks, no finished run of any team has two threads at the nodes of a synchronization pair together.
    pub race-never : race R i j ≡ 1 → (m : ℕ) → LockedIn R m i.node j.node → ⊥
    unfolding race race_at
    race-never e m L = go (truth (harmless i j)) (truth (not (eqb (answer R i.node j.node) 0))) (truth (share_name R i.node j.node))
      where
        go : (harmless i j ≡ true) ⊎ (harmless i j ≡ false) → (not (eqb (answer R i.node j.node) 0) ≡ true) ⊎ (not (eqb (answer R i.node j.node) 0) ≡ false)
            → (share_name R i.node j.node ≡ true) ⊎ (share_name R i.node j.node ≡ false) → ⊥
        go (inl h) a n = bad (rw h at e)
        go (inr h) (inl a) n = bad (rw (h, a) at e)
        go (inr h) (inr a) (inl n) = let (name, (x, y)) = (share-of i.node j.node).0 n in synchronized W C x y L
        go (inr h) (inr a) (inr n) = let q : ◌≡◌ {A = ℕ} 2 1 = rw (h, a, n) at e in omega arith

    module _ (oi : Open R i.node) (oj : Open R j.node) where
      never-of : (not (eqb (answer R i.node j.node) 0) ≡ true) ↔ (Concurrent R i.node j.node → ⊥)
      never-of =
          let E = answer-exact W C oi oj in
          let Q = equal_of (answer R i.node j.node) 0 in
          not-of ((λ h. E.0 (Q.0 h)), λ M. Q.1 (E.1 M))

      harmless-of : (harmless i j ≡ true) ↔ ((i.variable ≢ j.variable) ⊎ ((i.write ≡ 0) × (j.write ≡ 0)))
      unfolding harmless
      harmless-of = either-of (not-of (equal_of i.variable j.variable)) (both_of (equal_of i.write 0) (equal_of j.write 0))

      racing : harmless i j ≡ false → i.write ≤ 1 → j.write ≤ 1 → not (eqb (answer R i.node j.node) 0) ≡ false → Racing R i j
      unfolding harmless
      racing h wi wj a = (
        unless _ (equal_of i.variable j.variable) (λ d. clash (harmless-of.1 (inl d)) h),
        (writes (ℕ_discrete i.write 1) (ℕ_discrete j.write 1), (answer-exact W C oi oj).0 (eqb-true _ 0 (not-false _ a))),
      )
        where
          writes : Dec (i.write ≡ 1) → Dec (j.write ≡ 1) → (i.write ≡ 1) ⊎ (j.write ≡ 1)
          writes (yes p) q = inl p
          writes (no p) (yes q) = inr q
          writes (no p) (no q) = absurd (clash (harmless-of.1 (inr (omega arith, omega arith))) h)

      -- What is computed is what they are to each other.
      pub race-is : i.write ≤ 1 → j.write ≤ 1 → Race R i j (race R i j)
      unfolding race race_at
      race-is wi wj = go (truth (harmless i j)) (truth (not (eqb (answer R i.node j.node) 0))) (truth (share_name R i.node j.node))
        where
          go : (harmless i j ≡ true) ⊎ (harmless i j ≡ false) → (not (eqb (answer R i.node j.node) 0) ≡ true) ⊎ (not (eqb (answer R i.node j.node) 0) ≡ false)
              → (share_name R i.node j.node ≡ true) ⊎ (share_name R i.node j.node ≡ false)
              → Race R i j (cond (harmless i j) 0 (cond (not (eqb (answer R i.node j.node) 0)) 0 (cond (share_name R i.node j.node) 1 2)))
          go (inl h) a n = rw h (no_race (elim (harmless-of.0 h) [ inl d ↦ inl d | inr r ↦ inr (inl r) ]))
          go (inr h) (inl a) n = rw (h, a) (no_race (inr (inr (never-of.0 a))))
          go (inr h) (inr a) (inl n) = rw (h, a, n) (synchronization (racing h wi wj a) ((share-of i.node j.node).0 n))
          go (inr h) (inr a) (inr n) = rw (h, a, n) (data-race (racing h wi wj a) (λ c. clash ((share-of i.node j.node).1 c) n))

module _ {R : Region} {i j : Access} where
  no-racing : NoRace R i j → Racing R i j → ⊥
  no-racing (inl d) r = d r.0
  no-racing (inr (inl (p, q))) r = elim r.1.0 [ inl w ↦ omega arith | inr w ↦ omega arith ]
  no-racing (inr (inr n)) r = n r.1.1

  -- Nothing else is.
  pub race-only : {k l : ℕ} → Race R i j k → Race R i j l → k ≡ l
  race-only (no_race n) (no_race m) = refl
  race-only (no_race n) (synchronization r c) = absurd (no-racing n r)
  race-only (no_race n) (data-race r f) = absurd (no-racing n r)
  race-only (synchronization r c) (no_race n) = absurd (no-racing n r)
  race-only (synchronization r c) (synchronization q d) = refl
  race-only (synchronization r c) (data-race q f) = absurd (f c)
  race-only (data-race r f) (no_race n) = absurd (no-racing n r)
  race-only (data-race r f) (synchronization q c) = absurd (f c)
  race-only (data-race r f) (data-race q g) = refl

  -- A possible data race is a pair of accesses to one variable, a write among them, at nodes that are concurrent and have no name in common.
  pub data-racing : {k : ℕ} → Race R i j k → (k ≡ 2) ↔ (Racing R i j × (CommonName R i.node j.node → ⊥))
  data-racing r = (from r, λ (q, f). race-only r (data-race q f))
    where
      from : {k : ℕ} → Race R i j k → k ≡ 2 → Racing R i j × (CommonName R i.node j.node → ⊥)
      from (no_race n) e = absurd (omega arith)
      from (synchronization q c) e = absurd (omega arith)
      from (data-race q f) e = (q, f)

module _ (R : Region) (list : List ℕ) where
  abbrev bads : Bool
  bads = any (total list) (λ i. bad_access R (access_at list i))

  passed : bad_accesses R list ≡ false → (length list % 4 ≡ 0) × ((total list ≤ 1024) × (bads ≡ false))
  unfolding bad_accesses
  passed h =
      let (whole, rest) = or-neither (not (eqb (length list % 4) 0)) (ltb 1024 (total list) || bads) h in
      let (few, none) = or-neither (ltb 1024 (total list)) bads rest in
      (eqb-true (length list % 4) 0 (not-false _ whole), (ltb-false 1024 (total list) few, none))

  -- a list that row 20 lets pass: whole records, at most 1,024
  pub whole-accesses : bad_accesses R list ≡ false → length list ≡ 4 * total list
  unfolding total
  whole-accesses h = omega (arith, (passed h).0)

  pub few-accesses : bad_accesses R list ≡ false → total list ≤ 1024
  few-accesses h = (passed h).1.0

  -- and each of them a read or a write at a node that row 13 lets pass
  pub good-access : bad_accesses R list ≡ false → (i : ℕ) → i < total list → ((access_at list i).write ≤ 1) × (bad_number R (access_at list i).node ≡ false)
  unfolding bad_access
  good-access h i l =
      let (w, n) = or-neither (ltb 1 (access_at list i).write) _ (none_passes (total list) (λ i. bad_access R (access_at list i)) (passed h).1.1 i l) in
      (ltb-false 1 _ w, n)

  -- n accesses have n * (n + 1) / 2 pairs
  pub races-length : length (races R list) ≡ pair_count (total list)
  unfolding races
  races-length = rows-by-length (pairs_from (total list)) (λ i k. race R (access_at list i) (access_at list (i + k))) (total list) ∙ pairs-all (total list)

  pub races-at : (i j : ℕ) → i ≤ j → j < total list → get_or (races R list) (pair_place (total list) i j) 0 ≡ race R (access_at list i) (access_at list j)
  unfolding races pair_place
  races-at i j l m =
      let q : i + (j - i) ≡ j = omega arith in
      rw q at (rows-by-at (pairs_from (total list)) (λ i k. race R (access_at list i) (access_at list (i + k))) (total list) i (j - i) (omega arith) (omega arith))
