-- The bytes of a list's pairs: what row 20 leaves of its accesses, and that lines make the bytes.
-- Assumes nothing.
use mathlib.Core.Path.{◌≡◌, refl, ap, ◌∙◌}
use mathlib.Core.Bool.{true, false}
use mathlib.Core.List.{List, ◌++◌}
use Prim.Native.Nat.{ℕ, zero, suc, ◌+◌, ◌*◌, ◌≤◌, ◌<◌}
use native.Mathlib.Omega.{arith}
use native.Mathlib.Decide.{dec_lt}
use lib.ListN.{length, get_or, get_or-eq_default}
use borrow.Author.Tests.{not-false}
use Rattle.lists.specs.Tab.{tab, tab-at, tab-length}
use Rattle.lists.specs.Rows.{rows_by}
use Rattle.lists.specs.Triangle.{pairs_from}
use Rattle.chart.specs.Region.{Region}
use Rattle.chart.specs.WellFormed.{WellFormed}
use Rattle.theory_answers.specs.Numbers.{asked, bad_number, good-number}
use Rattle.mark_tables.specs.Tables.{Closed}
use Rattle.answer_constructs.specs.Marks.{Marks}
use Rattle.answer_constructs.specs.declared.mask_table.MaskTable.{MaskTable}
use Rattle.answer_pairs.specs.Rules.{profile_at}
use Rattle.theory_calls.specs.Access.{total, access_at, bad_accesses}
use Rattle.theory_calls.specs.Races.{race, races}
use Rattle.theory_calls.proofs.RaceLaws.{whole-accesses, good-access}
use Rattle.answer_names.specs.Names.{Names}
use Rattle.answer_races.specs.declared.rows.Line.{Line}
use Rattle.answer_races.specs.Bytes.{line_at, by_line}
use Rattle.answer_races.proofs.Filled.{filled-tab}
use Rattle.answer_races.specs.Lines.{LineOf}
use Rattle.answer_races.specs.PairsLines.{line_byte}
use Rattle.answer_races.proofs.LineRace.{line-race}

tab-same : (n : ℕ) (f g : ℕ → ℕ) → ((k : ℕ) → k < n → f k ≡ g k) → tab n f ≡ tab n g
tab-same n f g h = filled-tab g n (tab n f) (tab-length n f) (λ k l. tab-at n f 0 k l ∙ h k l)

rows_same : (n : ℕ → ℕ) (f g : ℕ → ℕ → ℕ) (k : ℕ) → ((a b : ℕ) → a < k → b < n a → f a b ≡ g a b) → rows_by n f k ≡ rows_by n g k
unfolding rows_by
rows_same n f g zero h = refl
rows_same n f g (suc k) h =
    ap (λ (l : List ℕ). l ++ tab (n k) (f k)) (rows_same n f g k (λ a b l m. h a b (omega arith) m))
    ∙ ap (λ (l : List ℕ). rows_by n g k ++ l) (tab-same (n k) (f k) (g k) (λ b m. h k b (omega arith) m))

module _ (R : Region) (list : List ℕ) (W : WellFormed R) (good : bad_accesses R list ≡ false) where
  -- the nodes of a list that row 20 lets pass are nodes of the region, and its write bytes are 0 or 1; past the list's end stands 0
  pub fields_fit : 0 < R.nodes → (j : ℕ) → ((access_at list j).node < R.nodes) × ((access_at list j).write ≤ 1)
  unfolding access_at
  fields_fit some j = go (dec_lt j (total list))
    where
      go : Dec (j < total list) → (get_or list (4 * j) 0 < R.nodes) × (get_or list (4 * j + 1) 0 ≤ 1)
      go (yes l) = ((good-number R _ W (good-access R list good j l).1).0, (good-access R list good j l).0)
      go (no l) =
          let node : length list ≤ 4 * j = omega (arith, whole-accesses R list good) in
          let write : length list ≤ 4 * j + 1 = omega arith in
          (omega (arith, get_or-eq_default list 0 node), omega (arith, get_or-eq_default list 0 write))

  -- and claims may name them
  named : (j : ℕ) → j < total list → ((access_at list j).node < R.nodes) × (asked R (access_at list j).node ≡ true)
  unfolding bad_number
  named j l = let h = (good-access R list good j l).1 in ((good-number R _ W h).0, not-false _ h)

  module _ {closed : List ℕ} {kinds : List ℕ} {marks : MaskTable} {names : List ℕ} (lines : List Line) (M : Marks R marks kinds) (C : Closed R closed) (N : Names R names)
      (L : (a : ℕ) → a < R.nodes → get_or closed a 0 ≡ 0 → LineOf closed marks names (profile_at marks a) (get_or names a 0) (line_at lines a)) where
    pair-byte : (i k : ℕ) → i < total list → i + k < total list → line_byte lines list i k ≡ race R (access_at list i) (access_at list (i + k))
    unfolding by_line race
    pair-byte i k l m =
        let (la, ka) = named i l in
        let (lb, kb) = named (i + k) m in
        let flag : get_or closed (access_at list i).node 0 ≡ 0 = rw (C.at _ la, ka) in
        rw (line-race M (access_at list i).node (access_at list (i + k)).node la lb C N kb (L _ la flag))

    pub all-pairs : rows_by (pairs_from (total list)) (line_byte lines list) (total list) ≡ races R list
    unfolding races
    all-pairs = rows_same (pairs_from (total list)) _ _ (total list) (λ i k l m. pair-byte i k l (omega arith))
