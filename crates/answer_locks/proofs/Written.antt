-- The bytes that are put are the call's result.
-- Assumes nothing.
use mathlib.Core.Path.{◌≡◌, sym, ap, subst, ◌∙◌}
use mathlib.Core.Bool.{false}
use mathlib.Core.List.{List, ◌++◌}
use Prim.Native.Nat.{ℕ, ◌≤◌, ◌<◌}
use native.Mathlib.Omega.{arith}
use lib.ListN.{length, drop, replicate}
use borrow.Author.Tests.{eqb-true, eq-eqb, ne_eqb}
use Rattle.lists.specs.Truth.{same_truth, clash}
use Rattle.lists.specs.Mask.{has-none}
use Rattle.lists.specs.Tab.{tab-length, filled-front}
use Rattle.lists.specs.Bits.{has}
use Rattle.lists.specs.Store.{zeros}
use Rattle.chart.specs.Format.{decode}
use Rattle.chart.specs.Region.{critical, Region}
use Rattle.chart.specs.Scope.{critical_byte}
use Rattle.chart.specs.Refusal.{any_of}
use Rattle.chart.specs.Checked.{reading}
use Rattle.chart.specs.declared.format.Chart.{Chart}
use Rattle.chart.proofs.Kept.{inside-kept}
use Rattle.chart.proofs.Constructs.{kind-occurs}
use Rattle.chart.proofs.Reading.{begin}
use Rattle.chart.proofs.Records.{nodes-length, constructs-length}
use Rattle.chart.proofs.RegionFacts.{Counts}
use Rattle.chart.proofs.Tables.{lies}
use Rattle.theory_answers.specs.Numbers.{node-asked}
use Rattle.theory_answers.specs.declared.Size.{Size}
use Rattle.theory_exact.specs.Constructs.{inside-open}
use Rattle.theory_calls.specs.Locks.{is_critical, lock_byte, locks_result}
use Rattle.theory_calls.proofs.LocksLaws.{critical-of}
use Rattle.mark_tables.specs.Tables.{Accepted, Closed}
use Rattle.mark_tables.proofs.Accepted.{tables}
use Rattle.answer_constructs.specs.Marks.{Sized, Marks}
use Rattle.answer_constructs.specs.declared.kinds.Sets.{Sets}
use Rattle.answer_constructs.proofs.Constructs.{no-bit}
use Rattle.answer_constructs.proofs.Facts.{few, is_read}
use Rattle.answer_constructs.specs.declared.mask_table.MaskTable.{MaskTable}
use Rattle.answer_names.specs.Names.{Given, Spread, Criticals, InCriticals}
use Rattle.answer_names.proofs.Peers.{critical-byte, spread-names}
use Rattle.answer_locks.specs.Fitting.{Fitting}
use Rattle.answer_locks.specs.Search.{Searched}
use Rattle.answer_locks.specs.Bytes.{byte_by, Put}
use Rattle.answer_locks.specs.declared.needed.Tried.{Tried}
use Rattle.answer_locks.proofs.Needs.{InsideAsked, byte-by}

module _ (s : List ℕ) (chart : Chart) (A : Accepted s chart) where
  abbrev R : Region
  R = reading s chart

  critical-bit : {criticals : ℕ} → Criticals R (Counts (decode s) chart.region) criticals → (c : ℕ) → c < R.constructs → is_critical R c ≡ has criticals c
  critical-bit {criticals} K c l = same_truth _ _
      (λ h. let (k, o) = (critical-of R c).0 h in eq-eqb _ 1 (K.all c l ((is_read s chart A).marks-counts begin c o, k)))
      (λ h. let (n, k) = K.only c l (eqb-true _ 1 h) in (critical-of R c).1 (k, (is_read s chart A).framed begin c n))

  -- the front is the result, where each byte is by masks
  front-put : (size : Size) {criticals ever needed : ℕ} {old new : List ℕ} → ((c : ℕ) → c < R.constructs → lock_byte R size c ≡ byte_by criticals ever needed c)
      → chart.constructs ≤ length old → Put criticals ever needed chart.constructs old new → new ≡ locks_result R size ++ drop (length (locks_result R size)) old
  unfolding locks_result
  front-put size {old = old} {new = new} by room P =
      let n = constructs-length s chart A.laid in
      filled-front R.constructs (lock_byte R size) old new (omega arith) P.long (λ c l. P.at c (omega arith) ∙ sym (by c l)) (λ c l. P.past c (omega arith))
      ∙ ap (λ (k : ℕ). locks_result R size ++ drop k old) (sym (tab-length R.constructs (lock_byte R size)))

  -- without a critical each byte says so
  pub none-put : any_of (decode s).constructs critical_byte ≡ false → (size : Size) {old new : List ℕ} → chart.constructs ≤ length old
      → Put 0 0 0 chart.constructs old new → new ≡ locks_result R size ++ drop (length (locks_result R size)) old
  unfolding lock_byte byte_by
  none-put none size = front-put size other
    where
      no-critical : (c : ℕ) → c < R.constructs → R.kind c ≡ critical → ⊥
      no-critical c l k = clash (kind-occurs (decode s).constructs c critical_byte (omega arith) (eq-eqb _ critical_byte (critical-byte s chart A c l k))) none

      other : (c : ℕ) → c < R.constructs → lock_byte R size c ≡ byte_by 0 0 0 c
      other c l = rw (critical-bit (no-bit (λ d m h. no-critical d m h.1)) c l, ne_eqb _ 1 (has-none c))

  module _ {marks : MaskTable} {kinds : List ℕ} {sets : Sets} (M : Marks R marks kinds) (size : Size) (Z : Sized R size sets) {closed shut : List ℕ} (C : Closed R closed)
      (F : Fitting chart.nodes sets marks.held closed shut) {given names around : List ℕ} (G : Given R (Counts (decode s) chart.region) given)
      (T : Spread R (lies (decode s)) given (replicate 192 0) names) (I : InCriticals R around) {found : Tried} (S : Searched shut marks names around chart.nodes found) where
    inside-asked : InsideAsked R
    inside-asked x c i = node-asked R x (inside-kept (decode s) (tables s chart A) chart.region x c i, inside-open M.well-formed i)

    pub locks-put : {criticals : ℕ} → Criticals R (Counts (decode s) chart.region) criticals → {old new : List ℕ} → chart.constructs ≤ length old
        → Put criticals found.ever found.needed chart.constructs old new → new ≡ locks_result R size ++ drop (length (locks_result R size)) old
    locks-put {criticals} K =
        let q = nodes-length s chart A.laid in
        let fits = subst (λ (n : ℕ). Fitting n sets marks.held closed shut) (sym q) F in
        let searched = subst (λ (n : ℕ). Searched shut marks names around n found) (sym q) S in
        front-put size (byte-by M size Z C fits names inside-asked (spread-names s chart A G T) (λ y b. T.past y b ∙ zeros 192 y) I searched criticals (critical-bit K) (few s chart A))
