-- More edges only loosen (02, Note 8), said of what Pair and Sheet return, without a team size and with one: a never of the larger chart is one of
-- the smaller, and 255 stands in both sheets at the same places. Judge is in proofs/MoreEdges.antt.
-- Assumes nothing.
use Rattle.std.specs.Prelude.{◌≡◌, refl, ◌⊎◌, ◌≢◌, ◌↔◌, true, false, List, ◌∷◌, ℕ, zero, suc, ◌+◌, ◌*◌, ◌<◌, ℤ, pos, neg_ℤ, length, get_or}
use Rattle.std.proofs.Common.{sym, ◌∙◌, inl, inr, arith}
use Rattle.std.proofs.Math.Option.{Option, none, some}
use Rattle.lists.specs.Truth.{bad, truth, clash}
use Rattle.chart.specs.Format.{decode}
use Rattle.chart.specs.Region.{Region}
use Rattle.chart.specs.Reading.{region_of}
use Rattle.chart.specs.Refusal.{first_of, row_number}
use Rattle.chart.proofs.Rows.{second-decides, both-pass}
use Rattle.theory_paths.specs.Admission.{region_rows, Admitted}
use Rattle.theory_answers.proofs.SizeLaws.{answer-number}
use Rattle.theory_answers.specs.Numbers.{Asked, asked, asked-node, node-asked, bad_number}
use Rattle.theory_answers.specs.Size.{size_rows}
use Rattle.theory_answers.specs.MoreEdges.{MoreEdges, Widens}
use Rattle.theory_answers.proofs.MoreEdgesLaws.{kept_for, same_asked, widens, smaller-in}
use Rattle.theory_answers.specs.declared.Size.{Size}
use Rattle.output.specs.Output.{output_rows}
use Rattle.theory_calls.specs.Pair.{numbers_row, pair_rows_for}
use Rattle.theory_calls.specs.AnswersCorrect.{PairCorrectFor, SheetBytes, SheetCorrectFor}
use Rattle.chart.specs.declared.format.Refusal.{Refusal}

-- The number says never: it is a rule's.
abbrev pub Never : ℤ → Type 0
Never number = (k : ℕ) × ((number ≡ pos k) × (k ≢ 0))

-- no refusal says so
pub refused-not : (row k : ℕ) → neg_ℤ (pos row) ≡ pos k → k ≢ 0 → ⊥
refused-not zero k e n = n (sym (cc))
refused-not (suc row) k e n = bad (cc)

-- row 13 does not depend on edges
same_numbers : {R S : Region} → Widens R S → (a b : ℕ) → numbers_row S a b ≡ numbers_row R a b
unfolding numbers_row bad_number
same_numbers X a b = rw (same_asked X a, same_asked X b)

module _ (s t : List ℕ) (p : ℕ) (M : MoreEdges (decode s) (decode t)) (size : Size) where
  smaller-asked : Admitted s → (a b : ℕ) → first_of (pair_rows_for t p size a b) ≡ none → first_of (pair_rows_for s p size a b) ≡ none
  unfolding pair_rows_for
  smaller-asked smaller a b h =
      let (larger, asked) = both-pass (region_rows t p) (numbers_row (region_of p (decode t)) a b ∷ size_rows size) h in
      second-decides (region_rows s p) (numbers_row (region_of p (decode s)) a b ∷ size_rows size) (smaller-in s t p smaller larger M)
      ∙ rw (same_numbers (widens M p) a b) at asked

  -- Whatever numbers are right for the two, a never for the larger is a never for the smaller.
  pub pair-loosens : Admitted s → (a b : ℕ) (m n : ℤ) → PairCorrectFor t p size a b m → PairCorrectFor s p size a b n → Never m → Never n
  pair-loosens smaller a b m n C D (j, (e, some-rule)) = go (first_of (pair_rows_for t p size a b)) refl
    where
      go : (o : Option Refusal) → first_of (pair_rows_for t p size a b) ≡ o → Never n
      go (some row) h = absurd (refused-not (row_number row) j (sym (C.refuses row h) ∙ e) some-rule)
      go none h =
          let (k, (q, A)) = C.answers h in
          let (l, (r, B)) = D.answers (smaller-asked smaller a b h) in
          let same : k ≡ j = cc in
          (l, (r, kept_for (widens M p) size a b A B (λ z. some-rule (sym same ∙ z))))

-- Entries x of the larger sheet and y of the smaller: a never stays a never, and 255 stands where 255 stands.
abbrev pub Looser : ℕ → ℕ → Type 0
Looser x y = (x ≢ 0 → y ≢ 0) × ((x ≡ 255) ↔ (y ≡ 255))

module _ {R S : Region} (X : Widens R S) {size : Size} {larger smaller : List ℕ} (L : SheetBytes S size larger) (B : SheetBytes R size smaller) where
  looser-at : (a b : ℕ) → a < R.nodes → b < R.nodes → Looser (get_or larger (a * S.nodes + b) 0) (get_or smaller (a * R.nodes + b) 0)
  looser-at a b la lb = go (truth (asked R a)) (truth (asked R b))
    where
      named : (x : ℕ) → Asked S x → Asked R x
      named x h = asked-node R x (sym (same_asked X x) ∙ node-asked S x h)

      barred : (Asked R a × Asked R b → ⊥) → Looser (get_or larger (a * S.nodes + b) 0) (get_or smaller (a * R.nodes + b) 0)
      barred f =
          let x : get_or larger (a * S.nodes + b) 0 ≡ 255 = L.barriers a b (rw X.nodes la) (rw X.nodes lb) (λ h. f (named a h.0, named b h.1)) in
          let y : get_or smaller (a * R.nodes + b) 0 ≡ 255 = B.barriers a b la lb f in
          ((λ n z. omega arith), ((λ q. y), λ q. x))

      go : (asked R a ≡ true) ⊎ (asked R a ≡ false) → (asked R b ≡ true) ⊎ (asked R b ≡ false)
          → Looser (get_or larger (a * S.nodes + b) 0) (get_or smaller (a * R.nodes + b) 0)
      go (inr p) q = barred (λ h. clash (node-asked R a h.0) p)
      go (inl p) (inr q) = barred (λ h. clash (node-asked R b h.1) q)
      go (inl p) (inl q) =
          let l = L.answers a b (asked-node S a (same_asked X a ∙ p)) (asked-node S b (same_asked X b ∙ q)) in
          let m = B.answers a b (asked-node R a p) (asked-node R b q) in
          (kept_for X size a b l m, ((λ e. absurd (answer-number S a b size l e)), λ e. absurd (answer-number R a b size m e)))

-- Sheet writes to bytes of this length.
abbrev pub Writes : List ℕ → ℕ → Size → ℕ → Type 0
Writes s p size room = let R = region_of p (decode s) in first_of (output_rows (region_rows s p) room (R.nodes * R.nodes) (size_rows size)) ≡ none

-- Whatever bytes are right for the two, entry a * n + b of the smaller is as loose as that of the larger, or less.
pub sheet-loosens : (s t : List ℕ) (p : ℕ) → MoreEdges (decode s) (decode t) → (size : Size) (room lent larger smaller : List ℕ) (m k : ℤ)
    → SheetCorrectFor t p size room m larger → SheetCorrectFor s p size lent k smaller → Writes t p size (length room) → Writes s p size (length lent)
    → let n = length (decode s).nodes in (a b : ℕ) → a < n → b < n → Looser (get_or larger (a * n + b) 0) (get_or smaller (a * n + b) 0)
sheet-loosens s t p M size room lent larger smaller m k C D wide narrow a b la lb =
    rw M.nodes at (looser-at (widens M p) (C.writes wide).1 (D.writes narrow).1 a b la lb)
