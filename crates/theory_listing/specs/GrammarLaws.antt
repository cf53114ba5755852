-- What the grammar reads: blocks of 01's kinds, up to a place in the text; and reading stops with 14 or 15 alone.
-- Assumes nothing.
use Rattle.std.specs.Prelude.{◌≡◌, refl, ◌⊎◌, Bool, true, false, ◌||◌, List, ltb, length, get_or}
use Rattle.std.proofs.Math.Logic.{inl, inr}
use Prim.Native.Nat.{ℕ, zero, suc, ◌+◌, ◌-◌, ◌≤◌, ◌<◌}
use native.Mathlib.Omega.{arith}
use Rattle.std.proofs.Math.Dec.{eqb}
use borrow.Author.Tests.{ltb-true, eqb-true}
use Rattle.lists.specs.Truth.{bad, and_both}
use Rattle.chart.specs.Scope.{single_byte, loop_byte, ordered_byte}
use Rattle.chart_writing.specs.Every.{All, joined}
use Rattle.theory_listing.specs.Tree.{Block, end, plain, barrier, loop, branch, around, construct_count, Part, constructs}
use Rattle.theory_listing.specs.Grammar.{plain_letter, barrier_letter, loop_letter, branch_letter, single_letter, master_letter, critical_letter, do_letter, ordered_letter, nowait_letter, open_brace, close_brace, most_depth, Item, one_plain, one-barrier, one-loop, one-branch, one-around, put, Read, up_to, stopped, after, pick, stands, braced, letter_kind, followed, item_by, block_of, listed}

-- A kind that a letter stands for: those of 01.
abbrev pub Letter : ℕ → Type 0
Letter kind = (single_byte ≤ kind) × (kind ≤ ordered_byte)

abbrev pub Kinds : Block → Type 0
Kinds end = Unit {0}
Kinds (plain r) = Kinds r
Kinds (barrier r) = Kinds r
Kinds (loop b r) = Kinds b × Kinds r
Kinds (branch a b r) = Kinds a × (Kinds b × Kinds r)
Kinds (around c b r) = Letter c × (Kinds b × Kinds r)

abbrev pub ItemKinds : Item → Type 0
ItemKinds one_plain = Unit {0}
ItemKinds one-barrier = Unit {0}
ItemKinds (one-loop b) = Kinds b
ItemKinds (one-branch a b) = Kinds a × Kinds b
ItemKinds (one-around c followed b) = Letter c × Kinds b

put-kinds : (i : Item) (r : Block) → ItemKinds i → Kinds r → Kinds (put i r)
unfolding put
put-kinds one_plain r h g = g
put-kinds one-barrier r h g = g
put-kinds (one-loop b) r h g = (h, g)
put-kinds (one-branch a b) r h g = (h.0, (h.1, g))
put-kinds (one-around c true b) r h g = (h.0, (h.1, g))
put-kinds (one-around c false b) r h g = (h.0, (h.1, g))

abbrev pub OfLetter : Part → Type 0
OfLetter p = Letter p.kind

pub kinds-constructs : (b : Block) (o m : ℕ) → Kinds b → All OfLetter (constructs b o m)
unfolding constructs
kinds-constructs end o m h = tt
kinds-constructs (plain r) o m h = kinds-constructs r o m h
kinds-constructs (barrier r) o m h = kinds-constructs r o m h
kinds-constructs (loop b r) o m h = joined OfLetter (constructs b o m) _ (kinds-constructs b o m h.0) (kinds-constructs r o (m + construct_count b) h.1)
kinds-constructs (branch a b r) o m h =
    let second = kinds-constructs b o (m + construct_count a) h.1.0 in
    let rest = kinds-constructs r o (m + construct_count a + construct_count b) h.1.1 in
    joined OfLetter (constructs a o m) _ (kinds-constructs a o m h.0) (joined OfLetter (constructs b o (m + construct_count a)) _ second rest)
kinds-constructs (around c b r) o m h =
    (h.0, joined OfLetter (constructs b m (suc m)) _ (kinds-constructs b m (suc m) h.1.0) (kinds-constructs r o (suc m + construct_count b) h.1.1))

-- What was read is of the kind P and ends between two places; or reading stopped with 14 or 15.
abbrev pub Fine : {A : Type 0} → (A → Type 0) → ℕ → ℕ → Read A → Type 0
Fine P low high (up_to a next) = P a × ((low ≤ next) × (next ≤ high))
Fine P low high (stopped number) = (number ≡ 14) ⊎ (number ≡ 15)

after-fine : {A B : Type 0} (P : A → Type 0) (Q : B → Type 0) (low from high : ℕ) (r : Read A) (go : A → ℕ → Read B) → Fine P low high r
    → ((a : A) (next : ℕ) → P a → low ≤ next → next ≤ high → Fine Q from high (go a next)) → Fine Q from high (after r go)
after-fine P Q low from high (up_to a next) go h f = f a next h.0 h.1.0 h.1.1
after-fine P Q low from high (stopped number) go h f = h

pick-by : {A : Type 0} (P : A → Type 0) (b : Bool) (f g : Unit {0} → A) → (b ≡ true → P (f tt)) → (b ≡ false → P (g tt)) → P (pick b f g)
pick-by P true f g h k = h refl
pick-by P false f g h k = k refl

abbrev Known : ℕ → Type 0
Known kind = eqb kind 0 ≡ false → Letter kind

letter-kind : (b : ℕ) → Known (letter_kind b)
unfolding letter_kind
letter-kind b =
    pick-by Known (eqb b single_letter) _ _ (λ q h. (omega arith, omega arith)) (λ q.
    pick-by Known (eqb b master_letter) _ _ (λ q h. (omega arith, omega arith)) (λ q.
    pick-by Known (eqb b critical_letter) _ _ (λ q h. (omega arith, omega arith)) (λ q.
    pick-by Known (eqb b do_letter) _ _ (λ q h. (omega arith, omega arith)) (λ q.
    pick-by Known (eqb b ordered_letter) _ _ (λ q h. (omega arith, omega arith)) (λ q h. absurd (bad (cc)))))))

module _ (s : List ℕ) where
  stands-below : (at b : ℕ) → stands s at b ≡ true → at < length s
  stands-below at b h = ltb-true _ _ (and_both (ltb at (length s)) _ h).0

  -- a block that is read past a place
  abbrev pub Reads : ℕ → (ℕ → ℕ → Read Block) → Type 0
  Reads at block = (d next : ℕ) → at < next → next ≤ length s → Fine Kinds next (length s) (block d next)

  pub braced-fine : (d at : ℕ) (block : ℕ → ℕ → Read Block) → Reads at block → Fine Kinds (suc at) (length s) (braced s d at block)
  unfolding braced
  braced-fine d at block h =
      let P = Fine Kinds (suc at) (length s) in
      pick-by P (stands s at open_brace) _ _
      (λ q. pick-by P (eqb d 0) _ _ (λ z. inr refl)
      (λ z. let low = stands-below at open_brace q in
      after-fine Kinds Kinds (at + 1) (suc at) (length s) (block (d - 1) (at + 1)) _ (h (d - 1) (at + 1) (omega arith) (omega arith))
      (λ b next k l u. pick-by P (stands s next close_brace) _ _ (λ c. let up = stands-below next close_brace c in (k, (omega arith, omega arith))) (λ c. inl refl))))
      (λ q. inl refl)

  followed-fine : (kind : ℕ) (b : Block) (from next : ℕ) → Letter kind → Kinds b → from ≤ next → next ≤ length s
      → Fine ItemKinds from (length s) (followed s kind b next)
  unfolding followed
  followed-fine kind b from next k h l u =
      let P = Fine ItemKinds from (length s) in
      pick-by P (eqb kind single_byte || eqb kind loop_byte) _ _
      (λ q. pick-by P (stands s next nowait_letter) _ _ (λ c. let up = stands-below next nowait_letter c in ((k, h), (omega arith, omega arith))) (λ c. ((k, h), (l, u))))
      (λ q. ((k, h), (l, u)))

  pub item-fine : (d at letter : ℕ) (block : ℕ → ℕ → Read Block) → at < length s → ((from : ℕ) → at ≤ from → Reads from block)
      → Fine ItemKinds (suc at) (length s) (item_by s d at letter block)
  unfolding item_by
  item-fine d at letter block low h =
      let P = Fine ItemKinds (suc at) (length s) in
      let body = braced-fine d (at + 1) block (h (at + 1) (omega arith)) in
      pick-by P (eqb letter plain_letter) _ _ (λ q. (tt, (omega arith, omega arith))) (λ q.
      pick-by P (eqb letter barrier_letter) _ _ (λ q. (tt, (omega arith, omega arith))) (λ q.
      pick-by P (eqb letter loop_letter) _ _ (λ q. after-fine Kinds ItemKinds _ (suc at) (length s) (braced s d (at + 1) block) _ body (λ b next k l u. (k, (omega arith, u)))) (λ q.
      pick-by P (eqb letter branch_letter) _ _
      (λ q. after-fine Kinds ItemKinds _ (suc at) (length s) (braced s d (at + 1) block) _ body
      (λ a next k l u. after-fine Kinds ItemKinds _ (suc at) (length s) (braced s d next block) _ (braced-fine d next block (h next (omega arith)))
      (λ b last j m w. ((k, j), (omega arith, w))))) (λ q.
      pick-by P (eqb (letter_kind letter) 0) _ _ (λ z. inl refl)
      (λ z. after-fine Kinds ItemKinds _ (suc at) (length s) (braced s d (at + 1) block) _ body
      (λ b next k l u. followed-fine (letter_kind letter) b (suc at) next (letter-kind letter z) k (omega arith) u))))))

  pub block-fine : (fuel d at : ℕ) → at ≤ length s → length s - at < fuel → Fine Kinds at (length s) (block_of fuel s d at)
  unfolding block_of
  block-fine zero d at l e = absurd (omega arith)
  block-fine (suc fuel) d at l e =
      let P = Fine Kinds at (length s) in
      let rest : Reads at (λ d next. block_of fuel s d next) = λ d next a b. block-fine fuel d next b (omega arith) in
      pick-by P (ltb at (length s)) _ _
      (λ q. let low = ltb-true at (length s) q in
      pick-by P (eqb (get_or s at 0) close_brace) _ _ (λ z. (tt, (omega arith, l)))
      (λ z. after-fine ItemKinds Kinds (suc at) at (length s) (item_by s d at (get_or s at 0) (λ e next. block_of fuel s e next)) _
      (item-fine d at (get_or s at 0) (λ e next. block_of fuel s e next) low (λ from g d next a b. rest d next (omega arith) b))
      (λ i next k m u. after-fine Kinds Kinds next at (length s) (block_of fuel s d next) _ (rest d next (omega arith) u)
      (λ r last j v w. (put-kinds i r k j, (omega arith, w))))))
      (λ q. (tt, (omega arith, l)))

  pub listed-fine : Fine Kinds (length s) (length s) (listed s)
  unfolding listed
  listed-fine =
      after-fine Kinds Kinds 0 (length s) (length s) (block_of (suc (length s)) s most_depth 0) _ (block-fine (suc (length s)) most_depth 0 (omega arith) (omega arith))
      (λ b next k l u. pick-by (Fine Kinds (length s) (length s)) (eqb next (length s)) _ _ (λ q. let e = eqb-true next (length s) q in (k, (omega arith, u))) (λ q. inl refl))
