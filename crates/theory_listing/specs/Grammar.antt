-- A listing's bytes as a block, or the refusal that is met first from the left (02, Note 2): 14, a byte missing or with no place in the
-- grammar; 15, depth over 16, counted in open braces.
-- Assumes nothing.
use Rattle.std.specs.Prelude.{Bool, true, false, ◌&&◌, ◌||◌, List, ℕ, zero, suc, ◌+◌, ◌-◌, ltb, eqb, length, get_or}
use Rattle.chart.specs.Scope.{single_byte, master_byte, critical_byte, loop_byte, ordered_byte}
use Rattle.theory_listing.specs.Tree.{Block, end, plain, barrier, loop, branch, around}

-- The bytes of a listing: s, b, l, i, S, M, C, D, O, n and the braces.
abbrev pub plain_letter : ℕ
plain_letter = 115

abbrev pub barrier_letter : ℕ
barrier_letter = 98

abbrev pub loop_letter : ℕ
loop_letter = 108

abbrev pub branch_letter : ℕ
branch_letter = 105

abbrev pub single_letter : ℕ
single_letter = 83

abbrev pub master_letter : ℕ
master_letter = 77

abbrev pub critical_letter : ℕ
critical_letter = 67

abbrev pub do_letter : ℕ
do_letter = 68

abbrev pub ordered_letter : ℕ
ordered_letter = 79

abbrev pub nowait_letter : ℕ
nowait_letter = 110

abbrev pub open_brace : ℕ
open_brace = 123

abbrev pub close_brace : ℕ
close_brace = 125

abbrev pub most_depth : ℕ
most_depth = 16

-- One item. A construct says whether a barrier follows it.
pub data Item : Type 0 where
  one_plain one-barrier : Item
  one-loop : Block → Item
  one-branch : Block → Block → Item
  one-around : ℕ → Bool → Block → Item

-- An item before the rest of its block.
unfoldable pub put : Item → Block → Block
put one_plain r = plain r
put one-barrier r = barrier r
put (one-loop b) r = loop b r
put (one-branch a b) r = branch a b r
put (one-around c true b) r = around c b (barrier r)
put (one-around c false b) r = around c b r

-- What was read, and the place after it; or the number of the refusal at which reading stopped.
pub data Read (A : Type 0) : Type 0 where
  up_to : A → ℕ → Read A
  stopped : ℕ → Read A

-- Reading goes on after what was read, from the place after it.
abbrev pub after : {A B : Type 0} → Read A → (A → ℕ → Read B) → Read B
after (up_to a next) go = go a next
after (stopped number) go = stopped number

abbrev pub pick : {A : Type 0} → Bool → (Unit {0} → A) → (Unit {0} → A) → A
pick true a b = a tt
pick false a b = b tt

-- The byte b stands at a place.
abbrev pub stands : List ℕ → ℕ → ℕ → Bool
stands s at b = ltb at (length s) && eqb (get_or s at 0) b

-- A block in braces at a place, where d more braces may be open; `block` reads a block.
unfoldable pub braced : List ℕ → ℕ → ℕ → (ℕ → ℕ → Read Block) → Read Block
braced s d at block =
    pick (stands s at open_brace)
    (λ u. pick (eqb d 0) (λ u. stopped 15)
    (λ u. after (block (d - 1) (at + 1)) (λ b next. pick (stands s next close_brace) (λ u. up_to b (next + 1)) (λ u. stopped 14))))
    (λ u. stopped 14)

-- The kind of construct that a letter stands for, 0 for none.
unfoldable pub letter_kind : ℕ → ℕ
letter_kind b =
    pick (eqb b single_letter) (λ u. single_byte)
    (λ u. pick (eqb b master_letter) (λ u. master_byte)
    (λ u. pick (eqb b critical_letter) (λ u. critical_byte)
    (λ u. pick (eqb b do_letter) (λ u. loop_byte)
    (λ u. pick (eqb b ordered_letter) (λ u. ordered_byte) (λ u. 0)))))

-- A construct up to its closing brace. A barrier follows S and D, unless n stands after the brace.
unfoldable pub followed : List ℕ → ℕ → Block → ℕ → Read Item
followed s kind b next =
    pick (eqb kind single_byte || eqb kind loop_byte)
    (λ u. pick (stands s next nowait_letter) (λ u. up_to (one-around kind false b) (next + 1)) (λ u. up_to (one-around kind true b) next))
    (λ u. up_to (one-around kind false b) next)

-- The item at a place, where the byte `letter` stands.
unfoldable pub item_by : List ℕ → ℕ → ℕ → ℕ → (ℕ → ℕ → Read Block) → Read Item
item_by s d at letter block =
    pick (eqb letter plain_letter) (λ u. up_to one_plain (at + 1))
    (λ u. pick (eqb letter barrier_letter) (λ u. up_to one-barrier (at + 1))
    (λ u. pick (eqb letter loop_letter) (λ u. after (braced s d (at + 1) block) (λ b next. up_to (one-loop b) next))
    (λ u. pick (eqb letter branch_letter)
    (λ u. after (braced s d (at + 1) block) (λ a next. after (braced s d next block) (λ b next. up_to (one-branch a b) next)))
    (λ u. pick (eqb (letter_kind letter) 0) (λ u. stopped 14)
    (λ u. after (braced s d (at + 1) block) (λ b next. followed s (letter_kind letter) b next))))))

-- Items up to a closing brace or the end. `fuel` bounds the reading, and is enough when it is above the bytes left.
unfoldable pub block_of : ℕ → List ℕ → ℕ → ℕ → Read Block
block_of zero s d at = stopped 0
block_of (suc fuel) s d at =
    pick (ltb at (length s))
    (λ u. pick (eqb (get_or s at 0) close_brace) (λ u. up_to end at)
    (λ u. after (item_by s d at (get_or s at 0) (λ e next. block_of fuel s e next))
    (λ i next. after (block_of fuel s d next) (λ r last. up_to (put i r) last))))
    (λ u. up_to end at)

-- The whole listing: a block that ends where the text does.
unfoldable pub listed : List ℕ → Read Block
listed s = after (block_of (suc (length s)) s most_depth 0) (λ b next. pick (eqb next (length s)) (λ u. up_to b next) (λ u. stopped 14))
