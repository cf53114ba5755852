-- The table that spreads the bits of a byte, eight numbers by it, and their covers.
-- Assumes nothing.
use mathlib.Core.Path.{◌≡◌, ap, sym, ◌∙◌}
use mathlib.Core.Bool.{Bool, true, false, cond}
use mathlib.Core.List.{List}
use Prim.Native.Nat.{ℕ, zero, suc, ◌+◌, ◌*◌, ◌-◌, ◌/◌, ◌%◌, ◌^◌, ◌≤◌, ◌<◌}
use native.Mathlib.Omega.{arith}
use native.Mathlib.Decide.{dec_lt}
use native.Mathlib.Nat.{div-eq_of_lt}
use native.Mathlib.Numerals.{one-add}
use lib.Bits.{bit_or, or_comm, or_lt, or_zero_r}
use lib.Dec.{eqb}
use lib.ListN.{length, get_or}
use lib.Pow.{pow_pos, shr-shr}
use Rattle.lists.specs.Mask.{or-more}
use Rattle.lists.specs.Digits.{digit-bit}
use Rattle.answer_sheet.specs.Fan.{fan, fan-same, fan-top, fan-front, fan-most, fan-longer, fan-bits, fan-less, fan-or}
use Rattle.answer_sheet.specs.Eights.{Spread, covered, Fence, digit, Plain}
use Rattle.answer_sheet.specs.declared.eights.Planes.{Planes}

-- the bits of a byte, spread
abbrev pub bits_of : ℕ → ℕ → ℕ
bits_of b k = b / 2 ^ k % 2

half-bits : (b : ℕ) → b < 256 → fan (bits_of b) 8 ≡ b % 2 + 256 * fan (bits_of (b / 2)) 7
unfolding fan
half-bits b l =
    let d : b / 1 ≡ b = omega arith in
    rw (d, fan-same (λ k. b / 2 ^ suc k % 2) (bits_of (b / 2)) 7 (λ k m. rw (← one-add k, ← shr-shr b 1 k)))

low_bits : (b : ℕ) → b < 128 → fan (bits_of b) 8 ≡ fan (bits_of b) 7
low_bits b l = fan-top (bits_of b) 7 (let z : b / 128 % 2 ≡ 0 = omega arith in z)

pub halved : (b v : ℕ) → b < 256 → v ≡ fan (bits_of (b / 2)) 8 → 256 * v + b % 2 ≡ fan (bits_of b) 8
halved b v l e = omega (arith, half-bits b l, low_bits (b / 2) (omega arith))

pub low-most : (b v : ℕ) → b < 128 → v ≡ fan (bits_of b) 8 → v ≤ 282578800148737
unfolding fan
low-most b v l e = rw (e, low_bits b l) (fan-most (bits_of b) 7 1 (λ k. omega arith))

pub spread-is : (table : List ℕ) (set i : ℕ) → Spread table → get_or table (set / 2 ^ (8 * i) % 256) 0 ≡ fan (λ k. set / 2 ^ (8 * i + k) % 2) 8
spread-is table set i T = T.at (m % 256) (omega arith) ∙ fan-same (bits_of (m % 256)) (λ k. set / 2 ^ (8 * i + k) % 2) 8 bit
  where
    m : ℕ
    m = set / 2 ^ (8 * i)

    bit : (k : ℕ) → k < 8 → set / 2 ^ (8 * i) % 256 / 2 ^ k % 2 ≡ set / 2 ^ (8 * i + k) % 2
    bit k l =
        let n = set / 2 ^ (8 * i) in
        let d : n / 1 ≡ n = omega arith in
        let q : 8 * 0 + k ≡ k = omega arith in
        let e : n / 1 % 256 / 2 ^ k % 2 ≡ n / 2 ^ (8 * 0 + k) % 2 = digit-bit 8 n 0 k l in
        (rw (d, q) at e) ∙ rw (shr-shr set (8 * i) k)

pub bits_most : (f : ℕ → ℕ) → ((k : ℕ) → f k ≤ 1) → fan f 8 ≤ 72340172838076673
unfolding fan
bits_most f h = fan-most f 8 1 h

abbrev at : ℕ → ℕ → ℕ → ℕ
at i set k = set / 2 ^ (8 * i + k) % 2

-- eight numbers by one set: 1 where it has no bit
pub ones : (i set b : ℕ) → b ≡ fan (at i set) 8 → 72340172838076673 - b ≡ fan (λ k. 1 - at i set k) 8
unfolding fan
ones i set b e = rw e (fan-less (at i set) 8 (λ k. omega arith))

module _ (p : Planes) (i : ℕ) where
  pub plain-eight : (b : ℕ) → Plain p → b ≡ fan (at i p.both) 8 → 72340172838076673 - b ≡ fan (λ k. digit p (8 * i + k)) 8
  unfolding digit
  plain-eight b s e =
      ones i p.both b e ∙ fan-same (λ k. 1 - at i p.both k) (λ k. digit p (8 * i + k)) 8 (λ k l. rw (s.odd, s.twos, s.fours) (omega (arith, none (8 * i + k))))
    where
      none : (j : ℕ) → 0 / 2 ^ j % 2 ≡ 0
      none j = let z : 0 / 2 ^ j ≡ 0 = div-eq_of_lt (pow_pos j) in omega arith

  pub full-eight : (b o t f : ℕ) → b ≡ fan (at i p.both) 8 → o ≡ fan (at i p.odd) 8 → t ≡ fan (at i p.twos) 8 → f ≡ fan (at i p.fours) 8
      → 72340172838076673 - b + o + 2 * t + 4 * f ≡ fan (λ k. digit p (8 * i + k)) 8
  unfolding digit
  full-eight b o t f b-is o_is t-is f-is =
      rw (ones i p.both b b-is, o_is, t-is, f-is) (sym (fan-bits (at i p.both) (at i p.odd) (at i p.twos) (at i p.fours) 8))

-- the sets beside the first are empty where their union is 0
pub none-plain : (p : Planes) → bit_or (bit_or p.odd p.twos) p.fours ≡ 0 → Plain p
none-plain p e =
    let u = bit_or p.odd p.twos in
    let z : u ≡ 0 = omega (arith, or-more u p.fours) in record {
      odd = omega (arith, or-more p.odd p.twos);
      twos = omega (arith, or-more p.twos p.odd, or_comm p.odd p.twos);
      fours = omega (arith, or-more p.fours u, or_comm u p.fours);
    }

-- covers

pub cover-small : (b : Bool) → cond b 0 255 ≤ 255
cover-small true = omega arith
cover-small false = omega arith

pub cover-most : (f : ℕ → Bool) (n : ℕ) → n < 8 → fan (λ k. cond (f k) 0 255) n ≤ 72057594037927935
unfolding fan
cover-most f n l = omega (arith, fan-most (λ k. cond (f k) 0 255) n 255 (λ k. cover-small (f k)), fan-longer 255 n 7 (omega arith))

-- one byte more below those of a word
pub pack-more : (f : ℕ → ℕ) (i word v : ℕ) → 0 < i → i ≤ 8 → word ≡ fan (λ k. f (i + k)) (8 - i) → v ≡ f (i - 1)
    → 256 * word + v ≡ fan (λ k. f ((i - 1) + k)) (8 - (i - 1))
pack-more f zero word v p l e q = absurd (omega arith)
pack-more f (suc i) word v p l e q =
    let one : suc i - 1 ≡ i = omega arith in
    let more : 8 - i ≡ suc (8 - suc i) = omega arith in
    let last : v ≡ f i = rw one at q in
    rw (one, more) (omega (arith, e, last, fan-front f i (8 - suc i)))

or-cover : (d : ℕ) (b : Bool) → d < 256 → bit_or d (cond b 0 255) ≡ cond b d 255
or-cover d true l = or_zero_r d
or-cover d false l = omega (arith, or_lt 8 d 255 l (omega arith), or-more 255 d, or_comm d 255)

pub digit-most : (p : Planes) (j : ℕ) → digit p j < 256
unfolding digit
digit-most p j = omega arith

-- a row with i words put from entry 64 * w on: of each entry its number, covered, and those below kept
abbrev pub Filled : (ℕ → ℕ) → ℕ → List ℕ → List ℕ → List ℕ → ℕ → Type 0
Filled f w fence old row i =
    (i ≤ 8) × (length row ≡ 192)
    × ((closed : List ℕ) → Fence closed fence → (j : ℕ) → j < 8 * i → get_or row (64 * w + j) 0 ≡ covered closed (64 * w + j) (f j))
    × ((x : ℕ) → x < 64 * w → get_or row x 0 ≡ get_or old x 0)

module _ (f : ℕ → ℕ) (f-most : (j : ℕ) → f j < 256) (w : ℕ) (lw : w < 3) (fence : List ℕ) where
  -- byte k of eight entries with their covers
  covered-byte : (closed : List ℕ) (i k word v : ℕ) → Fence closed fence → i < 8 → k < 8
      → word ≡ fan (λ k. f (8 * i + k)) 8 → v ≡ bit_or word (get_or fence (8 * w + i) 0) / 2 ^ (8 * k) % 256
      → v ≡ covered closed (64 * w + (8 * i + k)) (f (8 * i + k))
  unfolding covered
  covered-byte closed i k word v F li lk e q =
      let place : 64 * w + (8 * i + k) ≡ 8 * (8 * w + i) + k = omega arith in
      q ∙ rw (e, F.at (8 * w + i) (omega arith), place)
      (fan-or (λ k. f (8 * i + k)) cover 8 k (λ k. f-most (8 * i + k)) (λ k. omega (arith, cover-small (eqb (get_or closed (8 * (8 * w + i) + k) 0) 0))) lk
      ∙ or-cover (f (8 * i + k)) (eqb (get_or closed (8 * (8 * w + i) + k) 0) 0) (f-most (8 * i + k)))
    where
      cover : ℕ → ℕ
      cover k = cond (eqb (get_or closed (8 * (8 * w + i) + k) 0) 0) 0 255

  -- eight entries more
  pub eights-more : (old row new : List ℕ) (i word : ℕ) → i < 8 → Filled f w fence old row i → word ≡ fan (λ k. f (8 * i + k)) 8 → length new ≡ 192
      → ((k : ℕ) → k < 8 → get_or new (64 * w + 8 * i + k) 0 ≡ bit_or word (get_or fence (8 * w + i) 0) / 2 ^ (8 * k) % 256)
      → ((x : ℕ) → x < 64 * w + 8 * i → get_or new x 0 ≡ get_or row x 0)
      → Filled f w fence old new (i + 1)
  eights-more old row new i word li (most, long, done, below) e long-new put kept =
      (omega arith, long-new, λ closed F j h. go closed F j h (dec_lt j (8 * i)), λ x h. kept x (omega arith) ∙ below x h)
    where
      last : (closed : List ℕ) → Fence closed fence → (j k : ℕ) → k < 8 → j ≡ 8 * i + k → get_or new (64 * w + j) 0 ≡ covered closed (64 * w + j) (f j)
      last closed F j k l q =
          let place : 64 * w + (8 * i + k) ≡ 64 * w + 8 * i + k = omega arith in
          rw q (covered-byte closed i k word (get_or new (64 * w + (8 * i + k)) 0) F li l e (ap (λ (x : ℕ). get_or new x 0) place ∙ put k l))

      go : (closed : List ℕ) → Fence closed fence → (j : ℕ) → j < 8 * (i + 1) → Dec (j < 8 * i) → get_or new (64 * w + j) 0 ≡ covered closed (64 * w + j) (f j)
      go closed F j h (yes l) = kept (64 * w + j) (omega arith) ∙ done closed F j l
      go closed F j h (no l) = last closed F j (j - 8 * i) (omega arith) (omega arith)
