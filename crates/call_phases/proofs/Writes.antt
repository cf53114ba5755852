-- Writing a number's bytes.
-- Assumes nothing.
use Rattle.std.proofs.Common.{rules, arith, ◌≡◌, ◌∙◌, ◌⊎◌, inl, inr, List, ◌++◌, ℕ, zero, suc, ◌+◌, ◌≤◌, ◌<◌, length, get_or, take, refl, w64}
use Rattle.std.specs.Int.{to_le_bytes}
use Rattle.std.proofs.lemmas.List.{places, get_or-append-add, get_or_append_left}
use native.Mathlib.Nat.{div-one}
use borrow.Rule.Slice.PartMut.{put_mid, post_of}
use Rattle.theory_calls.specs.Bytes.{byte_of, Put}

byte-at : (m k : ℕ) → k < 8 → get_or (to_le_bytes w64 m) k 0 ≡ byte_of m k
unfolding byte_of
byte-at m zero h = rw div-one
byte-at m (suc zero) h = refl
byte-at m (suc (suc zero)) h = refl
byte-at m (suc (suc (suc zero))) h = refl
byte-at m (suc (suc (suc (suc zero)))) h = refl
byte-at m (suc (suc (suc (suc (suc zero))))) h = refl
byte-at m (suc (suc (suc (suc (suc (suc zero)))))) h = refl
byte-at m (suc (suc (suc (suc (suc (suc (suc zero))))))) h = refl
byte-at m (suc (suc (suc (suc (suc (suc (suc (suc k)))))))) h = absurd (omega arith)

module _ (at n : ℕ) (old bytes : List ℕ) (size : length bytes ≡ n) (room : at + n ≤ length old) where
  within : (k : ℕ) → k < n → get_or (put_mid at n old bytes) (at + k) 0 ≡ get_or bytes k 0
  within k h =
      let front : length (take at old) ≡ at = search (rules, places) in
      rw front at (get_or-append-add (take at old) (bytes ++ post_of at n old) k 0) ∙ get_or_append_left bytes _ 0 k (omega arith)

  around : (j : ℕ) → (j < at) ⊎ (at + n ≤ j) → get_or (put_mid at n old bytes) j 0 ≡ get_or old j 0
  around j (inl b) = grind (arith, places)
  around j (inr b) = grind (arith, places)

  long : length (put_mid at n old bytes) ≡ length old
  long = search (rules, places)

pub put-bytes : (at n m : ℕ) (old bytes : List ℕ) → n ≡ 8 → at + 8 ≤ length old → bytes ≡ to_le_bytes w64 m → Put at 8 m old (put_mid at n old bytes)
put-bytes at n m old bytes q room e =
    let size : length bytes ≡ 8 = rw e in
    let here : length bytes ≡ n = omega arith in
    let fits : at + n ≤ length old = omega arith in record {
      long = long at n old bytes here fits;
      put = λ k h. within at n old bytes here fits k (omega arith) ∙ rw e (byte-at m k h);
      kept = λ j b. around at n old bytes here fits j (rw (← q) at b);
    }
