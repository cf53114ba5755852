-- `answer_sheet::eights::put` meets its contract.
-- Assumes nothing.
use Rattle.std.proofs.Common.{rules, arith, ◌≡◌, ◌∙◌, List, ◌++◌, ℕ, zero, suc, ◌+◌, ◌*◌, ◌/◌, ◌%◌, ◌^◌, ◌≤◌, ◌<◌, length, get_or, take, refl, w64}
use Rattle.std.specs.Int.{to_le_bytes}
use Rattle.std.proofs.lemmas.List.{places, get_or-append-add, get_or_append_left}
use Rattle.std.proofs.Math.Nat.{div-one}
use borrow.Rule.Slice.PartMut.{put_mid, post_of}
use Rattle.answer_sheet.specs.Eights.{PutBytes}
use Rattle.answer_sheet.proofs.eights.put.Goals as goal

byte-at : (m k : ℕ) → k < 8 → get_or (to_le_bytes w64 m) k 0 ≡ m / 2 ^ (8 * k) % 256
byte-at m zero h = rw div-one
byte-at m (suc zero) h = refl
byte-at m (suc (suc zero)) h = refl
byte-at m (suc (suc (suc zero))) h = refl
byte-at m (suc (suc (suc (suc zero)))) h = refl
byte-at m (suc (suc (suc (suc (suc zero))))) h = refl
byte-at m (suc (suc (suc (suc (suc (suc zero)))))) h = refl
byte-at m (suc (suc (suc (suc (suc (suc (suc zero))))))) h = refl
byte-at m (suc (suc (suc (suc (suc (suc (suc (suc k)))))))) h = absurd (omega arith)

put-bytes : (at n m : ℕ) (old bytes : List ℕ) → n ≡ 8 → length old ≡ 192 → at + 8 ≤ 192 → bytes ≡ to_le_bytes w64 m → PutBytes m at old (put_mid at n old bytes)
put-bytes at n m old bytes q long room e =
    let size : length bytes ≡ 8 = rw e in
    let front : length (take at old) ≡ at = search (rules, places) in (
      search (rules, places),
      λ k h. rw front at (get_or-append-add (take at old) (bytes ++ post_of at n old) k 0) ∙ get_or_append_left bytes _ 0 k (omega arith) ∙ rw e (byte-at m k h),
      λ x h. grind (arith, places),
    )

pub returns : goal.returns
returns c = put-bytes _ _ _ _ _ (omega arith) c.requires.0 c.requires.1 (c.copy_from_slice.ensures.after ∙ c.to_le_bytes.ensures)
