-- Bytes put one after the other, and a part at the front.
-- Assumes nothing.
use mathlib.Core.Path.{◌≡◌, ap, sym, ◌∙◌}
use mathlib.Core.List.{List, ◌++◌, append_assoc}
use Prim.Native.Nat.{ℕ, ◌+◌, ◌≤◌}
use native.Mathlib.Nat.{zero-add}
use native.Mathlib.Omega.{arith}
use lib.ListN.{length, take, drop, take-append-drop}
use lib.Seq.{length-take-le}

-- after `before` and `some`, `more`
pub chained : (before some more : List ℕ) {l m : List ℕ} → l ≡ before ++ some → m ≡ l ++ more → m ≡ before ++ (some ++ more)
chained before some more e f = f ∙ ap (λ (k : List ℕ). k ++ more) e ∙ append_assoc before some more

-- a part put to the front
pub front : (part old new : List ℕ) → take (0 + length part) new ≡ part → drop (0 + length part) new ≡ drop (0 + length part) old
    → new ≡ part ++ drop (length part) old
front part old new p q =
    let n = 0 + length part in
    sym (take-append-drop n new) ∙ ap (λ (l : List ℕ). l ++ drop n new) p ∙ ap (λ (l : List ℕ). part ++ l) q ∙ rw (zero-add (length part))

pub part_room : (l : List ℕ) (n room : ℕ) → n ≤ length l → n ≤ room → 0 + length (take n l) ≤ room
part_room l n room a b = omega (arith, length-take-le n l a)
