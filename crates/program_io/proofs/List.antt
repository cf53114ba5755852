-- A list at the front of the input, by the two bytes of its length and what follows them.
-- Assumes nothing.
use Rattle.std.proofs.Common.{arith, ◌≡◌, ◌∙◌, ◌+◌, ◌*◌, List, ℕ, take, drop, slice_index}
use Rattle.std.proofs.lemmas.List.{drop-drop, get_or-take}
use Rattle.chart.specs.Format.{field}
use Rattle.program_io.specs.Part.{list_in, after_list}

pub size_is : (s : List ℕ) {size : List ℕ} {n : ℕ} → size ≡ take 2 s → n ≡ slice_index size 0 + slice_index size 1 * 256 → n ≡ field s 0
unfolding field
size_is s {size} {n} e q =
    let low = get_or-take 2 s 0 0 (omega arith) in
    let high = get_or-take 2 s 1 0 (omega arith) in
    rw (e, low, high) at q ∙ omega arith

pub parts : (s : List ℕ) {rest : List ℕ} {n : ℕ} → rest ≡ drop 2 s → n ≡ field s 0 → (list after : List ℕ) → list ≡ take n rest → after ≡ drop n rest
    → (list ≡ list_in s) × (after ≡ after_list s)
parts s {rest} {n} r q list after l a = (rw (l, q, r), rw (a, q, r, drop-drop (field s 0) 2 s))
