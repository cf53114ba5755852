-- A list of bytes at the front of a program's input: its length, a field of two bytes, and then so many bytes.
-- Assumes nothing.
use Rattle.std.specs.Prelude.{List, ℕ, ◌+◌, take, drop}
use Rattle.chart.specs.Format.{field}

abbrev pub list_in : List ℕ → List ℕ
list_in s = take (field s 0) (drop 2 s)

abbrev pub after_list : List ℕ → List ℕ
after_list s = drop (2 + field s 0) s
