-- Edges tried, put in and taken out on charts of 01 and 02, from bytes to bytes: lists, and one proof over the definitions for each.
-- Assumes nothing.
use Rattle.std.specs.Prelude.{◌≡◌, refl, List, [], ◌∷◌, ◌++◌, map, ℕ, take, Result, Ok, Err}
use Rattle.lists.specs.Truth.{is}
use Rattle.lists.specs.Range.{any, count, first}
use Rattle.lists.specs.Tab.{tab}
use Rattle.chart.specs.Format.{field, node_of, edge_of, construct_of, construct_width, construct_bytes, trailer_of, records, last_trailer, decode, node_at, edge_at, construct_at}
use Rattle.chart.specs.Scope.{single_byte, kind_of, lies_in, scope, encloses, parent_of, lies_at, scope_at}
use Rattle.chart.specs.Nested.{is_parallel, region_at, counts_in, lies_within, kept_in, role_in}
use Rattle.chart.specs.Nesting.{may_enclose, encloses_near, same_critical, excluded, wrongly_above, misplaced, misnested}
use Rattle.chart.specs.Reading.{edge_in, inside_at, frame_of}
use Rattle.chart.specs.Refusal.{bad_edition, bad_marks, bad_counts, bad_lengths, bad_node, bad_outer, bad_node_at, bad_nodes, foreign_number, bad_construct, bad_alone, stray_node, bad_constructs, frames_in, bad_frame, bad_frames, is_barrier, barrier_of, too_many_in, bad_barriers, bad_edge, rises, bad_edge_at, frames_section, joins_sections, bad_edges, first_of, numbered, trailer_rows, table_rows, chart_rows}
use Rattle.theory_paths.specs.Reach.{marks?, marks, reaches}
use Rattle.theory_paths.specs.Decide.{reaches_any}
use Rattle.theory_paths.specs.Admission.{cut_off, bad_paths, admit_rows}
use Rattle.theory_answers.specs.Starred.{barrier, edge, chart, chart_s, in_row, and_back, chart_z}
use Rattle.output.specs.Output.{written, content, written_by, left_by}
use Rattle.theory_edits.specs.Splice.{place, longer, shorter, record_at, records_from, inserted, removed}
use Rattle.theory_edits.specs.Edits.{length_row, ask_rows, receipt_for, asked_by, asked, receipt_row, space_row, commit_rows, insert_written, insert_left, no_edge_row, remove_rows, remove_written, remove_left}
use Rattle.theory_edits.specs.declared.Receipt.{Receipt}
use Rattle.chart.specs.declared.format.Refusal.{Refusal}

-- The chart in the first `len` bytes of a buffer, an edge, and what asking answers.
pub record Asking : Type 0 where
  pub buffer : List ℕ
  pub len : ℕ
  pub from : ℕ
  pub to : ℕ
  pub gives : Result Receipt Refusal

-- The same with what a call that writes answers, and the bytes that it leaves; commit has a receipt besides.
pub record Removal : Type 0 where
  pub buffer : List ℕ
  pub len : ℕ
  pub from : ℕ
  pub to : ℕ
  pub gives : Result ℕ Refusal
  pub leaves : List ℕ

pub record Commit : Type 0 where
  pub receipt : Receipt
  pub call : Removal

-- 01's S with a single, 48 bytes, without the edge 3-1 and with it; S with a masked of filter 3, in edition 2, 50 bytes, likewise; two nodes.
abbrev S : List ℕ
S = chart_s single_byte in_row

abbrev long_s : List ℕ
long_s = chart_s single_byte and_back

abbrev Y : List ℕ
Y = take 28 S ++ (2 ∷ 255 ∷ 0 ∷ 0 ∷ 3 ∷ 0 ∷ 2 ∷ 0 ∷ 5 ∷ 0 ∷ 4 ∷ 0 ∷ 1 ∷ 0 ∷ 50 ∷ 0 ∷ 30 ∷ 0 ∷ 22 ∷ 0 ∷ 0x4F ∷ 0x43 ∷ [])

abbrev long_y : List ℕ
long_y = take 30 long_s ++ (2 ∷ 255 ∷ 0 ∷ 0 ∷ 3 ∷ 0 ∷ 2 ∷ 0 ∷ 5 ∷ 0 ∷ 5 ∷ 0 ∷ 1 ∷ 0 ∷ 52 ∷ 0 ∷ 32 ∷ 0 ∷ 22 ∷ 0 ∷ 0x4F ∷ 0x43 ∷ [])

abbrev pair : List ℕ
pair = chart (barrier ∷ barrier ∷ []) (edge 0 1 ∷ []) []

-- The bytes of S with the edge, one by one.
bytes-long : long_s
    ≡ 0x01 ∷ 0xFF ∷ 0x00 ∷ 0x00 ∷ 0x02 ∷ 0x00 ∷ 0x00 ∷ 0x00 ∷ 0x00 ∷ 0x00 ∷ 0x00 ∷ 0x00 ∷ 0x03 ∷ 0x00 ∷ 0x00 ∷ 0x00 ∷ 0x01 ∷ 0xFF ∷ 0x00 ∷ 0x00
    ∷ 0x00 ∷ 0x01 ∷ 0x01 ∷ 0x02 ∷ 0x02 ∷ 0x03 ∷ 0x03 ∷ 0x01 ∷ 0x03 ∷ 0x04 ∷ 0x01 ∷ 0xFF ∷ 0x00 ∷ 0x00
    ∷ 0x01 ∷ 0x00 ∷ 0x05 ∷ 0x00 ∷ 0x05 ∷ 0x00 ∷ 0x01 ∷ 0x00 ∷ 0x32 ∷ 0x00 ∷ 0x1E ∷ 0x00 ∷ 0x14 ∷ 0x00 ∷ 0x4F ∷ 0x43 ∷ []
bytes-long = refl

abbrev receipt_at : ℕ → ℕ → Receipt
receipt_at len at = record { length = len; place = at }

abbrev ask : List ℕ → ℕ → ℕ → ℕ → Result Receipt Refusal → Asking
ask buffer len from to gives = record { buffer = buffer; len = len; from = from; to = to; gives = gives }

abbrev accepted : ℕ → ℕ → Result Receipt Refusal
accepted len at = Ok (receipt_at len at)

abbrev refused : ℕ → Result Receipt Refusal
refused number = Err (numbered number)

unfoldable pub asks : List Asking
asks =
    ask S 48 3 1 (accepted 48 3)
    ∷ ask S 48 1 3 (accepted 48 2)
    ∷ ask S 48 0 4 (accepted 48 1)
    ∷ ask S 48 2 2 (accepted 48 2)
    ∷ ask S 48 3 3 (refused 9)
    ∷ ask S 48 0 0 (refused 9)
    ∷ ask S 48 4 1 (refused 9)
    ∷ ask S 48 2 1 (refused 9)
    ∷ ask S 48 1 4 (refused 9)
    ∷ ask S 48 5 1 (refused 9)
    ∷ ask S 48 259 1 (refused 9)
    ∷ ask S 48 3 257 (refused 9)
    ∷ ask S 48 1 2 (refused 9)
    ∷ ask S 49 3 1 (refused 4)
    ∷ ask S 15 3 1 (refused 1)
    ∷ ask S 47 3 1 (refused 2)
    ∷ ask S 47 259 1 (refused 2)
    ∷ ask Y 50 3 1 (accepted 50 3)
    ∷ ask chart_z 70 6 1 (accepted 70 6)
    ∷ []

abbrev call : List ℕ → ℕ → ℕ → ℕ → Result ℕ Refusal → List ℕ → Removal
call buffer len from to gives leaves = record { buffer = buffer; len = len; from = from; to = to; gives = gives; leaves = leaves }

abbrev stopped : List ℕ → ℕ → ℕ → ℕ → ℕ → Removal
stopped buffer len from to number = call buffer len from to (Err (numbered number)) buffer

abbrev commit : ℕ → ℕ → Removal → Commit
commit len at rest = record { receipt = receipt_at len at; call = rest }

unfoldable pub commits : List Commit
commits =
    commit 48 3 (call (S ++ (7 ∷ 8 ∷ 9 ∷ [])) 48 3 1 (Ok 50) (long_s ++ (9 ∷ [])))
    ∷ commit 50 3 (call (Y ++ (7 ∷ 8 ∷ [])) 50 3 1 (Ok 52) long_y)
    ∷ commit 48 3 (stopped (S ++ (7 ∷ [])) 48 3 1 18)
    ∷ commit 48 2 (stopped (S ++ (7 ∷ [])) 48 3 1 17)
    ∷ commit 47 3 (stopped (S ++ (7 ∷ [])) 48 3 1 17)
    ∷ commit 48 2 (stopped S 48 2 1 9)
    ∷ commit 48 3 (stopped (S ++ (7 ∷ 8 ∷ [])) 48 259 1 9)
    ∷ commit 48 3 (stopped S 49 3 1 4)
    ∷ []

unfoldable pub removals : List Removal
removals =
    call (long_s ++ (9 ∷ [])) 50 3 1 (Ok 48) (S ++ (0 ∷ 0 ∷ 9 ∷ []))
    ∷ call long_y 52 3 1 (Ok 50) (Y ++ (0 ∷ 0 ∷ []))
    ∷ stopped S 48 4 0 19
    ∷ stopped S 48 255 255 19
    ∷ stopped long_s 50 259 1 19
    ∷ stopped long_s 50 3 257 19
    ∷ stopped S 48 1 2 10
    ∷ stopped pair 26 0 1 3
    ∷ stopped S 49 1 2 4
    ∷ stopped S 47 4 0 2
    ∷ []

-- What the definitions give for an entry.
unfoldable pub asking : Asking → Result Receipt Refusal
asking e = asked e.buffer e.len e.from e.to

unfoldable pub committing : Commit → Result ℕ Refusal × List ℕ
committing c =
    let e = c.call in
    (insert_written e.buffer e.len c.receipt e.from e.to, insert_left e.buffer e.len c.receipt e.from e.to)

unfoldable pub removing : Removal → Result ℕ Refusal × List ℕ
removing e = (remove_written e.buffer e.len e.from e.to, remove_left e.buffer e.len e.from e.to)

-- Every entry has what it says.
pub known-edits : (map asking asks ≡ map (λ e. e.gives) asks)
    × (map committing commits ≡ map (λ c. (c.call.gives, c.call.leaves)) commits)
    × (map removing removals ≡ map (λ e. (e.gives, e.leaves)) removals)
unfolding asks commits removals asking committing removing asked asked_by ask_rows length_row receipt_for inserted records_from record_at longer place
    insert_written insert_left commit_rows receipt_row space_row remove_written remove_left remove_rows no_edge_row removed shorter written_by left_by written content
    admit_rows bad_paths cut_off reaches_any reaches marks marks? chart_rows table_rows trailer_rows first_of bad_edges joins_sections frames_section bad_edge_at rises bad_edge bad_barriers
    too_many_in barrier_of is_barrier bad_frames bad_frame frames_in bad_constructs stray_node bad_alone bad_construct foreign_number bad_nodes bad_node_at bad_outer bad_node bad_lengths bad_counts bad_marks bad_edition
    misnested misplaced wrongly_above excluded same_critical may_enclose encloses_near role_in kept_in lies_within counts_in region_at is_parallel edge_in inside_at frame_of scope_at lies_at parent_of encloses scope lies_in kind_of
    construct_at edge_at node_at decode last_trailer records trailer_of construct_of construct_width construct_bytes edge_of node_of field tab any count first is
known-edits = (refl, refl, refl)
