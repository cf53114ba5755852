-- `answer_races::lines::fill_lines` meets its contract. The loop's invariant: the lines passed are there, and what is kept is of some node's masks.
-- Assumes nothing.
use mathlib.Core.Path.{subst, ◌∙◌}
use mathlib.Core.List.{List}
use Prim.Native.Nat.{ℕ, ◌+◌, ◌<◌}
use native.Mathlib.Omega.{arith}
use lib.ListN.{length, get_or, set, length-set}
use lib.Seq.{get_or-set_same, get_or-set_other}
use borrow.Author.Count.{below_more}
use Rattle.answer_pairs.specs.declared.rules.Profile.{Profile}
use Rattle.answer_races.specs.declared.rows.Line.{Line}
use Rattle.answer_races.specs.Bytes.{no_line, line_at}
use Rattle.answer_races.specs.Lines.{LineOf}
use Rattle.answer_races.proofs.lines.fill_lines.Invariants.{Lined}
use Rattle.answer_races.proofs.lines.fill_lines.Goals as goal

-- one line more is stored
stored_line : (P : ℕ → Line → Type 0) (l : List Line) (i : ℕ) (v : Line) → i < length l → P i v → ((j : ℕ) → j < i → P j (line_at l j))
    → (j : ℕ) → j < i + 1 → P j (line_at (set l i v) j)
stored_line P l i v b p old = below_more _ _
    (λ j h. rw (get_or-set_other l i j v no_line (λ e. omega arith)) (old j h))
    (rw (get_or-set_same l i v no_line b) p)

pub loop-a-preserved : goal.loop-a-preserved
loop-a-preserved c =
    let low : c.loop-a.a < 192 =
    omega (arith, c.requires.0) in
    let closed = c.args.closed.now in
    let marks = c.args.marks.now in
    let names = c.args.names.now in
    let a = c.loop-a.a in
    let (below, long, met, done) = c.loop-a.invariant in
    let M = c.keep-kept.ensures.1 closed marks c.requires.1 met in (
      omega arith,
      length-set c.loop-a.lines a _ ∙ long,
      M,
      stored_line (Lined closed marks names) c.loop-a.lines a _ (omega (arith, low))
          (λ z. subst (λ (x : Profile). LineOf closed marks names x (get_or names a 0) c.line_of.result) (c.keep-kept.ensures.0 z ∙ c.profile_of-in-loop-a.ensures)
          (c.line_of.ensures closed marks names c.keep-kept.result.own M c.requires.2)) done,
    )
