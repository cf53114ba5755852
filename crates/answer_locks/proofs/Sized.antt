-- Teams of a known size: two nodes that the team can have are excluded as in all teams.
-- Assumes nothing.
use mathlib.Core.Path.{◌≡◌, refl, ap, sym, ◌∙◌}
use mathlib.Core.Bool.{Bool, true, false, ◌&&◌, ◌||◌, not, cond}
use mathlib.Core.List.{List}
use Prim.Native.Nat.{ℕ, ◌<◌}
use lib.Bits.{or_self}
use lib.Dec.{eqb, leb}
use lib.ListN.{get_or}
use Rattle.lists.specs.Common.{common}
use Rattle.chart.specs.Region.{Region}
use Rattle.theory_answers.specs.Answer.{answer, lacks_thread, answer_in, answer_for}
use Rattle.theory_answers.specs.declared.Size.{Size}
use Rattle.theory_answers.specs.declared.Size.TheVariants.{Any, Of}
use Rattle.theory_exact.specs.Barred.{is_barred, is_barred_in, is_barred_for}
use Rattle.answer_constructs.specs.Marks.{Sized, Marks}
use Rattle.answer_constructs.specs.declared.kinds.Sets.{Sets}
use Rattle.answer_constructs.specs.declared.mask_table.MaskTable.{MaskTable}
use Rattle.answer_pairs.specs.Rules.{lacks-by, lacks-none}
use Rattle.answer_locks.specs.Fitting.{lacking}

-- no thread of such a team that another can meet is at x
abbrev pub lacks : Region → Size → ℕ → Bool
lacks R Any x = false
lacks R (Of m) x = leb m 1 || lacks_thread R m x

-- two nodes without this are answered as for all teams
pub answer-fitting : (R : Region) (size : Size) (a b : ℕ) → eqb (answer_for R size a b) 0 ≡ ((not (lacks R size a) && not (lacks R size b)) && eqb (answer R a b) 0)
unfolding answer_in
answer-fitting R Any a b = refl
answer-fitting R (Of m) a b = go (leb m 1) (lacks_thread R m a) (lacks_thread R m b)
  where
    go : (alone p q : Bool) → eqb (cond alone 6 (cond (p || q) 7 (answer R a b))) 0 ≡ ((not (alone || p) && not (alone || q)) && eqb (answer R a b) 0)
    go true p q = refl
    go false true q = refl
    go false false true = refl
    go false false false = refl

pub barred-fitting : (R : Region) (size : Size) (a b : ℕ) → not (is_barred_for R size a b) ≡ ((not (lacks R size a) && not (lacks R size b)) && not (is_barred R a b))
unfolding is_barred_in
barred-fitting R Any a b = refl
barred-fitting R (Of m) a b = go (leb m 1) (lacks_thread R m a) (lacks_thread R m b)
  where
    go : (alone p q : Bool) → not (alone || ((p || q) || is_barred R a b)) ≡ ((not (alone || p) && not (alone || q)) && not (is_barred R a b))
    go true p q = refl
    go false true q = refl
    go false false true = refl
    go false false false = refl

-- read off what the node holds
pub lacks-held : {R : Region} {marks : MaskTable} {kinds : List ℕ} (sets : Sets) → Marks R marks kinds → (size : Size) → Sized R size sets → (x : ℕ) → x < R.nodes
    → lacks R size x ≡ lacking sets (get_or marks.held x 0)
unfolding lacking
lacks-held {marks = marks} sets M Any Z x l = sym (rw (Z.0, lacks-none (get_or marks.held x 0) Z.1))
lacks-held {R} {marks} sets M (Of m) Z x l = rw (Z.0, one) refl
  where
    twice : (b : Bool) → (b || b) ≡ b
    twice true = refl
    twice false = refl

    one : lacks_thread R m x ≡ common (get_or marks.held x 0) sets.missing
    one = sym (twice (lacks_thread R m x)) ∙ lacks-by M.well-formed m x x (M.has-held x l) (M.has-held x l) Z.1
        ∙ ap (λ (h : ℕ). common h sets.missing) (or_self (get_or marks.held x 0))
