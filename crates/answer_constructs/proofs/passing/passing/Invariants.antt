-- The invariants and measures of `answer_constructs::passing::passing`.
use Rattle.std.proofs.Common.{◌≡◌, Bool, ℕ, ◌<◌}
use Rattle.lists.specs.Mask.{mask_of}
use Rattle.answer_constructs.proofs.passing.passing.Given as goal

abbrev pub invariant-loop-c : goal.invariant-loop-c
invariant-loop-c g l =
    (f : ℕ → Bool) → ((c : ℕ) (b : Bool) → c < l.fn.n → goal.F-post g l.fn.test c (mask_of f c) b → b ≡ f c) → l.mask ≡ mask_of f l.c
