-- What a search finds, read in another graph that has the same edges; and a graph with its edges turned round.
-- Assumes nothing.
use Rattle.std.proofs.Common.{◌∙◌, arith}
use Rattle.std.specs.Prelude.{List, ℕ}
use Rattle.lists.specs.Mask.{mask-carry}
use Rattle.theory_paths.specs.PathLaws.{carry, edges-carry}
use Rattle.theory_paths.specs.Graph.{Listed}
use Rattle.theory_paths.specs.Found.{Found, Leveled}

pub found-carry : {E F : ℕ → ℕ → Type 0} {P Q : ℕ → Type 0} {sources : List ℕ} {total : ℕ} {masks : List ℕ}
    → ((x y : ℕ) → E x y → F x y) → ((x y : ℕ) → F x y → E x y) → ((z : ℕ) → P z → Q z) → ((z : ℕ) → Q z → P z)
    → Found E P sources total masks → Found F Q sources total masks
found-carry f g p q w = record { mask = λ y. mask-carry (λ b _. carry f p) (λ b _. carry g q) (w.mask y) }

pub leveled-carry : {E F : ℕ → ℕ → Type 0} {P Q A B : ℕ → Type 0} {sources : List ℕ} {total : ℕ} {levels : List ℕ}
    → ((x y : ℕ) → E x y → F x y) → ((x y : ℕ) → F x y → E x y) → ((z : ℕ) → P z → Q z) → ((z : ℕ) → Q z → P z) → ((z : ℕ) → B z → A z)
    → Leveled E P A sources total levels → Leveled F Q B sources total levels
leveled-carry f g p q n w = record {
  path = λ y h l.
      let r = w.path y (n y h) l in
      record { source = r.source; below = r.below; path = carry f p r.path; long = edges-carry f p r.path ∙ r.long };
  least = λ b y l h v. let (a, c) = w.least b y l (n y h) (carry g q v) in (a, omega (arith, edges-carry g q v));
}

pub listed-turned : {keys values : List ℕ} {e : ℕ} (x y : ℕ) → Listed keys values e x y → Listed values keys e y x
listed-turned x y l = record { at = l.at; below = l.below; key = l.value; value = l.key }
