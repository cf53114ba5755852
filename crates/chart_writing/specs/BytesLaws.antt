-- A trailer is read back from its bytes, and sixteen bytes are those of the trailer that they make.
-- Assumes nothing.
use Rattle.std.specs.Prelude.{◌≡◌, refl, List, [], ◌∷◌, ℕ, zero, suc, ◌+◌, ◌*◌, ◌/◌, ◌%◌, ◌<◌, length, get_or}
use Rattle.std.proofs.Common.{ap, arith}
use Rattle.lists.specs.Tab.{tab}
use Rattle.chart.specs.Format.{field, Trailer, trailer_of}
use Rattle.chart_writing.specs.Bytes.{AllBytes, trailer_bytes}

pub same-trailer : {a b c d e f g h a' b' c' d' e' f' g' h' : ℕ} → a ≡ a' → b ≡ b' → c ≡ c' → d ≡ d' → e ≡ e' → f ≡ f' → g ≡ g' → h ≡ h'
    → ◌≡◌ {A = Trailer} (record { edition = a; nodes = b; edges = c; constructs = d; to-nodes = e; to-edges = f; to-constructs = g; closing = h })
    (record { edition = a'; nodes = b'; edges = c'; constructs = d'; to-nodes = e'; to-edges = f'; to-constructs = g'; closing = h' })
same-trailer p q r s t u v w = λ i. record { edition = p i; nodes = q i; edges = r i; constructs = s i; to-nodes = t i; to-edges = u i; to-constructs = v i; closing = w i }

field_back : (v : ℕ) → v % 256 + 256 * (v / 256) ≡ v
field_back v = omega arith

pub trailer-back : (t : Trailer) → trailer_of (trailer_bytes t) ≡ t
unfolding trailer_of field
trailer-back t = same-trailer (field_back _) (field_back _) (field_back _) (field_back _) (field_back _) (field_back _) (field_back _) (field_back _)

low : (a b : ℕ) → a < 256 → (a + 256 * b) % 256 ≡ a
low a b h = omega arith

high : (a b : ℕ) → a < 256 → (a + 256 * b) / 256 ≡ b
high a b h = omega arith

-- a list is its elements
whole-tab : (n : ℕ) (l : List ℕ) → length l ≡ n → tab n (λ k. get_or l k 0) ≡ l
unfolding tab
whole-tab zero [] q = refl
whole-tab zero (a ∷ l) q = absurd (omega arith)
whole-tab (suc n) [] q = absurd (omega arith)
whole-tab (suc n) (a ∷ l) q = ap (λ (m : List ℕ). a ∷ m) (whole-tab n l (omega arith))

pub trailer-bytes : (l : List ℕ) → length l ≡ 16 → AllBytes l → trailer_bytes (trailer_of l) ≡ l
unfolding trailer_of field tab
trailer-bytes l q t =
    rw (
      low _ (get_or l 1 0) (t 0),
      high _ (get_or l 1 0) (t 0),
      low _ (get_or l 3 0) (t 2),
      high _ (get_or l 3 0) (t 2),
      low _ (get_or l 5 0) (t 4),
      high _ (get_or l 5 0) (t 4),
      low _ (get_or l 7 0) (t 6),
      high _ (get_or l 7 0) (t 6),
      low _ (get_or l 9 0) (t 8),
      high _ (get_or l 9 0) (t 8),
      low _ (get_or l 11 0) (t 10),
      high _ (get_or l 11 0) (t 10),
      low _ (get_or l 13 0) (t 12),
      high _ (get_or l 13 0) (t 12),
      low _ (get_or l 15 0) (t 14),
      high _ (get_or l 15 0) (t 14),
    ) (whole-tab 16 l q)
