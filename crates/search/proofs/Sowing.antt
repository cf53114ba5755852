-- Bits that are sown along the sources' edges, one source after the other, and the levels that begin with them.
-- Assumes nothing.
use mathlib.Core.Path.{◌≡◌, refl, sym, ◌∙◌}
use mathlib.Core.Logic.{⊎_elim}
use mathlib.Core.List.{List, [], ◌∷◌}
use Prim.Native.Nat.{ℕ, zero, suc, ◌+◌, ◌^◌, ◌≤◌, ◌<◌}
use native.Mathlib.Omega.{arith}
use native.Mathlib.Decide.{ℕ_discrete, dec_lt}
use lib.Bits.{bit_or, or_comm}
use lib.Pow.{pow_pos, pow-lt, pow_mono}
use lib.ListN.{length, get_or, set, length-set, replicate, length-replicate, get_or-replicate}
use Rattle.lists.specs.Mask.{Has, or-more, has_above, has-own, has-pow}
use Rattle.lists.specs.Store.{at_set, zeros}
use Rattle.search.specs.Sweep.{Between}
use Rattle.search.specs.Steps.{Leads}
use Rattle.search.specs.Fed.{Via, Fed, Sowed}
use Rattle.search.specs.Levels.{Each, Begins}

pub begins-none : Each Begins (replicate 192 0) (replicate 192 254)
begins-none = record {
  long = length-replicate {A = ℕ} 192 254;
  at = λ y l. ((λ _. get_or-replicate {A = ℕ} 192 y 254 0 l), λ n. absurd (n (zeros 192 y)));
}

-- a bit more at y, and its level
pub begins-turn : {masks levels : List ℕ} {y own : ℕ} → length masks ≡ 192 → y < 192 → 0 < own → Each Begins masks levels
    → Each Begins (set masks y (bit_or (get_or masks y 0) own)) (set levels y 1)
begins-turn {masks} {levels} {y} {own} long l some E = record {
  long = length-set levels y 1 ∙ E.long;
  at = λ z k. at_set (λ m. Begins m (get_or (set levels y 1) z 0)) masks y _ z (omega arith)
      (λ e. at_set (λ v. Begins more v) levels y 1 z (omega (arith, E.long)) (λ _. ((λ q. absurd (omega (arith, above, q))), λ _. refl)) (λ n. absurd (n e)))
      (λ n. at_set (λ v. Begins (get_or masks z 0) v) levels y 1 z (omega (arith, E.long)) (λ e. absurd (n e)) (λ _. E.at z k));
}
  where
    more : ℕ
    more = bit_or (get_or masks y 0) own

    above : own ≤ more
    above = rw (or_comm (get_or masks y 0) own) (or-more own (get_or masks y 0))

pub sowed-none : (values places sources : List ℕ) → Sowed values places sources 0 (replicate 192 0)
sowed-none values places sources = record {
  long = length-replicate {A = ℕ} 192 0;
  mask = λ y. record { small = rw (zeros 192 y) (pow_pos 0); only = λ b l. absurd (omega arith); all = λ b l. absurd (omega arith) };
}

-- the edges of source b
pub sowed-turn : {values places sources s t : List ℕ} {b : ℕ} → Sowed values places sources b s
    → Fed (Between [] values (get_or places (get_or sources b 0) 0) (get_or places (get_or sources b 0 + 1) 0)) (2 ^ b ∷ []) s t
    → Sowed values places sources (b + 1) t
sowed-turn {values} {places} {sources} {s} {t} {b} S f = record { long = f.long ∙ S.long; mask = λ y. record { small = f.low (b + 1) own wider y; only = only y; all = all y } }
  where
    own : (x : ℕ) → get_or (2 ^ b ∷ []) x 0 < 2 ^ (b + 1)
    own zero = pow-lt (omega arith)
    own (suc x) = pow_pos (b + 1)

    wider : (y : ℕ) → get_or s y 0 < 2 ^ (b + 1)
    wider y = omega (arith, (S.mask y).small, pow_mono {i = b} {j = b + 1} (omega arith))

    older : (y c : ℕ) → Has (get_or s y 0) c → Dec (c < b) → Leads values places (get_or sources c 0) y
    older y c h (yes l) = (S.mask y).only c l h
    older y c h (no n) = absurd (has_above (get_or s y 0) c (omega (arith, (S.mask y).small, pow_mono {i = b} {j = c} (omega arith))) h)

    newer : (y c : ℕ) → Via (Between [] values (get_or places (get_or sources b 0) 0) (get_or places (get_or sources b 0 + 1) 0)) (2 ^ b ∷ []) y c → Leads values places (get_or sources c 0) y
    newer y c v =
        let e = v.edge in
        let q : c ≡ b = has-pow b c (rw (sym e.key) at v.bit) in
        rw q (record { at = e.at; from = e.from; below = e.below; value = e.value })

    only : (y c : ℕ) → c < b + 1 → Has (get_or t y 0) c → Leads values places (get_or sources c 0) y
    only y c l h = ⊎_elim (λ h. older y c h (dec_lt c b)) (newer y c) (f.only y c h)

    all : (y c : ℕ) → c < b + 1 → Leads values places (get_or sources c 0) y → Has (get_or t y 0) c
    all y c l e = elim (ℕ_discrete c b) [
      | yes q ↦ (let v : Leads values places (get_or sources b 0) y = rw q at e in
          rw q (f.all 0 y (record { at = v.at; from = v.from; below = v.below; key = refl; value = v.value }) b (has-own b)))
      | no n ↦ f.keep y c ((S.mask y).all c (omega arith) e)
    ]
