-- The nodes that share a bit with a mask: the union, over its bits, of the sets of the nodes that have them.
-- Assumes nothing.
use Rattle.std.specs.Prelude.{◌≡◌, ◌↔◌, true, ◌&&◌, List, ℕ, zero, suc, ◌+◌, ◌^◌, ◌≤◌, ◌<◌, eqb, get_or}
use Rattle.std.proofs.Common.{sym, ◌∙◌, arith, pow-suc, eqb-true, eq-eqb}
use Rattle.lists.specs.Truth.{same_truth, and_both, both-and}
use Rattle.lists.specs.Mask.{Has, Mask, mask-of}
use Rattle.lists.specs.Bits.{has, has_of, has-below}
use Rattle.lists.specs.Common.{common, common-test}
use Rattle.masks.specs.Unions.{Joined}
use Rattle.answer_nodes.specs.Gathered.{having, Gathered}

pow_more : (n : ℕ) → n < 2 ^ n
pow_more zero = omega arith
pow_more (suc n) = omega (arith, pow_more n, pow-suc 2 n)

-- a number as the mask of its own bits
pub own-mask : (n k : ℕ) → n ≤ k → Mask (Has n) k n
own-mask n k l = record { small = omega (arith, pow_more k); only = λ b m h. h; all = λ b m h. h }

pub common-of : (m n : ℕ) → (common m n ≡ true) ↔ ((b : ℕ) × (Has m b × Has n b))
common-of m n =
    let t = common-test (own-mask m (m + n) (omega arith)) (own-mask n (m + n) (omega arith)) in (
      (λ h. let (b, (l, p)) = t.0 h in (b, p)),
      λ (b, (p, q)). t.1 (b, (has-below m (m + n) b (own-mask m (m + n) (omega arith)).small p, (p, q))),
    )

module _ {closed masks : List ℕ} {first : ℕ} {sets : List ℕ} {mask union : ℕ} (G : Gathered closed masks first sets) (J : Joined mask sets union)
    (bound : mask < 2 ^ 64) (j : ℕ) (l : j < 64) where
  pub shared : has union j ≡ (eqb (get_or closed (first + j) 0) 0 && common mask (get_or masks (first + j) 0))
  shared = same_truth _ _ to from
    where
      to : has union j ≡ true → (eqb (get_or closed (first + j) 0) 0 && common mask (get_or masks (first + j) 0)) ≡ true
      to h =
          let (b, (m, (p, q))) = J.only j (eqb-true _ 1 h) in
          let f = having closed masks first b in
          let in-set : has (get_or sets b 0) j ≡ true = eq-eqb _ 1 q in
          let (o, t) = and_both (eqb (get_or closed (first + j) 0) 0) (has (get_or masks (first + j) 0) b) (sym (has_of f 64 j l) ∙ (rw (G.at b m) at in-set)) in
          both-and _ _ o ((common-of mask (get_or masks (first + j) 0)).1 (b, (p, eqb-true _ 1 t)))

      from : (eqb (get_or closed (first + j) 0) 0 && common mask (get_or masks (first + j) 0)) ≡ true → has union j ≡ true
      from h =
          let (o, t) = and_both (eqb (get_or closed (first + j) 0) 0) (common mask (get_or masks (first + j) 0)) h in
          let (b, (p, q)) = (common-of mask (get_or masks (first + j) 0)).0 t in
          let m = has-below mask 64 b bound p in
          eq-eqb _ 1 (J.all b p j (rw (G.at b m) ((mask-of (having closed masks first b) 64).all j l (both-and _ _ o (eq-eqb _ 1 q)))))
