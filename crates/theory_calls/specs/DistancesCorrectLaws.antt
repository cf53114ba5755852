-- Distances is correct: what 02 asks holds of the number and the bytes that its definition gives, for all bytes; and no others have it.
-- Assumes nothing.
use Rattle.std.specs.Prelude.{◌≡◌, refl, ◌⊎◌, ◌≢◌, true, false, List, [], ℕ, ◌+◌, ◌≤◌, ◌<◌, ℤ, length, get_or}
use Rattle.std.proofs.Common.{sym, subst, ◌∙◌, inl, inr, arith}
use Rattle.lists.specs.Truth.{truth, clash}
use Rattle.lists.specs.Tab.{tab-at, tab-length}
use Rattle.chart.specs.Format.{decode}
use Rattle.chart.specs.Region.{barrier, Region}
use Rattle.chart.specs.Reading.{region_of}
use Rattle.chart.specs.Refusal.{trailer_rows, table_rows, chart_rows}
use Rattle.chart.specs.Checked.{counts_of}
use Rattle.chart.specs.WellFormed.{WellFormed}
use Rattle.chart.proofs.Records.{nodes-length}
use Rattle.chart.proofs.Rows.{both-pass}
use Rattle.chart.proofs.Accepted.{laid}
use Rattle.theory_paths.specs.PathLaws.{first_edge}
use Rattle.theory_paths.specs.Connected.{Connected}
use Rattle.theory_paths.specs.Admission.{region_rows, AdmittedIn}
use Rattle.theory_paths.specs.AdmissionLaws.{admitted-rows, admitted-well-formed, admitted-connected}
use Rattle.theory_paths.specs.Phases.{forward, nearest}
use Rattle.theory_paths.specs.NearestLaws.{nearest-path, nearest-least, nearest-most, nearest-some}
use Rattle.theory_answers.specs.Numbers.{Asked, asked, asked-node, node-asked}
use Rattle.output.specs.Output.{number_of}
use Rattle.output.proofs.OutputCorrectLaws.{output-correct, output-only}
use Rattle.theory_calls.specs.Distances.{distance_byte, distances_result, distances_written, distances_left}
use Rattle.theory_calls.specs.DistancesCorrect.{Behind, DistanceBytes, DistancesCorrect}

-- row 3's bound on the nodes
pub nodes-most : (s : List ℕ) (p : ℕ) → AdmittedIn s p → (region_of p (decode s)).nodes ≤ 192
unfolding chart_rows counts_of
nodes-most s p a =
    let l = laid s (both-pass (trailer_rows s) (table_rows (decode s)) (admitted-rows s p a)).0 in
    omega (arith, nodes-length s (counts_of s) l, l.nodes-most)

module _ (R : Region) where
  result-length : length (distances_result R) ≡ R.nodes
  unfolding distances_result
  result-length = tab-length R.nodes (distance_byte R)

  result-at : (x : ℕ) → x < R.nodes → get_or (distances_result R) x 0 ≡ distance_byte R x
  unfolding distances_result
  result-at x l = tab-at R.nodes (distance_byte R) 0 x l

  byte-asked : (x : ℕ) → Asked R x → distance_byte R x ≡ nearest forward R x
  unfolding distance_byte
  byte-asked x a = rw (node-asked R x a)

  byte-barred : (x : ℕ) → asked R x ≡ false → distance_byte R x ≡ 255
  unfolding distance_byte
  byte-barred x h = rw h

  module _ (W : WellFormed R) (C : Connected R) where
    -- a path leads to x from start, so x has a barrier before it, and start is not finish
    asked-some : (x : ℕ) → Asked R x → (0 < nearest forward R x) × (R.start ≢ R.finish)
    asked-some x a =
        let w = C.from_start a.0 (λ q. a.1 (subst (λ (z : ℕ). R.role z ≡ barrier) (sym q) W.start-barrier)) in
        let f = first_edge w in
        (nearest-some R W x w, λ q. W.finish-last (subst (λ (z : ℕ). R.edge z f.0 ≡ true) q f.1))

    pub asked-behind : (x : ℕ) → Asked R x → Behind R x (nearest forward R x)
    asked-behind x a =
        let (b, h, (w, l)) = nearest-path R W x (asked-some x a).0 in
        record { from = b; is-barrier = h; path = w; long = l; least = λ c k v. (nearest-least R W c x k v).1 }

    -- The bytes are at most two less than the number of nodes, and so at most 190: 255 is free.
    pub asked-most : (x : ℕ) → Asked R x → nearest forward R x + 2 ≤ R.nodes
    asked-most x a = nearest-most R W (asked-some x a).1 x (W.kept-below a.0) a.1

    -- what begins with the result has the bytes
    result-bytes : R.nodes ≤ 192 → (new : List ℕ) → ((x : ℕ) → x < R.nodes → get_or new x 0 ≡ get_or (distances_result R) x 0) → DistanceBytes R new
    result-bytes few new e = record {
      barriers = λ x l. ((λ q a. only x a (sym (at x l) ∙ q)), λ f. at x l ∙ barred x f (truth (asked R x)));
      fewest = λ x a. subst (Behind R x) (sym (at x (W.kept-below a.0) ∙ byte-asked x a)) (asked-behind x a);
    }
      where
        at : (x : ℕ) → x < R.nodes → get_or new x 0 ≡ distance_byte R x
        at x l = e x l ∙ result-at x l

        only : (x : ℕ) → Asked R x → distance_byte R x ≡ 255 → ⊥
        only x a q = omega (arith, q, byte-asked x a, asked-most x a, few)

        barred : (x : ℕ) → (Asked R x → ⊥) → (asked R x ≡ true) ⊎ (asked R x ≡ false) → distance_byte R x ≡ 255
        barred x f (inl h) = absurd (f (asked-node R x h))
        barred x f (inr h) = byte-barred x h

-- the fewest edges are one number
behind-most : {R : Region} {x i j : ℕ} → Behind R x i → Behind R x j → i ≤ j
behind-most I J = omega (arith, I.least J.from J.is-barrier J.path, J.long)

-- two lists that have the bytes begin alike
same_bytes : {R : Region} {l m : List ℕ} → DistanceBytes R l → DistanceBytes R m → (x : ℕ) → x < R.nodes → get_or l x 0 ≡ get_or m x 0
same_bytes {R} {l} {m} L M x b = go (truth (asked R x))
  where
    go : (asked R x ≡ true) ⊎ (asked R x ≡ false) → get_or l x 0 ≡ get_or m x 0
    go (inl h) =
        let a = asked-node R x h in
        let i = L.fewest x a in
        let j = M.fewest x a in
        omega (arith, behind-most i j, behind-most j i)
    go (inr h) = let f : Asked R x → ⊥ = λ a. clash (node-asked R x a) h in (L.barriers x b).1 f ∙ sym ((M.barriers x b).1 f)

module _ (s : List ℕ) (p : ℕ) where
  bytes_of : AdmittedIn s p → (new : List ℕ)
      → ((x : ℕ) → x < (region_of p (decode s)).nodes → get_or new x 0 ≡ get_or (distances_result (region_of p (decode s))) x 0) → DistanceBytes (region_of p (decode s)) new
  bytes_of a = result-bytes (region_of p (decode s)) (admitted-well-formed s p a) (admitted-connected s p a) (nodes-most s p a)

  -- What 02 asks of Distances.
  pub distances-correct : (old : List ℕ) → DistancesCorrect s p old (number_of (distances_written s p old)) (distances_left s p old)
  distances-correct old =
      let R = region_of p (decode s) in
      output-correct (region_rows s p) [] (distances_result R) old R.nodes (result-length R) (DistanceBytes R) bytes_of

  -- No other number and no other bytes are correct.
  pub distances-only : (old : List ℕ) (number : ℤ) (new : List ℕ) → DistancesCorrect s p old number new
      → (number ≡ number_of (distances_written s p old)) × (new ≡ distances_left s p old)
  distances-only old number new =
      let R = region_of p (decode s) in
      output-only (region_rows s p) [] (distances_result R) old R.nodes (result-length R) (DistanceBytes R) number new
      (λ a h. same_bytes h (bytes_of a (distances_result R) (λ j l. refl)))
