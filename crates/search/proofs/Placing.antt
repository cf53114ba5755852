-- One edge more in all rows of a table of edges keeps it split.
-- Assumes nothing.
use mathlib.Core.Path.{◌≡◌, ap, sym, ◌∙◌}
use mathlib.Core.Bool.{Bool, true, false}
use mathlib.Core.List.{List}
use Prim.Native.Nat.{ℕ, ◌+◌, ◌≤◌, ◌<◌}
use native.Mathlib.Omega.{arith}
use lib.ListN.{length, get_or, set, length-set}
use lib.Seq.{get_or-set_same, get_or-set_other}
use Rattle.lists.specs.Store.{at_set}
use Rattle.theory_paths.specs.Graph.{Listed, Rising}
use Rattle.theory_paths.specs.Found.{Clear}
use Rattle.search.specs.Parts.{Kept, Parted, PutIn, Come, NotedIn, row, Beside, Split, Sized, Next}
use Rattle.search.specs.declared.edges.Parts.{Parts}
use Rattle.search.proofs.Splitting.{parted-none, come-none, put-turn, come-turn}

-- before the first edge
pub split-none : {edges : List (List ℕ)} (stops : List ℕ) → ((r : ℕ) → r < 6 → length (row edges r) ≡ 1024) → ((r i : ℕ) → get_or (row edges r) i 0 < 192)
    → Split edges 0 stops (record { ups = 0; low = 1024; ins = 0 })
split-none stops long node = record {
  few = omega arith;
  from = node 0;
  to = node 1;
  order = λ i k l m. absurd (omega arith);
  plain = parted-none _ _ _ _ _ (long 2 (omega arith)) (long 3 (omega arith)) (node 2) (node 3);
  come = come-none _ _ _ _ _ (long 4 (omega arith)) (long 5 (omega arith)) (node 4) (node 5);
}

-- the parts hang on the first j edges alone
module _ {keys values keys' values' : List ℕ} {j : ℕ} (k : (i : ℕ) → i < j → get_or keys' i 0 ≡ get_or keys i 0) (v : (i : ℕ) → i < j → get_or values' i 0 ≡ get_or values i 0) where
  listed_same : {x y : ℕ} → Listed keys values j x y → Listed keys' values' j x y
  listed_same l = record { at = l.at; below = l.below; key = k l.at l.below ∙ l.key; value = v l.at l.below ∙ l.value }

  kept_same : {stops : List ℕ} {x y : ℕ} → Kept keys values stops j x y → Kept keys' values' stops j x y
  kept_same w = record { edge = listed_same w.edge; from = w.from; to = w.to }

  parted-same : {stops s t : List ℕ} {ups low : ℕ} → Parted keys values stops j s t ups low → Parted keys' values' stops j s t ups low
  parted-same i = record {
    long-s = i.long-s;
    long-t = i.long-t;
    few = i.few;
    top = i.top;
    node-s = i.node-s;
    node-t = i.node-t;
    up = λ a l. (kept_same (i.up a l).0, (i.up a l).1);
    down = λ a l m. (kept_same (i.down a l m).0, (i.down a l m).1);
    all = λ a l. rw (k a l, v a l) (i.all a l);
    rising = i.rising;
    falling = i.falling;
  }

  come-same : {stops s t : List ℕ} {n : ℕ} → Come keys values stops j s t n → Come keys' values' stops j s t n
  come-same i = record {
    long-s = i.long-s;
    long-t = i.long-t;
    few = i.few;
    node-s = i.node-s;
    node-t = i.node-t;
    only = λ a l. (listed_same (i.only a l).0, (i.only a l).1);
    all = λ a l. rw (k a l, v a l) (i.all a l);
  }

-- a key that is no lower than those before it
rising-more : (keys : List ℕ) {j : ℕ} (x : ℕ) → j < length keys → Rising keys j → ((i : ℕ) → i < j → get_or keys i 0 ≤ x) → Rising (set keys j x) (j + 1)
rising-more keys {j} x room order most i k l m =
    at_set (λ v. get_or (set keys j x) i 0 ≤ v) keys j x k room
    (λ e. at_set (λ v. v ≤ x) keys j x i room (λ _. omega arith) (λ n. most i (omega arith)))
    (λ n. rw (get_or-set_other keys j i x 0 (λ e. omega arith)) (order i k l (omega arith)))

module _ {stops : List ℕ} {j : ℕ} {l : List (List ℕ)} {parts : Parts} {x y : ℕ} (N : Next l j stops parts x y) where
  abbrev keys : List ℕ
  keys = set (row l 0) j x

  abbrev values : List ℕ
  values = set (row l 1) j y

  in-keys : j < length (row l 0)
  in-keys = omega (arith, N.sized.from, N.within)

  in-values : j < length (row l 1)
  in-values = omega (arith, N.sized.to, N.within)

  own_x : x ≡ get_or keys j 0
  own_x = sym (get_or-set_same (row l 0) j x 0 in-keys)

  own-y : y ≡ get_or values j 0
  own-y = sym (get_or-set_same (row l 1) j y 0 in-values)

  old-keys : (i : ℕ) → i < j → get_or keys i 0 ≡ get_or (row l 0) i 0
  old-keys i m = get_or-set_other (row l 0) j i x 0 (λ e. omega arith)

  old-values : (i : ℕ) → i < j → get_or values i 0 ≡ get_or (row l 1) i 0
  old-values i m = get_or-set_other (row l 1) j i y 0 (λ e. omega arith)

  order : Rising keys (j + 1)
  order = rising-more (row l 0) x in-keys N.split.order N.most

  pub split-more : {keep : Bool} {k m n : List (List ℕ)} {mid parts' : Parts} → row k 0 ≡ set (row l 0) j x → row k 1 ≡ set (row l 1) j y → Beside 0 1 l k
      → (keep ≡ true → Clear stops x × Clear stops y) → (keep ≡ false → Clear stops x → Clear stops y → ⊥)
      → PutIn x y keep k parts m mid → NotedIn x y (get_or stops y 0) m mid n parts'
      → (Split n (j + 1) stops parts' × Sized n) × ((row n 0 ≡ set (row l 0) j x) × (row n 1 ≡ set (row l 1) j y))
  split-more {keep} {k} {m} {n} {mid} {parts'} a b c yes-kept no-kept p q = (
    (
      record {
        few = omega (arith, N.within);
        from = λ i. rw froms (at_set (λ v. v < 192) (row l 0) j x i in-keys (λ _. N.from) (λ _. N.split.from i));
        to = λ i. rw tos (at_set (λ v. v < 192) (row l 1) j y i in-values (λ _. N.to) (λ _. N.split.to i));
        order = rw froms order;
        plain = rw (froms, tos) plain;
        come = rw (froms, tos) come;
      },
      record { six = q.beside.long ∙ p.beside.long ∙ c.long ∙ N.sized.six; from = ap length froms ∙ length-set (row l 0) j x ∙ N.sized.from; to = ap length tos ∙ length-set (row l 1) j y ∙ N.sized.to },
    ),
    (froms, tos),
  )
    where
      ends : (r : ℕ) → r < 2 → row n r ≡ row k r
      ends r h = q.beside.same r (λ z. omega arith) (λ z. omega arith) ∙ p.beside.same r (λ z. omega arith) (λ z. omega arith)

      before : (r : ℕ) → 4 ≤ r → row m r ≡ row l r
      before r h = p.beside.same r (λ z. omega arith) (λ z. omega arith) ∙ c.same r (λ z. omega arith) (λ z. omega arith)

      froms : row n 0 ≡ keys
      froms = ends 0 (omega arith) ∙ a

      tos : row n 1 ≡ values
      tos = ends 1 (omega arith) ∙ b

      plain : Parted keys values stops (j + 1) (row n 2) (row n 3) parts'.ups parts'.low
      plain =
          rw (q.ups, q.low, q.beside.same 2 (λ z. omega arith) (λ z. omega arith), q.beside.same 3 (λ z. omega arith) (λ z. omega arith))
          (put-turn order (omega arith) (rw (← own_x) N.from) (rw (← own-y) N.to) (parted-same old-keys old-values N.split.plain) (rw (own_x, own-y) at yes-kept) (rw (own_x, own-y) at no-kept)
          (rw (own_x, own-y, c.same 2 (λ z. omega arith) (λ z. omega arith), c.same 3 (λ z. omega arith) (λ z. omega arith)) at p.put))

      come : Come keys values stops (j + 1) (row n 4) (row n 5) parts'.ins
      come =
          come-turn N.within (rw (← own_x) N.from) (rw (← own-y) N.to) (come-same old-keys old-values N.split.come)
          (rw (own_x, own-y, before 4 (omega arith), before 5 (omega arith), p.ins) at q.noted)
