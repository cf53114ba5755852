-- Paths through the constructs of a region: each is entered at its begin and left at its end, and has no barrier inside.
-- Assumes nothing.
use Rattle.std.specs.Prelude.{◌≡◌, ◌⊎◌, ◌≢◌, true, false, ℕ}
use Rattle.std.proofs.Common.{ap, sym, ◌∙◌, inl, inr}
use Rattle.lists.specs.Truth.{bad, clash}
use Rattle.chart.specs.Region.{barrier, opens, closes, Outermost, Region}
use Rattle.chart.specs.WellFormed.{WellFormed}
use Rattle.theory_paths.specs.Path.{Path, Edge, Open, BarrierFree}
use Rattle.theory_paths.specs.Connected.{Connected}
use Rattle.theory_paths.specs.PathLaws.{append, reverse, carry}
use Rattle.theory_paths.specs.Doors.{Both, Not, avoid, by-door}

-- past the begin of c and not past its end: inside c, or at the end; and its mirror image
abbrev pub AfterBegin : Region → ℕ → ℕ → Type 0
AfterBegin R x c = (R.inside x c ≡ true) ⊎ (R.role x ≡ closes c)

abbrev pub BeforeEnd : Region → ℕ → ℕ → Type 0
BeforeEnd R x c = (R.inside x c ≡ true) ⊎ (R.role x ≡ opens c)

abbrev pub Inside : Region → ℕ → ℕ → Type 0
Inside R c x = R.inside x c ≡ true

module _ {R : Region} (W : WellFormed R) where
  pub back : {x y c : ℕ} → R.edge x y ≡ true → AfterBegin R y c → BeforeEnd R x c
  back e (inl h) = W.enter e h
  back e (inr h) = W.before-end e h

  pub forth : {x y c : ℕ} → R.edge x y ≡ true → BeforeEnd R x c → AfterBegin R y c
  forth e (inl h) = W.leave e h
  forth e (inr h) = W.after-begin e h

  pub inside-open : {x c : ℕ} → R.inside x c ≡ true → Open R x
  inside-open h = λ q. clash h (W.barrier-outside q _)

  -- a path that comes into c from outside leads to c's begin and on inside c
  pub entry : {P : ℕ → Type 0} {x y c : ℕ} → R.inside x c ≡ false → R.role x ≢ opens c → Path (Edge R) P x y → AfterBegin R y c
      → Path (Edge R) P x (R.begin c) × Path (Edge R) (Both P (Inside R c)) (R.begin c) y
  entry {c = c} out n w a = by-door (Inside R c) (λ z. R.role z ≡ opens c) (λ z. R.role z ≡ closes c) (λ z o. W.opens-begin o) (λ u v e b. back e b)
      (λ i. clash i out) n w a

  pub from-barrier : {P : ℕ → Type 0} {x y c : ℕ} → R.role x ≡ barrier → Path (Edge R) P x y → AfterBegin R y c
      → Path (Edge R) P x (R.begin c) × Path (Edge R) (Both P (Inside R c)) (R.begin c) y
  from-barrier {c = c} h w a = entry (W.barrier-outside h c) (λ q. bad (cc)) w a

  -- and one that comes out of c leads inside c to c's end and on: the same, turned round
  pub exit : {P : ℕ → Type 0} {x y c : ℕ} → R.inside y c ≡ false → R.role y ≢ closes c → Path (Edge R) P x y → BeforeEnd R x c
      → Path (Edge R) (Both P (Inside R c)) x (R.end c) × Path (Edge R) P (R.end c) y
  exit {c = c} out n w a =
      let h = by-door (Inside R c) (λ z. R.role z ≡ closes c) (λ z. R.role z ≡ opens c) (λ z o. W.closes-end o) (λ u v e b. forth e b)
      (λ i. clash i out) n (reverse w) a in
      (reverse h.1, reverse h.0)

  -- so a path from the begin to finish leads inside c to its end, past no barrier
  pub through : Connected R → {x c : ℕ} → R.role x ≡ opens c → BarrierFree R x (R.end c)
  through C {c = c} h =
      let b = W.finish-barrier in
      carry (λ x y e. e) (λ z i. inside-open i.1) (exit (W.barrier-outside b c) (λ q. bad (cc)) (C.begin-to-finish h) (inr h)).0

  -- a path to t's begin that does not pass s's begin can go on inside t, for two outermost constructs s and t
  on-inside : {x y s t : ℕ} → R.role (R.begin s) ≡ opens s → R.role (R.begin t) ≡ opens t → Outermost (R.kind s) → s ≢ t
      → Path (Edge R) (Both (Open R) (Not (R.begin s))) x (R.begin t) → Path (Edge R) (Both (Open R) (Inside R t)) (R.begin t) y
      → Path (Edge R) (Both (Open R) (Not (R.begin s))) x y
  on-inside {s = s} {t} os ot us n w v = append w ((λ q. bad (cc)), λ q. n (same (sym os ∙ ap R.role (sym q) ∙ ot)))
      (carry (λ x y e. e) (λ z i. (i.0, λ q. clash i.1 (ap (λ (u : ℕ). R.inside u t) q ∙ W.outermost os us t))) v)
    where
      same : {i j : ℕ} → opens i ≡ opens j → i ≡ j
      same h = cc

  -- Where barrier-free paths lead from one barrier into two different outermost constructs, one leads into one of them and does not pass the
  -- other's begin.
  pub part : {x a b s t : ℕ} → R.role x ≡ barrier → BarrierFree R x a → BarrierFree R x b → R.inside a s ≡ true → R.inside b t ≡ true
      → Outermost (R.kind s) → Outermost (R.kind t) → s ≢ t
      → Path (Edge R) (Both (Open R) (Not (R.begin t))) x a ⊎ Path (Edge R) (Both (Open R) (Not (R.begin s))) x b
  part {x} {a} {b} {s} {t} h wa wb ia ib us ut n = elim (avoid (R.begin t) wa) [
    | inl w ↦ inl w
    | inr w ↦ elim (avoid (R.begin s) w) [
      | inl v ↦ inr (on-inside (W.inside-begun ia) (W.inside-begun ib) us n (carry (λ x y e. e) (λ z p. (p.0.0, p.1)) v) (inner wb ib))
      | inr v ↦ inl (on-inside (W.inside-begun ib) (W.inside-begun ia) ut (λ q. n (sym q)) (carry (λ x y e. e) (λ z p. p.0) v) (inner wa ia))
    ]
  ]
    where
      inner : {y c : ℕ} → BarrierFree R x y → R.inside y c ≡ true → Path (Edge R) (Both (Open R) (Inside R c)) (R.begin c) y
      inner w i = (from-barrier h w (inl i)).1
