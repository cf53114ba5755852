-- What row 10 of the refusals says of a region: every node is reached from start and reaches finish, and so the region is connected.
-- Assumes nothing.
use Rattle.std.specs.Prelude.{◌≡◌, ◌≢◌, Bool, true, false, ◌&&◌, ℕ, ◌<◌, eqb}
use Rattle.std.proofs.Math.Bool.{not}
use Rattle.std.proofs.Common.{ne_eqb}
use Rattle.std.proofs.lemmas.Bool.{not-false}
use Rattle.lists.specs.Truth.{bad, or-neither, and-fails}
use Rattle.lists.specs.Range.{none_passes}
use Rattle.chart.specs.Region.{Region}
use Rattle.chart.specs.WellFormed.{WellFormed}
use Rattle.theory_paths.specs.Path.{Path, Edge, Any}
use Rattle.theory_paths.specs.Decide.{reaches_any, any-path}
use Rattle.theory_paths.specs.Connected.{Connected}
use Rattle.theory_paths.specs.Admission.{cut_off, bad_paths}

module _ (R : Region) (W : WellFormed R) (h : bad_paths R ≡ false) where
  -- one half of row 10, of one node: y is x itself, or a path leads there
  joins : (x : ℕ) (y : ℕ) (reached : Bool) → (not (eqb x y) && not reached) ≡ false → x ≢ y → reached ≡ true
  joins x y reached c n = not-false _ (and-fails (not (eqb x y)) _ c (rw (ne_eqb x y n)))

  halves : (x : ℕ) → x < R.nodes
      → ((not (eqb x R.start) && not (reaches_any R R.start x)) ≡ false) × ((not (eqb x R.finish) && not (reaches_any R x R.finish)) ≡ false)
  unfolding bad_paths cut_off
  halves x l = or-neither (not (eqb x R.start) && not (reaches_any R R.start x)) _ (none_passes R.nodes (cut_off R) h x l)

  pub from_start : (x : ℕ) → x < R.nodes → x ≢ R.start → Path (Edge R) Any R.start x
  from_start x l n = any-path R W R.start x (joins x R.start _ (halves x l).0 n)

  pub to-finish : (x : ℕ) → x < R.nodes → x ≢ R.finish → Path (Edge R) Any x R.finish
  to-finish x l n = any-path R W x R.finish (joins x R.finish _ (halves x l).1 n)

  pub connected : Connected R
  connected = record {
    from_start = λ {x} k n. from_start x (W.kept-below k) n;
    to-finish = λ {x} {y} e n. to-finish y (W.to_below e) n;
    begin-to-finish = λ {x} w. to-finish x (W.begin-below w) (λ q. bad (cc W.finish-barrier));
    end-to-finish = λ {x} w. to-finish x (W.end_below w) (λ q. bad (cc W.finish-barrier));
  }
