-- What row 10 of the refusals says of a region: every node is reached from start and reaches finish, along edges and past barriers.
-- Assumes nothing.
use Rattle.std.specs.Prelude.{◌≡◌, ◌≢◌, true, ℕ}
use Rattle.chart.specs.Region.{opens, closes, Region}
use Rattle.theory_paths.specs.Path.{Path, Edge, Any}

pub record Connected (R : Region) : Type 0 where
  pub from_start : {x : ℕ} → R.kept x ≡ true → x ≢ R.start → Path (Edge R) Any R.start x
  pub to-finish : {x y : ℕ} → R.edge x y ≡ true → y ≢ R.finish → Path (Edge R) Any y R.finish
  pub begin-to-finish : {x c : ℕ} → R.role x ≡ opens c → Path (Edge R) Any x R.finish
  pub end-to-finish : {x c : ℕ} → R.role x ≡ closes c → Path (Edge R) Any x R.finish
