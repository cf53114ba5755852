-- What the bounds of an answer say where something was read.
-- Assumes nothing.
use Rattle.std.specs.Prelude.{Ok}
use mathlib.Core.Path.{◌≡◌, subst}
use Prim.Native.Nat.{ℕ, ◌<◌}
use Rattle.call_listing.specs.declared.reader.Extent.{Extent}
use Rattle.call_listing.specs.Extent.{Told, Within, Beyond}

pub within-read : (from len : ℕ) {told : Told} {read : Extent} → told ≡ Ok read → Within from len told → Within from len (Ok read)
within-read from len e h = subst (Within from len) e h

pub beyond-read : (at : ℕ) {told : Told} {read : Extent} → told ≡ Ok read → Beyond at told → at < read.next
beyond-read at e h = subst (Beyond at) e h
