-- The program's arrays have room for every file's text.
use mathlib.Core.List.{List}
use mathlib.Core.Path.{◌≡◌}
use Prim.Native.Nat.{ℕ, ◌≤◌}
use native.Mathlib.Omega.{arith}
use lib.ListN.{length}
use Rattle.sheetfile.specs.declared.Room.{Room}
use Rattle.sheetfile.specs.SheetFile.{lots_in, Ample}

few : (m : ℕ) → lots_in m ≤ 4096
unfolding lots_in
few m = omega arith

pub ample : {B out : List ℕ} {room : Room} → 4096 ≡ length room.parent.now → 4096 ≡ length room.rank.now
    → 4096 ≡ length room.times.now → 4096 ≡ length room.x.now → 4096 ≡ length room.y.now → 4096 ≡ length room.u.now
    → 4096 ≡ length room.w.now → 4096 ≡ length room.held.now → 16384 ≡ length room.work.now → 225310 ≡ length out
    → Ample B room out
ample {B} p r t x y u w h k o = record {
  parent = omega (arith, few (length B));
  rank = omega (arith, few (length B));
  times = omega (arith, few (length B));
  steep_x = omega (arith, few (length B));
  steep_y = omega (arith, few (length B));
  balanced_x = omega (arith, few (length B));
  balanced_y = omega (arith, few (length B));
  held = omega (arith, few (length B));
  work = omega (arith, few (length B));
  long = omega (arith, few (length B));
}
