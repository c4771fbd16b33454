-- `slopes::ten::row` meets its contract: each row is computed.
use mathlib.Core.List.{List}
use mathlib.Core.Path.{◌≡◌, refl, sym, ap, ◌∙◌}
use Prim.Native.Nat.{ℕ}
use native.Mathlib.Omega.{arith}
use Rattle.slopes.specs.declared.Slope.{Slope}
use Rattle.slopes.specs.Rows.{row_of, slopes_in}
use Rattle.slopes.specs.Ten.{ten}
use Rattle.slopes.proofs.ten.row.Goals as goal

in_row : {r i : ℕ} {row : List Slope} → r ≡ i → row ≡ row_of i → row ≡ row_of r
in_row at is = is ∙ sym (ap row_of at)

pub returns-in-0 : goal.returns-in-0
unfolding slopes_in ten
returns-in-0 c = in_row c.in-0.is refl

pub returns-in-1 : goal.returns-in-1
unfolding slopes_in ten
returns-in-1 c = in_row c.in-1.is refl

pub returns-in-2 : goal.returns-in-2
unfolding slopes_in ten
returns-in-2 c = in_row c.in-2.is refl

pub returns-in-3 : goal.returns-in-3
unfolding slopes_in ten
returns-in-3 c = in_row c.in-3.is refl

pub returns-in-4 : goal.returns-in-4
unfolding slopes_in ten
returns-in-4 c = in_row c.in-4.is refl

pub returns-in-5 : goal.returns-in-5
unfolding slopes_in ten
returns-in-5 c = in_row c.in-5.is refl

pub returns-in-6 : goal.returns-in-6
unfolding slopes_in ten
returns-in-6 c = in_row c.in-6.is refl

pub returns-in-7 : goal.returns-in-7
unfolding slopes_in ten
returns-in-7 c = in_row c.in-7.is refl

pub returns-in-8 : goal.returns-in-8
unfolding slopes_in ten
returns-in-8 c = in_row c.in-8.is refl

pub returns-in-9 : goal.returns-in-9
unfolding slopes_in ten
returns-in-9 c = in_row c.in-9.is refl

pub returns-in-10 : goal.returns-in-10
unfolding slopes_in ten
returns-in-10 c = in_row c.in-10.is refl

pub returns-in-11 : goal.returns-in-11
unfolding slopes_in ten
returns-in-11 c = in_row c.in-11.is refl

pub returns-in-12 : goal.returns-in-12
unfolding slopes_in ten
returns-in-12 c = in_row c.in-12.is refl

pub returns-in-13 : goal.returns-in-13
unfolding slopes_in ten
returns-in-13 c = in_row c.in-13.is refl

pub returns-in-14 : goal.returns-in-14
unfolding slopes_in ten
returns-in-14 c = in_row c.in-14.is refl

pub returns-in-15 : goal.returns-in-15
unfolding slopes_in ten
returns-in-15 c = in_row c.in-15.is refl

pub returns-in-16 : goal.returns-in-16
unfolding slopes_in ten
returns-in-16 c = in_row c.in-16.is refl

pub returns-in-17 : goal.returns-in-17
unfolding slopes_in ten
returns-in-17 c = in_row c.in-17.is refl

pub returns-in-18 : goal.returns-in-18
unfolding slopes_in ten
returns-in-18 c = in_row c.in-18.is refl

pub returns-in-19 : goal.returns-in-19
unfolding slopes_in ten
returns-in-19 c = in_row c.in-19.is refl

pub returns-in-20 : goal.returns-in-20
unfolding slopes_in ten
returns-in-20 c = in_row c.in-20.is refl

pub returns-in-21 : goal.returns-in-21
unfolding slopes_in ten
returns-in-21 c = in_row c.in-21.is refl

pub returns-in-22 : goal.returns-in-22
unfolding slopes_in ten
returns-in-22 c = in_row c.in-22.is refl

pub returns-in-23 : goal.returns-in-23
unfolding slopes_in ten
returns-in-23 c = in_row c.in-23.is refl

pub returns-in-24 : goal.returns-in-24
unfolding slopes_in ten
returns-in-24 c = in_row c.in-24.is refl

pub returns-in-25 : goal.returns-in-25
unfolding slopes_in ten
returns-in-25 c = in_row c.in-25.is refl

pub returns-in-26 : goal.returns-in-26
unfolding slopes_in ten
returns-in-26 c = in_row c.in-26.is refl

pub returns-in-27 : goal.returns-in-27
unfolding slopes_in ten
returns-in-27 c = in_row c.in-27.is refl

pub returns-in-28 : goal.returns-in-28
unfolding slopes_in ten
returns-in-28 c = in_row c.in-28.is refl

pub returns-in-29 : goal.returns-in-29
unfolding slopes_in ten
returns-in-29 c = in_row c.in-29.is refl

pub returns-in-30 : goal.returns-in-30
unfolding slopes_in ten
returns-in-30 c = in_row c.in-30.is refl

pub returns-in_default : goal.returns-in_default
unfolding slopes_in ten
returns-in_default c = let last : c.args.r ≡ 31 = omega arith in in_row last refl
