-- The numbers of the refusals, as the documents give them.
--
--   number f     == the number of the ground f
use Rattle.std.specs.Prelude.{ℕ}
use Rattle.faults.specs.declared.Fault.{Fault}
use Rattle.faults.specs.declared.Fault.TheVariants.{NoLots, TooManyLots, WrongLength, WrongRoot, NoSuchParent, WrongRank}
use Rattle.faults.specs.declared.Fault.TheVariants.{Loop, NoSheet, NoSuchLot, NoEdge, WouldPassMaxPlace, CountTooLarge}
use Rattle.faults.specs.declared.Fault.TheVariants.{SameLots, TooManyToCheck, PassesMaxPlace, FileTooShort}
use Rattle.faults.specs.declared.Fault.TheVariants.{WrongFileLength, ExponentTooLarge, ListsDiffer, TooManyForSmall}
use Rattle.faults.specs.declared.Fault.TheVariants.{WouldPassSmallPlace, Held, Other}

abbrev pub number : Fault → ℕ
number NoLots = 1
number TooManyLots = 2
number WrongLength = 3
number WrongRoot = 4
number NoSuchParent = 5
number WrongRank = 6
number Loop = 7
number NoSheet = 8
number NoSuchLot = 9
number NoEdge = 10
number WouldPassMaxPlace = 11
number CountTooLarge = 12
number SameLots = 13
number TooManyToCheck = 14
number PassesMaxPlace = 15
number FileTooShort = 16
number WrongFileLength = 17
number ExponentTooLarge = 18
number ListsDiffer = 19
number TooManyForSmall = 20
number WouldPassSmallPlace = 21
number Held = 22
number (Other o) = o.number
