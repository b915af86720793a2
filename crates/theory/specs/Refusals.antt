-- "Refusal by number": each refusal, with its number; 16 to 18 are those of document 02. What breaks each rule stands with the tests that
-- have the number. Assumes nothing.
use Rattle.std.specs.Prelude.{ℕ, Bool, true, false, Result, Ok, Err}
use Rattle.theory.specs.declared.Refusal.{Refusal}
use Rattle.theory.specs.declared.Refusal.TheVariants.{Length, Edition, ComponentCount, Layout, ZeroBits, Total, Interval, Weights, Entry, Naming, Joins, Store, Allowance, ListLength, SheetRoom, Target, DemandCount, SharesRoom}

abbrev pub refusal_number : Refusal → ℕ
refusal_number Length = 1
refusal_number Edition = 2
refusal_number ComponentCount = 3
refusal_number Layout = 4
refusal_number ZeroBits = 5
refusal_number Total = 6
refusal_number Interval = 7
refusal_number Weights = 8
refusal_number Entry = 9
refusal_number Naming = 10
refusal_number Joins = 11
refusal_number Store = 12
refusal_number Allowance = 13
refusal_number ListLength = 14
refusal_number SheetRoom = 15
refusal_number Target = 16
refusal_number DemandCount = 17
refusal_number SharesRoom = 18

-- The number of an answer that a refusal may stand for: 0 where it is accepted.
abbrev pub number_in : {A : Type 0} → Result A Refusal → ℕ
number_in (Ok x) = 0
number_in (Err refusal) = refusal_number refusal

-- What one test answers: its refusal where it is broken.
abbrev pub refused_when : Refusal → Bool → Result (Unit {0}) Refusal
refused_when refusal true = Err refusal
refused_when refusal false = Ok tt
