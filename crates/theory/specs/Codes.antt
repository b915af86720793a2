-- "The sheet": the codes of a structure's entries. Assumes nothing.
use Rattle.std.specs.Prelude.{ℕ, cond, eqb}
use Rattle.theory.specs.declared.Entry.{Entry}
use Rattle.theory.specs.declared.Entry.TheVariants.{Component as component, Join as join}
use Rattle.theory.specs.declared.Join.TheVariants.{Series, Shared, Spare}

-- The codes of the joins.
abbrev pub series_code : ℕ
series_code = 8

abbrev pub shared_code : ℕ
shared_code = 9

abbrev pub spare_code : ℕ
spare_code = 10

-- What a code stands for: a join, or else a component (number 9 refuses the codes that name none).
abbrev pub entry_of : ℕ → Entry
entry_of code =
    cond (eqb code series_code) (join Series) (cond (eqb code shared_code) (join Shared) (cond (eqb code spare_code) (join Spare) (component code)))

-- The code of an entry.
abbrev pub code_of : Entry → ℕ
code_of (component i) = i
code_of (join Series) = series_code
code_of (join Shared) = shared_code
code_of (join Spare) = spare_code
