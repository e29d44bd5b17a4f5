-- What is read in front of a rest that is still to be read.
use Rattle.std.specs.Prelude.{List, ◌++◌, Ok}
use Rattle.pddl_reader.specs.Reading.{Read, and_then}

-- these, and then what is read of the rest
abbrev pub behind : {A : Type 0} → List A → Read (List A) → Read (List A)
behind xs read = and_then read (λ more. Ok (xs ++ more))
