-- The plain value of a term.
use Rattle.pddl_reader.specs.Values.{PlainTerm}
use Rattle.pddl_reader.specs.declared.values.Term.{Term}
use Rattle.pddl_reader.specs.declared.values.Term.TheVariants.{Variable, Constant}

abbrev pub plain_term : Term → PlainTerm
plain_term (Variable name) = PlainTerm.Variable name
plain_term (Constant name) = PlainTerm.Constant name
