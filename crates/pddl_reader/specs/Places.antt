-- Values that differ in places alone are the same.
use Rattle.std.specs.Prelude.{◌≡◌, map}
use Rattle.pddl_reader.specs.Forms.{Word}
use Rattle.pddl_reader.specs.Values.{PlainTypedName, PlainTerm, PlainLiteral, PlainSchema, PlainPredicate, PlainDomain, PlainProblem}
use Rattle.pddl_reader.specs.Values.PlainTerm.{Variable, Constant}

-- the value with the place 0 in each name
abbrev pub unplaced : Word → Word
unplaced w = record { text = w.text; at = 0 }

abbrev pub unplaced_typed : PlainTypedName → PlainTypedName
unplaced_typed n = record { name = unplaced n.name; types = map unplaced n.types }

abbrev pub unplaced_term : PlainTerm → PlainTerm
unplaced_term (Variable w) = Variable (unplaced w)
unplaced_term (Constant w) = Constant (unplaced w)

abbrev pub unplaced_literal : PlainLiteral → PlainLiteral
unplaced_literal l = record { positive = l.positive; predicate = unplaced l.predicate; terms = map unplaced_term l.terms }

abbrev pub unplaced_schema : PlainSchema → PlainSchema
unplaced_schema a = record {
  name = unplaced a.name;
  parameters = map unplaced_typed a.parameters;
  pre = map unplaced_literal a.pre;
  effect = map unplaced_literal a.effect;
}

abbrev pub unplaced_predicate : PlainPredicate → PlainPredicate
unplaced_predicate p = record { name = unplaced p.name; parameters = map unplaced_typed p.parameters }

abbrev pub unplaced_domain : PlainDomain → PlainDomain
unplaced_domain d = record {
  name = unplaced d.name;
  types = map unplaced_typed d.types;
  constants = map unplaced_typed d.constants;
  predicates = map unplaced_predicate d.predicates;
  actions = map unplaced_schema d.actions;
}

abbrev pub unplaced_problem : PlainProblem → PlainProblem
unplaced_problem p = record {
  name = unplaced p.name;
  domain = unplaced p.domain;
  objects = map unplaced_typed p.objects;
  init = map unplaced_literal p.init;
}

-- the two differ in places alone
abbrev pub IsSameDomain : PlainDomain → PlainDomain → Type 0
IsSameDomain d e = unplaced_domain d ≡ unplaced_domain e

abbrev pub IsSameProblem : PlainProblem → PlainProblem → Type 0
IsSameProblem p q = unplaced_problem p ≡ unplaced_problem q
