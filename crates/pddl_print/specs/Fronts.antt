-- Parts of the canonical text, which functions of their own write.
use Rattle.std.specs.Prelude.{ℕ, List, ◌++◌, map, codes}
use Rattle.pddl_reader.specs.Values.{PlainSchema, PlainDomain, PlainProblem}
use Rattle.pddl_print.specs.Canonical.{spaced, separated, name_text, typed_text, literal_text, condition_text, section_text, requirements}

-- the lines of an action up to its parameters
abbrev pub action_front : PlainSchema → List ℕ
action_front a = (codes "(:action " ++ name_text a.name ++ codes "\n:parameters (") ++ separated (map typed_text a.parameters)

-- the lines of an action behind its parameters
abbrev pub action_rest : PlainSchema → List ℕ
action_rest a = (codes ")\n:precondition " ++ condition_text a.pre) ++ (codes "\n:effect " ++ condition_text a.effect) ++ codes ")\n"

-- a domain up to its constants
abbrev pub domain_front : PlainDomain → List ℕ
domain_front d =
    (codes "(define (domain " ++ name_text d.name ++ codes ")\n")
    ++ section_text (codes ":requirements") (requirements d.actions)
    ++ section_text (codes ":types") (map typed_text d.types)
    ++ section_text (codes ":constants") (map typed_text d.constants)

-- a problem up to its objects
abbrev pub problem_front : PlainProblem → List ℕ
problem_front p =
    (codes "(define (problem " ++ name_text p.name ++ codes ")\n(:domain ")
    ++ (codes "" ++ name_text p.domain ++ codes ")\n")
    ++ section_text (codes ":objects") (map typed_text p.objects)

-- a problem behind its objects
abbrev pub problem_rest : PlainProblem → List ℕ
problem_rest p = codes "(:init" ++ spaced (map literal_text p.init) ++ codes ")\n(:goal (and)))\n"
