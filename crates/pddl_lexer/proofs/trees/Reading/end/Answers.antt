use Rattle.std.proofs.Common.{◌≡◌, arith}
use Rattle.std.specs.Prelude.{vec_len}
use Rattle.pddl_lexer.proofs.Steps.{left_open, whole_list, empty_list}
use Rattle.pddl_lexer.proofs.trees.Reading.end.Goals as goal

pub returns-in-Some-clause-fault : goal.returns-in-Some-clause-fault
returns-in-Some-clause-fault c = λ tokens h. left_open tokens c.args.self c.pop.new.self.items c.in-Some.list h c.in-Some.ensures.items

pub returns-in-None-clause-whole : goal.returns-in-None-clause-whole
returns-in-None-clause-whole c =
    let none : vec_len c.args.self.lists ≡ 0 = c.in-None.ensures.cases.0 in
    whole_list c.args.self c.ok_or.result (empty_list c.args.self.lists.items (omega (arith, none, c.args.self.lists.ok.0))) c.ok_or.ensures.value
