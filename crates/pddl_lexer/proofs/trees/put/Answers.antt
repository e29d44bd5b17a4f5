use Rattle.pddl_lexer.proofs.Steps.{put_one}
use Rattle.pddl_lexer.proofs.trees.put.Goals as goal

pub returns-in_ok-push : goal.returns-in_ok-push
returns-in_ok-push c = put_one c.args.lists.now.items c.push.new.self.items c.pop.new.self.items c.in-Some.list _ _ c.in-Some.ensures.items c.in_ok-push.ensures.items c.in_ok-add.ensures
