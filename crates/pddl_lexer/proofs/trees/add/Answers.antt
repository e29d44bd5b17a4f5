use Rattle.std.proofs.Common.{rules}
use Rattle.pddl_lexer.proofs.Marks.{join_push}
use Rattle.pddl_lexer.specs.declared.trees.Item.TheViews.{the_lemmas}
use Rattle.pddl_lexer.proofs.trees.add.Goals as goal

pub returns : goal.returns
returns c = search (rules, the_lemmas, join_push)
