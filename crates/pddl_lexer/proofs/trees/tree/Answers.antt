use Rattle.pddl_lexer.proofs.Steps.{settled_list, settled_fault, shallow_tree}
use Rattle.pddl_lexer.proofs.Depths.{one_list_of_tree}
use Rattle.pddl_lexer.proofs.trees.tree.Goals as goal

pub returns-clause-one_list : goal.returns-clause-one_list
returns-clause-one_list c = settled_list c.args.tokens.now c.read.result c.read.ensures.fault

pub returns-clause-first : goal.returns-clause-first
returns-clause-first c = settled_fault c.args.tokens.now c.read.result c.read.ensures.whole c.read.ensures.fault

pub returns-clause-of_tree : goal.returns-clause-of_tree
returns-clause-of_tree c = λ l h fits. settled_list c.args.tokens.now c.read.result c.read.ensures.fault (one_list_of_tree c.args.tokens.now l h fits)

pub returns-clause-shallow : goal.returns-clause-shallow
returns-clause-shallow c = shallow_tree c.args.tokens.now c.read.result c.read.ensures.found c.read.ensures.whole
