use Rattle.std.proofs.Common.{◌<◌, List, refl, sym, ap, ◌∙◌, arith}
use Rattle.std.specs.Prelude.{vec_len}
use Rattle.pddl_lexer.specs.declared.trees.Item.TheFolds.{fold-roll-Item}
use Rattle.pddl_lexer.specs.declared.trees.Item.TheOpen.{Item-F}
use Rattle.pddl_lexer.specs.declared.trees.Item.TheVariants.{rolls-Word}
use Rattle.pddl_lexer.specs.Trees.{Mark, marks_at, marks_of_item, marks_of_list}
use Rattle.pddl_lexer.proofs.Steps.{word_one, some_len}
use Rattle.pddl_lexer.proofs.trees.Reading.add_word.Goals as goal

pub returns-clause-taken : goal.returns-clause-taken
returns-clause-taken c =
    let some : 0 < vec_len c.args.self.now.lists = some_len (vec_len c.args.self.now.lists) (sym c.is_empty.ensures ∙ c.if-is_empty.false) in
    λ seen h. word_one seen c.args.token c.args.self.now _ _ c.requires h c.in_ok-put.ensures (ap marks_at (sym (rolls-Word c.args.token)) ∙ fold-roll-Item (List Mark) (List Mark) marks_of_item marks_of_list (Item-F.Word c.args.token)) refl (omega (arith, some, c.args.self.now.lists.ok.0))
