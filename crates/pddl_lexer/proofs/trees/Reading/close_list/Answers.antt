use Rattle.std.proofs.Common.{◌≡◌, [], List, refl, sym, ap, ◌∙◌, arith}
use Rattle.std.specs.Prelude.{vec_len}
use Rattle.pddl_lexer.specs.declared.trees.Item.TheFolds.{fold-roll-Item}
use Rattle.pddl_lexer.specs.declared.trees.Item.TheOpen.{Item-F}
use Rattle.pddl_lexer.specs.declared.trees.Item.TheVariants.{rolls-List}
use Rattle.pddl_lexer.specs.Trees.{Mark, marks_at, marks_of_item, marks_of_list}
use Rattle.pddl_lexer.proofs.Steps.{closed_inner, closed_outer, no_len, empty_list}
use Rattle.pddl_lexer.proofs.trees.Reading.close_list.Goals as goal

pub returns-then-is_empty-clause-taken : goal.returns-then-is_empty-clause-taken
returns-then-is_empty-clause-taken c =
    let none : vec_len c.pop.new.self ≡ 0 = no_len (vec_len c.pop.new.self) (sym c.is_empty.ensures ∙ c.if-is_empty.true) in
    let outer : c.pop.new.self.items ≡ [] = empty_list c.pop.new.self.items (omega (arith, none, c.pop.new.self.ok.0)) in
    λ seen h. closed_outer seen c.args.token c.args.self.now _ c.pop.new.self.items c.in-Some.list c.requires h c.in-Some.ensures.items outer outer refl

pub returns-in_ok-put-in-Some-clause-taken : goal.returns-in_ok-put-in-Some-clause-taken
returns-in_ok-put-in-Some-clause-taken c =
    λ seen h. closed_inner seen c.args.token c.args.self.now _ c.pop.new.self.items c.in-Some.list c.requires h c.in-Some.ensures.items _ c.in_ok-put-in-Some.ensures (ap marks_at (sym (rolls-List c.in-Some.list)) ∙ fold-roll-Item (List Mark) (List Mark) marks_of_item marks_of_list (Item-F.List c.in-Some.list)) refl
