use Rattle.std.proofs.Common.{◌≡◌, ◌<◌, [], rules, refl, sym, ap, ◌∙◌, length, arith}
use Rattle.std.specs.Prelude.{None, vec_len}
use Rattle.pddl_lexer.specs.declared.trees.Item.TheViews.{the_lemmas}
use Rattle.pddl_lexer.proofs.Steps.{opened_one, some_len, none_of}
use Rattle.pddl_lexer.proofs.trees.Reading.open_list.Goals as goal
use Rattle.pddl_lexer.proofs.trees.Reading.open_list.Goals.{else-is_empty-via-then-is_empty+else-is_some, else-is_empty-via-else-is_empty}

pub returns-clause-taken : goal.returns-clause-taken
returns-clause-taken c =
    let not_done : c.args.self.now.lists.items ≡ [] → c.args.self.now.done ≡ None = elim c.else-is_empty.branch [
      | else-is_empty-via-then-is_empty+else-is_some w ↦ λ no_lists. none_of c.args.self.now.done (sym w.is_some.ensures ∙ w.if-is_some.false)
      | else-is_empty-via-else-is_empty w ↦ λ no_lists.
          let some : 0 < vec_len c.args.self.now.lists = some_len (vec_len c.args.self.now.lists) (sym c.is_empty.ensures ∙ w.if-is_empty.false) in
          absurd (omega (arith, some, ap length no_lists, c.args.self.now.lists.ok.0))
    ] in
    λ seen h.
    opened_one seen c.args.token c.args.self.now _ _ c.requires h c.in_ok-push.ensures.items refl (search (rules, the_lemmas))
    (λ full. c.if-len-eq-DEPTH.false (omega (arith, full, c.len.ensures, c.args.self.now.lists.ok.0))) not_done
