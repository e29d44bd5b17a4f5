use Rattle.std.proofs.Common.{inl, inr, refl, sym, ◌∙◌, subst}
use Rattle.pddl_lexer.specs.Brackets.{IsOneList}
use Rattle.pddl_lexer.specs.Trees.{IsTreeOf}
use Rattle.pddl_reader.proofs.Counts.{few_items}
use Rattle.pddl_reader.proofs.OneForm.{same_form}
use Rattle.pddl_reader.proofs.TextFaults.{lex_faults, tree_faults, form_faults, no_fault}
use Rattle.pddl_reader.proofs.TextLemmas.{lex_memory, tree_memory, if_read}
use Rattle.pddl_reader.proofs.WordsOver.{tree_over}
use Rattle.pddl_reader.proofs.read.text_tree.Goals as goal

pub returns-in_err-tokens-clause-only : goal.returns-in_err-tokens-clause-only
returns-in_err-tokens-clause-only c = λ f h. inl (lex_memory c.from_residual.result c.in_err-tokens.field-0.0 c.from_residual.ensures.1 (c.in_err-tokens.ensures.only h.tokens h.are_tokens))

pub returns-in_err-tree-clause-only : goal.returns-in_err-tree-clause-only
returns-in_err-tree-clause-only c = λ f h.
    let same = c.deref.ensures.value ∙ if_read c.in_ok-tokens.tokens _ (c.in_ok-tokens.ensures.only h.tokens h.are_tokens) in
    inl (tree_memory c.from_residual-in_err-tree.result c.in_err-tree.field-0.0 c.from_residual-in_err-tree.ensures.1 (c.in_err-tree.ensures.one_list (subst IsOneList (sym same) h.one_list)))

pub returns-in_err-tokens-clause-fault_exactly : goal.returns-in_err-tokens-clause-fault_exactly
returns-in_err-tokens-clause-fault_exactly c = λ document f h.
    lex_faults document c.args.text.now _ c.from_residual.result c.in_err-tokens.field-0.0 c.from_residual.ensures.1 c.in_err-tokens.ensures.only c.in_err-tokens.ensures.only_bad f h

pub returns-in_err-tree-clause-fault_exactly : goal.returns-in_err-tree-clause-fault_exactly
returns-in_err-tree-clause-fault_exactly c = λ document f h.
    let found = c.in_ok-tokens.tokens in
    tree_faults document c.args.text.now _ c.from_residual-in_err-tree.result c.deref.result.now c.in_err-tree.field-0.0 c.from_residual-in_err-tree.ensures.1
    (λ at bad. no_fault found _ _ (c.in_ok-tokens.ensures.only_bad at bad))
    (λ tokens are. c.deref.ensures.value ∙ if_read found _ (c.in_ok-tokens.ensures.only tokens are))
    c.in_err-tree.ensures.one_list c.in_err-tree.ensures.first f h

pub returns-clause-form : goal.returns-clause-form
returns-clause-form c = record {
  tokens = c.in_ok-tokens.tokens.items;
  tree = c.in_ok-tree.tree;
  are_tokens = c.in_ok-tokens.ensures.found;
  one_list = subst IsOneList c.deref.ensures.value c.in_ok-tree.ensures.whole;
  is_tree = subst (λ tokens. IsTreeOf tokens c.in_ok-tree.tree) c.deref.ensures.value c.in_ok-tree.ensures.found;
  form = refl;
}

pub returns-clause-over : goal.returns-clause-over
returns-clause-over c =
    tree_over c.args.text.now c.in_ok-tokens.tokens.items c.in_ok-tree.tree c.in_ok-tokens.ensures.found (subst (λ tokens. IsTreeOf tokens c.in_ok-tree.tree) c.deref.ensures.value c.in_ok-tree.ensures.found)

pub returns-clause-few : goal.returns-clause-few
returns-clause-few c =
    few_items _ c.in_ok-tokens.tokens.items c.in_ok-tree.tree c.in_ok-tokens.ensures.rising (subst (λ tokens. IsTreeOf tokens c.in_ok-tree.tree) c.deref.ensures.value c.in_ok-tree.ensures.found)

pub returns-clause-only : goal.returns-clause-only
returns-clause-only c = λ f h.
    let same = c.deref.ensures.value ∙ if_read c.in_ok-tokens.tokens _ (c.in_ok-tokens.ensures.only h.tokens h.are_tokens) in
    inr (h.form ∙ same_form c.args.text.now h.tokens h.tree c.in_ok-tree.tree h.is_tree (subst (λ tokens. IsTreeOf tokens c.in_ok-tree.tree) same c.in_ok-tree.ensures.found))

pub returns-clause-fault_exactly : goal.returns-clause-fault_exactly
returns-clause-fault_exactly c = λ document f h.
    let found = c.in_ok-tokens.tokens in
    inr (inr (form_faults document c.args.text.now c.deref.result.now c.in_ok-tree.tree c.in_ok-tree.ensures.found
    (λ at bad. no_fault found _ _ (c.in_ok-tokens.ensures.only_bad at bad))
    (λ tokens are. c.deref.ensures.value ∙ if_read found _ (c.in_ok-tokens.ensures.only tokens are))
    (λ fault bad. no_fault c.in_ok-tree.tree _ _ (c.in_ok-tree.ensures.first fault bad)) f h))
