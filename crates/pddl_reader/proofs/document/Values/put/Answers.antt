use Rattle.std.proofs.Common.{refl, append-nil}
use Rattle.pddl_reader.specs.Sections.{HasTypes, HasConstants, HasPredicates, HasDomain, HasObjects, HasInit, types_in, constants_in, section_predicates_in, actions_in, domains_in, objects_in, init_in}
use Rattle.pddl_reader.proofs.Gathered.{with_first, with_none}
use Rattle.pddl_reader.proofs.ValueLemmas.{no_types, no_constants, no_predicates, no_domains, no_objects, no_init, no_start, a_start}
use Rattle.pddl_reader.proofs.document.Values.put.Goals as goal

pub returns-in-Types-clause-kept : goal.returns-in-Types-clause-kept
returns-in-Types-clause-kept c =
    let s = HasTypes c.in-Types.names.items in
    rw c.in-Types.is (λ seen h fresh. record {
      types = with_first types_in seen s _ (no_types seen fresh) refl;
      constants = with_none constants_in seen s _ h.constants refl;
      predicates = with_none section_predicates_in seen s _ h.predicates refl;
      actions = with_none actions_in seen s _ h.actions refl;
      domain = with_none domains_in seen s _ h.domain refl;
      objects = with_none objects_in seen s _ h.objects refl;
      init = with_none init_in seen s _ h.init refl;
      starts = no_start seen s _ h.starts refl;
    })

pub returns-in-Constants-clause-kept : goal.returns-in-Constants-clause-kept
returns-in-Constants-clause-kept c =
    let s = HasConstants c.in-Constants.names.items in
    rw c.in-Constants.is (λ seen h fresh. record {
      types = with_none types_in seen s _ h.types refl;
      constants = with_first constants_in seen s _ (no_constants seen fresh) refl;
      predicates = with_none section_predicates_in seen s _ h.predicates refl;
      actions = with_none actions_in seen s _ h.actions refl;
      domain = with_none domains_in seen s _ h.domain refl;
      objects = with_none objects_in seen s _ h.objects refl;
      init = with_none init_in seen s _ h.init refl;
      starts = no_start seen s _ h.starts refl;
    })

pub returns-in-Predicates-clause-kept : goal.returns-in-Predicates-clause-kept
returns-in-Predicates-clause-kept c =
    let s = HasPredicates c.in-Predicates.predicates.items in
    rw c.in-Predicates.is (λ seen h fresh. record {
      types = with_none types_in seen s _ h.types refl;
      constants = with_none constants_in seen s _ h.constants refl;
      predicates = with_first section_predicates_in seen s _ (no_predicates seen fresh) refl;
      actions = with_none actions_in seen s _ h.actions refl;
      domain = with_none domains_in seen s _ h.domain refl;
      objects = with_none objects_in seen s _ h.objects refl;
      init = with_none init_in seen s _ h.init refl;
      starts = no_start seen s _ h.starts refl;
    })

pub returns-in-Domain-clause-kept : goal.returns-in-Domain-clause-kept
returns-in-Domain-clause-kept c =
    let s = HasDomain c.in-Domain.name in
    rw c.in-Domain.is (λ seen h fresh. record {
      types = with_none types_in seen s _ h.types refl;
      constants = with_none constants_in seen s _ h.constants refl;
      predicates = with_none section_predicates_in seen s _ h.predicates refl;
      actions = with_none actions_in seen s _ h.actions refl;
      domain = with_first domains_in seen s _ (no_domains seen fresh) refl;
      objects = with_none objects_in seen s _ h.objects refl;
      init = with_none init_in seen s _ h.init refl;
      starts = no_start seen s _ h.starts refl;
    })

pub returns-in-Objects-clause-kept : goal.returns-in-Objects-clause-kept
returns-in-Objects-clause-kept c =
    let s = HasObjects c.in-Objects.names.items in
    rw c.in-Objects.is (λ seen h fresh. record {
      types = with_none types_in seen s _ h.types refl;
      constants = with_none constants_in seen s _ h.constants refl;
      predicates = with_none section_predicates_in seen s _ h.predicates refl;
      actions = with_none actions_in seen s _ h.actions refl;
      domain = with_none domains_in seen s _ h.domain refl;
      objects = with_first objects_in seen s _ (no_objects seen fresh) refl;
      init = with_none init_in seen s _ h.init refl;
      starts = no_start seen s _ h.starts refl;
    })

pub returns-in-Init-clause-kept : goal.returns-in-Init-clause-kept
returns-in-Init-clause-kept c =
    let s = HasInit c.in-Init.atoms.items in
    rw c.in-Init.is (λ seen h fresh. record {
      types = with_none types_in seen s _ h.types refl;
      constants = with_none constants_in seen s _ h.constants refl;
      predicates = with_none section_predicates_in seen s _ h.predicates refl;
      actions = with_none actions_in seen s _ h.actions refl;
      domain = with_none domains_in seen s _ h.domain refl;
      objects = with_none objects_in seen s _ h.objects refl;
      init = with_first init_in seen s _ (no_init seen fresh) (append-nil _);
      starts = a_start seen s refl;
    })
