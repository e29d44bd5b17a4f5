use Rattle.std.proofs.Common.{◌≡◌, ◌⊎◌, ◌∙◌, ℕ, inl, inr, sym, ap}
use Rattle.pddl_reader.specs.Terms.{plain_term}
use Rattle.type_check.specs.declared.typed.TypedTerm.{TypedTerm}
use Rattle.type_check.specs.declared.typed.TypedTerm.TheVariants.{Parameter, Object}
use Rattle.type_check.specs.Scopes.{typed_in, object_in, term_in}
use Rattle.type_check.proofs.LiteralLaws.{number_in, ground_number}
use Rattle.type_check.proofs.literals.Scope.object_of.Goals as goal

same_number : (t u : TypedTerm) (n : ℕ) → (t ≡ Parameter n) ⊎ (t ≡ Object n) → t ≡ u → n ≡ number_in u
same_number t u n (inl is) same = ap number_in (sym is ∙ same)
same_number t u n (inr is) same = ap number_in (sym is ∙ same)

pub returns-in-Parameter-clause-object : goal.returns-in-Parameter-clause-object
unfolding typed_in object_in term_in
returns-in-Parameter-clause-object c =
    let s = c.args.self.now in
    same_number c.in_ok-number.field-0 (typed_in s (plain_term c.args.term.now)) c.in-Parameter.number c.in-Parameter.is c.in_ok-number.ensures.typed
    ∙ ground_number s.domain s.file s.parameters s.objects (plain_term c.args.term.now) c.args.place.now c.requires c.in_ok-number.ensures.passed
