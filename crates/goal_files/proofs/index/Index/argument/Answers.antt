use Rattle.std.proofs.Common.{Contains, subst, sym, ◌∙◌}
use Rattle.std.proofs.lemmas.Bool.{false≢true}
use Rattle.goal_files.specs.LineReading.{IsIndexed}
use Rattle.goal_files.proofs.GroundLaws.{few_objects, object_named, not_named, only_named}
use Rattle.goal_files.proofs.index.Index.argument.Goals as goal

pub number_of-requires : goal.number_of-requires
number_of-requires c = few_objects c.self.inside.typed.now _ _ _ c.self.invariant

pub returns-in_err-number : goal.returns-in_err-number
returns-in_err-number c =
    let indexed = subst (λ t. IsIndexed t c.self.inside.predicates c.self.inside.schemas c.self.inside.objects) c.self.view_is c.self.invariant in
    rw c.from_residual.ensures
    (λ number named fits. not_named c.args.self.now _ _ _ indexed c.args.name.now number c.in_err-number.ensures named)

pub returns-then-fits : goal.returns-then-fits
returns-then-fits c =
    let indexed = subst (λ t. IsIndexed t c.self.inside.predicates c.self.inside.schemas c.self.inside.objects) c.self.view_is c.self.invariant in
    (object_named c.args.self.now _ _ _ indexed c.args.name.now c.in_ok-number.number c.in_ok-number.ensures, c.fits.ensures.0 c.if-fits.true)

pub returns-else-fits : goal.returns-else-fits
returns-else-fits c number named fits =
    let indexed = subst (λ t. IsIndexed t c.self.inside.predicates c.self.inside.schemas c.self.inside.objects) c.self.view_is c.self.invariant in
    let same = only_named c.args.self.now _ _ _ indexed c.args.name.now c.in_ok-number.number number c.in_ok-number.ensures named in
    false≢true (sym c.if-fits.false ∙ c.fits.ensures.1 (subst (Contains c.args.place.now) same fits))
