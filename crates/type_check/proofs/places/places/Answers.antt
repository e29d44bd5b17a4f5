use Rattle.std.proofs.Common.{map, ap, ◌∙◌, arith}
use Rattle.std.proofs.lemmas.List.{map_push}
use Rattle.type_check.specs.Typing.{IsPlace}
use Rattle.type_check.proofs.Pairs.{pairs_more}
use Rattle.type_check.proofs.places.places.Goals as goal

pub loop-parameter-preserved : goal.loop-parameter-preserved
loop-parameter-preserved c =
    pairs_more (IsPlace c.args.files.now.domain c.args.files.now.problem) c.args.parameters.now (map (λ place. place.items) c.loop-parameter.places.items) _
    c.loop-parameter.parameter-index c.parameter-item.result c.in_ok-place.field-0.items (omega arith) c.parameter-item.is
    (ap (map (λ place. place.items)) c.in_ok-push.ensures.items ∙ map_push (λ place. place.items) c.loop-parameter.places.items c.in_ok-place.field-0)
    c.loop-parameter.invariant c.in_ok-place.ensures
