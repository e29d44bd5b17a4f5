use Rattle.std.proofs.Common.{◌≡◌, length, sym, ap, ◌∙◌, subst, Bor}
use Rattle.std.proofs.lemmas.List.{map_push, length-map}
use Rattle.std.proofs.lemmas.Iterator.{YieldsList-from_slice, YieldsList-from_zip}
use Rattle.std.proofs.lemmas.Iterator.Adapters.{YieldsList-from_vec}
use Rattle.std.proofs.lemmas.Iterator.Consumers.{YieldsList-end}
use Rattle.pddl_reader.specs.Values.{PlainSchema}
use Rattle.pddl_reader.specs.Sections.{Pairwise}
use Rattle.type_check.specs.Tables.{PlainLiterals, checked_schema}
use Rattle.type_check.specs.Typing.{IsTypedSchema}
use Rattle.type_check.proofs.Pairs.{pairs_push, firsts_are}
use Rattle.type_check.proofs.typing.typed_schemas.Goals as goal

pub loop-action-preserved : goal.loop-action-preserved
loop-action-preserved c =
    let R = IsTypedSchema c.args.files.now.domain c.args.files.now.problem in
    let more = map_push (λ (turn : Bor PlainSchema × PlainLiterals). turn.0.now) c.loop-action.yielded (c.in-Some.action, c.in-Some.literals) in
    let pushed = pairs_push R _ _ c.in-Some.action.now c.in_ok-typed_schema.field-0 c.loop-action.invariant.2 c.in_ok-typed_schema.ensures in
    ((tt, tt), tt, subst (λ xs. Pairwise R xs c.push.new.self.items) (sym more) (subst (Pairwise R _) (sym c.in_ok-push.ensures.items) pushed))

pub returns : goal.returns
returns c =
    let R = IsTypedSchema c.args.files.now.domain c.args.files.now.problem in
    let actions = c.args.actions.now in
    let literals = c.args.literals.items in
    let road = YieldsList-from_zip {s = c.into_iter-action-iterator.result} (YieldsList-from_slice actions (cc)) (YieldsList-from_vec literals (cc) (cc)) in
    let end = YieldsList-end road c.loop-action.yielded c.loop-action.action-iterator c.loop-action.yielded_by c.next.result c.next.new.self c.in-None.is c.next.ensures.steps in
    let many : length literals ≡ length actions = ap length c.requires ∙ length-map actions (checked_schema c.args.files.now.domain) in
    subst (λ xs. Pairwise R xs c.loop-action.schemas.items) (firsts_are c.loop-action.yielded actions literals many end.0) c.loop-action.invariant.2
