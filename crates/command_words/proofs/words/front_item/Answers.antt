use Rattle.std.proofs.Common.{◌≢◌, arith, sym, subst, ◌∷◌, map, string_bytes, Some, None, MatchResult}
use Rattle.std.proofs.lemmas.List.Elements.{All-from_get_or}
use Rattle.std.proofs.lemmas.Str.Pattern.{split_parts}
use Rattle.command_words.specs.Words.{items_of, IsFront, IsFrontFault}
use Rattle.command_words.proofs.words.front_item.Goals as goal

pub joined_item-requires : goal.joined_item-requires
joined_item-requires c =
    let parts = split_parts 61 c.args.word.now (Some (c.in-Some.flag, c.in-Some.value)) c.in-Some.ensures.cases (omega arith) in
    All-from_get_or (λ b. b ≢ 61) c.in-Some.flag.now 0 parts.1

pub bare_item-requires : goal.bare_item-requires
bare_item-requires c =
    All-from_get_or (λ b. b ≢ 61) c.args.word.now 0 (split_parts 61 c.args.word.now None c.in-None.ensures.cases (omega arith))

pub returns-in-Some : goal.returns-in-Some
returns-in-Some c =
    let parts = split_parts 61 c.args.word.now (Some (c.in-Some.flag, c.in-Some.value)) c.in-Some.ensures.cases (omega arith) in
    let items = items_of c.args.items.now in
    let rest = map string_bytes c.args.rest.now in
    subst (λ word. MatchResult c.joined_item.result (IsFront c.args.command items (word ∷ rest)) (IsFrontFault c.args.command items (word ∷ rest)))
    (sym parts.0) (c.joined_item.ensures rest)
