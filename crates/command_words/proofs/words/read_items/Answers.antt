use Rattle.std.proofs.Common.{arith, sym, ◌≡◌, ◌+◌, ◌<◌, length, ap, subst, ◌∙◌, map, List, ℕ, ◌∷◌, string_bytes}
use Rattle.std.proofs.lemmas.List.{map_push}
use Rattle.command_words.specs.Commands.{IsUsageFault, command_text}
use Rattle.command_words.specs.Words.{IsFront, IsFrontFault, item_of, items_of, usage_fault_of}
use Rattle.command_words.proofs.WordsItems.{AreRead, words_behind, read_here, read_more, front_fault}
use Rattle.command_words.proofs.words.read_items.Goals as goal

pub returns-in-Err-clause-fault : goal.returns-in-Err-clause-fault
returns-in-Err-clause-fault c f e =
    let words : List (List ℕ) = map string_bytes c.args.words.now in
    let at = c.loop-at.at in
    let within : at < length c.args.words.now = omega arith in
    let behind = words_behind string_bytes c.args.words.now at c.index-words-at.result within c.index-words-at.is in
    let here = read_here (λ items ws. IsFrontFault c.args.command items ws c.in-Err.fault) _ c.loop-at.items.items _ _ _ _ c.deref.ensures.value c.as_str.ensures.value behind c.in-Err.ensures in
    let fault_is : usage_fault_of c.in-Err.fault at ≡ f = cc in
    subst (IsUsageFault (command_text c.args.command ∷ words)) fault_is (front_fault c.args.command words at (items_of c.loop-at.items.items) c.in-Err.fault c.loop-at.invariant here)

pub loop-at-preserved : goal.loop-at-preserved
loop-at-preserved c =
    let words : List (List ℕ) = map string_bytes c.args.words.now in
    let at = c.loop-at.at in
    let within : at < length c.args.words.now = omega arith in
    let behind = words_behind string_bytes c.args.words.now at c.index-words-at.result within c.index-words-at.is in
    let here = read_here (λ items ws. IsFront c.args.command items ws c.in-Ok.front) _ c.loop-at.items.items _ _ _ _ c.deref.ensures.value c.as_str.ensures.value behind c.in-Ok.ensures in
    subst (AreRead c.args.command words (at + c.in-Ok.front.count))
    (sym (ap items_of c.in_ok-push.ensures.items ∙ map_push item_of c.loop-at.items.items c.in-Ok.front.item))
    (read_more c.args.command words at (items_of c.loop-at.items.items) c.in-Ok.front c.loop-at.invariant here)
