use Rattle.std.proofs.Common.{◌≡◌, ◌++◌, ◌∷◌, ◌+◌, get_or, take, drop, refl, sym, ap, ◌∙◌, arith, take-append-drop}
use Rattle.std.proofs.lemmas.List.{drop_more}
use Rattle.pddl_lexer.specs.declared.token.Token.{Token}
use Rattle.pddl_lexer.specs.declared.token.TokenKind.TheVariants.{Open}
use Rattle.pddl_lexer.proofs.Steps.{nothing_read, refused, passed}
use Rattle.pddl_lexer.proofs.trees.read.Goals as goal

pub loop-token-init : goal.loop-token-init
loop-token-init c = nothing_read _ c.new.ensures.items refl

abbrev no_token : Token
no_token = record { kind = Open; from = 0; to = 0 }

pub returns-in_err-take-clause-fault : goal.returns-in_err-take-clause-fault
returns-in_err-take-clause-fault c =
    let tokens = c.args.tokens.now in
    let i = c.loop-token.token-index in
    let whole : take i tokens ++ get_or tokens i no_token ∷ drop (i + 1) tokens ≡ tokens =
    ap (λ s. take i tokens ++ s) (sym (drop_more tokens i no_token (omega arith))) ∙ take-append-drop i tokens in
    passed tokens c.from_residual.result c.in_err-take.field-0.0 c.from_residual.ensures.1
    (refused tokens (take i tokens) (drop (i + 1) tokens) (get_or tokens i no_token) c.loop-token.reading c.in_err-take.field-0.0 whole c.loop-token.invariant c.in_err-take.ensures.refused)
