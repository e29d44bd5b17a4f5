use Rattle.std.proofs.Common.{◌≡◌, ℕ, ◌+◌, ◌<◌, List, [], ◌∷◌, ◌++◌, length, get_or, inr, sym, ap, ◌∙◌, subst, arith}
use Rattle.std.proofs.lemmas.List.{take_rest}
use Rattle.pddl_lexer.specs.declared.token.Token.{Token}
use Rattle.pddl_lexer.specs.declared.token.TokenKind.{TokenKind}
use Rattle.pddl_lexer.specs.Tokens.{IsFirstBad, kind_of}
use Rattle.pddl_lexer.proofs.Chains.{Reads, past_space, past_comment, past_token, is_bad_here, first_bad, no_tokens, one_bad, all_found, only_found, none_bad, spans_of_tokens}
use Rattle.pddl_lexer.proofs.token.tokens.Goals as goal

-- what is found after a token is put at the end
one_more : (text : List ℕ) (old new : List Token) (kind : TokenKind) (from to b : ℕ) → new ≡ old ++ record { kind = kind; from = from; to = to } ∷ [] → kind ≡ kind_of b → Reads text to (old ++ record { kind = kind_of b; from = from; to = to } ∷ []) → Reads text to new
one_more text old new kind from to b is same_kind h = subst (Reads text to) (sym (is ∙ ap (λ k. old ++ record { kind = k; from = from; to = to } ∷ []) same_kind)) h

pub loop-at-preserved-then-is_space : goal.loop-at-preserved-then-is_space
loop-at-preserved-then-is_space c = past_space c.args.text.now c.loop-at.at _ c.loop-at.invariant (omega arith) cc

pub loop-at-preserved-then-b-eq59 : goal.loop-at-preserved-then-b-eq59
loop-at-preserved-then-b-eq59 c =
    let len = rw take_rest at c.comment_len-at.ensures.value in
    subst (λ n. Reads c.args.text.now (c.loop-at.at + n) c.loop-at.found.items) (sym len) (past_comment c.args.text.now c.loop-at.at _ c.loop-at.invariant (omega arith) c.if-b-eq59.true)

pub loop-at-preserved : goal.loop-at-preserved
loop-at-preserved c =
    let len = rw take_rest at c.token_len-len.ensures.value in
    let next = past_token c.args.text.now c.loop-at.at _ c.loop-at.invariant (omega arith) c.token_len-len.result len (omega arith) in
    one_more c.args.text.now _ _ c.kind_of.result c.loop-at.at (c.loop-at.at + c.token_len-len.result) (get_or c.args.text.now c.loop-at.at 0) c.in_ok-push.ensures.items c.kind_of.ensures next

pub returns-then-len-eq0-clause-bad : goal.returns-then-len-eq0-clause-bad
returns-then-len-eq0-clause-bad c =
    let len = rw take_rest at c.token_len-len.ensures.value in
    let in_text : c.loop-at.at < length c.args.text.now = omega arith in
    let bad = is_bad_here c.args.text.now c.loop-at.at _ c.loop-at.invariant in_text (cc) c.if-b-eq59.false (sym c.if-len-eq0.true ∙ len) in
    λ place e.
    let same : c.loop-at.at ≡ place = cc in
    subst (IsFirstBad c.args.text.now) same (first_bad c.args.text.now c.loop-at.at _ c.loop-at.invariant in_text bad)

pub returns-then-len-eq0-clause-only : goal.returns-then-len-eq0-clause-only
returns-then-len-eq0-clause-only c =
    let len = rw take_rest at c.token_len-len.ensures.value in
    let in_text : c.loop-at.at < length c.args.text.now = omega arith in
    let bad = is_bad_here c.args.text.now c.loop-at.at _ c.loop-at.invariant in_text (cc) c.if-b-eq59.false (sym c.if-len-eq0.true ∙ len) in
    λ tokens are. absurd (no_tokens c.args.text.now c.loop-at.at _ c.loop-at.invariant in_text bad tokens are)

pub returns-then-len-eq0-clause-only_bad : goal.returns-then-len-eq0-clause-only_bad
returns-then-len-eq0-clause-only_bad c =
    let len = rw take_rest at c.token_len-len.ensures.value in
    let in_text : c.loop-at.at < length c.args.text.now = omega arith in
    let bad = is_bad_here c.args.text.now c.loop-at.at _ c.loop-at.invariant in_text (cc) c.if-b-eq59.false (sym c.if-len-eq0.true ∙ len) in
    λ place other.
    let same : place ≡ c.loop-at.at = one_bad c.args.text.now c.loop-at.at _ c.loop-at.invariant in_text bad place other in
    inr cc

pub returns-clause-found : goal.returns-clause-found
returns-clause-found c = all_found c.args.text.now c.loop-at.at _ c.loop-at.invariant (omega arith)

pub returns-clause-only : goal.returns-clause-only
returns-clause-only c = λ tokens are. inr (only_found c.args.text.now c.loop-at.at _ c.loop-at.invariant (omega arith) tokens are)

pub returns-clause-only_bad : goal.returns-clause-only_bad
returns-clause-only_bad c = λ place other. absurd (none_bad c.args.text.now c.loop-at.at _ c.loop-at.invariant (omega arith) place other)

pub returns-clause-rising : goal.returns-clause-rising
returns-clause-rising c = spans_of_tokens c.args.text.now _ (all_found c.args.text.now c.loop-at.at _ c.loop-at.invariant (omega arith))
