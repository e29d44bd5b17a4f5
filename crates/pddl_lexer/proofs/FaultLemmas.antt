-- The fault of a list of tokens, by the place of the first token that breaks a rule.
use Rattle.std.proofs.Common.{◌≡◌, ℕ, ◌+◌, ◌<◌, ◌≤◌, cond, List, [], ◌∷◌, ◌++◌, length, inl, inr, refl, sym, ap, ◌∙◌, subst, arith, append_assoc, append-nil, length-append}
use Rattle.std.proofs.lemmas.List.Sums.{sum_by-append, sum_by-cons}
use Rattle.std.specs.Prelude.{◌⊎◌}
use Rattle.pddl_lexer.specs.declared.token.Token.{Token}
use Rattle.pddl_lexer.specs.declared.token.TokenKind.{TokenKind}
use Rattle.pddl_lexer.specs.declared.token.TokenKind.TheVariants.{Open, Close, Word}
use Rattle.pddl_lexer.specs.declared.faults.TreeFault.{TreeFault}
use Rattle.pddl_lexer.specs.declared.faults.TreeFault.TheVariants.{Nothing, TooDeep, Unopened, Trailing, Unclosed, OutOfMemory}
use Rattle.pddl_lexer.specs.Brackets.{is_open, is_close, opens, closes, depth, IsAtFault, HasNoFault, IsFirstFault, IsBalanced, IsLeftOpen, IsFaultOf, IsOneList}

-- which of two tokens of a list comes first
data Order (xs ys : List Token) (x : Token) (cs bs : List Token) (a : Token) : Type 0 where
  Same : xs ≡ cs → x ≡ a → Order xs ys x cs bs a
  Before : (mid : List Token) → xs ++ x ∷ mid ≡ cs → ys ≡ mid ++ a ∷ bs → Order xs ys x cs bs a
  Behind : (mid : List Token) → cs ++ a ∷ mid ≡ xs → bs ≡ mid ++ x ∷ ys → Order xs ys x cs bs a

order_more : (w b : Token) (xs ys : List Token) (x : Token) (cs bs : List Token) (a : Token) → w ≡ b → Order xs ys x cs bs a → Order (w ∷ xs) ys x (b ∷ cs) bs a
order_more w b xs ys x cs bs a e (Same p q) = Same (cc) q
order_more w b xs ys x cs bs a e (Before mid p q) = Before mid (cc) q
order_more w b xs ys x cs bs a e (Behind mid p q) = Behind mid (cc) q

order : (xs ys : List Token) (x : Token) (cs bs : List Token) (a : Token) → xs ++ x ∷ ys ≡ cs ++ a ∷ bs → Order xs ys x cs bs a
order [] ys x [] bs a e = Same refl cc
order [] ys x (b ∷ cs) bs a e = Before cs (cc) (cc)
order (w ∷ xs) ys x [] bs a e = Behind xs (cc) (cc)
order (w ∷ xs) ys x (b ∷ cs) bs a e =
    let head : w ≡ b = cc in
    let tail : xs ++ x ∷ ys ≡ cs ++ a ∷ bs = cc in
    order_more w b xs ys x cs bs a head (order xs ys x cs bs a tail)

pub no_fault_empty : HasNoFault []
no_fault_empty before t after fault e at = omega (arith, ap length e, length-append before (t ∷ after))

pub no_fault_more : (seen : List Token) (t : Token) → HasNoFault seen → ((fault : TreeFault) → IsAtFault seen t fault → ⊥) → HasNoFault (seen ++ t ∷ [])
no_fault_more seen t none here before u after fault e at = by_order (order before after u seen [] t e)
  where
    by_order : Order before after u seen [] t → ⊥
    by_order (Same p q) = here fault (subst (λ b. IsAtFault b t fault) p (subst (λ v. IsAtFault before v fault) q at))
    by_order (Before mid p q) = none before u mid fault p at
    by_order (Behind mid p q) = omega (arith, ap length q, length-append mid (u ∷ after))

pub no_fault_front : (xs ys : List Token) → HasNoFault (xs ++ ys) → HasNoFault xs
no_fault_front xs ys none before u after fault e at =
    none before u (after ++ ys) fault (sym (append_assoc before (u ∷ after) ys) ∙ ap (λ s. s ++ ys) e) at

-- the counts of a list with one more token
pub opens-more : (seen : List Token) (t : Token) (k : TokenKind) → t.kind ≡ k → opens (seen ++ t ∷ []) ≡ opens seen + cond (is_open k) 1 0
opens-more seen t k e =
    let one : cond {A = ℕ} (is_open t.kind) 1 0 ≡ cond (is_open k) 1 0 = ap (λ v. cond {A = ℕ} (is_open v) 1 0) e in
    omega (arith, sum_by-append (λ (u : Token). cond (is_open u.kind) 1 0) seen (t ∷ []))

pub closes-more : (seen : List Token) (t : Token) (k : TokenKind) → t.kind ≡ k → closes (seen ++ t ∷ []) ≡ closes seen + cond (is_close k) 1 0
closes-more seen t k e =
    let one : cond {A = ℕ} (is_close t.kind) 1 0 ≡ cond (is_close k) 1 0 = ap (λ v. cond {A = ℕ} (is_close v) 1 0) e in
    omega (arith, sum_by-append (λ (u : Token). cond (is_close u.kind) 1 0) seen (t ∷ []))

closes_below : (before : List Token) (t : Token) (k : TokenKind) → t.kind ≡ k → closes before ≤ opens before → (k ≡ Close → depth before ≡ 0 → ⊥) → closes (before ++ t ∷ []) ≤ opens (before ++ t ∷ [])
closes_below before t Open e below sound = omega (arith, opens-more before t Open e, closes-more before t Open e)
closes_below before t Word e below sound = omega (arith, opens-more before t Word e, closes-more before t Word e)
closes_below before t Close e below sound =
    let some : depth before ≡ 0 → ⊥ = sound refl in
    omega (arith, opens-more before t Close e, closes-more before t Close e)

closes_from : (before rest : List Token) → closes before ≤ opens before → HasNoFault (before ++ rest) → closes (before ++ rest) ≤ opens (before ++ rest)
closes_from before [] below none = subst (λ s. closes s ≤ opens s) (sym (append-nil before)) below
closes_from before (t ∷ rest) below none =
    let same = append_assoc before (t ∷ []) rest in
    let next = closes_below before t t.kind refl below (λ e zero. none before t rest (Unopened t.from) refl (refl, e, zero)) in
    subst (λ s. closes s ≤ opens s) same (closes_from (before ++ t ∷ []) rest next (subst HasNoFault (sym same) none))

-- without a fault no more brackets close than open
pub closes-le : (tokens : List Token) → HasNoFault tokens → closes tokens ≤ opens tokens
closes-le tokens none = closes_from [] tokens (omega arith) none

-- one token breaks one rule
is_word_or_open : (k : TokenKind) (A : Type 0) → k ≡ Close → ((k ≡ Word) ⊎ ((k ≡ Open) × A)) → ⊥
is_word_or_open k A e (inl h) = cc
is_word_or_open k A e (inr h) = cc (h.0)

same_fault : (before : List Token) (t : Token) (f g : TreeFault) → IsAtFault before t f → IsAtFault before t g → f ≡ g
same_fault before t Nothing g h k = absurd h
same_fault before t (Unclosed p) g h k = absurd h
same_fault before t OutOfMemory g h k = absurd h
same_fault before t (TooDeep p) Nothing h k = absurd k
same_fault before t (TooDeep p) (TooDeep q) h k = ap TooDeep (sym h.0 ∙ k.0)
same_fault before t (TooDeep p) (Unopened q) h k = cc (h.1, k.1)
same_fault before t (TooDeep p) (Trailing q) h k = absurd (omega (arith, h.2, k.2))
same_fault before t (TooDeep p) (Unclosed q) h k = absurd k
same_fault before t (TooDeep p) OutOfMemory h k = absurd k
same_fault before t (Unopened p) Nothing h k = absurd k
same_fault before t (Unopened p) (TooDeep q) h k = cc (h.1, k.1)
same_fault before t (Unopened p) (Unopened q) h k = ap Unopened (sym h.0 ∙ k.0)
same_fault before t (Unopened p) (Trailing q) h k = absurd (is_word_or_open t.kind (0 < length before) h.1 k.1)
same_fault before t (Unopened p) (Unclosed q) h k = absurd k
same_fault before t (Unopened p) OutOfMemory h k = absurd k
same_fault before t (Trailing p) Nothing h k = absurd k
same_fault before t (Trailing p) (TooDeep q) h k = absurd (omega (arith, h.2, k.2))
same_fault before t (Trailing p) (Unopened q) h k = absurd (is_word_or_open t.kind (0 < length before) k.1 h.1)
same_fault before t (Trailing p) (Trailing q) h k = ap Trailing (sym h.0 ∙ k.0)
same_fault before t (Trailing p) (Unclosed q) h k = absurd k
same_fault before t (Trailing p) OutOfMemory h k = absurd k

one_first : (tokens : List Token) (f g : TreeFault) → IsFirstFault tokens f → IsFirstFault tokens g → f ≡ g
one_first tokens f g h k = by_order (order h.before h.after h.token k.before k.after k.token (h.whole ∙ sym k.whole))
  where
    by_order : Order h.before h.after h.token k.before k.after k.token → f ≡ g
    by_order (Same p q) = same_fault k.before k.token f g (subst (λ b. IsAtFault b k.token f) p (subst (λ t. IsAtFault h.before t f) q h.here)) k.here
    by_order (Before mid p q) = absurd (k.none_before h.before h.token mid f p h.here)
    by_order (Behind mid p q) = absurd (h.none_before k.before k.token mid g p k.here)

-- a bracket that is left open has no other such bracket behind it
inner : (mid after whole : List Token) (b : Token) → whole ≡ mid ++ b ∷ after → b.kind ≡ Open → IsBalanced whole → IsBalanced after → ⊥
inner mid after whole b e opening h k =
    let o : cond {A = ℕ} (is_open b.kind) 1 0 ≡ 1 = ap (λ v. cond {A = ℕ} (is_open v) 1 0) opening in
    let n : cond {A = ℕ} (is_close b.kind) 1 0 ≡ 0 = ap (λ v. cond {A = ℕ} (is_close v) 1 0) opening in
    let all_o : opens whole ≡ opens (mid ++ b ∷ after) = ap opens e in
    let all_c : closes whole ≡ closes (mid ++ b ∷ after) = ap closes e in
    let front : closes mid ≤ opens mid = h.opened mid (b ∷ after) (sym e) in
    omega (arith, h.even, k.even, sum_by-append (λ (u : Token). cond (is_open u.kind) 1 0) mid (b ∷ after), sum_by-append (λ (u : Token). cond (is_close u.kind) 1 0) mid (b ∷ after), sum_by-cons (λ (u : Token). cond (is_open u.kind) 1 0) b after, sum_by-cons (λ (u : Token). cond (is_close u.kind) 1 0) b after)

one_left : (tokens : List Token) (p q : ℕ) → IsLeftOpen tokens p → IsLeftOpen tokens q → p ≡ q
one_left tokens p q h k = by_order (order h.before h.after h.bracket k.before k.after k.bracket (h.whole ∙ sym k.whole))
  where
    by_order : Order h.before h.after h.bracket k.before k.after k.bracket → p ≡ q
    by_order (Same a b) = sym h.at_place ∙ ap (λ (t : Token). t.from) b ∙ k.at_place
    by_order (Before mid a b) = absurd (inner mid k.after h.after k.bracket b k.opening h.balanced k.balanced)
    by_order (Behind mid a b) = absurd (inner mid h.after k.after h.bracket b h.opening k.balanced h.balanced)

left_is_deep : (tokens : List Token) (p : ℕ) → HasNoFault tokens → IsLeftOpen tokens p → depth tokens ≡ 0 → ⊥
left_is_deep tokens p none h zero =
    let o : cond {A = ℕ} (is_open h.bracket.kind) 1 0 ≡ 1 = ap (λ v. cond {A = ℕ} (is_open v) 1 0) h.opening in
    let n : cond {A = ℕ} (is_close h.bracket.kind) 1 0 ≡ 0 = ap (λ v. cond {A = ℕ} (is_close v) 1 0) h.opening in
    let all_o : opens tokens ≡ opens (h.before ++ h.bracket ∷ h.after) = ap opens (sym h.whole) in
    let all_c : closes tokens ≡ closes (h.before ++ h.bracket ∷ h.after) = ap closes (sym h.whole) in
    let front : closes h.before ≤ opens h.before = closes-le h.before (no_fault_front h.before (h.bracket ∷ h.after) (subst HasNoFault (sym h.whole) none)) in
    omega (arith, h.balanced.even, sum_by-append (λ (u : Token). cond (is_open u.kind) 1 0) h.before (h.bracket ∷ h.after), sum_by-append (λ (u : Token). cond (is_close u.kind) 1 0) h.before (h.bracket ∷ h.after), sum_by-cons (λ (u : Token). cond (is_open u.kind) 1 0) h.bracket h.after, sum_by-cons (λ (u : Token). cond (is_close u.kind) 1 0) h.bracket h.after)

-- why a fault is that of the tokens
data Cause (tokens : List Token) (f : TreeFault) : Type 0 where
  Empty : f ≡ Nothing → tokens ≡ [] → Cause tokens f
  Broken : IsFirstFault tokens f → Cause tokens f
  Left : (p : ℕ) → f ≡ Unclosed p → HasNoFault tokens → IsLeftOpen tokens p → Cause tokens f

cause_of : (tokens : List Token) (f : TreeFault) → IsFaultOf tokens f → Cause tokens f
cause_of tokens Nothing h = Empty refl h
cause_of tokens (TooDeep p) h = Broken h
cause_of tokens (Unopened p) h = Broken h
cause_of tokens (Trailing p) h = Broken h
cause_of tokens (Unclosed p) h = Left p refl h.0 h.1
cause_of tokens OutOfMemory h = absurd h

broken_some : (tokens : List Token) (f : TreeFault) → tokens ≡ [] → IsFirstFault tokens f → ⊥
broken_some tokens f e h = omega (arith, ap length (h.whole ∙ e), length-append h.before (h.token ∷ h.after))

left_some : (tokens : List Token) (p : ℕ) → tokens ≡ [] → IsLeftOpen tokens p → ⊥
left_some tokens p e h = omega (arith, ap length (h.whole ∙ e), length-append h.before (h.bracket ∷ h.after))

same_cause : (tokens : List Token) (f g : TreeFault) → Cause tokens f → Cause tokens g → f ≡ g
same_cause tokens f g (Empty a b) (Empty c d) = a ∙ sym c
same_cause tokens f g (Empty a b) (Broken k) = absurd (broken_some tokens g b k)
same_cause tokens f g (Empty a b) (Left q c none k) = absurd (left_some tokens q b k)
same_cause tokens f g (Broken h) (Empty c d) = absurd (broken_some tokens f d h)
same_cause tokens f g (Broken h) (Broken k) = one_first tokens f g h k
same_cause tokens f g (Broken h) (Left q c none k) = absurd (none h.before h.token h.after f h.whole h.here)
same_cause tokens f g (Left p a none h) (Empty c d) = absurd (left_some tokens p d h)
same_cause tokens f g (Left p a none h) (Broken k) = absurd (none k.before k.token k.after g k.whole k.here)
same_cause tokens f g (Left p a none h) (Left q c other k) = a ∙ ap Unclosed (one_left tokens p q h k) ∙ sym c

-- tokens have one fault at most
pub one_fault : (tokens : List Token) (f g : TreeFault) → IsFaultOf tokens f → IsFaultOf tokens g → f ≡ g
one_fault tokens f g h k = same_cause tokens f g (cause_of tokens f h) (cause_of tokens g k)

-- and none where they are one list
pub no_list : (tokens : List Token) (f : TreeFault) → IsFaultOf tokens f → IsOneList tokens → ⊥
no_list tokens f h one = by_cause (cause_of tokens f h)
  where
    by_cause : Cause tokens f → ⊥
    by_cause (Empty a b) = omega (arith, one.begun, ap length b)
    by_cause (Broken k) = one.no_fault k.before k.token k.after f k.whole k.here
    by_cause (Left p a none k) = left_is_deep tokens p none k one.closed

-- a token that is at fault behind some without fault gives the fault of all
pub fault_of_first : (tokens before after : List Token) (t : Token) (f : TreeFault) → before ++ t ∷ after ≡ tokens → HasNoFault before → IsAtFault before t f → IsFaultOf tokens f
fault_of_first tokens before after t Nothing e none at = absurd at
fault_of_first tokens before after t (TooDeep p) e none at = record { before = before; token = t; after = after; whole = e; none_before = none; here = at }
fault_of_first tokens before after t (Unopened p) e none at = record { before = before; token = t; after = after; whole = e; none_before = none; here = at }
fault_of_first tokens before after t (Trailing p) e none at = record { before = before; token = t; after = after; whole = e; none_before = none; here = at }
fault_of_first tokens before after t (Unclosed p) e none at = absurd at
fault_of_first tokens before after t OutOfMemory e none at = absurd at

-- no fault by kind
pub open_is_right : (seen : List Token) (t : Token) → t.kind ≡ Open → (depth seen ≡ 64 → ⊥) → (depth seen ≡ 0 → length seen ≡ 0) → (f : TreeFault) → IsAtFault seen t f → ⊥
open_is_right seen t e shallow first Nothing h = h
open_is_right seen t e shallow first (TooDeep p) h = shallow h.2
open_is_right seen t e shallow first (Unopened p) h = cc (h.1)
open_is_right seen t e shallow first (Trailing p) h = by_kind h.1
  where
    by_kind : ((t.kind ≡ Word) ⊎ ((t.kind ≡ Open) × (0 < length seen))) → ⊥
    by_kind (inl k) = cc
    by_kind (inr k) = omega (arith, k.1, first h.2)
open_is_right seen t e shallow first (Unclosed p) h = h
open_is_right seen t e shallow first OutOfMemory h = h

pub close_is_right : (seen : List Token) (t : Token) → t.kind ≡ Close → 0 < depth seen → (f : TreeFault) → IsAtFault seen t f → ⊥
close_is_right seen t e deep Nothing h = h
close_is_right seen t e deep (TooDeep p) h = cc (h.1)
close_is_right seen t e deep (Unopened p) h = omega (arith, h.2)
close_is_right seen t e deep (Trailing p) h = omega (arith, h.2)
close_is_right seen t e deep (Unclosed p) h = h
close_is_right seen t e deep OutOfMemory h = h

pub word_is_right : (seen : List Token) (t : Token) → t.kind ≡ Word → 0 < depth seen → (f : TreeFault) → IsAtFault seen t f → ⊥
word_is_right seen t e deep Nothing h = h
word_is_right seen t e deep (TooDeep p) h = cc (h.1)
word_is_right seen t e deep (Unopened p) h = omega (arith, h.2)
word_is_right seen t e deep (Trailing p) h = omega (arith, h.2)
word_is_right seen t e deep (Unclosed p) h = h
word_is_right seen t e deep OutOfMemory h = h
