-- The tokens of a tree have no fault exactly where it is not too deep.
use Rattle.std.proofs.Common.{◌≡◌, ℕ, ◌+◌, ◌<◌, ◌≤◌, cond, List, [], ◌∷◌, ◌++◌, map, length, refl, sym, ap, ◌∙◌, subst, arith, append_assoc, append-nil, length-append}
use Rattle.std.proofs.lemmas.List.{length-map}
use Rattle.std.proofs.lemmas.List.Sums.{sum_by-append}
use Rattle.pddl_lexer.specs.declared.token.Token.{Token}
use Rattle.pddl_lexer.specs.declared.token.TokenKind.{TokenKind}
use Rattle.pddl_lexer.specs.declared.token.TokenKind.TheVariants.{Open, Close, Word}
use Rattle.pddl_lexer.specs.declared.faults.TreeFault.TheVariants.{TooDeep}
use Rattle.pddl_lexer.specs.declared.trees.Item.{Item}
use Rattle.pddl_lexer.specs.declared.trees.TreeList.{TreeList}
use Rattle.pddl_lexer.specs.declared.trees.Item.TheOpen.{Item-F, TreeList-F}
use Rattle.pddl_lexer.specs.declared.trees.Item.TheViews.{out-TreeList}
use Rattle.pddl_lexer.specs.declared.trees.Item.TheFolds.{map-Item, fold-roll-Item, fold-roll-TreeList, ind-Item, fold_out-TreeList}
use Rattle.pddl_lexer.specs.Brackets.{is_open, is_close, opens, closes, depth, HasNoFault, IsOneList}
use Rattle.pddl_lexer.specs.Trees.{Mark, Opened, Closed, Worded, mark_by_kind, mark_of, join, marks_of_item, marks_of_list, marks_in, marks_at, marks_of_open, deepest, depth_of_item, depth_of_list, depth_in, depth_at, IsTreeOf}
use Rattle.pddl_lexer.proofs.FaultLemmas.{no_fault_empty, no_fault_more, no_fault_front, opens-more, closes-more, closes-le, open_is_right, close_is_right, word_is_right}
use Rattle.pddl_lexer.proofs.Evens.{IsEven, balanced, even_item, even_join_items, even_tree}
use Rattle.pddl_lexer.proofs.Marks.{marks_in-close}

-- tokens by the two parts of their marks
record Parts (tokens : List Token) (cs bs : List Mark) : Type 0 where
  pub front : List Token
  pub rest : List Token
  pub whole : front ++ rest ≡ tokens
  pub front_marks : map mark_of front ≡ cs
  pub rest_marks : map mark_of rest ≡ bs

parts_more : (t : Token) (tokens : List Token) (c : Mark) (cs bs : List Mark) → mark_of t ≡ c → Parts tokens cs bs → Parts (t ∷ tokens) (c ∷ cs) bs
parts_more t tokens c cs bs e p = record { front = t ∷ p.front; rest = p.rest; whole = ap (λ ts. t ∷ ts) p.whole; front_marks = cc (e, p.front_marks); rest_marks = p.rest_marks }

parts : (tokens : List Token) (cs bs : List Mark) → map mark_of tokens ≡ cs ++ bs → Parts tokens cs bs
parts tokens [] bs e = record { front = []; rest = tokens; whole = refl; front_marks = refl; rest_marks = e }
parts [] (c ∷ cs) bs e = cc
parts (t ∷ tokens) (c ∷ cs) bs e =
    let head : mark_of t ≡ c = cc in
    let tail : map mark_of tokens ≡ cs ++ bs = cc in
    parts_more t tokens c cs bs head (parts tokens cs bs tail)

-- the kind of a token by its mark
opened_kind : (k : TokenKind) (t : Token) (at : ℕ) → mark_by_kind k t ≡ Opened at → k ≡ Open
opened_kind Open t at e = refl
opened_kind Close t at e = cc
opened_kind Word t at e = cc

closed_kind : (k : TokenKind) (t : Token) → mark_by_kind k t ≡ Closed → k ≡ Close
closed_kind Open t e = cc
closed_kind Close t e = refl
closed_kind Word t e = cc

word_kind : (k : TokenKind) (t u : Token) → mark_by_kind k t ≡ Worded u → k ≡ Word
word_kind Open t u e = cc
word_kind Close t u e = cc
word_kind Word t u e = refl

-- what has partners leaves the depth as it is
depth-even : (seen tokens : List Token) → IsEven (map mark_of tokens) → depth (seen ++ tokens) ≡ depth seen
depth-even seen tokens h =
    let even = balanced tokens h in
    omega (arith, even.even, sum_by-append (λ (u : Token). cond (is_open u.kind) 1 0) seen tokens, sum_by-append (λ (u : Token). cond (is_close u.kind) 1 0) seen tokens)

-- without a fault the depth is at most 64
fits_more : (before : List Token) (t : Token) (k : TokenKind) → t.kind ≡ k → depth before ≤ 64 → (k ≡ Open → depth before ≡ 64 → ⊥) → depth (before ++ t ∷ []) ≤ 64
fits_more before t Open e below sound =
    let less : depth before ≡ 64 → ⊥ = sound refl in
    omega (arith, opens-more before t Open e, closes-more before t Open e)
fits_more before t Close e below sound = omega (arith, opens-more before t Close e, closes-more before t Close e)
fits_more before t Word e below sound = omega (arith, opens-more before t Word e, closes-more before t Word e)

fits_from : (before rest : List Token) → depth before ≤ 64 → HasNoFault (before ++ rest) → depth (before ++ rest) ≤ 64
fits_from before [] below none = subst (λ s. depth s ≤ 64) (sym (append-nil before)) below
fits_from before (t ∷ rest) below none =
    let same = append_assoc before (t ∷ []) rest in
    let next = fits_more before t t.kind refl below (λ e full. none before t rest (TooDeep t.from) refl (refl, e, full)) in
    subst (λ s. depth s ≤ 64) same (fits_from (before ++ t ∷ []) rest next (subst HasNoFault (sym same) none))

depth-le : (tokens : List Token) → HasNoFault tokens → depth tokens ≤ 64
depth-le tokens none = fits_from [] tokens (omega arith) none

-- tokens with these marks, where a list is open, have no fault where they are not too deep, and else have one
record IsFit (marks : List Mark) (height : ℕ) : Type 0 where
  pub sound : (seen tokens : List Token) → map mark_of tokens ≡ marks → HasNoFault seen → 0 < depth seen → depth seen + height ≤ 64 → HasNoFault (seen ++ tokens)
  pub low : (seen tokens : List Token) → map mark_of tokens ≡ marks → HasNoFault (seen ++ tokens) → 0 < depth seen → depth seen + height ≤ 64

-- the same of a list, which may also come first
record IsFitList (marks : List Mark) (height : ℕ) : Type 0 where
  pub sound : (seen tokens : List Token) → map mark_of tokens ≡ marks → HasNoFault seen → (depth seen ≡ 0 → length seen ≡ 0) → depth seen + height ≤ 64 → HasNoFault (seen ++ tokens)
  pub low : (seen tokens : List Token) → map mark_of tokens ≡ marks → HasNoFault (seen ++ tokens) → depth seen + height ≤ 64

fit_word : (u : Token) → IsFit (Worded u ∷ []) 0
fit_word u = record {
  sound = λ seen tokens e none deep fits. by_tokens seen tokens e none deep;
  low = λ seen tokens e none deep. let shallow = depth-le seen (no_fault_front seen tokens none) in omega (arith, shallow);
}
  where
    by_tokens : (seen tokens : List Token) → map mark_of tokens ≡ Worded u ∷ [] → HasNoFault seen → 0 < depth seen → HasNoFault (seen ++ tokens)
    by_tokens seen [] e none deep = cc
    by_tokens seen (t ∷ []) e none deep =
        let here : mark_of t ≡ Worded u = cc in
        no_fault_more seen t none (word_is_right seen t (word_kind t.kind t u here) deep)
    by_tokens seen (t ∷ v ∷ tokens) e none deep = cc

fit_of_list : (marks : List Mark) (height : ℕ) → IsFitList marks height → IsFit marks height
fit_of_list marks height h = record {
  sound = λ seen tokens e none deep fits. h.sound seen tokens e none (λ zero. absurd (omega (arith, zero, deep))) fits;
  low = λ seen tokens e none deep. h.low seen tokens e none;
}

fit_join : (items : List ((i : Item) × IsFit (marks_at i) (depth_at i))) → IsFit (join (map marks_at (map (λ e. e.0) items))) (deepest (map depth_at (map (λ e. e.0) items)))
fit_join [] = record {
  sound = λ seen tokens e none deep fits. by_tokens seen tokens e none;
  low = λ seen tokens e none deep. let shallow = depth-le seen (no_fault_front seen tokens none) in omega (arith, shallow);
}
  where
    by_tokens : (seen tokens : List Token) → map mark_of tokens ≡ [] → HasNoFault seen → HasNoFault (seen ++ tokens)
    by_tokens seen [] e none = subst HasNoFault (sym (append-nil seen)) none
    by_tokens seen (t ∷ tokens) e none = cc
fit_join (i ∷ items) = record {
  sound = λ seen tokens e none deep fits.
      let p = parts tokens (marks_at i.0) (join (map marks_at (map (λ e. e.0) items))) e in
      let first = i.1.sound seen p.front p.front_marks none deep (omega (arith, fits)) in
      let same = depth-even seen p.front (subst IsEven (sym p.front_marks) (even_item i.0)) in
      let all = (fit_join items).sound (seen ++ p.front) p.rest p.rest_marks first (omega (arith, same, deep)) (omega (arith, same, fits)) in
      subst HasNoFault (append_assoc seen p.front p.rest ∙ ap (λ ts. seen ++ ts) p.whole) all;
  low = λ seen tokens e none deep.
      let p = parts tokens (marks_at i.0) (join (map marks_at (map (λ e. e.0) items))) e in
      let all = subst HasNoFault (sym (append_assoc seen p.front p.rest ∙ ap (λ ts. seen ++ ts) p.whole)) none in
      let same = depth-even seen p.front (subst IsEven (sym p.front_marks) (even_item i.0)) in
      let first = i.1.low seen p.front p.front_marks (no_fault_front (seen ++ p.front) p.rest all) deep in
      let others = (fit_join items).low (seen ++ p.front) p.rest p.rest_marks all (omega (arith, same, deep)) in
      omega (arith, same, first, others);
}

module _ (at : ℕ) (marks : List Mark) (height : ℕ) (even : IsEven marks) (h : IsFit marks height) where
  opened_depth : (seen : List Token) (t : Token) → t.kind ≡ Open → closes seen ≤ opens seen → depth (seen ++ t ∷ []) ≡ depth seen + 1
  opened_depth seen t e below = omega (arith, below, opens-more seen t Open e, closes-more seen t Open e)

  list_sound : (seen tokens : List Token) → map mark_of tokens ≡ Opened at ∷ (marks ++ Closed ∷ []) → HasNoFault seen → (depth seen ≡ 0 → length seen ≡ 0) → depth seen + (1 + height) ≤ 64 → HasNoFault (seen ++ tokens)
  list_sound seen [] e none first fits = cc
  list_sound seen (t ∷ tokens) e none first fits =
      let here : mark_of t ≡ Opened at = cc in
      let behind : map mark_of tokens ≡ marks ++ Closed ∷ [] = cc in
      let kind = opened_kind t.kind t at here in
      let more = opened_depth seen t kind (closes-le seen none) in
      let opened = no_fault_more seen t none (open_is_right seen t kind (λ full. omega (arith, full, fits)) first) in
      let p = parts tokens marks (Closed ∷ []) behind in
      let inside = h.sound (seen ++ t ∷ []) p.front p.front_marks opened (omega (arith, more)) (omega (arith, more, fits)) in
      let same = depth-even (seen ++ t ∷ []) p.front (subst IsEven (sym p.front_marks) even) in
      let all = closing ((seen ++ t ∷ []) ++ p.front) p.rest p.rest_marks inside (omega (arith, same, more)) in
      subst HasNoFault (append_assoc (seen ++ t ∷ []) p.front p.rest ∙ ap (λ ts. (seen ++ t ∷ []) ++ ts) p.whole ∙ append_assoc seen (t ∷ []) tokens) all
    where
      closing : (seen tokens : List Token) → map mark_of tokens ≡ Closed ∷ [] → HasNoFault seen → 0 < depth seen → HasNoFault (seen ++ tokens)
      closing seen [] e none deep = cc
      closing seen (t ∷ []) e none deep =
          let here : mark_of t ≡ Closed = cc in
          no_fault_more seen t none (close_is_right seen t (closed_kind t.kind t here) deep)
      closing seen (t ∷ v ∷ tokens) e none deep = cc

  list_low : (seen tokens : List Token) → map mark_of tokens ≡ Opened at ∷ (marks ++ Closed ∷ []) → HasNoFault (seen ++ tokens) → depth seen + (1 + height) ≤ 64
  list_low seen [] e none = cc
  list_low seen (t ∷ tokens) e none =
      let here : mark_of t ≡ Opened at = cc in
      let behind : map mark_of tokens ≡ marks ++ Closed ∷ [] = cc in
      let kind = opened_kind t.kind t at here in
      let more = opened_depth seen t kind (closes-le seen (no_fault_front seen (t ∷ tokens) none)) in
      let p = parts tokens marks (Closed ∷ []) behind in
      let all = subst HasNoFault (sym (append_assoc (seen ++ t ∷ []) p.front p.rest ∙ ap (λ ts. (seen ++ t ∷ []) ++ ts) p.whole ∙ append_assoc seen (t ∷ []) tokens)) none in
      let inside = h.low (seen ++ t ∷ []) p.front p.front_marks (no_fault_front ((seen ++ t ∷ []) ++ p.front) p.rest all) (omega (arith, more)) in
      omega (arith, more, inside)

  fit_list : IsFitList (Opened at ∷ (marks ++ Closed ∷ [])) (1 + height)
  fit_list = record { sound = list_sound; low = list_low }

-- one layer
abbrev IsFitItem : Item-F Item TreeList → Type 0
IsFitItem i = IsFit (marks_of_item (map-Item Item TreeList (List Mark) (List Mark) marks_at marks_in i)) (depth_of_item (map-Item Item TreeList ℕ ℕ depth_at depth_in i))

abbrev IsFitLayer : TreeList-F Item TreeList → Type 0
IsFitLayer l = IsFitList (Opened l.at ∷ (join (map marks_at l.items.items) ++ Closed ∷ [])) (1 + deepest (map depth_at l.items.items))

abbrev Fit : Item → Type 0
Fit i = IsFit (marks_at i) (depth_at i)

abbrev FitList : TreeList → Type 0
FitList l = IsFitList (marks_in l) (depth_in l)

fit_item_step : (y : Item-F ((i : Item) × Fit i) ((l : TreeList) × FitList l)) → IsFitItem (map-Item ((i : Item) × Fit i) ((l : TreeList) × FitList l) Item TreeList (λ e. e.0) (λ e. e.0) y)
fit_item_step (Item-F.Word t) = fit_word t
fit_item_step (Item-F.List e) = fit_of_list (marks_in e.0) (depth_in e.0) e.1

fit_as : (ms ms' : List Mark) (n n' : ℕ) → ms ≡ ms' → n ≡ n' → IsFit ms' n' → IsFit ms n
fit_as ms ms' n n' e d h = subst (λ k. IsFit ms k) (sym d) (subst (λ k. IsFit k n') (sym e) h)

fit_list_as : (ms ms' : List Mark) (n n' : ℕ) → ms ≡ ms' → n ≡ n' → IsFitList ms' n' → IsFitList ms n
fit_list_as ms ms' n n' e d h = subst (λ k. IsFitList ms k) (sym d) (subst (λ k. IsFitList k n') (sym e) h)

fit_item : (i : Item) → Fit i
fit_item = ind-Item Fit FitList
    (λ x y is. fit_as _ _ _ _ (fold-roll-Item (List Mark) (List Mark) marks_of_item marks_of_list x) (fold-roll-Item ℕ ℕ depth_of_item depth_of_list x) (subst IsFitItem is (fit_item_step y)))
    (λ x y is. fit_list_as _ _ _ _ (fold-roll-TreeList (List Mark) (List Mark) marks_of_item marks_of_list x) (fold-roll-TreeList ℕ ℕ depth_of_item depth_of_list x)
    (subst IsFitLayer is (fit_list y.at _ _ (even_join_items _) (fit_join y.items.items))))

with_fit : List Item → List ((i : Item) × Fit i)
with_fit [] = []
with_fit (i ∷ items) = (i, fit_item i) ∷ with_fit items

items-with_fit : (items : List Item) → map (λ (e : (i : Item) × Fit i). e.0) (with_fit items) ≡ items
unfolding with_fit
items-with_fit [] = refl
items-with_fit (i ∷ items) = ap (λ is. i ∷ is) (items-with_fit items)

fit_items : (items : List Item) → IsFit (join (map marks_at items)) (deepest (map depth_at items))
fit_items items = subst (λ is. IsFit (join (map marks_at is)) (deepest (map depth_at is))) (items-with_fit items) (fit_join (with_fit items))

fit_tree : (l : TreeList) → FitList l
fit_tree l =
    let items = (out-TreeList l).items.items in
    fit_list_as _ _ _ _ (fold_out-TreeList (List Mark) (List Mark) marks_of_item marks_of_list l) (fold_out-TreeList ℕ ℕ depth_of_item depth_of_list l)
    (fit_list (out-TreeList l).at (join (map marks_at items)) (deepest (map depth_at items)) (even_join_items items) (fit_items items))

-- a tree of tokens without fault is not too deep
pub not_too_deep : (tokens : List Token) (l : TreeList) → IsTreeOf tokens l → HasNoFault tokens → depth_in l ≤ 64
not_too_deep tokens l e none = let low : depth [] + depth_in l ≤ 64 = (fit_tree l).low [] tokens (sym e) none in omega (arith, low)

-- the tokens of a tree that is not too deep are one list
pub one_list_of_tree : (tokens : List Token) (l : TreeList) → IsTreeOf tokens l → depth_in l ≤ 64 → IsOneList tokens
one_list_of_tree tokens l e fits = record {
  begun = omega (arith, ap length (sym e ∙ marks_in-close l), length-append (marks_of_open l) (Closed ∷ []), length-map tokens mark_of);
  no_fault = (fit_tree l).sound [] tokens (sym e) no_fault_empty (λ zero. refl) (omega (arith, fits));
  closed = let same : depth ([] ++ tokens) ≡ depth [] = depth-even [] tokens (subst IsEven e (even_tree l)) in omega (arith, same);
}
