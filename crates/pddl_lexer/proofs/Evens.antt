-- Each bracket of a tree has its partner.
use Rattle.std.proofs.Common.{◌≡◌, ℕ, ◌+◌, ◌≤◌, cond, List, [], ◌∷◌, ◌++◌, map, refl, sym, ap, ◌∙◌, subst, arith}
use Rattle.std.specs.List.{sum_by}
use Rattle.std.proofs.lemmas.List.{map-append}
use Rattle.std.proofs.lemmas.List.Sums.{sum_by-append, sum_by-cons}
use Rattle.pddl_lexer.specs.declared.token.Token.{Token}
use Rattle.pddl_lexer.specs.declared.token.TokenKind.{TokenKind}
use Rattle.pddl_lexer.specs.declared.token.TokenKind.TheVariants.{Open, Close, Word}
use Rattle.pddl_lexer.specs.declared.trees.Item.{Item}
use Rattle.pddl_lexer.specs.declared.trees.TreeList.{TreeList}
use Rattle.pddl_lexer.specs.declared.trees.Item.TheOpen.{Item-F, TreeList-F}
use Rattle.pddl_lexer.specs.declared.trees.Item.TheViews.{out-TreeList}
use Rattle.pddl_lexer.specs.declared.trees.Item.TheFolds.{map-Item, fold-roll-Item, fold-roll-TreeList, fold_out-TreeList, ind-Item}
use Rattle.pddl_lexer.specs.Brackets.{is_open, is_close, opens, closes, IsBalanced}
use Rattle.pddl_lexer.specs.Trees.{Mark, Opened, Closed, Worded, mark_by_kind, mark_of, join, marks_of_item, marks_of_list, marks_in, marks_at, marks_inside}

abbrev mark_opens : Mark → ℕ
mark_opens (Opened at) = 1
mark_opens Closed = 0
mark_opens (Worded t) = 0

abbrev mark_closes : Mark → ℕ
mark_closes (Opened at) = 0
mark_closes Closed = 1
mark_closes (Worded t) = 0

-- as many close as open, and nowhere more
pub record IsEven (marks : List Mark) : Type 0 where
  pub even : sum_by mark_opens marks ≡ sum_by mark_closes marks
  pub opened : (front rest : List Mark) → front ++ rest ≡ marks → sum_by mark_closes front ≤ sum_by mark_opens front

opens-by_kind : (k : TokenKind) (t : Token) → mark_opens (mark_by_kind k t) ≡ cond (is_open k) 1 0
opens-by_kind Open t = refl
opens-by_kind Close t = refl
opens-by_kind Word t = refl

closes-by_kind : (k : TokenKind) (t : Token) → mark_closes (mark_by_kind k t) ≡ cond (is_close k) 1 0
closes-by_kind Open t = refl
closes-by_kind Close t = refl
closes-by_kind Word t = refl

opens-marks : (tokens : List Token) → sum_by mark_opens (map mark_of tokens) ≡ opens tokens
opens-marks [] = refl
opens-marks (t ∷ tokens) = omega (arith, opens-by_kind t.kind t, opens-marks tokens, sum_by-cons mark_opens (mark_of t) (map mark_of tokens), sum_by-cons (λ (u : Token). cond (is_open u.kind) 1 0) t tokens)

closes-marks : (tokens : List Token) → sum_by mark_closes (map mark_of tokens) ≡ closes tokens
closes-marks [] = refl
closes-marks (t ∷ tokens) = omega (arith, closes-by_kind t.kind t, closes-marks tokens, sum_by-cons mark_closes (mark_of t) (map mark_of tokens), sum_by-cons (λ (u : Token). cond (is_close u.kind) 1 0) t tokens)

pub balanced : (tokens : List Token) → IsEven (map mark_of tokens) → IsBalanced tokens
balanced tokens h = record {
  even = sym (opens-marks tokens) ∙ h.even ∙ closes-marks tokens;
  opened = λ front rest e.
      let fits : sum_by mark_closes (map mark_of front) ≤ sum_by mark_opens (map mark_of front) = h.opened (map mark_of front) (map mark_of rest) (sym (map-append mark_of front rest) ∙ ap (map mark_of) e) in
      omega (arith, fits, opens-marks front, closes-marks front);
}

-- a front of two lists in a row
data Front (front rest xs ys : List Mark) : Type 0 where
  Within : (more : List Mark) → front ++ more ≡ xs → Front front rest xs ys
  Past : (more : List Mark) → front ≡ xs ++ more → more ++ rest ≡ ys → Front front rest xs ys

front_more : (f x : Mark) (front rest xs ys : List Mark) → f ≡ x → Front front rest xs ys → Front (f ∷ front) rest (x ∷ xs) ys
front_more f x front rest xs ys e (Within more p) = Within more (cc)
front_more f x front rest xs ys e (Past more p q) = Past more (cc) q

front_of : (front rest xs ys : List Mark) → front ++ rest ≡ xs ++ ys → Front front rest xs ys
front_of [] rest xs ys e = Within xs refl
front_of (f ∷ front) rest [] ys e = Past (f ∷ front) refl e
front_of (f ∷ front) rest (x ∷ xs) ys e =
    let head : f ≡ x = cc in
    let tail : front ++ rest ≡ xs ++ ys = cc in
    front_more f x front rest xs ys head (front_of front rest xs ys tail)

even_empty : IsEven []
even_empty = record { even = refl; opened = λ front rest e. by_front front rest e }
  where
    by_front : (front rest : List Mark) → front ++ rest ≡ [] → sum_by mark_closes front ≤ sum_by mark_opens front
    by_front [] rest e = omega arith
    by_front (f ∷ front) rest e = cc

pub even_word : (t : Token) → IsEven (Worded t ∷ [])
even_word t = record { even = refl; opened = λ front rest e. by_front front rest e }
  where
    by_front : (front rest : List Mark) → front ++ rest ≡ Worded t ∷ [] → sum_by mark_closes front ≤ sum_by mark_opens front
    by_front [] rest e = omega arith
    by_front (f ∷ []) rest e = let same : f ≡ Worded t = cc in omega (arith, ap mark_opens same, ap mark_closes same)
    by_front (f ∷ g ∷ front) rest e = cc

even_append : (xs ys : List Mark) → IsEven xs → IsEven ys → IsEven (xs ++ ys)
even_append xs ys h k = record {
  even = omega (arith, h.even, k.even, sum_by-append mark_opens xs ys, sum_by-append mark_closes xs ys);
  opened = λ front rest e. by_front front rest (front_of front rest xs ys e);
}
  where
    by_front : (front rest : List Mark) → Front front rest xs ys → sum_by mark_closes front ≤ sum_by mark_opens front
    by_front front rest (Within more p) = h.opened front more p
    by_front front rest (Past more p q) =
        let fits : sum_by mark_closes more ≤ sum_by mark_opens more = k.opened more rest q in
        omega (arith, fits, h.even, ap (sum_by mark_opens) p, ap (sum_by mark_closes) p, sum_by-append mark_opens xs more, sum_by-append mark_closes xs more)

even_list : (at : ℕ) (xs : List Mark) → IsEven xs → IsEven (Opened at ∷ (xs ++ Closed ∷ []))
even_list at xs h = record {
  even = omega (arith, h.even, sum_by-append mark_opens xs (Closed ∷ []), sum_by-append mark_closes xs (Closed ∷ []), sum_by-cons mark_opens (Opened at) (xs ++ Closed ∷ []), sum_by-cons mark_closes (Opened at) (xs ++ Closed ∷ []));
  opened = λ front rest e. by_front front rest e;
}
  where
    tail : (more rest : List Mark) → more ++ rest ≡ Closed ∷ [] → sum_by mark_closes more ≤ sum_by mark_opens more + 1
    tail [] rest e = omega arith
    tail (f ∷ []) rest e = let same : f ≡ Closed = cc in omega (arith, ap mark_opens same, ap mark_closes same)
    tail (f ∷ g ∷ more) rest e = cc

    inside : (front rest : List Mark) → Front front rest xs (Closed ∷ []) → sum_by mark_closes front ≤ sum_by mark_opens front + 1
    inside front rest (Within more p) = omega (arith, h.opened front more p)
    inside front rest (Past more p q) =
        omega (arith, tail more rest q, h.even, ap (sum_by mark_opens) p, ap (sum_by mark_closes) p, sum_by-append mark_opens xs more, sum_by-append mark_closes xs more)

    by_front : (front rest : List Mark) → front ++ rest ≡ Opened at ∷ (xs ++ Closed ∷ []) → sum_by mark_closes front ≤ sum_by mark_opens front
    by_front [] rest e = omega arith
    by_front (f ∷ front) rest e =
        let same : f ≡ Opened at = cc in
        let behind : front ++ rest ≡ xs ++ Closed ∷ [] = cc in
        omega (arith, ap mark_opens same, ap mark_closes same, inside front rest (front_of front rest xs (Closed ∷ []) behind), sum_by-cons mark_opens f front, sum_by-cons mark_closes f front)

even_join : (items : List ((i : Item) × IsEven (marks_at i))) → IsEven (join (map marks_at (map (λ e. e.0) items)))
even_join [] = even_empty
even_join (e ∷ items) = even_append (marks_at e.0) (join (map marks_at (map (λ e. e.0) items))) e.1 (even_join items)

-- one layer of an item, or of a list, whose parts are laid flat
abbrev IsEvenItem : Item-F Item TreeList → Type 0
IsEvenItem i = IsEven (marks_of_item (map-Item Item TreeList (List Mark) (List Mark) marks_at marks_in i))

abbrev IsEvenList : TreeList-F Item TreeList → Type 0
IsEvenList l = IsEven (Opened l.at ∷ (join (map marks_at l.items.items) ++ Closed ∷ []))

even_item_step : (y : Item-F ((i : Item) × IsEven (marks_at i)) ((l : TreeList) × IsEven (marks_in l))) → IsEvenItem (map-Item ((i : Item) × IsEven (marks_at i)) ((l : TreeList) × IsEven (marks_in l)) Item TreeList (λ e. e.0) (λ e. e.0) y)
even_item_step (Item-F.Word t) = even_word t
even_item_step (Item-F.List e) = e.1

pub even_item : (i : Item) → IsEven (marks_at i)
even_item = ind-Item (λ i. IsEven (marks_at i)) (λ l. IsEven (marks_in l))
    (λ x y is. subst IsEven (sym (fold-roll-Item (List Mark) (List Mark) marks_of_item marks_of_list x)) (subst IsEvenItem is (even_item_step y)))
    (λ x y is. subst IsEven (sym (fold-roll-TreeList (List Mark) (List Mark) marks_of_item marks_of_list x)) (subst IsEvenList is (even_list y.at _ (even_join y.items.items))))

pub even_join_items : (items : List Item) → IsEven (join (map marks_at items))
even_join_items [] = even_empty
even_join_items (i ∷ items) = even_append (marks_at i) (join (map marks_at items)) (even_item i) (even_join_items items)

pub even_inside : (l : TreeList) → IsEven (marks_inside l)
even_inside l = even_join_items (out-TreeList l).items.items

pub even_tree : (l : TreeList) → IsEven (marks_in l)
even_tree l = subst IsEven (sym (fold_out-TreeList (List Mark) (List Mark) marks_of_item marks_of_list l)) (even_list (out-TreeList l).at (marks_inside l) (even_inside l))
