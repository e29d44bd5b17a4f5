-- Tokens have one form: trees of the same tokens are the same as forms.
use Rattle.std.proofs.Common.{◌≡◌, ℕ, List, [], ◌∷◌, ◌++◌, map, refl, sym, ap, ◌∙◌, subst, append_assoc, append-nil}
use Rattle.pddl_lexer.specs.declared.token.Token.{Token}
use Rattle.pddl_lexer.specs.declared.trees.Item.{Item}
use Rattle.pddl_lexer.specs.declared.trees.TreeList.{TreeList}
use Rattle.pddl_lexer.specs.declared.trees.Item.TheOpen.{Item-F, TreeList-F}
use Rattle.pddl_lexer.specs.declared.trees.Item.TheFolds.{map-Item, fold-roll-Item, fold-roll-TreeList, ind-TreeList}
use Rattle.pddl_lexer.specs.Trees.{Mark, Opened, Closed, Worded, join, marks_of_item, marks_of_list, marks_in, marks_at, IsTreeOf}
use Rattle.pddl_reader.specs.Forms.{Form, Leaf, group, word_of, form_of_item, form_of_list, form_at, form_of}
use Rattle.pddl_reader.specs.Items.{forms_at}

-- a list whose bracket is open, with its forms so far
record Opening : Type 0 where
  pub at : ℕ
  pub forms : List Form

-- the form is put into the innermost open list
abbrev put : Form → List Opening → List Opening
put f [] = []
put f (o ∷ outer) = record { at = o.at; forms = o.forms ++ f ∷ [] } ∷ outer

abbrev closed : List Opening → List Opening
closed [] = []
closed (o ∷ outer) = put (group o.at o.forms) outer

-- the open lists behind the marks, the innermost first
abbrev run : List ℕ → List Mark → List Opening → List Opening
run text [] lists = lists
run text (Opened at ∷ marks) lists = run text marks (record { at = at; forms = [] } ∷ lists)
run text (Closed ∷ marks) lists = run text marks (closed lists)
run text (Worded token ∷ marks) lists = run text marks (put (Leaf (word_of text token)) lists)

-- the marks give the form, whatever stands before and behind them
Gives : List ℕ → List Mark → Form → Type 0
Gives text marks f = (more : List Mark) (lists : List Opening) → run text (marks ++ more) lists ≡ run text more (put f lists)

gives_all : (text : List ℕ) (items : List ((i : Item) × Gives text (marks_at i) (form_at text i))) (at : ℕ) (forms : List Form) (outer : List Opening) (more : List Mark)
    → run text (join (map marks_at (map (λ e. e.0) items)) ++ more) (record { at = at; forms = forms } ∷ outer)
    ≡ run text more (record { at = at; forms = forms ++ forms_at text (map (λ e. e.0) items) } ∷ outer)
unfolding Gives
gives_all text [] at forms outer more = ap (λ fs. run text more (record { at = at; forms = fs } ∷ outer)) (sym (append-nil forms))
gives_all text (e ∷ items) at forms outer more =
    let rest = map (λ e. e.0) items in
    ap (λ ms. run text ms (record { at = at; forms = forms } ∷ outer)) (append_assoc (marks_at e.0) (join (map marks_at rest)) more)
    ∙ e.1 (join (map marks_at rest) ++ more) (record { at = at; forms = forms } ∷ outer)
    ∙ gives_all text items at (forms ++ form_at text e.0 ∷ []) outer more
    ∙ ap (λ fs. run text more (record { at = at; forms = fs } ∷ outer)) (append_assoc forms (form_at text e.0 ∷ []) (forms_at text rest))

abbrev GivesItem : List ℕ → Item-F Item TreeList → Type 0
GivesItem text i =
    Gives text (marks_of_item (map-Item Item TreeList (List Mark) (List Mark) marks_at marks_in i)) (form_of_item text (map-Item Item TreeList Form Form (form_at text) (form_of text) i))

abbrev GivesList : List ℕ → TreeList-F Item TreeList → Type 0
GivesList text l = Gives text (Opened l.at ∷ (join (map marks_at l.items.items) ++ Closed ∷ [])) (group l.at (forms_at text l.items.items))

gives_item : (text : List ℕ) (y : Item-F ((i : Item) × Gives text (marks_at i) (form_at text i)) ((l : TreeList) × Gives text (marks_in l) (form_of text l)))
    → GivesItem text (map-Item ((i : Item) × Gives text (marks_at i) (form_at text i)) ((l : TreeList) × Gives text (marks_in l) (form_of text l)) Item TreeList (λ e. e.0) (λ e. e.0) y)
unfolding Gives
gives_item text (Item-F.Word t) = λ more lists. refl
gives_item text (Item-F.List e) = e.1

gives_list : (text : List ℕ) (at : ℕ) (items : List ((i : Item) × Gives text (marks_at i) (form_at text i)))
    → Gives text (Opened at ∷ (join (map marks_at (map (λ e. e.0) items)) ++ Closed ∷ [])) (group at (forms_at text (map (λ e. e.0) items)))
unfolding Gives
gives_list text at items = λ more lists.
    let inside = join (map marks_at (map (λ e. e.0) items)) in
    ap (λ ms. run text ms (record { at = at; forms = [] } ∷ lists)) (append_assoc inside (Closed ∷ []) more)
    ∙ gives_all text items at [] lists (Closed ∷ more)

gives_same : (text : List ℕ) (marks others : List Mark) (f g : Form) → marks ≡ others → f ≡ g → Gives text others g → Gives text marks f
gives_same text marks others f g same_marks same_form h = subst (λ ms. Gives text ms f) (sym same_marks) (subst (Gives text others) (sym same_form) h)

gives_tree : (text : List ℕ) (l : TreeList) → Gives text (marks_in l) (form_of text l)
gives_tree text = ind-TreeList (λ i. Gives text (marks_at i) (form_at text i)) (λ l. Gives text (marks_in l) (form_of text l))
    (λ x y is.
    gives_same text _ _ _ _ (fold-roll-Item (List Mark) (List Mark) marks_of_item marks_of_list x) (fold-roll-Item Form Form (form_of_item text) form_of_list x)
    (subst (GivesItem text) is (gives_item text y)))
    (λ x y is.
    gives_same text _ _ _ _ (fold-roll-TreeList (List Mark) (List Mark) marks_of_item marks_of_list x) (fold-roll-TreeList Form Form (form_of_item text) form_of_list x)
    (subst (GivesList text) is (gives_list text y.at y.items.items)))

abbrev forms_within : List Opening → List Form
forms_within [] = []
forms_within (o ∷ outer) = o.forms

pub same_form : (text : List ℕ) (tokens : List Token) (l m : TreeList) → IsTreeOf tokens l → IsTreeOf tokens m → form_of text l ≡ form_of text m
unfolding Gives
same_form text tokens l m is also =
    let outer : List Opening = record { at = 0; forms = [] } ∷ [] in
    let marks : marks_in l ≡ marks_in m = is ∙ sym also in
    let both : form_of text l ∷ [] ≡ form_of text m ∷ [] =
    ap forms_within (sym (gives_tree text l [] outer) ∙ ap (λ ms. run text (ms ++ []) outer) marks ∙ gives_tree text m [] outer) in
    cc
