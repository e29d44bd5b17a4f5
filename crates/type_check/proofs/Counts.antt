-- A text has no fewer bytes than a domain or a problem that it spells has types, constants, and so on.
use Rattle.std.proofs.Common.{◌≡◌, ℕ, ◌+◌, ◌≤◌, List, [], ◌∷◌, ◌++◌, length, map, refl, sym, ap, subst, arith, length-append}
use Rattle.std.specs.List.{flat_map, AllByRecursion}
use Rattle.std.proofs.lemmas.List.{length-map}
use Rattle.pddl_lexer.specs.declared.trees.Item.{Item}
use Rattle.pddl_lexer.specs.declared.trees.TreeList.{TreeList}
use Rattle.pddl_lexer.specs.declared.trees.Item.TheOpen.{Item-F, TreeList-F}
use Rattle.pddl_lexer.specs.declared.trees.Item.TheFolds.{map-Item, fold-roll-Item, fold-roll-TreeList, ind-TreeList}
use Rattle.pddl_lexer.specs.Pieces.{Piece, Space, Comment, Bracket, Run, bytes_of, IsPiece}
use Rattle.pddl_lexer.specs.Tokens.{tokens_from}
use Rattle.pddl_lexer.specs.Trees.{Mark, Opened, Closed, mark_of, join, marks_of_item, marks_of_list, marks_in, marks_at}
use Rattle.pddl_reader.specs.Forms.{Word, Form, Forms, Leaf, Group, End, Then, group, forms_of, form_of_item, form_of_list, form_at, form_of}
use Rattle.pddl_reader.specs.Items.{forms_at}
use Rattle.pddl_reader.specs.Values.{PlainTypedName, PlainLiteral, PlainPredicate, PlainDomain, PlainProblem}
use Rattle.pddl_reader.specs.Typed.{TypedGroup, group_forms, group_value, untyped}
use Rattle.pddl_reader.specs.Conditions.{IsStartAtom}
use Rattle.pddl_reader.specs.Sections.{Pairwise, SectionValue, IsSection, IsPredicate, HasRequirements, HasTypes, HasConstants, HasPredicates, HasAction, HasDomain, HasObjects, HasInit, HasGoal, types_in, constants_in, section_predicates_in, actions_in, objects_in, init_in}
use Rattle.pddl_reader.specs.Spelling.{IsFormOf, IsDomainText, IsProblemText}

-- how many words a form has
abbrev mutual
  words_in : Form → ℕ
  words_in (Leaf w) = 1
  words_in (Group at forms) = words_among forms

  words_among : Forms → ℕ
  words_among End = 0
  words_among (Then f rest) = words_in f + words_among rest

abbrev words_over : List Form → ℕ
words_over [] = 0
words_over (f ∷ forms) = words_in f + words_over forms

among-of : (forms : List Form) → words_among (forms_of forms) ≡ words_over forms
among-of [] = refl
among-of (f ∷ forms) = ap (λ n. words_in f + n) (among-of forms)

in-group : (at : ℕ) (forms : List Form) → words_in (group at forms) ≡ words_over forms
in-group at forms = among-of forms

over-append : (front back : List Form) → words_over (front ++ back) ≡ words_over front + words_over back
over-append [] back = omega arith
over-append (f ∷ front) back = omega (arith, over-append front back)

over-leaves : (words : List Word) → words_over (map Leaf words) ≡ length words
over-leaves [] = refl
over-leaves (w ∷ words) = omega (arith, over-leaves words)

-- the words of a tree are among its marks
abbrev IsItemFew : List ℕ → Item → Type 0
IsItemFew text i = words_in (form_at text i) ≤ length (marks_at i)

abbrev IsListFew : List ℕ → TreeList → Type 0
IsListFew text l = words_in (form_of text l) ≤ length (marks_in l)

few_among : (text : List ℕ) (items : List ((i : Item) × IsItemFew text i)) → words_over (forms_at text (map (λ e. e.0) items)) ≤ length (join (map marks_at (map (λ e. e.0) items)))
few_among text [] = omega arith
few_among text (e ∷ items) =
    omega (arith, e.1, few_among text items, length-append (marks_at e.0) (join (map marks_at (map (λ e. e.0) items))))

abbrev IsItemLayer : List ℕ → Item-F Item TreeList → Type 0
IsItemLayer text i =
    words_in (form_of_item text (map-Item Item TreeList Form Form (form_at text) (form_of text) i)) ≤ length (marks_of_item (map-Item Item TreeList (List Mark) (List Mark) marks_at marks_in i))

abbrev IsListLayer : List ℕ → TreeList-F Item TreeList → Type 0
IsListLayer text l = words_in (group l.at (forms_at text l.items.items)) ≤ length (Opened l.at ∷ (join (map marks_at l.items.items) ++ Closed ∷ []))

item_layer : (text : List ℕ) (y : Item-F ((i : Item) × IsItemFew text i) ((l : TreeList) × IsListFew text l)) → IsItemLayer text (map-Item ((i : Item) × IsItemFew text i) ((l : TreeList) × IsListFew text l) Item TreeList (λ e. e.0) (λ e. e.0) y)
item_layer text (Item-F.Word t) = omega arith
item_layer text (Item-F.List e) = e.1

list_layer : (text : List ℕ) (at : ℕ) (items : List ((i : Item) × IsItemFew text i))
    → words_in (group at (forms_at text (map (λ e. e.0) items))) ≤ length (Opened at ∷ (join (map marks_at (map (λ e. e.0) items)) ++ Closed ∷ []))
list_layer text at items =
    omega (arith, in-group at (forms_at text (map (λ e. e.0) items)), few_among text items, length-append (join (map marks_at (map (λ e. e.0) items))) (Closed ∷ []))

few_as : (marks others : List Mark) (f g : Form) → marks ≡ others → f ≡ g → words_in g ≤ length others → words_in f ≤ length marks
few_as marks others f g same_marks same_form h = omega (arith, ap length same_marks, ap words_in same_form, h)

few_in_tree : (text : List ℕ) (l : TreeList) → IsListFew text l
few_in_tree text = ind-TreeList (IsItemFew text) (IsListFew text)
    (λ x y is.
    few_as _ _ _ _ (fold-roll-Item (List Mark) (List Mark) marks_of_item marks_of_list x) (fold-roll-Item Form Form (form_of_item text) form_of_list x)
    (subst (IsItemLayer text) is (item_layer text y)))
    (λ x y is.
    few_as _ _ _ _ (fold-roll-TreeList (List Mark) (List Mark) marks_of_item marks_of_list x) (fold-roll-TreeList Form Form (form_of_item text) form_of_list x)
    (subst (IsListLayer text) is (list_layer text y.at y.items.items)))

-- tokens are no more than the bytes of their text
few_tokens : (at : ℕ) (pieces : List Piece) → AllByRecursion IsPiece pieces → length (tokens_from at pieces) ≤ length (flat_map bytes_of pieces)
few_tokens at [] each = omega arith
few_tokens at (Space b ∷ rest) each = omega (arith, few_tokens (at + 1) rest each.1)
few_tokens at (Comment bytes ∷ rest) each =
    omega (arith, few_tokens (at + 1 + length bytes) rest each.1, length-append bytes (flat_map bytes_of rest))
few_tokens at (Bracket b ∷ rest) each = omega (arith, few_tokens (at + 1) rest each.1)
few_tokens at (Run bytes ∷ rest) each =
    omega (arith, each.0.0, few_tokens (at + length bytes) rest each.1, length-append bytes (flat_map bytes_of rest))

few_words : (text : List ℕ) (f : Form) → IsFormOf text f → words_in f ≤ length text
few_words text f h =
    let pieces = h.are_tokens.pieces in
    omega (arith, ap words_in h.form, few_in_tree text h.tree, ap length h.is_tree, length-map h.tokens mark_of, ap length (sym h.are_tokens.give), few_tokens 0 pieces h.are_tokens.cut.each, ap length h.are_tokens.cut.covers)

-- a typed list has a word for each of its names
few_grouped : (groups : List TypedGroup) → length (flat_map group_value groups) ≤ words_over (flat_map group_forms groups)
few_grouped [] = omega arith
few_grouped (g ∷ groups) =
    omega (arith, few_grouped groups, length-append (group_value g) (flat_map group_value groups), over-append (group_forms g) (flat_map group_forms groups), length-map g.elements (λ (w : Word). let n : PlainTypedName = record { name = w; types = g.types } in n), over-append (map Leaf g.elements) (Leaf g.dash ∷ g.type_form ∷ []), over-leaves g.elements)

few_typed : (groups : List TypedGroup) (last : List Word) (forms : List Form) (value : List PlainTypedName)
    → forms ≡ flat_map group_forms groups ++ map Leaf last → value ≡ flat_map group_value groups ++ map untyped last → length value ≤ words_over forms
few_typed groups last forms value whole gives =
    let named = flat_map group_value groups in
    omega (arith, ap length gives, length-append named (map untyped last), length-map last untyped, few_grouped groups, ap words_over whole, over-append (flat_map group_forms groups) (map Leaf last), over-leaves last)

-- a list that begins with a word
behind_word : (f : Form) (at : ℕ) (w : Word) (forms : List Form) → f ≡ group at (Leaf w ∷ forms) → 1 + words_over forms ≤ words_in f
behind_word f at w forms whole = omega (arith, ap words_in whole, in-group at (Leaf w ∷ forms))

few_declared : (forms : List Form) (predicates : List PlainPredicate) → Pairwise IsPredicate forms predicates → length predicates ≤ words_over forms
few_declared [] [] h = omega arith
few_declared (f ∷ forms) (q ∷ predicates) h = omega (arith, behind_word f h.0.at q.name h.0.forms h.0.whole, few_declared forms predicates h.1)
few_declared [] (q ∷ predicates) h = absurd h
few_declared (f ∷ forms) [] h = absurd h

few_atoms : (forms : List Form) (atoms : List PlainLiteral) → Pairwise IsStartAtom forms atoms → length atoms ≤ words_over forms
few_atoms [] [] h = omega arith
few_atoms (f ∷ forms) (l ∷ atoms) h = omega (arith, behind_word f h.0.1.at l.predicate h.0.1.forms h.0.1.whole, few_atoms forms atoms h.1)
few_atoms [] (l ∷ atoms) h = absurd h
few_atoms (f ∷ forms) [] h = absurd h

-- what sections give, where each gives at most as many as it has words
abbrev GivesFew : {X : Type 0} → (SectionValue → List X) → Type 0
GivesFew gives = (f : Form) (s : SectionValue) → IsSection f s → length (gives s) ≤ words_in f

module _ {X : Type 0} (gives : SectionValue → List X) (few : GivesFew gives) where
  few_given : (forms : List Form) (sections : List SectionValue) → Pairwise IsSection forms sections → length (flat_map gives sections) ≤ words_over forms
  few_given [] [] h = omega arith
  few_given (f ∷ forms) (s ∷ sections) h =
      omega (arith, few f s h.0, few_given forms sections h.1, length-append (gives s) (flat_map gives sections))
  few_given [] (s ∷ sections) h = absurd h
  few_given (f ∷ forms) [] h = absurd h

  few_of : (text : List ℕ) (f : Form) (at : ℕ) (define : Word) (title : Form) (forms : List Form) (sections : List SectionValue) (values : List X)
      → IsFormOf text f → f ≡ group at (Leaf define ∷ title ∷ forms) → Pairwise IsSection forms sections → values ≡ flat_map gives sections → length values ≤ length text
  few_of text f at define title forms sections values is_form whole are is =
      omega (arith, ap length is, few_given forms sections are, behind_word f at define (title ∷ forms) whole, few_words text f is_form)

few_types_in : GivesFew types_in
few_types_in f HasRequirements h = omega arith
few_types_in f (HasTypes names) h = omega (arith, few_typed h.content.groups h.content.last h.forms names h.content.whole h.content.gives, behind_word f h.at h.head h.forms h.whole)
few_types_in f (HasConstants names) h = omega arith
few_types_in f (HasPredicates predicates) h = omega arith
few_types_in f (HasAction action) h = omega arith
few_types_in f (HasDomain name) h = omega arith
few_types_in f (HasObjects names) h = omega arith
few_types_in f (HasInit atoms) h = omega arith
few_types_in f HasGoal h = omega arith

few_constants_in : GivesFew constants_in
few_constants_in f HasRequirements h = omega arith
few_constants_in f (HasTypes names) h = omega arith
few_constants_in f (HasConstants names) h = omega (arith, few_typed h.content.groups h.content.last h.forms names h.content.whole h.content.gives, behind_word f h.at h.head h.forms h.whole)
few_constants_in f (HasPredicates predicates) h = omega arith
few_constants_in f (HasAction action) h = omega arith
few_constants_in f (HasDomain name) h = omega arith
few_constants_in f (HasObjects names) h = omega arith
few_constants_in f (HasInit atoms) h = omega arith
few_constants_in f HasGoal h = omega arith

few_predicates_in : GivesFew section_predicates_in
few_predicates_in f HasRequirements h = omega arith
few_predicates_in f (HasTypes names) h = omega arith
few_predicates_in f (HasConstants names) h = omega arith
few_predicates_in f (HasPredicates predicates) h = omega (arith, few_declared h.forms predicates h.content, behind_word f h.at h.head h.forms h.whole)
few_predicates_in f (HasAction action) h = omega arith
few_predicates_in f (HasDomain name) h = omega arith
few_predicates_in f (HasObjects names) h = omega arith
few_predicates_in f (HasInit atoms) h = omega arith
few_predicates_in f HasGoal h = omega arith

few_actions_in : GivesFew actions_in
few_actions_in f HasRequirements h = omega arith
few_actions_in f (HasTypes names) h = omega arith
few_actions_in f (HasConstants names) h = omega arith
few_actions_in f (HasPredicates predicates) h = omega arith
few_actions_in f (HasAction action) h = omega (arith, behind_word f h.at h.head h.forms h.whole)
few_actions_in f (HasDomain name) h = omega arith
few_actions_in f (HasObjects names) h = omega arith
few_actions_in f (HasInit atoms) h = omega arith
few_actions_in f HasGoal h = omega arith

few_objects_in : GivesFew objects_in
few_objects_in f HasRequirements h = omega arith
few_objects_in f (HasTypes names) h = omega arith
few_objects_in f (HasConstants names) h = omega arith
few_objects_in f (HasPredicates predicates) h = omega arith
few_objects_in f (HasAction action) h = omega arith
few_objects_in f (HasDomain name) h = omega arith
few_objects_in f (HasObjects names) h = omega (arith, few_typed h.content.groups h.content.last h.forms names h.content.whole h.content.gives, behind_word f h.at h.head h.forms h.whole)
few_objects_in f (HasInit atoms) h = omega arith
few_objects_in f HasGoal h = omega arith

few_init_in : GivesFew init_in
few_init_in f HasRequirements h = omega arith
few_init_in f (HasTypes names) h = omega arith
few_init_in f (HasConstants names) h = omega arith
few_init_in f (HasPredicates predicates) h = omega arith
few_init_in f (HasAction action) h = omega arith
few_init_in f (HasDomain name) h = omega arith
few_init_in f (HasObjects names) h = omega arith
few_init_in f (HasInit atoms) h = omega (arith, few_atoms h.forms atoms h.content, behind_word f h.at h.head h.forms h.whole)
few_init_in f HasGoal h = omega arith

-- of a domain
module _ (text : List ℕ) (d : PlainDomain) (h : IsDomainText text d) where
  few_of_domain : {X : Type 0} (gives : SectionValue → List X) → GivesFew gives → (values : List X) → values ≡ flat_map gives h.is_domain.sections → length values ≤ length text
  few_of_domain gives few values is =
      let document = h.is_domain.document in
      few_of gives few text h.form document.at document.define _ document.forms h.is_domain.sections values h.is_form document.whole document.are_sections is

  pub few_types : length d.types ≤ length text
  few_types = few_of_domain types_in few_types_in d.types h.is_domain.types

  pub few_constants : length d.constants ≤ length text
  few_constants = few_of_domain constants_in few_constants_in d.constants h.is_domain.constants

  pub few_predicates : length d.predicates ≤ length text
  few_predicates = few_of_domain section_predicates_in few_predicates_in d.predicates h.is_domain.predicates

  pub few_actions : length d.actions ≤ length text
  few_actions = few_of_domain actions_in few_actions_in d.actions h.is_domain.actions

-- of a problem
module _ (text : List ℕ) (p : PlainProblem) (h : IsProblemText text p) where
  few_of_problem : {X : Type 0} (gives : SectionValue → List X) → GivesFew gives → (values : List X) → values ≡ flat_map gives h.is_problem.sections → length values ≤ length text
  few_of_problem gives few values is =
      let document = h.is_problem.document in
      few_of gives few text h.form document.at document.define _ document.forms h.is_problem.sections values h.is_form document.whole document.are_sections is

  pub few_objects : length p.objects ≤ length text
  few_objects = few_of_problem objects_in few_objects_in p.objects h.is_problem.objects
