-- What the relation of a form and its value says of the value alone, where each word of the form has a
-- property: typed lists, literals, actions and sections.
use Rattle.std.proofs.Common.{◌≡◌, ◌⊎◌, ℕ, true, false, List, [], ◌∷◌, ◌++◌, map, refl, sym, subst, inl, inr, arith, codes}
use Rattle.std.specs.Prelude.{IsTrue, All, slice_index_or}
use Rattle.std.specs.List.{flat_map}
use Rattle.std.proofs.lemmas.List.Elements.{All-nil, All-cons, All-head, All-tail, All-append, All-map}
use Rattle.pddl_reader.specs.Kinds.{Listed, Names, Variables, Part, Precondition, Effect, Start}
use Rattle.pddl_reader.specs.Forms.{Word, Form, Forms, Leaf, Group, End, Then, forms_of}
use Rattle.pddl_reader.specs.Values.{PlainTypedName, PlainTerm, PlainLiteral, PlainSchema, PlainPredicate}
use Rattle.pddl_reader.specs.Values.PlainTerm.{Variable, Constant}
use Rattle.pddl_reader.specs.Classes.{is_element, takes_negation}
use Rattle.pddl_reader.specs.Typed.{IsNameWord, IsType, TypedGroup, AreElements, IsTypedGroup, group_forms, group_value, untyped, IsTypedList}
use Rattle.pddl_reader.specs.Conditions.{IsTerm, AreTerms, has_enough, IsAtom, IsLiteral, IsCondition, AreConditions, IsStartAtom}
use Rattle.pddl_reader.specs.Sections.{Pairwise, PartValue, HasParameters, HasPrecondition, HasEffect, IsPart, AreParts, parameters_in, preconditions_in, effects_in, IsAction, IsPredicate, SectionValue, HasTypes, HasConstants, HasPredicates, HasAction, HasDomain, HasObjects, HasInit, IsContent, IsSection, types_in, constants_in, section_predicates_in, actions_in, domains_in, objects_in, init_in}
use Rattle.pddl_reader.specs.Words.{AllWords, AllWordsOf, AllTerm}
use Rattle.pddl_reader.proofs.NamesOfValues.{SoundTypes, SoundTyped, SoundTerm, SoundLiteral, SoundSchema, SoundPredicate, SoundName}

pub flat_all : {X A : Type 0} (Q : A → Type 0) (f : X → List A) (xs : List X) → All (λ x. All Q (f x)) xs → All Q (flat_map f xs)
flat_all Q f [] all = All-nil Q
flat_all Q f (x ∷ xs) all =
    All-append Q (f x) (flat_map f xs) (All-head (λ y. All Q (f y)) x xs all) (flat_all Q f xs (All-tail (λ y. All Q (f y)) x xs all))

module _ (P : List ℕ → Type 0) where
  pub words_both : (xs ys : List Form) → AllWordsOf P (forms_of (xs ++ ys)) → AllWordsOf P (forms_of xs) × AllWordsOf P (forms_of ys)
  words_both [] ys h = (tt, h)
  words_both (x ∷ xs) ys h = let rest = words_both xs ys h.1 in ((h.0, rest.0), rest.1)

  leaf_words : (ws : List Word) → AllWordsOf P (forms_of (map Leaf ws)) → All (λ (w : Word). P w.text) ws
  leaf_words [] h = All-nil (λ (w : Word). P w.text)
  leaf_words (w ∷ ws) h = All-cons (λ (v : Word). P v.text) w ws h.0 (leaf_words ws h.1)

  -- what is known of types
  abbrev KnownTypes : Listed → List Word → Type 0
  KnownTypes listed types = SoundTypes listed types × All IsNameWord types × All (λ (w : Word). P w.text) types

  one_type : (listed : Listed) (w : Word) → IsNameWord w → P w.text → KnownTypes listed (w ∷ [])
  one_type Names w is h =
      ((w, refl), All-cons IsNameWord w [] is (All-nil IsNameWord), All-cons (λ (v : Word). P v.text) w [] h (All-nil (λ (v : Word). P v.text)))
  one_type Variables w is h =
      (omega arith, All-cons IsNameWord w [] is (All-nil IsNameWord), All-cons (λ (v : Word). P v.text) w [] h (All-nil (λ (v : Word). P v.text)))

  type_names : (listed : Listed) (f : Form) (types : List Word) → IsType listed f types → AllWords P f → KnownTypes listed types
  type_names Names f types (w, e, is, gives) h = subst (KnownTypes Names) (sym gives) (one_type Names w is (subst (AllWords P) e h))
  type_names Variables f types (inl (w, e, is, gives)) h =
      subst (KnownTypes Variables) (sym gives) (one_type Variables w is (subst (AllWords P) e h))
  type_names Variables f types (inr (at, head, e, is, some, all)) h =
      let inside = subst (AllWords P) e h in
      (some, all, leaf_words types inside.1)

  typed_group_names : (listed : Listed) (g : TypedGroup) → IsTypedGroup listed g → AllWordsOf P (forms_of (group_forms g)) → All (SoundTyped P listed) (group_value g)
  typed_group_names listed g is h =
      let both = words_both (map Leaf g.elements) (Leaf g.dash ∷ g.type_form ∷ []) h in
      let types = type_names listed g.type_form g.types is.of_type both.1.1.0 in
      let words = leaf_words g.elements both.0 in
      All-map (SoundTyped P listed) (λ w. record { name = w; types = g.types }) g.elements
      (λ k d within. record {
        name = is.each k d within;
        types = types.0;
        are_names = types.1;
        named = record { name = words k d within; types = types.2 };
      })

  groups_names : (listed : Listed) (groups : List TypedGroup) → All (IsTypedGroup listed) groups
      → AllWordsOf P (forms_of (flat_map group_forms groups)) → All (SoundTyped P listed) (flat_map group_value groups)
  groups_names listed [] all h = All-nil (SoundTyped P listed)
  groups_names listed (g ∷ groups) all h =
      let both = words_both (group_forms g) (flat_map group_forms groups) h in
      All-append (SoundTyped P listed) (group_value g) (flat_map group_value groups)
      (typed_group_names listed g (All-head (IsTypedGroup listed) g groups all) both.0)
      (groups_names listed groups (All-tail (IsTypedGroup listed) g groups all) both.1)

  -- terms, atoms and literals
  term_names : (part : Part) (f : Form) (t : PlainTerm) → IsTerm part f t → AllWords P f → SoundTerm part t × AllTerm P t
  term_names part f (Constant w) is h = (is.1, subst (AllWords P) is.0 h)
  term_names Precondition f (Variable w) is h = (is.1, subst (AllWords P) is.0 h)
  term_names Effect f (Variable w) is h = (is.1, subst (AllWords P) is.0 h)
  term_names Start f (Variable w) is h = absurd is

  terms_names : (part : Part) (forms : List Form) (terms : List PlainTerm) → AreTerms part forms terms → AllWordsOf P (forms_of forms)
      → All (SoundTerm part) terms × All (AllTerm P) terms
  terms_names part [] [] are h = (All-nil (SoundTerm part), All-nil (AllTerm P))
  terms_names part [] (t ∷ terms) are h = absurd are
  terms_names part (f ∷ forms) [] are h = absurd are
  terms_names part (f ∷ forms) (t ∷ terms) are h =
      let first = term_names part f t are.0 h.0 in
      let rest = terms_names part forms terms are.1 h.1 in
      (All-cons (SoundTerm part) t terms first.0 rest.0, All-cons (AllTerm P) t terms first.1 rest.1)

  -- as many terms as forms
  enough_terms : (part : Part) (predicate : List ℕ) (forms : List Form) (terms : List PlainTerm) → AreTerms part forms terms → has_enough predicate forms ≡ true → has_enough predicate terms ≡ true
  enough_terms part predicate [] [] are h = h
  enough_terms part predicate [] (t ∷ terms) are h = absurd are
  enough_terms part predicate (f ∷ forms) [] are h = absurd are
  enough_terms part predicate (f ∷ forms) (t ∷ terms) are h = refl

  pub atom_names : (part : Part) (f : Form) (l : PlainLiteral) → (l.positive ≡ true) ⊎ (l.positive ≡ false) × (takes_negation part ≡ true)
      → IsAtom part f l.predicate l.terms → AllWords P f → SoundLiteral P part l
  atom_names part f l sign is h =
      let inside = subst (AllWords P) is.whole h in
      let terms = terms_names part is.forms l.terms is.are_terms inside.1 in
      record {
        sign = sign;
        name = is.name;
        plain = is.plain;
        enough = enough_terms part l.predicate.text is.forms l.terms is.are_terms is.enough;
        terms = terms.0;
        named = record { predicate = inside.0; terms = terms.1 };
      }

  literal_names : (part : Part) (f : Form) (l : PlainLiteral) → IsLiteral part f l → AllWords P f → SoundLiteral P part l
  literal_names part f l (inl (positive, is)) h = atom_names part f l (inl positive) is h
  literal_names part f l (inr (negative, takes, at, head, inner, whole, not_word, is)) h =
      let inside = subst (AllWords P) whole h in
      atom_names part inner l (inr (negative, takes)) is inside.1.0

  mutual
    pub condition_names : (part : Part) (f : Form) (ls : List PlainLiteral) → IsCondition part f ls → AllWords P f → All (SoundLiteral P part) ls
    condition_names part (Leaf w) ls is h = absurd is
    condition_names part (Group at End) ls is h = subst (All (SoundLiteral P part)) (sym is) (All-nil (SoundLiteral P part))
    condition_names part (Group at (Then (Group a forms) rest)) ls is h = absurd is
    condition_names part (Group at (Then (Leaf w) rest)) ls (inl (and_word, are)) h = conditions_names part rest ls are h.1
    condition_names part (Group at (Then (Leaf w) rest)) ls (inr (l, one, is)) h =
        subst (All (SoundLiteral P part)) (sym one)
        (All-cons (SoundLiteral P part) l [] (literal_names part (Group at (Then (Leaf w) rest)) l is h) (All-nil (SoundLiteral P part)))

    conditions_names : (part : Part) (forms : Forms) (ls : List PlainLiteral) → AreConditions part forms ls → AllWordsOf P forms → All (SoundLiteral P part) ls
    conditions_names part End ls are h = subst (All (SoundLiteral P part)) (sym are) (All-nil (SoundLiteral P part))
    conditions_names part (Then f rest) ls (front, more, whole, is, are) h =
        subst (All (SoundLiteral P part)) (sym whole)
        (All-append (SoundLiteral P part) front more (condition_names part f front is h.0) (conditions_names part rest more are h.1))

  -- each value of a list of forms that are related to it one by one
  pub pairs_names : {X : Type 0} (R : Form → X → Type 0) (Q : X → Type 0) → ((f : Form) (x : X) → R f x → AllWords P f → Q x)
      → (forms : List Form) (xs : List X) → Pairwise R forms xs → AllWordsOf P (forms_of forms) → All Q xs
  pairs_names R Q one [] [] are h = All-nil Q
  pairs_names R Q one [] (x ∷ xs) are h = absurd are
  pairs_names R Q one (f ∷ forms) [] are h = absurd are
  pairs_names R Q one (f ∷ forms) (x ∷ xs) are h = All-cons Q x xs (one f x are.0 h.0) (pairs_names R Q one forms xs are.1 h.1)

  start_names : (f : Form) (l : PlainLiteral) → IsStartAtom f l → AllWords P f → SoundLiteral P Start l
  start_names f l is h = atom_names Start f l (inl is.0) is.1 h

  -- an 'object' is not written everywhere
  module _ (object : P (codes "object")) where
    untyped_names : (listed : Listed) (last : List Word) → AreElements listed last → AllWordsOf P (forms_of (map Leaf last)) → All (SoundTyped P listed) (map untyped last)
    untyped_names listed last are h =
        let words = leaf_words last h in
        All-map (SoundTyped P listed) untyped last (λ k d within. each (slice_index_or last k d) (are k d within) (words k d within))
      where
        each : (w : Word) → IsTrue (is_element listed w.text) → P w.text → SoundTyped P listed (untyped w)
        each w is named =
            let types = one_type listed (record { text = codes "object"; at = w.at }) refl object in
            record { name = is; types = types.0; are_names = types.1; named = record { name = named; types = types.2 } }

    pub typed_names : (listed : Listed) (forms : List Form) (value : List PlainTypedName) → IsTypedList listed forms value
        → AllWordsOf P (forms_of forms) → All (SoundTyped P listed) value
    typed_names listed forms value is h =
        let both = words_both (flat_map group_forms is.groups) (map Leaf is.last) (subst (λ fs. AllWordsOf P (forms_of fs)) is.whole h) in
        subst (All (SoundTyped P listed)) (sym is.gives)
        (All-append (SoundTyped P listed) (flat_map group_value is.groups) (map untyped is.last)
        (groups_names listed is.groups is.are_groups both.0) (untyped_names listed is.last is.are_last both.1))

    -- the parts of an action
    abbrev SoundPart : PartValue → Type 0
    SoundPart p = All (SoundTyped P Variables) (parameters_in p) × All (SoundLiteral P Precondition) (preconditions_in p) × All (SoundLiteral P Effect) (effects_in p)

    part_names : (f : Form) (p : PartValue) → IsPart f p → AllWords P f → SoundPart p
    part_names f (HasParameters parameters) (at, forms, whole, is) h = (
      typed_names Variables forms parameters is (subst (AllWords P) whole h),
      All-nil (SoundLiteral P Precondition),
      All-nil (SoundLiteral P Effect),
    )
    part_names f (HasPrecondition ls) is h = (All-nil (SoundTyped P Variables), condition_names Precondition f ls is h, All-nil (SoundLiteral P Effect))
    part_names f (HasEffect ls) is h = (All-nil (SoundTyped P Variables), All-nil (SoundLiteral P Precondition), condition_names Effect f ls is h)

    parts_names : (forms : List Form) (parts : List PartValue) → AreParts forms parts → AllWordsOf P (forms_of forms) → All SoundPart parts
    parts_names [] [] are h = All-nil SoundPart
    parts_names [] (p ∷ parts) are h = absurd are
    parts_names (Group a inner ∷ forms) parts are h = absurd are
    parts_names (Leaf w ∷ []) parts are h = absurd are
    parts_names (Leaf w ∷ f ∷ forms) [] are h = absurd are
    parts_names (Leaf w ∷ f ∷ forms) (p ∷ parts) are h =
        All-cons SoundPart p parts (part_names f p are.1 h.1.0) (parts_names forms parts are.2 h.1.1)

    pub action_names : (forms : List Form) (a : PlainSchema) → IsAction forms a → AllWordsOf P (forms_of forms) → SoundSchema P a
    action_names forms a is h =
        let words = subst (λ fs. AllWordsOf P (forms_of fs)) is.whole h in
        let parts = parts_names is.part_forms is.parts is.are_parts words.1 in
        record {
          name = is.name;
          named = words.0;
          parameters = subst (All (SoundTyped P Variables)) (sym is.parameters)
              (flat_all (SoundTyped P Variables) parameters_in is.parts (λ k d within. (parts k d within).0));
          pre = subst (All (SoundLiteral P Precondition)) (sym is.pre)
              (flat_all (SoundLiteral P Precondition) preconditions_in is.parts (λ k d within. (parts k d within).1));
          effect = subst (All (SoundLiteral P Effect)) (sym is.effect)
              (flat_all (SoundLiteral P Effect) effects_in is.parts (λ k d within. (parts k d within).2));
        }

    pub predicate_names : (f : Form) (p : PlainPredicate) → IsPredicate f p → AllWords P f → SoundPredicate P p
    predicate_names f p is h =
        let words = subst (AllWords P) is.whole h in
        record { name = is.name; named = words.0; parameters = typed_names Variables is.forms p.parameters is.parameters words.1 }

    -- what a section gives to each list of the value
    pub types_names : (forms : List Form) (s : SectionValue) → IsContent forms s → AllWordsOf P (forms_of forms) → All (SoundTyped P Names) (types_in s)
    types_names forms (HasTypes names) is h = typed_names Names forms names is h
    types_names forms _ is h = All-nil (SoundTyped P Names)

    pub constants_names : (forms : List Form) (s : SectionValue) → IsContent forms s → AllWordsOf P (forms_of forms) → All (SoundTyped P Names) (constants_in s)
    constants_names forms (HasConstants names) is h = typed_names Names forms names is h
    constants_names forms _ is h = All-nil (SoundTyped P Names)

    pub predicates_names : (forms : List Form) (s : SectionValue) → IsContent forms s → AllWordsOf P (forms_of forms) → All (SoundPredicate P) (section_predicates_in s)
    predicates_names forms (HasPredicates predicates) is h = pairs_names IsPredicate (SoundPredicate P) predicate_names forms predicates is h
    predicates_names forms _ is h = All-nil (SoundPredicate P)

    pub actions_names : (forms : List Form) (s : SectionValue) → IsContent forms s → AllWordsOf P (forms_of forms) → All (SoundSchema P) (actions_in s)
    actions_names forms (HasAction action) is h = All-cons (SoundSchema P) action [] (action_names forms action is h) (All-nil (SoundSchema P))
    actions_names forms _ is h = All-nil (SoundSchema P)

    pub domains_names : (forms : List Form) (s : SectionValue) → IsContent forms s → AllWordsOf P (forms_of forms) → All (SoundName P) (domains_in s)
    domains_names forms (HasDomain name) is h =
        let words = subst (λ fs. AllWordsOf P (forms_of fs)) is.0 h in
        All-cons (SoundName P) name [] (is.1, words.0) (All-nil (SoundName P))
    domains_names forms _ is h = All-nil (SoundName P)

    pub objects_names : (forms : List Form) (s : SectionValue) → IsContent forms s → AllWordsOf P (forms_of forms) → All (SoundTyped P Names) (objects_in s)
    objects_names forms (HasObjects names) is h = typed_names Names forms names is h
    objects_names forms _ is h = All-nil (SoundTyped P Names)

    pub init_names : (forms : List Form) (s : SectionValue) → IsContent forms s → AllWordsOf P (forms_of forms) → All (SoundLiteral P Start) (init_in s)
    init_names forms (HasInit atoms) is h = pairs_names IsStartAtom (SoundLiteral P Start) start_names forms atoms is h
    init_names forms _ is h = All-nil (SoundLiteral P Start)

  -- what all sections give
  pub sections_names : {A : Type 0} (Q : A → Type 0) (part : SectionValue → List A)
      → ((forms : List Form) (s : SectionValue) → IsContent forms s → AllWordsOf P (forms_of forms) → All Q (part s))
      → (forms : List Form) (sections : List SectionValue) → Pairwise IsSection forms sections → AllWordsOf P (forms_of forms)
      → All Q (flat_map part sections)
  sections_names Q part one forms sections are h =
      flat_all Q part sections (pairs_names IsSection (λ s. All Q (part s)) each forms sections are h)
    where
      each : (f : Form) (s : SectionValue) → IsSection f s → AllWords P f → All Q (part s)
      each f s is words = let inside = subst (AllWords P) is.whole words in one is.forms s is.content inside.1
