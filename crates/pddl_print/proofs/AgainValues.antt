-- Typed lists, terms, literals and conditions that are spelled again: forms that differ from a value's
-- canonical ones in places alone spell a value that differs from it in places alone.
use Rattle.std.proofs.Common.{◌≡◌, ℕ, ◌<◌, true, false, List, [], ◌∷◌, length, map, refl, sym, ap, ap₂, ◌∙◌, subst, inl, inr, arith, codes}
use Rattle.std.specs.Prelude.{IsTrue, All}
use Rattle.std.specs.List.{flat_map}
use Rattle.std.proofs.lemmas.Bool.{cond-true, cond-false, false≢true}
use Rattle.std.proofs.lemmas.List.Elements.{All-nil, All-cons, All-head, All-tail}
use Rattle.pddl_reader.specs.Kinds.{Listed, Names, Variables, Part, Precondition, Effect, Start}
use Rattle.pddl_reader.specs.Forms.{Word, Form, Leaf, forms_of, group}
use Rattle.pddl_reader.specs.Values.{PlainTypedName, PlainTerm, PlainLiteral}
use Rattle.pddl_reader.specs.Values.PlainTerm.{Variable, Constant}
use Rattle.pddl_reader.specs.Places.{unplaced, unplaced_typed, unplaced_term, unplaced_literal}
use Rattle.pddl_reader.specs.Classes.{is_name, is_variable, is_element, takes_negation, is_predicate, head_feature}
use Rattle.pddl_reader.specs.Typed.{IsNameWord, IsType, TypedGroup, IsTypedGroup, IsTypedList}
use Rattle.pddl_reader.specs.Conditions.{IsTerm, AreTerms, has_enough, IsAtom, IsLiteral, IsCondition, AreConditions, IsStartAtom}
use Rattle.pddl_reader.specs.Sections.{Pairwise}
use Rattle.pddl_print.specs.Layouts.{unplaced_form}
use Rattle.pddl_print.specs.CanonicalForms.{word, name_form, type_form, typed_forms, term_form, atom_form, literal_form, condition_form}
use Rattle.pddl_reader.proofs.NamesOfValues.{SoundTypes, SoundTyped, SoundTerm, SoundLiteral}
use Rattle.pddl_print.proofs.AgainForms.{leaf_again, group_again, word_first, form_first, none_again, each_again}

pub same_word : (w v : Word) → w.text ≡ v.text → unplaced w ≡ unplaced v
same_word w v e = λ j. record { text = e j; at = 0 }

pub same_name : (w v : Word) → w.text ≡ v.text → IsNameWord v → IsNameWord w
same_name w v e is = subst (λ t. IsTrue (is_name t)) (sym e) is

pub name_again : (v : Word) (g : Form) → IsNameWord v → unplaced_form g ≡ name_form v
    → (w : Word) × ((g ≡ Leaf w) × IsNameWord w) × (unplaced w ≡ unplaced v)
name_again v g is e =
    let leaf = leaf_again g v.text e in
    (leaf.0, (leaf.1, same_name leaf.0 v leaf.2 is), same_word leaf.0 v leaf.2)

-- names, one by one, as a list of words
names_are : (gs : List Form) (ws : List Word) → Pairwise (λ g w. (g ≡ Leaf w) × IsNameWord w) gs ws → (gs ≡ map Leaf ws) × All IsNameWord ws
names_are [] [] are = (refl, All-nil IsNameWord)
names_are [] (w ∷ ws) are = absurd are
names_are (g ∷ gs) [] are = absurd are
names_are (g ∷ gs) (w ∷ ws) are =
    let rest = names_are gs ws are.1 in
    (ap₂ (λ f fs. f ∷ fs) are.0.0 rest.0, All-cons IsNameWord w ws are.0.1 rest.1)

-- the form is the type of some names that differ from these in places alone
abbrev TypeAgain : Listed → Form → List Word → Type 0
TypeAgain listed g types = (ts : List Word) × IsType listed g ts × (map unplaced ts ≡ map unplaced types)

one_type_again : (listed : Listed) (g : Form) (t : Word) → IsNameWord t → unplaced_form g ≡ name_form t → TypeAgain listed g (t ∷ [])
one_type_again Names g t is e =
    let name = name_again t g is e in
    (name.0 ∷ [], (name.0, name.1.0, name.1.1, refl), ap (λ w. w ∷ []) name.2)
one_type_again Variables g t is e =
    let name = name_again t g is e in
    (name.0 ∷ [], inl (name.0, name.1.0, name.1.1, refl), ap (λ w. w ∷ []) name.2)

either_again : (g : Form) (types : List Word) → 0 < length types → All IsNameWord types
    → unplaced_form g ≡ group 0 (word (codes "either") ∷ map name_form types) → TypeAgain Variables g types
either_again g types some all e =
    let whole = group_again g (word (codes "either") ∷ map name_form types) e in
    let head = word_first whole.1 (codes "either") (map name_form types) whole.3 in
    let names = each_again name_form unplaced (λ f w. (f ≡ Leaf w) × IsNameWord w) IsNameWord name_again types head.rest all head.behind in
    let are = names_are head.rest names.0 names.1 in (
      names.0,
      inr (
        whole.0,
        head.first,
        whole.2 ∙ ap (λ fs. group whole.0 fs) (head.whole ∙ ap (λ fs. Leaf head.first ∷ fs) are.0),
        head.same,
        as_many names.0 types names.2 some,
        are.1,
      ),
      names.2,
    )
  where
    as_many : (ts types : List Word) → map unplaced ts ≡ map unplaced types → 0 < length types → 0 < length ts
    as_many [] [] e some = some
    as_many [] (t ∷ types) e some = absurd (cc)
    as_many (t ∷ ts) types e some = omega arith

type_again : (listed : Listed) (g : Form) (types : List Word) → SoundTypes listed types → All IsNameWord types
    → unplaced_form g ≡ type_form types → TypeAgain listed g types
type_again Names g [] (t, one) all e = absurd (cc)
type_again Variables g [] some all e = absurd (omega arith)
type_again listed g (t ∷ []) some all e = one_type_again listed g t (All-head IsNameWord t [] all) e
type_again Names g (t ∷ s ∷ types) (w, one) all e = absurd (cc)
type_again Variables g (t ∷ s ∷ types) some all e = either_again g (t ∷ s ∷ types) some all e

-- a group of one element before a typed list
group_before : (listed : Listed) (w dash : Word) (f : Form) (types : List Word) (rest : List Form) (ms : List PlainTypedName)
    → IsTrue (is_element listed w.text) → dash.text ≡ codes "-" → IsType listed f types → IsTypedList listed rest ms
    → IsTypedList listed (Leaf w ∷ Leaf dash ∷ f ∷ rest) (record { name = w; types = types } ∷ ms)
group_before listed w dash f types rest ms element is of_type list =
    let g : TypedGroup = record { elements = w ∷ []; dash = dash; type_form = f; types = types } in
    record {
      groups = g ∷ list.groups;
      last = list.last;
      whole = ap (λ fs. Leaf w ∷ Leaf dash ∷ f ∷ fs) list.whole;
      are_groups = All-cons (IsTypedGroup listed) g list.groups
          (record {
            some = omega arith;
            each = All-cons (λ (v : Word). IsTrue (is_element listed v.text)) w [] element (All-nil (λ (v : Word). IsTrue (is_element listed v.text)));
            dash = is;
            of_type = of_type;
          })
          list.are_groups;
      are_last = list.are_last;
      gives = ap (λ ns. record { name = w; types = types } ∷ ns) list.gives;
    }

module _ (P : List ℕ → Type 0) where
  pub typed_again : (listed : Listed) (ns : List PlainTypedName) (gs : List Form) → All (SoundTyped P listed) ns
      → map unplaced_form gs ≡ flat_map typed_forms ns
      → (ms : List PlainTypedName) × IsTypedList listed gs ms × (map unplaced_typed ms ≡ map unplaced_typed ns)
  typed_again listed [] gs all e = (
    [],
    record {
      groups = [];
      last = [];
      whole = none_again gs e;
      are_groups = All-nil (IsTypedGroup listed);
      are_last = All-nil (λ (v : Word). IsTrue (is_element listed v.text));
      gives = refl;
    },
    refl,
  )
  typed_again listed (n ∷ ns) gs all e =
      let sound = All-head (SoundTyped P listed) n ns all in
      let name = word_first gs n.name.text (word (codes "-") ∷ type_form n.types ∷ flat_map typed_forms ns) e in
      let dash = word_first name.rest (codes "-") (type_form n.types ∷ flat_map typed_forms ns) name.behind in
      let of_type = form_first dash.rest (type_form n.types) (flat_map typed_forms ns) dash.behind in
      let types = type_again listed of_type.first n.types sound.types sound.are_names of_type.same in
      let rest = typed_again listed ns of_type.rest (All-tail (SoundTyped P listed) n ns all) of_type.behind in
      let whole : gs ≡ Leaf name.first ∷ Leaf dash.first ∷ of_type.first ∷ of_type.rest =
      name.whole ∙ ap (λ fs. Leaf name.first ∷ fs) (dash.whole ∙ ap (λ fs. Leaf dash.first ∷ fs) of_type.whole) in (
        record { name = name.first; types = types.0 } ∷ rest.0,
        subst (λ fs. IsTypedList listed fs (record { name = name.first; types = types.0 } ∷ rest.0)) (sym whole)
            (group_before listed name.first dash.first of_type.first types.0 of_type.rest rest.0
            (subst (λ t. IsTrue (is_element listed t)) (sym name.same) sound.name) dash.same types.1 rest.1),
        λ j. record { name = record { text = name.same j; at = 0 }; types = types.2 j } ∷ rest.2 j,
      )

-- terms
pub term_again : (part : Part) (t : PlainTerm) (g : Form) → SoundTerm part t → unplaced_form g ≡ term_form t
    → (s : PlainTerm) × IsTerm part g s × (unplaced_term s ≡ unplaced_term t)
term_again part (Constant w) g is e =
    let leaf = leaf_again g w.text e in
    (Constant leaf.0, (leaf.1, same_name leaf.0 w leaf.2 is), ap Constant (same_word leaf.0 w leaf.2))
term_again Precondition (Variable w) g is e =
    let leaf = leaf_again g w.text e in
    (Variable leaf.0, (leaf.1, subst (λ t. IsTrue (is_variable t)) (sym leaf.2) is), ap Variable (same_word leaf.0 w leaf.2))
term_again Effect (Variable w) g is e =
    let leaf = leaf_again g w.text e in
    (Variable leaf.0, (leaf.1, subst (λ t. IsTrue (is_variable t)) (sym leaf.2) is), ap Variable (same_word leaf.0 w leaf.2))
term_again Start (Variable w) g is e = absurd is

terms_are : (part : Part) (gs : List Form) (terms : List PlainTerm) → Pairwise (IsTerm part) gs terms → AreTerms part gs terms
terms_are part [] [] are = tt
terms_are part [] (t ∷ terms) are = absurd are
terms_are part (g ∷ gs) [] are = absurd are
terms_are part (g ∷ gs) (t ∷ terms) are = (are.0, terms_are part gs terms are.1)

-- a literal is a condition
pub literal_condition : (part : Part) (g : Form) (l : PlainLiteral) → IsLiteral part g l → IsCondition part g (l ∷ [])
literal_condition part g l (inl (positive, is)) =
    subst (λ f. IsCondition part f (l ∷ [])) (sym is.whole)
    (inr (l, refl, subst (λ f. IsLiteral part f l) is.whole (inl (positive, is))))
literal_condition part g l (inr (negative, takes, at, head, inner, whole, not_word, is)) =
    subst (λ f. IsCondition part f (l ∷ [])) (sym whole)
    (inr (l, refl, inr (negative, takes, at, head, inner, refl, not_word, is)))

literals_are : (part : Part) (gs : List Form) (ls : List PlainLiteral) → Pairwise (IsLiteral part) gs ls → AreConditions part (forms_of gs) ls
literals_are part [] [] are = refl
literals_are part [] (l ∷ ls) are = absurd are
literals_are part (g ∷ gs) [] are = absurd are
literals_are part (g ∷ gs) (l ∷ ls) are = (l ∷ [], ls, refl, literal_condition part g l are.0, literals_are part gs ls are.1)

module _ (P : List ℕ → Type 0) (part : Part) where
  -- terms are enough for a predicate where their forms are
  enough_again : (predicate : List ℕ) (terms : List PlainTerm) (gs : List Form) → map unplaced_form gs ≡ map term_form terms
      → IsTrue (has_enough predicate terms) → IsTrue (has_enough predicate gs)
  enough_again predicate [] [] e enough = enough
  enough_again predicate [] (g ∷ gs) e enough = refl
  enough_again predicate (t ∷ terms) [] e enough = absurd (cc)
  enough_again predicate (t ∷ terms) (g ∷ gs) e enough = refl

  atom_again : (l : PlainLiteral) (g : Form) → SoundLiteral P part l → unplaced_form g ≡ atom_form l
      → (w : Word) × (terms : List PlainTerm) × IsAtom part g w terms × (w.text ≡ l.predicate.text) × (map unplaced_term terms ≡ map unplaced_term l.terms)
  atom_again l g sound e =
      let whole = group_again g (name_form l.predicate ∷ map term_form l.terms) e in
      let head = word_first whole.1 l.predicate.text (map term_form l.terms) whole.3 in
      let terms = each_again term_form unplaced_term (IsTerm part) (SoundTerm part) (term_again part) l.terms head.rest sound.terms head.behind in (
        head.first,
        terms.0,
        record {
          at = whole.0;
          forms = head.rest;
          whole = whole.2 ∙ ap (λ fs. group whole.0 fs) head.whole;
          name = subst (λ t. IsTrue (is_predicate part t)) (sym head.same) sound.name;
          plain = ap (head_feature part) head.same ∙ sound.plain;
          enough = subst (λ t. IsTrue (has_enough t head.rest)) (sym head.same) (enough_again l.predicate.text l.terms head.rest head.behind sound.enough);
          are_terms = terms_are part head.rest terms.0 terms.1;
        },
        head.same,
        terms.2,
      )

  -- the form is a literal that differs from this one in places alone
  abbrev LiteralAgain : Form → PlainLiteral → Type 0
  LiteralAgain g l = (m : PlainLiteral) × IsLiteral part g m × (unplaced_literal m ≡ unplaced_literal l)

  positive_again : (l : PlainLiteral) (g : Form) → SoundLiteral P part l → l.positive ≡ true → unplaced_form g ≡ atom_form l → LiteralAgain g l
  positive_again l g sound positive e =
      let atom = atom_again l g sound e in (
        record { positive = true; predicate = atom.0; terms = atom.1 },
        inl (refl, atom.2),
        λ j. record { positive = sym positive j; predicate = record { text = atom.3 j; at = 0 }; terms = atom.4 j },
      )

  negative_again : (l : PlainLiteral) (g : Form) → SoundLiteral P part l → l.positive ≡ false → IsTrue (takes_negation part)
      → unplaced_form g ≡ group 0 (word (codes "not") ∷ atom_form l ∷ []) → LiteralAgain g l
  negative_again l g sound negative takes e =
      let whole = group_again g (word (codes "not") ∷ atom_form l ∷ []) e in
      let head = word_first whole.1 (codes "not") (atom_form l ∷ []) whole.3 in
      let inner = form_first head.rest (atom_form l) [] head.behind in
      let atom = atom_again l inner.first sound inner.same in
      let only : inner.rest ≡ [] = none_again inner.rest inner.behind in (
        record { positive = false; predicate = atom.0; terms = atom.1 },
        inr (
          refl,
          takes,
          whole.0,
          head.first,
          inner.first,
          whole.2 ∙ ap (λ fs. group whole.0 fs)
              (head.whole ∙ ap (λ fs. Leaf head.first ∷ fs) (inner.whole ∙ ap (λ fs. inner.first ∷ fs) only)),
          head.same,
          atom.2,
        ),
        λ j. record { positive = sym negative j; predicate = record { text = atom.3 j; at = 0 }; terms = atom.4 j },
      )

  pub literal_again : (l : PlainLiteral) (g : Form) → SoundLiteral P part l → unplaced_form g ≡ literal_form l → LiteralAgain g l
  literal_again l g sound e =
      let negation : Form = group 0 (word (codes "not") ∷ atom_form l ∷ []) in
      elim sound.sign [
        | inl positive ↦ positive_again l g sound positive (e ∙ cond-true l.positive (atom_form l) negation positive)
        | inr (negative, takes) ↦ negative_again l g sound negative takes (e ∙ cond-false l.positive (atom_form l) negation negative)
      ]

  pub condition_again : (ls : List PlainLiteral) (g : Form) → All (SoundLiteral P part) ls → unplaced_form g ≡ condition_form ls
      → (ms : List PlainLiteral) × IsCondition part g ms × (map unplaced_literal ms ≡ map unplaced_literal ls)
  condition_again ls g all e =
      let whole = group_again g (word (codes "and") ∷ map literal_form ls) e in
      let head = word_first whole.1 (codes "and") (map literal_form ls) whole.3 in
      let each = each_again literal_form unplaced_literal (IsLiteral part) (SoundLiteral P part) literal_again ls head.rest all head.behind in (
        each.0,
        subst (λ f. IsCondition part f each.0) (sym (whole.2 ∙ ap (λ fs. group whole.0 fs) head.whole))
            (inl (head.same, literals_are part head.rest each.0 each.1)),
        each.2,
      )

-- atoms that are true at the start
pub start_again : (P : List ℕ → Type 0) (l : PlainLiteral) (g : Form) → SoundLiteral P Start l → unplaced_form g ≡ literal_form l
    → (m : PlainLiteral) × IsStartAtom g m × (unplaced_literal m ≡ unplaced_literal l)
start_again P l g sound e =
    let again = literal_again P Start l g sound e in
    (again.0, starts again.0 again.1, again.2)
  where
    starts : (m : PlainLiteral) → IsLiteral Start g m → IsStartAtom g m
    starts m (inl is) = is
    starts m (inr negation) = absurd (false≢true negation.1)
