-- Typed lists as they are read: their values and what is at fault in them.
use Rattle.std.proofs.Common.{◌≡◌, ℕ, ◌<◌, true, false, cond, List, [], ◌∷◌, ◌++◌, length, map, refl, ap, ◌∙◌, subst, sym, inl, inr, Ok, Err, arith, append_assoc, append-nil}
use Rattle.std.specs.Prelude.{All, codes}
use Rattle.std.specs.List.{flat_map}
use Rattle.std.specs.Str.{bytes_eq}
use Rattle.std.proofs.lemmas.Bool.{both_ways, cond-true, cond-false}
use Rattle.std.proofs.lemmas.List.{map-append}
use Rattle.std.proofs.lemmas.List.Elements.{All-nil, All-cons, All-head, All-tail, All-push}
use Rattle.pddl_reader.specs.declared.faults.PddlFault.{PddlFault}
use Rattle.pddl_reader.specs.declared.faults.PddlFault.TheVariants.{Shape, Unsupported}
use Rattle.pddl_reader.specs.declared.faults.Feature.TheVariants.{EitherOfNames}
use Rattle.pddl_reader.specs.declared.kinds.Listed.{Listed}
use Rattle.pddl_reader.specs.declared.kinds.Listed.TheVariants.{Names, Variables}
use Rattle.pddl_reader.specs.Forms.{Word, Form, Forms, Leaf, Group, End, Then, forms_in, forms_of, group}
use Rattle.pddl_reader.specs.Values.{PlainTypedName}
use Rattle.pddl_reader.specs.Classes.{is_element}
use Rattle.pddl_reader.specs.Typed.{IsNameWord, IsEither, IsType, TypedGroup, AreElements, IsTypedGroup, group_forms, typed_by, group_value, untyped, IsTypedList}
use Rattle.pddl_reader.specs.Faults.{IsNameForm, IsNoName, HasHead, IsEitherFault, IsTypeFault, HasNoPlace, IsTypedRestFault, IsTypedFault}
use Rattle.pddl_reader.specs.Sections.{Pairwise}
use Rattle.pddl_reader.specs.Reading.{Read, and_then, name_at, some_names, either_at, begins_either, type_at, is_some_dash, typed_from}
use Rattle.pddl_reader.proofs.EachLaws.{and_then-Ok, and_then-Err, and_then-from, each_spells, each_reads, each_faults}
use Rattle.pddl_reader.proofs.NameLaws.{same_bytes, bytes_same, other_bytes, choice, name_spells, name_reads, name_good, name_faults}

-- forms as a list and back
pub forms_back : (forms : Forms) → forms_of (forms_in forms) ≡ forms
forms_back End = refl
forms_back (Then f rest) = ap (λ r. Then f r) (forms_back rest)

pub forms_there : (forms : List Form) → forms_in (forms_of forms) ≡ forms
forms_there [] = refl
forms_there (f ∷ rest) = ap (λ r. f ∷ r) (forms_there rest)

-- names, one by one
abbrev IsNameOf : Form → Word → Type 0
IsNameOf f w = (f ≡ Leaf w) × IsNameWord w

names_from : (forms : List Form) (names : List Word) → Pairwise IsNameOf forms names → (forms ≡ map Leaf names) × All IsNameWord names
names_from [] [] h = (refl, All-nil IsNameWord)
names_from [] (w ∷ names) h = absurd h
names_from (f ∷ forms) [] h = absurd h
names_from (f ∷ forms) (w ∷ names) h =
    let rest = names_from forms names h.1 in
    (cc (h.0.0, rest.0), All-cons IsNameWord w names h.0.1 rest.1)

names_to : (names : List Word) → All IsNameWord names → Pairwise IsNameOf (map Leaf names) names
names_to [] all = tt
names_to (w ∷ names) all = ((refl, All-head IsNameWord w names all), names_to names (All-tail IsNameWord w names all))

name_of : (f : Form) (w : Word) → IsNameOf f w → name_at f ≡ Ok w
name_of f w h = subst (λ g. name_at g ≡ Ok w) (sym h.0) (name_reads w h.1)

-- 'either' and names
some_names_spell : (at : ℕ) (forms : List Form) (names : List Word) → some_names at forms ≡ Ok names
    → (forms ≡ map Leaf names) × (0 < length names) × All IsNameWord names
some_names_spell at [] names h = absurd (cc)
some_names_spell at (f ∷ forms) [] h = absurd (each_spells name_at IsNameOf name_spells (f ∷ forms) [] h)
some_names_spell at (f ∷ forms) (w ∷ names) h =
    let spelt = names_from (f ∷ forms) (w ∷ names) (each_spells name_at IsNameOf name_spells (f ∷ forms) (w ∷ names) h) in
    (spelt.0, omega arith, spelt.1)

some_names_read : (at : ℕ) (names : List Word) → 0 < length names → All IsNameWord names → some_names at (map Leaf names) ≡ Ok names
some_names_read at [] some all = absurd (omega arith)
some_names_read at (w ∷ names) some all = each_reads name_at IsNameOf name_of (map Leaf (w ∷ names)) (w ∷ names) (names_to (w ∷ names) all)

either_spells : (at : ℕ) (forms : List Form) (types : List Word) → either_at at forms ≡ Ok types → IsEither (group at forms) types
either_spells at [] types h = absurd (cc)
either_spells at (Group a inner ∷ forms) types h = absurd (cc)
either_spells at (Leaf head ∷ forms) types h =
    choice (bytes_eq (codes "either") head.text) (some_names at forms) (Err (Shape head.at)) (Ok types) h (IsEither (group at (Leaf head ∷ forms)) types)
    (λ good e.
    let spelt = some_names_spell at forms types e in
    (at, head, ap (λ l. group at (Leaf head ∷ l)) spelt.0, same_bytes (codes "either") head.text good, spelt.1, spelt.2))
    (λ bad e. absurd (cc))

either_reads : (at : ℕ) (head : Word) (types : List Word) → head.text ≡ codes "either" → 0 < length types → All IsNameWord types
    → either_at at (Leaf head ∷ map Leaf types) ≡ Ok types
either_reads at head types is some all =
    cond-true (bytes_eq (codes "either") head.text) (some_names at (map Leaf types)) (Err (Shape head.at)) (bytes_same (codes "either") head.text is)
    ∙ some_names_read at types some all

some_names_fault : (at : ℕ) (head : Word) (forms : List Form) (fault : PddlFault) → head.text ≡ codes "either" → some_names at forms ≡ Err fault
    → IsEitherFault at (Leaf head ∷ forms) fault
some_names_fault at head [] fault is h = inr (inl (is, refl, cc))
some_names_fault at head (f ∷ forms) fault is h =
    inr (inr (is, each_faults name_at IsNameForm IsNoName name_good name_faults (f ∷ forms) fault h))

either_faults : (at : ℕ) (forms : List Form) (fault : PddlFault) → either_at at forms ≡ Err fault → IsEitherFault at forms fault
either_faults at [] fault h = cc
either_faults at (Group a inner ∷ forms) fault h = cc
either_faults at (Leaf head ∷ forms) fault h =
    choice (bytes_eq (codes "either") head.text) (some_names at forms) (Err (Shape head.at)) (Err fault) h (IsEitherFault at (Leaf head ∷ forms) fault)
    (λ good e. some_names_fault at head forms fault (same_bytes (codes "either") head.text good) e)
    (λ bad e. inl (other_bytes (codes "either") head.text bad, cc))

-- a type of one name
one_type_spells : (f : Form) (types : List Word) → and_then (name_at f) (λ name. Ok (name ∷ [])) ≡ Ok types
    → (w : Word) × (f ≡ Leaf w) × IsNameWord w × (types ≡ w ∷ [])
one_type_spells f types h =
    let read = and_then-Ok (name_at f) (λ name. Ok (name ∷ [])) types h in
    let spelt = name_spells f read.0 read.1 in
    (read.0, spelt.0, spelt.1, cc)

one_type_reads : (w : Word) → IsNameWord w → and_then (name_at (Leaf w)) (λ name. Ok (name ∷ [])) ≡ Ok (w ∷ [])
one_type_reads w h = and_then-from (name_at (Leaf w)) (λ name. Ok (name ∷ [])) w (Ok (w ∷ [])) (name_reads w h) refl

one_type_fault : (listed : Listed) (w : Word) (fault : PddlFault) → and_then (name_at (Leaf w)) (λ name. Ok (name ∷ [])) ≡ Err fault
    → IsTypeFault listed (Leaf w) fault
one_type_fault listed w fault h =
    elim (and_then-Err (name_at (Leaf w)) (λ name. Ok (name ∷ [])) fault h) [
      | inl e ↦ let unnamed = name_faults (Leaf w) fault e in (λ is. unnamed.0 (w, refl, is), unnamed.1)
      | inr (name, e, k) ↦ absurd (cc)
    ]

type_spells : (listed : Listed) (f : Form) (types : List Word) → type_at listed f ≡ Ok types → IsType listed f types
type_spells Names (Leaf w) types h = one_type_spells (Leaf w) types h
type_spells Variables (Leaf w) types h = inl (one_type_spells (Leaf w) types h)
type_spells Names (Group at forms) types h =
    choice (begins_either (forms_in forms)) (Err (Unsupported at EitherOfNames)) (Err (Shape at)) (Ok types) h (IsType Names (Group at forms) types)
    (λ good e. absurd (cc)) (λ bad e. absurd (cc))
type_spells Variables (Group at forms) types h =
    inr (subst (λ fs. IsEither (Group at fs) types) (forms_back forms) (either_spells at (forms_in forms) types h))

pub type_reads : (listed : Listed) (f : Form) (types : List Word) → IsType listed f types → type_at listed f ≡ Ok types
type_reads Names f types (w, e, is, gives) = rw (e, gives) (one_type_reads w is)
type_reads Variables f types (inl (w, e, is, gives)) = rw (e, gives) (one_type_reads w is)
type_reads Variables f types (inr (at, head, e, is, some, all)) =
    let list : List Form = Leaf head ∷ map Leaf types in
    rw e (subst (λ fs. either_at at fs ≡ Ok types) (sym (forms_there list)) (either_reads at head types is some all))

pub heads_either : (at : ℕ) (forms : List Form) → begins_either forms ≡ true → HasHead (group at forms) (codes "either")
heads_either at [] h = absurd (cc)
heads_either at (Group a inner ∷ forms) h = absurd (cc)
heads_either at (Leaf head ∷ forms) h = (at, head, forms, refl, same_bytes (codes "either") head.text h)

pub either_head : (at : ℕ) (forms : Forms) → HasHead (Group at forms) (codes "either") → begins_either (forms_in forms) ≡ true
either_head at forms (a, head, rest, e, is) =
    let same : forms ≡ Then (Leaf head) (forms_of rest) = cc in
    rw same (bytes_same (codes "either") head.text is)

type_faults : (listed : Listed) (f : Form) (fault : PddlFault) → type_at listed f ≡ Err fault → IsTypeFault listed f fault
type_faults Names (Leaf w) fault h = one_type_fault Names w fault h
type_faults Variables (Leaf w) fault h = one_type_fault Variables w fault h
type_faults Names (Group at forms) fault h =
    choice (begins_either (forms_in forms)) (Err (Unsupported at EitherOfNames)) (Err (Shape at)) (Err fault) h (IsTypeFault Names (Group at forms) fault)
    (λ good e. inl (subst (λ fs. HasHead (Group at fs) (codes "either")) (forms_back forms) (heads_either at (forms_in forms) good), cc))
    (λ bad e. inr (λ head. both_ways (begins_either (forms_in forms)) bad (either_head at forms head), cc))
type_faults Variables (Group at forms) fault h = either_faults at (forms_in forms) fault h

-- a dash is no element, and is read behind elements only
dash_is_other : (listed : Listed) → is_element listed (codes "-") ≡ false
dash_is_other Names = refl
dash_is_other Variables = refl

pub dash_other : (listed : Listed) (w : Word) → w.text ≡ codes "-" → is_element listed w.text ≡ false
dash_other listed w is = rw is (dash_is_other listed)

some_dash : (waiting : List Word) (text : List ℕ) → is_some_dash waiting text ≡ true → (text ≡ codes "-") × (0 < length waiting)
some_dash [] text h = absurd (cc)
some_dash (w ∷ waiting) text h = (same_bytes (codes "-") text h, omega arith)

pub dash_some : (waiting : List Word) (text : List ℕ) → text ≡ codes "-" → 0 < length waiting → is_some_dash waiting text ≡ true
dash_some [] text is some = absurd (omega arith)
dash_some (w ∷ waiting) text is some = bytes_same (codes "-") text is

no_dash : (waiting : List Word) (text : List ℕ) → is_some_dash waiting text ≡ false → text ≡ codes "-" → waiting ≡ []
no_dash [] text h is = refl
no_dash (w ∷ waiting) text h is = absurd (other_bytes (codes "-") text h is)

-- an element joins those that wait
moved : (waiting : List Word) (w : Word) (forms : List Form) → map Leaf (waiting ++ w ∷ []) ++ forms ≡ map Leaf waiting ++ Leaf w ∷ forms
moved waiting w forms = ap (λ l. l ++ forms) (map-append Leaf waiting (w ∷ [])) ∙ append_assoc (map Leaf waiting) (Leaf w ∷ []) forms

pub regrouped : {X : Type 0} (a b c d : List X) → a ++ b ++ c ++ d ≡ a ++ (b ++ (c ++ d))
regrouped a b c d = append_assoc (a ++ b) c d ∙ append_assoc a b (c ++ d)

-- a list of elements without a type, and a group before a list
module _ (listed : Listed) where
  no_groups : (waiting : List Word) → AreElements listed waiting → IsTypedList listed (map Leaf waiting) (map untyped waiting)
  no_groups waiting all = record { groups = []; last = waiting; whole = refl; are_groups = All-nil (IsTypedGroup listed); are_last = all; gives = refl }

  grouped : (g : TypedGroup) (forms : List Form) (more : List PlainTypedName) → IsTypedGroup listed g → IsTypedList listed forms more
      → IsTypedList listed (map Leaf g.elements ++ Leaf g.dash ∷ g.type_form ∷ forms) (group_value g ++ more)
  grouped g forms more is r = record {
    groups = g ∷ r.groups;
    last = r.last;
    whole = ap (λ l. map Leaf g.elements ++ Leaf g.dash ∷ g.type_form ∷ l) r.whole
        ∙ sym (regrouped (map Leaf g.elements) (Leaf g.dash ∷ g.type_form ∷ []) (flat_map group_forms r.groups) (map Leaf r.last));
    are_groups = All-cons (IsTypedGroup listed) g r.groups is r.are_groups;
    are_last = r.are_last;
    gives = ap (λ l. group_value g ++ l) r.gives ∙ sym (append_assoc (group_value g) (flat_map group_value r.groups) (map untyped r.last));
  }

  -- a fault behind elements, and one behind a group
  fault_here : (at : ℕ) (waiting : List Word) (rest : List Form) (fault : PddlFault) → AreElements listed waiting → IsTypedRestFault listed at waiting rest fault
      → IsTypedFault listed at (map Leaf waiting ++ rest) fault
  fault_here at waiting rest fault all fails =
      record { groups = []; elements = waiting; rest = rest; whole = refl; are_groups = All-nil (IsTypedGroup listed); are_elements = all; fails = fails }

  fault_behind : (at : ℕ) (g : TypedGroup) (forms : List Form) (fault : PddlFault) → IsTypedGroup listed g → IsTypedFault listed at forms fault
      → IsTypedFault listed at (map Leaf g.elements ++ Leaf g.dash ∷ g.type_form ∷ forms) fault
  fault_behind at g forms fault is r = record {
    groups = g ∷ r.groups;
    elements = r.elements;
    rest = r.rest;
    whole = ap (λ l. map Leaf g.elements ++ Leaf g.dash ∷ g.type_form ∷ l) (r.whole ∙ append_assoc (flat_map group_forms r.groups) (map Leaf r.elements) r.rest)
        ∙ sym (append_assoc (group_forms g ++ flat_map group_forms r.groups) (map Leaf r.elements) r.rest
        ∙ regrouped (map Leaf g.elements) (Leaf g.dash ∷ g.type_form ∷ []) (flat_map group_forms r.groups) (map Leaf r.elements ++ r.rest));
    are_groups = All-cons (IsTypedGroup listed) g r.groups is r.are_groups;
    are_elements = r.are_elements;
    fails = r.fails;
  }

-- what is read behind a dash, and at a word that is no element
abbrev pub behind_dash : Listed → ℕ → List Word → Form → List Form → Read (List PlainTypedName)
behind_dash listed at waiting f forms = and_then (type_at listed f) (λ types. and_then (typed_from listed at [] forms) (λ more. Ok (typed_by types waiting ++ more)))

abbrev pub at_other : Listed → ℕ → List Word → Word → Form → List Form → Read (List PlainTypedName)
at_other listed at waiting w f forms = cond (is_some_dash waiting w.text) (behind_dash listed at waiting f forms) (Err (Shape w.at))

abbrev pub at_end : ℕ → List Word → Word → Read (List PlainTypedName)
at_end at waiting w = cond (is_some_dash waiting w.text) (Err (Shape at)) (Err (Shape w.at))

-- a word at the end that is no element gives no list
no_end : (at : ℕ) (waiting : List Word) (w : Word) (value : List PlainTypedName) → at_end at waiting w ≡ Ok value → ⊥
no_end at waiting w value h =
    choice (is_some_dash waiting w.text) (Err (Shape at)) (Err (Shape w.at)) (Ok value) h ⊥ (λ good e. cc) (λ bad e. cc)

module _ (listed : Listed) (at : ℕ) where
  -- the elements that wait, and one more
  one_more : (waiting : List Word) (w : Word) → AreElements listed waiting → is_element listed w.text ≡ true → AreElements listed (waiting ++ w ∷ [])
  one_more waiting w all is = All-push (λ x. is_element listed x.text ≡ true) waiting w all is

  none_waits : AreElements listed []
  none_waits = All-nil (λ x. is_element listed x.text ≡ true)

  all_untyped : (waiting : List Word) (value : List PlainTypedName) → AreElements listed waiting → typed_from listed at waiting [] ≡ Ok value
      → IsTypedList listed (map Leaf waiting) value
  all_untyped waiting value all h = let same : map untyped waiting ≡ value = cc in subst (IsTypedList listed (map Leaf waiting)) same (no_groups listed waiting all)

  -- what is read at a word that is no element, behind elements that wait
  dash_spells : (waiting : List Word) (w : Word) (f : Form) (forms : List Form) (value : List PlainTypedName) → AreElements listed waiting
      → ((more : List PlainTypedName) → typed_from listed at [] forms ≡ Ok more → IsTypedList listed forms more)
      → is_some_dash waiting w.text ≡ true → behind_dash listed at waiting f forms ≡ Ok value → IsTypedList listed (map Leaf waiting ++ Leaf w ∷ f ∷ forms) value
  dash_spells waiting w f forms value all later dash h =
      let types = and_then-Ok (type_at listed f) (λ types. and_then (typed_from listed at [] forms) (λ more. Ok (typed_by types waiting ++ more))) value h in
      let more = and_then-Ok (typed_from listed at [] forms) (λ more. Ok (typed_by types.0 waiting ++ more)) value types.2 in
      let is = some_dash waiting w.text dash in
      let same : typed_by types.0 waiting ++ more.0 ≡ value = cc in
      let g : TypedGroup = record { elements = waiting; dash = w; type_form = f; types = types.0 } in
      let is_group : IsTypedGroup listed g = record { some = is.1; each = all; dash = is.0; of_type = type_spells listed f types.0 types.1 } in
      subst (IsTypedList listed (map Leaf waiting ++ Leaf w ∷ f ∷ forms)) same (grouped listed g forms more.0 is_group (later more.0 more.1))

  other_spells : (waiting : List Word) (w : Word) (f : Form) (forms : List Form) (value : List PlainTypedName) → AreElements listed waiting
      → ((more : List PlainTypedName) → typed_from listed at [] forms ≡ Ok more → IsTypedList listed forms more)
      → at_other listed at waiting w f forms ≡ Ok value → IsTypedList listed (map Leaf waiting ++ Leaf w ∷ f ∷ forms) value
  other_spells waiting w f forms value all later h =
      choice (is_some_dash waiting w.text) (behind_dash listed at waiting f forms) (Err (Shape w.at)) (Ok value) h (IsTypedList listed (map Leaf waiting ++ Leaf w ∷ f ∷ forms) value)
      (dash_spells waiting w f forms value all later) (λ other e. absurd (cc))

  -- with the elements that wait, what is read is a typed list
  typed_spells_behind : (waiting : List Word) (forms : List Form) (value : List PlainTypedName) → AreElements listed waiting
      → typed_from listed at waiting forms ≡ Ok value → IsTypedList listed (map Leaf waiting ++ forms) value
  typed_spells_behind waiting [] value all h = rw append-nil (all_untyped waiting value all h)
  typed_spells_behind waiting (Group a inner ∷ forms) value all h = absurd (cc)
  typed_spells_behind waiting (Leaf w ∷ []) value all h =
      choice (is_element listed w.text) (Ok (map untyped (waiting ++ w ∷ []))) (at_end at waiting w) (Ok value) h (IsTypedList listed (map Leaf waiting ++ Leaf w ∷ []) value)
      (λ good e. subst (λ l. IsTypedList listed l value) (map-append Leaf waiting (w ∷ [])) (all_untyped (waiting ++ w ∷ []) value (one_more waiting w all good) e))
      (λ bad e. absurd (no_end at waiting w value e))
  typed_spells_behind waiting (Leaf w ∷ f ∷ forms) value all h =
      choice (is_element listed w.text) (typed_from listed at (waiting ++ w ∷ []) (f ∷ forms)) (at_other listed at waiting w f forms) (Ok value) h
      (IsTypedList listed (map Leaf waiting ++ Leaf w ∷ f ∷ forms) value)
      (λ good e. subst (λ l. IsTypedList listed l value) (moved waiting w (f ∷ forms))
      (typed_spells_behind (waiting ++ w ∷ []) (f ∷ forms) value (one_more waiting w all good) e))
      (λ bad e. other_spells waiting w f forms value all (λ more k. typed_spells_behind [] forms more none_waits k) e)

  pub typed_spells : (forms : List Form) (value : List PlainTypedName) → typed_from listed at [] forms ≡ Ok value → IsTypedList listed forms value
  typed_spells forms value h = typed_spells_behind [] forms value none_waits h

  -- an element waits, and behind elements a dash gives them their type
  element_waits : (waiting : List Word) (w : Word) (forms : List Form) → is_element listed w.text ≡ true
      → typed_from listed at waiting (Leaf w ∷ forms) ≡ typed_from listed at (waiting ++ w ∷ []) forms
  element_waits waiting w [] is = cond-true (is_element listed w.text) (typed_from listed at (waiting ++ w ∷ []) []) (at_end at waiting w) is
  element_waits waiting w (f ∷ forms) is = cond-true (is_element listed w.text) (typed_from listed at (waiting ++ w ∷ []) (f ∷ forms)) (at_other listed at waiting w f forms) is

  pub elements_wait : (waiting elements : List Word) (forms : List Form) → AreElements listed elements
      → typed_from listed at waiting (map Leaf elements ++ forms) ≡ typed_from listed at (waiting ++ elements) forms
  elements_wait waiting [] forms all = ap (λ ws. typed_from listed at ws forms) (sym (append-nil waiting))
  elements_wait waiting (w ∷ elements) forms all =
      element_waits waiting w (map Leaf elements ++ forms) (All-head (λ x. is_element listed x.text ≡ true) w elements all)
      ∙ elements_wait (waiting ++ w ∷ []) elements forms (All-tail (λ x. is_element listed x.text ≡ true) w elements all)
      ∙ ap (λ ws. typed_from listed at ws forms) (append_assoc waiting (w ∷ []) elements)

  dash_types : (waiting : List Word) (dash : Word) (f : Form) (forms : List Form) (types : List Word) (more : List PlainTypedName)
      → 0 < length waiting → dash.text ≡ codes "-" → type_at listed f ≡ Ok types → typed_from listed at [] forms ≡ Ok more
      → typed_from listed at waiting (Leaf dash ∷ f ∷ forms) ≡ Ok (typed_by types waiting ++ more)
  dash_types waiting dash f forms types more some is typed rest =
      cond-false (is_element listed dash.text) (typed_from listed at (waiting ++ dash ∷ []) (f ∷ forms)) (at_other listed at waiting dash f forms) (dash_other listed dash is)
      ∙ cond-true (is_some_dash waiting dash.text) (behind_dash listed at waiting f forms) (Err (Shape dash.at)) (dash_some waiting dash.text is some)
      ∙ and_then-from (type_at listed f) (λ ts. and_then (typed_from listed at [] forms) (λ m. Ok (typed_by ts waiting ++ m))) types (Ok (typed_by types waiting ++ more)) typed
      (and_then-from (typed_from listed at [] forms) (λ m. Ok (typed_by types waiting ++ m)) more (Ok (typed_by types waiting ++ more)) rest refl)

  groups_read : (groups : List TypedGroup) (last : List Word) → All (IsTypedGroup listed) groups → AreElements listed last
      → typed_from listed at [] (flat_map group_forms groups ++ map Leaf last) ≡ Ok (flat_map group_value groups ++ map untyped last)
  groups_read [] last are_groups are_last =
      subst (λ l. typed_from listed at [] l ≡ Ok (map untyped last)) (append-nil (map Leaf last)) (elements_wait [] last [] are_last)
  groups_read (g ∷ groups) last are_groups are_last =
      let rest : List Form = flat_map group_forms groups ++ map Leaf last in
      let more : List PlainTypedName = flat_map group_value groups ++ map untyped last in
      let is = All-head (IsTypedGroup listed) g groups are_groups in
      let later = groups_read groups last (All-tail (IsTypedGroup listed) g groups are_groups) are_last in
      ap (typed_from listed at []) (regrouped (map Leaf g.elements) (Leaf g.dash ∷ g.type_form ∷ []) (flat_map group_forms groups) (map Leaf last))
      ∙ elements_wait [] g.elements (Leaf g.dash ∷ g.type_form ∷ rest) is.each
      ∙ dash_types g.elements g.dash g.type_form rest g.types more is.some is.dash (type_reads listed g.type_form g.types is.of_type) later
      ∙ ap (λ v. Ok v) (sym (append_assoc (group_value g) (flat_map group_value groups) (map untyped last)))

  pub typed_reads : (forms : List Form) (value : List PlainTypedName) → IsTypedList listed forms value → typed_from listed at [] forms ≡ Ok value
  typed_reads forms value r = ap (typed_from listed at []) r.whole ∙ groups_read r.groups r.last r.are_groups r.are_last ∙ ap (λ v. Ok v) (sym r.gives)

  -- a word that is no element and no dash behind elements has no place
  no_place : (waiting : List Word) (w : Word) → is_element listed w.text ≡ false → is_some_dash waiting w.text ≡ false → HasNoPlace listed waiting (Leaf w)
  no_place waiting w bad other = (bad, no_dash waiting w.text other)

  end_fault : (waiting : List Word) (w : Word) (fault : PddlFault) → is_element listed w.text ≡ false → at_end at waiting w ≡ Err fault
      → IsTypedRestFault listed at waiting (Leaf w ∷ []) fault
  end_fault waiting w fault bad h =
      choice (is_some_dash waiting w.text) (Err (Shape at)) (Err (Shape w.at)) (Err fault) h (IsTypedRestFault listed at waiting (Leaf w ∷ []) fault)
      (λ dash e. let is = some_dash waiting w.text dash in inr (w, is.0, is.1, inl (refl, cc)))
      (λ other e. inl (Leaf w, [], refl, no_place waiting w bad other, cc))

  -- what is at fault behind a dash, and at a word that is no element
  dash_faults : (waiting : List Word) (w : Word) (f : Form) (forms : List Form) (fault : PddlFault) → AreElements listed waiting
      → (typed_from listed at [] forms ≡ Err fault → IsTypedFault listed at forms fault)
      → is_some_dash waiting w.text ≡ true → behind_dash listed at waiting f forms ≡ Err fault → IsTypedFault listed at (map Leaf waiting ++ Leaf w ∷ f ∷ forms) fault
  dash_faults waiting w f forms fault all later dash h =
      let is = some_dash waiting w.text dash in
      elim (and_then-Err (type_at listed f) (λ types. and_then (typed_from listed at [] forms) (λ more. Ok (typed_by types waiting ++ more))) fault h) [
        | inl typed ↦ fault_here listed at waiting (Leaf w ∷ f ∷ forms) fault all (inr (w, is.0, is.1, inr (f, forms, refl, type_faults listed f fault typed)))
        | inr (types, typed, rest) ↦ elim (and_then-Err (typed_from listed at [] forms) (λ more. Ok (typed_by types waiting ++ more)) fault rest) [
          | inl e ↦
              let g : TypedGroup = record { elements = waiting; dash = w; type_form = f; types = types } in
              let is_group : IsTypedGroup listed g = record { some = is.1; each = all; dash = is.0; of_type = type_spells listed f types typed } in
              fault_behind listed at g forms fault is_group (later e)
          | inr (more, e, k) ↦ absurd (cc)
        ]
      ]

  other_faults : (waiting : List Word) (w : Word) (f : Form) (forms : List Form) (fault : PddlFault) → AreElements listed waiting
      → (typed_from listed at [] forms ≡ Err fault → IsTypedFault listed at forms fault)
      → is_element listed w.text ≡ false → at_other listed at waiting w f forms ≡ Err fault → IsTypedFault listed at (map Leaf waiting ++ Leaf w ∷ f ∷ forms) fault
  other_faults waiting w f forms fault all later bad h =
      choice (is_some_dash waiting w.text) (behind_dash listed at waiting f forms) (Err (Shape w.at)) (Err fault) h (IsTypedFault listed at (map Leaf waiting ++ Leaf w ∷ f ∷ forms) fault)
      (dash_faults waiting w f forms fault all later)
      (λ other e. fault_here listed at waiting (Leaf w ∷ f ∷ forms) fault all (inl (Leaf w, f ∷ forms, refl, no_place waiting w bad other, cc)))

  -- what is at fault, with the elements that wait
  typed_faults_behind : (waiting : List Word) (forms : List Form) (fault : PddlFault) → AreElements listed waiting
      → typed_from listed at waiting forms ≡ Err fault → IsTypedFault listed at (map Leaf waiting ++ forms) fault
  typed_faults_behind waiting [] fault all h = absurd (cc)
  typed_faults_behind waiting (Group a inner ∷ forms) fault all h =
      fault_here listed at waiting (Group a inner ∷ forms) fault all (inl (Group a inner, forms, refl, tt, cc))
  typed_faults_behind waiting (Leaf w ∷ []) fault all h =
      choice (is_element listed w.text) (Ok (map untyped (waiting ++ w ∷ []))) (at_end at waiting w) (Err fault) h (IsTypedFault listed at (map Leaf waiting ++ Leaf w ∷ []) fault)
      (λ good e. absurd (cc))
      (λ bad e. fault_here listed at waiting (Leaf w ∷ []) fault all (end_fault waiting w fault bad e))
  typed_faults_behind waiting (Leaf w ∷ f ∷ forms) fault all h =
      choice (is_element listed w.text) (typed_from listed at (waiting ++ w ∷ []) (f ∷ forms)) (at_other listed at waiting w f forms) (Err fault) h
      (IsTypedFault listed at (map Leaf waiting ++ Leaf w ∷ f ∷ forms) fault)
      (λ good e. subst (λ l. IsTypedFault listed at l fault) (moved waiting w (f ∷ forms))
      (typed_faults_behind (waiting ++ w ∷ []) (f ∷ forms) fault (one_more waiting w all good) e))
      (λ bad e. other_faults waiting w f forms fault all (λ k. typed_faults_behind [] forms fault none_waits k) bad e)

  pub typed_faults : (forms : List Form) (fault : PddlFault) → typed_from listed at [] forms ≡ Err fault → IsTypedFault listed at forms fault
  typed_faults forms fault h = typed_faults_behind [] forms fault none_waits h
