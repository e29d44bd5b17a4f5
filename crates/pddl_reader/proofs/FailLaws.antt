-- What is at fault in forms is what is read of them: names, typed lists, atoms and conditions.
use Rattle.std.proofs.Common.{◌≡◌, ℕ, ◌<◌, List, [], ◌∷◌, ◌++◌, length, map, true, false, refl, sym, ap, ◌∙◌, subst, inl, inr, Ok, Err, append_assoc}
use Rattle.std.specs.Prelude.{All, codes}
use Rattle.std.specs.List.{flat_map}
use Rattle.std.specs.Str.{bytes_eq}
use Rattle.std.proofs.lemmas.Bool.{cond-true, cond-false, and_parts, and_from, false_from_ne_true}
use Rattle.std.proofs.lemmas.List.Elements.{All-head, All-tail}
use Rattle.pddl_reader.specs.declared.faults.PddlFault.{PddlFault}
use Rattle.pddl_reader.specs.declared.faults.PddlFault.TheVariants.{Shape, Unsupported}
use Rattle.pddl_reader.specs.declared.faults.Feature.TheVariants.{EitherOfNames}
use Rattle.pddl_reader.specs.declared.kinds.Listed.{Listed}
use Rattle.pddl_reader.specs.declared.kinds.Listed.TheVariants.{Names, Variables}
use Rattle.pddl_reader.specs.declared.kinds.Part.{Part}
use Rattle.pddl_reader.specs.Forms.{Word, Form, Forms, Leaf, Group, End, Then, forms_in, place_of}
use Rattle.pddl_reader.specs.Values.{PlainTerm, PlainLiteral}
use Rattle.pddl_reader.specs.Classes.{is_name, is_element, takes_negation, is_predicate}
use Rattle.pddl_reader.specs.Conditions.{has_enough}
use Rattle.pddl_reader.specs.Typed.{TypedGroup, AreElements, IsTypedGroup, group_forms, typed_by, untyped}
use Rattle.pddl_reader.specs.Faults.{IsFirstFaulty, IsNameForm, IsNoName, HasHead, IsEitherFault, IsTypeFault, HasNoPlace, IsTypedRestFault, IsTypedFault, IsTermForm, IsNoTerm, IsAtomListFault, IsAtomFault, IsAtomForm, IsNegationFault, IsConditionFault, AreConditionsFault}
use Rattle.pddl_reader.specs.Reading.{Read, and_then, each_at, name_at, some_names, either_at, begins_either, type_at, is_some_dash, typed_from, term_at, atom_by, atom_in, atom_at, negative_of, negation_in, condition_at, conditions_at}
use Rattle.pddl_reader.proofs.EachLaws.{and_then-from}
use Rattle.pddl_reader.proofs.NameLaws.{same_bytes, bytes_same, bytes_other, name_reads}
use Rattle.pddl_reader.proofs.TypedLaws.{forms_back, type_reads, heads_either, either_head, dash_other, dash_some, behind_dash, at_other, at_end, elements_wait, regrouped}
use Rattle.pddl_reader.proofs.AtomLaws.{term_spells, term_reads, term_fault_place, terms_behind, behind_predicate, atom_reads}
use Rattle.pddl_reader.proofs.ConditionLaws.{is_negation, literal_at, condition_reads}

-- a fault of the first step is one of both
pub and_then-fails : {A B : Type 0} (r : Read A) (f : A → Read B) (fault : PddlFault) → r ≡ Err fault → and_then r f ≡ Err fault
and_then-fails r f fault h = ap (λ s. and_then s f) h

-- what gives no value and no other fault gives the fault
pub only_fault : {A : Type 0} (r : Read A) (fault : PddlFault) → ((x : A) → r ≡ Ok x → ⊥)
    → ((cause : PddlFault) → r ≡ Err cause → cause ≡ fault) → r ≡ Err fault
only_fault (Ok x) fault none same = absurd (none x refl)
only_fault (Err cause) fault none same = ap Err (same cause refl)

module _ {A : Type 0} (read : Form → Read A) where
  each_fails_behind : (Good : Form → Type 0) → ((f : Form) → Good f → (x : A) × (read f ≡ Ok x))
      → (before : List Form) (form : Form) (behind : List Form) (fault : PddlFault) → All Good before → read form ≡ Err fault
      → each_at read (before ++ form ∷ behind) ≡ Err fault
  each_fails_behind Good one [] form behind fault all fails =
      and_then-fails (read form) (λ x. and_then (each_at read behind) (λ xs. Ok (x ∷ xs))) fault fails
  each_fails_behind Good one (f ∷ before) form behind fault all fails =
      let first = one f (All-head Good f before all) in
      and_then-from (read f) (λ x. and_then (each_at read (before ++ form ∷ behind)) (λ xs. Ok (x ∷ xs))) first.0 (Err fault) first.1
      (and_then-fails (each_at read (before ++ form ∷ behind)) (λ xs. Ok (first.0 ∷ xs)) fault
      (each_fails_behind Good one before form behind fault (All-tail Good f before all) fails))

  -- the first form at fault gives its fault
  pub each_fails : (Good : Form → Type 0) (Bad : Form → PddlFault → Type 0)
      → ((f : Form) → Good f → (x : A) × (read f ≡ Ok x)) → ((f : Form) (fault : PddlFault) → Bad f fault → read f ≡ Err fault)
      → (forms : List Form) (fault : PddlFault) → IsFirstFaulty Good Bad forms fault → each_at read forms ≡ Err fault
  each_fails Good Bad one bad forms fault r =
      ap (each_at read) r.whole ∙ each_fails_behind Good one r.before r.form r.behind fault r.good (bad r.form fault r.bad)

pub name_fails : (f : Form) (fault : PddlFault) → IsNoName f fault → name_at f ≡ Err fault
name_fails (Leaf w) fault h =
    cond-false (is_name w.text) (Ok w) (Err (Shape w.at)) (false_from_ne_true (is_name w.text) (λ is. h.0 (w, refl, is))) ∙ ap Err (sym h.1)
name_fails (Group at forms) fault h = ap Err (sym h.1)

pub name_given : (f : Form) → IsNameForm f → (name : Word) × (name_at f ≡ Ok name)
name_given f (w, e, is) = (w, ap name_at e ∙ name_reads w is)

names_fail : (at : ℕ) (forms : List Form) (fault : PddlFault) → each_at name_at forms ≡ Err fault → some_names at forms ≡ Err fault
names_fail at [] fault h = absurd (cc)
names_fail at (f ∷ forms) fault h = h

either_fails : (at : ℕ) (forms : List Form) (fault : PddlFault) → IsEitherFault at forms fault → either_at at forms ≡ Err fault
either_fails at [] fault h = ap Err (sym h)
either_fails at (Group a inner ∷ forms) fault h = ap Err (sym h)
either_fails at (Leaf head ∷ forms) fault (inl (other, e)) =
    cond-false (bytes_eq (codes "either") head.text) (some_names at forms) (Err (Shape head.at)) (bytes_other (codes "either") head.text other)
    ∙ ap Err (sym e)
either_fails at (Leaf head ∷ forms) fault (inr (inl (is, none, e))) =
    cond-true (bytes_eq (codes "either") head.text) (some_names at forms) (Err (Shape head.at)) (bytes_same (codes "either") head.text is)
    ∙ ap (some_names at) none ∙ ap Err (sym e)
either_fails at (Leaf head ∷ forms) fault (inr (inr (is, first))) =
    cond-true (bytes_eq (codes "either") head.text) (some_names at forms) (Err (Shape head.at)) (bytes_same (codes "either") head.text is)
    ∙ names_fail at forms fault (each_fails name_at IsNameForm IsNoName name_given name_fails forms fault first)

one_type_fails : (w : Word) (fault : PddlFault) → (is_name w.text ≡ true → ⊥)
    → fault ≡ Shape w.at → and_then (name_at (Leaf w)) (λ name. Ok (name ∷ [])) ≡ Err fault
one_type_fails w fault unnamed e =
    and_then-fails (name_at (Leaf w)) (λ name. Ok (name ∷ [])) fault
    (cond-false (is_name w.text) (Ok w) (Err (Shape w.at)) (false_from_ne_true (is_name w.text) unnamed) ∙ ap Err (sym e))

type_fails : (listed : Listed) (f : Form) (fault : PddlFault) → IsTypeFault listed f fault → type_at listed f ≡ Err fault
type_fails Names (Leaf w) fault h = one_type_fails w fault h.0 h.1
type_fails Variables (Leaf w) fault h = one_type_fails w fault h.0 h.1
type_fails Names (Group at forms) fault (inl (head, e)) =
    cond-true (begins_either (forms_in forms)) (Err (Unsupported at EitherOfNames)) (Err (Shape at)) (either_head at forms head) ∙ ap Err (sym e)
type_fails Names (Group at forms) fault (inr (other, e)) =
    cond-false (begins_either (forms_in forms)) (Err (Unsupported at EitherOfNames)) (Err (Shape at))
    (false_from_ne_true (begins_either (forms_in forms)) (λ is.
    other (subst (λ fs. HasHead (Group at fs) (codes "either")) (forms_back forms) (heads_either at (forms_in forms) is))))
    ∙ ap Err (sym e)
type_fails Variables (Group at forms) fault h = either_fails at (forms_in forms) fault h

no_some_dash : (waiting : List Word) (text : List ℕ) → (text ≡ codes "-" → waiting ≡ []) → is_some_dash waiting text ≡ false
no_some_dash [] text h = refl
no_some_dash (w ∷ waiting) text h = bytes_other (codes "-") text (λ is. let none = h is in absurd (cc))

module _ (listed : Listed) (at : ℕ) where
  place_fails : (waiting : List Word) (f : Form) (more : List Form) → HasNoPlace listed waiting f
      → typed_from listed at waiting (f ∷ more) ≡ Err (Shape (place_of f))
  place_fails waiting (Group a inner) more h = refl
  place_fails waiting (Leaf w) [] h =
      cond-false (is_element listed w.text) (Ok (map untyped (waiting ++ w ∷ []))) (at_end at waiting w) h.0
      ∙ cond-false (is_some_dash waiting w.text) (Err (Shape at)) (Err (Shape w.at)) (no_some_dash waiting w.text h.1)
  place_fails waiting (Leaf w) (f ∷ more) h =
      cond-false (is_element listed w.text) (typed_from listed at (waiting ++ w ∷ []) (f ∷ more)) (at_other listed at waiting w f more) h.0
      ∙ cond-false (is_some_dash waiting w.text) (behind_dash listed at waiting f more) (Err (Shape w.at)) (no_some_dash waiting w.text h.1)

  -- behind elements a dash is read with what follows
  dash_ends : (waiting : List Word) (dash : Word) → dash.text ≡ codes "-"
      → 0 < length waiting → typed_from listed at waiting (Leaf dash ∷ []) ≡ Err (Shape at)
  dash_ends waiting dash is some =
      cond-false (is_element listed dash.text) (Ok (map untyped (waiting ++ dash ∷ []))) (at_end at waiting dash) (dash_other listed dash is)
      ∙ cond-true (is_some_dash waiting dash.text) (Err (Shape at)) (Err (Shape dash.at)) (dash_some waiting dash.text is some)

  dash_reads : (waiting : List Word) (dash : Word) (f : Form) (forms : List Form) → dash.text ≡ codes "-" → 0 < length waiting
      → typed_from listed at waiting (Leaf dash ∷ f ∷ forms) ≡ behind_dash listed at waiting f forms
  dash_reads waiting dash f forms is some =
      cond-false (is_element listed dash.text) (typed_from listed at (waiting ++ dash ∷ []) (f ∷ forms)) (at_other listed at waiting dash f forms)
      (dash_other listed dash is)
      ∙ cond-true (is_some_dash waiting dash.text) (behind_dash listed at waiting f forms) (Err (Shape dash.at)) (dash_some waiting dash.text is some)

  rest_fails : (waiting : List Word) (rest : List Form) (fault : PddlFault)
      → IsTypedRestFault listed at waiting rest fault → typed_from listed at waiting rest ≡ Err fault
  rest_fails waiting rest fault (inl (f, more, whole, none, e)) =
      ap (typed_from listed at waiting) whole ∙ place_fails waiting f more none ∙ ap Err (sym e)
  rest_fails waiting rest fault (inr (dash, is, some, inl (whole, e))) =
      ap (typed_from listed at waiting) whole ∙ dash_ends waiting dash is some ∙ ap Err (sym e)
  rest_fails waiting rest fault (inr (dash, is, some, inr (f, more, whole, bad))) =
      ap (typed_from listed at waiting) whole ∙ dash_reads waiting dash f more is some
      ∙ and_then-fails (type_at listed f) (λ types. and_then (typed_from listed at [] more) (λ names. Ok (typed_by types waiting ++ names))) fault
      (type_fails listed f fault bad)

  groups_fail : (groups : List TypedGroup) (elements : List Word) (rest : List Form) (fault : PddlFault)
      → All (IsTypedGroup listed) groups → AreElements listed elements
      → IsTypedRestFault listed at elements rest fault → typed_from listed at [] (flat_map group_forms groups ++ map Leaf elements ++ rest) ≡ Err fault
  groups_fail [] elements rest fault are_groups are_elements fails =
      elements_wait listed at [] elements rest are_elements ∙ rest_fails elements rest fault fails
  groups_fail (g ∷ groups) elements rest fault are_groups are_elements fails =
      let forms : List Form = flat_map group_forms groups ++ map Leaf elements ++ rest in
      let is = All-head (IsTypedGroup listed) g groups are_groups in
      let later = groups_fail groups elements rest fault (All-tail (IsTypedGroup listed) g groups are_groups) are_elements fails in
      ap (typed_from listed at [])
      (append_assoc (group_forms g ++ flat_map group_forms groups) (map Leaf elements) rest
      ∙ regrouped (map Leaf g.elements) (Leaf g.dash ∷ g.type_form ∷ []) (flat_map group_forms groups) (map Leaf elements ++ rest)
      ∙ ap (λ l. map Leaf g.elements ++ Leaf g.dash ∷ g.type_form ∷ l) (sym (append_assoc (flat_map group_forms groups) (map Leaf elements) rest)))
      ∙ elements_wait listed at [] g.elements (Leaf g.dash ∷ g.type_form ∷ forms) is.each
      ∙ dash_reads g.elements g.dash g.type_form forms is.dash is.some
      ∙ and_then-from (type_at listed g.type_form) (λ types. and_then (typed_from listed at [] forms) (λ more. Ok (typed_by types g.elements ++ more)))
      g.types (Err fault) (type_reads listed g.type_form g.types is.of_type)
      (and_then-fails (typed_from listed at [] forms) (λ more. Ok (typed_by g.types g.elements ++ more)) fault later)

  pub typed_fails : (forms : List Form) (fault : PddlFault) → IsTypedFault listed at forms fault → typed_from listed at [] forms ≡ Err fault
  typed_fails forms fault r = ap (typed_from listed at []) r.whole ∙ groups_fail r.groups r.elements r.rest fault r.are_groups r.are_elements r.fails

module _ (part : Part) where
  term_fails : (f : Form) (fault : PddlFault) → IsNoTerm part f fault → term_at part f ≡ Err fault
  term_fails f fault h =
      only_fault (term_at part f) fault (λ t e. h.0 (t, term_spells part f t e)) (λ cause e. term_fault_place part f cause e ∙ sym h.1)

  term_given : (f : Form) → IsTermForm part f → (t : PlainTerm) × (term_at part f ≡ Ok t)
  term_given f (t, is) = (t, term_reads part f t is)

  pub atom_in_fails : (at : ℕ) (forms : List Form) (fault : PddlFault) → IsAtomListFault part at forms fault → atom_in part at forms ≡ Err fault
  atom_in_fails at [] fault h = ap Err (sym h)
  atom_in_fails at (Group a inner ∷ forms) fault h = ap Err (sym h)
  atom_in_fails at (Leaf w ∷ forms) fault (inl (feature, is, e)) = ap (λ o. atom_by o part at w forms) is ∙ ap Err (sym e)
  atom_in_fails at (Leaf w ∷ forms) fault (inr (inl (plain, bad, e))) =
      ap (λ o. atom_by o part at w forms) plain ∙ cond-false (is_predicate part w.text) (behind_predicate part at w forms) (Err (Shape w.at)) bad ∙ ap Err (sym e)
  atom_in_fails at (Leaf w ∷ forms) fault (inr (inr (inl (plain, good, bare, e)))) =
      ap (λ o. atom_by o part at w forms) plain ∙ cond-true (is_predicate part w.text) (behind_predicate part at w forms) (Err (Shape w.at)) good
      ∙ cond-false (has_enough w.text forms) (terms_behind part w forms) (Err (Shape at)) bare ∙ ap Err (sym e)
  atom_in_fails at (Leaf w ∷ forms) fault (inr (inr (inr (plain, good, enough, first)))) =
      ap (λ o. atom_by o part at w forms) plain ∙ cond-true (is_predicate part w.text) (behind_predicate part at w forms) (Err (Shape w.at)) good
      ∙ cond-true (has_enough w.text forms) (terms_behind part w forms) (Err (Shape at)) enough
      ∙ and_then-fails (each_at (term_at part) forms) (λ terms. let l : PlainLiteral = record { positive = true; predicate = w; terms = terms } in Ok l) fault
      (each_fails (term_at part) (IsTermForm part) (IsNoTerm part) term_given term_fails forms fault first)

  pub atom_fails : (f : Form) (fault : PddlFault) → IsAtomFault part f fault → atom_at part f ≡ Err fault
  atom_fails (Leaf w) fault h = ap Err (sym h)
  atom_fails (Group at forms) fault h = atom_in_fails at (forms_in forms) fault h

  pub atom_given : (f : Form) → IsAtomForm part f → (l : PlainLiteral) × (atom_at part f ≡ Ok l)
  atom_given f (predicate, terms, is) =
      let l : PlainLiteral = record { positive = true; predicate = predicate; terms = terms } in
      (l, atom_reads part f l refl is)

negation_fails : (part : Part) (at : ℕ) (forms : List Form) (fault : PddlFault) → IsNegationFault part at forms fault → negation_in part at forms ≡ Err fault
negation_fails part at [] fault h = ap Err (sym h)
negation_fails part at (f ∷ []) fault h = and_then-fails (atom_at part f) (λ l. Ok (negative_of l)) fault (atom_fails part f fault h)
negation_fails part at (f ∷ g ∷ forms) fault (inl bad) =
    and_then-fails (atom_at part f) (λ l. Err (Shape (place_of g))) fault (atom_fails part f fault bad)
negation_fails part at (f ∷ g ∷ forms) fault (inr (is, e)) =
    let atom = atom_given part f is in
    and_then-from (atom_at part f) (λ l. Err (Shape (place_of g))) atom.0 (Err fault) atom.1 (ap Err (sym e))

module _ (part : Part) where
  -- one literal that fails, by its head
  literal_fails : (at : ℕ) (w : Word) (rest : Forms) (fault : PddlFault)
      → bytes_eq (codes "and") w.text ≡ false → literal_at part at w rest ≡ Err fault
      → condition_at part (Group at (Then (Leaf w) rest)) ≡ Err fault
  literal_fails at w rest fault other h =
      cond-false (bytes_eq (codes "and") w.text) (conditions_at part rest) (and_then (literal_at part at w rest) (λ l. Ok (l ∷ []))) other
      ∙ and_then-fails (literal_at part at w rest) (λ l. Ok (l ∷ [])) fault h

  mutual
    pub condition_fails : (f : Form) (fault : PddlFault) → IsConditionFault part f fault → condition_at part f ≡ Err fault
    condition_fails (Leaf w) fault h = ap Err (sym h)
    condition_fails (Group at End) fault h = absurd h
    condition_fails (Group at (Then (Group a inner) rest)) fault h = ap Err (sym h)
    condition_fails (Group at (Then (Leaf w) rest)) fault (inl (is, bad)) =
        cond-true (bytes_eq (codes "and") w.text) (conditions_at part rest) (and_then (literal_at part at w rest) (λ l. Ok (l ∷ [])))
        (bytes_same (codes "and") w.text is)
        ∙ conditions_fail rest fault bad
    condition_fails (Group at (Then (Leaf w) rest)) fault (inr (inl (is, takes, bad))) =
        literal_fails at w rest fault (ap (bytes_eq (codes "and")) is)
        (cond-true (is_negation part w) (negation_in part at (forms_in rest)) (atom_at part (Group at (Then (Leaf w) rest)))
        (and_from (bytes_eq (codes "not") w.text) (takes_negation part) (bytes_same (codes "not") w.text is) takes)
        ∙ negation_fails part at (forms_in rest) fault bad)
    condition_fails (Group at (Then (Leaf w) rest)) fault (inr (inr (other, positive, bad))) =
        literal_fails at w rest fault (bytes_other (codes "and") w.text other)
        (cond-false (is_negation part w) (negation_in part at (forms_in rest)) (atom_at part (Group at (Then (Leaf w) rest)))
        (false_from_ne_true (is_negation part w) (λ e.
        let is = and_parts (bytes_eq (codes "not") w.text) (takes_negation part) e in
        positive (same_bytes (codes "not") w.text is.0) is.1))
        ∙ atom_fails part (Group at (Then (Leaf w) rest)) fault bad)

    conditions_fail : (forms : Forms) (fault : PddlFault) → AreConditionsFault part forms fault → conditions_at part forms ≡ Err fault
    conditions_fail End fault h = absurd h
    conditions_fail (Then f rest) fault (inl bad) =
        and_then-fails (condition_at part f) (λ ls. and_then (conditions_at part rest) (λ more. Ok (ls ++ more))) fault (condition_fails f fault bad)
    conditions_fail (Then f rest) fault (inr ((ls, is), later)) =
        and_then-from (condition_at part f) (λ ls. and_then (conditions_at part rest) (λ more. Ok (ls ++ more))) ls (Err fault) (condition_reads part f ls is)
        (and_then-fails (conditions_at part rest) (λ more. Ok (ls ++ more)) fault (conditions_fail rest fault later))
