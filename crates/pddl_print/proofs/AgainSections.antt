-- Predicates, actions and sections that are spelled again, and the sections of a canonical form in their
-- order: what they give, and that they belong together.
use Rattle.std.proofs.Common.{◌≡◌, ◌≢◌, ℕ, List, [], ◌∷◌, ◌++◌, map, refl, sym, ap, ◌∙◌, subst, arith, append-nil, codes}
use Rattle.std.specs.Prelude.{IsTrue, All, Any, AllPairs}
use Rattle.std.specs.List.{flat_map}
use Rattle.std.proofs.lemmas.List.Elements.{All-nil, All-cons, All-head, All-tail}
use Rattle.std.proofs.lemmas.List.Kept.{AllPairs-cons}
use Rattle.pddl_reader.specs.Kinds.{Variables, Precondition, Effect, Action}
use Rattle.pddl_reader.specs.Forms.{Word, Form, Leaf, group}
use Rattle.pddl_reader.specs.Values.{PlainTypedName, PlainLiteral, PlainPredicate, PlainSchema}
use Rattle.pddl_reader.specs.Places.{unplaced_predicate, unplaced_schema}
use Rattle.pddl_reader.specs.Classes.{is_one_of, accepted}
use Rattle.pddl_reader.specs.Sections.{Pairwise, PartValue, HasParameters, HasPrecondition, HasEffect, part_of, IsAction, IsPredicate, SectionValue, HasAction, kind_of, keyword_of, IsAccepted, IsContent, IsSection}
use Rattle.pddl_reader.proofs.OnceLaws.{AllPairs-none}
use Rattle.pddl_print.specs.Layouts.{unplaced_form}
use Rattle.pddl_print.specs.CanonicalForms.{word, name_form, typed_forms, condition_form, predicate_form, action_form, section_forms}
use Rattle.pddl_reader.proofs.NamesOfValues.{SoundSchema, SoundPredicate}
use Rattle.pddl_print.proofs.AgainForms.{group_again, word_first, form_first, group_first, none_again}
use Rattle.pddl_print.proofs.AgainValues.{same_name, typed_again, condition_again}

-- requirements that are accepted
pub accepted_again : (texts : List (List ℕ)) (gs : List Form) → All (λ t. IsTrue (is_one_of accepted t)) texts
    → map unplaced_form gs ≡ map word texts → All IsAccepted gs
accepted_again [] gs all e = subst (All IsAccepted) (sym (none_again gs e)) (All-nil IsAccepted)
accepted_again (t ∷ texts) gs all e =
    let first = word_first gs t (map word texts) e in
    subst (All IsAccepted) (sym first.whole)
    (All-cons IsAccepted (Leaf first.first) first.rest
    (first.first, refl, subst (λ x. IsTrue (is_one_of accepted x)) (sym first.same) (All-head (λ x. IsTrue (is_one_of accepted x)) t texts all))
    (accepted_again texts first.rest (All-tail (λ x. IsTrue (is_one_of accepted x)) t texts all) first.behind))

-- the three parts of an action
abbrev parts_of : List PlainTypedName → List PlainLiteral → List PlainLiteral → List PartValue
parts_of parameters pre effect = HasParameters parameters ∷ HasPrecondition pre ∷ HasEffect effect ∷ []

abbrev Other : PartValue → PartValue → Type 0
Other p q = part_of p ≢ part_of q

parts_once : (parameters : List PlainTypedName) (pre effect : List PlainLiteral) → AllPairs Other (parts_of parameters pre effect)
parts_once parameters pre effect =
    AllPairs-cons Other (HasParameters parameters) (HasPrecondition pre ∷ HasEffect effect ∷ [])
    (All-cons (Other (HasParameters parameters)) (HasPrecondition pre) (HasEffect effect ∷ []) (λ e. absurd (cc))
    (All-cons (Other (HasParameters parameters)) (HasEffect effect) [] (λ e. absurd (cc)) (All-nil (Other (HasParameters parameters)))))
    (AllPairs-cons Other (HasPrecondition pre) (HasEffect effect ∷ [])
    (All-cons (Other (HasPrecondition pre)) (HasEffect effect) [] (λ e. absurd (cc)) (All-nil (Other (HasPrecondition pre))))
    (AllPairs-cons Other (HasEffect effect) [] (All-nil (Other (HasEffect effect))) (AllPairs-none Other)))

-- the canonical forms behind the keyword of an action, and forms that differ from them in places alone
abbrev effect_behind : PlainSchema → List Form
effect_behind a = word (codes ":effect") ∷ condition_form a.effect ∷ []

abbrev pre_behind : PlainSchema → List Form
pre_behind a = word (codes ":precondition") ∷ condition_form a.pre ∷ effect_behind a

abbrev action_behind : PlainSchema → List Form
action_behind a = name_form a.name ∷ word (codes ":parameters") ∷ group 0 (flat_map typed_forms a.parameters) ∷ pre_behind a

record ActionForms (gs : List Form) (a : PlainSchema) : Type 0 where
  name : Word
  at_parameters : Word
  at : ℕ
  inner : List Form
  at_pre : Word
  pre : Form
  at_effect : Word
  effect : Form
  whole : gs ≡ Leaf name ∷ Leaf at_parameters ∷ group at inner ∷ Leaf at_pre ∷ pre ∷ Leaf at_effect ∷ effect ∷ []
  same : name.text ≡ a.name.text
  same_at_parameters : at_parameters.text ≡ codes ":parameters"
  inside : map unplaced_form inner ≡ flat_map typed_forms a.parameters
  same_at_pre : at_pre.text ≡ codes ":precondition"
  same_pre : unplaced_form pre ≡ condition_form a.pre
  same_at_effect : at_effect.text ≡ codes ":effect"
  same_effect : unplaced_form effect ≡ condition_form a.effect

action_forms : (a : PlainSchema) (gs : List Form) → map unplaced_form gs ≡ action_behind a → ActionForms gs a
action_forms a gs e =
    let inner = flat_map typed_forms a.parameters in
    let name = word_first gs a.name.text (word (codes ":parameters") ∷ group 0 inner ∷ pre_behind a) e in
    let keyword = word_first name.rest (codes ":parameters") (group 0 inner ∷ pre_behind a) name.behind in
    let list = group_first keyword.rest inner (pre_behind a) keyword.behind in
    let at_pre = word_first list.rest (codes ":precondition") (condition_form a.pre ∷ effect_behind a) list.behind in
    let pre = form_first at_pre.rest (condition_form a.pre) (effect_behind a) at_pre.behind in
    let at_effect = word_first pre.rest (codes ":effect") (condition_form a.effect ∷ []) pre.behind in
    let effect = form_first at_effect.rest (condition_form a.effect) [] at_effect.behind in
    record {
      name = name.first;
      at_parameters = keyword.first;
      at = list.at;
      inner = list.inner;
      at_pre = at_pre.first;
      pre = pre.first;
      at_effect = at_effect.first;
      effect = effect.first;
      whole = cc (name.whole, keyword.whole, list.whole, at_pre.whole, pre.whole, at_effect.whole, effect.whole, none_again effect.rest effect.behind);
      same = name.same;
      same_at_parameters = keyword.same;
      inside = list.inside;
      same_at_pre = at_pre.same;
      same_pre = pre.same;
      same_at_effect = at_effect.same;
      same_effect = effect.same;
    }

module _ (P : List ℕ → Type 0) where
  pub predicate_again : (p : PlainPredicate) (g : Form) → SoundPredicate P p → unplaced_form g ≡ predicate_form p
      → (q : PlainPredicate) × IsPredicate g q × (unplaced_predicate q ≡ unplaced_predicate p)
  predicate_again p g sound e =
      let whole = group_again g (name_form p.name ∷ flat_map typed_forms p.parameters) e in
      let name = word_first whole.1 p.name.text (flat_map typed_forms p.parameters) whole.3 in
      let parameters = typed_again P Variables p.parameters name.rest sound.parameters name.behind in (
        record { name = name.first; parameters = parameters.0 },
        record {
          at = whole.0;
          forms = name.rest;
          whole = whole.2 ∙ ap (λ fs. group whole.0 fs) name.whole;
          name = same_name name.first p.name name.same sound.name;
          parameters = parameters.1;
        },
        λ j. record { name = record { text = name.same j; at = 0 }; parameters = parameters.2 j },
      )

  behind_action : (a : PlainSchema) (gs : List Form) → SoundSchema P a → ActionForms gs a
      → (b : PlainSchema) × IsAction gs b × (unplaced_schema b ≡ unplaced_schema a)
  behind_action a gs sound is =
      let parameters = typed_again P Variables a.parameters is.inner sound.parameters is.inside in
      let pre = condition_again P Precondition a.pre is.pre sound.pre is.same_pre in
      let effect = condition_again P Effect a.effect is.effect sound.effect is.same_effect in (
        record { name = is.name; parameters = parameters.0; pre = pre.0; effect = effect.0 },
        record {
          part_forms = Leaf is.at_parameters ∷ group is.at is.inner ∷ Leaf is.at_pre ∷ is.pre ∷ Leaf is.at_effect ∷ is.effect ∷ [];
          parts = parts_of parameters.0 pre.0 effect.0;
          whole = is.whole;
          name = same_name is.name a.name is.same sound.name;
          are_parts = (
            is.same_at_parameters,
            (is.at, is.inner, refl, parameters.1),
            (is.same_at_pre, pre.1, (is.same_at_effect, effect.1, tt)),
          );
          once = parts_once parameters.0 pre.0 effect.0;
          parameters = sym (append-nil parameters.0);
          pre = sym (append-nil pre.0);
          effect = sym (append-nil effect.0);
        },
        λ j. record {
          name = record { text = is.same j; at = 0 };
          parameters = parameters.2 j;
          pre = pre.2 j;
          effect = effect.2 j;
        },
      )

  pub action_again : (a : PlainSchema) (g : Form) → SoundSchema P a → unplaced_form g ≡ action_form a
      → (b : PlainSchema) × IsSection g (HasAction b) × (unplaced_schema b ≡ unplaced_schema a)
  action_again a g sound e =
      let whole = group_again g (word (codes ":action") ∷ action_behind a) e in
      let head = word_first whole.1 (codes ":action") (action_behind a) whole.3 in
      let action = behind_action a head.rest sound (action_forms a head.rest head.behind) in (
        action.0,
        record {
          at = whole.0;
          head = head.first;
          forms = head.rest;
          whole = whole.2 ∙ ap (λ fs. group whole.0 fs) head.whole;
          keyword = head.same;
          content = action.1;
        },
        action.2,
      )

-- the section of these values; none where there are none
abbrev pub section_of : {X : Type 0} → (List X → SectionValue) → List X → List SectionValue
section_of make [] = []
section_of make (x ∷ xs) = make (x ∷ xs) ∷ []

-- a section that may be left out
module _ {X : Type 0} (unplace : X → X) (make : List X → SectionValue) (keyword : List ℕ)
    (keyed : (xs : List X) → keyword ≡ keyword_of (kind_of (make xs))) where
  abbrev pub SectionAgain : List Form → List X → Type 0
  SectionAgain gs xs = (ys : List X) × Pairwise IsSection gs (section_of make ys) × (map unplace ys ≡ map unplace xs)

  pub no_section : (gs : List Form) → map unplaced_form gs ≡ [] → SectionAgain gs []
  no_section gs e = ([], subst (λ fs. Pairwise IsSection fs []) (sym (none_again gs e)) tt, refl)

  pub some_section : (x : X) (xs : List X) (f : Form) (fs gs : List Form)
      → ((inner : List Form) → map unplaced_form inner ≡ f ∷ fs → (ys : List X) × IsContent inner (make ys) × (map unplace ys ≡ map unplace (x ∷ xs)))
      → map unplaced_form gs ≡ section_forms keyword (f ∷ fs) → SectionAgain gs (x ∷ xs)
  some_section x xs f fs gs again e =
      let first = group_first gs (word keyword ∷ f ∷ fs) [] e in
      let head = word_first first.inner keyword (f ∷ fs) first.inside in
      let content = again head.rest head.behind in
      let whole : gs ≡ group first.at (Leaf head.first ∷ head.rest) ∷ [] =
      first.whole ∙ cc (head.whole, none_again first.rest first.behind) in (
        content.0,
        subst (λ fs. Pairwise IsSection fs (section_of make content.0)) (sym whole)
            (as_section content.0 content.2 (record {
              at = first.at;
              head = head.first;
              forms = head.rest;
              whole = refl;
              keyword = head.same ∙ keyed content.0;
              content = content.1;
            })),
        content.2,
      )
    where
      as_section : {f : Form} (ys : List X) → map unplace ys ≡ map unplace (x ∷ xs) → IsSection f (make ys) → Pairwise IsSection (f ∷ []) (section_of make ys)
      as_section [] same is = absurd (cc)
      as_section (y ∷ ys) same is = (is, tt)

-- what sections of some values give, and what holds of them, before other sections
module _ {X : Type 0} (make : List X → SectionValue) (rest : List SectionValue) where
  pub section_gives : (part : SectionValue → List X) → ((xs : List X) → part (make xs) ≡ xs) → (xs : List X)
      → flat_map part (section_of make xs ++ rest) ≡ xs ++ flat_map part rest
  section_gives part gives [] = refl
  section_gives part gives (x ∷ xs) = ap (λ l. l ++ flat_map part rest) (gives (x ∷ xs))

  pub section_skips : {A : Type 0} (part : SectionValue → List A) → ((xs : List X) → part (make xs) ≡ []) → (xs : List X)
      → flat_map part (section_of make xs ++ rest) ≡ flat_map part rest
  section_skips part skips [] = refl
  section_skips part skips (x ∷ xs) = ap (λ l. l ++ flat_map part rest) (skips (x ∷ xs))

  pub section_all : (Q : SectionValue → Type 0) → ((xs : List X) → Q (make xs)) → All Q rest → (xs : List X) → All Q (section_of make xs ++ rest)
  section_all Q one all [] = all
  section_all Q one all (x ∷ xs) = All-cons Q (make (x ∷ xs)) rest (one (x ∷ xs)) all

  pub section_once : (R : SectionValue → SectionValue → Type 0) → ((xs : List X) → All (R (make xs)) rest) → AllPairs R rest
      → (xs : List X) → AllPairs R (section_of make xs ++ rest)
  section_once R apart once [] = once
  section_once R apart once (x ∷ xs) = AllPairs-cons R (make (x ∷ xs)) rest (apart (x ∷ xs)) once

-- what holds of the section behind a first one and one that may be left out
pub section_any : {X : Type 0} (make : List X → SectionValue) (Q : SectionValue → Type 0) (first s : SectionValue) (rest : List SectionValue) → Q s
    → (xs : List X) → Any Q (first ∷ (section_of make xs ++ s ∷ rest))
section_any make Q first s rest holds [] = (1, s, omega arith, refl, holds)
section_any make Q first s rest holds (x ∷ xs) = (2, s, omega arith, refl, holds)

-- the sections of actions
pub actions_all : (Q : SectionValue → Type 0) → ((a : PlainSchema) → Q (HasAction a)) → (actions : List PlainSchema) → All Q (map HasAction actions)
actions_all Q one [] = All-nil Q
actions_all Q one (a ∷ actions) = All-cons Q (HasAction a) (map HasAction actions) (one a) (actions_all Q one actions)

pub actions_skip : {A : Type 0} (part : SectionValue → List A) → ((a : PlainSchema) → part (HasAction a) ≡ [])
    → (actions : List PlainSchema) → flat_map part (map HasAction actions) ≡ []
actions_skip part skips [] = refl
actions_skip part skips (a ∷ actions) = ap (λ l. l ++ flat_map part (map HasAction actions)) (skips a) ∙ actions_skip part skips actions

-- each kind but ':action' comes at most once
abbrev pub Apart : SectionValue → SectionValue → Type 0
Apart s t = kind_of s ≡ kind_of t → kind_of s ≡ Action

pub actions_once : (actions : List PlainSchema) → AllPairs Apart (map HasAction actions)
actions_once [] = AllPairs-none Apart
actions_once (a ∷ actions) =
    AllPairs-cons Apart (HasAction a) (map HasAction actions) (actions_all (Apart (HasAction a)) (λ b e. refl) actions) (actions_once actions)
