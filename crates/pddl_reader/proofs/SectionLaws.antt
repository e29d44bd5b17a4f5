-- Predicates, requirements, actions and the contents of sections: what is read is what the forms spell,
-- and a fault is what the definitions of faults say.
use Rattle.std.proofs.Common.{◌≡◌, ◌≢◌, ◌⊎◌, ℕ, List, [], ◌∷◌, ◌++◌, map, append_assoc, append-nil, refl, sym, ap, ap₂, ◌∙◌, subst, inl, inr, Contains, Option, Some, None, Ok, Err, if◌then◌else◌}
use Rattle.std.specs.List.{list_any}
use Rattle.std.proofs.lemmas.Bool.{cond-true, cond-false}
use Rattle.std.proofs.lemmas.List.Elements.{All-nil}
use Rattle.pddl_reader.specs.declared.faults.PddlFault.{PddlFault}
use Rattle.pddl_reader.specs.declared.faults.PddlFault.TheVariants.{Shape, Unsupported, DoubledSection}
use Rattle.pddl_reader.specs.declared.faults.Feature.TheVariants.{Requirement}
use Rattle.pddl_reader.specs.declared.kinds.Listed.TheVariants.{Names, Variables}
use Rattle.pddl_reader.specs.declared.kinds.Part.TheVariants.{Precondition, Effect, Start}
use Rattle.pddl_reader.specs.declared.kinds.ActionPart.{ActionPart}
use Rattle.pddl_reader.specs.declared.kinds.ActionPart.TheVariants.{Parameters, Precondition as PartPrecondition, Effect as PartEffect}
use Rattle.pddl_reader.specs.declared.kinds.SectionKind.{SectionKind}
use Rattle.pddl_reader.specs.declared.kinds.SectionKind.TheVariants.{Requirements, Types, Constants, Predicates, Action, Domain, Objects, Init, Goal}
use Rattle.pddl_reader.specs.Forms.{Word, Form, Leaf, Group, End, Then, forms_in, place_of}
use Rattle.pddl_reader.specs.Values.{PlainTypedName, PlainLiteral, PlainPredicate, PlainSchema}
use Rattle.pddl_reader.specs.Classes.{is_keyword, is_one_of, accepted}
use Rattle.pddl_reader.specs.Typed.{IsNameWord}
use Rattle.pddl_reader.specs.Conditions.{IsStartAtom}
use Rattle.pddl_reader.specs.Sections.{PartValue, HasParameters, HasPrecondition, HasEffect, part_of, part_keyword, IsPart, AreParts, IsAction, IsPredicate, IsAccepted, SectionValue, HasRequirements, HasTypes, HasConstants, HasPredicates, HasAction, HasDomain, HasObjects, HasInit, HasGoal, kind_of, IsContent}
use Rattle.pddl_reader.specs.Faults.{IsAtomFault, IsPredicateFault, IsPartFault, IsPartsRestFault, IsActionFault, IsRequirementFault, IsOneNameFault, IsOneFormFault, IsContentFault}
use Rattle.pddl_reader.specs.Reading.{Read, and_then, each_at, name_at, typed_from, atom_at, condition_at, predicate_in, predicate_at, part_by, same_part, part_at, new_part, parts_from, action_of, action_in, requirement_at, one_name, one_form, content_in}
use Rattle.pddl_reader.proofs.EachLaws.{and_then-Ok, and_then-Err, and_then-from, each_spells, each_reads, each_good, each_given, each_faults}
use Rattle.pddl_reader.proofs.NameLaws.{choice, name_spells, name_reads, name_good, name_faults}
use Rattle.pddl_reader.proofs.TypedLaws.{forms_back, forms_there, typed_spells, typed_reads, typed_faults}
use Rattle.pddl_reader.proofs.AtomLaws.{atom_spells, atom_reads, atom_faults}
use Rattle.pddl_reader.proofs.ConditionLaws.{condition_spells, condition_reads, condition_faults}
use Rattle.pddl_reader.proofs.KeywordLaws.{Contains-none, Contains-from_keyword, not-Contains_from_keyword, none_by_keyword, part_by-from, part_by-Some, part_by-None, parts_differ}
use Rattle.pddl_reader.proofs.OnceLaws.{AllPairs-none, AreNew, AreOnce, new-cons, once-cons, new-head, new-tail, once-tail}

-- a value that is made of what one step reads
module _ {A B : Type 0} (make : A → B) where
  pub made_spells : (r : Read A) (y : B) → and_then r (λ x. Ok (make x)) ≡ Ok y → (x : A) × (r ≡ Ok x) × (make x ≡ y)
  made_spells (Ok x) y h = (x, refl, cc)
  made_spells (Err cause) y h = absurd (cc)

  pub made_reads : (r : Read A) (x : A) → r ≡ Ok x → and_then r (λ x. Ok (make x)) ≡ Ok (make x)
  made_reads r x h = ap (λ s. and_then s (λ x. Ok (make x))) h

  pub made_faults : (r : Read A) (fault : PddlFault) → and_then r (λ x. Ok (make x)) ≡ Err fault → r ≡ Err fault
  made_faults (Ok x) fault h = absurd (cc)
  made_faults (Err cause) fault h = let same : cause ≡ fault = cc in ap Err same

-- what is read where the word is no accepted requirement
abbrev pub refused : Word → Read Word
refused w = if is_keyword w.text then Err (Unsupported w.at Requirement) else Err (Shape w.at)

requirement_good : (f : Form) (word : Word) → requirement_at f ≡ Ok word → IsAccepted f
requirement_good (Leaf w) word h =
    choice (is_one_of accepted w.text) (Ok w) (refused w) (Ok word) h (IsAccepted (Leaf w))
    (λ good _. (w, refl, good))
    (λ _ e. choice (is_keyword w.text) (Err (Unsupported w.at Requirement)) (Err (Shape w.at)) (Ok word) e (IsAccepted (Leaf w))
    (λ _ no. absurd (cc)) (λ _ no. absurd (cc)))
requirement_good (Group at forms) word h = absurd (cc)

pub requirement_given : (f : Form) → IsAccepted f → (word : Word) × (requirement_at f ≡ Ok word)
requirement_given f a = (a.0, ap requirement_at a.1 ∙ cond-true (is_one_of accepted a.0.text) (Ok a.0) (refused a.0) a.2)

requirement_faults : (f : Form) (fault : PddlFault) → requirement_at f ≡ Err fault → IsRequirementFault f fault
requirement_faults (Leaf w) fault h =
    choice (is_one_of accepted w.text) (Ok w) (refused w) (Err fault) h (IsRequirementFault (Leaf w) fault)
    (λ _ no. absurd (cc))
    (λ other e. choice (is_keyword w.text) (Err (Unsupported w.at Requirement)) (Err (Shape w.at)) (Err fault) e (IsRequirementFault (Leaf w) fault)
    (λ keyword k. inl (other, keyword, cc)) (λ bad k. inr (bad, cc)))
requirement_faults (Group at forms) fault h = cc

abbrev pub with_parameters : Word → List PlainTypedName → PlainPredicate
with_parameters name parameters = record { name = name; parameters = parameters }

abbrev pub predicate_named : ℕ → List Form → Word → Read PlainPredicate
predicate_named at forms name = and_then (typed_from Variables at [] forms) (λ parameters. Ok (with_parameters name parameters))

predicate_spells : (f : Form) (p : PlainPredicate) → predicate_at f ≡ Ok p → IsPredicate f p
predicate_spells (Leaf w) p h = absurd (cc)
predicate_spells (Group at End) p h = absurd (cc)
predicate_spells (Group at (Then f rest)) p h =
    let name = and_then-Ok (name_at f) (predicate_named at (forms_in rest)) p h in
    let read = made_spells (with_parameters name.0) (typed_from Variables at [] (forms_in rest)) p name.2 in
    let spelt = name_spells f name.0 name.1 in
    subst (IsPredicate (Group at (Then f rest))) read.2 (record {
      at = at;
      forms = forms_in rest;
      whole = ap₂ (λ g gs. Group at (Then g gs)) spelt.0 (sym (forms_back rest));
      name = spelt.1;
      parameters = typed_spells Variables at (forms_in rest) read.0 read.1;
    })

pub predicate_reads : (f : Form) (p : PlainPredicate) → IsPredicate f p → predicate_at f ≡ Ok p
predicate_reads f p i =
    ap predicate_at i.whole ∙ ap (λ forms. predicate_in i.at (Leaf p.name ∷ forms)) (forms_there i.forms)
    ∙ and_then-from (name_at (Leaf p.name)) (predicate_named i.at i.forms) p.name (Ok p) (name_reads p.name i.name)
    (made_reads (with_parameters p.name) (typed_from Variables i.at [] i.forms) p.parameters (typed_reads Variables i.at i.forms p.parameters i.parameters))

predicate_faults : (f : Form) (fault : PddlFault) → predicate_at f ≡ Err fault → IsPredicateFault f fault
predicate_faults (Leaf w) fault h = cc
predicate_faults (Group at End) fault h = cc
predicate_faults (Group at (Then f rest)) fault h =
    elim (and_then-Err (name_at f) (predicate_named at (forms_in rest)) fault h) [
      | inl e ↦ inl (name_faults f fault e)
      | inr (name, e, k) ↦
          inr (
            name_good f name e,
            typed_faults Variables at (forms_in rest) fault (made_faults (with_parameters name) (typed_from Variables at [] (forms_in rest)) fault k),
          )
    ]

part_spells : (part : ActionPart) (f : Form) (v : PartValue) → part_at part f ≡ Ok v → (part_of v ≡ part) × IsPart f v
part_spells Parameters (Leaf w) v h = absurd (cc)
part_spells Parameters (Group at forms) v h =
    let read = made_spells HasParameters (typed_from Variables at [] (forms_in forms)) v h in
    subst (λ x. (part_of x ≡ Parameters) × IsPart (Group at forms) x) read.2
    (refl, (at, forms_in forms, ap (λ fs. Group at fs) (sym (forms_back forms)), typed_spells Variables at (forms_in forms) read.0 read.1))
part_spells PartPrecondition f v h =
    let read = made_spells HasPrecondition (condition_at Precondition f) v h in
    subst (λ x. (part_of x ≡ PartPrecondition) × IsPart f x) read.2 (refl, condition_spells Precondition f read.0 read.1)
part_spells PartEffect f v h =
    let read = made_spells HasEffect (condition_at Effect f) v h in
    subst (λ x. (part_of x ≡ PartEffect) × IsPart f x) read.2 (refl, condition_spells Effect f read.0 read.1)

pub part_reads : (f : Form) (v : PartValue) → IsPart f v → part_at (part_of v) f ≡ Ok v
part_reads f (HasParameters parameters) (at, forms, whole, listed) =
    ap (part_at Parameters) whole ∙ ap (λ fs. and_then (typed_from Variables at [] fs) (λ names. Ok (HasParameters names))) (forms_there forms)
    ∙ made_reads HasParameters (typed_from Variables at [] forms) parameters (typed_reads Variables at forms parameters listed)
part_reads f (HasPrecondition ls) i = made_reads HasPrecondition (condition_at Precondition f) ls (condition_reads Precondition f ls i)
part_reads f (HasEffect ls) i = made_reads HasEffect (condition_at Effect f) ls (condition_reads Effect f ls i)

part_faults : (part : ActionPart) (f : Form) (fault : PddlFault) → part_at part f ≡ Err fault → IsPartFault part f fault
part_faults Parameters (Leaf w) fault h = cc
part_faults Parameters (Group at forms) fault h =
    typed_faults Variables at (forms_in forms) fault (made_faults HasParameters (typed_from Variables at [] (forms_in forms)) fault h)
part_faults PartPrecondition f fault h = condition_faults Precondition f fault (made_faults HasPrecondition (condition_at Precondition f) fault h)
part_faults PartEffect f fault h = condition_faults Effect f fault (made_faults HasEffect (condition_at Effect f) fault h)

new_part-Ok : (o : Option ActionPart) (given : List ActionPart) (w : Word) (part : ActionPart) → new_part o given w ≡ Ok part
    → (o ≡ Some part) × (Contains given part → ⊥)
new_part-Ok None given w part h = absurd (cc)
new_part-Ok (Some p) given w part h =
    choice (list_any (same_part p) given) (Err (DoubledSection w.at)) (Ok p) (Ok part) h ((Some p ≡ Some part) × (Contains given part → ⊥))
    (λ _ no. absurd (cc))
    (λ new e. let same : p ≡ part = cc in
    subst (λ q. (Some p ≡ Some q) × (Contains given q → ⊥)) same (refl, not-Contains_from_keyword part_keyword parts_differ p given new))

new_part-Err : (o : Option ActionPart) (given : List ActionPart) (w : Word) (fault : PddlFault) → new_part o given w ≡ Err fault
    → ((o ≡ None) × (fault ≡ Shape w.at)) ⊎ ((part : ActionPart) × (o ≡ Some part) × Contains given part × (fault ≡ DoubledSection w.at))
new_part-Err None given w fault h = inl (refl, cc)
new_part-Err (Some p) given w fault h =
    choice (list_any (same_part p) given) (Err (DoubledSection w.at)) (Ok p) (Err fault) h
    (((Some p ≡ None) × (fault ≡ Shape w.at)) ⊎ ((part : ActionPart) × (Some p ≡ Some part) × Contains given part × (fault ≡ DoubledSection w.at)))
    (λ old e. inr (p, refl, Contains-from_keyword part_keyword parts_differ p given old, cc))
    (λ _ no. absurd (cc))

pub new_part-from : (text : List ℕ) (given : List ActionPart) (w : Word) (part : ActionPart) → text ≡ part_keyword part → (Contains given part → ⊥)
    → new_part (part_by text) given w ≡ Ok part
new_part-from text given w part is new =
    ap (λ o. new_part o given w) (part_by-from text part is)
    ∙ cond-false (list_any (same_part part) given) (Err (DoubledSection w.at)) (Ok part) (none_by_keyword part_keyword parts_differ part given new)

-- no kind of parts may come again
abbrev pub Never : ActionPart → Type 0
Never part = ⊥

-- parts behind parts of the given kinds
pub record ArePartsBehind (given : List ActionPart) (forms : List Form) (parts : List PartValue) : Type 0 where
  pub are_parts : AreParts forms parts
  pub new : AreNew part_of Never given parts
  pub once : AreOnce part_of Never parts

parts-none : (given : List ActionPart) → ArePartsBehind given [] []
parts-none given = record { are_parts = tt; new = All-nil (λ p. Contains given (part_of p) → ⊥); once = AllPairs-none (λ p q. part_of p ≢ part_of q) }

parts-cons : (given : List ActionPart) (w : Word) (f : Form) (forms : List Form) (p : PartValue) (parts : List PartValue)
    → w.text ≡ part_keyword (part_of p) → IsPart f p → (Contains given (part_of p) → ⊥)
    → ArePartsBehind (given ++ part_of p ∷ []) forms parts → ArePartsBehind given (Leaf w ∷ f ∷ forms) (p ∷ parts)
parts-cons given w f forms p parts keyword is new rest = record {
  are_parts = (keyword, is, rest.are_parts);
  new = new-cons part_of Never given p parts new rest.new;
  once = once-cons part_of Never given p parts rest.new rest.once;
}

pub parts-tail : (given : List ActionPart) (w : Word) (f : Form) (forms : List Form) (p : PartValue) (parts : List PartValue)
    → ArePartsBehind given (Leaf w ∷ f ∷ forms) (p ∷ parts) → ArePartsBehind (given ++ part_of p ∷ []) forms parts
parts-tail given w f forms p parts h = record {
  are_parts = h.are_parts.2;
  new = new-tail part_of Never given p parts h.new h.once;
  once = once-tail part_of Never p parts h.once;
}

-- the rest of the parts, behind the keyword of a part, and behind the part
abbrev pub behind_keyword : ℕ → List ActionPart → Form → List Form → ActionPart → Read (List PartValue)
behind_keyword at given f forms part = and_then (part_at part f) (λ value. and_then (parts_from at (given ++ part ∷ []) forms) (λ more. Ok (value ∷ more)))

abbrev pub behind_part : ℕ → List ActionPart → List Form → ActionPart → PartValue → Read (List PartValue)
behind_part at given forms part value = and_then (parts_from at (given ++ part ∷ []) forms) (λ more. Ok (value ∷ more))

parts_spells : (at : ℕ) (given : List ActionPart) (forms : List Form) (parts : List PartValue)
    → parts_from at given forms ≡ Ok parts → ArePartsBehind given forms parts
parts_spells at given [] parts h = let same : [] ≡ parts = cc in subst (ArePartsBehind given []) same (parts-none given)
parts_spells at given (Group a inner ∷ forms) parts h = absurd (cc)
parts_spells at given (Leaf w ∷ []) parts h =
    let part = and_then-Ok (new_part (part_by w.text) given w) (λ part. Err (Shape at)) parts h in absurd (cc)
parts_spells at given (Leaf w ∷ f ∷ forms) parts h =
    let part = and_then-Ok (new_part (part_by w.text) given w) (behind_keyword at given f forms) parts h in
    let value = and_then-Ok (part_at part.0 f) (behind_part at given forms part.0) parts part.2 in
    let more = and_then-Ok (parts_from at (given ++ part.0 ∷ []) forms) (λ more. Ok (value.0 ∷ more)) parts value.2 in
    let named = new_part-Ok (part_by w.text) given w part.0 part.1 in
    let spelt = part_spells part.0 f value.0 value.1 in
    let same : value.0 ∷ more.0 ≡ parts = cc in
    let back = sym spelt.0 in
    subst (ArePartsBehind given (Leaf w ∷ f ∷ forms)) same
    (parts-cons given w f forms value.0 more.0 (part_by-Some w.text part.0 named.0 ∙ ap part_keyword back) spelt.1
    (subst (λ p. Contains given p → ⊥) back named.1)
    (subst (λ p. ArePartsBehind (given ++ p ∷ []) forms more.0) back (parts_spells at (given ++ part.0 ∷ []) forms more.0 more.1)))

parts_reads : (at : ℕ) (given : List ActionPart) (forms : List Form) (parts : List PartValue)
    → ArePartsBehind given forms parts → parts_from at given forms ≡ Ok parts
parts_reads at given [] [] h = refl
parts_reads at given [] (p ∷ parts) h = absurd h.are_parts
parts_reads at given (Group a inner ∷ forms) parts h = absurd h.are_parts
parts_reads at given (Leaf w ∷ []) parts h = absurd h.are_parts
parts_reads at given (Leaf w ∷ f ∷ forms) [] h = absurd h.are_parts
parts_reads at given (Leaf w ∷ f ∷ forms) (p ∷ parts) h =
    and_then-from (new_part (part_by w.text) given w) (behind_keyword at given f forms) (part_of p) (Ok (p ∷ parts))
    (new_part-from w.text given w (part_of p) h.are_parts.0 (new-head part_of Never given p parts h.new))
    (and_then-from (part_at (part_of p) f) (behind_part at given forms (part_of p)) p (Ok (p ∷ parts)) (part_reads f p h.are_parts.1)
    (and_then-from (parts_from at (given ++ part_of p ∷ []) forms) (λ more. Ok (p ∷ more)) parts (Ok (p ∷ parts))
    (parts_reads at (given ++ part_of p ∷ []) forms parts (parts-tail given w f forms p parts h)) refl))

-- what is at fault in parts behind parts of the given kinds
record ArePartsFaultBehind (given : List ActionPart) (at : ℕ) (forms : List Form) (fault : PddlFault) : Type 0 where
  before : List Form
  parts : List PartValue
  rest : List Form
  whole : forms ≡ before ++ rest
  good : ArePartsBehind given before parts
  fails : IsPartsRestFault at (given ++ map part_of parts) rest fault

fault_here : (given : List ActionPart) (at : ℕ) (forms : List Form) (fault : PddlFault)
    → IsPartsRestFault at given forms fault → ArePartsFaultBehind given at forms fault
fault_here given at forms fault fails = record {
  before = [];
  parts = [];
  rest = forms;
  whole = refl;
  good = parts-none given;
  fails = subst (λ g. IsPartsRestFault at g forms fault) (sym (append-nil given)) fails;
}

fault_later : (given : List ActionPart) (at : ℕ) (w : Word) (f : Form) (forms : List Form) (fault : PddlFault) (p : PartValue)
    → w.text ≡ part_keyword (part_of p) → IsPart f p → (Contains given (part_of p) → ⊥)
    → ArePartsFaultBehind (given ++ part_of p ∷ []) at forms fault → ArePartsFaultBehind given at (Leaf w ∷ f ∷ forms) fault
fault_later given at w f forms fault p keyword is new later = record {
  before = Leaf w ∷ f ∷ later.before;
  parts = p ∷ later.parts;
  rest = later.rest;
  whole = ap (λ fs. Leaf w ∷ f ∷ fs) later.whole;
  good = parts-cons given w f later.before p later.parts keyword is new later.good;
  fails = subst (λ g. IsPartsRestFault at g later.rest fault) (append_assoc given (part_of p ∷ []) (map part_of later.parts)) later.fails;
}

-- a word that begins no new part
keyword_fault : (given : List ActionPart) (at : ℕ) (w : Word) (forms : List Form) (fault : PddlFault) → new_part (part_by w.text) given w ≡ Err fault
    → IsPartsRestFault at given (Leaf w ∷ forms) fault
keyword_fault given at w forms fault h =
    elim (new_part-Err (part_by w.text) given w fault h) [
      | inl (none, is) ↦ inl (part_by-None w.text none, is)
      | inr (part, some, has, is) ↦ inr (part, part_by-Some w.text part some, inl (has, is))
    ]

parts_faults : (at : ℕ) (given : List ActionPart) (forms : List Form) (fault : PddlFault)
    → parts_from at given forms ≡ Err fault → ArePartsFaultBehind given at forms fault
parts_faults at given [] fault h = absurd (cc)
parts_faults at given (Group a inner ∷ forms) fault h = fault_here given at (Group a inner ∷ forms) fault (cc)
parts_faults at given (Leaf w ∷ []) fault h =
    elim (and_then-Err (new_part (part_by w.text) given w) (λ part. Err (Shape at)) fault h) [
      | inl e ↦ fault_here given at (Leaf w ∷ []) fault (keyword_fault given at w [] fault e)
      | inr (part, e, k) ↦
          let named = new_part-Ok (part_by w.text) given w part e in
          fault_here given at (Leaf w ∷ []) fault (inr (part, part_by-Some w.text part named.0, inr (inl (named.1, refl, cc))))
    ]
parts_faults at given (Leaf w ∷ f ∷ forms) fault h =
    elim (and_then-Err (new_part (part_by w.text) given w) (behind_keyword at given f forms) fault h) [
      | inl e ↦ fault_here given at (Leaf w ∷ f ∷ forms) fault (keyword_fault given at w (f ∷ forms) fault e)
      | inr (part, e, k) ↦ elim (and_then-Err (part_at part f) (behind_part at given forms part) fault k) [
        | inl e' ↦
            let named = new_part-Ok (part_by w.text) given w part e in
            fault_here given at (Leaf w ∷ f ∷ forms) fault
            (inr (part, part_by-Some w.text part named.0, inr (inr (named.1, f, forms, refl, part_faults part f fault e'))))
        | inr (value, e', k') ↦ elim (and_then-Err (parts_from at (given ++ part ∷ []) forms) (λ more. Ok (value ∷ more)) fault k') [
          | inl later ↦
              let named = new_part-Ok (part_by w.text) given w part e in
              let spelt = part_spells part f value e' in
              let back = sym spelt.0 in
              fault_later given at w f forms fault value (part_by-Some w.text part named.0 ∙ ap part_keyword back) spelt.1
              (subst (λ p. Contains given p → ⊥) back named.1)
              (subst (λ p. ArePartsFaultBehind (given ++ p ∷ []) at forms fault) back (parts_faults at (given ++ part ∷ []) forms fault later))
          | inr (more, e'', k'') ↦ absurd (cc)
        ]
      ]
    ]

abbrev pub action_named : ℕ → List Form → Word → Read PlainSchema
action_named at forms name = and_then (parts_from at [] forms) (λ parts. Ok (action_of name parts))

action_spells : (at : ℕ) (forms : List Form) (a : PlainSchema) → action_in at forms ≡ Ok a → IsAction forms a
action_spells at [] a h = absurd (cc)
action_spells at (f ∷ forms) a h =
    let name = and_then-Ok (name_at f) (action_named at forms) a h in
    let read = made_spells (action_of name.0) (parts_from at [] forms) a name.2 in
    let spelt = name_spells f name.0 name.1 in
    let parts = parts_spells at [] forms read.0 read.1 in
    subst (IsAction (f ∷ forms)) read.2 (record {
      part_forms = forms;
      parts = read.0;
      whole = ap (λ g. g ∷ forms) spelt.0;
      name = spelt.1;
      are_parts = parts.are_parts;
      once = parts.once;
      parameters = refl;
      pre = refl;
      effect = refl;
    })

action_reads : (at : ℕ) (forms : List Form) (a : PlainSchema) → IsAction forms a → action_in at forms ≡ Ok a
action_reads at forms a i =
    ap (action_in at) i.whole
    ∙ and_then-from (name_at (Leaf a.name)) (action_named at i.part_forms) a.name (Ok a) (name_reads a.name i.name)
    (made_reads (action_of a.name) (parts_from at [] i.part_forms) i.parts
    (parts_reads at [] i.part_forms i.parts (record { are_parts = i.are_parts; new = λ k d within has. Contains-none _ has; once = i.once }))
    ∙ ap Ok same)
  where
    same : action_of a.name i.parts ≡ a
    same = λ j. record { name = a.name; parameters = sym i.parameters j; pre = sym i.pre j; effect = sym i.effect j }

action_faults : (at : ℕ) (forms : List Form) (fault : PddlFault) → action_in at forms ≡ Err fault → IsActionFault at forms fault
action_faults at [] fault h = cc
action_faults at (f ∷ forms) fault h =
    elim (and_then-Err (name_at f) (action_named at forms) fault h) [
      | inl e ↦ inl (name_faults f fault e)
      | inr (name, e, k) ↦
          let is = parts_faults at [] forms fault (made_faults (action_of name) (parts_from at [] forms) fault k) in
          inr (
            name_good f name e,
            record {
              before = is.before;
              parts = is.parts;
              rest = is.rest;
              whole = is.whole;
              good = is.good.are_parts;
              once = is.good.once;
              fails = is.fails;
            },
          )
    ]

pub one_name_spells : (at : ℕ) (forms : List Form) (name : Word) → one_name at forms ≡ Ok name → (forms ≡ Leaf name ∷ []) × IsNameWord name
one_name_spells at [] name h = absurd (cc)
one_name_spells at (f ∷ []) name h = let spelt = name_spells f name h in (ap (λ g. g ∷ []) spelt.0, spelt.1)
one_name_spells at (f ∷ g ∷ forms) name h = let first = and_then-Ok (name_at f) (λ w. Err (Shape (place_of g))) name h in absurd (cc)

pub one_name_reads : (at : ℕ) (forms : List Form) (name : Word) → forms ≡ Leaf name ∷ [] → IsNameWord name → one_name at forms ≡ Ok name
one_name_reads at forms name whole is = ap (one_name at) whole ∙ name_reads name is

pub one_name_faults : (at : ℕ) (forms : List Form) (fault : PddlFault) → one_name at forms ≡ Err fault → IsOneNameFault at forms fault
one_name_faults at [] fault h = cc
one_name_faults at (f ∷ []) fault h = name_faults f fault h
one_name_faults at (f ∷ g ∷ forms) fault h =
    elim (and_then-Err (name_at f) (λ w. Err (Shape (place_of g))) fault h) [
      | inl e ↦ inl (name_faults f fault e)
      | inr (name, e, k) ↦ inr (name_good f name e, cc)
    ]

one_form_spells : (at : ℕ) (forms : List Form) (f : Form) → one_form at forms ≡ Ok f → forms ≡ f ∷ []
one_form_spells at [] f h = absurd (cc)
one_form_spells at (g ∷ []) f h = cc
one_form_spells at (g ∷ g' ∷ forms) f h = absurd (cc)

one_form_faults : (at : ℕ) (forms : List Form) (fault : PddlFault) → one_form at forms ≡ Err fault → IsOneFormFault at forms fault
one_form_faults at [] fault h = cc
one_form_faults at (f ∷ []) fault h = absurd (cc)
one_form_faults at (f ∷ g ∷ forms) fault h = cc

-- the section of the kind that the forms are
abbrev IsContentOf : SectionKind → List Form → SectionValue → Type 0
IsContentOf kind forms s = (kind_of s ≡ kind) × IsContent forms s

pub content_spells : (kind : SectionKind) (at : ℕ) (forms : List Form) (s : SectionValue)
    → content_in kind at forms ≡ Ok s → (kind_of s ≡ kind) × IsContent forms s
content_spells Requirements at forms s h =
    let read = made_spells (λ words. HasRequirements) (each_at requirement_at forms) s h in
    subst (IsContentOf Requirements forms) read.2 (refl, each_good requirement_at IsAccepted requirement_good forms read.0 read.1)
content_spells Types at forms s h =
    let read = made_spells HasTypes (typed_from Names at [] forms) s h in
    subst (IsContentOf Types forms) read.2 (refl, typed_spells Names at forms read.0 read.1)
content_spells Constants at forms s h =
    let read = made_spells HasConstants (typed_from Names at [] forms) s h in
    subst (IsContentOf Constants forms) read.2 (refl, typed_spells Names at forms read.0 read.1)
content_spells Predicates at forms s h =
    let read = made_spells HasPredicates (each_at predicate_at forms) s h in
    subst (IsContentOf Predicates forms) read.2 (refl, each_spells predicate_at IsPredicate predicate_spells forms read.0 read.1)
content_spells Action at forms s h =
    let read = made_spells HasAction (action_in at forms) s h in
    subst (IsContentOf Action forms) read.2 (refl, action_spells at forms read.0 read.1)
content_spells Domain at forms s h =
    let read = made_spells HasDomain (one_name at forms) s h in
    subst (IsContentOf Domain forms) read.2 (refl, one_name_spells at forms read.0 read.1)
content_spells Objects at forms s h =
    let read = made_spells HasObjects (typed_from Names at [] forms) s h in
    subst (IsContentOf Objects forms) read.2 (refl, typed_spells Names at forms read.0 read.1)
content_spells Init at forms s h =
    let read = made_spells HasInit (each_at (atom_at Start) forms) s h in
    subst (IsContentOf Init forms) read.2 (refl, each_spells (atom_at Start) IsStartAtom (atom_spells Start) forms read.0 read.1)
content_spells Goal at forms s h =
    let read = made_spells (λ f. HasGoal) (one_form at forms) s h in
    subst (IsContentOf Goal forms) read.2 (refl, (read.0, one_form_spells at forms read.0 read.1))

pub content_reads : (at : ℕ) (forms : List Form) (s : SectionValue) → IsContent forms s → content_in (kind_of s) at forms ≡ Ok s
content_reads at forms HasRequirements i =
    let words = each_given requirement_at IsAccepted requirement_given forms i in
    made_reads (λ words. HasRequirements) (each_at requirement_at forms) words.0 words.1
content_reads at forms (HasTypes names) i = made_reads HasTypes (typed_from Names at [] forms) names (typed_reads Names at forms names i)
content_reads at forms (HasConstants names) i = made_reads HasConstants (typed_from Names at [] forms) names (typed_reads Names at forms names i)
content_reads at forms (HasPredicates predicates) i =
    made_reads HasPredicates (each_at predicate_at forms) predicates (each_reads predicate_at IsPredicate predicate_reads forms predicates i)
content_reads at forms (HasAction action) i = made_reads HasAction (action_in at forms) action (action_reads at forms action i)
content_reads at forms (HasDomain name) i = made_reads HasDomain (one_name at forms) name (one_name_reads at forms name i.0 i.1)
content_reads at forms (HasObjects names) i = made_reads HasObjects (typed_from Names at [] forms) names (typed_reads Names at forms names i)
content_reads at forms (HasInit atoms) i =
    made_reads HasInit (each_at (atom_at Start) forms) atoms
    (each_reads (atom_at Start) IsStartAtom (λ f l is. atom_reads Start f l is.0 is.1) forms atoms i)
content_reads at forms HasGoal i = ap (λ fs. and_then (one_form at fs) (λ f. Ok HasGoal)) i.1

pub content_faults : (kind : SectionKind) (at : ℕ) (forms : List Form) (fault : PddlFault)
    → content_in kind at forms ≡ Err fault → IsContentFault kind at forms fault
content_faults Requirements at forms fault h =
    each_faults requirement_at IsAccepted IsRequirementFault requirement_good requirement_faults forms fault
    (made_faults (λ words. HasRequirements) (each_at requirement_at forms) fault h)
content_faults Types at forms fault h = typed_faults Names at forms fault (made_faults HasTypes (typed_from Names at [] forms) fault h)
content_faults Constants at forms fault h = typed_faults Names at forms fault (made_faults HasConstants (typed_from Names at [] forms) fault h)
content_faults Predicates at forms fault h =
    each_faults predicate_at (λ f. (p : PlainPredicate) × IsPredicate f p) IsPredicateFault (λ f p is. (p, predicate_spells f p is)) predicate_faults
    forms fault
    (made_faults HasPredicates (each_at predicate_at forms) fault h)
content_faults Action at forms fault h = action_faults at forms fault (made_faults HasAction (action_in at forms) fault h)
content_faults Domain at forms fault h = one_name_faults at forms fault (made_faults HasDomain (one_name at forms) fault h)
content_faults Objects at forms fault h = typed_faults Names at forms fault (made_faults HasObjects (typed_from Names at [] forms) fault h)
content_faults Init at forms fault h =
    each_faults (atom_at Start) (λ f. (l : PlainLiteral) × IsStartAtom f l) (IsAtomFault Start) (λ f l is. (l, atom_spells Start f l is)) (atom_faults Start)
    forms fault
    (made_faults HasInit (each_at (atom_at Start) forms) fault h)
content_faults Goal at forms fault h = one_form_faults at forms fault (made_faults (λ f. HasGoal) (one_form at forms) fault h)
