-- The parts of an action, one behind the other.
use Rattle.std.proofs.Common.{◌≡◌, ℕ, false, List, [], ◌∷◌, ◌++◌, map, Ok, Err, refl, sym, ap, ◌∙◌, append-nil}
use Rattle.std.specs.List.{flat_map, list_any}
use Rattle.std.proofs.lemmas.Bool.{false≢true}
use Rattle.std.proofs.lemmas.List.{map-append}
use Rattle.pddl_reader.specs.declared.actions.Parts.{Parts}
use Rattle.pddl_reader.specs.declared.faults.PddlFault.{PddlFault}
use Rattle.pddl_reader.specs.declared.kinds.ActionPart.{ActionPart}
use Rattle.pddl_reader.specs.declared.kinds.ActionPart.TheVariants.{Parameters, Precondition, Effect}
use Rattle.pddl_reader.specs.Forms.{Word, Form, Leaf}
use Rattle.pddl_reader.specs.Kept.{KeepsParts, AddsPart, TakesPart}
use Rattle.pddl_reader.specs.Reading.{and_then, part_by, same_part, part_at, new_part, parts_from}
use Rattle.pddl_reader.specs.Sections.{PartValue, HasParameters, HasPrecondition, HasEffect, part_of, parameters_in, preconditions_in, effects_in}
use Rattle.pddl_reader.specs.Values.{PlainTypedName, PlainLiteral}
use Rattle.pddl_reader.specs.Steps.{behind}
use Rattle.pddl_reader.proofs.Gathered.{with_first, with_none}
use Rattle.pddl_reader.proofs.ReadLemmas.{behind-nothing, behind-push}

-- a part that does not come before has left nothing
no_parameters : (seen : List PartValue) → list_any (same_part Parameters) (map part_of seen) ≡ false → flat_map parameters_in seen ≡ []
no_parameters [] e = refl
no_parameters (HasParameters v ∷ seen) e = absurd (false≢true (sym e))
no_parameters (HasPrecondition v ∷ seen) e = no_parameters seen e
no_parameters (HasEffect v ∷ seen) e = no_parameters seen e

no_pre : (seen : List PartValue) → list_any (same_part Precondition) (map part_of seen) ≡ false → flat_map preconditions_in seen ≡ []
no_pre [] e = refl
no_pre (HasParameters v ∷ seen) e = no_pre seen e
no_pre (HasPrecondition v ∷ seen) e = absurd (false≢true (sym e))
no_pre (HasEffect v ∷ seen) e = no_pre seen e

no_effect : (seen : List PartValue) → list_any (same_part Effect) (map part_of seen) ≡ false → flat_map effects_in seen ≡ []
no_effect [] e = refl
no_effect (HasParameters v ∷ seen) e = no_effect seen e
no_effect (HasPrecondition v ∷ seen) e = no_effect seen e
no_effect (HasEffect v ∷ seen) e = absurd (false≢true (sym e))

-- the kinds, with one more
with_kind : (seen : List PartValue) (v : PartValue) (given more : List ActionPart) → given ≡ map part_of seen → more ≡ given ++ part_of v ∷ [] → more ≡ map part_of (seen ++ v ∷ [])
with_kind seen v given more e pushed = pushed ∙ ap (λ ps. ps ++ part_of v ∷ []) e ∙ sym (map-append part_of seen (v ∷ []))

is_fresh : (part : ActionPart) (seen : List PartValue) (given : List ActionPart) → given ≡ map part_of seen → list_any (same_part part) given ≡ false → list_any (same_part part) (map part_of seen) ≡ false
is_fresh part seen given e fresh = ap (list_any (same_part part)) (sym e) ∙ fresh

pub adds_parameters : (old new : Parts) (f : Form) (v : List PlainTypedName) → list_any (same_part Parameters) old.given.items ≡ false → part_at Parameters f ≡ Ok (HasParameters v)
    → new.given.items ≡ old.given.items ++ Parameters ∷ [] → new.parameters.items ≡ v → new.pre.items ≡ old.pre.items → new.effect.items ≡ old.effect.items → AddsPart Parameters old f new
adds_parameters old new f v fresh read pushed parameters pre effect = λ seen h. (
  HasParameters v,
  read,
  refl,
  record {
    given = with_kind seen (HasParameters v) old.given.items _ h.given pushed;
    parameters = with_first parameters_in seen (HasParameters v) _ (no_parameters seen (is_fresh Parameters seen _ h.given fresh)) parameters;
    pre = with_none preconditions_in seen (HasParameters v) _ (pre ∙ h.pre) refl;
    effect = with_none effects_in seen (HasParameters v) _ (effect ∙ h.effect) refl;
  },
)

pub adds_pre : (old new : Parts) (f : Form) (v : List PlainLiteral) → list_any (same_part Precondition) old.given.items ≡ false → part_at Precondition f ≡ Ok (HasPrecondition v)
    → new.given.items ≡ old.given.items ++ Precondition ∷ [] → new.parameters.items ≡ old.parameters.items → new.pre.items ≡ v → new.effect.items ≡ old.effect.items → AddsPart Precondition old f new
adds_pre old new f v fresh read pushed parameters pre effect = λ seen h. (
  HasPrecondition v,
  read,
  refl,
  record {
    given = with_kind seen (HasPrecondition v) old.given.items _ h.given pushed;
    parameters = with_none parameters_in seen (HasPrecondition v) _ (parameters ∙ h.parameters) refl;
    pre = with_first preconditions_in seen (HasPrecondition v) _ (no_pre seen (is_fresh Precondition seen _ h.given fresh)) pre;
    effect = with_none effects_in seen (HasPrecondition v) _ (effect ∙ h.effect) refl;
  },
)

pub adds_effect : (old new : Parts) (f : Form) (v : List PlainLiteral) → list_any (same_part Effect) old.given.items ≡ false → part_at Effect f ≡ Ok (HasEffect v)
    → new.given.items ≡ old.given.items ++ Effect ∷ [] → new.parameters.items ≡ old.parameters.items → new.pre.items ≡ old.pre.items → new.effect.items ≡ v → AddsPart Effect old f new
adds_effect old new f v fresh read pushed parameters pre effect = λ seen h. (
  HasEffect v,
  read,
  refl,
  record {
    given = with_kind seen (HasEffect v) old.given.items _ h.given pushed;
    parameters = with_none parameters_in seen (HasEffect v) _ (parameters ∙ h.parameters) refl;
    pre = with_none preconditions_in seen (HasEffect v) _ (pre ∙ h.pre) refl;
    effect = with_first effects_in seen (HasEffect v) _ (no_effect seen (is_fresh Effect seen _ h.given fresh)) effect;
  },
)

-- one part is read
pub part_taken : (at : ℕ) (seen : List PartValue) (w : Word) (f : Form) (rest : List Form) (part : ActionPart) (v : PartValue) → new_part (part_by w.text) (map part_of seen) w ≡ Ok part → part_at part f ≡ Ok v → part_of v ≡ part
    → parts_from at (map part_of seen) (Leaf w ∷ f ∷ rest) ≡ and_then (parts_from at (map part_of (seen ++ v ∷ [])) rest) (λ more. Ok (v ∷ more))
part_taken at seen w f rest part v named read kind =
    ap (λ r. and_then r (λ p. and_then (part_at p f) (λ x. and_then (parts_from at (map part_of seen ++ p ∷ []) rest) (λ more. Ok (x ∷ more))))) named
    ∙ ap (λ r. and_then r (λ x. and_then (parts_from at (map part_of seen ++ part ∷ []) rest) (λ more. Ok (x ∷ more)))) read
    ∙ ap (λ ps. and_then (parts_from at ps rest) (λ more. Ok (v ∷ more))) (ap (λ p. map part_of seen ++ p ∷ []) (sym kind) ∙ sym (map-append part_of seen (v ∷ [])))

pub takes_part : (at : ℕ) (old new : Parts) (forms back rest : List Form) (w : Word) (f : Form) (part : ActionPart) → forms ≡ Leaf w ∷ back → back ≡ f ∷ rest
    → new_part (part_by w.text) old.given.items w ≡ Ok part → AddsPart part old f new → TakesPart at old forms new rest
takes_part at old new forms back rest w f part whole behind_it named adds = λ seen h.
    let added = adds seen h in
    let v = added.0 in (
      v,
      added.3,
      ap (parts_from at (map part_of seen)) (whole ∙ ap (λ fs. Leaf w ∷ fs) behind_it)
          ∙ part_taken at seen w f rest part v (ap (λ given. new_part (part_by w.text) given w) (sym h.given) ∙ named) added.1 added.2,
    )

-- the forms are read up to the rest
pub record ReadsParts (at : ℕ) (forms : List Form) (p : Parts) (rest : List Form) : Type 0 where
  pub seen : List PartValue
  pub keeps : KeepsParts seen p
  pub same : parts_from at [] forms ≡ behind seen (parts_from at (map part_of seen) rest)

pub nothing_read : (at : ℕ) (forms : List Form) (p : Parts) → KeepsParts [] p → ReadsParts at forms p forms
nothing_read at forms p h = record { seen = []; keeps = h; same = sym (behind-nothing (parts_from at [] forms)) }

pub one_more_read : (at : ℕ) (forms before rest : List Form) (old new : Parts) → ReadsParts at forms old before → TakesPart at old before new rest → ReadsParts at forms new rest
one_more_read at forms before rest old new h takes =
    let taken = takes h.seen h.keeps in
    let v = taken.0 in
    record {
      seen = h.seen ++ v ∷ [];
      keeps = taken.1;
      same = h.same ∙ ap (behind h.seen) taken.2 ∙ behind-push h.seen v (parts_from at (map part_of (h.seen ++ v ∷ [])) rest);
    }

pub parts_fault : (at : ℕ) (forms rest : List Form) (p : Parts) (fault : PddlFault) → ReadsParts at forms p rest → parts_from at p.given.items rest ≡ Err fault → parts_from at [] forms ≡ Err fault
parts_fault at forms rest p fault h e = h.same ∙ ap (λ kinds. behind h.seen (parts_from at kinds rest)) (sym h.keeps.given) ∙ ap (behind h.seen) e

pub parts_end : (at : ℕ) (forms : List Form) (p : Parts) → ReadsParts at forms p [] → (seen : List PartValue) × (parts_from at [] forms ≡ Ok seen) × KeepsParts seen p
parts_end at forms p h = (h.seen, h.same ∙ ap Ok (append-nil h.seen), h.keeps)
