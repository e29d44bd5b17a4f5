-- A typed list that is read item by item.
use Rattle.std.specs.Prelude.{◌≡◌, ℕ, Bool, true, false, ◌⊎◌, List, [], ◌∷◌, Err}
use Rattle.pddl_reader.specs.Forms.{Word, Form}
use Rattle.pddl_reader.specs.Values.{PlainTypedName}
use Rattle.pddl_reader.specs.Typed.{typed_by}
use Rattle.pddl_reader.specs.Reading.{Read, and_then, type_at, typed_from}
use Rattle.pddl_reader.specs.Steps.{behind}
use Rattle.pddl_reader.specs.declared.faults.PddlFault.{PddlFault}
use Rattle.pddl_reader.specs.declared.faults.PddlFault.TheVariants.{Shape, OutOfMemory}
use Rattle.pddl_reader.specs.declared.kinds.Listed.{Listed}
use Rattle.pddl_reader.specs.declared.typed.TypedReading.{TypedReading}

-- what is read behind elements that wait for their type and, where one has come, a dash
abbrev pub typed_rest : Listed → ℕ → List Word → Bool → List Form → Read (List PlainTypedName)
typed_rest listed at waiting false forms = typed_from listed at waiting forms
typed_rest listed at waiting true [] = Err (Shape at)
typed_rest listed at waiting true (f ∷ forms) =
    and_then (type_at listed f) (λ types. behind (typed_by types waiting) (typed_from listed at [] forms))

-- the list at the place, of which so much is read, with these forms to come
abbrev pub typed_behind : Listed → TypedReading → ℕ → List Form → Read (List PlainTypedName)
typed_behind listed r at forms = behind r.names.items (typed_rest listed at r.waiting.items r.dash forms)

-- the form is taken, whatever follows
abbrev pub Takes : Listed → TypedReading → Form → TypedReading → Type 0
Takes listed old f new =
    (at : ℕ) (forms : List Form) → typed_behind listed old at (f ∷ forms) ≡ typed_behind listed new at forms

-- the form is at fault, whatever follows
abbrev pub Refuses : Listed → TypedReading → Form → PddlFault → Type 0
Refuses listed old f fault =
    (fault ≡ OutOfMemory) ⊎ ((at : ℕ) (forms : List Form) → typed_behind listed old at (f ∷ forms) ≡ Err fault)
