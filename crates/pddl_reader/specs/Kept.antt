-- What the readers of parts and of sections keep of those that were read.
use Rattle.std.specs.Prelude.{◌≡◌, ℕ, List, [], ◌∷◌, ◌++◌, map, Ok, is_some}
use Rattle.std.specs.List.{flat_map, list_any}
use Rattle.std.specs.Option.{option_to_list}
use Rattle.pddl_reader.specs.Forms.{Form}
use Rattle.pddl_reader.specs.Sections.{PartValue, part_of, parameters_in, preconditions_in, effects_in, SectionValue, kind_of, types_in, constants_in, section_predicates_in, actions_in, domains_in, objects_in, init_in}
use Rattle.pddl_reader.specs.Reading.{and_then, part_at, parts_from, same_kind, is_repeated}
use Rattle.pddl_reader.specs.declared.actions.Parts.{Parts}
use Rattle.pddl_reader.specs.declared.document.Values.{Values}
use Rattle.pddl_reader.specs.declared.document.Sections.{Sections}
use Rattle.pddl_reader.specs.declared.kinds.ActionPart.{ActionPart}
use Rattle.pddl_reader.specs.declared.kinds.SectionKind.{SectionKind}
use Rattle.pddl_reader.specs.declared.kinds.SectionKind.TheVariants.{Init}

-- the parts of an action that were read
pub record KeepsParts (seen : List PartValue) (p : Parts) : Type 0 where
  pub given : p.given.items ≡ map part_of seen
  pub parameters : p.parameters.items ≡ flat_map parameters_in seen
  pub pre : p.pre.items ≡ flat_map preconditions_in seen
  pub effect : p.effect.items ≡ flat_map effects_in seen

-- one more part is read
abbrev pub AddsPart : ActionPart → Parts → Form → Parts → Type 0
AddsPart part old f new =
    (seen : List PartValue) → KeepsParts seen old
    → (v : PartValue) × (part_at part f ≡ Ok v) × (part_of v ≡ part) × KeepsParts (seen ++ v ∷ []) new

-- the forms are read one part further, up to the rest
abbrev pub TakesPart : ℕ → Parts → List Form → Parts → List Form → Type 0
TakesPart at old forms new rest =
    (seen : List PartValue) → KeepsParts seen old
    → (v : PartValue) × KeepsParts (seen ++ v ∷ []) new
    × (parts_from at (map part_of seen) forms
    ≡ and_then (parts_from at (map part_of (seen ++ v ∷ [])) rest) (λ more. Ok (v ∷ more)))

-- the values of the sections that were read
pub record KeepsValues (seen : List SectionValue) (v : Values) : Type 0 where
  pub types : v.types.items ≡ flat_map types_in seen
  pub constants : v.constants.items ≡ flat_map constants_in seen
  pub predicates : v.predicates.items ≡ flat_map section_predicates_in seen
  pub actions : v.actions.items ≡ flat_map actions_in seen
  pub domain : option_to_list v.domain ≡ flat_map domains_in seen
  pub objects : v.objects.items ≡ flat_map objects_in seen
  pub init : flat_map (λ atoms. atoms.items) (option_to_list v.init) ≡ flat_map init_in seen
  pub starts : is_some v.init ≡ list_any (λ s. same_kind (kind_of s) Init) seen

-- the sections that were read, of which an action may come again
pub record KeepsSections (seen : List SectionValue) (s : Sections) : Type 0 where
  pub given : (kind : SectionKind) → is_repeated kind s.given.items ≡ is_repeated kind (map kind_of seen)
  pub values : KeepsValues seen s.values

-- one more section is read
abbrev pub AddsSection : Sections → SectionValue → Sections → Type 0
AddsSection old v new = (seen : List SectionValue) → KeepsSections seen old → KeepsSections (seen ++ v ∷ []) new
