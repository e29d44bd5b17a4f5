-- Typed lists: names or variables, each group of them with a type or, at the end, without one.
use Rattle.std.specs.Prelude.{◌≡◌, ℕ, ◌<◌, ◌⊎◌, IsTrue, List, [], ◌∷◌, ◌++◌, length, map, codes, All}
use Rattle.std.specs.List.{flat_map}
use Rattle.pddl_reader.specs.Forms.{Word, Form, Leaf, group}
use Rattle.pddl_reader.specs.Values.{PlainTypedName}
use Rattle.pddl_reader.specs.Classes.{is_name, is_element}
use Rattle.pddl_reader.specs.declared.kinds.Listed.{Listed}
use Rattle.pddl_reader.specs.declared.kinds.Listed.TheVariants.{Names, Variables}

abbrev pub IsNameWord : Word → Type 0
IsNameWord w = IsTrue (is_name w.text)

-- the form is a list of a head word 'either' and at least one name, these names
abbrev pub IsEither : Form → List Word → Type 0
IsEither f types =
    (at : ℕ) × (head : Word) × (f ≡ group at (Leaf head ∷ map Leaf types)) × (head.text ≡ codes "either")
    × (0 < length types) × All IsNameWord types

-- the form is a type, of these names: one name or, for variables, 'either' of names
abbrev pub IsType : Listed → Form → List Word → Type 0
IsType Names f types = (w : Word) × (f ≡ Leaf w) × IsNameWord w × (types ≡ w ∷ [])
IsType Variables f types = ((w : Word) × (f ≡ Leaf w) × IsNameWord w × (types ≡ w ∷ [])) ⊎ IsEither f types

-- elements with a dash and their type behind them
pub record TypedGroup : Type 0 where
  pub elements : List Word
  pub dash : Word
  pub type_form : Form
  pub types : List Word

abbrev pub AreElements : Listed → List Word → Type 0
AreElements listed words = All (λ w. IsTrue (is_element listed w.text)) words

pub record IsTypedGroup (listed : Listed) (g : TypedGroup) : Type 0 where
  pub some : 0 < length g.elements
  pub each : AreElements listed g.elements
  pub dash : g.dash.text ≡ codes "-"
  pub of_type : IsType listed g.type_form g.types

abbrev pub group_forms : TypedGroup → List Form
group_forms g = map Leaf g.elements ++ Leaf g.dash ∷ g.type_form ∷ []

-- each of the elements has the types
abbrev pub typed_by : List Word → List Word → List PlainTypedName
typed_by types elements = map (λ w. record { name = w; types = types }) elements

abbrev pub group_value : TypedGroup → List PlainTypedName
group_value g = typed_by g.types g.elements

-- an element without a type is an 'object', with the element's place
abbrev pub untyped : Word → PlainTypedName
untyped w = record { name = w; types = record { text = codes "object"; at = w.at } ∷ [] }

-- the forms are a typed list with this value
pub record IsTypedList (listed : Listed) (forms : List Form) (value : List PlainTypedName) : Type 0 where
  pub groups : List TypedGroup
  pub last : List Word
  pub whole : forms ≡ flat_map group_forms groups ++ map Leaf last
  pub are_groups : All (IsTypedGroup listed) groups
  pub are_last : AreElements listed last
  pub gives : value ≡ flat_map group_value groups ++ map untyped last
