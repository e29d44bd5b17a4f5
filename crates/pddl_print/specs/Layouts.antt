-- A text laid out: words, blanks between them, and brackets.
use Rattle.std.specs.Prelude.{◌≡◌, ℕ, ◌+◌, ◌<◌, max, IsTrue, List, [], ◌∷◌, ◌++◌, length}
use Rattle.std.specs.List.{AllByRecursion}
use Rattle.std.specs.Str.{str_to_ascii_lowercase}
use Rattle.pddl_lexer.specs.Pieces.{is_space, is_word_byte}
use Rattle.pddl_reader.specs.Forms.{Form, Forms, Leaf, Group, End, Then, group}

-- a part is one byte of space, a word, or parts in brackets
mutual
  pub data Part : Type 0 where
    Blank : ℕ → Part
    Written : List ℕ → Part
    Bracketed : Parts → Part

  pub data Parts : Type 0 where
    Last : Parts
    Before : Part → Parts → Parts

-- the bytes of the parts
abbrev mutual
  pub part_bytes : Part → List ℕ
  part_bytes (Blank b) = b ∷ []
  part_bytes (Written text) = text
  part_bytes (Bracketed parts) = 40 ∷ (parts_bytes parts ++ 41 ∷ [])

  pub parts_bytes : Parts → List ℕ
  parts_bytes Last = []
  parts_bytes (Before part parts) = part_bytes part ++ parts_bytes parts

-- the forms of the parts, with the place 0 in each
abbrev mutual
  pub part_forms : Part → List Form
  part_forms (Blank b) = []
  part_forms (Written text) = Leaf (record { text = text; at = 0 }) ∷ []
  part_forms (Bracketed parts) = group 0 (parts_forms parts) ∷ []

  pub parts_forms : Parts → List Form
  parts_forms Last = []
  parts_forms (Before part parts) = part_forms part ++ parts_forms parts

-- how deep the brackets are
abbrev mutual
  pub part_depth : Part → ℕ
  part_depth (Blank b) = 0
  part_depth (Written text) = 0
  part_depth (Bracketed parts) = 1 + parts_depth parts

  pub parts_depth : Parts → ℕ
  parts_depth Last = 0
  parts_depth (Before part parts) = max (part_depth part) (parts_depth parts)

-- a word that can be written and read again: some bytes, all of words, in lower case
pub record IsWritable (text : List ℕ) : Type 0 where
  pub some : 0 < length text
  pub bytes : AllByRecursion (λ b. IsTrue (is_word_byte b)) text
  pub folded : str_to_ascii_lowercase text ≡ text

-- no word stands directly behind a word
abbrev pub MayStandBefore : Part → Parts → Type 0
MayStandBefore (Written text) (Before (Written more) parts) = ⊥
MayStandBefore part parts = Unit {0}

-- blanks are space, words can be read again, and no two words touch
abbrev mutual
  pub IsLaid : Part → Type 0
  IsLaid (Blank b) = IsTrue (is_space b)
  IsLaid (Written text) = IsWritable text
  IsLaid (Bracketed parts) = AreLaid parts

  pub AreLaid : Parts → Type 0
  AreLaid Last = Unit {0}
  AreLaid (Before part parts) = IsLaid part × MayStandBefore part parts × AreLaid parts

-- the form with the place 0 everywhere
abbrev mutual
  pub unplaced_form : Form → Form
  unplaced_form (Leaf w) = Leaf (record { text = w.text; at = 0 })
  unplaced_form (Group at forms) = Group 0 (unplaced_forms forms)

  pub unplaced_forms : Forms → Forms
  unplaced_forms End = End
  unplaced_forms (Then f forms) = Then (unplaced_form f) (unplaced_forms forms)
