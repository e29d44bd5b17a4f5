-- What is at fault in a text that spells no domain or problem: the first faulty item in text order.
use Rattle.std.specs.Prelude.{◌≡◌, ◌≢◌, ℕ, ◌<◌, ◌⊎◌, true, false, List, [], ◌∷◌, ◌++◌, length, map, codes, Some, None, All, AllPairs, Contains, IsTrue}
use Rattle.std.specs.List.{flat_map}
use Rattle.pddl_lexer.specs.declared.token.Token.{Token}
use Rattle.pddl_lexer.specs.declared.faults.LexFault.{LexFault}
use Rattle.pddl_lexer.specs.declared.faults.LexFault.TheVariants.{BadByte, OutOfMemory as LexMemory}
use Rattle.pddl_lexer.specs.declared.faults.TreeFault.{TreeFault}
use Rattle.pddl_lexer.specs.declared.faults.TreeFault.TheVariants.{Nothing, TooDeep, Unopened, Trailing, Unclosed, OutOfMemory as TreeMemory}
use Rattle.pddl_lexer.specs.Tokens.{AreTokens, IsFirstBad}
use Rattle.pddl_lexer.specs.Brackets.{IsFaultOf}
use Rattle.pddl_reader.specs.declared.faults.PddlFault.{PddlFault}
use Rattle.pddl_reader.specs.declared.faults.PddlFault.TheVariants.{Lex, Tree, Shape, Unsupported, DoubledSection, OutOfMemory}
use Rattle.pddl_reader.specs.declared.faults.Feature.{Feature}
use Rattle.pddl_reader.specs.declared.faults.Feature.TheVariants.{Requirement, EitherOfNames}
use Rattle.pddl_reader.specs.declared.kinds.Listed.{Listed}
use Rattle.pddl_reader.specs.declared.kinds.Listed.TheVariants.{Names, Variables}
use Rattle.pddl_reader.specs.declared.kinds.Part.{Part}
use Rattle.pddl_reader.specs.declared.kinds.Part.TheVariants.{Precondition, Effect, Start}
use Rattle.pddl_reader.specs.declared.kinds.Document.{Document}
use Rattle.pddl_reader.specs.declared.kinds.Document.TheVariants.{Domain as OfDomain, Problem as OfProblem}
use Rattle.pddl_reader.specs.declared.kinds.SectionKind.{SectionKind}
use Rattle.pddl_reader.specs.declared.kinds.SectionKind.TheVariants.{Requirements, Types, Constants, Predicates, Action, Domain, Objects, Init, Goal}
use Rattle.pddl_reader.specs.declared.kinds.ActionPart.{ActionPart}
use Rattle.pddl_reader.specs.declared.kinds.ActionPart.TheVariants.{Parameters, Precondition as PartPrecondition, Effect as PartEffect}
use Rattle.pddl_reader.specs.Forms.{Word, Form, Forms, Leaf, Group, End, Then, group, forms_in, place_of}
use Rattle.pddl_reader.specs.Values.{PlainTerm, PlainLiteral, PlainPredicate}
use Rattle.pddl_reader.specs.Classes.{is_element, is_keyword, is_one_of, accepted, section_feature, head_feature, takes_negation, is_predicate}
use Rattle.pddl_reader.specs.Typed.{IsNameWord, TypedGroup, IsTypedGroup, AreElements, group_forms}
use Rattle.pddl_reader.specs.Conditions.{IsTerm, has_enough, IsAtom, IsCondition, IsStartAtom}
use Rattle.pddl_reader.specs.Sections.{Pairwise, PartValue, part_of, part_keyword, AreParts, IsPredicate, SectionValue, IsSection, kind_of, kinds_of, keyword_of, IsAccepted}
use Rattle.pddl_reader.specs.Spelling.{IsFormOf, document_word, IsDocument}

-- the faults of the lexer as those of a reader
abbrev pub fault_of_lex : LexFault → PddlFault
fault_of_lex (BadByte at) = Lex at
fault_of_lex LexMemory = OutOfMemory

abbrev pub fault_of_tree : TreeFault → PddlFault
fault_of_tree TreeMemory = OutOfMemory
fault_of_tree Nothing = Tree Nothing
fault_of_tree (TooDeep at) = Tree (TooDeep at)
fault_of_tree (Unopened at) = Tree (Unopened at)
fault_of_tree (Trailing at) = Tree (Trailing at)
fault_of_tree (Unclosed at) = Tree (Unclosed at)

-- one of the forms is at fault, and those before it are good
pub record IsFirstFaulty (Good : Form → Type 0) (Bad : Form → PddlFault → Type 0) (forms : List Form) (fault : PddlFault) : Type 0 where
  pub before : List Form
  pub form : Form
  pub behind : List Form
  pub whole : forms ≡ before ++ form ∷ behind
  pub good : All Good before
  pub bad : Bad form fault

-- a name has to stand here, and does
abbrev pub IsNameForm : Form → Type 0
IsNameForm f = (w : Word) × (f ≡ Leaf w) × IsNameWord w

-- the form has no place where a name has to stand
abbrev pub IsNoName : Form → PddlFault → Type 0
IsNoName f fault = (IsNameForm f → ⊥) × (fault ≡ Shape (place_of f))

-- a list whose head is this word
abbrev pub HasHead : Form → List ℕ → Type 0
HasHead f text = (at : ℕ) × (head : Word) × (forms : List Form) × (f ≡ group at (Leaf head ∷ forms)) × (head.text ≡ text)

-- what is at fault in a list in the place of the type of a variable: it lacks its head or its names, its
-- head is a list or not 'either', or what stands behind is no name
abbrev pub IsEitherFault : ℕ → List Form → PddlFault → Type 0
IsEitherFault at [] fault = fault ≡ Shape at
IsEitherFault at (Group a inner ∷ forms) fault = fault ≡ Shape a
IsEitherFault at (Leaf head ∷ forms) fault =
    ((head.text ≢ codes "either") × (fault ≡ Shape head.at))
    ⊎ ((head.text ≡ codes "either") × (forms ≡ []) × (fault ≡ Shape at))
    ⊎ ((head.text ≡ codes "either") × IsFirstFaulty IsNameForm IsNoName forms fault)

-- what is at fault in a type
abbrev pub IsTypeFault : Listed → Form → PddlFault → Type 0
IsTypeFault listed (Leaf w) fault = (IsNameWord w → ⊥) × (fault ≡ Shape w.at)
IsTypeFault Names (Group at forms) fault =
    (HasHead (Group at forms) (codes "either") × (fault ≡ Unsupported at EitherOfNames))
    ⊎ ((HasHead (Group at forms) (codes "either") → ⊥) × (fault ≡ Shape at))
IsTypeFault Variables (Group at forms) fault = IsEitherFault at (forms_in forms) fault

-- the form has no place behind elements of a typed list: it is no element, nor a dash with an
-- element before it
abbrev pub HasNoPlace : Listed → List Word → Form → Type 0
HasNoPlace listed elements (Leaf w) = (is_element listed w.text ≡ false) × (w.text ≡ codes "-" → elements ≡ [])
HasNoPlace listed elements (Group at forms) = Unit {0}

-- what is at fault behind good groups and these elements of a typed list at the place: a form without a
-- place, a dash with no type behind it, or a type
abbrev pub IsTypedRestFault : Listed → ℕ → List Word → List Form → PddlFault → Type 0
IsTypedRestFault listed at elements rest fault =
    ((f : Form) × (more : List Form) × (rest ≡ f ∷ more) × HasNoPlace listed elements f × (fault ≡ Shape (place_of f)))
    ⊎ ((dash : Word) × (dash.text ≡ codes "-") × (0 < length elements)
    × (((rest ≡ Leaf dash ∷ []) × (fault ≡ Shape at))
    ⊎ ((f : Form) × (more : List Form) × (rest ≡ Leaf dash ∷ f ∷ more) × IsTypeFault listed f fault)))

-- what is at fault in a typed list at the place, behind good groups and elements
pub record IsTypedFault (listed : Listed) (at : ℕ) (forms : List Form) (fault : PddlFault) : Type 0 where
  pub groups : List TypedGroup
  pub elements : List Word
  pub rest : List Form
  pub whole : forms ≡ flat_map group_forms groups ++ map Leaf elements ++ rest
  pub are_groups : All (IsTypedGroup listed) groups
  pub are_elements : AreElements listed elements
  pub fails : IsTypedRestFault listed at elements rest fault

-- a term has to stand here, and does
abbrev pub IsTermForm : Part → Form → Type 0
IsTermForm part f = (t : PlainTerm) × IsTerm part f t

-- the form has no place where a term has to stand
abbrev pub IsNoTerm : Part → Form → PddlFault → Type 0
IsNoTerm part f fault = (IsTermForm part f → ⊥) × (fault ≡ Shape (place_of f))

-- what is at fault in the place of an atom: it is no list, or lacks its head; its head is a list, names a
-- feature, or is no predicate; it is an equality and lacks its terms; or one of the forms behind it is no term
abbrev pub IsAtomListFault : Part → ℕ → List Form → PddlFault → Type 0
IsAtomListFault part at [] fault = fault ≡ Shape at
IsAtomListFault part at (Group a inner ∷ forms) fault = fault ≡ Shape a
IsAtomListFault part at (Leaf w ∷ forms) fault =
    ((feature : Feature) × (head_feature part w.text ≡ Some feature) × (fault ≡ Unsupported at feature))
    ⊎ ((head_feature part w.text ≡ None) × (is_predicate part w.text ≡ false) × (fault ≡ Shape w.at))
    ⊎ ((head_feature part w.text ≡ None) × (is_predicate part w.text ≡ true) × (has_enough w.text forms ≡ false) × (fault ≡ Shape at))
    ⊎ ((head_feature part w.text ≡ None) × (is_predicate part w.text ≡ true) × (has_enough w.text forms ≡ true)
    × IsFirstFaulty (IsTermForm part) (IsNoTerm part) forms fault)

abbrev pub IsAtomFault : Part → Form → PddlFault → Type 0
IsAtomFault part (Leaf w) fault = fault ≡ Shape w.at
IsAtomFault part (Group at forms) fault = IsAtomListFault part at (forms_in forms) fault

-- an atom has to stand here, and does
abbrev pub IsAtomForm : Part → Form → Type 0
IsAtomForm part f = (predicate : Word) × (terms : List PlainTerm) × IsAtom part f predicate terms

-- what is at fault behind 'not': that nothing stands there, the first form, or a second one
abbrev pub IsNegationFault : Part → ℕ → List Form → PddlFault → Type 0
IsNegationFault part at [] fault = fault ≡ Shape at
IsNegationFault part at (f ∷ []) fault = IsAtomFault part f fault
IsNegationFault part at (f ∷ g ∷ forms) fault = IsAtomFault part f fault ⊎ (IsAtomForm part f × (fault ≡ Shape (place_of g)))

-- what is at fault in a condition
abbrev mutual
  pub IsConditionFault : Part → Form → PddlFault → Type 0
  IsConditionFault part (Leaf w) fault = fault ≡ Shape w.at
  IsConditionFault part (Group at End) fault = ⊥
  IsConditionFault part (Group at (Then (Group a inner) rest)) fault = fault ≡ Shape a
  IsConditionFault part (Group at (Then (Leaf w) rest)) fault =
      ((w.text ≡ codes "and") × AreConditionsFault part rest fault)
      ⊎ ((w.text ≡ codes "not") × IsTrue (takes_negation part) × IsNegationFault part at (forms_in rest) fault)
      ⊎ ((w.text ≢ codes "and") × (w.text ≡ codes "not" → IsTrue (takes_negation part) → ⊥) × IsAtomFault part (Group at (Then (Leaf w) rest)) fault)

  -- in the first condition that has a fault
  pub AreConditionsFault : Part → Forms → PddlFault → Type 0
  AreConditionsFault part End fault = ⊥
  AreConditionsFault part (Then f rest) fault =
      IsConditionFault part f fault
      ⊎ (((ls : List PlainLiteral) × IsCondition part f ls) × AreConditionsFault part rest fault)

-- what is at fault in a declared predicate
abbrev pub IsPredicateListFault : ℕ → List Form → PddlFault → Type 0
IsPredicateListFault at [] fault = fault ≡ Shape at
IsPredicateListFault at (f ∷ forms) fault = IsNoName f fault ⊎ (IsNameForm f × IsTypedFault Variables at forms fault)

abbrev pub IsPredicateFault : Form → PddlFault → Type 0
IsPredicateFault (Leaf w) fault = fault ≡ Shape w.at
IsPredicateFault (Group at forms) fault = IsPredicateListFault at (forms_in forms) fault

-- what is at fault in a part of an action
abbrev pub IsPartFault : ActionPart → Form → PddlFault → Type 0
IsPartFault Parameters (Leaf w) fault = fault ≡ Shape w.at
IsPartFault Parameters (Group at forms) fault = IsTypedFault Variables at (forms_in forms) fault
IsPartFault PartPrecondition f fault = IsConditionFault Precondition f fault
IsPartFault PartEffect f fault = IsConditionFault Effect f fault

-- what is at fault in the parts of an action, behind parts of these kinds: a form that is no keyword of a
-- part, a part that is given before, a keyword with nothing behind it, or the part
abbrev pub IsPartsRestFault : ℕ → List ActionPart → List Form → PddlFault → Type 0
IsPartsRestFault at given [] fault = ⊥
IsPartsRestFault at given (Group a inner ∷ forms) fault = fault ≡ Shape a
IsPartsRestFault at given (Leaf w ∷ forms) fault =
    (((part : ActionPart) → w.text ≢ part_keyword part) × (fault ≡ Shape w.at))
    ⊎ ((part : ActionPart) × (w.text ≡ part_keyword part)
    × ((Contains given part × (fault ≡ DoubledSection w.at))
    ⊎ ((Contains given part → ⊥) × (forms ≡ []) × (fault ≡ Shape at))
    ⊎ ((Contains given part → ⊥) × (f : Form) × (more : List Form) × (forms ≡ f ∷ more) × IsPartFault part f fault)))

-- what is at fault behind good parts, each of which comes at most once
pub record IsPartsFault (at : ℕ) (forms : List Form) (fault : PddlFault) : Type 0 where
  pub before : List Form
  pub parts : List PartValue
  pub rest : List Form
  pub whole : forms ≡ before ++ rest
  pub good : AreParts before parts
  pub once : AllPairs (λ p q. part_of p ≢ part_of q) parts
  pub fails : IsPartsRestFault at (map part_of parts) rest fault

-- what is at fault in an action
abbrev pub IsActionFault : ℕ → List Form → PddlFault → Type 0
IsActionFault at [] fault = fault ≡ Shape at
IsActionFault at (f ∷ forms) fault = IsNoName f fault ⊎ (IsNameForm f × IsPartsFault at forms fault)

-- what is at fault in the place of a requirement
abbrev pub IsRequirementFault : Form → PddlFault → Type 0
IsRequirementFault (Leaf w) fault =
    ((is_one_of accepted w.text ≡ false) × (is_keyword w.text ≡ true) × (fault ≡ Unsupported w.at Requirement))
    ⊎ ((is_keyword w.text ≡ false) × (fault ≡ Shape w.at))
IsRequirementFault (Group at forms) fault = fault ≡ Shape at

-- what is at fault where one name has to stand, and nothing else, in the list at the place
abbrev pub IsOneNameFault : ℕ → List Form → PddlFault → Type 0
IsOneNameFault at [] fault = fault ≡ Shape at
IsOneNameFault at (f ∷ []) fault = IsNoName f fault
IsOneNameFault at (f ∷ g ∷ forms) fault = IsNoName f fault ⊎ (IsNameForm f × (fault ≡ Shape (place_of g)))

-- what is at fault where one form has to stand, whatever it is
abbrev pub IsOneFormFault : ℕ → List Form → PddlFault → Type 0
IsOneFormFault at [] fault = fault ≡ Shape at
IsOneFormFault at (f ∷ []) fault = ⊥
IsOneFormFault at (f ∷ g ∷ forms) fault = fault ≡ Shape (place_of g)

-- what is at fault in the content of a section at the place
abbrev pub IsContentFault : SectionKind → ℕ → List Form → PddlFault → Type 0
IsContentFault Requirements at forms fault = IsFirstFaulty IsAccepted IsRequirementFault forms fault
IsContentFault Types at forms fault = IsTypedFault Names at forms fault
IsContentFault Constants at forms fault = IsTypedFault Names at forms fault
IsContentFault Predicates at forms fault = IsFirstFaulty (λ f. (p : PlainPredicate) × IsPredicate f p) IsPredicateFault forms fault
IsContentFault Action at forms fault = IsActionFault at forms fault
IsContentFault Domain at forms fault = IsOneNameFault at forms fault
IsContentFault Objects at forms fault = IsTypedFault Names at forms fault
IsContentFault Init at forms fault = IsFirstFaulty (λ f. (l : PlainLiteral) × IsStartAtom f l) (IsAtomFault Start) forms fault
IsContentFault Goal at forms fault = IsOneFormFault at forms fault

-- the kind of sections that the keyword names in the document
abbrev pub IsKeywordOf : Document → List ℕ → SectionKind → Type 0
IsKeywordOf document text kind = Contains (kinds_of document) kind × (text ≡ keyword_of kind)

-- what is at fault in a section at the place, behind sections of these kinds: it lacks its keyword; its
-- head is a list, names a feature, or is no keyword of a section of this document; a section of the kind comes before; or
-- its content
abbrev pub IsSectionListFault : Document → List SectionKind → ℕ → List Form → PddlFault → Type 0
IsSectionListFault document given at [] fault = fault ≡ Shape at
IsSectionListFault document given at (Group a inner ∷ forms) fault = fault ≡ Shape a
IsSectionListFault document given at (Leaf w ∷ forms) fault =
    ((feature : Feature) × (section_feature w.text ≡ Some feature) × (fault ≡ Unsupported at feature))
    ⊎ ((section_feature w.text ≡ None) × ((kind : SectionKind) → IsKeywordOf document w.text kind → ⊥) × (fault ≡ Shape w.at))
    ⊎ ((kind : SectionKind) × IsKeywordOf document w.text kind
    × (((kind ≢ Action) × Contains given kind × (fault ≡ DoubledSection at))
    ⊎ ((kind ≢ Action → Contains given kind → ⊥) × IsContentFault kind at forms fault)))

-- the same of a form in the place of a section
abbrev pub IsSectionFault : Document → List SectionKind → Form → PddlFault → Type 0
IsSectionFault document given (Leaf w) fault = fault ≡ Shape w.at
IsSectionFault document given (Group at forms) fault = IsSectionListFault document given at (forms_in forms) fault

-- what is at fault in the first section that is; those before it belong to the document, and each kind
-- but ':action' comes at most once
pub record IsSectionsFault (document : Document) (forms : List Form) (fault : PddlFault) : Type 0 where
  pub before : List Form
  pub sections : List SectionValue
  pub form : Form
  pub behind : List Form
  pub whole : forms ≡ before ++ form ∷ behind
  pub good : Pairwise IsSection before sections
  pub belong : All (λ s. Contains (kinds_of document) (kind_of s)) sections
  pub once : AllPairs (λ s t. kind_of s ≡ kind_of t → kind_of s ≡ Action) sections
  pub fails : IsSectionFault document (map kind_of sections) form fault

-- the form is '(domain name)' or '(problem name)'
abbrev pub IsHeadForm : Document → Form → Type 0
IsHeadForm document f =
    (at : ℕ) × (head name : Word) × (f ≡ group at (Leaf head ∷ Leaf name ∷ [])) × (head.text ≡ document_word document) × IsNameWord name

-- what is at fault in a list in the place of '(domain name)' or '(problem name)'
abbrev pub IsHeadListFault : Document → ℕ → List Form → PddlFault → Type 0
IsHeadListFault document at [] fault = fault ≡ Shape at
IsHeadListFault document at (Group a inner ∷ forms) fault = fault ≡ Shape a
IsHeadListFault document at (Leaf w ∷ forms) fault =
    ((w.text ≢ document_word document) × (fault ≡ Shape w.at))
    ⊎ ((w.text ≡ document_word document) × IsOneNameFault at forms fault)

abbrev pub IsHeadFault : Document → Form → PddlFault → Type 0
IsHeadFault document (Leaf w) fault = fault ≡ Shape w.at
IsHeadFault document (Group at forms) fault = IsHeadListFault document at (forms_in forms) fault

-- a problem of these sections lacks ':domain' or ':init'
abbrev pub LacksSection : Document → List SectionValue → Type 0
LacksSection OfDomain sections = ⊥
LacksSection OfProblem sections =
    (Contains (map kind_of sections) Domain → ⊥) ⊎ (Contains (map kind_of sections) Init → ⊥)

-- what is at fault in a document at the place
abbrev pub IsDocumentListFault : Document → ℕ → List Form → PddlFault → Type 0
IsDocumentListFault document at [] fault = fault ≡ Shape at
IsDocumentListFault document at (Group a inner ∷ forms) fault = fault ≡ Shape a
IsDocumentListFault document at (Leaf w ∷ []) fault =
    ((w.text ≢ codes "define") × (fault ≡ Shape w.at)) ⊎ ((w.text ≡ codes "define") × (fault ≡ Shape at))
IsDocumentListFault document at (Leaf w ∷ head ∷ forms) fault =
    ((w.text ≢ codes "define") × (fault ≡ Shape w.at))
    ⊎ ((w.text ≡ codes "define") × IsHeadFault document head fault)
    ⊎ ((w.text ≡ codes "define") × IsHeadForm document head × IsSectionsFault document forms fault)
    ⊎ ((name : Word) × (sections : List SectionValue)
    × IsDocument document (group at (Leaf w ∷ head ∷ forms)) name sections × LacksSection document sections × (fault ≡ Shape at))

-- what is at fault in a document; the form of a text is never a word
abbrev pub IsDocumentFault : Document → Form → PddlFault → Type 0
IsDocumentFault document (Leaf w) fault = ⊥
IsDocumentFault document (Group at forms) fault = IsDocumentListFault document at (forms_in forms) fault

-- the text is one list, and what is at fault in it
abbrev pub IsFormFault : Document → List ℕ → PddlFault → Type 0
IsFormFault document text fault = (f : Form) × IsFormOf text f × IsDocumentFault document f fault

-- what is at fault in a text: a byte, a bracket, or an item of its form
abbrev pub IsTextFault : Document → List ℕ → PddlFault → Type 0
IsTextFault document text (Lex at) = IsFirstBad text at
IsTextFault document text (Tree fault) = (fault ≢ TreeMemory) × (tokens : List Token) × AreTokens text tokens × IsFaultOf tokens fault
IsTextFault document text (Shape at) = IsFormFault document text (Shape at)
IsTextFault document text (Unsupported at feature) = IsFormFault document text (Unsupported at feature)
IsTextFault document text (DoubledSection at) = IsFormFault document text (DoubledSection at)
IsTextFault document text OutOfMemory = ⊥

abbrev pub IsDomainFault : List ℕ → PddlFault → Type 0
IsDomainFault text fault = IsTextFault OfDomain text fault

abbrev pub IsProblemFault : List ℕ → PddlFault → Type 0
IsProblemFault text fault = IsTextFault OfProblem text fault
