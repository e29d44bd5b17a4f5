-- When a text spells a domain or a problem. The relation goes from the value to its texts. The names of
-- a value have the places that they have in the text; an 'object' that is not written has its element's.
use Rattle.std.specs.Prelude.{◌≡◌, ℕ, List, [], ◌∷◌, codes, All, Any, AllPairs, Contains}
use Rattle.std.specs.List.{flat_map}
use Rattle.pddl_lexer.specs.declared.token.Token.{Token}
use Rattle.pddl_lexer.specs.declared.trees.TreeList.{TreeList}
use Rattle.pddl_lexer.specs.Tokens.{AreTokens}
use Rattle.pddl_lexer.specs.Brackets.{IsOneList}
use Rattle.pddl_lexer.specs.Trees.{IsTreeOf}
use Rattle.pddl_reader.specs.Forms.{Word, Form, Leaf, group, form_of}
use Rattle.pddl_reader.specs.Values.{PlainDomain, PlainProblem}
use Rattle.pddl_reader.specs.Typed.{IsNameWord}
use Rattle.pddl_reader.specs.Sections.{Pairwise, SectionValue, IsSection, kind_of, kinds_of, types_in, constants_in, section_predicates_in, actions_in, domains_in, objects_in, init_in}
use Rattle.pddl_reader.specs.declared.kinds.Document.{Document}
use Rattle.pddl_reader.specs.declared.kinds.Document.TheVariants.{Domain as OfDomain, Problem as OfProblem}
use Rattle.pddl_reader.specs.declared.kinds.SectionKind.TheVariants.{Action, Init}

abbrev pub document_word : Document → List ℕ
document_word OfDomain = codes "domain"
document_word OfProblem = codes "problem"

-- the form is a document of this name with these sections: '(define (domain name) section ..)'. They are
-- sections that such a document may have, and each kind but ':action' comes at most once
pub record IsDocument (document : Document) (f : Form) (name : Word) (sections : List SectionValue) : Type 0 where
  pub at : ℕ
  pub define : Word
  pub head_at : ℕ
  pub head : Word
  pub forms : List Form
  pub whole : f ≡ group at (Leaf define ∷ group head_at (Leaf head ∷ Leaf name ∷ []) ∷ forms)
  pub defines : define.text ≡ codes "define"
  pub is_head : head.text ≡ document_word document
  pub is_name : IsNameWord name
  pub are_sections : Pairwise IsSection forms sections
  pub belong : All (λ s. Contains (kinds_of document) (kind_of s)) sections
  pub once : AllPairs (λ s t. kind_of s ≡ kind_of t → kind_of s ≡ Action) sections

pub record IsDomain (f : Form) (d : PlainDomain) : Type 0 where
  pub sections : List SectionValue
  pub document : IsDocument OfDomain f d.name sections
  pub types : d.types ≡ flat_map types_in sections
  pub constants : d.constants ≡ flat_map constants_in sections
  pub predicates : d.predicates ≡ flat_map section_predicates_in sections
  pub actions : d.actions ≡ flat_map actions_in sections

-- a problem has the sections ':domain' and ':init'
pub record IsProblem (f : Form) (p : PlainProblem) : Type 0 where
  pub sections : List SectionValue
  pub document : IsDocument OfProblem f p.name sections
  pub domain : p.domain ∷ [] ≡ flat_map domains_in sections
  pub objects : p.objects ≡ flat_map objects_in sections
  pub init : p.init ≡ flat_map init_in sections
  pub starts : Any (λ s. kind_of s ≡ Init) sections

-- the text's words and brackets are those of one list, which is this form
pub record IsFormOf (text : List ℕ) (f : Form) : Type 0 where
  pub tokens : List Token
  pub tree : TreeList
  pub are_tokens : AreTokens text tokens
  pub one_list : IsOneList tokens
  pub is_tree : IsTreeOf tokens tree
  pub form : f ≡ form_of text tree

pub record IsDomainText (text : List ℕ) (d : PlainDomain) : Type 0 where
  pub form : Form
  pub is_form : IsFormOf text form
  pub is_domain : IsDomain form d

pub record IsProblemText (text : List ℕ) (p : PlainProblem) : Type 0 where
  pub form : Form
  pub is_form : IsFormOf text form
  pub is_problem : IsProblem form p
