-- What is known of a domain and a problem that some form spells: each word is of the class that may stand
-- there, and a property of the form's words is one of the value's names.
use Rattle.std.proofs.Common.{ℕ, List, [], sym, subst, codes}
use Rattle.std.specs.Prelude.{All}
use Rattle.std.proofs.lemmas.List.Elements.{All-head, All-weaker}
use Rattle.pddl_reader.specs.Kinds.{Document, OfDomain, OfProblem, Listed, Names, Variables, Part, Precondition, Effect, Start}
use Rattle.pddl_reader.specs.Forms.{Word, Form, Forms, Leaf, Group, End, Then, forms_of}
use Rattle.pddl_reader.specs.Values.{PlainTypedName, PlainLiteral, PlainSchema, PlainPredicate, PlainDomain, PlainProblem}
use Rattle.pddl_reader.specs.Sections.{SectionValue, types_in, constants_in, section_predicates_in, actions_in, domains_in, objects_in, init_in}
use Rattle.pddl_reader.specs.Spelling.{IsDocument, IsDomain, IsProblem}
use Rattle.pddl_reader.specs.Words.{AllWords, AllWordsOf, AllTyped, AllLiteral, AllSchema, AllPredicate, AllDomain, AllProblem}
use Rattle.pddl_reader.proofs.NamesOfValues.{SoundTyped, SoundLiteral, SoundSchema, SoundPredicate, SoundName, SoundDomain, SoundProblem}
use Rattle.pddl_reader.proofs.NamesOfForms.{sections_names, types_names, constants_names, predicates_names, actions_names, domains_names, objects_names, init_names}

module _ (P : List ℕ → Type 0) where
  -- the name and the words of the sections
  document_words : (document : Document) (f : Form) (title : Word) (sections : List SectionValue) (is : IsDocument document f title sections)
      → AllWords P f → P title.text × AllWordsOf P (forms_of is.forms)
  document_words document f title sections is h =
      let inside = subst (AllWords P) is.whole h in
      (inside.1.0.1.0, inside.1.1)

  typed_all : (listed : Listed) (ns : List PlainTypedName) → All (SoundTyped P listed) ns → All (AllTyped P) ns
  typed_all listed ns all = All-weaker (SoundTyped P listed) (AllTyped P) (λ n is. is.named) ns all

  literals_all : (part : Part) (ls : List PlainLiteral) → All (SoundLiteral P part) ls → All (AllLiteral P) ls
  literals_all part ls all = All-weaker (SoundLiteral P part) (AllLiteral P) (λ l is. is.named) ls all

  schema_all : (a : PlainSchema) → SoundSchema P a → AllSchema P a
  schema_all a is = record {
    name = is.named;
    parameters = typed_all Variables a.parameters is.parameters;
    pre = literals_all Precondition a.pre is.pre;
    effect = literals_all Effect a.effect is.effect;
  }

  predicate_all : (p : PlainPredicate) → SoundPredicate P p → AllPredicate P p
  predicate_all p is = record { name = is.named; parameters = typed_all Variables p.parameters is.parameters }

  pub domain_sound : (f : Form) (d : PlainDomain) → P (codes "object") → IsDomain f d → AllWords P f → SoundDomain P d
  domain_sound f d object is h =
      let words = document_words OfDomain f d.name is.sections is.document h in
      let forms = is.document.forms in
      let are = is.document.are_sections in
      record {
        name = (is.document.is_name, words.0);
        types = subst (All (SoundTyped P Names)) (sym is.types)
            (sections_names P (SoundTyped P Names) types_in (types_names P object) forms is.sections are words.1);
        constants = subst (All (SoundTyped P Names)) (sym is.constants)
            (sections_names P (SoundTyped P Names) constants_in (constants_names P object) forms is.sections are words.1);
        predicates = subst (All (SoundPredicate P)) (sym is.predicates)
            (sections_names P (SoundPredicate P) section_predicates_in (predicates_names P object) forms is.sections are words.1);
        actions = subst (All (SoundSchema P)) (sym is.actions)
            (sections_names P (SoundSchema P) actions_in (actions_names P object) forms is.sections are words.1);
      }

  pub problem_sound : (f : Form) (p : PlainProblem) → P (codes "object") → IsProblem f p → AllWords P f → SoundProblem P p
  problem_sound f p object is h =
      let words = document_words OfProblem f p.name is.sections is.document h in
      let forms = is.document.forms in
      let are = is.document.are_sections in
      record {
        name = (is.document.is_name, words.0);
        domain = All-head (SoundName P) p.domain []
            (subst (All (SoundName P)) (sym is.domain)
            (sections_names P (SoundName P) domains_in (domains_names P object) forms is.sections are words.1));
        objects = subst (All (SoundTyped P Names)) (sym is.objects)
            (sections_names P (SoundTyped P Names) objects_in (objects_names P object) forms is.sections are words.1);
        init = subst (All (SoundLiteral P Start)) (sym is.init)
            (sections_names P (SoundLiteral P Start) init_in (init_names P object) forms is.sections are words.1);
      }

  pub names_of_domain : (f : Form) (d : PlainDomain) → P (codes "object") → IsDomain f d → AllWords P f → AllDomain P d
  names_of_domain f d object is h =
      let sound = domain_sound f d object is h in
      record {
        name = sound.name.1;
        types = typed_all Names d.types sound.types;
        constants = typed_all Names d.constants sound.constants;
        predicates = All-weaker (SoundPredicate P) (AllPredicate P) predicate_all d.predicates sound.predicates;
        actions = All-weaker (SoundSchema P) (AllSchema P) schema_all d.actions sound.actions;
      }

  pub names_of_problem : (f : Form) (p : PlainProblem) → P (codes "object") → IsProblem f p → AllWords P f → AllProblem P p
  names_of_problem f p object is h =
      let sound = problem_sound f p object is h in
      record {
        name = sound.name.1;
        domain = sound.domain.1;
        objects = typed_all Names p.objects sound.objects;
        init = literals_all Start p.init sound.init;
      }

-- every form has words, of whatever they are
abbrev pub Anything : List ℕ → Type 0
Anything text = Unit {0}

mutual
  pub any_words : (f : Form) → AllWords Anything f
  any_words (Leaf w) = tt
  any_words (Group at forms) = any_words_of forms

  any_words_of : (forms : Forms) → AllWordsOf Anything forms
  any_words_of End = tt
  any_words_of (Then f rest) = (any_words f, any_words_of rest)
