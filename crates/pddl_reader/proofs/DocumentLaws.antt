-- Sections and documents: what is read is what the forms spell, and a fault is what the definitions of
-- faults say.
use Rattle.std.proofs.Common.{◌≡◌, ◌≢◌, ◌⊎◌, ℕ, Bool, true, false, ◌||◌, List, [], ◌∷◌, ◌++◌, map, append_assoc, append-nil, refl, sym, ap, ap₂, ◌∙◌, subst, inl, inr, Contains, codes, Option, Some, None, Ok, Err}
use Rattle.std.specs.Prelude.{All}
use Rattle.std.specs.List.{list_any, flat_map}
use Rattle.std.specs.Str.{bytes_eq}
use Rattle.std.proofs.lemmas.Bool.{cond-true, cond-false, both_ways, or_left, or_right}
use Rattle.std.proofs.lemmas.List.Elements.{All-nil, All-cons, All-head, All-tail, All-weaker}
use Rattle.std.proofs.lemmas.List.Folds.{Any-from_list_any, list_any-from_Any}
use Rattle.pddl_reader.specs.declared.faults.PddlFault.{PddlFault}
use Rattle.pddl_reader.specs.declared.faults.PddlFault.TheVariants.{Shape, Unsupported, DoubledSection}
use Rattle.pddl_reader.specs.declared.faults.Feature.{Feature}
use Rattle.pddl_reader.specs.declared.kinds.Document.{Document}
use Rattle.pddl_reader.specs.declared.kinds.Document.TheVariants.{Domain as OfDomain, Problem as OfProblem}
use Rattle.pddl_reader.specs.declared.kinds.SectionKind.{SectionKind}
use Rattle.pddl_reader.specs.declared.kinds.SectionKind.TheVariants.{Action, Domain, Init}
use Rattle.pddl_reader.specs.Forms.{Word, Form, Leaf, Group, End, Then, forms_in, forms_of, group}
use Rattle.pddl_reader.specs.Values.{PlainDomain, PlainProblem}
use Rattle.pddl_reader.specs.Classes.{section_feature}
use Rattle.pddl_reader.specs.Typed.{IsNameWord}
use Rattle.pddl_reader.specs.Sections.{Pairwise, SectionValue, HasDomain, IsSection, kind_of, kinds_of, keyword_of, domains_in, objects_in, init_in}
use Rattle.pddl_reader.specs.Spelling.{document_word, IsDocument, IsDomain, IsProblem}
use Rattle.pddl_reader.specs.Faults.{IsSectionFault, IsSectionsFault, IsHeadForm, IsHeadFault, LacksSection, IsDocumentListFault, IsDocumentFault}
use Rattle.pddl_reader.specs.Reading.{Read, and_then, kind_by, same_kind, is_repeated, new_kind, content_in, section_in, section_at, sections_from, one_name, head_at, document_rest, document_in, domain_of, domain_in, problem_of, problem_in}
use Rattle.pddl_reader.proofs.EachLaws.{and_then-Ok, and_then-Err, and_then-from}
use Rattle.pddl_reader.proofs.NameLaws.{choice, same_bytes, bytes_same, other_bytes}
use Rattle.pddl_reader.proofs.TypedLaws.{forms_back, forms_there}
use Rattle.pddl_reader.proofs.KeywordLaws.{Contains-none, Contains-past, kind_by-Some, kind_by-from, kind_by-None, no_feature, same_kind-true, same_kind-from, not_repeated, repeated, not_repeated-from}
use Rattle.pddl_reader.proofs.OnceLaws.{AllPairs-none, AllPairs-head, AreNew, AreOnce, new-cons, once-cons, new-head, new-tail, once-tail}
use Rattle.pddl_reader.proofs.SectionLaws.{made_spells, made_reads, made_faults, one_name_spells, one_name_reads, one_name_faults, content_spells, content_reads, content_faults}

new_kind-Ok : (feature : Option Feature) (o : Option SectionKind) (given : List SectionKind) (at : ℕ) (w : Word) (kind : SectionKind)
    → new_kind feature o given at w ≡ Ok kind → (o ≡ Some kind) × (Contains given kind → kind ≡ Action)
new_kind-Ok (Some feature) o given at w kind h = absurd (cc)
new_kind-Ok None None given at w kind h = absurd (cc)
new_kind-Ok None (Some k) given at w kind h =
    choice (is_repeated k given) (Err (DoubledSection at)) (Ok k) (Ok kind) h ((Some k ≡ Some kind) × (Contains given kind → kind ≡ Action))
    (λ _ no. absurd (cc))
    (λ new e. let same : k ≡ kind = cc in subst (λ x. (Some k ≡ Some x) × (Contains given x → x ≡ Action)) same (refl, not_repeated k given new))

-- what is at fault in the keyword of a section
abbrev IsKindFault : Option Feature → Option SectionKind → List SectionKind → ℕ → Word → PddlFault → Type 0
IsKindFault feature o given at w fault =
    ((f : Feature) × (feature ≡ Some f) × (fault ≡ Unsupported at f))
    ⊎ ((feature ≡ None) × (o ≡ None) × (fault ≡ Shape w.at))
    ⊎ ((kind : SectionKind) × (o ≡ Some kind) × (kind ≢ Action) × Contains given kind × (fault ≡ DoubledSection at))

new_kind-Err : (feature : Option Feature) (o : Option SectionKind) (given : List SectionKind) (at : ℕ) (w : Word) (fault : PddlFault)
    → new_kind feature o given at w ≡ Err fault → IsKindFault feature o given at w fault
new_kind-Err (Some feature) o given at w fault h = inl (feature, refl, cc)
new_kind-Err None None given at w fault h = inr (inl (refl, refl, cc))
new_kind-Err None (Some k) given at w fault h =
    choice (is_repeated k given) (Err (DoubledSection at)) (Ok k) (Err fault) h (IsKindFault None (Some k) given at w fault)
    (λ again e. let both = repeated k given again in inr (inr (k, refl, both.0, both.1, cc)))
    (λ _ no. absurd (cc))

-- the kind that a section's keyword names
abbrev pub kind_read : List SectionKind → List SectionKind → ℕ → Word → Read SectionKind
kind_read kinds given at w = new_kind (section_feature w.text) (kind_by kinds w.text) given at w

new_kind-from : (kinds given : List SectionKind) (at : ℕ) (w : Word) (kind : SectionKind) → w.text ≡ keyword_of kind → Contains kinds kind
    → (Contains given kind → kind ≡ Action) → kind_read kinds given at w ≡ Ok kind
new_kind-from kinds given at w kind is has new =
    ap₂ (λ f o. new_kind f o given at w) (ap section_feature is ∙ no_feature kind) (kind_by-from kinds w.text kind has is)
    ∙ cond-false (is_repeated kind given) (Err (DoubledSection at)) (Ok kind) (not_repeated-from kind given new)

-- a section of the document behind sections of the given kinds
pub record IsSectionBehind (document : Document) (given : List SectionKind) (f : Form) (s : SectionValue) : Type 0 where
  is : IsSection f s
  belongs : Contains (kinds_of document) (kind_of s)
  new : Contains given (kind_of s) → kind_of s ≡ Action

section_spells : (document : Document) (given : List SectionKind) (f : Form) (s : SectionValue)
    → section_at document given f ≡ Ok s → IsSectionBehind document given f s
section_spells document given (Leaf w) s h = absurd (cc)
section_spells document given (Group at End) s h = absurd (cc)
section_spells document given (Group at (Then (Group a inner) rest)) s h = absurd (cc)
section_spells document given (Group at (Then (Leaf w) rest)) s h =
    let kind = and_then-Ok (kind_read (kinds_of document) given at w) (λ kind. content_in kind at (forms_in rest)) s h in
    let named = new_kind-Ok (section_feature w.text) (kind_by (kinds_of document) w.text) given at w kind.0 kind.1 in
    let found = kind_by-Some (kinds_of document) w.text kind.0 named.0 in
    let spelt = content_spells kind.0 at (forms_in rest) s kind.2 in
    let back = sym spelt.0 in
    record {
      is = record {
        at = at;
        head = w;
        forms = forms_in rest;
        whole = ap (λ fs. Group at (Then (Leaf w) fs)) (sym (forms_back rest));
        keyword = found.1 ∙ ap keyword_of back;
        content = spelt.1;
      };
      belongs = subst (Contains (kinds_of document)) back found.0;
      new = subst (λ k. Contains given k → k ≡ Action) back named.1;
    }

pub section_reads : (document : Document) (given : List SectionKind) (f : Form) (s : SectionValue)
    → IsSectionBehind document given f s → section_at document given f ≡ Ok s
section_reads document given f s i =
    let at = i.is.at in
    let w = i.is.head in
    ap (section_at document given) i.is.whole ∙ ap (λ fs. section_in document given at (Leaf w ∷ fs)) (forms_there i.is.forms)
    ∙ and_then-from (kind_read (kinds_of document) given at w) (λ kind. content_in kind at i.is.forms) (kind_of s) (Ok s)
    (new_kind-from (kinds_of document) given at w (kind_of s) i.is.keyword i.belongs i.new) (content_reads at i.is.forms s i.is.content)

section_faults : (document : Document) (given : List SectionKind) (f : Form) (fault : PddlFault)
    → section_at document given f ≡ Err fault → IsSectionFault document given f fault
section_faults document given (Leaf w) fault h = cc
section_faults document given (Group at End) fault h = cc
section_faults document given (Group at (Then (Group a inner) rest)) fault h = cc
section_faults document given (Group at (Then (Leaf w) rest)) fault h =
    elim (and_then-Err (kind_read (kinds_of document) given at w) (λ kind. content_in kind at (forms_in rest)) fault h) [
      | inl e ↦ elim (new_kind-Err (section_feature w.text) (kind_by (kinds_of document) w.text) given at w fault e) [
        | inl unsupported ↦ inl unsupported
        | inr (inl (plain, none, is)) ↦ inr (inl (plain, (λ kind key. kind_by-None (kinds_of document) w.text none kind key.0 key.1), is))
        | inr (inr (kind, some, other, has, is)) ↦ inr (inr (kind, kind_by-Some (kinds_of document) w.text kind some, inl (other, has, is)))
      ]
      | inr (kind, e, k) ↦
          let named = new_kind-Ok (section_feature w.text) (kind_by (kinds_of document) w.text) given at w kind e in
          inr (inr (
            kind,
            kind_by-Some (kinds_of document) w.text kind named.0,
            inr ((λ other has. other (named.1 has)), content_faults kind at (forms_in rest) fault k),
          ))
    ]

-- only actions may come again
abbrev pub IsAgain : SectionKind → Type 0
IsAgain kind = kind ≡ Action

abbrev pub Belongs : Document → SectionValue → Type 0
Belongs document s = Contains (kinds_of document) (kind_of s)

-- sections of the document behind sections of the given kinds
pub record AreSectionsBehind (document : Document) (given : List SectionKind) (forms : List Form) (sections : List SectionValue) : Type 0 where
  pub are_sections : Pairwise IsSection forms sections
  pub belong : All (Belongs document) sections
  pub new : AreNew kind_of IsAgain given sections
  pub once : AreOnce kind_of IsAgain sections

sections-none : (document : Document) (given : List SectionKind) → AreSectionsBehind document given [] []
sections-none document given = record {
  are_sections = tt;
  belong = All-nil (Belongs document);
  new = All-nil (λ s. Contains given (kind_of s) → kind_of s ≡ Action);
  once = AllPairs-none (λ s t. kind_of s ≡ kind_of t → kind_of s ≡ Action);
}

sections-cons : (document : Document) (given : List SectionKind) (f : Form) (forms : List Form) (s : SectionValue) (sections : List SectionValue)
    → IsSectionBehind document given f s → AreSectionsBehind document (given ++ kind_of s ∷ []) forms sections
    → AreSectionsBehind document given (f ∷ forms) (s ∷ sections)
sections-cons document given f forms s sections first rest = record {
  are_sections = (first.is, rest.are_sections);
  belong = All-cons (Belongs document) s sections first.belongs rest.belong;
  new = new-cons kind_of IsAgain given s sections first.new rest.new;
  once = once-cons kind_of IsAgain given s sections rest.new rest.once;
}

pub sections-head : (document : Document) (given : List SectionKind) (f : Form) (forms : List Form) (s : SectionValue) (sections : List SectionValue)
    → AreSectionsBehind document given (f ∷ forms) (s ∷ sections) → IsSectionBehind document given f s
sections-head document given f forms s sections h = record {
  is = h.are_sections.0;
  belongs = All-head (Belongs document) s sections h.belong;
  new = new-head kind_of IsAgain given s sections h.new;
}

pub sections-tail : (document : Document) (given : List SectionKind) (f : Form) (forms : List Form) (s : SectionValue) (sections : List SectionValue)
    → AreSectionsBehind document given (f ∷ forms) (s ∷ sections) → AreSectionsBehind document (given ++ kind_of s ∷ []) forms sections
sections-tail document given f forms s sections h = record {
  are_sections = h.are_sections.1;
  belong = All-tail (Belongs document) s sections h.belong;
  new = new-tail kind_of IsAgain given s sections h.new h.once;
  once = once-tail kind_of IsAgain s sections h.once;
}

-- the sections behind the first
abbrev pub behind_section : Document → List SectionKind → List Form → SectionValue → Read (List SectionValue)
behind_section document given forms section = and_then (sections_from document (given ++ kind_of section ∷ []) forms) (λ more. Ok (section ∷ more))

sections_spells : (document : Document) (given : List SectionKind) (forms : List Form) (sections : List SectionValue)
    → sections_from document given forms ≡ Ok sections
    → AreSectionsBehind document given forms sections
sections_spells document given [] sections h = let same : [] ≡ sections = cc in subst (AreSectionsBehind document given []) same (sections-none document given)
sections_spells document given (f ∷ forms) sections h =
    let first = and_then-Ok (section_at document given f) (behind_section document given forms) sections h in
    let more = made_spells (λ more. first.0 ∷ more) (sections_from document (given ++ kind_of first.0 ∷ []) forms) sections first.2 in
    subst (AreSectionsBehind document given (f ∷ forms)) more.2
    (sections-cons document given f forms first.0 more.0 (section_spells document given f first.0 first.1)
    (sections_spells document (given ++ kind_of first.0 ∷ []) forms more.0 more.1))

sections_reads : (document : Document) (given : List SectionKind) (forms : List Form) (sections : List SectionValue)
    → AreSectionsBehind document given forms sections
    → sections_from document given forms ≡ Ok sections
sections_reads document given [] [] h = refl
sections_reads document given [] (s ∷ sections) h = absurd h.are_sections
sections_reads document given (f ∷ forms) [] h = absurd h.are_sections
sections_reads document given (f ∷ forms) (s ∷ sections) h =
    and_then-from (section_at document given f) (behind_section document given forms) s (Ok (s ∷ sections))
    (section_reads document given f s (sections-head document given f forms s sections h))
    (made_reads (λ more. s ∷ more) (sections_from document (given ++ kind_of s ∷ []) forms) sections
    (sections_reads document (given ++ kind_of s ∷ []) forms sections (sections-tail document given f forms s sections h)))

-- the first faulty section behind sections of the given kinds
record AreSectionsFaultBehind (document : Document) (given : List SectionKind) (forms : List Form) (fault : PddlFault) : Type 0 where
  before : List Form
  sections : List SectionValue
  form : Form
  behind : List Form
  whole : forms ≡ before ++ form ∷ behind
  good : AreSectionsBehind document given before sections
  fails : IsSectionFault document (given ++ map kind_of sections) form fault

sections_faults : (document : Document) (given : List SectionKind) (forms : List Form) (fault : PddlFault)
    → sections_from document given forms ≡ Err fault
    → AreSectionsFaultBehind document given forms fault
sections_faults document given [] fault h = absurd (cc)
sections_faults document given (f ∷ forms) fault h =
    elim (and_then-Err (section_at document given f) (behind_section document given forms) fault h) [
      | inl e ↦ record {
        before = [];
        sections = [];
        form = f;
        behind = forms;
        whole = refl;
        good = sections-none document given;
        fails = subst (λ g. IsSectionFault document g f fault) (sym (append-nil given)) (section_faults document given f fault e);
      }
      | inr (s, e, k) ↦
          later s (section_spells document given f s e)
          (sections_faults document (given ++ kind_of s ∷ []) forms fault
          (made_faults (λ more. s ∷ more) (sections_from document (given ++ kind_of s ∷ []) forms) fault k))
    ]
  where
    later : (s : SectionValue) → IsSectionBehind document given f s → AreSectionsFaultBehind document (given ++ kind_of s ∷ []) forms fault
        → AreSectionsFaultBehind document given (f ∷ forms) fault
    later s first rest = record {
      before = f ∷ rest.before;
      sections = s ∷ rest.sections;
      form = rest.form;
      behind = rest.behind;
      whole = ap (λ fs. f ∷ fs) rest.whole;
      good = sections-cons document given f rest.before s rest.sections first rest.good;
      fails = subst (λ g. IsSectionFault document g rest.form fault) (append_assoc given (kind_of s ∷ []) (map kind_of rest.sections)) rest.fails;
    }

-- the head of a document with its name
abbrev IsHead : Document → Form → Word → Type 0
IsHead document f name =
    (at : ℕ) × (head : Word) × (f ≡ group at (Leaf head ∷ Leaf name ∷ [])) × (head.text ≡ document_word document) × IsNameWord name

head_spells : (document : Document) (f : Form) (name : Word) → head_at document f ≡ Ok name → IsHead document f name
head_spells document (Leaf w) name h = absurd (cc)
head_spells document (Group at End) name h = absurd (cc)
head_spells document (Group at (Then (Group a inner) rest)) name h = absurd (cc)
head_spells document (Group at (Then (Leaf w) rest)) name h =
    choice (bytes_eq (document_word document) w.text) (one_name at (forms_in rest)) (Err (Shape w.at)) (Ok name) h
    (IsHead document (Group at (Then (Leaf w) rest)) name)
    (λ is e. let spelt = one_name_spells at (forms_in rest) name e in
    (at, w, ap (λ fs. Group at (Then (Leaf w) fs)) (sym (forms_back rest) ∙ ap forms_of spelt.0), same_bytes (document_word document) w.text is, spelt.1))
    (λ _ no. absurd (cc))

pub head_reads : (document : Document) (f : Form) (name : Word) → IsHead document f name → head_at document f ≡ Ok name
head_reads document f name (at, head, whole, is, named) =
    ap (head_at document) whole
    ∙ cond-true (bytes_eq (document_word document) head.text) (one_name at (Leaf name ∷ [])) (Err (Shape head.at))
    (bytes_same (document_word document) head.text is)
    ∙ one_name_reads at (Leaf name ∷ []) name refl named

head_faults : (document : Document) (f : Form) (fault : PddlFault) → head_at document f ≡ Err fault → IsHeadFault document f fault
head_faults document (Leaf w) fault h = cc
head_faults document (Group at End) fault h = cc
head_faults document (Group at (Then (Group a inner) rest)) fault h = cc
head_faults document (Group at (Then (Leaf w) rest)) fault h =
    choice (bytes_eq (document_word document) w.text) (one_name at (forms_in rest)) (Err (Shape w.at)) (Err fault) h
    (IsHeadFault document (Group at (Then (Leaf w) rest)) fault)
    (λ is e. inr (same_bytes (document_word document) w.text is, one_name_faults at (forms_in rest) fault e))
    (λ other e. inl (other_bytes (document_word document) w.text other, cc))

-- a document's name and sections
abbrev pub Named : Type 0
Named = Word × List SectionValue

abbrev pub sections_named : Document → List Form → Word → Read Named
sections_named document forms name = and_then (sections_from document [] forms) (λ sections. Ok (name, sections))

document_spells : (document : Document) (at : ℕ) (forms : List Form) (x : Named)
    → document_in document at forms ≡ Ok x → IsDocument document (group at forms) x.0 x.1
document_spells document at [] x h = absurd (cc)
document_spells document at (Group a inner ∷ forms) x h = absurd (cc)
document_spells document at (Leaf w ∷ []) x h =
    choice (bytes_eq (codes "define") w.text) (Err (Shape at)) (Err (Shape w.at)) (Ok x) h (IsDocument document (group at (Leaf w ∷ [])) x.0 x.1)
    (λ _ no. absurd (cc)) (λ _ no. absurd (cc))
document_spells document at (Leaf w ∷ f ∷ forms) x h =
    choice (bytes_eq (codes "define") w.text) (document_rest document at (f ∷ forms)) (Err (Shape w.at)) (Ok x) h
    (IsDocument document (group at (Leaf w ∷ f ∷ forms)) x.0 x.1)
    defined (λ _ no. absurd (cc))
  where
    defined : bytes_eq (codes "define") w.text ≡ true → document_rest document at (f ∷ forms) ≡ Ok x
        → IsDocument document (group at (Leaf w ∷ f ∷ forms)) x.0 x.1
    defined is e =
        let name = and_then-Ok (head_at document f) (sections_named document forms) x e in
        let read = made_spells (λ sections. let named : Named = (name.0, sections) in named) (sections_from document [] forms) x name.2 in
        let head = head_spells document f name.0 name.1 in
        let sections = sections_spells document [] forms read.0 read.1 in
        subst (λ y. IsDocument document (group at (Leaf w ∷ f ∷ forms)) y.0 y.1) read.2 (record {
          at = at;
          define = w;
          head_at = head.0;
          head = head.1;
          forms = forms;
          whole = ap (λ g. group at (Leaf w ∷ g ∷ forms)) head.2;
          defines = same_bytes (codes "define") w.text is;
          is_head = head.3;
          is_name = head.4;
          are_sections = sections.are_sections;
          belong = sections.belong;
          once = sections.once;
        })

pub document_reads : (document : Document) (at : ℕ) (forms : List Form) (name : Word) (sections : List SectionValue)
    → IsDocument document (group at forms) name sections
    → document_in document at forms ≡ Ok (name, sections)
document_reads document at forms name sections i =
    ap (document_in document at) whole
    ∙ cond-true (bytes_eq (codes "define") i.define.text) (document_rest document at (head ∷ i.forms)) (Err (Shape i.define.at))
    (bytes_same (codes "define") i.define.text i.defines)
    ∙ and_then-from (head_at document head) (sections_named document i.forms) name (Ok (name, sections))
    (head_reads document head name (i.head_at, i.head, refl, i.is_head, i.is_name))
    (ap (λ r. and_then r (λ all. Ok (name, all)))
    (sections_reads document [] i.forms sections (record {
      are_sections = i.are_sections;
      belong = i.belong;
      new = λ k d within has. absurd (Contains-none _ has);
      once = i.once;
    })))
  where
    head : Form
    head = group i.head_at (Leaf i.head ∷ Leaf name ∷ [])

    same : forms_of forms ≡ forms_of (Leaf i.define ∷ head ∷ i.forms)
    same = let all = i.whole in cc

    whole : forms ≡ Leaf i.define ∷ head ∷ i.forms
    whole = sym (forms_there forms) ∙ ap forms_in same ∙ forms_there (Leaf i.define ∷ head ∷ i.forms)

document_faults : (document : Document) (at : ℕ) (forms : List Form) (fault : PddlFault)
    → document_in document at forms ≡ Err fault → IsDocumentListFault document at forms fault
document_faults document at [] fault h = cc
document_faults document at (Group a inner ∷ forms) fault h = cc
document_faults document at (Leaf w ∷ []) fault h =
    choice (bytes_eq (codes "define") w.text) (Err (Shape at)) (Err (Shape w.at)) (Err fault) h (IsDocumentListFault document at (Leaf w ∷ []) fault)
    (λ is e. inr (same_bytes (codes "define") w.text is, cc)) (λ other e. inl (other_bytes (codes "define") w.text other, cc))
document_faults document at (Leaf w ∷ f ∷ forms) fault h =
    choice (bytes_eq (codes "define") w.text) (document_rest document at (f ∷ forms)) (Err (Shape w.at)) (Err fault) h
    (IsDocumentListFault document at (Leaf w ∷ f ∷ forms) fault)
    defined (λ other e. inl (other_bytes (codes "define") w.text other, cc))
  where
    named : (name : Word) → head_at document f ≡ Ok name → IsHeadForm document f
    named name e = let head = head_spells document f name e in (head.0, head.1, name, head.2, head.3, head.4)

    sections : AreSectionsFaultBehind document [] forms fault → IsSectionsFault document forms fault
    sections is = record {
      before = is.before;
      sections = is.sections;
      form = is.form;
      behind = is.behind;
      whole = is.whole;
      good = is.good.are_sections;
      belong = is.good.belong;
      once = is.good.once;
      fails = is.fails;
    }

    defined : bytes_eq (codes "define") w.text ≡ true → document_rest document at (f ∷ forms) ≡ Err fault
        → IsDocumentListFault document at (Leaf w ∷ f ∷ forms) fault
    defined is e =
        elim (and_then-Err (head_at document f) (sections_named document forms) fault e) [
          | inl e' ↦ inr (inl (same_bytes (codes "define") w.text is, head_faults document f fault e'))
          | inr (name, e', k) ↦
              inr (inr (inl (
                same_bytes (codes "define") w.text is,
                named name e',
                sections (sections_faults document [] forms fault
                    (made_faults (λ sections. let named : Named = (name, sections) in named) (sections_from document [] forms) fault k)),
              )))
        ]

document_list_fault : (document : Document) (at : ℕ) (forms : List Form) (fault : PddlFault)
    → IsDocumentListFault document at forms fault → IsDocumentFault document (group at forms) fault
document_list_fault document at forms fault h = subst (λ fs. IsDocumentListFault document at fs fault) (sym (forms_there forms)) h

pub domain_spells : (at : ℕ) (forms : List Form) (d : PlainDomain) → domain_in at forms ≡ Ok d → IsDomain (group at forms) d
domain_spells at forms d h =
    let read = made_spells (λ (x : Named). domain_of x.0 x.1) (document_in OfDomain at forms) d h in
    subst (IsDomain (group at forms)) read.2 (record {
      sections = read.0.1;
      document = document_spells OfDomain at forms read.0 read.1;
      types = refl;
      constants = refl;
      predicates = refl;
      actions = refl;
    })

pub domain_reads : (at : ℕ) (forms : List Form) (d : PlainDomain) → IsDomain (group at forms) d → domain_in at forms ≡ Ok d
domain_reads at forms d i =
    made_reads (λ (x : Named). domain_of x.0 x.1) (document_in OfDomain at forms) (d.name, i.sections)
    (document_reads OfDomain at forms d.name i.sections i.document)
    ∙ ap Ok same
  where
    same : domain_of d.name i.sections ≡ d
    same = λ j. record { name = d.name; types = sym i.types j; constants = sym i.constants j; predicates = sym i.predicates j; actions = sym i.actions j }

pub domain_faults : (at : ℕ) (forms : List Form) (fault : PddlFault)
    → domain_in at forms ≡ Err fault → IsDocumentFault OfDomain (group at forms) fault
domain_faults at forms fault h =
    document_list_fault OfDomain at forms fault
    (document_faults OfDomain at forms fault (made_faults (λ (x : Named). domain_of x.0 x.1) (document_in OfDomain at forms) fault h))

-- a section of the kind names one domain, any other none
pub domain_cases : (s : SectionValue)
    → ((kind_of s ≡ Domain) × ((name : Word) × (domains_in s ≡ name ∷ []))) ⊎ ((kind_of s ≢ Domain) × (domains_in s ≡ []))
domain_cases (HasDomain name) = inl (refl, (name, refl))
domain_cases _ = inr ((λ e. absurd (cc)), refl)

no_domains : (sections : List SectionValue) → All (λ s. kind_of s ≢ Domain) sections → flat_map domains_in sections ≡ []
no_domains [] none = refl
no_domains (s ∷ sections) none =
    let rest = no_domains sections (All-tail (λ t. kind_of t ≢ Domain) s sections none) in
    elim (domain_cases s) [
      | inl (is, name) ↦ absurd (All-head (λ t. kind_of t ≢ Domain) s sections none is)
      | inr (other, e) ↦ ap (λ l. l ++ flat_map domains_in sections) e ∙ rest
    ]

lacks_domain : (sections : List SectionValue) → flat_map domains_in sections ≡ [] → Contains (map kind_of sections) Domain → ⊥
lacks_domain [] none has = Contains-none Domain has
lacks_domain (s ∷ sections) none has =
    elim (domain_cases s) [
      | inl (is, (name, e)) ↦
          let all : name ∷ flat_map domains_in sections ≡ [] = ap (λ l. l ++ flat_map domains_in sections) (sym e) ∙ none in absurd (cc)
      | inr (other, e) ↦
          lacks_domain sections (ap (λ l. l ++ flat_map domains_in sections) (sym e) ∙ none) (Contains-past (kind_of s) (map kind_of sections) Domain other has)
    ]

one_domain : (sections : List SectionValue)
    → AreOnce kind_of IsAgain sections → (domain : Word) (more : List Word) → flat_map domains_in sections ≡ domain ∷ more → more ≡ []
one_domain [] once domain more h = absurd (cc)
one_domain (s ∷ sections) once domain more h =
    elim (domain_cases s) [
      | inl (is, (name, e)) ↦
          let all : name ∷ flat_map domains_in sections ≡ domain ∷ more = ap (λ l. l ++ flat_map domains_in sections) (sym e) ∙ h in
          let none : flat_map domains_in sections ≡ [] = no_domains sections (others is) in
          cc
      | inr (other, e) ↦ one_domain sections (once-tail kind_of IsAgain s sections once) domain more (ap (λ l. l ++ flat_map domains_in sections) (sym e) ∙ h)
    ]
  where
    others : kind_of s ≡ Domain → All (λ t. kind_of t ≢ Domain) sections
    others is =
        All-weaker (λ t. kind_of s ≡ kind_of t → kind_of s ≡ Action) (λ t. kind_of t ≢ Domain)
        (λ t again e. let same : kind_of s ≡ Action = again (is ∙ sym e) in absurd (cc))
        sections (AllPairs-head (λ t u. kind_of t ≡ kind_of u → kind_of t ≡ Action) s sections once)

abbrev pub has_init : List SectionValue → Bool
has_init sections = list_any (λ s. same_kind (kind_of s) Init) sections

has_init-from : (sections : List SectionValue) → Contains (map kind_of sections) Init → has_init sections ≡ true
has_init-from [] has = absurd (Contains-none Init has)
has_init-from (s ∷ sections) has = each (same_kind (kind_of s) Init) refl (has_init-from sections)
  where
    each : (b : Bool) → same_kind (kind_of s) Init ≡ b → (Contains (map kind_of sections) Init → has_init sections ≡ true)
        → (same_kind (kind_of s) Init || has_init sections) ≡ true
    each true e rest = or_left (same_kind (kind_of s) Init) (has_init sections) e
    each false e rest =
        or_right (same_kind (kind_of s) Init) (has_init sections)
        (rest (Contains-past (kind_of s) (map kind_of sections) Init
        (λ is. both_ways (same_kind (kind_of s) Init) e (same_kind-from (kind_of s) Init is)) has))

abbrev pub problem_with : Word → Word → List SectionValue → PlainProblem
problem_with name domain sections = record { name = name; domain = domain; objects = flat_map objects_in sections; init = flat_map init_in sections }

problem_of_spells : (at : ℕ) (forms : List Form) (name : Word) (sections : List SectionValue) (domains : List Word) (p : PlainProblem)
    → IsDocument OfProblem (group at forms) name sections → flat_map domains_in sections ≡ domains → problem_of at name domains sections ≡ Ok p
    → IsProblem (group at forms) p
problem_of_spells at forms name sections [] p document are h = absurd (cc)
problem_of_spells at forms name sections (domain ∷ more) p document are h =
    choice (has_init sections) (Ok (problem_with name domain sections)) (Err (Shape at)) (Ok p) h (IsProblem (group at forms) p)
    (λ has e. let same : problem_with name domain sections ≡ p = cc in given has same)
    (λ _ no. absurd (cc))
  where
    given : has_init sections ≡ true → problem_with name domain sections ≡ p → IsProblem (group at forms) p
    given has same =
        let found = Any-from_list_any (λ s. same_kind (kind_of s) Init) sections has in
        subst (IsProblem (group at forms)) same (record {
          sections = sections;
          document = document;
          domain = ap (λ l. domain ∷ l) (sym (one_domain sections document.once domain more are)) ∙ sym are;
          objects = refl;
          init = refl;
          starts = (found.0, found.1, found.2, found.3, same_kind-true (kind_of found.1) Init found.4);
        })

pub problem_spells : (at : ℕ) (forms : List Form) (p : PlainProblem) → problem_in at forms ≡ Ok p → IsProblem (group at forms) p
problem_spells at forms p h =
    let read = and_then-Ok (document_in OfProblem at forms) (λ (x : Named). problem_of at x.0 (flat_map domains_in x.1) x.1) p h in
    problem_of_spells at forms read.0.0 read.0.1 (flat_map domains_in read.0.1) p (document_spells OfProblem at forms read.0 read.1) refl read.2

pub problem_reads : (at : ℕ) (forms : List Form) (p : PlainProblem) → IsProblem (group at forms) p → problem_in at forms ≡ Ok p
problem_reads at forms p i =
    and_then-from (document_in OfProblem at forms) (λ (x : Named). problem_of at x.0 (flat_map domains_in x.1) x.1) (p.name, i.sections) (Ok p)
    (document_reads OfProblem at forms p.name i.sections i.document)
    (ap (λ domains. problem_of at p.name domains i.sections) (sym i.domain)
    ∙ cond-true (has_init i.sections) (Ok (problem_with p.name p.domain i.sections)) (Err (Shape at)) starts ∙ ap Ok same)
  where
    starts : has_init i.sections ≡ true
    starts =
        let found = i.starts in
        list_any-from_Any (λ s. same_kind (kind_of s) Init) i.sections
        (found.0, found.1, found.2, found.3, same_kind-from (kind_of found.1) Init found.4)

    same : problem_with p.name p.domain i.sections ≡ p
    same = λ j. record { name = p.name; domain = p.domain; objects = sym i.objects j; init = sym i.init j }

-- a document that lacks a section
lacks_faults : (at : ℕ) (forms : List Form) (name : Word) (sections : List SectionValue) (fault : PddlFault)
    → IsDocument OfProblem (group at forms) name sections → LacksSection OfProblem sections → fault ≡ Shape at → IsDocumentListFault OfProblem at forms fault
lacks_faults at [] name sections fault i lacks is = is
lacks_faults at (Group a inner ∷ forms) name sections fault i lacks is = let whole = i.whole in absurd (cc)
lacks_faults at (Leaf w ∷ []) name sections fault i lacks is = let whole = i.whole in absurd (cc)
lacks_faults at (Leaf w ∷ f ∷ forms) name sections fault i lacks is = inr (inr (inr (name, sections, i, lacks, is)))

problem_of_faults : (at : ℕ) (name : Word) (sections : List SectionValue) (domains : List Word) (fault : PddlFault)
    → flat_map domains_in sections ≡ domains → problem_of at name domains sections ≡ Err fault → LacksSection OfProblem sections × (fault ≡ Shape at)
problem_of_faults at name sections [] fault are h = (inl (lacks_domain sections are), cc)
problem_of_faults at name sections (domain ∷ more) fault are h =
    choice (has_init sections) (Ok (problem_with name domain sections)) (Err (Shape at)) (Err fault) h (LacksSection OfProblem sections × (fault ≡ Shape at))
    (λ _ no. absurd (cc))
    (λ none e. (inr (λ has. both_ways (has_init sections) none (has_init-from sections has)), cc))

pub problem_faults : (at : ℕ) (forms : List Form) (fault : PddlFault)
    → problem_in at forms ≡ Err fault → IsDocumentFault OfProblem (group at forms) fault
problem_faults at forms fault h =
    elim (and_then-Err (document_in OfProblem at forms) (λ (x : Named). problem_of at x.0 (flat_map domains_in x.1) x.1) fault h) [
      | inl e ↦ document_list_fault OfProblem at forms fault (document_faults OfProblem at forms fault e)
      | inr (x, e, k) ↦
          let lacks = problem_of_faults at x.0 x.1 (flat_map domains_in x.1) fault refl k in
          document_list_fault OfProblem at forms fault (lacks_faults at forms x.0 x.1 fault (document_spells OfProblem at forms x e) lacks.0 lacks.1)
    ]
