-- Sections, one behind the other, and the documents of them.
use Rattle.std.proofs.Common.{◌≡◌, ℕ, false, cond, List, [], ◌∷◌, ◌++◌, map, Option, Some, None, Ok, Err, refl, sym, ap, ◌∙◌, append-nil}
use Rattle.std.proofs.lemmas.List.{map-append}
use Rattle.pddl_reader.specs.declared.document.Sections.{Sections}
use Rattle.pddl_reader.specs.declared.faults.Feature.{Feature}
use Rattle.pddl_reader.specs.declared.faults.PddlFault.{PddlFault}
use Rattle.pddl_reader.specs.declared.faults.PddlFault.TheVariants.{DoubledSection}
use Rattle.pddl_reader.specs.declared.kinds.Document.{Document}
use Rattle.pddl_reader.specs.declared.kinds.SectionKind.{SectionKind}
use Rattle.pddl_reader.specs.declared.kinds.SectionKind.TheVariants.{Requirements, Types, Constants, Predicates, Action, Domain, Objects, Init, Goal}
use Rattle.pddl_reader.specs.Classes.{section_feature}
use Rattle.pddl_reader.specs.Forms.{Word, Form, Leaf, Group, forms_in}
use Rattle.pddl_reader.specs.Kept.{KeepsValues, KeepsSections, AddsSection}
use Rattle.pddl_reader.specs.Reading.{Read, and_then, kind_by, is_repeated, new_kind, content_in, section_in, section_at, sections_from}
use Rattle.pddl_reader.specs.Sections.{SectionValue, HasRequirements, HasTypes, HasConstants, HasPredicates, HasAction, HasDomain, HasObjects, HasInit, HasGoal, kind_of, kinds_of}
use Rattle.pddl_reader.specs.Steps.{behind}
use Rattle.pddl_reader.proofs.ReadLemmas.{behind-nothing, behind-push}

-- a section's value is of the kind of its content
kind_from : {A : Type 0} (read : Read A) (value : A → SectionValue) (kind : SectionKind) (s : SectionValue) → ((x : A) → kind_of (value x) ≡ kind) → and_then read (λ x. Ok (value x)) ≡ Ok s → kind_of s ≡ kind
kind_from (Ok x) value kind s same e = let is : value x ≡ s = cc in ap kind_of (sym is) ∙ same x
kind_from (Err fault) value kind s same e = cc

pub content_kind : (kind : SectionKind) (at : ℕ) (forms : List Form) (s : SectionValue) → content_in kind at forms ≡ Ok s → kind_of s ≡ kind
content_kind Requirements at forms s e = kind_from _ (λ _. HasRequirements) Requirements s (λ x. refl) e
content_kind Types at forms s e = kind_from _ HasTypes Types s (λ x. refl) e
content_kind Constants at forms s e = kind_from _ HasConstants Constants s (λ x. refl) e
content_kind Predicates at forms s e = kind_from _ HasPredicates Predicates s (λ x. refl) e
content_kind Action at forms s e = kind_from _ HasAction Action s (λ x. refl) e
content_kind Domain at forms s e = kind_from _ HasDomain Domain s (λ x. refl) e
content_kind Objects at forms s e = kind_from _ HasObjects Objects s (λ x. refl) e
content_kind Init at forms s e = kind_from _ HasInit Init s (λ x. refl) e
content_kind Goal at forms s e = kind_from _ (λ _. HasGoal) Goal s (λ x. refl) e

-- of the kinds that come before it counts only which may not come again
new_kind_same : (feature : Option Feature) (kind : Option SectionKind) (given kinds : List SectionKind) (at : ℕ) (w : Word) → ((k : SectionKind) → is_repeated k given ≡ is_repeated k kinds)
    → new_kind feature kind given at w ≡ new_kind feature kind kinds at w
new_kind_same (Some feature) kind given kinds at w same = refl
new_kind_same None None given kinds at w same = refl
new_kind_same None (Some kind) given kinds at w same = ap (λ b. cond b (Err (DoubledSection at)) (Ok kind)) (same kind)

section_in_same : (document : Document) (given kinds : List SectionKind) (at : ℕ) (forms : List Form) → ((k : SectionKind) → is_repeated k given ≡ is_repeated k kinds)
    → section_in document given at forms ≡ section_in document kinds at forms
section_in_same document given kinds at [] same = refl
section_in_same document given kinds at (Group a inner ∷ forms) same = refl
section_in_same document given kinds at (Leaf w ∷ forms) same =
    ap (λ r. and_then r (λ kind. content_in kind at forms)) (new_kind_same (section_feature w.text) (kind_by (kinds_of document) w.text) given kinds at w same)

section_at_same : (document : Document) (given kinds : List SectionKind) (f : Form) → ((k : SectionKind) → is_repeated k given ≡ is_repeated k kinds) → section_at document given f ≡ section_at document kinds f
section_at_same document given kinds (Leaf w) same = refl
section_at_same document given kinds (Group at forms) same = section_in_same document given kinds at (forms_in forms) same

-- a section is read
pub section_read : (document : Document) (given : List SectionKind) (at : ℕ) (forms rest : List Form) (w : Word) (kind : SectionKind) (s : SectionValue) → forms ≡ Leaf w ∷ rest
    → new_kind (section_feature w.text) (kind_by (kinds_of document) w.text) given at w ≡ Ok kind → content_in kind at rest ≡ Ok s → section_in document given at forms ≡ Ok s
section_read document given at forms rest w kind s whole named content =
    ap (section_in document given at) whole ∙ ap (λ r. and_then r (λ k. content_in k at rest)) named ∙ content

pub adds_section : (old new : Sections) (s : SectionValue) (kind : SectionKind) → kind_of s ≡ kind → is_repeated kind old.given.items ≡ false
    → ((seen : List SectionValue) → KeepsValues seen old.values → is_repeated (kind_of s) (map kind_of seen) ≡ false → KeepsValues (seen ++ s ∷ []) new.values)
    → ((other : SectionKind) (kinds : List SectionKind) → is_repeated other old.given.items ≡ is_repeated other kinds → is_repeated other new.given.items ≡ is_repeated other (kinds ++ kind ∷ []))
    → AddsSection old s new
adds_section old new s kind is fresh puts gives = λ seen h. record {
  given = λ other. gives other (map kind_of seen) (h.given other) ∙ ap (is_repeated other) (ap (λ k. map kind_of seen ++ k ∷ []) (sym is) ∙ sym (map-append kind_of seen (s ∷ [])));
  values = puts seen h.values (ap (λ k. is_repeated k (map kind_of seen)) is ∙ sym (h.given kind) ∙ fresh);
}

-- the forms are read up to the rest
pub record ReadsSections (document : Document) (forms : List Form) (s : Sections) (rest : List Form) : Type 0 where
  pub seen : List SectionValue
  pub keeps : KeepsSections seen s
  pub same : sections_from document [] forms ≡ behind seen (sections_from document (map kind_of seen) rest)

pub no_section : (document : Document) (forms : List Form) (s : Sections) → KeepsSections [] s → ReadsSections document forms s forms
no_section document forms s h = record { seen = []; keeps = h; same = sym (behind-nothing (sections_from document [] forms)) }

pub next_section : (document : Document) (forms rest : List Form) (f : Form) (old new : Sections) (s : SectionValue) → ReadsSections document forms old (f ∷ rest)
    → section_at document old.given.items f ≡ Ok s → AddsSection old s new → ReadsSections document forms new rest
next_section document forms rest f old new s h read adds =
    let kinds = map kind_of h.seen in
    let here = sym (section_at_same document old.given.items kinds f h.keeps.given) ∙ read in
    record {
      seen = h.seen ++ s ∷ [];
      keeps = adds h.seen h.keeps;
      same =
          h.same
          ∙ ap (λ r. behind h.seen (and_then r (λ t. and_then (sections_from document (kinds ++ kind_of t ∷ []) rest) (λ more. Ok (t ∷ more))))) here
          ∙ behind-push h.seen s (sections_from document (kinds ++ kind_of s ∷ []) rest)
          ∙ ap (λ ks. behind (h.seen ++ s ∷ []) (sections_from document ks rest)) (sym (map-append kind_of h.seen (s ∷ [])));
    }

pub section_fault : (document : Document) (forms rest : List Form) (f : Form) (old : Sections) (fault : PddlFault) → ReadsSections document forms old (f ∷ rest)
    → section_at document old.given.items f ≡ Err fault → sections_from document [] forms ≡ Err fault
section_fault document forms rest f old fault h read =
    let kinds = map kind_of h.seen in
    let here = sym (section_at_same document old.given.items kinds f h.keeps.given) ∙ read in
    h.same ∙ ap (λ r. behind h.seen (and_then r (λ t. and_then (sections_from document (kinds ++ kind_of t ∷ []) rest) (λ more. Ok (t ∷ more))))) here

pub sections_end : (document : Document) (forms : List Form) (s : Sections) → ReadsSections document forms s []
    → (seen : List SectionValue) × (sections_from document [] forms ≡ Ok seen) × KeepsValues seen s.values
sections_end document forms s h = (h.seen, h.same ∙ ap Ok (append-nil h.seen), h.keeps.values)
