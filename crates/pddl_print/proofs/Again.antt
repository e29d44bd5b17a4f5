-- Domains and problems that are spelled again: a form that differs from a value's canonical one in places
-- alone spells a value that differs from it in places alone.
use Rattle.std.proofs.Common.{◌≡◌, ℕ, List, [], ◌∷◌, ◌++◌, zero, map, refl, sym, ap, ◌∙◌, subst, arith, append-nil, append_assoc, codes}
use Rattle.std.specs.Prelude.{IsTrue, All, Any, AllPairs, Contains}
use Rattle.std.specs.List.{flat_map}
use Rattle.std.proofs.lemmas.List.Elements.{All-nil, All-cons}
use Rattle.std.proofs.lemmas.List.Kept.{AllPairs-cons}
use Rattle.pddl_reader.specs.Kinds.{Document, OfDomain, OfProblem, Names, Start, Init}
use Rattle.pddl_reader.specs.Forms.{Word, Form, Leaf, group}
use Rattle.pddl_reader.specs.Values.{PlainTypedName, PlainLiteral, PlainPredicate, PlainSchema, PlainDomain, PlainProblem}
use Rattle.pddl_reader.specs.Places.{unplaced_typed, unplaced_literal, unplaced_predicate, unplaced_schema, IsSameDomain, IsSameProblem}
use Rattle.pddl_reader.specs.Classes.{is_one_of, accepted}
use Rattle.pddl_reader.specs.Typed.{IsNameWord, IsTypedList}
use Rattle.pddl_reader.specs.Conditions.{IsStartAtom}
use Rattle.pddl_reader.specs.Sections.{Pairwise, IsPredicate, SectionValue, HasRequirements, HasTypes, HasConstants, HasPredicates, HasAction, HasDomain, HasObjects, HasInit, HasGoal, kind_of, kinds_of, keyword_of, IsContent, IsSection, types_in, constants_in, section_predicates_in, actions_in, domains_in, objects_in, init_in}
use Rattle.pddl_reader.specs.Spelling.{document_word, IsDocument, IsDomain, IsProblem}
use Rattle.pddl_reader.proofs.OnceLaws.{AllPairs-none}
use Rattle.pddl_print.specs.Layouts.{unplaced_form}
use Rattle.pddl_print.specs.Canonical.{requirements}
use Rattle.pddl_print.specs.CanonicalForms.{word, name_form, type_form, typed_forms, literal_form, condition_form, predicate_form, action_form, section_forms, requirements_form, domain_form, problem_form}
use Rattle.pddl_reader.proofs.NamesOfValues.{SoundTyped, SoundLiteral, SoundSchema, SoundPredicate, SoundDomain, SoundProblem}
use Rattle.pddl_reader.proofs.NamesOf.{domain_sound, problem_sound, Anything, any_words}
use Rattle.pddl_print.proofs.Required.{all_requirements}
use Rattle.pddl_print.proofs.AgainForms.{group_again, word_first, form_first, group_first, none_again, both_again, each_again, pairs_both, pairs_map}
use Rattle.pddl_print.proofs.AgainValues.{same_name, typed_again, start_again}
use Rattle.pddl_print.proofs.AgainSections.{accepted_again, predicate_again, action_again, section_of, SectionAgain, no_section, some_section, section_gives, section_skips, section_all, section_once, section_any, actions_all, actions_skip, Apart, actions_once}

-- a section of a typed list of names
module _ (make : List PlainTypedName → SectionValue) (keyword : List ℕ) (keyed : (ns : List PlainTypedName) → keyword ≡ keyword_of (kind_of (make ns)))
    (content : (forms : List Form) (ns : List PlainTypedName) → IsTypedList Names forms ns → IsContent forms (make ns)) where
  names_section : (ns : List PlainTypedName) (gs : List Form) → All (SoundTyped Anything Names) ns
      → map unplaced_form gs ≡ section_forms keyword (flat_map typed_forms ns) → SectionAgain unplaced_typed make keyword keyed gs ns
  names_section [] gs all e = no_section unplaced_typed make keyword keyed gs e
  names_section (n ∷ ns) gs all e =
      some_section unplaced_typed make keyword keyed n ns (name_form n.name) (word (codes "-") ∷ type_form n.types ∷ flat_map typed_forms ns) gs
      (λ inner same. let again = typed_again Anything Names (n ∷ ns) inner all same in (again.0, content inner again.0 again.1, again.2)) e

-- the section of predicates
predicates_section : (ps : List PlainPredicate) (gs : List Form) → All (SoundPredicate Anything) ps
    → map unplaced_form gs ≡ section_forms (codes ":predicates") (map predicate_form ps)
    → SectionAgain unplaced_predicate HasPredicates (codes ":predicates") (λ ps. refl) gs ps
predicates_section [] gs all e = no_section unplaced_predicate HasPredicates (codes ":predicates") (λ ps. refl) gs e
predicates_section (p ∷ ps) gs all e =
    some_section unplaced_predicate HasPredicates (codes ":predicates") (λ ps. refl) p ps (predicate_form p) (map predicate_form ps) gs
    (λ inner same. each_again predicate_form unplaced_predicate IsPredicate (SoundPredicate Anything) (predicate_again Anything) (p ∷ ps) inner all same) e

-- the beginning of a document, and the forms of its sections
record Opened (document : Document) (g : Form) (title : Word) (sections : List Form) : Type 0 where
  name : Word
  forms : List Form
  same : name.text ≡ title.text
  behind : map unplaced_form forms ≡ sections
  spells : (values : List SectionValue) → Pairwise IsSection forms values → All (λ s. Contains (kinds_of document) (kind_of s)) values
      → AllPairs Apart values → IsDocument document g name values

opened : (document : Document) (g : Form) (title : Word) (sections : List Form) → IsNameWord title
    → unplaced_form g ≡ group 0 (word (codes "define") ∷ group 0 (word (document_word document) ∷ name_form title ∷ []) ∷ sections)
    → Opened document g title sections
opened document g title sections is e =
    let inside = word (document_word document) ∷ name_form title ∷ [] in
    let whole = group_again g (word (codes "define") ∷ group 0 inside ∷ sections) e in
    let define = word_first whole.1 (codes "define") (group 0 inside ∷ sections) whole.3 in
    let head = group_first define.rest inside sections define.behind in
    let kind = word_first head.inner (document_word document) (name_form title ∷ []) head.inside in
    let name = word_first kind.rest title.text [] kind.behind in
    let in_head : head.inner ≡ Leaf kind.first ∷ Leaf name.first ∷ [] = cc (kind.whole, name.whole, none_again name.rest name.behind) in
    record {
      name = name.first;
      forms = head.rest;
      same = name.same;
      behind = head.behind;
      spells = λ values are belong once. record {
        at = whole.0;
        define = define.first;
        head_at = head.at;
        head = kind.first;
        forms = head.rest;
        whole = cc (whole.2, define.whole, head.whole, in_head);
        defines = define.same;
        is_head = kind.same;
        is_name = same_name name.first title name.same is;
        are_sections = are;
        belong = belong;
        once = once;
      };
    }

-- the sections of a domain in their canonical order
module _ (types constants : List PlainTypedName) (predicates : List PlainPredicate) (actions : List PlainSchema) where
  abbrev behind_constants : List SectionValue
  behind_constants = section_of HasPredicates predicates ++ map HasAction actions

  abbrev behind_types : List SectionValue
  behind_types = section_of HasConstants constants ++ behind_constants

  abbrev behind_requirements : List SectionValue
  behind_requirements = section_of HasTypes types ++ behind_types

  abbrev domain_sections : List SectionValue
  domain_sections = HasRequirements ∷ behind_requirements

  abbrev BelongsTo : SectionValue → Type 0
  BelongsTo s = Contains (kinds_of OfDomain) (kind_of s)

  domain_all : (Q : SectionValue → Type 0) → Q HasRequirements → ((ns : List PlainTypedName) → Q (HasTypes ns)) → ((ns : List PlainTypedName) → Q (HasConstants ns))
      → ((ps : List PlainPredicate) → Q (HasPredicates ps)) → ((a : PlainSchema) → Q (HasAction a)) → All Q domain_sections
  domain_all Q requirements of_types of_constants of_predicates of_actions =
      All-cons Q HasRequirements behind_requirements requirements
      (section_all HasTypes behind_types Q of_types
      (section_all HasConstants behind_constants Q of_constants
      (section_all HasPredicates (map HasAction actions) Q of_predicates (actions_all Q of_actions actions) predicates) constants) types)

  domain_belong : All BelongsTo domain_sections
  domain_belong =
      domain_all BelongsTo (zero, omega arith, refl) (λ ns. (1, omega arith, refl)) (λ ns. (2, omega arith, refl)) (λ ps. (3, omega arith, refl))
      (λ a. (4, omega arith, refl))

  domain_once : AllPairs Apart domain_sections
  domain_once =
      AllPairs-cons Apart HasRequirements behind_requirements
      (section_all HasTypes behind_types (Apart HasRequirements) (λ ns e. absurd (cc))
      (section_all HasConstants behind_constants (Apart HasRequirements) (λ ns e. absurd (cc))
      (section_all HasPredicates (map HasAction actions) (Apart HasRequirements) (λ ps e. absurd (cc))
      (actions_all (Apart HasRequirements) (λ a e. absurd (cc)) actions) predicates) constants) types)
      (section_once HasTypes behind_types Apart
      (λ ns. section_all HasConstants behind_constants (Apart (HasTypes ns)) (λ ms e. absurd (cc))
      (section_all HasPredicates (map HasAction actions) (Apart (HasTypes ns)) (λ ps e. absurd (cc))
      (actions_all (Apart (HasTypes ns)) (λ a e. absurd (cc)) actions) predicates) constants)
      (section_once HasConstants behind_constants Apart
      (λ ns. section_all HasPredicates (map HasAction actions) (Apart (HasConstants ns)) (λ ps e. absurd (cc))
      (actions_all (Apart (HasConstants ns)) (λ a e. absurd (cc)) actions) predicates)
      (section_once HasPredicates (map HasAction actions) Apart
      (λ ps. actions_all (Apart (HasPredicates ps)) (λ a e. absurd (cc)) actions) (actions_once actions) predicates) constants) types)

  gives_types : types ≡ flat_map types_in domain_sections
  gives_types =
      sym (section_gives HasTypes behind_types types_in (λ ns. refl) types
      ∙ ap (λ l. types ++ l)
      (section_skips HasConstants behind_constants types_in (λ ns. refl) constants
      ∙ section_skips HasPredicates (map HasAction actions) types_in (λ ps. refl) predicates ∙ actions_skip types_in (λ a. refl) actions)
      ∙ append-nil types)

  gives_constants : constants ≡ flat_map constants_in domain_sections
  gives_constants =
      sym (section_skips HasTypes behind_types constants_in (λ ns. refl) types
      ∙ section_gives HasConstants behind_constants constants_in (λ ns. refl) constants
      ∙ ap (λ l. constants ++ l)
      (section_skips HasPredicates (map HasAction actions) constants_in (λ ps. refl) predicates ∙ actions_skip constants_in (λ a. refl) actions)
      ∙ append-nil constants)

  gives_predicates : predicates ≡ flat_map section_predicates_in domain_sections
  gives_predicates =
      sym (section_skips HasTypes behind_types section_predicates_in (λ ns. refl) types
      ∙ section_skips HasConstants behind_constants section_predicates_in (λ ns. refl) constants
      ∙ section_gives HasPredicates (map HasAction actions) section_predicates_in (λ ps. refl) predicates
      ∙ ap (λ l. predicates ++ l) (actions_skip section_predicates_in (λ a. refl) actions)
      ∙ append-nil predicates)

  gives_actions : actions ≡ flat_map actions_in domain_sections
  gives_actions =
      sym (section_skips HasTypes behind_types actions_in (λ ns. refl) types
      ∙ section_skips HasConstants behind_constants actions_in (λ ns. refl) constants
      ∙ section_skips HasPredicates (map HasAction actions) actions_in (λ ps. refl) predicates ∙ all_actions actions)
    where
      all_actions : (some : List PlainSchema) → flat_map actions_in (map HasAction some) ≡ some
      all_actions [] = refl
      all_actions (a ∷ some) = ap (λ l. a ∷ l) (all_actions some)

-- the forms of the sections of a domain
abbrev behind_domain : PlainDomain → List Form
behind_domain d =
    section_forms (codes ":types") (flat_map typed_forms d.types)
    ++ section_forms (codes ":constants") (flat_map typed_forms d.constants)
    ++ section_forms (codes ":predicates") (map predicate_form d.predicates)
    ++ map action_form d.actions

requirements_again : (actions : List PlainSchema) (g : Form) → unplaced_form g ≡ requirements_form actions → IsSection g HasRequirements
requirements_again actions g e =
    let texts = requirements actions in
    let whole = group_again g (word (codes ":requirements") ∷ map word texts) e in
    let head = word_first whole.1 (codes ":requirements") (map word texts) whole.3 in
    record {
      at = whole.0;
      head = head.first;
      forms = head.rest;
      whole = whole.2 ∙ ap (λ fs. group whole.0 fs) head.whole;
      keyword = head.same;
      content = accepted_again texts head.rest (all_requirements (λ t. IsTrue (is_one_of accepted t)) refl refl refl refl actions) head.behind;
    }

-- the parts of a list of forms that is given but for places
record FourAgain (gs xs ys zs more : List Form) : Type 0 where
  first : List Form
  second : List Form
  third : List Form
  fourth : List Form
  whole : gs ≡ first ++ (second ++ (third ++ fourth))
  same_first : map unplaced_form first ≡ xs
  same_second : map unplaced_form second ≡ ys
  same_third : map unplaced_form third ≡ zs
  same_fourth : map unplaced_form fourth ≡ more

four_again : (gs xs ys zs more : List Form) → map unplaced_form gs ≡ xs ++ ys ++ zs ++ more → FourAgain gs xs ys zs more
four_again gs xs ys zs more e =
    let three = both_again gs (xs ++ ys ++ zs) more e in
    let two = both_again three.0 (xs ++ ys) zs three.3 in
    let one = both_again two.0 xs ys two.3 in
    record {
      first = one.0;
      second = one.1;
      third = two.1;
      fourth = three.1;
      whole = three.2 ∙ ap (λ fs. fs ++ three.1) (two.2 ∙ ap (λ fs. fs ++ two.1) one.2 ∙ append_assoc one.0 one.1 two.1)
          ∙ append_assoc one.0 (one.1 ++ two.1) three.1 ∙ ap (λ fs. one.0 ++ fs) (append_assoc one.1 two.1 three.1);
      same_first = one.3;
      same_second = one.4;
      same_third = two.4;
      same_fourth = three.4;
    }

-- the sections behind the requirements
record SectionsAgain (gs : List Form) (d : PlainDomain) : Type 0 where
  types : List PlainTypedName
  constants : List PlainTypedName
  predicates : List PlainPredicate
  actions : List PlainSchema
  are : Pairwise IsSection gs (behind_requirements types constants predicates actions)
  same_types : map unplaced_typed types ≡ map unplaced_typed d.types
  same_constants : map unplaced_typed constants ≡ map unplaced_typed d.constants
  same_predicates : map unplaced_predicate predicates ≡ map unplaced_predicate d.predicates
  same_actions : map unplaced_schema actions ≡ map unplaced_schema d.actions

sections_again : (d : PlainDomain) (gs : List Form) → SoundDomain Anything d → map unplaced_form gs ≡ behind_domain d → SectionsAgain gs d
sections_again d gs sound e =
    let four = four_again gs (section_forms (codes ":types") (flat_map typed_forms d.types)) (section_forms (codes ":constants") (flat_map typed_forms d.constants))
    (section_forms (codes ":predicates") (map predicate_form d.predicates)) (map action_form d.actions) e in
    let types = names_section HasTypes (codes ":types") (λ ns. refl) (λ forms ns is. is) d.types four.first sound.types four.same_first in
    let constants = names_section HasConstants (codes ":constants") (λ ns. refl) (λ forms ns is. is) d.constants four.second sound.constants four.same_second in
    let predicates = predicates_section d.predicates four.third sound.predicates four.same_third in
    let actions =
    each_again action_form unplaced_schema (λ f a. IsSection f (HasAction a)) (SoundSchema Anything) (action_again Anything) d.actions four.fourth
    sound.actions four.same_fourth in
    record {
      types = types.0;
      constants = constants.0;
      predicates = predicates.0;
      actions = actions.0;
      are = subst (λ fs. Pairwise IsSection fs (behind_requirements types.0 constants.0 predicates.0 actions.0)) (sym four.whole)
          (pairs_both IsSection four.first (section_of HasTypes types.0) (four.second ++ (four.third ++ four.fourth))
          (behind_types types.0 constants.0 predicates.0 actions.0) types.1
          (pairs_both IsSection four.second (section_of HasConstants constants.0) (four.third ++ four.fourth)
          (behind_constants types.0 constants.0 predicates.0 actions.0) constants.1
          (pairs_both IsSection four.third (section_of HasPredicates predicates.0) four.fourth (map HasAction actions.0) predicates.1
          (pairs_map IsSection HasAction four.fourth actions.0 actions.1))));
      same_types = types.2;
      same_constants = constants.2;
      same_predicates = predicates.2;
      same_actions = actions.2;
    }

domain_from : (g : Form) (d : PlainDomain) (name : Word) (forms gs : List Form) (required : Form) (again : SectionsAgain gs d)
    → forms ≡ required ∷ gs → IsSection required HasRequirements → name.text ≡ d.name.text
    → ((values : List SectionValue) → Pairwise IsSection forms values → All (λ s. Contains (kinds_of OfDomain) (kind_of s)) values
    → AllPairs Apart values → IsDocument OfDomain g name values)
    → (e : PlainDomain) × IsDomain g e × IsSameDomain e d
domain_from g d name forms gs required again whole is same spells = (
  record { name = name; types = again.types; constants = again.constants; predicates = again.predicates; actions = again.actions },
  record {
    sections = domain_sections again.types again.constants again.predicates again.actions;
    document = spells (domain_sections again.types again.constants again.predicates again.actions)
        (subst (λ fs. Pairwise IsSection fs (domain_sections again.types again.constants again.predicates again.actions)) (sym whole) (is, again.are))
        (domain_belong again.types again.constants again.predicates again.actions)
        (domain_once again.types again.constants again.predicates again.actions);
    types = gives_types again.types again.constants again.predicates again.actions;
    constants = gives_constants again.types again.constants again.predicates again.actions;
    predicates = gives_predicates again.types again.constants again.predicates again.actions;
    actions = gives_actions again.types again.constants again.predicates again.actions;
  },
  λ j. record {
    name = record { text = same j; at = 0 };
    types = again.same_types j;
    constants = again.same_constants j;
    predicates = again.same_predicates j;
    actions = again.same_actions j;
  },
)

domain_of_sound : (g : Form) (d : PlainDomain) → SoundDomain Anything d → unplaced_form g ≡ domain_form d → (e : PlainDomain) × IsDomain g e × IsSameDomain e d
domain_of_sound g d sound e =
    let begins = opened OfDomain g d.name (requirements_form d.actions ∷ behind_domain d) sound.name.0 e in
    let first = form_first begins.forms (requirements_form d.actions) (behind_domain d) begins.behind in
    domain_from g d begins.name begins.forms first.rest first.first (sections_again d first.rest sound first.behind) first.whole
    (requirements_again d.actions first.first first.same) begins.same begins.spells

pub domain_again : (f g : Form) (d : PlainDomain) → IsDomain f d → unplaced_form g ≡ domain_form d → (e : PlainDomain) × IsDomain g e × IsSameDomain e d
domain_again f g d is e = domain_of_sound g d (domain_sound Anything f d tt is (any_words f)) e

-- the sections of a problem in their canonical order
module _ (domain : Word) (objects : List PlainTypedName) (init : List PlainLiteral) where
  abbrev behind_objects : List SectionValue
  behind_objects = HasInit init ∷ HasGoal ∷ []

  abbrev behind_name : List SectionValue
  behind_name = section_of HasObjects objects ++ behind_objects

  abbrev problem_sections : List SectionValue
  problem_sections = HasDomain domain ∷ behind_name

  abbrev IsOfProblem : SectionValue → Type 0
  IsOfProblem s = Contains (kinds_of OfProblem) (kind_of s)

  last_all : (Q : SectionValue → Type 0) → Q (HasInit init) → Q HasGoal → All Q behind_objects
  last_all Q of_init of_goal = All-cons Q (HasInit init) (HasGoal ∷ []) of_init (All-cons Q HasGoal [] of_goal (All-nil Q))

  problem_belong : All IsOfProblem problem_sections
  problem_belong =
      All-cons IsOfProblem (HasDomain domain) behind_name (1, omega arith, refl)
      (section_all HasObjects behind_objects IsOfProblem (λ ns. (2, omega arith, refl)) (last_all IsOfProblem (3, omega arith, refl) (4, omega arith, refl)) objects)

  problem_once : AllPairs Apart problem_sections
  problem_once =
      AllPairs-cons Apart (HasDomain domain) behind_name
      (section_all HasObjects behind_objects (Apart (HasDomain domain)) (λ ns e. absurd (cc))
      (last_all (Apart (HasDomain domain)) (λ e. absurd (cc)) (λ e. absurd (cc))) objects)
      (section_once HasObjects behind_objects Apart (λ ns. last_all (Apart (HasObjects ns)) (λ e. absurd (cc)) (λ e. absurd (cc)))
      (AllPairs-cons Apart (HasInit init) (HasGoal ∷ [])
      (All-cons (Apart (HasInit init)) HasGoal [] (λ e. absurd (cc)) (All-nil (Apart (HasInit init))))
      (AllPairs-cons Apart HasGoal [] (All-nil (Apart HasGoal)) (AllPairs-none Apart))) objects)

  gives_domain : domain ∷ [] ≡ flat_map domains_in problem_sections
  gives_domain = ap (λ l. domain ∷ l) (sym (section_skips HasObjects behind_objects domains_in (λ ns. refl) objects))

  gives_objects : objects ≡ flat_map objects_in problem_sections
  gives_objects = sym (section_gives HasObjects behind_objects objects_in (λ ns. refl) objects ∙ append-nil objects)

  gives_init : init ≡ flat_map init_in problem_sections
  gives_init = sym (section_skips HasObjects behind_objects init_in (λ ns. refl) objects ∙ append-nil init)

  has_init : Any (λ s. kind_of s ≡ Init) problem_sections
  has_init = section_any HasObjects (λ s. kind_of s ≡ Init) (HasDomain domain) (HasInit init) (HasGoal ∷ []) refl objects

-- the forms of the sections of a problem
abbrev init_form : PlainProblem → Form
init_form p = group 0 (word (codes ":init") ∷ map literal_form p.init)

abbrev goal_form : Form
goal_form = group 0 (word (codes ":goal") ∷ condition_form [] ∷ [])

abbrev behind_problem : PlainProblem → List Form
behind_problem p = section_forms (codes ":objects") (flat_map typed_forms p.objects) ++ init_form p ∷ goal_form ∷ []

domain_section : (title : Word) (g : Form) → IsNameWord title → unplaced_form g ≡ group 0 (word (codes ":domain") ∷ name_form title ∷ [])
    → (name : Word) × IsSection g (HasDomain name) × (name.text ≡ title.text)
domain_section title g is e =
    let whole = group_again g (word (codes ":domain") ∷ name_form title ∷ []) e in
    let head = word_first whole.1 (codes ":domain") (name_form title ∷ []) whole.3 in
    let name = word_first head.rest title.text [] head.behind in (
      name.first,
      record {
        at = whole.0;
        head = head.first;
        forms = head.rest;
        whole = whole.2 ∙ ap (λ fs. group whole.0 fs) head.whole;
        keyword = head.same;
        content = (cc (name.whole, none_again name.rest name.behind), same_name name.first title name.same is);
      },
      name.same,
    )

init_section : (p : PlainProblem) (g : Form) → All (SoundLiteral Anything Start) p.init → unplaced_form g ≡ init_form p
    → (init : List PlainLiteral) × IsSection g (HasInit init) × (map unplaced_literal init ≡ map unplaced_literal p.init)
init_section p g all e =
    let whole = group_again g (word (codes ":init") ∷ map literal_form p.init) e in
    let head = word_first whole.1 (codes ":init") (map literal_form p.init) whole.3 in
    let atoms = each_again literal_form unplaced_literal IsStartAtom (SoundLiteral Anything Start) (start_again Anything) p.init head.rest all head.behind in (
      atoms.0,
      record {
        at = whole.0;
        head = head.first;
        forms = head.rest;
        whole = whole.2 ∙ ap (λ fs. group whole.0 fs) head.whole;
        keyword = head.same;
        content = atoms.1;
      },
      atoms.2,
    )

goal_section : (g : Form) → unplaced_form g ≡ goal_form → IsSection g HasGoal
goal_section g e =
    let whole = group_again g (word (codes ":goal") ∷ condition_form [] ∷ []) e in
    let head = word_first whole.1 (codes ":goal") (condition_form [] ∷ []) whole.3 in
    let only = form_first head.rest (condition_form []) [] head.behind in
    record {
      at = whole.0;
      head = head.first;
      forms = head.rest;
      whole = whole.2 ∙ ap (λ fs. group whole.0 fs) head.whole;
      keyword = head.same;
      content = (only.first, cc (only.whole, none_again only.rest only.behind));
    }

-- the sections behind the name of the domain
record PartsAgain (gs : List Form) (p : PlainProblem) : Type 0 where
  objects : List PlainTypedName
  init : List PlainLiteral
  are : (domain : Word) → Pairwise IsSection gs (behind_name domain objects init)
  same_objects : map unplaced_typed objects ≡ map unplaced_typed p.objects
  same_init : map unplaced_literal init ≡ map unplaced_literal p.init

parts_again : (p : PlainProblem) (gs : List Form) → SoundProblem Anything p → map unplaced_form gs ≡ behind_problem p → PartsAgain gs p
parts_again p gs sound e =
    let both = both_again gs (section_forms (codes ":objects") (flat_map typed_forms p.objects)) (init_form p ∷ goal_form ∷ []) e in
    let objects = names_section HasObjects (codes ":objects") (λ ns. refl) (λ forms ns is. is) p.objects both.0 sound.objects both.3 in
    let of_init = form_first both.1 (init_form p) (goal_form ∷ []) both.4 in
    let of_goal = form_first of_init.rest goal_form [] of_init.behind in
    let init = init_section p of_init.first sound.init of_init.same in
    let whole : gs ≡ both.0 ++ (of_init.first ∷ of_goal.first ∷ []) =
    cc (both.2, of_init.whole, of_goal.whole, none_again of_goal.rest of_goal.behind) in
    record {
      objects = objects.0;
      init = init.0;
      are = λ domain. subst (λ fs. Pairwise IsSection fs (behind_name domain objects.0 init.0)) (sym whole)
          (pairs_both IsSection both.0 (section_of HasObjects objects.0) (of_init.first ∷ of_goal.first ∷ []) (HasInit init.0 ∷ HasGoal ∷ []) objects.1
          (init.1, (goal_section of_goal.first of_goal.same, tt)));
      same_objects = objects.2;
      same_init = init.2;
    }

problem_from : (g : Form) (p : PlainProblem) (name domain : Word) (forms gs : List Form) (first : Form) (again : PartsAgain gs p)
    → forms ≡ first ∷ gs → IsSection first (HasDomain domain) → name.text ≡ p.name.text → domain.text ≡ p.domain.text
    → ((values : List SectionValue) → Pairwise IsSection forms values → All (λ s. Contains (kinds_of OfProblem) (kind_of s)) values
    → AllPairs Apart values → IsDocument OfProblem g name values)
    → (q : PlainProblem) × IsProblem g q × IsSameProblem q p
problem_from g p name domain forms gs first again whole is same same_domain spells = (
  record { name = name; domain = domain; objects = again.objects; init = again.init },
  record {
    sections = problem_sections domain again.objects again.init;
    document = spells (problem_sections domain again.objects again.init)
        (subst (λ fs. Pairwise IsSection fs (problem_sections domain again.objects again.init)) (sym whole) (is, again.are domain))
        (problem_belong domain again.objects again.init)
        (problem_once domain again.objects again.init);
    domain = gives_domain domain again.objects again.init;
    objects = gives_objects domain again.objects again.init;
    init = gives_init domain again.objects again.init;
    starts = has_init domain again.objects again.init;
  },
  λ j. record {
    name = record { text = same j; at = 0 };
    domain = record { text = same_domain j; at = 0 };
    objects = again.same_objects j;
    init = again.same_init j;
  },
)

problem_of_sound : (g : Form) (p : PlainProblem) → SoundProblem Anything p → unplaced_form g ≡ problem_form p → (q : PlainProblem) × IsProblem g q × IsSameProblem q p
problem_of_sound g p sound e =
    let named = group 0 (word (codes ":domain") ∷ name_form p.domain ∷ []) in
    let begins = opened OfProblem g p.name (named ∷ behind_problem p) sound.name.0 e in
    let first = form_first begins.forms named (behind_problem p) begins.behind in
    let domain = domain_section p.domain first.first sound.domain.0 first.same in
    problem_from g p begins.name domain.0 begins.forms first.rest first.first (parts_again p first.rest sound first.behind) first.whole
    domain.1 begins.same domain.2 begins.spells

pub problem_again : (f g : Form) (p : PlainProblem) → IsProblem f p → unplaced_form g ≡ problem_form p → (q : PlainProblem) × IsProblem g q × IsSameProblem q p
problem_again f g p is e = problem_of_sound g p (problem_sound Anything f p tt is (any_words f)) e
