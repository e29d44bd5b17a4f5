-- What a typed domain and problem have.
use Rattle.std.proofs.Common.{None, ◌≡◌, ℕ, ◌≤◌, List, [], ◌∷◌, ◌++◌, length, map, sym, ap, subst, arith}
use Rattle.std.specs.List.{All, flat_map}
use Rattle.std.proofs.lemmas.List.{length-map}
use Rattle.std.proofs.lemmas.List.Elements.{All-head, All-tail, All-map, All-weaker}
use Rattle.grd_base.specs.declared.roles.FileRole.TheVariants.{Domain}
use Rattle.pddl_reader.specs.Classes.{head_feature}
use Rattle.pddl_reader.specs.Kinds.{Names, Start}
use Rattle.pddl_reader.specs.Values.{PlainLiteral, PlainSchema, PlainPredicate, PlainDomain, PlainProblem}
use Rattle.pddl_reader.proofs.NamesOfValues.{SoundTyped, SoundLiteral}
use Rattle.type_check.specs.Types.{names_of}
use Rattle.type_check.specs.Checks.{Passes}
use Rattle.type_check.specs.Rules.{few_parameters, names_checks, predicate_names, predicate_checks, schema_names, few_literals, literals_of, literal_checks, is_new, action_checks, all_objects, IsWellTyped}
use Rattle.type_check.specs.Values.{PlainTypedPredicate, PlainTypedSchema, PlainTypedLiteral, PlainTyped}
use Rattle.type_check.specs.Typing.{typed_object, typed_literal, typed_literals, IsTypedPredicate, IsTypedSchema, IsTypedTask}
use Rattle.type_check.specs.Numbered.{predicate_texts, schema_texts, object_texts}
use Rattle.type_check.proofs.Passed.{all_left, all_right, each_tells, all_flat, predicates_pass, actions_pass}
use Rattle.type_check.proofs.Known.{few_objects}
use Rattle.type_check.proofs.Counts.{few_predicates, few_actions}
use Rattle.type_check.proofs.TypedTasks.{predicates_numbered, schemas_numbered, objects_numbered}
use Rattle.type_check.proofs.Pairs.{pairs_length, pairs_give}
use Rattle.type_check.proofs.TypedNames.{problem_names, IsFileWord, IsFileName, objects_sound, predicates_named, schemas_named, objects_named}
use Rattle.ground_all.specs.Sound.{ArePlaces, AreBelow, IsLiteralOf, IsShortName, AreNames, IsSound}
use Rattle.ground_all.proofs.PlaceLaws.{places_below, places_sound}
use Rattle.ground_all.proofs.SeenLiterals.{literal_within}
use Rattle.ground_all.proofs.StartAtoms.{HasType, init_typed}

-- ---- what the checks tell of predicates and actions

abbrev FewParameters : PlainPredicate → Type 0
FewParameters q = length q.parameters ≤ 8

few_of_predicates : (d : PlainDomain) (p : PlainProblem) → IsWellTyped d p → All FewParameters d.predicates
few_of_predicates d p well =
    each_tells d (predicate_checks d) FewParameters
    (λ before q each. let rest = few_parameters q.parameters q.name ∷ names_checks Domain d [] q.parameters in
    All-head (Passes d) (few_parameters q.parameters q.name) (names_checks Domain d [] q.parameters) (All-tail (Passes d) (is_new Domain (predicate_names before) q.name) rest each))
    [] d.predicates (predicates_pass d p well)

-- the literal passes in the action
abbrev Passing : PlainDomain → PlainSchema → PlainLiteral → Type 0
Passing d a l = All (Passes d) (literal_checks Domain d a.parameters d.constants l)

-- at most 8 parameters, and literals that pass
pub record IsAllowed (d : PlainDomain) (a : PlainSchema) : Type 0 where
  pub few : length a.parameters ≤ 8
  pub literals : All (Passing d a) (literals_of a)

allowed : (d : PlainDomain) (before : List PlainSchema) (a : PlainSchema) → All (Passes d) (action_checks d before a) → IsAllowed d a
allowed d before a each =
    let names = names_checks Domain d [] a.parameters in
    let literals = flat_map (literal_checks Domain d a.parameters d.constants) (literals_of a) in
    let behind = names ++ few_literals a ∷ literals in
    let rest = All-tail (Passes d) (is_new Domain (schema_names before) a.name) (few_parameters a.parameters a.name ∷ behind) each in
    record {
      few = All-head (Passes d) (few_parameters a.parameters a.name) behind rest;
      literals = all_flat (Passes d) (literal_checks Domain d a.parameters d.constants) (literals_of a)
          (All-tail (Passes d) (few_literals a) literals (all_right (Passes d) names (few_literals a ∷ literals) (All-tail (Passes d) (few_parameters a.parameters a.name) behind rest)));
    }

all_allowed : (d : PlainDomain) (p : PlainProblem) → IsWellTyped d p → All (IsAllowed d) d.actions
all_allowed d p well = each_tells d (action_checks d) (IsAllowed d) (allowed d) [] d.actions (actions_pass d p well)

-- ---- of a typed domain and problem

module _ (t : PlainTyped) (task : IsTypedTask t) where
  abbrev d : PlainDomain
  d = task.domain

  abbrev p : PlainProblem
  p = task.problem

  count : length (all_objects d p) ≡ length t.objects
  count = omega (arith, ap length task.made.objects, length-map (all_objects d p) (typed_object d))

  -- what holds of each predicate, and of each schema, where it holds of those of the domain
  of_predicates : (P : PlainPredicate → Type 0) (Q : PlainTypedPredicate → Type 0) → ((q : PlainPredicate) (u : PlainTypedPredicate) → IsTypedPredicate d p q u → P q → Q u)
      → All P d.predicates → All Q t.predicates
  of_predicates P Q step all = pairs_give (IsTypedPredicate d p) P Q step d.predicates t.predicates task.made.predicates all

  of_schemas : (P : PlainSchema → Type 0) (Q : PlainTypedSchema → Type 0) → ((a : PlainSchema) (s : PlainTypedSchema) → IsTypedSchema d p a s → P a → Q s)
      → All P d.actions → All Q t.schemas
  of_schemas P Q step all = pairs_give (IsTypedSchema d p) P Q step d.actions t.schemas task.made.schemas all

  -- the literals of a schema, each of which passes
  literals_within : (a : PlainSchema) (s : PlainTypedSchema) → IsTypedSchema d p a s → (ls : List PlainLiteral) (typed : List PlainTypedLiteral) → typed ≡ typed_literals d a ls
      → All (Passing d a) ls → All (IsLiteralOf (length s.places)) typed
  literals_within a s is ls typed same pass =
      let many : length a.parameters ≡ length s.places = pairs_length _ a.parameters s.places is.places in
      subst (All (IsLiteralOf (length s.places))) (sym same)
      (subst (λ n. All (IsLiteralOf n) (typed_literals d a ls)) many
      (All-map (IsLiteralOf (length a.parameters)) (typed_literal d (names_of a.parameters) (names_of d.constants)) ls
      (All-weaker (Passing d a) (λ l. IsLiteralOf (length a.parameters) (typed_literal d (names_of a.parameters) (names_of d.constants) l))
      (literal_within d Domain a.parameters d.constants) ls pass)))

  have_types : All HasType (all_objects d p)
  have_types = All-weaker (SoundTyped IsFileWord Names) HasType (λ n is. omega (arith, ap length is.types.1)) (all_objects d p) (objects_sound t task)

  short_names : {X : Type 0} (name : X → List ℕ) (xs : List X) → All (λ x. IsFileName (name x)) xs → All IsShortName (map name xs)
  short_names name xs all = All-map IsShortName name xs (All-weaker (λ x. IsFileName (name x)) (λ x. IsShortName (name x)) (λ x h. record { is = h.is; short = h.word.short }) xs all)

  predicate_names_are : AreNames (predicate_texts t)
  predicate_names_are = record { differ = (predicates_numbered t task).differ; each = short_names (λ q. q.name.text) t.predicates (predicates_named t task) }

  schema_names_are : AreNames (schema_texts t)
  schema_names_are = record { differ = (schemas_numbered t task).differ; each = short_names (λ s. s.name.text) t.schemas (schemas_named t task) }

  object_names_are : AreNames (object_texts t)
  object_names_are = record { differ = (objects_numbered t task).differ; each = short_names (λ o. o.name.text) t.objects (objects_named t task) }

  pub sound : IsSound t
  sound = record {
    few_objects = omega (arith, count, few_objects d p task.well_typed);
    few_predicates = omega (arith, pairs_length (IsTypedPredicate d p) d.predicates t.predicates task.made.predicates, few_predicates task.is_domain.text d task.is_domain.spells, task.is_domain.short);
    few_schemas = omega (arith, pairs_length (IsTypedSchema d p) d.actions t.schemas task.made.schemas, few_actions task.is_domain.text d task.is_domain.spells, task.is_domain.short);
    predicates = of_predicates FewParameters (λ u. ArePlaces u.places)
        (λ q u is few. places_sound d p task.well_typed q.parameters u.places is.places few) (few_of_predicates d p task.well_typed);
    schemas = of_schemas (IsAllowed d) (λ s. ArePlaces s.places)
        (λ a s is ok. places_sound d p task.well_typed a.parameters s.places is.places ok.few) (all_allowed d p task.well_typed);
    predicate_objects = of_predicates FewParameters (λ u. AreBelow (length t.objects) u.places)
        (λ q u is few. subst (λ n. AreBelow n u.places) count (places_below d p q.parameters u.places is.places)) (few_of_predicates d p task.well_typed);
    schema_objects = of_schemas (IsAllowed d) (λ s. AreBelow (length t.objects) s.places)
        (λ a s is ok. subst (λ n. AreBelow n s.places) count (places_below d p a.parameters s.places is.places)) (all_allowed d p task.well_typed);
    pre = of_schemas (IsAllowed d) (λ s. All (IsLiteralOf (length s.places)) s.pre)
        (λ a s is ok. literals_within a s is a.pre s.pre is.pre (all_left (Passing d a) a.pre a.effect ok.literals)) (all_allowed d p task.well_typed);
    effect = of_schemas (IsAllowed d) (λ s. All (IsLiteralOf (length s.places)) s.effect)
        (λ a s is ok. literals_within a s is a.effect s.effect is.effect (all_right (Passing d a) a.pre a.effect ok.literals)) (all_allowed d p task.well_typed);
    init = init_typed d p have_types task.well_typed
        (All-weaker (SoundLiteral IsFileWord Start) (λ l. head_feature Start l.predicate.text ≡ None) (λ l is. is.plain) p.init (problem_names p task.is_problem).init) t task.made;
    predicate_names = predicate_names_are;
    schema_names = schema_names_are;
    object_names = object_names_are;
  }
