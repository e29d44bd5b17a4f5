-- What a typed domain and problem has: different names, few of each kind, and rising places.
use Rattle.std.proofs.Common.{◌≡◌, ◌≢◌, ℕ, List, [], ◌∷◌, ◌++◌, map, zero, suc, refl, sym, ap, ◌∙◌, subst, arith, append_assoc, append-nil, length-append, Some, slice_get}
use mathlib.Core.Path.{ap₂}
use Rattle.std.specs.List.{All, AllPairs, Contains}
use Rattle.std.proofs.lemmas.List.{length-map, map_push, map-append, get_or_default}
use Rattle.std.proofs.lemmas.List.Elements.{All-nil, All-cons}
use Rattle.std.proofs.lemmas.List.Quantifiers.{all_pairs_push}
use Rattle.grd_base.specs.Rising.{IsRisingBy}
use Rattle.grd_base.specs.declared.roles.FileRole.{FileRole}
use Rattle.grd_base.specs.declared.roles.FileRole.TheVariants.{Domain, Problem}
use Rattle.pddl_reader.specs.Sections.{Pairwise}
use Rattle.pddl_reader.specs.Values.{PlainTypedName, PlainSchema, PlainPredicate, PlainDomain, PlainProblem}
use Rattle.type_check.specs.Types.{names_of}
use Rattle.type_check.specs.Checks.{Check, Passes}
use Rattle.type_check.specs.Rules.{checks_behind, is_new, typed_checks, names_checks, predicate_names, predicate_checks, schema_names, action_checks, all_objects, IsWellTyped}
use Rattle.type_check.specs.Values.{PlainTypedObject, PlainTypedPredicate, PlainTypedSchema, PlainTyped}
use Rattle.type_check.specs.Typing.{typed_object, ArePlaces, IsTypedPredicate, IsTypedSchema, IsTypedTask}
use Rattle.type_check.specs.Numbered.{AreNumbered, predicate_texts, schema_texts, object_texts}
use Rattle.type_check.proofs.Counts.{few_constants, few_predicates, few_actions, few_objects}
use Rattle.type_check.proofs.Passed.{all_left, all_right, constants_pass, predicates_pass, actions_pass, objects_pass}

abbrev Differ : List (List ℕ) → Type 0
Differ names = AllPairs (λ a b. a ≢ b) names

differ_push : (names : List (List ℕ)) (name : List ℕ) → Differ names → (Contains names name → ⊥) → Differ (names ++ name ∷ [])
differ_push names name h new =
    all_pairs_push (λ a b. a ≢ b) names name h
    (λ k e within same. new (k, within, get_or_default names k name e within ∙ same))

-- ---- names that pass

module _ (d : PlainDomain) where
  module _ {X : Type 0} (name : X → List ℕ) (base : List (List ℕ)) (checks : List X → X → List Check)
      (new : (before : List X) (x : X) → All (Passes d) (checks before x) → Contains (base ++ map name before) (name x) → ⊥) where
    -- where each is new among those before it, they differ
    differ_behind : (before xs : List X) → All (Passes d) (checks_behind checks before xs) → Differ (base ++ map name before) → Differ (base ++ map name (before ++ xs))
    differ_behind before [] passed h = subst (λ xs. Differ (base ++ map name xs)) (sym (append-nil before)) h
    differ_behind before (x ∷ xs) passed h =
        let behind = checks_behind checks (before ++ x ∷ []) xs in
        let more : Differ (base ++ map name (before ++ x ∷ [])) =
        subst Differ (append_assoc base (map name before) (name x ∷ []) ∙ ap (λ names. base ++ names) (sym (map_push name before x)))
        (differ_push (base ++ map name before) (name x) h (new before x (all_left (Passes d) (checks before x) behind passed))) in
        subst (λ xs. Differ (base ++ map name xs)) (append_assoc before (x ∷ []) xs) (differ_behind (before ++ x ∷ []) xs (all_right (Passes d) (checks before x) behind passed) more)

  typed_names_differ : (file : FileRole) (base : List (List ℕ)) (list : List PlainTypedName) → All (Passes d) (names_checks file d base list) → Differ base → Differ (base ++ names_of list)
  typed_names_differ file base list passed h =
      differ_behind (λ n. n.name.text) base (λ before n. typed_checks file d (base ++ names_of before) n)
      (λ before n each. each 0 (is_new file (base ++ names_of before) n.name) (omega arith)) [] list passed (subst Differ (sym (append-nil base)) h)

none_differ : Differ []
none_differ i j e less within = absurd (omega arith)

-- ---- what well-typed files have

module _ (d : PlainDomain) (p : PlainProblem) (well_typed : IsWellTyped d p) where
  constants_differ : Differ (names_of d.constants)
  constants_differ = typed_names_differ d Domain [] d.constants (constants_pass d p well_typed) none_differ

  objects_differ : Differ (names_of (all_objects d p))
  objects_differ =
      subst Differ (sym (map-append (λ (n : PlainTypedName). n.name.text) d.constants p.objects))
      (typed_names_differ d Problem (names_of d.constants) p.objects (objects_pass d p well_typed) constants_differ)

  predicates_differ : Differ (predicate_names d.predicates)
  predicates_differ =
      differ_behind d (λ (q : PlainPredicate). q.name.text) [] (predicate_checks d) (λ before q each. each 0 (is_new Domain (predicate_names before) q.name) (omega arith)) [] d.predicates
      (predicates_pass d p well_typed) none_differ

  actions_differ : Differ (schema_names d.actions)
  actions_differ =
      differ_behind d (λ (a : PlainSchema). a.name.text) [] (action_checks d) (λ before a each. each 0 (is_new Domain (schema_names before) a.name) (omega arith)) [] d.actions
      (actions_pass d p well_typed) none_differ

  -- ---- what they make

  predicate_texts_are : (qs : List PlainPredicate) (ts : List PlainTypedPredicate) → Pairwise (IsTypedPredicate d p) qs ts → predicate_names qs ≡ map (λ t. t.name.text) ts
  predicate_texts_are [] [] h = refl
  predicate_texts_are [] (t ∷ ts) h = absurd h
  predicate_texts_are (q ∷ qs) [] h = absurd h
  predicate_texts_are (q ∷ qs) (t ∷ ts) h = ap₂ ◌∷◌ (ap (λ w. w.text) (sym h.0.name)) (predicate_texts_are qs ts h.1)

  schema_texts_are : (list : List PlainSchema) (ts : List PlainTypedSchema) → Pairwise (IsTypedSchema d p) list ts → schema_names list ≡ map (λ t. t.name.text) ts
  schema_texts_are [] [] h = refl
  schema_texts_are [] (t ∷ ts) h = absurd h
  schema_texts_are (a ∷ list) [] h = absurd h
  schema_texts_are (a ∷ list) (t ∷ ts) h = ap₂ ◌∷◌ (ap (λ w. w.text) (sym h.0.name)) (schema_texts_are list ts h.1)

  object_texts_are : (names : List PlainTypedName) → names_of names ≡ map (λ o. o.name.text) (map (typed_object d) names)
  object_texts_are [] = refl
  object_texts_are (n ∷ names) = ap (λ texts. n.name.text ∷ texts) (object_texts_are names)

  places_rise : (parameters : List PlainTypedName) (places : List (List ℕ)) → ArePlaces d p parameters places → All (IsRisingBy (λ k. k)) places
  places_rise [] [] h = All-nil (IsRisingBy (λ k. k))
  places_rise [] (place ∷ places) h = absurd h
  places_rise (n ∷ parameters) [] h = absurd h
  places_rise (n ∷ parameters) (place ∷ places) h = All-cons (IsRisingBy (λ k. k)) place places h.0.rises (places_rise parameters places h.1)

  predicate_rises : (qs : List PlainPredicate) (ts : List PlainTypedPredicate) (n : ℕ) (t : PlainTypedPredicate) → Pairwise (IsTypedPredicate d p) qs ts → slice_get ts n ≡ Some t → All (IsRisingBy (λ k. k)) t.places
  predicate_rises [] [] n t h at = cc
  predicate_rises [] (other ∷ ts) n t h at = absurd h
  predicate_rises (q ∷ qs) [] n t h at = absurd h
  predicate_rises (q ∷ qs) (other ∷ ts) zero t h at =
      let same : other ≡ t = cc in
      subst (λ (t : PlainTypedPredicate). All (IsRisingBy (λ k. k)) t.places) same (places_rise q.parameters other.places h.0.places)
  predicate_rises (q ∷ qs) (other ∷ ts) (suc n) t h at = predicate_rises qs ts n t h.1 at

  schema_rises : (list : List PlainSchema) (ts : List PlainTypedSchema) (n : ℕ) (t : PlainTypedSchema) → Pairwise (IsTypedSchema d p) list ts → slice_get ts n ≡ Some t → All (IsRisingBy (λ k. k)) t.places
  schema_rises [] [] n t h at = cc
  schema_rises [] (other ∷ ts) n t h at = absurd h
  schema_rises (a ∷ list) [] n t h at = absurd h
  schema_rises (a ∷ list) (other ∷ ts) zero t h at =
      let same : other ≡ t = cc in
      subst (λ (t : PlainTypedSchema). All (IsRisingBy (λ k. k)) t.places) same (places_rise a.parameters other.places h.0.places)
  schema_rises (a ∷ list) (other ∷ ts) (suc n) t h at = schema_rises list ts n t h.1 at

-- ---- of a typed domain and problem

module _ (t : PlainTyped) (task : IsTypedTask t) where
  pub predicates_numbered : AreNumbered (predicate_texts t)
  predicates_numbered =
      let same = predicate_texts_are task.domain task.problem task.well_typed task.domain.predicates t.predicates task.made.predicates in
      subst AreNumbered same (record {
        differ = predicates_differ task.domain task.problem task.well_typed;
        few = omega (arith, length-map task.domain.predicates (λ (q : PlainPredicate). q.name.text), few_predicates task.is_domain.text task.domain task.is_domain.spells, task.is_domain.short);
      })

  pub schemas_numbered : AreNumbered (schema_texts t)
  schemas_numbered =
      let same = schema_texts_are task.domain task.problem task.well_typed task.domain.actions t.schemas task.made.schemas in
      subst AreNumbered same (record {
        differ = actions_differ task.domain task.problem task.well_typed;
        few = omega (arith, length-map task.domain.actions (λ (a : PlainSchema). a.name.text), few_actions task.is_domain.text task.domain task.is_domain.spells, task.is_domain.short);
      })

  pub objects_numbered : AreNumbered (object_texts t)
  objects_numbered =
      let same = object_texts_are task.domain task.problem task.well_typed (all_objects task.domain task.problem) ∙ ap (map (λ (o : PlainTypedObject). o.name.text)) (sym task.made.objects) in
      subst AreNumbered same (record {
        differ = objects_differ task.domain task.problem task.well_typed;
        few = omega (arith, length-map (all_objects task.domain task.problem) (λ (n : PlainTypedName). n.name.text), length-append task.domain.constants task.problem.objects, few_constants task.is_domain.text task.domain task.is_domain.spells, task.is_domain.short, few_objects task.is_problem.text task.problem task.is_problem.spells, task.is_problem.short);
      })

  pub predicate_places : (n : ℕ) (q : PlainTypedPredicate) → slice_get t.predicates n ≡ Some q → All (IsRisingBy (λ k. k)) q.places
  predicate_places n q at = predicate_rises task.domain task.problem task.well_typed task.domain.predicates t.predicates n q task.made.predicates at

  pub schema_places : (n : ℕ) (s : PlainTypedSchema) → slice_get t.schemas n ≡ Some s → All (IsRisingBy (λ k. k)) s.places
  schema_places n s at = schema_rises task.domain task.problem task.well_typed task.domain.actions t.schemas n s task.made.schemas at
