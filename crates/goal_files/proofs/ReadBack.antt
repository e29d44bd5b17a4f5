-- The text of a ground atom, or of a ground action, is a line that spells it.
use Rattle.std.proofs.Common.{◌≡◌, ◌≢◌, ℕ, not, List, [], ◌∷◌, ◌++◌, map, true, refl, sym, ap, ◌∙◌, subst, arith, codes, Some, slice_get, append_assoc}
use Rattle.std.specs.Prelude.{◌==◌, IsTrue}
use Rattle.std.specs.List.{All, AllByRecursion, flat_map, list_all}
use Rattle.std.specs.Option.{option_map, unwrap_or}
use Rattle.std.proofs.lemmas.Bool.{false≢true, and_parts}
use Rattle.std.proofs.lemmas.Bool.Decides.{nat_tests}
use Rattle.std.proofs.lemmas.List.Elements.{recursion_from_All}
use Rattle.std.proofs.lemmas.Option.{slice_get-map, slice_get_within, get_or_from_slice_get}
use Rattle.pddl_reader.specs.Classes.{is_name_byte}
use Rattle.pddl_reader.specs.Values.{PlainTypedName, PlainDomain, PlainProblem}
use Rattle.type_check.specs.Rules.{all_objects}
use Rattle.type_check.specs.Values.{PlainTypedObject, PlainTypedPredicate, PlainTypedSchema, PlainTyped, PlainGroundAtom, PlainGroundName}
use Rattle.type_check.specs.Typing.{typed_object, ObjectFits, ArePlaces, IsTypedPredicate, IsTypedSchema, IsTypedTask}
use Rattle.type_check.specs.Numbered.{predicate_texts, schema_texts, object_texts}
use Rattle.type_check.specs.Ground.{FitPlaces, IsTypedAtom, IsTypedName, text_at, bracketed, atom_text, action_text}
use Rattle.type_check.proofs.Pairs.{pairs_from}
use Rattle.type_check.proofs.TypedNames.{IsFileName, predicates_named, schemas_named, objects_named}
use Rattle.goal_files.specs.Lines.{IsGoalLine}
use Rattle.goal_files.specs.Ground.{IsNamed, AreArguments}
use Rattle.goal_files.specs.SpelledLines.{SpellLines, as_lines}
use Rattle.goal_files.specs.Goals.{SpellsGoal}
use Rattle.goal_files.specs.Observations.{SpellsAction}
use Rattle.goal_files.proofs.NamedLines.{IsPlainName, names_behind, list_text, spells_list, IsLine, list_is_line, lines_spell}

-- ---- names

name_bytes : (bytes : List ℕ) → list_all is_name_byte bytes ≡ true → AllByRecursion (λ b. IsTrue (is_name_byte b)) bytes
name_bytes [] all = tt
name_bytes (b ∷ bytes) all = let both = and_parts (is_name_byte b) (list_all is_name_byte bytes) all in (both.0, name_bytes bytes both.1)

plain_name : (text : List ℕ) → IsFileName text → IsPlainName text
plain_name [] is = absurd (false≢true is.is)
plain_name (b ∷ bytes) is =
    let both = and_parts (not (b == 45)) (list_all is_name_byte (b ∷ bytes)) is.is in
    let other : not (b == 45) ≡ true = both.0 in
    let begins : b ≢ 45 = grind (arith, nat_tests) in
    record { begins = begins; bytes = name_bytes (b ∷ bytes) both.1; lower = is.word.lower }

module _ {X : Type 0} (name : X → List ℕ) (xs : List X) (k : ℕ) (x : X) (there : slice_get xs k ≡ Some x) where
  text_is : text_at (map name xs) k ≡ name x
  text_is = ap (λ text. unwrap_or text []) (slice_get-map name xs k ∙ ap (option_map name) there)

  name_is_plain : All (λ x. IsFileName (name x)) xs → IsPlainName (name x)
  name_is_plain all =
      plain_name (name x) (subst (λ x. IsFileName (name x)) (get_or_from_slice_get xs k x x there) (all k x (slice_get_within xs k x there)))

-- ---- the text in brackets

behind_is : (texts : List (List ℕ)) (objects : List ℕ) → flat_map (λ k. codes " " ++ text_at texts k) objects ++ codes ")" ≡ names_behind (map (text_at texts) objects)
behind_is texts [] = refl
behind_is texts (k ∷ objects) =
    ap (λ bytes. 32 ∷ bytes) (append_assoc (text_at texts k) (flat_map (λ k. codes " " ++ text_at texts k) objects) (codes ")"))
    ∙ ap (λ bytes. 32 ∷ (text_at texts k ++ bytes)) (behind_is texts objects)

bracketed_is : (t : PlainTyped) (head objects : List ℕ) → bracketed t head objects ≡ list_text head (map (text_at (object_texts t)) objects)
unfolding bracketed
bracketed_is t head objects =
    ap (λ bytes. 40 ∷ bytes) (append_assoc head (flat_map (λ k. codes " " ++ text_at (object_texts t) k) objects) (codes ")"))
    ∙ ap (λ bytes. 40 ∷ (head ++ bytes)) (behind_is (object_texts t) objects)

module _ (t : PlainTyped) (task : IsTypedTask t) where
  abbrev d : PlainDomain
  d = task.domain

  abbrev p : PlainProblem
  p = task.problem

  abbrev names_at : List ℕ → List (List ℕ)
  names_at objects = map (text_at (object_texts t)) objects

  -- objects that fit places, by their names
  record AreFitting (places : List (List ℕ)) (objects : List ℕ) : Type 0 where
    plain : AllByRecursion IsPlainName (names_at objects)
    fit : AreArguments t (names_at objects) places objects

  object_is : (n : PlainTypedName) (k : ℕ) → ObjectFits d p n.types k → IsNamed t (text_at (object_texts t) k) k × IsPlainName (text_at (object_texts t) k)
  object_is n k fits =
      let o : PlainTypedObject = typed_object d fits.0 in
      let there : slice_get t.objects k ≡ Some o =
      ap (λ os. slice_get os k) task.made.objects ∙ slice_get-map (typed_object d) (all_objects d p) k ∙ ap (option_map (typed_object d)) fits.1 in
      let name : PlainTypedObject → List ℕ = λ o. o.name.text in
      let is = text_is name t.objects k o there in
      (record { object = o; there = there; named = sym is }, subst IsPlainName (sym is) (name_is_plain name t.objects k o there (objects_named t task)))

  fitting : (parameters : List PlainTypedName) (places : List (List ℕ)) (objects : List ℕ) → ArePlaces d p parameters places → FitPlaces places objects → AreFitting places objects
  fitting [] [] [] are fit = record { plain = tt; fit = tt }
  fitting [] [] (k ∷ objects) are fit = absurd fit
  fitting [] (place ∷ places) objects are fit = absurd are
  fitting (n ∷ parameters) [] objects are fit = absurd are
  fitting (n ∷ parameters) (place ∷ places) [] are fit = absurd fit
  fitting (n ∷ parameters) (place ∷ places) (k ∷ objects) are fit =
      let first = object_is n k ((are.0.fit k).0 fit.0) in
      let more = fitting parameters places objects are.1 fit.1 in
      record { plain = (first.1, more.plain); fit = (first.0, fit.0, more.fit) }

  -- the line of a head with objects that fit
  record IsSpelled (line head objects : List ℕ) : Type 0 where
    spells : IsGoalLine line ((head ∷ names_at objects) ∷ [])
    is_line : IsLine line

  spelled : (line number_text head objects : List ℕ) (places : List (List ℕ)) → line ≡ bracketed t number_text objects → number_text ≡ head → IsPlainName head → AreFitting places objects → IsSpelled line head objects
  spelled line number_text head objects places is named plain fit =
      let text : line ≡ list_text head (names_at objects) = is ∙ ap (λ name. bracketed t name objects) named ∙ bracketed_is t head objects in
      record {
        spells = subst (λ line. IsGoalLine line ((head ∷ names_at objects) ∷ [])) (sym text) (spells_list head (names_at objects) plain fit.plain);
        is_line = subst IsLine (sym text) (list_is_line head (names_at objects) plain fit.plain);
      }

  -- ---- actions

  module _ (n : PlainGroundName) (typed : IsTypedName t n) where
    abbrev schema_name : PlainTypedSchema → List ℕ
    schema_name s = s.name.text

    action_fits : AreFitting typed.schema.places n.objects
    action_fits =
        let from = pairs_from (IsTypedSchema d p) d.actions t.schemas n.schema typed.schema task.made.schemas typed.there in
        fitting from.0.parameters typed.schema.places n.objects from.2.places typed.fit

    action_is : IsSpelled (action_text t n) typed.schema.name.text n.objects
    action_is =
        spelled (action_text t n) (text_at (schema_texts t) n.schema) typed.schema.name.text n.objects typed.schema.places refl
        (text_is schema_name t.schemas n.schema typed.schema typed.there) (name_is_plain schema_name t.schemas n.schema typed.schema typed.there (schemas_named t task)) action_fits

    pub action_spelled : SpellsAction t (action_text t n) n
    action_spelled = record {
      names = typed.schema.name.text ∷ names_at n.objects;
      spelled = action_is.spells;
      is_action = record { schema = typed.schema; arguments = names_at n.objects; whole = refl; there = typed.there; fit = action_fits.fit };
    }

    action_line : IsLine (action_text t n) × SpellsAction t (action_text t n) n
    action_line = (action_is.is_line, action_spelled)

  pub actions_spelled : (names : List PlainGroundName) → All (IsTypedName t) names → SpellLines (SpellsAction t) (as_lines (map (action_text t) names)) names
  actions_spelled names all =
      lines_spell (SpellsAction t) (action_text t) names (each names (recursion_from_All (IsTypedName t) names all))
    where
      each : (names : List PlainGroundName) → AllByRecursion (IsTypedName t) names → AllByRecursion (λ n. IsLine (action_text t n) × SpellsAction t (action_text t n) n) names
      each [] all = tt
      each (n ∷ names) all = (action_line n all.0, each names all.1)

  -- ---- atoms

  module _ (a : PlainGroundAtom) (typed : IsTypedAtom t a) where
    abbrev predicate_name : PlainTypedPredicate → List ℕ
    predicate_name q = q.name.text

    atom_fits : AreFitting typed.predicate.places a.objects
    atom_fits =
        let from = pairs_from (IsTypedPredicate d p) d.predicates t.predicates a.predicate typed.predicate task.made.predicates typed.there in
        fitting from.0.parameters typed.predicate.places a.objects from.2.places typed.fit

    pub atom_spelled : SpellsGoal t (atom_text t a) (a ∷ [])
    atom_spelled =
        let line = spelled (atom_text t a) (text_at (predicate_texts t) a.predicate) typed.predicate.name.text a.objects typed.predicate.places refl
        (text_is predicate_name t.predicates a.predicate typed.predicate typed.there) (name_is_plain predicate_name t.predicates a.predicate typed.predicate typed.there (predicates_named t task)) atom_fits in
        record {
          atoms = (typed.predicate.name.text ∷ names_at a.objects) ∷ [];
          spelled = line.spells;
          ground_atoms = a ∷ [];
          are_atoms = (record { predicate = typed.predicate; arguments = names_at a.objects; whole = refl; there = typed.there; fit = atom_fits.fit }, tt);
          once = refl;
        }
