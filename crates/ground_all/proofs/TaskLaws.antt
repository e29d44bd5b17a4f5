-- The task of a grounded world, by its parts.
use Rattle.std.proofs.Common.{◌≡◌, ℕ, ◌+◌, ◌^◌, ◌<◌, ◌≤◌, Bool, true, false, not, ◌&&◌, ◌||◌, ◌==◌, List, [], ◌∷◌, ◌++◌, length, map, get_or, take, refl, sym, ◌∙◌, ap, subst, arith, Some, slice_get, append_assoc, append-nil, length-append}
use mathlib.Core.Path.{ap₂}
use Rattle.std.specs.List.{All, flat_map}
use Rattle.std.proofs.lemmas.Bool.{eq-eqb}
use Rattle.std.proofs.lemmas.List.{length-map, map_more, map-append, take_more}
use Rattle.std.proofs.lemmas.List.Concat.{flat_map-append}
use Rattle.std.proofs.lemmas.List.Elements.{All-nil, All-cons}
use Rattle.std.proofs.lemmas.List.Folds.{list_any_at}
use Rattle.std.proofs.lemmas.Option.{slice_get_within, get_or_from_slice_get}
use Rattle.grd_base.specs.declared.ids.AtomId.{AtomId}
use Rattle.grd_base.specs.Rising.{IsRisingBy}
use Rattle.grd_base.specs.Sets.{minus}
use Rattle.strips_model.specs.Values.{GroundAction, Goal, WorldAction, PlainTask, PlainWorld, IsTask}
use Rattle.strips_model.specs.Plans.{set_of}
use Rattle.strips_model.specs.Worlds.{Instance, World, has_atom, numbers_of, is_blocked, is_barred, world_action_of, goal_of, complements, task_action, task_of_world}
use Rattle.strips_model.proofs.AtomLists.{number}
use Rattle.type_check.specs.Values.{PlainTyped, PlainTypedSchema, PlainGroundAtom, PlainGroundName, is_same_atom}
use Rattle.ground_all.specs.Tuples.{tuples, numbered}
use Rattle.ground_all.specs.Grounding.{names_of_schema, fluent_atoms, task_atoms, instances, positives, negatives, instance_of, actions_of, world_of, ground_world, ground_task}
use Rattle.ground_all.specs.Found.{start_world, start_numbers, watched_numbers, instance_action}
use Rattle.ground_all.proofs.AtomNumbers.{places_rise}
use Rattle.ground_all.proofs.ComplementLaws.{places_same}
use Rattle.ground_all.proofs.AtomKeys.{start_is}
use Rattle.ground_all.proofs.WatchedLaws.{length-kept}
use Rattle.ground_all.proofs.WorldLaws.{world_is, task_of_world_is}

-- a ground action by the atoms of its literals
pub action_is : (w : World PlainGroundAtom) (s : PlainTypedSchema) (objects : List ℕ) (pre absent add del : List AtomId) (blocked : Bool) (needed missing added removed : List PlainGroundAtom)
    → needed ≡ positives objects s.pre → missing ≡ negatives objects s.pre → added ≡ positives objects s.effect → removed ≡ negatives objects s.effect
    → pre ≡ numbers_of is_same_atom w needed → absent ≡ numbers_of is_same_atom w missing → add ≡ numbers_of is_same_atom w added → del ≡ numbers_of is_same_atom w removed
    → blocked ≡ (is_blocked is_same_atom w needed || is_barred is_same_atom w missing)
    → ◌≡◌ {A = WorldAction} (record { pre = pre; absent = absent; add = add; del = del; blocked = blocked }) (world_action_of is_same_atom w (instance_of s objects))
action_is w s objects pre absent add del blocked needed missing added removed np nm na nd ep em ea ed eb =
    let pres : pre ≡ numbers_of is_same_atom w (positives objects s.pre) = ep ∙ ap (numbers_of is_same_atom w) np in
    let lacks : absent ≡ numbers_of is_same_atom w (negatives objects s.pre) = em ∙ ap (numbers_of is_same_atom w) nm in
    let adds : add ≡ numbers_of is_same_atom w (positives objects s.effect) = ea ∙ ap (numbers_of is_same_atom w) na in
    let dels : del ≡ numbers_of is_same_atom w (negatives objects s.effect) = ed ∙ ap (numbers_of is_same_atom w) nd in
    let blocks : blocked ≡ (is_blocked is_same_atom w (positives objects s.pre) || is_barred is_same_atom w (negatives objects s.pre)) =
    eb ∙ ap₂ (λ xs ys. is_blocked is_same_atom w xs || is_barred is_same_atom w ys) np nm in
    λ i. record { pre = pres i; absent = lacks i; add = adds i; del = dels i; blocked = blocks i }

-- the action of the task, with the complements of three lists
pub task_action_is : (w : PlainWorld) (act plain : WorldAction) (missing added removed others : List AtomId) (pre none lost add del : List AtomId) → plain ≡ act
    → missing ≡ plain.absent → added ≡ plain.add → others ≡ plain.add → removed ≡ plain.del → none ≡ []
    → pre ≡ plain.pre ++ complements w (set_of missing) → lost ≡ none ++ complements w (minus (set_of removed) (set_of others))
    → del ≡ plain.del ++ complements w (set_of added) → add ≡ plain.add ++ lost
    → ◌≡◌ {A = GroundAction} (record { pre = pre; add = add; del = del; blocked = plain.blocked }) (task_action w act)
task_action_is w act plain missing added removed others pre none lost add del same lacks adds keeps dels empty ep el ed ea =
    let pres : pre ≡ plain.pre ++ complements w (set_of plain.absent) = ep ∙ ap (λ xs. plain.pre ++ complements w (set_of xs)) lacks in
    let loses : lost ≡ complements w (minus (set_of plain.del) (set_of plain.add)) =
    el ∙ ap (λ (xs : List AtomId). xs ++ complements w (minus (set_of removed) (set_of others))) empty ∙ ap₂ (λ xs ys. complements w (minus (set_of xs) (set_of ys))) dels keeps in
    let all : add ≡ plain.add ++ complements w (minus (set_of plain.del) (set_of plain.add)) = ea ∙ ap (λ xs. plain.add ++ xs) loses in
    let rest : del ≡ plain.del ++ complements w (set_of plain.add) = ed ∙ ap (λ xs. plain.del ++ complements w (set_of xs)) adds in
    let made : ◌≡◌ {A = GroundAction} (record { pre = pre; add = add; del = del; blocked = plain.blocked }) (task_action w plain) =
    λ i. record { pre = pres i; add = all i; del = rest i; blocked = plain.blocked } in
    made ∙ ap (task_action w) same

-- one more of a list that is mapped, behind others
pub behind_next : {X Y : Type 0} (f : X → Y) (xs : List X) (n : ℕ) (x : X) (front old new : List Y) (y : Y) → slice_get xs n ≡ Some x
    → old ≡ front ++ map f (take n xs) → y ≡ f x → new ≡ old ++ y ∷ [] → new ≡ front ++ map f (take (n + 1) xs)
behind_next f xs n x front old new y there before made step =
    step ∙ ap₂ (λ ys z. ys ++ z ∷ []) before (made ∙ ap f (sym (get_or_from_slice_get xs n x x there))) ∙ append_assoc front (map f (take n xs)) (f (get_or xs n x) ∷ [])
    ∙ ap (λ ys. front ++ ys) (sym (map_more f xs n x (slice_get_within xs n x there)))

map-map : {X Y Z : Type 0} (f : Y → Z) (g : X → Y) (xs : List X) → map f (map g xs) ≡ map (λ x. f (g x)) xs
map-map f g [] = refl
map-map f g (x ∷ xs) = ap (λ ys. f (g x) ∷ ys) (map-map f g xs)

-- the instances of one more schema
pub instances_next : (act : Instance PlainGroundAtom → GroundAction) (schemas : List PlainTypedSchema) (i : ℕ) (s : PlainTypedSchema) (old new : List GroundAction) → i < length schemas
    → s ≡ get_or schemas i s → old ≡ map act (flat_map (λ (r : PlainTypedSchema). map (instance_of r) (tuples r.places)) (take i schemas))
    → new ≡ old ++ map (λ objects. act (instance_of s objects)) (tuples s.places)
    → new ≡ map act (flat_map (λ (r : PlainTypedSchema). map (instance_of r) (tuples r.places)) (take (i + 1) schemas))
instances_next act schemas i s old new within is before step =
    let each : PlainTypedSchema → List (Instance PlainGroundAtom) = λ r. map (instance_of r) (tuples r.places) in
    let front : List PlainTypedSchema = take i schemas in
    step ∙ ap₂ (λ (xs ys : List GroundAction). xs ++ ys) before (sym (map-map act (instance_of s) (tuples s.places)))
    ∙ sym (map-append act (flat_map each front) (each s)) ∙ ap (λ xs. map act (flat_map each front ++ xs)) (sym (append-nil (each s)))
    ∙ ap (map act) (sym (flat_map-append each front (s ∷ [])))
    ∙ ap (λ r. map act (flat_map each (front ++ r ∷ []))) is ∙ ap (λ xs. map act (flat_map each xs)) (sym (take_more schemas i s within))

-- the names of instances, and the instances themselves
names_from : ℕ → List PlainTypedSchema → List PlainGroundName
names_from k schemas = flat_map (λ x. names_of_schema x.0 x.1) (numbered k schemas)

length-names : (k : ℕ) (s : PlainTypedSchema) → length (names_of_schema k s) ≡ length (tuples s.places)
length-names k s = length-map (tuples s.places) (λ objects. record { schema = k; objects = objects })

length-names_from : (k : ℕ) (schemas : List PlainTypedSchema) → length (flat_map (λ (s : PlainTypedSchema). map (instance_of s) (tuples s.places)) schemas) ≡ length (names_from k schemas)
unfolding names_from
length-names_from k [] = refl
length-names_from k (s ∷ schemas) =
    omega (
      arith,
      length-append (map (instance_of s) (tuples s.places)) (flat_map (λ (r : PlainTypedSchema). map (instance_of r) (tuples r.places)) schemas),
      length-append (names_of_schema k s) (names_from (k + 1) schemas),
      length-map (tuples s.places) (instance_of s),
      length-names k s,
      length-names_from (k + 1) schemas,
    )

-- as many as their names
pub length-actions_of : (t : PlainTyped) → length (actions_of t) ≡ length (instances t)
unfolding instances names_from
length-actions_of t = length-names_from 0 t.schemas

few_from : (n k : ℕ) (schemas : List PlainTypedSchema) → length (names_from k schemas) ≤ n → All (λ s. length (tuples s.places) ≤ n) schemas
unfolding names_from
few_from n k [] few = All-nil (λ (s : PlainTypedSchema). length (tuples s.places) ≤ n)
few_from n k (s ∷ schemas) few =
    let both : length (names_of_schema k s ++ names_from (k + 1) schemas) ≡ length (names_of_schema k s) + length (names_from (k + 1) schemas) = length-append (names_of_schema k s) (names_from (k + 1) schemas) in
    All-cons (λ (r : PlainTypedSchema). length (tuples r.places) ≤ n) s schemas (omega (arith, length-names k s)) (few_from n (k + 1) schemas (omega arith))

-- each schema has no more instances than all of them
pub few_tuples : (n : ℕ) (t : PlainTyped) → length (instances t) ≤ n → All (λ s. length (tuples s.places) ≤ n) t.schemas
unfolding instances names_from
few_tuples n t few = few_from n 0 t.schemas few

-- the lists of a ground action rise
pub numbers_rise : (w : World PlainGroundAtom) (xs : List PlainGroundAtom) → IsRisingBy number (numbers_of is_same_atom w xs)
numbers_rise w xs = places_rise (has_atom is_same_atom xs) 0 w.fluents

-- the atoms at the start, with the complements of the watched ones that are not among them
pub start_atoms_are : (t : PlainTyped) (init lacking watched : List AtomId) (true_atoms : List PlainGroundAtom) → true_atoms ≡ t.init → init ≡ numbers_of is_same_atom (start_world t) true_atoms
    → watched ≡ watched_numbers t → lacking ≡ complements (start_numbers t) (minus (set_of watched) (set_of init)) → init ++ lacking ≡ (task_of_world (start_numbers t)).init
start_atoms_are t init lacking watched true_atoms start numbered listed found =
    let w : PlainWorld = start_numbers t in
    let first : init ≡ w.init = numbered ∙ ap (numbers_of is_same_atom (start_world t)) start ∙ sym (start_is t) in
    ap₂ ◌++◌ first (found ∙ ap₂ (λ xs ys. complements w (minus (set_of xs) (set_of ys))) listed first
    ∙ places_same (λ a. not (set_of w.init a.0)) (λ a. minus (set_of w.watched) (set_of w.init) a.0) w.fluents w.watched
    (λ j d within. ap (λ b. not (set_of w.init (get_or w.watched j d).0) && b) (list_any_at (λ a. a.0 == (get_or w.watched j d).0) w.watched j d within (eq-eqb (get_or w.watched j d).0 (get_or w.watched j d).0 refl))
    ∙ and_true (not (set_of w.init (get_or w.watched j d).0))))
  where
    and_true : (b : Bool) → (b && true) ≡ b
    and_true true = refl
    and_true false = refl

-- the task of the world is one
task_parts : (t : PlainTyped) (goals : List (List PlainGroundAtom)) → length (task_atoms t) ≤ 3072 → length (instances t) ≤ 2 ^ 20 → length goals ≤ 32 → IsTask (ground_task t goals)
unfolding ground_world
task_parts t goals few_atoms few_actions few_goals =
    task_of_world_is (ground_world t goals) (world_is t goals)
    (omega (arith, length-kept t (length (fluent_atoms t)) (watched_numbers t) refl refl))
    (omega (arith, length-actions_of t, length-map (actions_of t) (world_action_of is_same_atom (world_of t goals))))
    (omega (arith, length-map goals (goal_of is_same_atom (world_of t goals))))

-- what is made of a typed task's own lists
module _ (t : PlainTyped) (goals : List (List PlainGroundAtom)) (count : ℕ) (init : List AtomId) (actions : List GroundAction) (conditions : List Goal) (schemas : List PlainTypedSchema)
    (counted : count ≡ length (task_atoms t)) (all : schemas ≡ t.schemas) (starts : init ≡ (task_of_world (start_numbers t)).init)
    (made : actions ≡ map (instance_action t) (flat_map (λ (s : PlainTypedSchema). map (instance_of s) (tuples s.places)) schemas))
    (aimed : conditions ≡ map (goal_of is_same_atom (start_world t)) goals) where
  pub task_is : ◌≡◌ {A = PlainTask} (record { atoms = count; init = init; actions = actions; goals = conditions }) (ground_task t goals)
  unfolding ground_world
  task_is =
      let w : World PlainGroundAtom = start_world t in
      let many : count ≡ length (fluent_atoms t) + length (watched_numbers t) = counted ∙ sym (length-kept t (length (fluent_atoms t)) (watched_numbers t) refl refl) in
      let acts : actions ≡ map (task_action (start_numbers t)) (map (world_action_of is_same_atom w) (actions_of t)) =
      made ∙ ap (λ ss. map (instance_action t) (flat_map (λ (s : PlainTypedSchema). map (instance_of s) (tuples s.places)) ss)) all
      ∙ sym (map-map (task_action (start_numbers t)) (world_action_of is_same_atom w) (actions_of t)) in
      λ i. record { atoms = many i; init = starts i; actions = acts i; goals = aimed i }

  pub parts_are : length (task_atoms t) ≤ 3072 → length (instances t) ≤ 2 ^ 20 → length goals ≤ 32 → IsTask (record { atoms = count; init = init; actions = actions; goals = conditions })
  parts_are few_atoms few_actions few_goals = subst IsTask (sym task_is) (task_parts t goals few_atoms few_actions few_goals)

-- ---- the counts of a world's task

pub task_atoms_many : (t : PlainTyped) (goals : List (List PlainGroundAtom)) → (ground_task t goals).atoms ≡ length (task_atoms t)
unfolding ground_world
task_atoms_many t goals = length-kept t (length (fluent_atoms t)) (watched_numbers t) refl refl

pub task_actions : (t : PlainTyped) (goals : List (List PlainGroundAtom)) → length (ground_task t goals).actions ≡ length (instances t)
unfolding ground_world
task_actions t goals =
    length-map (map (world_action_of is_same_atom (world_of t goals)) (actions_of t)) (task_action (ground_world t goals))
    ∙ length-map (actions_of t) (world_action_of is_same_atom (world_of t goals)) ∙ length-actions_of t
