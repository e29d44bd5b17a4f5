-- The world of a typed domain and problem by numbers, and its task.
use Rattle.std.proofs.Common.{◌≡◌, ℕ, ◌+◌, ◌<◌, ◌≤◌, ◌^◌, Bool, true, false, not, cond, ◌&&◌, ◌||◌, ◌==◌, List, [], ◌∷◌, ◌++◌, length, map, refl, ◌∙◌, ap, inl, inr, arith}
use Rattle.std.specs.Prelude.{All, Contains}
use Rattle.std.specs.List.{AllByRecursion, list_any, filter, flat_map}
use Rattle.std.proofs.lemmas.Bool.{false≢true, or_cases, and_parts}
use Rattle.std.proofs.lemmas.List.{length-map}
use Rattle.std.proofs.lemmas.List.Elements.{All-nil, All-cons, All-head, All-tail, All-map, All-append, All-weaker, All-from_recursion, Contains-append_right}
use Rattle.std.proofs.lemmas.List.Folds.{list_any_at}
use Rattle.grd_base.specs.declared.ids.AtomId.{AtomId}
use Rattle.grd_base.specs.Rising.{IsRisingBy}
use Rattle.grd_base.specs.Sets.{Set}
use Rattle.strips_model.specs.Values.{Goal, WorldAction, PlainWorld, AreAtoms, IsActionBelow, IsTask, IsWorldAction, IsWorld}
use Rattle.strips_model.specs.Worlds.{World, has_atom, places_of, numbers_of, world_action_of, goal_of, numbered_world, complements, task_action, task_of_world}
use Rattle.strips_model.proofs.AtomLists.{number}
use Rattle.type_check.specs.Values.{PlainTyped, PlainTypedSchema, PlainTypedLiteral, PlainGroundAtom, is_same_atom}
use Rattle.ground_all.specs.Tuples.{tuples}
use Rattle.ground_all.specs.Grounding.{is_watched, negatives, ground_literal, instance_of, actions_of, world_of, ground_world}
use Rattle.ground_all.proofs.AtomNumbers.{places_are, places_above, places_rise, places_below}

-- ---- the places of one test among those of another

module _ {A : Type 0} (p q : A → Bool) (weaker : (x : A) → p x ≡ true → q x ≡ true) where
  places_within : (k : ℕ) (xs : List A) → All (Contains (places_of q k xs)) (places_of p k xs)
  places_within k [] = All-nil (Contains [])
  places_within k (x ∷ xs) = by (p x) (q x) (weaker x) (places_within (k + 1) xs)
    where
      later : (ps qs : List AtomId) → All (Contains qs) ps → All (Contains (record { 0 = k } ∷ qs)) ps
      later ps qs all = All-weaker (Contains qs) (Contains (record { 0 = k } ∷ qs)) (λ y has. Contains-append_right (record { 0 = k } ∷ []) qs y has) ps all

      by : (b c : Bool) → (b ≡ true → c ≡ true) → All (Contains (places_of q (k + 1) xs)) (places_of p (k + 1) xs)
          → All (Contains (cond c (record { 0 = k } ∷ places_of q (k + 1) xs) (places_of q (k + 1) xs))) (cond b (record { 0 = k } ∷ places_of p (k + 1) xs) (places_of p (k + 1) xs))
      by true true h all =
          let a : AtomId = record { 0 = k } in
          let here : Contains (a ∷ places_of q (k + 1) xs) a = (0, omega arith, refl) in
          All-cons (Contains (a ∷ places_of q (k + 1) xs)) a (places_of p (k + 1) xs) here (later _ _ all)
      by true false h all = absurd (false≢true (h refl))
      by false true h all = later _ _ all
      by false false h all = all

-- ---- what an instance needs to be false is watched

-- an atom of a negative literal
named_negative : (objects : List ℕ) (ls : List PlainTypedLiteral) (a : PlainGroundAtom) → has_atom is_same_atom (negatives objects ls) a ≡ true
    → list_any (λ l. not l.positive && l.predicate == a.predicate) ls ≡ true
named_negative objects [] a has = has
named_negative objects (l ∷ ls) a has = by l.positive refl has (named_negative objects ls a)
  where
    rest : List PlainGroundAtom
    rest = negatives objects ls

    by : (b : Bool) → l.positive ≡ b → has_atom is_same_atom (map (ground_literal objects) (cond (not b) (l ∷ filter (λ m. not m.positive) ls) (filter (λ m. not m.positive) ls))) a ≡ true
        → (has_atom is_same_atom (negatives objects ls) a ≡ true → list_any (λ m. not m.positive && m.predicate == a.predicate) ls ≡ true)
        → ((not b && l.predicate == a.predicate) || list_any (λ m. not m.positive && m.predicate == a.predicate) ls) ≡ true
    by true at has more = more has
    by false at has more =
        elim (or_cases (is_same_atom (ground_literal objects l) a) (has_atom is_same_atom (negatives objects ls) a) has) [
          | inl here ↦ ap (λ b. b || list_any (λ m. not m.positive && m.predicate == a.predicate) ls) (and_parts _ _ here).0
          | inr later ↦ ap (λ b. (l.predicate == a.predicate) || b) (more later) ∙ or_true (l.predicate == a.predicate)
        ]
      where
        or_true : (b : Bool) → (b || true) ≡ true
        or_true true = refl
        or_true false = refl

-- the schema's negative preconditions have watched predicates
abbrev Watching : PlainTyped → PlainTypedSchema → Type 0
Watching t s = (q : ℕ) → list_any (λ l. not l.positive && l.predicate == q) s.pre ≡ true → is_watched t q ≡ true

schemas_watch : (t : PlainTyped) → All (Watching t) t.schemas
schemas_watch t k s within q has = list_any_at (λ (r : PlainTypedSchema). list_any (λ l. not l.positive && l.predicate == q) r.pre) t.schemas k s within has

all_flat_map : {X Y : Type 0} (P : Y → Type 0) (f : X → List Y) (Q : X → Type 0) → ((x : X) → Q x → All P (f x)) → (xs : List X) → All Q xs → All P (flat_map f xs)
all_flat_map P f Q each [] all = All-nil P
all_flat_map P f Q each (x ∷ xs) all = All-append P (f x) (flat_map f xs) (each x (All-head Q x xs all)) (all_flat_map P f Q each xs (All-tail Q x xs all))

-- ---- the world

numbers_are : (w : World PlainGroundAtom) (xs : List PlainGroundAtom) → AreAtoms (length w.fluents) (numbers_of is_same_atom w xs)
numbers_are w xs = places_are (has_atom is_same_atom xs) w.fluents

-- what is watched of what an instance needs to be false
module _ (t : PlainTyped) (goals : List (List PlainGroundAtom)) where
  abbrev w : World PlainGroundAtom
  w = world_of t goals

  action_over : (s : PlainTypedSchema) (objects : List ℕ) → Watching t s → IsWorldAction (numbered_world is_same_atom w) (world_action_of is_same_atom w (instance_of s objects))
  action_over s objects watching = record {
    pre = numbers_are w _;
    absent = numbers_are w _;
    add = numbers_are w _;
    del = numbers_are w _;
    watched = places_within (has_atom is_same_atom (negatives objects s.pre)) (λ a. is_watched t a.predicate)
        (λ a has. watching a.predicate (named_negative objects s.pre a has)) 0 w.fluents;
  }

  actions_over : All (λ act. IsWorldAction (numbered_world is_same_atom w) (world_action_of is_same_atom w act)) (actions_of t)
  actions_over =
      all_flat_map (λ act. IsWorldAction (numbered_world is_same_atom w) (world_action_of is_same_atom w act))
      (λ s. map (instance_of s) (tuples s.places)) (Watching t)
      (λ s watching. All-map (λ act. IsWorldAction (numbered_world is_same_atom w) (world_action_of is_same_atom w act)) (instance_of s) (tuples s.places)
      (λ k objects within. action_over s _ watching)) t.schemas (schemas_watch t)

  pub world_is : IsWorld (ground_world t goals)
  unfolding ground_world
  world_is = record {
    watched = places_are (λ a. is_watched t a.predicate) w.fluents;
    init = places_are w.at_start w.fluents;
    actions = All-map (IsWorldAction (numbered_world is_same_atom w)) (world_action_of is_same_atom w) (actions_of t) actions_over;
    goals = All-map (λ g. AreAtoms (length w.fluents) g.atoms) (goal_of is_same_atom w) goals (λ k d within. numbers_are w _);
  }

-- ---- the task of a world is one

above_append : (n : ℕ) (xs ys : List AtomId) → AllByRecursion (λ a. n < a.0) xs → AllByRecursion (λ a. n < a.0) ys → AllByRecursion (λ a. n < a.0) (xs ++ ys)
above_append n [] ys all more = more
above_append n (x ∷ xs) ys all more = (all.0, above_append n xs ys all.1 more)

-- a rising list in front of one whose atoms are all higher
rise_append : (bound : ℕ) (xs ys : List AtomId) → IsRisingBy number xs → All (λ a. a.0 < bound) xs → IsRisingBy number ys
    → ((n : ℕ) → n < bound → AllByRecursion (λ a. n < a.0) ys) → IsRisingBy number (xs ++ ys)
rise_append bound [] ys rise below rises above = rises
rise_append bound (x ∷ xs) ys rise below rises above = (
  above_append x.0 xs ys rise.0 (above x.0 (All-head (λ a. a.0 < bound) x xs below)),
  rise_append bound xs ys rise.1 (All-tail (λ a. a.0 < bound) x xs below) rises above,
)

module _ (w : PlainWorld) where
  abbrev all_atoms : ℕ
  all_atoms = w.fluents + length w.watched

  -- fluent atoms and complements
  with_complements : (xs : List AtomId) (s : Set) → AreAtoms w.fluents xs → AreAtoms all_atoms (xs ++ complements w s)
  with_complements xs s are = record {
    rise = rise_append w.fluents xs (complements w s) are.rise are.below (places_rise (λ a. s a.0) w.fluents w.watched) (λ n lt. places_above (λ a. s a.0) n w.fluents w.watched lt);
    below = All-append (λ a. a.0 < all_atoms) xs (complements w s)
        (All-weaker (λ (a : AtomId). a.0 < w.fluents) (λ a. a.0 < all_atoms) (λ a lt. omega arith) xs are.below)
        (All-from_recursion (λ a. a.0 < all_atoms) _ (places_below (λ a. s a.0) all_atoms w.fluents w.watched (omega arith)));
  }

  action_below : (act : WorldAction) → IsWorldAction w act → IsActionBelow all_atoms (task_action w act)
  action_below act is = record {
    pre = with_complements act.pre _ is.pre;
    add = with_complements act.add _ is.add;
    del = with_complements act.del _ is.del;
  }

  pub task_of_world_is : IsWorld w → all_atoms ≤ 4096 → length w.actions ≤ 2 ^ 21 → length w.goals ≤ 32 → IsTask (task_of_world w)
  task_of_world_is is few_atoms few_actions few_goals = record {
    width = few_atoms;
    init = with_complements w.init _ is.init;
    actions = All-map (IsActionBelow all_atoms) (task_action w) w.actions (All-weaker (IsWorldAction w) (λ act. IsActionBelow all_atoms (task_action w act)) action_below w.actions is.actions);
    goals = All-weaker (λ (g : Goal). AreAtoms w.fluents g.atoms) (λ g. AreAtoms all_atoms g.atoms)
        (λ g are. record { rise = are.rise; below = All-weaker (λ (a : AtomId). a.0 < w.fluents) (λ a. a.0 < all_atoms) (λ a lt. omega arith) g.atoms are.below }) w.goals is.goals;
    few_actions = omega (arith, length-map w.actions (task_action w));
    few_goals = few_goals;
  }
