-- The copies of the observed task, and that it is a task.
use Rattle.std.proofs.Common.{◌≡◌, ℕ, zero, suc, ◌+◌, ◌^◌, ◌<◌, ◌≤◌, List, [], ◌∷◌, ◌++◌, length, map, get_or, take, slice_get, refl, sym, ◌∙◌, ap, arith, append_assoc, length-append, inl, inr}
use Rattle.std.specs.List.{All, AllByRecursion}
use Rattle.std.specs.Option.{unwrap_or}
use Rattle.std.proofs.lemmas.List.{length-map, length-take-le, take_more, get_or_past}
use Rattle.std.proofs.lemmas.Bool.{cases_lt}
use Rattle.std.proofs.lemmas.Option.{unwrap_or-slice_get}
use mathlib.Core.Path.{ap₂, subst}
use Rattle.std.proofs.lemmas.List.Elements.{All-nil, All-cons, All-push, All-append, All-map, recursion_from_All}
use Rattle.grd_base.specs.declared.ids.AtomId.{AtomId}
use Rattle.grd_base.specs.declared.ids.ActionId.{ActionId}
use Rattle.grd_base.specs.Rising.{IsRisingBy}
use Rattle.strips_model.specs.Values.{GroundAction, Goal, PlainTask, AreAtoms, IsActionBelow, IsTask}
use Rattle.strips_model.specs.Observed.{atom_of, atom_before, with_more, copy_of, no_action, copies_of, goal_with, observed_task}

-- what is copied for an observation
abbrev pub seen : PlainTask → ActionId → GroundAction
seen t o = unwrap_or (slice_get t.actions o.0) no_action

copies-push : (t : PlainTask) (j k : ℕ) (os : List ActionId) (o : ActionId) → j + length os ≡ k → copies_of t j (os ++ o ∷ []) ≡ copies_of t j os ++ copy_of t k (seen t o) ∷ []
copies-push t j k [] o place = let same : j ≡ k = omega arith in ap (λ n. copy_of t n (seen t o) ∷ []) same
copies-push t j k (p ∷ os) o place = ap (λ rest. copy_of t j (seen t p) ∷ rest) (copies-push t (suc j) k os o (omega arith))

copies_more : (t : PlainTask) (os : List ActionId) (i : ℕ) (o : ActionId) → i < length os
    → copies_of t 0 (take (i + 1) os) ≡ copies_of t 0 (take i os) ++ copy_of t i (seen t (get_or os i o)) ∷ []
copies_more t os i o within = ap (copies_of t 0) (take_more os i o within) ∙ copies-push t 0 i (take i os) (get_or os i o) (omega (arith, length-take-le i os (omega arith)))

-- the next step of the loop that adds the copies
pub copies_next : (t : PlainTask) (os : List ActionId) (i : ℕ) (o : ActionId) (front old new : List GroundAction) (made : GroundAction) → i < length os
    → made ≡ copy_of t i (seen t (get_or os i o)) → old ≡ front ++ copies_of t 0 (take i os) → new ≡ old ++ made ∷ [] → new ≡ front ++ copies_of t 0 (take (i + 1) os)
copies_next t os i o front old new made within copy before step =
    step ∙ ap₂ (λ xs x. xs ++ x ∷ []) before copy ∙ append_assoc front (copies_of t 0 (take i os)) (copy_of t i (seen t (get_or os i o)) ∷ [])
    ∙ ap (λ xs. front ++ xs) (sym (copies_more t os i o within))

length-copies : (t : PlainTask) (j : ℕ) (os : List ActionId) → length (copies_of t j os) ≡ length os
length-copies t j [] = refl
length-copies t j (o ∷ os) = ap suc (length-copies t (suc j) os)

above_more : (n : ℕ) (xs : List AtomId) (a : AtomId) → AllByRecursion (λ y. n < y.0) xs → n < a.0 → AllByRecursion (λ y. n < y.0) (xs ++ a ∷ [])
above_more n [] a above high = (high, tt)
above_more n (x ∷ xs) a above high = (above.0, above_more n xs a above.1 high)

-- a list below a bound with an atom from the bound on behind it rises
rise_more : (bound : ℕ) (xs : List AtomId) (a : AtomId) → IsRisingBy (λ x. x.0) xs → AllByRecursion (λ x. x.0 < bound) xs → bound ≤ a.0 → IsRisingBy (λ x. x.0) (xs ++ a ∷ [])
rise_more bound [] a rise below high = (tt, tt)
rise_more bound (x ∷ xs) a rise below high = (above_more x.0 xs a rise.0 (omega (arith, below.0)), rise_more bound xs a rise.1 below.1 high)

wider : (b c : ℕ) (xs : List AtomId) → b ≤ c → AreAtoms b xs → AreAtoms c xs
wider b c xs wide atoms = record { rise = atoms.rise; below = λ i d within. omega (arith, atoms.below i d within) }

-- atoms of the task with one of an observation behind them
atoms_with : (t : PlainTask) (n k : ℕ) (xs : List AtomId) → AreAtoms t.atoms xs → k < n → AreAtoms (t.atoms + n) (xs ++ atom_of t k ∷ [])
atoms_with t n k xs atoms within = record {
  rise = rise_more t.atoms xs (atom_of t k) atoms.rise (recursion_from_All (λ x. x.0 < t.atoms) xs atoms.below) (omega arith);
  below = All-push (λ x. x.0 < t.atoms + n) xs (atom_of t k) (wider t.atoms (t.atoms + n) xs (omega arith) atoms).below (omega arith);
}

atoms_before : (t : PlainTask) (n k : ℕ) (xs : List AtomId) → AreAtoms t.atoms xs → k ≤ n → AreAtoms (t.atoms + n) (with_more xs (atom_before t k))
atoms_before t n zero xs atoms within = wider t.atoms (t.atoms + n) xs (omega arith) atoms
atoms_before t n (suc k) xs atoms within = atoms_with t n k xs atoms (omega arith)

copy_is : (t : PlainTask) (n k : ℕ) (act : GroundAction) → IsActionBelow t.atoms act → k < n → IsActionBelow (t.atoms + n) (copy_of t k act)
copy_is t n k act action within = record {
  pre = atoms_before t n k act.pre action.pre (omega arith);
  add = atoms_with t n k act.add action.add within;
  del = wider t.atoms (t.atoms + n) act.del (omega arith) action.del;
}

none_is : (bound : ℕ) → IsActionBelow bound no_action
none_is bound =
    let none : AreAtoms bound [] = record { rise = tt; below = All-nil (λ x. x.0 < bound) } in
    record { pre = none; add = none; del = none }

found_or : {X : Type 0} (P : X → Type 0) (xs : List X) (i : ℕ) (d : X) → All P xs → P d → P (unwrap_or (slice_get xs i) d)
found_or P xs i d all other = subst P (sym (unwrap_or-slice_get xs i d)) (elim (cases_lt i (length xs)) as (λ _. P (get_or xs i d)) [
  | inl within ↦ all i d within
  | inr past ↦ subst P (sym (get_or_past xs i d past)) other
])

copies_are : (t : PlainTask) (n k : ℕ) (os : List ActionId) → All (IsActionBelow t.atoms) t.actions → k + length os ≤ n → All (IsActionBelow (t.atoms + n)) (copies_of t k os)
copies_are t n k [] all few = All-nil (IsActionBelow (t.atoms + n))
copies_are t n k (o ∷ os) all few =
    All-cons (IsActionBelow (t.atoms + n)) (copy_of t k (seen t o)) (copies_of t (suc k) os)
    (copy_is t n k (seen t o) (found_or (IsActionBelow t.atoms) t.actions o.0 no_action all (none_is t.atoms)) (omega arith))
    (copies_are t n (suc k) os all (omega arith))

-- the observed task is a task
pub observed_is : (t : PlainTask) (os : List ActionId) → IsTask t → t.atoms ≤ 3072 → length os ≤ 1024 → length t.actions ≤ 2 ^ 20 → IsTask (observed_task t os)
observed_is t os task few_atoms few_observations few_actions =
    let same : (act : GroundAction) → IsActionBelow t.atoms act → IsActionBelow (t.atoms + length os) act = λ act action. record {
      pre = wider t.atoms (t.atoms + length os) act.pre (omega arith) action.pre;
      add = wider t.atoms (t.atoms + length os) act.add (omega arith) action.add;
      del = wider t.atoms (t.atoms + length os) act.del (omega arith) action.del;
    } in
    record {
      width = omega arith;
      init = wider t.atoms (t.atoms + length os) t.init (omega arith) task.init;
      actions = All-append (IsActionBelow (t.atoms + length os)) t.actions (copies_of t 0 os) (λ i d within. same _ (task.actions i d within)) (copies_are t (length os) 0 os task.actions (omega arith));
      goals = All-map (λ g. AreAtoms (t.atoms + length os) g.atoms) (goal_with t (length os)) t.goals (λ i d within. atoms_before t (length os) (length os) _ (task.goals i d within) (omega arith));
      few_actions = omega (arith, length-append t.actions (copies_of t 0 os), length-copies t 0 os);
      few_goals = omega (arith, length-map t.goals (goal_with t (length os)), task.few_goals);
    }

-- what is made of the parts of a task
pub parts_are : (t : PlainTask) (os : List ActionId) (count : ℕ) (init : List AtomId) (actions : List GroundAction) (goals : List Goal) → IsTask t → t.atoms ≤ 3072 → length os ≤ 1024 → length t.actions ≤ 2 ^ 20
    → count ≡ t.atoms → init ≡ t.init → actions ≡ t.actions ++ copies_of t 0 os → goals ≡ map (goal_with t (length os)) t.goals
    → IsTask (record { atoms = count + length os; init = init; actions = actions; goals = goals })
parts_are t os count init actions goals task few_atoms few_observations few_actions counted start acts aimed =
    let same : ◌≡◌ {A = PlainTask} (observed_task t os) (record { atoms = count + length os; init = init; actions = actions; goals = goals }) =
    λ i. record { atoms = sym counted i + length os; init = sym start i; actions = sym acts i; goals = sym aimed i } in
    subst IsTask same (observed_is t os task few_atoms few_observations few_actions)
