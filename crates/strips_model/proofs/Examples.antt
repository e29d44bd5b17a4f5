-- The definitions on worked examples, computed. Fork: from at0 by a and b to at2, and from there by
-- l to the left end atl or by r to the right end atr. Keep: its one action deletes and adds the same
-- atom. Doors: one of two doors is open for good, and the other shut. Lamp: it can be lit where it is not on.
use Rattle.std.specs.Prelude.{◌≡◌, ℕ, zero, suc, ◌<◌, Bool, true, false, nat_eq, codes, List, [], ◌∷◌, map, Option, Some, None, refl}
use Rattle.std.specs.Option.{option_map}
use Rattle.std.specs.Cmp.Lexicographic.{pointwise}
use Rattle.std.proofs.Common.{inl, inr, arith, rules}
use Rattle.grd_base.specs.declared.ids.AtomId.{AtomId}
use Rattle.grd_base.specs.declared.ids.ActionId.{ActionId}
use Rattle.grd_base.specs.declared.ids.GoalId.{GoalId}
use Rattle.strips_model.specs.Values.{PlainTask, GroundAction, PlainWorld}
use Rattle.strips_model.specs.Cuts.{cut}
use Rattle.strips_model.specs.Agents.{Embeds}
use Rattle.strips_model.specs.Plans.{State, set_of, is_step, step, step_without, after, goal_holds, start_of, IsCost}
use Rattle.strips_model.specs.WorldPlans.{world_step, world_step_without, world_after, world_end}
use Rattle.strips_model.specs.Levels.{after_rounds, grown, IsLevel}
use Rattle.strips_model.specs.Worlds.{Instance, World, has_atom, numbered_world, task_of_world, task_of}

-- atoms by their names, as bytes
abbrev Name : Type 0
Name = List ℕ

abbrev same : Name → Name → Bool
same = pointwise nat_eq

abbrev atom : ℕ → AtomId
atom n = record { 0 = n }

abbrev action : ℕ → ActionId
action n = record { 0 = n }

abbrev goal : ℕ → GoalId
goal n = record { 0 = n }

-- the state after a sequence from the start
abbrev from_start : PlainTask → List ActionId → List ActionId → Option State
from_start t removed p = after t removed (start_of t) p

-- which of the first five atoms are true in a state that is reached
abbrev seen : Option State → Option (List Bool)
seen o = option_map (λ s. map s (0 ∷ 1 ∷ 2 ∷ 3 ∷ 4 ∷ [])) o

-- which of the first four goals hold in a state that is reached
abbrev held : PlainTask → Option State → Option (List Bool)
held t o = option_map (λ s. map (λ n. goal_holds t (goal n) s) (0 ∷ 1 ∷ 2 ∷ 3 ∷ [])) o

abbrev from_to : Name → Name → Instance Name
from_to p q = record { pre = p ∷ []; absent = []; add = q ∷ []; del = p ∷ [] }

-- its second goal names its atoms out of order and one of them twice
abbrev fork : World Name
fork = record {
  fluents = codes "at0" ∷ codes "at1" ∷ codes "at2" ∷ codes "atl" ∷ codes "atr" ∷ [];
  is_watched = λ a. false;
  at_start = has_atom same (codes "at0" ∷ []);
  actions = from_to (codes "at0") (codes "at1")
      ∷ from_to (codes "at1") (codes "at2")
      ∷ from_to (codes "at2") (codes "atl")
      ∷ from_to (codes "at2") (codes "atr")
      ∷ [];
  goals = (codes "atl" ∷ [])
      ∷ (codes "atr" ∷ codes "at0" ∷ codes "atr" ∷ [])
      ∷ (codes "at0" ∷ [])
      ∷ [];
}

abbrev by_numbers : ℕ → ℕ → GroundAction
by_numbers p q = record { pre = atom p ∷ []; add = atom q ∷ []; del = atom p ∷ []; blocked = false }

abbrev fork_task : PlainTask
fork_task = record {
  atoms = 5;
  init = atom 0 ∷ [];
  actions = by_numbers 0 1 ∷ by_numbers 1 2 ∷ by_numbers 2 3 ∷ by_numbers 2 4 ∷ [];
  goals = (record { atoms = atom 3 ∷ []; blocked = false })
      ∷ (record { atoms = atom 0 ∷ atom 4 ∷ []; blocked = false })
      ∷ (record { atoms = atom 0 ∷ []; blocked = false })
      ∷ [];
}

fork_by_numbers : task_of same fork ≡ fork_task
fork_by_numbers = refl

abbrev a : ActionId
a = action 0

abbrev b : ActionId
b = action 1

abbrev l : ActionId
l = action 2

a_b_l_ends_left : seen (from_start fork_task [] (a ∷ b ∷ l ∷ [])) ≡ Some (false ∷ false ∷ false ∷ true ∷ false ∷ [])
unfolding after step_without step
a_b_l_ends_left = refl

-- the first goal alone; there is no fourth
a_b_l_reaches_left : held fork_task (from_start fork_task [] (a ∷ b ∷ l ∷ [])) ≡ Some (true ∷ false ∷ false ∷ false ∷ [])
unfolding after step_without step
a_b_l_reaches_left = refl

l_not_at_start : is_step fork_task (start_of fork_task) l ≡ false
unfolding is_step
l_not_at_start = refl

l_leads_nowhere : from_start fork_task [] (l ∷ []) ≡ None
unfolding after step_without step
l_leads_nowhere = refl

removed_leads_nowhere : from_start fork_task (b ∷ []) (a ∷ b ∷ l ∷ []) ≡ None
unfolding after step_without step
removed_leads_nowhere = refl

-- the task has no action with this number
unknown_leads_nowhere : from_start fork_task [] (action 4 ∷ []) ≡ None
unfolding after step_without step
unknown_leads_nowhere = refl

-- a goal that holds at the start costs nothing
at0_costs_nothing : IsCost fork_task (goal 2) [] (Some 0)
unfolding after
at0_costs_nothing = (([], refl, refl), λ p _. omega arith)

-- which of the numbers 0 to 4 are those of actions in the cut of a set
abbrev cut_of : List ActionId → List AtomId → List Bool
cut_of removed u = map (cut fork_task removed (set_of u)) (a ∷ b ∷ l ∷ action 3 ∷ action 4 ∷ [])

-- the sets of fork's start are left by a, by b, and by l and r; none shares an action with another
start_is_left_by_a : cut_of [] (atom 0 ∷ []) ≡ true ∷ false ∷ false ∷ false ∷ false ∷ []
unfolding cut
start_is_left_by_a = refl

before_at2_is_left_by_b : cut_of [] (atom 0 ∷ atom 1 ∷ []) ≡ false ∷ true ∷ false ∷ false ∷ false ∷ []
unfolding cut
before_at2_is_left_by_b = refl

before_the_ends_is_left_by_both : cut_of [] (atom 0 ∷ atom 1 ∷ atom 2 ∷ []) ≡ false ∷ false ∷ true ∷ true ∷ false ∷ []
unfolding cut
before_the_ends_is_left_by_both = refl

removed_action_is_in_no_cut : cut_of (b ∷ []) (atom 0 ∷ atom 1 ∷ []) ≡ false ∷ false ∷ false ∷ false ∷ false ∷ []
unfolding cut
removed_action_is_in_no_cut = refl

-- which of the first five atoms are in the set after some rounds from the start
abbrev grown_to : List ActionId → ℕ → Option (List Bool)
grown_to removed k = seen (Some (after_rounds fork_task removed (start_of fork_task) k))

nothing_is_deleted_in_a_round : grown_to [] 1 ≡ Some (true ∷ true ∷ false ∷ false ∷ false ∷ [])
unfolding after_rounds grown
nothing_is_deleted_in_a_round = refl

left_is_at_level_3 : IsLevel fork_task (goal 0) [] (start_of fork_task) (Some 3)
unfolding after_rounds grown
left_is_at_level_3 = (refl, before)
  where
    before : (k : ℕ) → k < 3 → goal_holds fork_task (goal 0) (after_rounds fork_task [] (start_of fork_task) k) ≡ false
    before zero low = refl
    before (suc zero) low = refl
    before (suc (suc zero)) low = refl
    before (suc (suc (suc k))) low = absurd (omega arith)

at0_is_at_level_0 : IsLevel fork_task (goal 2) [] (start_of fork_task) (Some 0)
unfolding after_rounds grown
at0_is_at_level_0 = (refl, λ k low. absurd (omega arith))

removed_action_adds_in_no_round : grown_to (b ∷ []) 4 ≡ Some (true ∷ true ∷ false ∷ false ∷ false ∷ [])
unfolding after_rounds grown
removed_action_adds_in_no_round = refl

abbrev keep : World Name
keep = record {
  fluents = codes "p" ∷ codes "q" ∷ [];
  is_watched = λ a. false;
  at_start = has_atom same (codes "p" ∷ []);
  actions = (record { pre = codes "p" ∷ []; absent = []; add = codes "q" ∷ codes "p" ∷ []; del = codes "p" ∷ [] }) ∷ [];
  goals = (codes "p" ∷ codes "q" ∷ []) ∷ [];
}

deleted_and_added_is_true : seen (from_start (task_of same keep) [] (action 0 ∷ [])) ≡ Some (true ∷ true ∷ false ∷ false ∷ false ∷ [])
unfolding after step_without step
deleted_and_added_is_true = refl

abbrev through : Name → Instance Name
through door = record { pre = door ∷ []; absent = []; add = codes "inside" ∷ []; del = [] }

-- to go round by a door, it must not be open
abbrev round : Name → Instance Name
round door = record { pre = []; absent = door ∷ []; add = codes "inside" ∷ []; del = [] }

abbrev doors : World Name
doors = record {
  fluents = codes "inside" ∷ [];
  is_watched = λ a. false;
  at_start = has_atom same (codes "open" ∷ []);
  actions = through (codes "open") ∷ through (codes "shut") ∷ round (codes "open") ∷ round (codes "shut") ∷ [];
  goals = (codes "inside" ∷ codes "open" ∷ []) ∷ (codes "inside" ∷ codes "shut" ∷ []) ∷ [];
}

-- static atoms leave the lists; one that is not as it must be blocks
abbrev doors_task : PlainTask
doors_task = record {
  atoms = 1;
  init = [];
  actions = (record { pre = []; add = atom 0 ∷ []; del = []; blocked = false })
      ∷ (record { pre = []; add = atom 0 ∷ []; del = []; blocked = true })
      ∷ (record { pre = []; add = atom 0 ∷ []; del = []; blocked = true })
      ∷ (record { pre = []; add = atom 0 ∷ []; del = []; blocked = false })
      ∷ [];
  goals = (record { atoms = atom 0 ∷ []; blocked = false })
      ∷ (record { atoms = atom 0 ∷ []; blocked = true })
      ∷ [];
}

doors_by_numbers : task_of same doors ≡ doors_task
doors_by_numbers = refl

blocked_leads_nowhere : from_start doors_task [] (action 1 ∷ []) ≡ None
unfolding after step_without step
blocked_leads_nowhere = refl

blocked_goal_never_holds : held doors_task (from_start doors_task [] (action 0 ∷ [])) ≡ Some (true ∷ false ∷ false ∷ false ∷ [])
unfolding after step_without step
blocked_goal_never_holds = refl

a_then_l : Embeds (a ∷ l ∷ []) (a ∷ b ∷ l ∷ [])
a_then_l = inl (refl, inr (inl (refl, tt)))

no_l_then_a : Embeds (l ∷ a ∷ []) (a ∷ b ∷ l ∷ []) → ⊥
no_l_then_a h = search rules

-- one step serves one observation
no_a_twice : Embeds (a ∷ a ∷ []) (a ∷ b ∷ l ∷ []) → ⊥
no_a_twice h = search rules

-- by its atoms: 'light' needs the lamp to be off, 'end' that it is on, and 'dark' switches it off
abbrev lamp_by_names : World Name
lamp_by_names = record {
  fluents = codes "on" ∷ codes "done" ∷ [];
  is_watched = same (codes "on");
  at_start = λ a. false;
  actions = (record { pre = []; absent = codes "on" ∷ []; add = codes "on" ∷ []; del = [] })
      ∷ (record { pre = codes "on" ∷ []; absent = []; add = codes "done" ∷ []; del = [] })
      ∷ (record { pre = codes "on" ∷ []; absent = []; add = []; del = codes "on" ∷ [] })
      ∷ [];
  goals = (codes "on" ∷ []) ∷ (codes "done" ∷ []) ∷ [];
}

-- the same by numbers
abbrev lamp : PlainWorld
lamp = record {
  fluents = 2;
  watched = atom 0 ∷ [];
  init = [];
  actions = (record { pre = []; absent = atom 0 ∷ []; add = atom 0 ∷ []; del = []; blocked = false })
      ∷ (record { pre = atom 0 ∷ []; absent = []; add = atom 1 ∷ []; del = []; blocked = false })
      ∷ (record { pre = atom 0 ∷ []; absent = []; add = []; del = atom 0 ∷ []; blocked = false })
      ∷ [];
  goals = (record { atoms = atom 0 ∷ []; blocked = false }) ∷ (record { atoms = atom 1 ∷ []; blocked = false }) ∷ [];
}

-- atom 2 is the complement of the lamp: true at the start, needed and deleted by 'light', added by 'dark'
abbrev lamp_task : PlainTask
lamp_task = record {
  atoms = 3;
  init = atom 2 ∷ [];
  actions = (record { pre = atom 2 ∷ []; add = atom 0 ∷ []; del = atom 2 ∷ []; blocked = false })
      ∷ (record { pre = atom 0 ∷ []; add = atom 1 ∷ []; del = []; blocked = false })
      ∷ (record { pre = atom 0 ∷ []; add = atom 2 ∷ []; del = atom 0 ∷ []; blocked = false })
      ∷ [];
  goals = (record { atoms = atom 0 ∷ []; blocked = false }) ∷ (record { atoms = atom 1 ∷ []; blocked = false }) ∷ [];
}

lamp_by_numbers : numbered_world same lamp_by_names ≡ lamp
lamp_by_numbers = refl

lamp_is_its_task : task_of_world lamp ≡ lamp_task
lamp_is_its_task = refl

-- it can be lit, but not twice
lit_once : option_map (λ s. map s (0 ∷ 1 ∷ [])) (world_end lamp [] (action 0 ∷ [])) ≡ Some (true ∷ false ∷ [])
unfolding world_after world_step_without world_step
lit_once = refl

not_lit_twice : world_end lamp [] (action 0 ∷ action 0 ∷ []) ≡ None
unfolding world_after world_step_without world_step
not_lit_twice = refl

-- where an atom that must be false is deleted and added, its complement is deleted and not added
added_again : (task_of_world (record {
  fluents = 1;
  watched = atom 0 ∷ [];
  init = [];
  actions = (record { pre = []; absent = atom 0 ∷ []; add = atom 0 ∷ []; del = atom 0 ∷ []; blocked = false }) ∷ [];
  goals = [];
})).actions ≡ (record { pre = atom 1 ∷ []; add = atom 0 ∷ []; del = atom 0 ∷ atom 1 ∷ []; blocked = false }) ∷ []
added_again = refl
