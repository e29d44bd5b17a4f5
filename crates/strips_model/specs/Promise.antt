-- The promise: what the clauses of public calls cite of this crate, in the order in which to read it.
-- What is left out serves private contracts alone.

-- What is asked about agents that follow plans.
pub use Rattle.strips_model.specs.Agents.{Plans, IsLeastLength, IsCostAmong, IsOptimalAmong, Embeds}
pub use Rattle.strips_model.specs.Agents.{IsRecognisedAmong, BeginsWith, BeginsOptimalAmong, IsCommonAmong}
pub use Rattle.strips_model.specs.Agents.{HasPlanAmong, HaveFewPlansAmong, IsGreatestAmong, IsWcdAmong}
pub use Rattle.strips_model.specs.Agents.{AreLiveAmong, KeepsCostsAmong, IsBestAmong, IsFrontAmong}
-- The sets of actions that a design may have to look at.
pub use Rattle.strips_model.specs.Useful.{IsUsefulAmong, IsUsefulSetAmong, HasMoreSetsAmong}
-- Agents with slack, which may take some actions more than a goal costs (this project's own wording).
pub use Rattle.strips_model.specs.Slack.{BeginsSlackAmong, IsSlackCommonAmong, IsSlackWcdAmong}
-- Hidden actions.
pub use Rattle.strips_model.specs.Hidden.{visible, IsSeenAmong, IsHiddenCommonAmong, IsHiddenWcdAmong}
-- What contracts see of a task.
pub use Rattle.strips_model.specs.Values.{GroundAction, Goal, PlainTask, AreAtoms, IsActionBelow, IsTask}
pub use Rattle.strips_model.specs.Values.{PlainWitness}
-- States, steps, plans and costs, after PDDL 2.1 without time and numbers.
pub use Rattle.strips_model.specs.Plans.{State, IsOver, set_of, has_all, can_apply, effect, is_step, step}
pub use Rattle.strips_model.specs.Plans.{step_without, after, satisfies, goal_holds, start_of, Reaches}
pub use Rattle.strips_model.specs.Plans.{IsPlan, IsDistance, IsCost, IsOptimal, IsRecognised}
-- The observed task.
pub use Rattle.strips_model.specs.Observed.{atom_of, atom_before, with_more, copy_of, no_action, copies_of}
pub use Rattle.strips_model.specs.Observed.{goal_with, observed_task, read_as}
-- Reached states, and which of them count for a goal.
pub use Rattle.strips_model.specs.Reached.{IsReachedFor, IsNearWithout, IsNear, IsNearSlack, IsNearWithin}
pub use Rattle.strips_model.specs.Reached.{IsNearObserved, IsHiddenPair}
-- What contracts see of an answer about a task with observations and a budget, and when it is right.
pub use Rattle.strips_model.specs.Answers.{IsWitnessAmong, IsRightWcdAmong, IsRightAmong, AreRightAmong, PlainGoalAnswer, PlainDesign}
pub use Rattle.strips_model.specs.Answers.{PlainAnswer, IsRightYes, IsRightGoal, IsRightAnswer}
-- Sequences that are common to two goals, and how long two goals can't be told apart.
pub use Rattle.strips_model.specs.Common.{BeginsOptimal, IsCommon, HasPlan, IsWcd, KeepsCosts, IsBest}
pub use Rattle.strips_model.specs.Common.{IsWitness, IsRightWcd, IsRight, AreRight}
-- Worlds whose actions may ask that atoms be false, by their atoms and by numbers, their plans, and their task.
pub use Rattle.strips_model.specs.Values.{WorldAction, PlainWorld, IsWorldAction, IsWorld}
pub use Rattle.strips_model.specs.Worlds.{Instance, World, has_atom, places_of, numbers_of, is_blocked, is_barred}
pub use Rattle.strips_model.specs.Worlds.{world_action_of, goal_of, numbered_world}
pub use Rattle.strips_model.specs.WorldPlans.{has_none, world_can_apply, world_effect, world_step}
pub use Rattle.strips_model.specs.WorldPlans.{world_step_without, world_after, world_goal_holds, world_end, IsWorldPlan, IsSameEnd}
pub use Rattle.strips_model.specs.Worlds.{complements, task_action, task_of_world, task_of}
-- Cuts.
pub use Rattle.strips_model.specs.Cuts.{leads_out, cut, AreDisjoint, IsEmptyCut, AreApart, IsFamily}
-- The actions over which a state is expanded.
pub use Rattle.strips_model.specs.Moves.{is_allowed, allowed_of, PlainMoves}
-- Levels.
pub use Rattle.strips_model.specs.Levels.{joins, grown, after_rounds, IsLevel, level_within, level_at}
-- States as lists of atoms.
pub use Rattle.strips_model.specs.StateLists.{atoms_from, atoms_in}
-- Lists of actions, one for each atom.
pub use Rattle.strips_model.specs.Index.{listed}
