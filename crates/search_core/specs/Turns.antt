-- What the steps of a best-first search leave. Only private contracts speak of it.
use Rattle.std.specs.Prelude.{◌≡◌, ℕ, ◌+◌, ◌-◌, ◌*◌, ◌≤◌, ◌<◌, List, [], ◌∷◌, ◌++◌, length, Option, Some, Bool, true, false, All, Contains, slice_get, ◌⊎◌}
use Rattle.std.specs.List.Sorted.{IsPermutation}
use Rattle.grd_base.specs.declared.limits.Bound.{Bound}
use Rattle.grd_base.specs.declared.limits.Bound.TheVariants.{Steps, Never}
use Rattle.indexmap.specs.Layout.{set_value_at}
use Rattle.grd_base.specs.declared.ids.ActionId.{ActionId}
use Rattle.grd_base.specs.Counts.{MoreThan}
use Rattle.search_core.specs.Tables.{AreRefuted, AreCounted}
use Rattle.search_core.specs.declared.rows.LeastAnswer.{LeastAnswer}
use Rattle.search_core.specs.declared.nodes.Node.{Node}
use Rattle.search_core.specs.declared.nodes.Question.{Question}
use Rattle.search_core.specs.declared.nodes.Reach.{Reach}
use Rattle.search_core.specs.declared.ways.Head.{Head}
use Rattle.search_core.specs.LeastAnswers.{CountsForLeast, IsLeastAnswer, least_rows, HasLeastRow}
use Rattle.search_core.specs.declared.ways.Way.{Way}
use Rattle.search_core.specs.declared.queue.Ticket.{Ticket}
use Rattle.search_core.specs.Spaces.{Successors}
use Rattle.search_core.specs.Nodes.{Entry, IsHeldBy, IsNoDeeper, IsTotalAtMost, IsTicket, AreQueued, AreQueuedBut, AreClosed, AreClosedBut, AreNodes, weight}

-- whether a bound is a number
abbrev pub has_number : Bound → Bool
has_number (Steps number) = true
has_number Never = false

-- the queue has one more ticket, for this place, depth and bound; at `Never` it has not
abbrev pub IsWaiting : List Ticket → List Ticket → ℕ → ℕ → Bound → Type 0
IsWaiting old new place depth (Steps number) = IsPermutation (record { total = depth + number; bound = number; place = record { 0 = place } } ∷ old) new
IsWaiting old new place depth Never = new ≡ old

-- one more entry, with this state and this way; it waits unless its bound is `Never`
pub record IsEntered {S M : Type 0} (shows : S → M → Bound → Type 0) (old new : List (Entry S M)) (before after : List Ticket) (s : S) (way : Way) : Type 0 where
  pub entry : Entry S M
  pub pushed : new ≡ old ++ entry ∷ []
  pub state_is : entry.0 ≡ s
  pub way_is : entry.1.way ≡ way
  pub shown : shows s entry.1.mark entry.1.bound
  pub waits : entry.1.waits ≡ has_number entry.1.bound
  pub expanded : entry.1.expanded ≡ false
  pub queued : IsWaiting before after (length old) way.depth entry.1.bound

-- at this place the entry's state stands, with the same bound, no deeper
pub record IsEasedAt {S M : Type 0} (entries : List (Entry S M)) (place : ℕ) (before : Entry S M) : Type 0 where
  pub entry : Entry S M
  pub at : slice_get entries place ≡ Some entry
  pub state_is : entry.0 ≡ before.0
  pub no_deeper : entry.1.way.depth ≤ before.1.way.depth
  pub bound_is : entry.1.bound ≡ before.1.bound

-- entries were added, and depths lowered
pub record IsEased {S M : Type 0} (old new : List (Entry S M)) : Type 0 where
  pub each : (i : ℕ) (e : Entry S M) → slice_get old i ≡ Some e → IsEasedAt new i e

-- between two turns: the start is held, and each state that was found waits, was expanded, or has a
-- mark that shows `Never`
pub record IsBetween {S M : Type 0} (next : Successors S) (is_done : S → Bool) (level : S → Option ℕ) (shows : S → M → Bound → Type 0) (start : S) (limit kept : ℕ) (entries : List (Entry S M)) (tickets : List Ticket) : Type 0 where
  pub nodes : AreNodes next is_done level shows start limit kept entries tickets
  pub root : IsHeldBy entries start 0
  pub queued : AreQueued entries tickets
  pub closed : AreClosed next entries

-- the entry at this place has this state and this depth, and was expanded
pub record IsHead {S M : Type 0} (entries : List (Entry S M)) (place depth : ℕ) (s : S) : Type 0 where
  pub entry : Entry S M
  pub at : slice_get entries place ≡ Some entry
  pub state_is : entry.0 ≡ s
  pub depth_is : entry.1.way.depth ≡ depth
  pub waits : entry.1.waits ≡ false
  pub expanded : entry.1.expanded ≡ true

-- while the state at a place is expanded
pub record IsExpanding {S M : Type 0} (next : Successors S) (is_done : S → Bool) (level : S → Option ℕ) (shows : S → M → Bound → Type 0) (start : S) (limit kept : ℕ) (entries : List (Entry S M)) (tickets : List Ticket) (place depth : ℕ) (s : S) : Type 0 where
  pub nodes : AreNodes next is_done level shows start limit kept entries tickets
  pub root : IsHeldBy entries start 0
  pub queued : AreQueued entries tickets
  pub closed : AreClosedBut next entries place
  pub head : IsHead entries place depth s

-- the state at a place was taken out of the queue, and no state that waits has a lower total
pub record IsNext {S M : Type 0} (entries : List (Entry S M)) (tickets : List Ticket) (place : ℕ) : Type 0 where
  pub entry : Entry S M
  pub at : slice_get entries place ≡ Some entry
  pub waits : entry.1.waits ≡ true
  pub issued : All (IsTicket entries) tickets
  pub queued : AreQueuedBut entries tickets place
  pub least : (i : ℕ) (e : Entry S M) (n : ℕ) → slice_get entries i ≡ Some e → e.1.waits ≡ true → IsTotalAtMost e.1.way.depth e.1.bound n → IsTotalAtMost entry.1.way.depth entry.1.bound n

-- no state waits
abbrev pub NoneWaits : {S M : Type 0} → List (Entry S M) → Type 0
NoneWaits {S} {M} entries = (i : ℕ) (e : Entry S M) → slice_get entries i ≡ Some e → e.1.waits ≡ false

-- the node, reached in another way, waits
abbrev pub lowered : {M : Type 0} → Node M → Way → Node M
lowered node way = record { way = way; bound = node.bound; mark = node.mark; waits = true; expanded = node.expanded }

-- the node was expanded and does not wait
abbrev pub marked : {M : Type 0} → Node M → Node M
marked node = record { way = node.way; bound = node.bound; mark = node.mark; waits = false; expanded = true }

-- nothing changed, since the state at the place is no deeper than by this way
pub record IsLeft {S M : Type 0} (old new : List (Entry S M)) (before after : List Ticket) (entry : Entry S M) (way : Way) : Type 0 where
  pub no_deeper : IsNoDeeper entry.1.bound entry.1.way.depth way.depth
  pub same : new ≡ old
  pub queue : after ≡ before

-- the state at the place took this way over, which is shorter, and waits
pub record IsReopened {S M : Type 0} (old new : List (Entry S M)) (before after : List Ticket) (place : ℕ) (entry : Entry S M) (way : Way) : Type 0 where
  pub deeper : IsNoDeeper entry.1.bound entry.1.way.depth way.depth → ⊥
  pub changed : new ≡ set_value_at old place (lowered entry.1 way)
  pub queued : IsWaiting before after place way.depth entry.1.bound

-- one of the two
pub record IsLowered {S M : Type 0} (old new : List (Entry S M)) (before after : List Ticket) (place : ℕ) (way : Way) : Type 0 where
  pub entry : Entry S M
  pub at : slice_get old place ≡ Some entry
  pub by : IsLeft old new before after entry way ⊎ IsReopened old new before after place entry way

-- the state at the place, at this depth, was expanded
pub record IsMarked {S M : Type 0} (old new : List (Entry S M)) (place depth : ℕ) : Type 0 where
  pub entry : Entry S M
  pub at : slice_get old place ≡ Some entry
  pub depth_is : entry.1.way.depth ≡ depth
  pub changed : new ≡ set_value_at old place (marked entry.1)

-- what falls at each turn, where `kept` of at most `limit` states were expanded
abbrev pub measure : {S M : Type 0} → ℕ → ℕ → List (Entry S M) → ℕ
measure limit kept entries = weight entries + (limit - kept) * (2 * limit + 2)

-- a step from a state
abbrev pub IsStepOf : {S : Type 0} → Successors S → S → ActionId × S → Type 0
IsStepOf next s step = Contains (next s) step

-- steps from a state
abbrev pub AreStepsOf : {S : Type 0} → Successors S → S → List (ActionId × S) → Type 0
AreStepsOf next s steps = All (λ step. Contains (next s) step) steps

-- after a step from the state at a place
pub record IsStep {S M : Type 0} (next : Successors S) (is_done : S → Bool) (level : S → Option ℕ) (shows : S → M → Bound → Type 0) (start : S) (limit kept now : ℕ) (old new : List (Entry S M)) (tickets : List Ticket) (place depth : ℕ) (s : S) : Type 0 where
  pub expanding : IsExpanding next is_done level shows start limit now new tickets place depth s
  pub same : now ≡ kept
  pub eased : IsEased old new
  pub no_heavier : weight new ≤ weight old

-- the state at the place was taken out of the queue, of what holds between two turns
pub record IsTakenOut {S M : Type 0} (next : Successors S) (is_done : S → Bool) (level : S → Option ℕ) (shows : S → M → Bound → Type 0) (start : S) (limit kept : ℕ) (entries : List (Entry S M)) (tickets : List Ticket) (place : ℕ) : Type 0 where
  pub before : List Ticket
  pub nodes : AreNodes next is_done level shows start limit kept entries before
  pub root : IsHeldBy entries start 0
  pub closed : AreClosed next entries
  pub here : IsNext entries tickets place

-- a done state was taken out of the queue
pub record IsEnd {S M : Type 0} (next : Successors S) (is_done : S → Bool) (level : S → Option ℕ) (shows : S → M → Bound → Type 0) (start : S) (limit kept : ℕ) (entries : List (Entry S M)) (tickets : List Ticket) (place : ℕ) : Type 0 where
  pub taken : IsTakenOut next is_done level shows start limit kept entries tickets place
  pub done : is_done taken.here.entry.0 ≡ true

-- no state waits
pub record IsSpent {S M : Type 0} (next : Successors S) (is_done : S → Bool) (level : S → Option ℕ) (shows : S → M → Bound → Type 0) (start : S) (limit kept : ℕ) (entries : List (Entry S M)) (tickets : List Ticket) : Type 0 where
  pub before : List Ticket
  pub nodes : AreNodes next is_done level shows start limit kept entries before
  pub root : IsHeldBy entries start 0
  pub closed : AreClosed next entries
  pub none : NoneWaits entries

-- what an answer says, all together
pub record IsAnswer {S M : Type 0} (next : Successors S) (is_done : S → Bool) (level : S → Option ℕ) (shows : S → M → Bound → Type 0) (start : S) (limit : ℕ) (answer : LeastAnswer S M) : Type 0 where
  pub right : IsLeastAnswer next is_done start limit answer
  pub refuted : AreRefuted next is_done shows (least_rows answer)
  pub start_row : HasLeastRow start answer
  pub counted : AreCounted next (CountsForLeast next is_done level start) start limit (least_rows answer)

-- the same for a question of the program, by the meanings of its space and of its floor
module _ {Sp Fl S M : Type 0} (next : Sp → Successors S) (is_done : Sp → S → Bool) (level : Sp → S → Option ℕ) (shows : Fl → Sp → S → M → Bound → Type 0) (question : Question Sp Fl S) where
  abbrev pub IsUnderWay : Reach S M → Type 0
  IsUnderWay reach = IsBetween (next question.space.now) (is_done question.space.now) (level question.space.now) (shows question.floor.now question.space.now) question.start question.limit reach.kept reach.found.entries reach.queue

  abbrev pub IsTaken : Reach S M → ℕ → Type 0
  IsTaken reach place = IsTakenOut (next question.space.now) (is_done question.space.now) (level question.space.now) (shows question.floor.now question.space.now) question.start question.limit reach.kept reach.found.entries reach.queue place

  abbrev pub IsAtWork : Reach S M → Head → S → Type 0
  IsAtWork reach head s = IsExpanding (next question.space.now) (is_done question.space.now) (level question.space.now) (shows question.floor.now question.space.now) question.start question.limit reach.kept reach.found.entries reach.queue head.place head.depth s

  abbrev pub GoesOn : Reach S M → Reach S M → Head → S → Type 0
  GoesOn old new head s = IsStep (next question.space.now) (is_done question.space.now) (level question.space.now) (shows question.floor.now question.space.now) question.start question.limit old.kept new.kept old.found.entries new.found.entries new.queue head.place head.depth s

  abbrev pub IsFoundAt : Reach S M → ℕ → Type 0
  IsFoundAt reach place = IsEnd (next question.space.now) (is_done question.space.now) (level question.space.now) (shows question.floor.now question.space.now) question.start question.limit reach.kept reach.found.entries reach.queue place

  abbrev pub IsEmptied : Reach S M → Type 0
  IsEmptied reach = IsSpent (next question.space.now) (is_done question.space.now) (level question.space.now) (shows question.floor.now question.space.now) question.start question.limit reach.kept reach.found.entries reach.queue

  abbrev pub IsAnswered : LeastAnswer S M → Type 0
  IsAnswered answer = IsAnswer (next question.space.now) (is_done question.space.now) (level question.space.now) (shows question.floor.now question.space.now) question.start question.limit answer

module _ {Sp Fl S : Type 0} (next : Sp → Successors S) (is_done : Sp → S → Bool) (level : Sp → S → Option ℕ) (question : Question Sp Fl S) where
  abbrev pub AreTooMany : Type 0
  AreTooMany = MoreThan question.limit (CountsForLeast (next question.space.now) (is_done question.space.now) (level question.space.now) question.start)

-- nearer to the end than before
abbrev pub IsLighter : {S M : Type 0} → ℕ → Reach S M → Reach S M → Type 0
IsLighter limit new old = measure limit new.kept new.found.entries < measure limit old.kept old.found.entries
