-- What a best-first search knows of the states that it has found. Only private contracts speak of it.
use Rattle.std.specs.Prelude.{◌≡◌, ℕ, ◌+◌, ◌*◌, ◌≤◌, ◌<◌, List, length, Option, Some, Bool, true, false, Contains, All, slice_get, ◌⊎◌}
use Rattle.std.specs.List.{sum_by}
use Rattle.grd_base.specs.declared.ids.ActionId.{ActionId}
use Rattle.grd_base.specs.declared.limits.Bound.{Bound}
use Rattle.grd_base.specs.declared.limits.Bound.TheVariants.{Steps, Never}
use Rattle.search_core.specs.declared.nodes.Node.{Node}
use Rattle.search_core.specs.declared.ways.Way.{Way}
use Rattle.search_core.specs.declared.queue.Ticket.{Ticket}
use Rattle.search_core.specs.Spaces.{Successors, IsWalk, end_of, IsPath}
use Rattle.search_core.specs.LeastAnswers.{CountsForLeast}

-- a state that was found, with what is known of it
abbrev pub Entry : Type 0 → Type 0 → Type 0
Entry S M = S × Node M

-- a bound at this depth; one of `Never` may have any
abbrev pub IsNoDeeper : Bound → ℕ → ℕ → Type 0
IsNoDeeper (Steps number) depth most = depth ≤ most
IsNoDeeper Never depth most = Unit {0}

-- some entry has this state, at most so deep or with the bound `Never`
pub record IsHeldBy {S M : Type 0} (entries : List (Entry S M)) (s : S) (depth : ℕ) : Type 0 where
  pub place : ℕ
  pub entry : Entry S M
  pub at : slice_get entries place ≡ Some entry
  pub state_is : entry.0 ≡ s
  pub no_deeper : IsNoDeeper entry.1.bound entry.1.way.depth depth

-- depth and bound are together at most n
abbrev pub IsTotalAtMost : ℕ → Bound → ℕ → Type 0
IsTotalAtMost depth (Steps number) n = depth + number ≤ n
IsTotalAtMost depth Never n = ⊥

-- a walk of this many steps leads to the state
pub record IsReachedIn {S : Type 0} (next : Successors S) (start s : S) (depth : ℕ) : Type 0 where
  pub walk : List (ActionId × S)
  pub steps : IsWalk next start walk
  pub ends : end_of start walk ≡ s
  pub long : length walk ≡ depth

-- the way to a state goes on by one step from another entry
pub record IsAfter {S M : Type 0} (next : Successors S) (entries : List (Entry S M)) (s : S) (way : Way) : Type 0 where
  pub before : Entry S M
  pub at : slice_get entries way.parent ≡ Some before
  pub step : Contains (next before.0) (way.action, s)
  pub deeper : before.1.way.depth + 1 ≤ way.depth

-- a state with the bound `Never` is left aside; any other waits or was expanded
abbrev pub IsPlaced : Bound → Bool → Bool → Type 0
IsPlaced (Steps number) waits expanded = (waits ≡ true) ⊎ (expanded ≡ true)
IsPlaced Never waits expanded = (waits ≡ false) × (expanded ≡ false)

-- a state that was expanded counts and is not done
pub record IsExpanded {S : Type 0} (next : Successors S) (is_done : S → Bool) (level : S → Option ℕ) (start : S) (kept : ℕ) (s : S) (depth : ℕ) : Type 0 where
  pub counts : CountsForLeast next is_done level start s
  pub not_done : is_done s ≡ false
  pub earlier : depth + 1 ≤ kept

-- what is known of an entry, where `kept` states were expanded
pub record IsNode {S M : Type 0} (next : Successors S) (is_done : S → Bool) (level : S → Option ℕ) (shows : S → M → Bound → Type 0) (start : S) (kept : ℕ) (entries : List (Entry S M)) (entry : Entry S M) : Type 0 where
  pub reached : IsReachedIn next start entry.0 entry.1.way.depth
  pub shown : shows entry.0 entry.1.mark entry.1.bound
  pub early : entry.1.way.depth ≤ kept
  pub first : entry.1.way.depth ≡ 0 → entry.0 ≡ start
  pub later : 0 < entry.1.way.depth → IsAfter next entries entry.0 entry.1.way
  pub placed : IsPlaced entry.1.bound entry.1.waits entry.1.expanded
  pub expanded : entry.1.expanded ≡ true → IsExpanded next is_done level start kept entry.0 entry.1.way.depth

-- the ticket's total is at least that of the entry at its place
pub record IsTicket {S M : Type 0} (entries : List (Entry S M)) (ticket : Ticket) : Type 0 where
  pub entry : Entry S M
  pub at : slice_get entries ticket.place.0 ≡ Some entry
  pub no_less : IsTotalAtMost entry.1.way.depth entry.1.bound ticket.total

-- a ticket for this place, depth and bound
abbrev pub IsQueued : List Ticket → ℕ → ℕ → Bound → Type 0
IsQueued tickets place depth (Steps number) = Contains tickets (record { total = depth + number; bound = number; place = record { 0 = place } })
IsQueued tickets place depth Never = ⊥

-- each state that waits has its ticket, but for the one at `but`
abbrev pub AreQueuedBut : {S M : Type 0} → List (Entry S M) → List Ticket → ℕ → Type 0
AreQueuedBut {S} {M} entries tickets but = (i : ℕ) (e : Entry S M) → (i ≡ but → ⊥) → slice_get entries i ≡ Some e → e.1.waits ≡ true → IsQueued tickets i e.1.way.depth e.1.bound

-- each state that waits has its ticket
abbrev pub AreQueued : {S M : Type 0} → List (Entry S M) → List Ticket → Type 0
AreQueued {S} {M} entries tickets = (i : ℕ) (e : Entry S M) → slice_get entries i ≡ Some e → e.1.waits ≡ true → IsQueued tickets i e.1.way.depth e.1.bound

-- each of these steps leads to a state that is held, at most so deep
abbrev pub AreHeldBy : {S M : Type 0} → List (Entry S M) → ℕ → List (ActionId × S) → Type 0
AreHeldBy entries depth steps = All (λ step. IsHeldBy entries step.1 depth) steps

-- the successors of each expanded state that does not wait are held, at most one deeper; but for the
-- one at `but`
abbrev pub AreClosedBut : {S M : Type 0} → Successors S → List (Entry S M) → ℕ → Type 0
AreClosedBut {S} {M} next entries but = (i : ℕ) (e : Entry S M) → (i ≡ but → ⊥) → slice_get entries i ≡ Some e → e.1.expanded ≡ true → e.1.waits ≡ false → AreHeldBy entries (e.1.way.depth + 1) (next e.0)

-- the same for each
abbrev pub AreClosed : {S M : Type 0} → Successors S → List (Entry S M) → Type 0
AreClosed {S} {M} next entries = (i : ℕ) (e : Entry S M) → slice_get entries i ≡ Some e → e.1.expanded ≡ true → e.1.waits ≡ false → AreHeldBy entries (e.1.way.depth + 1) (next e.0)

-- one for a state that was expanded
abbrev pub one_if : Bool → ℕ
one_if true = 1
one_if false = 0

-- how many states were expanded
abbrev pub expanded_count : {S M : Type 0} → List (Entry S M) → ℕ
expanded_count entries = sum_by (λ e. one_if e.1.expanded) entries

-- twice the depth of a state that was expanded, and one more where it waits again
abbrev pub weight_of : Bool → Bool → ℕ → ℕ
weight_of true true depth = 2 * depth + 1
weight_of true false depth = 2 * depth
weight_of false waits depth = 0

-- what falls where a state is expanded again or its depth is lowered
abbrev pub weight : {S M : Type 0} → List (Entry S M) → ℕ
weight entries = sum_by (λ e. weight_of e.1.expanded e.1.waits e.1.way.depth) entries

-- what holds of the entries at each time
pub record AreNodes {S M : Type 0} (next : Successors S) (is_done : S → Bool) (level : S → Option ℕ) (shows : S → M → Bound → Type 0) (start : S) (limit kept : ℕ) (entries : List (Entry S M)) (tickets : List Ticket) : Type 0 where
  pub each : (i : ℕ) (e : Entry S M) → slice_get entries i ≡ Some e → IsNode next is_done level shows start kept entries e
  pub apart : (i j : ℕ) (e f : Entry S M) → slice_get entries i ≡ Some e → slice_get entries j ≡ Some f → e.0 ≡ f.0 → i ≡ j
  pub kept_is : expanded_count entries ≡ kept
  pub few : kept ≤ limit
  pub issued : All (IsTicket entries) tickets

-- what is known of each entry's way from the start
pub record AreLinked {S M : Type 0} (next : Successors S) (start : S) (entries : List (Entry S M)) : Type 0 where
  pub first : (i : ℕ) (e : Entry S M) → slice_get entries i ≡ Some e → e.1.way.depth ≡ 0 → e.0 ≡ start
  pub later : (i : ℕ) (e : Entry S M) → slice_get entries i ≡ Some e → 0 < e.1.way.depth → IsAfter next entries e.0 e.1.way

-- the parent of each entry that has one is an entry, and less deep
abbrev pub HaveParents : {S M : Type 0} → List (Entry S M) → Type 0
HaveParents {S} {M} entries = (i : ℕ) (e : Entry S M) → slice_get entries i ≡ Some e → 0 < e.1.way.depth → (before : Entry S M) × (slice_get entries e.1.way.parent ≡ Some before) × (before.1.way.depth + 1 ≤ e.1.way.depth)

-- the path leads from the start to the entry's state, and is no longer than its depth
pub record IsWayTo {S M : Type 0} (next : Successors S) (start : S) (entry : Entry S M) (path : List ActionId) : Type 0 where
  pub leads : IsPath next start path entry.0
  pub no_longer : length path ≤ entry.1.way.depth

-- the path is a way to the entry at the place
abbrev pub IsWayAt : {S M : Type 0} → Successors S → S → List (Entry S M) → ℕ → List ActionId → Type 0
IsWayAt {S} {M} next start entries place path = (e : Entry S M) → slice_get entries place ≡ Some e → IsWayTo next start e path
