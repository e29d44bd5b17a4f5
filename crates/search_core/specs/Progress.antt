-- What a search knows of the states that it has found. Only private contracts speak of it.
use Rattle.std.specs.Prelude.{◌≡◌, ℕ, ◌+◌, ◌≤◌, ◌<◌, List, [], ◌∷◌, ◌++◌, length, Option, Some, None, Bool, false, Contains, MatchOption, slice_get}
use Rattle.std.specs.List.{filter_map}
use Rattle.grd_base.specs.declared.ids.ActionId.{ActionId}
use Rattle.grd_base.specs.declared.limits.Bound.{Bound}
use Rattle.grd_base.specs.declared.limits.Bound.TheVariants.{Steps, Never}
use Rattle.search_core.specs.declared.found.Found.{Found}
use Rattle.search_core.specs.declared.ways.Way.{Way}
use Rattle.grd_base.specs.Counts.{AllDistinct}
use Rattle.search_core.specs.Entries.{IsHeld, IsFresh}
use Rattle.search_core.specs.Spaces.{Successors, IsWalk, end_of, states_on, IsPath, Counts}

-- a state that was found, with what is known of it
abbrev pub Entry : Type 0 → Type 0 → Type 0
Entry S M = S × Found M

-- some entry has this state, at most so deep
pub record IsHeldBy {S M : Type 0} (entries : List (Entry S M)) (s : S) (depth : ℕ) : Type 0 where
  pub place : ℕ
  pub entry : Entry S M
  pub at : slice_get entries place ≡ Some entry
  pub state_is : entry.0 ≡ s
  pub no_deeper : entry.1.way.depth ≤ depth

-- a bound at this depth that, added to it, exceeds r
abbrev pub IsCut : ℕ → Bound → ℕ → Type 0
IsCut depth (Steps number) r = r < depth + number
IsCut depth Never r = Unit {0}

-- a walk of this many steps leads to the state, over states that are held, none of them twice
pub record IsReached {S M : Type 0} (next : Successors S) (start : S) (entries : List (Entry S M)) (s : S) (depth : ℕ) : Type 0 where
  pub walk : List (ActionId × S)
  pub steps : IsWalk next start walk
  pub ends : end_of start walk ≡ s
  pub long : length walk ≡ depth
  pub no_repeat : AllDistinct (states_on start walk)
  pub held : (t : S) → Contains (states_on start walk) t → IsHeld entries t

-- a state without a mark counts
pub record IsKept {S : Type 0} (next : Successors S) (level : S → Option ℕ) (start : S) (r kept : ℕ) (s : S) (depth : ℕ) : Type 0 where
  pub counts : Counts next level start r s
  pub near : depth ≤ r
  pub earlier : depth + 1 ≤ kept

-- a mark shows its state's bound, which rules out a path through it
pub record IsCutOff {S M : Type 0} (shows : S → M → Bound → Type 0) (r kept : ℕ) (s : S) (depth : ℕ) (bound : Bound) (mark : M) : Type 0 where
  pub shown : shows s mark bound
  pub cut : IsCut depth bound r
  pub earlier : depth ≤ kept

-- the way to a state goes on by one step from an entry at an earlier place
pub record IsChild {S M : Type 0} (next : Successors S) (entries : List (Entry S M)) (s : S) (way : Way) (place : ℕ) : Type 0 where
  pub before : Entry S M
  pub at : slice_get entries way.parent ≡ Some before
  pub lower : way.parent < place
  pub step : Contains (next before.0) (way.action, s)
  pub deeper : before.1.way.depth + 1 ≡ way.depth

-- what is known of the entry at a place
pub record IsEntry {S M : Type 0} (next : Successors S) (is_done : S → Bool) (level : S → Option ℕ) (shows : S → M → Bound → Type 0) (start : S) (r kept : ℕ) (entries : List (Entry S M)) (place : ℕ) (entry : Entry S M) : Type 0 where
  pub reached : IsReached next start entries entry.0 entry.1.way.depth
  pub one_more : entry.1.way.depth ≤ r + 1
  pub not_done : entry.1.way.depth ≤ r → is_done entry.0 ≡ false
  pub verdict : MatchOption entry.1.mark (IsKept next level start r kept entry.0 entry.1.way.depth) (IsCutOff shows r kept entry.0 entry.1.way.depth entry.1.bound)
  pub first : place ≡ 0 → (entry.0 ≡ start) × (entry.1.way.depth ≡ 0)
  pub later : 0 < place → IsChild next entries entry.0 entry.1.way place

-- the state, where it has no mark
abbrev pub state_if_kept : {S M : Type 0} → Option M → S → Option S
state_if_kept None s = Some s
state_if_kept (Some _) s = None

-- the states without a mark
abbrev pub kept_states : {S M : Type 0} → List (Entry S M) → List S
kept_states entries = filter_map (λ entry. state_if_kept entry.1.mark entry.0) entries

-- what holds of the entries after each step: they are sorted by depth, no two have the same state,
-- and `kept` of them, at most the limit, have no mark
pub record IsProgress {S M : Type 0} (next : Successors S) (is_done : S → Bool) (level : S → Option ℕ) (shows : S → M → Bound → Type 0) (start : S) (r limit kept : ℕ) (entries : List (Entry S M)) : Type 0 where
  pub each : (i : ℕ) (e : Entry S M) → slice_get entries i ≡ Some e → IsEntry next is_done level shows start r kept entries i e
  pub sorted : (i j : ℕ) (e f : Entry S M) → i ≤ j → slice_get entries i ≡ Some e → slice_get entries j ≡ Some f → e.1.way.depth ≤ f.1.way.depth
  pub apart : (i j : ℕ) (e f : Entry S M) → slice_get entries i ≡ Some e → slice_get entries j ≡ Some f → e.0 ≡ f.0 → i ≡ j
  pub kept_is : length (kept_states entries) ≡ kept
  pub few : kept ≤ limit

-- a state that may be added, reached in this way
pub record IsNew {S M : Type 0} (next : Successors S) (is_done : S → Bool) (start : S) (r kept : ℕ) (entries : List (Entry S M)) (s : S) (way : Way) : Type 0 where
  pub fresh : IsFresh entries s
  pub one_more : way.depth ≤ r + 1
  pub not_done : way.depth ≤ r → is_done s ≡ false
  pub earlier : way.depth ≤ kept
  pub deepest : (i : ℕ) (e : Entry S M) → slice_get entries i ≡ Some e → e.1.way.depth ≤ way.depth
  pub first : length entries ≡ 0 → (s ≡ start) × (way.depth ≡ 0)
  pub later : 0 < length entries → IsChild next entries s way (length entries)

-- one more entry, with this state and this way
pub record IsAdded {S M : Type 0} (old new : List (Entry S M)) (s : S) (way : Way) : Type 0 where
  pub entry : Entry S M
  pub pushed : new ≡ old ++ entry ∷ []
  pub state_is : entry.0 ≡ s
  pub way_is : entry.1.way ≡ way

-- entries were only added
pub record IsGrown {E : Type 0} (old new : List E) : Type 0 where
  pub added : List E
  pub grown : new ≡ old ++ added

-- what is known of each entry's way from the start
pub record AreLinked {S M : Type 0} (next : Successors S) (start : S) (entries : List (Entry S M)) : Type 0 where
  pub first : (e : Entry S M) → slice_get entries 0 ≡ Some e → (e.0 ≡ start) × (e.1.way.depth ≡ 0)
  pub later : (i : ℕ) (e : Entry S M) → 0 < i → slice_get entries i ≡ Some e → IsChild next entries e.0 e.1.way i

-- the parent of each entry but the first is at an earlier place
abbrev pub HaveEarlierParents : {S M : Type 0} → List (Entry S M) → Type 0
HaveEarlierParents {S} {M} entries = (i : ℕ) (e : Entry S M) → 0 < i → slice_get entries i ≡ Some e → e.1.way.parent < i

-- the path leads from the start through the entry at the place, and on by one step
pub record IsWay {S M : Type 0} (next : Successors S) (start : S) (entry : Entry S M) (path : List ActionId) (end : S) : Type 0 where
  pub leads : IsPath next start path end
  pub long : length path ≡ entry.1.way.depth + 1

-- where the entry at the place has a step by this action, the path is its way and that step
abbrev pub IsWayOn : {S M : Type 0} → Successors S → S → List (Entry S M) → ℕ → ActionId → List ActionId → Type 0
IsWayOn {S} {M} next start entries place last path = (e : Entry S M) (end : S) → slice_get entries place ≡ Some e → Contains (next e.0) (last, end) → IsWay next start e path end
