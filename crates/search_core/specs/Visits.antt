-- What the steps of a search leave. Only private contracts speak of it.
use Rattle.std.specs.Prelude.{◌≡◌, ℕ, ◌+◌, ◌-◌, ◌≤◌, ◌<◌, List, length, Option, Some, None, Bool, false, Contains, All, slice_get, is_some, nat_le, if◌then◌else◌}
use Rattle.grd_base.specs.declared.ids.ActionId.{ActionId}
use Rattle.grd_base.specs.declared.limits.Bound.{Bound}
use Rattle.grd_base.specs.declared.limits.Bound.TheVariants.{Steps, Never}
use Rattle.search_core.specs.declared.ways.Head.{Head}
use Rattle.search_core.specs.declared.found.Progress.{Progress}
use Rattle.search_core.specs.declared.visits.Question.{Question}
use Rattle.search_core.specs.declared.ways.Way.{Way}
use Rattle.search_core.specs.declared.rows.KeptRow.{KeptRow}
use Rattle.search_core.specs.declared.rows.WithinAnswer.{WithinAnswer}
use Rattle.grd_base.specs.Counts.{MoreThan}
use Rattle.search_core.specs.Spaces.{Successors, Counts}
use Rattle.search_core.specs.Tables.{AreRefuted, AreCounted}
use Rattle.search_core.specs.Answers.{IsDonePath, IsTrueAnswer, HasStartRow, HasReason, rows_of}
use Rattle.search_core.specs.Progress.{Entry, IsProgress, IsNew, IsGrown, IsHeldBy}

-- the entry at this place has no mark and this depth, and no entry is more than one deeper
pub record IsHead {S M : Type 0} (entries : List (Entry S M)) (place depth : ℕ) : Type 0 where
  pub entry : Entry S M
  pub at : slice_get entries place ≡ Some entry
  pub depth_is : entry.1.way.depth ≡ depth
  pub kept : entry.1.mark ≡ None
  pub deepest : (i : ℕ) (e : Entry S M) → slice_get entries i ≡ Some e → e.1.way.depth ≤ depth + 1

-- a step from the entry at this place
abbrev pub IsStepFrom : {S M : Type 0} → Successors S → List (Entry S M) → ℕ → ActionId × S → Type 0
IsStepFrom {S} {M} next entries place step = (e : Entry S M) → slice_get entries place ≡ Some e → Contains (next e.0) step

-- all steps from the entry at this place
abbrev pub AreStepsFrom : {S M : Type 0} → Successors S → List (Entry S M) → ℕ → List (ActionId × S) → Type 0
AreStepsFrom {S} {M} next entries place steps = (e : Entry S M) → slice_get entries place ≡ Some e → steps ≡ next e.0

-- after a step that did not end the search
pub record IsStep {S M : Type 0} (next : Successors S) (is_done : S → Bool) (level : S → Option ℕ) (shows : S → M → Bound → Type 0) (start : S) (r limit kept now : ℕ) (old new : List (Entry S M)) (place depth : ℕ) : Type 0 where
  pub progress : IsProgress next is_done level shows start r limit now new
  pub more : kept ≤ now
  pub grown : IsGrown old new
  pub head : IsHead new place depth

-- each of these steps leads to a state that is held, at most so deep
abbrev pub AreHeldBy : {S M : Type 0} → List (Entry S M) → ℕ → List (ActionId × S) → Type 0
AreHeldBy entries depth steps = All (λ step. IsHeldBy entries step.1 depth) steps

-- the successors of each entry below n without a mark are held, at most one deeper
abbrev pub AreExpanded : {S M : Type 0} → Successors S → List (Entry S M) → ℕ → Type 0
AreExpanded {S} {M} next entries n = (i : ℕ) (e : Entry S M) → i < n → slice_get entries i ≡ Some e → e.1.mark ≡ None → AreHeldBy entries (e.1.way.depth + 1) (next e.0)

-- every entry without a mark is expanded
pub record IsWhole {S M : Type 0} (next : Successors S) (is_done : S → Bool) (level : S → Option ℕ) (shows : S → M → Bound → Type 0) (start : S) (r limit kept : ℕ) (entries : List (Entry S M)) : Type 0 where
  pub progress : IsProgress next is_done level shows start r limit kept entries
  pub some : 0 < length entries
  pub expanded : AreExpanded next entries (length entries)

-- the entries below the place are expanded, and none is more than one deeper than the one there
pub record IsExploring {S M : Type 0} (next : Successors S) (is_done : S → Bool) (level : S → Option ℕ) (shows : S → M → Bound → Type 0) (start : S) (r limit kept : ℕ) (entries : List (Entry S M)) (place : ℕ) : Type 0 where
  pub progress : IsProgress next is_done level shows start r limit kept entries
  pub some : 0 < length entries
  pub expanded : AreExpanded next entries place
  pub deepest : (e f : Entry S M) (i : ℕ) → slice_get entries place ≡ Some e → slice_get entries i ≡ Some f → f.1.way.depth ≤ e.1.way.depth + 1

-- what an answer says, all together
pub record IsAnswer {S M : Type 0} (next : Successors S) (is_done : S → Bool) (level : S → Option ℕ) (shows : S → M → Bound → Type 0) (start : S) (r limit : ℕ) (answer : WithinAnswer S M) : Type 0 where
  pub right : IsTrueAnswer next is_done start r limit answer
  pub refuted : AreRefuted next is_done shows (rows_of answer)
  pub start_row : HasStartRow start r answer
  pub counted : AreCounted next (Counts next level start r) start limit (rows_of answer)
  pub reason : HasReason next shows start r limit answer

-- the same for a question of the program, by the meanings of its space and of its floor
module _ {Sp Fl S M : Type 0} (next : Sp → Successors S) (is_done : Sp → S → Bool) (level : Sp → S → Option ℕ) (shows : Fl → Sp → S → M → Bound → Type 0) (question : Question Sp Fl S) where
  abbrev pub IsUnderWay : Progress S M → Type 0
  IsUnderWay progress = IsProgress (next question.space.now) (is_done question.space.now) (level question.space.now) (shows question.floor.now question.space.now) question.start question.r question.limit progress.kept progress.found.entries

  abbrev pub GoesOn : Progress S M → Progress S M → Head → Type 0
  GoesOn old new head = IsStep (next question.space.now) (is_done question.space.now) (level question.space.now) (shows question.floor.now question.space.now) question.start question.r question.limit old.kept new.kept old.found.entries new.found.entries head.place head.depth

  abbrev pub IsExploringAt : Progress S M → ℕ → Type 0
  IsExploringAt progress place = IsExploring (next question.space.now) (is_done question.space.now) (level question.space.now) (shows question.floor.now question.space.now) question.start question.r question.limit progress.kept progress.found.entries place

  abbrev pub IsExplored : Progress S M → Type 0
  IsExplored progress = IsWhole (next question.space.now) (is_done question.space.now) (level question.space.now) (shows question.floor.now question.space.now) question.start question.r question.limit progress.kept progress.found.entries

  abbrev pub IsAnswered : WithinAnswer S M → Type 0
  IsAnswered answer = IsAnswer (next question.space.now) (is_done question.space.now) (level question.space.now) (shows question.floor.now question.space.now) question.start question.r question.limit answer

module _ {Sp Fl S : Type 0} (next : Sp → Successors S) where
  module _ (is_done : Sp → S → Bool) where
    abbrev pub IsAskedPath : Question Sp Fl S → List ActionId → Type 0
    IsAskedPath question path = IsDonePath (next question.space.now) (is_done question.space.now) question.start question.r question.limit path

    abbrev pub MayAdd : {M : Type 0} → Question Sp Fl S → Progress S M → S → Way → Type 0
    MayAdd question progress s way = IsNew (next question.space.now) (is_done question.space.now) question.start question.r progress.kept progress.found.entries s way

  abbrev pub AreTooMany : (Sp → S → Option ℕ) → Question Sp Fl S → Type 0
  AreTooMany level question = MoreThan question.limit (Counts (next question.space.now) (level question.space.now) question.start question.r)

-- what the rows are made of

-- the row of an entry at most r deep, at No
abbrev pub row_within : {S M : Type 0} → ℕ → Entry S M → Option (KeptRow S M)
row_within r entry = if nat_le entry.1.way.depth r then Some (record { state = entry.0; bound = Steps (r - entry.1.way.depth); mark = entry.1.mark }) else None

-- the row of an entry, at Never
abbrev pub row_never : {S M : Type 0} → Entry S M → KeptRow S M
row_never entry = record { state = entry.0; bound = Never; mark = entry.1.mark }

-- the row of an entry for at most so many steps, or for any number of them
abbrev pub row_for : {S M : Type 0} → Option ℕ → Entry S M → Option (KeptRow S M)
row_for (Some r) entry = row_within r entry
row_for None entry = Some (row_never entry)

-- the bound of such a row, of an entry so deep
abbrev pub bound_for : Option ℕ → ℕ → Option Bound
bound_for (Some r) depth = if nat_le depth r then Some (Steps (r - depth)) else None
bound_for None depth = Some Never

-- whether a mark shows a number
abbrev pub is_number : {M : Type 0} → Bound → Option M → Bool
is_number (Steps n) mark = is_some mark
is_number Never mark = false

-- whether an entry's mark shows a number
abbrev pub has_number_mark : {S M : Type 0} → Entry S M → Bool
has_number_mark entry = is_number entry.1.bound entry.1.mark
