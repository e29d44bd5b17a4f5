-- What options are given, the first name with a property, and the limits that names give.
use Rattle.std.proofs.Common.{◌≡◌, ◌⊎◌, ℕ, ◌+◌, ◌<◌, true, false, List, [], ◌∷◌, ◌++◌, length, get_or, take, drop, refl, sym, ◌∙◌, ap, subst, inl, inr, arith, add-one, append_assoc, Option, Some, None, Bor, MatchOption, MatchResult, Result, Ok, Err, is_some}
use Rattle.std.specs.List.{All, Contains}
use Rattle.std.proofs.Math.Seq.{split_at}
use Rattle.std.proofs.lemmas.Bool.{cases_order}
use Rattle.std.proofs.lemmas.List.{get_or_default}
use Rattle.std.proofs.lemmas.List.Elements.{All-contains, All-nil, All-cons, All-append, Contains-append_left, Contains-append_right, Contains-append_cases, Contains-push}
use Rattle.grd_base.specs.declared.limits.Limits.{Limits}
use Rattle.command_words.specs.declared.command.Command.{Command}
use Rattle.command_words.specs.declared.command.OptionName.{OptionName}
use Rattle.command_words.specs.declared.command.OptionName.TheVariants.{Domain, Problem, Goals, MaxStates}
use Rattle.command_words.specs.Commands.{Item, PlainJob, Reads, AreItemsOf, GivesNumber, GivesText, command_text, required_of, options_of, IsNumber, Gives, IsGiven, NotGiven, GivesNoNumber, IsFirstWith, range_of}
use Rattle.command_words.specs.Words.{HasNoRepeats, ReadsNumber, ReadsLimits, with_number_of, IsJob}
use Rattle.command_words.specs.declared.words.TheConstants.{DEFAULT_LIMITS}

pub not_given : (r : Option (Bor (List ℕ))) (items : List Item) (name : OptionName) → is_some r ≡ false
    → MatchOption r (NotGiven items name) (λ value. Gives items name value.now) → NotGiven items name
not_given None items name e h = h
not_given (Some value) items name e h = cc

pub is_given : (r : Option (Bor (List ℕ))) (items : List Item) (name : OptionName) → is_some r ≡ true
    → MatchOption r (NotGiven items name) (λ value. Gives items name value.now) → IsGiven items name
is_given None items name e h = cc
is_given (Some value) items name e h = (value.now, h)

-- an option is given at most one value
pub gives_once : (items : List Item) (name : OptionName) (v w : List ℕ) → HasNoRepeats items → Gives items name v → Gives items name w → v ≡ w
gives_once items name v w once a b =
    let first : Item = record { name = name; value = v } in
    let second : Item = record { name = name; value = w } in
    let at_b : get_or items b.0 first ≡ second = get_or_default items b.0 first second b.1 ∙ b.2 in
    elim (cases_order a.0 b.0) as (λ _. v ≡ w) [
      | inl same ↦ ap (λ i. i.value) (sym a.2 ∙ ap (λ k. get_or items k first) same ∙ at_b)
      | inr other ↦ elim other as (λ _. v ≡ w) [
        | inl before ↦ absurd (once a.0 b.0 first before b.1 (ap (λ i. i.name) a.2 ∙ sym (ap (λ i. i.name) at_b)))
        | inr behind ↦ absurd (once b.0 a.0 first behind a.1 (ap (λ i. i.name) at_b ∙ sym (ap (λ i. i.name) a.2)))
      ]
    ]

-- nor is it given a text and none
pub text_once : (items : List Item) (name : OptionName) (v w : List ℕ) → HasNoRepeats items → GivesText items name v → GivesText items name w → v ≡ w
text_once items name v w once (inl a) (inl b) = gives_once items name v w once a b
text_once items name v w once (inl a) (inr (absent, is)) = absurd (absent (v, a))
text_once items name v w once (inr (absent, is)) (inl b) = absurd (absent (w, b))
text_once items name v w once (inr (absent, is)) (inr (none, same)) = is ∙ sym same

-- the name at a place is the first with a property that none before it has
pub first_at : (names : List OptionName) (P : OptionName → Type 0) (i : ℕ) (d : OptionName) → i < length names
    → All (λ n. P n → ⊥) (take i names) → P (get_or names i d) → IsFirstWith names P (get_or names i d)
first_at names P i d within none has = record {
  before = take i names;
  behind = drop (i + 1) names;
  whole = rw add-one (split_at names i d within);
  has = has;
  none = none;
}

-- the first of the names behind is the first of all, where none in front has the property
pub first_behind : (front names : List OptionName) (P : OptionName → Type 0) (name : OptionName) → All (λ n. P n → ⊥) front → IsFirstWith names P name → IsFirstWith (front ++ names) P name
first_behind front names P name none first = record {
  before = front ++ first.before;
  behind = first.behind;
  whole = ap (λ ns. front ++ ns) first.whole ∙ sym (append_assoc front first.before (name ∷ first.behind));
  has = first.has;
  none = All-append (λ n. P n → ⊥) front first.before none first.none;
}

-- the limits with the number that an option is given
number_sets : (name : OptionName) (limits : Limits) (n : ℕ) → (with_number_of limits name n).sets ≡ limits.sets
number_sets Domain limits n = refl
number_sets Problem limits n = refl
number_sets Goals limits n = refl
number_sets MaxStates limits n = refl

number_states : (name : OptionName) (items : List Item) (limits : Limits) (value : List ℕ) (range : ℕ × ℕ) (n : ℕ)
    → Gives items name value → range_of name ≡ Some range → IsNumber range value n → ReadsNumber (name ∷ []) items MaxStates limits.states (with_number_of limits name n).states
number_states Domain items limits value range n gives ranged number = cc
number_states Problem items limits value range n gives ranged number = cc
number_states Goals items limits value range n gives ranged number = cc
number_states MaxStates items limits value range n gives ranged number = inl (Contains-push [] MaxStates, value, range, gives, ranged, number)

pub limits_with : (name : OptionName) (items : List Item) (limits : Limits) (value : List ℕ) (range : ℕ × ℕ) (n : ℕ) → HasNoRepeats items
    → Gives items name value → range_of name ≡ Some range → IsNumber range value n → ReadsLimits (name ∷ []) items limits (with_number_of limits name n)
limits_with name items limits value range n once gives ranged number = record {
  good = All-cons (λ m. GivesNoNumber items m → ⊥) name [] is_good (All-nil (λ m. GivesNoNumber items m → ⊥));
  states = number_states name items limits value range n gives ranged number;
  sets = number_sets name limits n;
}
  where
    is_good : GivesNoNumber items name → ⊥
    is_good bad =
        let same : Some bad.0 ≡ Some range = sym bad.2 ∙ ranged in
        let range_is : range ≡ bad.0 = cc in
        let value_is : value ≡ bad.1 = gives_once items name value bad.1 once gives bad.3 in
        bad.4 n (subst (λ v. IsNumber bad.0 v n) value_is (subst (λ r. IsNumber r value n) range_is number))

    each : Contains [] MaxStates ⊎ (name ≡ MaxStates) → (range_of name ≡ None) ⊎ NotGiven items name → NotGiven items MaxStates
    each (inl among) h = absurd (omega (arith, among.1))
    each (inr is) (inl e) = let none_is : range_of MaxStates ≡ None = ap range_of (sym is) ∙ e in cc
    each (inr is) (inr h) = subst (λ m. NotGiven items m) is h

-- the limits that two lists of names give, one behind the other
pub both_limits : (front names : List OptionName) (items : List Item) (a b c : Limits) → ReadsLimits front items a b → ReadsLimits names items b c → ReadsLimits (front ++ names) items a c
both_limits front names items a b c first second = record {
  good = All-append (λ m. GivesNoNumber items m → ⊥) front names first.good second.good;
  states = each first.states second.states;
  sets = second.sets ∙ first.sets;
}
  where
    each : ReadsNumber front items MaxStates a.states b.states → ReadsNumber names items MaxStates b.states c.states → ReadsNumber (front ++ names) items MaxStates a.states c.states
    each x (inl h) = inl (Contains-append_right front names MaxStates h.0, h.1, h.2, h.3, h.4, h.5)
    each (inl h) (inr (absent, same)) =
        inl (Contains-append_left front names MaxStates h.0, h.1, h.2, h.3, h.4, subst (λ n. IsNumber h.2 h.1 n) (sym same) h.5)
    each (inr (absent, same)) (inr (none, as_before)) = inr (λ among. or_in (Contains-append_cases front names MaxStates among), as_before ∙ same)
      where
        or_in : Contains front MaxStates ⊎ Contains names MaxStates → NotGiven items MaxStates
        or_in (inl h) = absent h
        or_in (inr h) = none h

pub both_read : (front names : List OptionName) (items : List Item) (a b : Limits) (r : Result Limits OptionName) → ReadsLimits front items a b
    → MatchResult r (ReadsLimits names items b) (IsFirstWith names (GivesNoNumber items))
    → MatchResult r (ReadsLimits (front ++ names) items a) (IsFirstWith (front ++ names) (GivesNoNumber items))
both_read front names items a b (Ok limits) first second = both_limits front names items a b limits first second
both_read front names items a b (Err name) first second = first_behind front names (GivesNoNumber items) name first.good second

-- the numbers that all options of a command give are those that the items give
states_given : (command : Command) (items : List Item) (a b : ℕ) → All (λ item. Contains (options_of command) item.name) items
    → ReadsNumber (options_of command) items MaxStates a b → GivesNumber items MaxStates a b
states_given command items a b options (inl h) = inl (h.1, h.2, h.3, h.4, h.5)
states_given command items a b options (inr (absent, is)) = inr (none, is)
  where
    none : NotGiven items MaxStates
    none given =
        let item : Item = record { name = MaxStates; value = given.0 } in
        absent (All-contains (λ i. Contains (options_of command) i.name) items item options given.1) given

-- a command and its items, with the job and its limits, are what the words ask for
pub job_read : (command : Command) (words : List (List ℕ)) (items : List Item) (limits : Limits) (job : PlainJob) → AreItemsOf command words items
    → All (IsGiven items) (required_of command) → ReadsLimits (options_of command) items DEFAULT_LIMITS limits → IsJob command items limits job → Reads (command_text command ∷ words) job
job_read command words items limits job good given read is = record {
  rest = words;
  items = items;
  whole = ap (λ c. command_text c ∷ words) (sym is.command_is);
  are_items = subst (λ c. AreItemsOf c words items) (sym is.command_is) good;
  required = subst (λ c. All (IsGiven items) (required_of c)) (sym is.command_is) given;
  domain = is.domain;
  problem = is.problem;
  goals = is.goals;
  states = subst (λ l. GivesNumber items MaxStates 100000 l.states) (sym is.limits_are) (states_given command items 100000 limits.states good.options read.states);
  sets = ap (λ l. l.sets) is.limits_are ∙ read.sets;
}
