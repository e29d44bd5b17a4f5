-- Words ask for at most one job or have at most one fault, and never both.
use Rattle.std.proofs.Common.{◌≡◌, ◌≢◌, ◌⊎◌, ℕ, ◌+◌, List, [], ◌∷◌, ◌++◌, length, get_or, refl, sym, ◌∙◌, ap, subst, inl, inr, arith, length-append, Option, Some, None, Result, Ok, Err, IfOk}
use Rattle.std.specs.List.{All, Contains}
use Rattle.std.specs.Str.Parse.{digits_value}
use Rattle.std.proofs.Math.Seq.{get_or-append_seam}
use Rattle.std.proofs.lemmas.Bool.{cases_order}
use Rattle.std.proofs.lemmas.List.{append-nil, get_or_append_left}
use Rattle.std.proofs.lemmas.List.Elements.{All-contains, Contains-append_right}
use Rattle.grd_base.specs.declared.limits.Limits.{Limits}
use Rattle.command_words.specs.declared.command.Command.{Command}
use Rattle.command_words.specs.declared.command.OptionName.{OptionName}
use Rattle.command_words.specs.declared.command.OptionName.TheVariants.{Domain, Problem, Goals, MaxStates}
use Rattle.command_words.specs.declared.faults.UsageFault.{UsageFault}
use Rattle.command_words.specs.declared.faults.UsageFault.TheVariants.{NoCommand, UnknownCommand, BadItem, Repeated, Missing, BadNumber}
use Rattle.command_words.specs.Commands.{Item, IsValue, IsNumber, AreItemsOf, IsGiven, NotGiven, GivesNumber, GivesText, GivesNoNumber, IsFirstBad, IsSecondBad, IsFirstRepeated, IsFirstWith, HasFaultAt, AreItemsWith, IsUsageFault, PlainJob, Reads, command_text, flag_of, joined_of, required_of, options_of}
use Rattle.command_words.specs.declared.faults.WordsFault.{WordsFault}
use Rattle.command_words.specs.declared.faults.WordsFault.TheVariants.{Usage, OutOfMemory}
use Rattle.command_words.specs.Words.{HasNoRepeats}
use Rattle.command_words.proofs.WordsTable.{same_command, same_option, same_joined_option, flag_not_joined}
use Rattle.command_words.proofs.WordsItems.{Begins, Ends, items_once}
use Rattle.command_words.proofs.WordsGiven.{gives_once, text_once}

-- where the items in front of words end, and why
data Stop : Type 0 where
  AtFirst : Stop
  AtSecond : Stop
  AtRepeated : Stop
  AtEnd : Stop

abbrev IsStop : Command → List Item → List (List ℕ) → Stop → Type 0
IsStop command items rest AtFirst = IsFirstBad command rest
IsStop command items rest AtSecond = IsSecondBad command items rest
IsStop command items rest AtRepeated = IsFirstRepeated command items rest
IsStop command items rest AtEnd = rest ≡ []

first_not_second : (command : Command) (items : List Item) (rest : List (List ℕ)) → IsFirstBad command rest → IsSecondBad command items rest → ⊥
first_not_second command items [] a b = a
first_not_second command items (word ∷ []) a b = b
first_not_second command items (word ∷ value ∷ rest) (inl begins) (n, among, absent, is, bad) = begins.bare n among is
first_not_second command items (word ∷ value ∷ rest) (inr (none, m, among, is)) b = cc

first_not_repeated : (command : Command) (items : List Item) (rest : List (List ℕ)) → IsFirstBad command rest → IsFirstRepeated command items rest → ⊥
first_not_repeated command items [] a b = a
first_not_repeated command items (word ∷ rest) (inl begins) (n, among, given, inl (some, is)) = begins.bare n among is
first_not_repeated command items (word ∷ rest) (inl begins) (n, among, given, inr (value, is_value, is)) = begins.joined n value among is_value is
first_not_repeated command items (word ∷ rest) (inr (none, m, m_among, m_is)) (n, among, given, inl (some, is)) = some none
first_not_repeated command items (word ∷ rest) (inr (none, m, m_among, m_is)) (n, among, given, inr (value, is_value, is)) = flag_not_joined m n value (sym m_is ∙ is)

second_not_repeated : (command : Command) (items : List Item) (rest : List (List ℕ)) → IsSecondBad command items rest → IsFirstRepeated command items rest → ⊥
second_not_repeated command items [] a b = a
second_not_repeated command items (word ∷ []) a b = a
second_not_repeated command items (word ∷ value ∷ rest) (m, m_among, absent, m_is, bad) (n, among, given, inl (some, is)) = absent (subst (IsGiven items) (sym (same_option m n (sym m_is ∙ is))) given)
second_not_repeated command items (word ∷ value ∷ rest) (m, m_among, absent, m_is, bad) (n, among, given, inr (v, is_value, is)) = flag_not_joined m n v (sym m_is ∙ is)

stop_once : (command : Command) (items : List Item) (rest : List (List ℕ)) (s t : Stop) → IsStop command items rest s → IsStop command items rest t → s ≡ t
stop_once command items rest AtFirst AtFirst a b = refl
stop_once command items rest AtFirst AtSecond a b = absurd (first_not_second command items rest a b)
stop_once command items rest AtFirst AtRepeated a b = absurd (first_not_repeated command items rest a b)
stop_once command items rest AtFirst AtEnd a b = absurd (subst (IsFirstBad command) b a)
stop_once command items rest AtSecond AtFirst a b = absurd (first_not_second command items rest b a)
stop_once command items rest AtSecond AtSecond a b = refl
stop_once command items rest AtSecond AtRepeated a b = absurd (second_not_repeated command items rest a b)
stop_once command items rest AtSecond AtEnd a b = absurd (subst (IsSecondBad command items) b a)
stop_once command items rest AtRepeated AtFirst a b = absurd (first_not_repeated command items rest b a)
stop_once command items rest AtRepeated AtSecond a b = absurd (second_not_repeated command items rest b a)
stop_once command items rest AtRepeated AtRepeated a b = refl
stop_once command items rest AtRepeated AtEnd a b = absurd (subst (IsFirstRepeated command items) b a)
stop_once command items rest AtEnd AtFirst a b = absurd (subst (IsFirstBad command) a b)
stop_once command items rest AtEnd AtSecond a b = absurd (subst (IsSecondBad command items) a b)
stop_once command items rest AtEnd AtRepeated a b = absurd (subst (IsFirstRepeated command items) a b)
stop_once command items rest AtEnd AtEnd a b = refl

-- the first word of an item, and what stands behind it
abbrev Heads : List (List ℕ) → Item → List (List ℕ) → Type 0
Heads words item behind = (words ≡ flag_of item.name ∷ item.value ∷ behind) ⊎ (words ≡ joined_of item.name item.value ∷ behind)

heads : (words : List (List ℕ)) (item : Item) (behind : List (List ℕ)) → Begins words item behind → Heads words item behind
heads words item behind begins = elim begins.is_item.1 [
  | inl e ↦ inl (begins.whole ∙ ap (λ f. f ++ behind) e)
  | inr e ↦ inr (begins.whole ∙ ap (λ f. f ++ behind) e)
]

first_ends : (command : Command) (rest : List (List ℕ)) (item : Item) (behind : List (List ℕ)) → IsFirstBad command rest → IsValue item.value → Heads rest item behind → Contains (options_of command) item.name → ⊥
first_ends command [] item behind a is_value h among = a
first_ends command (word ∷ rest) item behind (inl begins) is_value (inl e) among = begins.bare item.name among (cc)
first_ends command (word ∷ rest) item behind (inl begins) is_value (inr e) among = begins.joined item.name item.value among is_value (cc)
first_ends command (word ∷ rest) item behind (inr (none, m, m_among, is)) is_value (inl e) among = cc
first_ends command (word ∷ rest) item behind (inr (none, m, m_among, is)) is_value (inr e) among = flag_not_joined m item.name item.value (cc)

second_ends : (command : Command) (items : List Item) (rest : List (List ℕ)) (item : Item) (behind : List (List ℕ)) → IsSecondBad command items rest → IsValue item.value → Heads rest item behind → ⊥
second_ends command items [] item behind a is_value h = a
second_ends command items (word ∷ []) item behind a is_value h = a
second_ends command items (word ∷ value ∷ rest) item behind (m, m_among, absent, is, bad) is_value (inl e) = let same : item.value ≡ value = cc in bad (subst IsValue same is_value)
second_ends command items (word ∷ value ∷ rest) item behind (m, m_among, absent, is, bad) is_value (inr e) = flag_not_joined m item.name item.value (cc)

repeated_ends : (command : Command) (items : List Item) (rest : List (List ℕ)) (item : Item) (behind : List (List ℕ)) → IsFirstRepeated command items rest → Heads rest item behind → NotGiven items item.name → ⊥
repeated_ends command items [] item behind a h absent = a
repeated_ends command items (word ∷ rest) item behind (n, among, given, inl (some, is)) (inl e) absent =
    let flags : flag_of n ≡ flag_of item.name = cc in absent (subst (IsGiven items) (same_option n item.name flags) given)
repeated_ends command items (word ∷ rest) item behind (n, among, given, inl (some, is)) (inr e) absent = flag_not_joined n item.name item.value (cc)
repeated_ends command items (word ∷ rest) item behind (n, among, given, inr (value, is_value, is)) (inl e) absent = flag_not_joined item.name n value (cc)
repeated_ends command items (word ∷ rest) item behind (n, among, given, inr (value, is_value, is)) (inr e) absent =
    let joined : joined_of n value ≡ joined_of item.name item.value = cc in absent (subst (IsGiven items) (same_joined_option n item.name value item.value joined) given)

nothing_ends : (rest : List (List ℕ)) (item : Item) (behind : List (List ℕ)) → rest ≡ [] → Heads rest item behind → ⊥
nothing_ends rest item behind none (inl e) = cc
nothing_ends rest item behind none (inr e) = cc

-- no item stands where the items end
stop_ends : (command : Command) (items : List Item) (rest : List (List ℕ)) (s : Stop) → IsStop command items rest s → Ends command items rest
stop_ends command items rest AtFirst a = record { none = λ item behind begins among absent. first_ends command rest item behind a begins.is_item.0 (heads rest item behind begins) among }
stop_ends command items rest AtSecond a = record { none = λ item behind begins among absent. second_ends command items rest item behind a begins.is_item.0 (heads rest item behind begins) }
stop_ends command items rest AtRepeated a = record { none = λ item behind begins among absent. repeated_ends command items rest item behind a (heads rest item behind begins) absent }
stop_ends command items rest AtEnd a = record { none = λ item behind begins among absent. nothing_ends rest item behind a (heads rest item behind begins) }

-- what words ask for, or what is at fault in them
data Outcome : Type 0 where
  Asked : PlainJob → Outcome
  Faulty : UsageFault → Outcome

-- the same of items up to the last word
data End : Type 0 where
  Whole : PlainJob → End
  Lacks : OptionName → End
  Misgives : OptionName → End

abbrev outcome_of : End → Outcome
outcome_of (Whole job) = Asked job
outcome_of (Lacks name) = Faulty (Missing name)
outcome_of (Misgives name) = Faulty (BadNumber name)

-- the items ask for the job
record AskFor (command : Command) (items : List Item) (job : PlainJob) : Type 0 where
  command_is : job.command ≡ command
  required : All (IsGiven items) (required_of command)
  domain : GivesText items Domain job.domain
  problem : GivesText items Problem job.problem
  goals : GivesText items Goals job.goals
  states : GivesNumber items MaxStates 100000 job.limits.states
  sets : job.limits.sets ≡ 200000

-- this is what the items, up to the last word, ask for or lack
abbrev IsEnd : Command → List Item → End → Type 0
IsEnd command items (Whole job) = AskFor command items job
IsEnd command items (Lacks name) = IsFirstWith (required_of command) (NotGiven items) name
IsEnd command items (Misgives name) = All (IsGiven items) (required_of command) × IsFirstWith (options_of command) (GivesNoNumber items) name

-- at most one name is the first
first_once : (names : List OptionName) (P : OptionName → Type 0) (m n : OptionName) → IsFirstWith names P m → IsFirstWith names P n → m ≡ n
first_once names P m n a b =
    let i : ℕ = length a.before in
    let j : ℕ = length b.before in
    let at_m : get_or names i m ≡ m = ap (λ ns. get_or ns i m) a.whole ∙ get_or-append_seam a.before m a.behind m in
    let at_n : get_or names j m ≡ n = ap (λ ns. get_or ns j m) b.whole ∙ get_or-append_seam b.before n b.behind m in
    elim (cases_order i j) as (λ _. m ≡ n) [
      | inl same ↦ sym at_m ∙ ap (λ k. get_or names k m) same ∙ at_n
      | inr other ↦ elim other as (λ _. m ≡ n) [
        | inl before ↦ absurd (b.none i m before (subst P (sym at_m ∙ ap (λ ns. get_or ns i m) b.whole ∙ get_or_append_left b.before (n ∷ b.behind) m i before) a.has))
        | inr behind ↦ absurd (a.none j m behind (subst P (sym at_n ∙ ap (λ ns. get_or ns j m) a.whole ∙ get_or_append_left a.before (m ∷ a.behind) m j behind) b.has))
      ]
    ]

first_among : (names : List OptionName) (P : OptionName → Type 0) (n : OptionName) → IsFirstWith names P n → Contains names n
first_among names P n first = subst (λ ns. Contains ns n) (sym first.whole) (Contains-append_right first.before (n ∷ first.behind) n (0, omega arith, refl))

-- where all is given that the command must have, none of it is missing
missing_given : (command : Command) (items : List Item) (name : OptionName) → IsFirstWith (required_of command) (NotGiven items) name → All (IsGiven items) (required_of command) → ⊥
missing_given command items name first given = first.has (All-contains (IsGiven items) (required_of command) name given (first_among (required_of command) (NotGiven items) name first))

-- a number that is given is no bad one, and there is at most one
number_good : (items : List Item) (name : OptionName) (default n : ℕ) (once : HasNoRepeats items) → GivesNumber items name default n → GivesNoNumber items name → ⊥
number_good items name default n once (inl (value, range, gives, ranged, number)) bad =
    let same : Some bad.0 ≡ Some range = sym bad.2 ∙ ranged in
    let range_is : range ≡ bad.0 = cc in
    bad.4 n (subst (λ v. IsNumber bad.0 v n) (gives_once items name value bad.1 once gives bad.3) (subst (λ r. IsNumber r value n) range_is number))
number_good items name default n once (inr (absent, is)) bad = absent (bad.1, bad.3)

number_once : (items : List Item) (name : OptionName) (default m n : ℕ) (once : HasNoRepeats items) → GivesNumber items name default m → GivesNumber items name default n → m ≡ n
number_once items name default m n once (inl (v, r, v_gives, r_is, a)) (inl (w, s, w_gives, s_is, b)) =
    sym a.value ∙ ap (digits_value 10) (gives_once items name v w once v_gives w_gives) ∙ b.value
number_once items name default m n once (inl (v, r, v_gives, r_is, a)) (inr (absent, is)) = absurd (absent (v, v_gives))
number_once items name default m n once (inr (absent, is)) (inl (w, s, w_gives, s_is, b)) = absurd (absent (w, w_gives))
number_once items name default m n once (inr (absent, is)) (inr (none, same)) = is ∙ sym same

-- a job gives each number that it may
asked_good : (command : Command) (items : List Item) (job : PlainJob) (name : OptionName) → HasNoRepeats items → AskFor command items job → GivesNoNumber items name → ⊥
asked_good command items job Domain once ask bad = let none : ◌≡◌ {A = Option (ℕ × ℕ)} None (Some bad.0) = bad.2 in cc
asked_good command items job Problem once ask bad = let none : ◌≡◌ {A = Option (ℕ × ℕ)} None (Some bad.0) = bad.2 in cc
asked_good command items job Goals once ask bad = let none : ◌≡◌ {A = Option (ℕ × ℕ)} None (Some bad.0) = bad.2 in cc
asked_good command items job MaxStates once ask bad = number_good items MaxStates 100000 job.limits.states once ask.states bad

-- the items ask for at most one job
asked_once : (command : Command) (items : List Item) (j k : PlainJob) → HasNoRepeats items → AskFor command items j → AskFor command items k → j ≡ k
asked_once command items j k once a b =
    let command_is : j.command ≡ k.command = a.command_is ∙ sym b.command_is in
    let domain_is : j.domain ≡ k.domain = text_once items Domain j.domain k.domain once a.domain b.domain in
    let problem_is : j.problem ≡ k.problem = text_once items Problem j.problem k.problem once a.problem b.problem in
    let goals_is : j.goals ≡ k.goals = text_once items Goals j.goals k.goals once a.goals b.goals in
    let states_are : j.limits.states ≡ k.limits.states = number_once items MaxStates 100000 j.limits.states k.limits.states once a.states b.states in
    let sets_are : j.limits.sets ≡ k.limits.sets = a.sets ∙ sym b.sets in
    same_job j k command_is domain_is problem_is goals_is states_are sets_are
  where
    same_job : (j k : PlainJob) → j.command ≡ k.command → j.domain ≡ k.domain → j.problem ≡ k.problem → j.goals ≡ k.goals → j.limits.states ≡ k.limits.states → j.limits.sets ≡ k.limits.sets → j ≡ k
    same_job j k c d p g s t =
        let limits : ℕ → ℕ → Limits = λ states sets. record { states = states; sets = sets } in
        let whole : Command → List ℕ → List ℕ → List ℕ → Limits → PlainJob = λ command domain problem goals limits. record { command = command; domain = domain; problem = problem; goals = goals; limits = limits } in
        ap (λ x. whole x j.domain j.problem j.goals j.limits) c
        ∙ ap (λ x. whole k.command x j.problem j.goals j.limits) d
        ∙ ap (λ x. whole k.command k.domain x j.goals j.limits) p
        ∙ ap (λ x. whole k.command k.domain k.problem x j.limits) g
        ∙ ap (λ x. whole k.command k.domain k.problem k.goals (limits x j.limits.sets)) s
        ∙ ap (λ x. whole k.command k.domain k.problem k.goals (limits k.limits.states x)) t

-- items up to the last word ask for one thing, or lack one
end_once : (command : Command) (items : List Item) (a b : End) → HasNoRepeats items → IsEnd command items a → IsEnd command items b → a ≡ b
end_once command items (Whole j) (Whole k) once a b = ap Whole (asked_once command items j k once a b)
end_once command items (Whole j) (Lacks name) once a b = absurd (missing_given command items name b a.required)
end_once command items (Whole j) (Misgives name) once a b = absurd (asked_good command items j name once a b.1.has)
end_once command items (Lacks name) (Whole k) once a b = absurd (missing_given command items name a b.required)
end_once command items (Lacks name) (Lacks other) once a b = ap Lacks (first_once (required_of command) (NotGiven items) name other a b)
end_once command items (Lacks name) (Misgives other) once a b = absurd (missing_given command items name a b.0)
end_once command items (Misgives name) (Whole k) once a b = absurd (asked_good command items k name once b a.1.has)
end_once command items (Misgives name) (Lacks other) once a b = absurd (missing_given command items other b a.0)
end_once command items (Misgives name) (Misgives other) once a b = ap Misgives (first_once (options_of command) (GivesNoNumber items) name other a.1 b.1)

-- what a stop behind so many words says
abbrev Says : Command → List Item → ℕ → Stop → Outcome → Type 0
Says command items count AtFirst o = o ≡ Faulty (BadItem (count + 2))
Says command items count AtSecond o = o ≡ Faulty (BadItem (count + 3))
Says command items count AtRepeated o = o ≡ Faulty (Repeated (count + 2))
Says command items count AtEnd o = (end : End) × IsEnd command items end × (o ≡ outcome_of end)

says_once : (command : Command) (items : List Item) (count : ℕ) (s : Stop) (a b : Outcome) → HasNoRepeats items → Says command items count s a → Says command items count s b → a ≡ b
says_once command items count AtFirst a b once x y = x ∙ sym y
says_once command items count AtSecond a b once x y = x ∙ sym y
says_once command items count AtRepeated a b once x y = x ∙ sym y
says_once command items count AtEnd a b once x y = x.2 ∙ ap outcome_of (end_once command items x.0 y.0 once x.1 y.1) ∙ sym y.2

-- what the words behind a command are read as
record Reading (command : Command) (words : List (List ℕ)) (o : Outcome) : Type 0 where
  front : List (List ℕ)
  rest : List (List ℕ)
  items : List Item
  stop : Stop
  whole : words ≡ front ++ rest
  good : AreItemsOf command front items
  stopped : IsStop command items rest stop
  says : Says command items (length front) stop o

reading_once : (command : Command) (words : List (List ℕ)) (a b : Outcome) → Reading command words a → Reading command words b → a ≡ b
reading_once command words a b x y =
    let same = items_once command x.items y.items x.front y.front x.rest y.rest x.good y.good (sym x.whole ∙ y.whole) (stop_ends command x.items x.rest x.stop x.stopped) (stop_ends command y.items y.rest y.stop y.stopped) in
    let rests : length x.rest ≡ length y.rest = ap length same.1 in
    let all : length (x.front ++ x.rest) ≡ length (y.front ++ y.rest) = ap length (sym x.whole ∙ y.whole) in
    let count : length y.front ≡ length x.front = omega (arith, length-append x.front x.rest, length-append y.front y.rest) in
    let stopped : IsStop command x.items x.rest y.stop = subst (λ is. IsStop command is x.rest y.stop) (sym same.0) (subst (λ r. IsStop command y.items r y.stop) (sym same.1) y.stopped) in
    let stop_is : y.stop ≡ x.stop = stop_once command x.items x.rest y.stop x.stop stopped x.stopped in
    let says : Says command x.items (length x.front) x.stop b =
    subst (λ s. Says command x.items (length x.front) s b) stop_is
    (subst (λ n. Says command x.items n y.stop b) count (subst (λ is. Says command is (length y.front) y.stop b) (sym same.0) y.says)) in
    says_once command x.items (length x.front) x.stop a b x.good.once x.says says

-- words that begin with a command are read as this
record Known (words : List (List ℕ)) (o : Outcome) : Type 0 where
  command : Command
  behind : List (List ℕ)
  whole : words ≡ command_text command ∷ behind
  reading : Reading command behind o

known_once : (words : List (List ℕ)) (a b : Outcome) → Known words a → Known words b → a ≡ b
known_once words a b x y =
    let texts : command_text x.command ∷ x.behind ≡ command_text y.command ∷ y.behind = sym x.whole ∙ y.whole in
    let heads : command_text x.command ≡ command_text y.command = cc in
    let tails : x.behind ≡ y.behind = cc in
    let reading : Reading y.command y.behind a = subst (λ c. Reading c y.behind a) (same_command x.command y.command heads) (subst (λ ws. Reading x.command ws a) tails x.reading) in
    reading_once y.command y.behind a b reading y.reading

-- the first word is no command
record Unknown (words : List (List ℕ)) : Type 0 where
  word : List ℕ
  behind : List (List ℕ)
  whole : words ≡ word ∷ behind
  none : (command : Command) → word ≢ command_text command

abbrev HasOutcome : List (List ℕ) → Outcome → Type 0
HasOutcome words o = ((words ≡ []) × (o ≡ Faulty NoCommand)) ⊎ ((Unknown words × (o ≡ Faulty UnknownCommand)) ⊎ Known words o)

not_both : (words : List (List ℕ)) (o : Outcome) → Unknown words → Known words o → ⊥
not_both words o x y =
    let texts : x.word ∷ x.behind ≡ command_text y.command ∷ y.behind = sym x.whole ∙ y.whole in
    let heads : x.word ≡ command_text y.command = cc in
    x.none y.command heads

is_once : (words : List (List ℕ)) (a b : Outcome) → HasOutcome words a → HasOutcome words b → a ≡ b
is_once words a b (inl x) (inl y) = x.1 ∙ sym y.1
is_once words a b (inl x) (inr (inl y)) = let no : [] ≡ y.0.word ∷ y.0.behind = sym x.0 ∙ y.0.whole in cc
is_once words a b (inl x) (inr (inr y)) = let no : [] ≡ command_text y.command ∷ y.behind = sym x.0 ∙ y.whole in cc
is_once words a b (inr (inl x)) (inl y) = let no : [] ≡ x.0.word ∷ x.0.behind = sym y.0 ∙ x.0.whole in cc
is_once words a b (inr (inl x)) (inr (inl y)) = x.1 ∙ sym y.1
is_once words a b (inr (inl x)) (inr (inr y)) = absurd (not_both words b x.0 y)
is_once words a b (inr (inr x)) (inl y) = let no : [] ≡ command_text x.command ∷ x.behind = sym y.0 ∙ x.whole in cc
is_once words a b (inr (inr x)) (inr (inl y)) = absurd (not_both words a y.0 x)
is_once words a b (inr (inr x)) (inr (inr y)) = known_once words a b x y

from_fault_at : (words : List (List ℕ)) (place : ℕ) (P : Command → List Item → List (List ℕ) → Type 0) (h : HasFaultAt words place P) (s : Stop) (o : Outcome)
    → IsStop h.command h.items h.rest s → Says h.command h.items (length h.front) s o → HasOutcome words o
from_fault_at words place P h s o stopped says = inr (inr (record {
  command = h.command;
  behind = h.front ++ h.rest;
  whole = h.whole;
  reading = record {
    front = h.front;
    rest = h.rest;
    items = h.items;
    stop = s;
    whole = refl;
    good = h.good;
    stopped = stopped;
    says = says;
  };
}))

from_items_with : (words : List (List ℕ)) (P : Command → List Item → Type 0) (h : AreItemsWith words P) (end : End) → IsEnd h.command h.items end → HasOutcome words (outcome_of end)
from_items_with words P h end is = inr (inr (record {
  command = h.command;
  behind = h.rest;
  whole = h.whole;
  reading = record {
    front = h.rest;
    rest = [];
    items = h.items;
    stop = AtEnd;
    whole = sym (append-nil h.rest);
    good = h.good;
    stopped = refl;
    says = (end, is, refl);
  };
}))

from_fault : (words : List (List ℕ)) (f : UsageFault) → IsUsageFault words f → HasOutcome words (Faulty f)
from_fault words NoCommand h = inl (h, refl)
from_fault words UnknownCommand h = inr (inl (record { word = h.0; behind = h.1; whole = h.2; none = h.3 }, refl))
from_fault words (BadItem place) (inl h) = from_fault_at words place _ h AtFirst (Faulty (BadItem place)) h.fault (ap (λ n. Faulty (BadItem n)) h.counted)
from_fault words (BadItem place) (inr (first, is, h)) =
    let counted : place ≡ length h.front + 3 = omega (arith, h.counted) in
    from_fault_at words first _ h AtSecond (Faulty (BadItem place)) h.fault (ap (λ n. Faulty (BadItem n)) counted)
from_fault words (Repeated place) h = from_fault_at words place _ h AtRepeated (Faulty (Repeated place)) h.fault (ap (λ n. Faulty (Repeated n)) h.counted)
from_fault words (Missing name) h = from_items_with words _ h (Lacks name) h.fault
from_fault words (BadNumber name) h = from_items_with words _ h (Misgives name) h.fault

from_reads : (words : List (List ℕ)) (job : PlainJob) → Reads words job → HasOutcome words (Asked job)
from_reads words job h = inr (inr (record {
  command = job.command;
  behind = h.rest;
  whole = h.whole;
  reading = record {
    front = h.rest;
    rest = [];
    items = h.items;
    stop = AtEnd;
    whole = sym (append-nil h.rest);
    good = h.are_items;
    stopped = refl;
    says = (
      Whole job,
      record {
        command_is = refl;
        required = h.required;
        domain = h.domain;
        problem = h.problem;
        goals = h.goals;
        states = h.states;
        sets = h.sets;
      },
      refl,
    );
  };
}))

pub reads_once : (words : List (List ℕ)) (j k : PlainJob) → Reads words j → Reads words k → j ≡ k
reads_once words j k a b = let same : Asked j ≡ Asked k = is_once words (Asked j) (Asked k) (from_reads words j a) (from_reads words k b) in cc

pub fault_once : (words : List (List ℕ)) (f g : UsageFault) → IsUsageFault words f → IsUsageFault words g → f ≡ g
fault_once words f g a b = let same : Faulty f ≡ Faulty g = is_once words (Faulty f) (Faulty g) (from_fault words f a) (from_fault words g b) in cc

pub reads_or_fault : (words : List (List ℕ)) (job : PlainJob) (f : UsageFault) → Reads words job → IsUsageFault words f → ⊥
reads_or_fault words job f a b = let same : Asked job ≡ Faulty f = is_once words (Asked job) (Faulty f) (from_reads words job a) (from_fault words f b) in cc

-- so a result that is right says all
pub only_job : (words : List (List ℕ)) (r : Result PlainJob WordsFault) (job : PlainJob) → IfOk r (Reads words) → ((f : UsageFault) → r ≡ Err (Usage f) → IsUsageFault words f)
    → Reads words job → (r ≡ Ok job) ⊎ (r ≡ Err OutOfMemory)
only_job words (Ok found) job read fault is = inl (ap Ok (reads_once words found job read is))
only_job words (Err (Usage f)) job read fault is = absurd (reads_or_fault words job f is (fault f refl))
only_job words (Err OutOfMemory) job read fault is = inr refl

pub only_fault : (words : List (List ℕ)) (r : Result PlainJob WordsFault) (f : UsageFault) → IfOk r (Reads words) → ((g : UsageFault) → r ≡ Err (Usage g) → IsUsageFault words g)
    → IsUsageFault words f → (r ≡ Err (Usage f)) ⊎ (r ≡ Err OutOfMemory)
only_fault words (Ok found) f read fault is = absurd (reads_or_fault words found f read is)
only_fault words (Err (Usage g)) f read fault is = inl (ap (λ h. Err (Usage h)) (fault_once words g f (fault g refl) is))
only_fault words (Err OutOfMemory) f read fault is = inr refl
