-- The words of the command line: a command, and behind it its items in any order.
use Rattle.std.specs.Prelude.{◌≡◌, ◌≢◌, ℕ, ◌+◌, ◌<◌, ◌≤◌, ◌⊎◌, List, [], ◌∷◌, ◌++◌, length, codes, Option, Some, None, All, AllPairs, Contains}
use Rattle.std.specs.Str.Parse.{AllDigits, digits_value}
use Rattle.grd_base.specs.declared.limits.Limits.{Limits}
use Rattle.command_words.specs.declared.command.Command.{Command}
use Rattle.command_words.specs.declared.command.Command.TheVariants.{Cost, Wcd, Show}
use Rattle.command_words.specs.declared.command.OptionName.{OptionName}
use Rattle.command_words.specs.declared.command.OptionName.TheVariants.{Domain, Problem, Goals, MaxStates}
use Rattle.command_words.specs.declared.faults.UsageFault.{UsageFault}
use Rattle.command_words.specs.declared.faults.UsageFault.TheVariants.{NoCommand, UnknownCommand, BadItem, Repeated, Missing, BadNumber}

-- the table of the commands: what a command is called, the options that it must have, and those
-- that it may have
abbrev pub command_text : Command → List ℕ
command_text Cost = codes "cost"
command_text Wcd = codes "wcd"
command_text Show = codes "show"

abbrev pub required_of : Command → List OptionName
required_of Cost = Domain ∷ Problem ∷ Goals ∷ []
required_of Wcd = Domain ∷ Problem ∷ Goals ∷ []
required_of Show = Domain ∷ Problem ∷ []

abbrev pub optional_of : Command → List OptionName
optional_of Cost = MaxStates ∷ []
optional_of Wcd = MaxStates ∷ []
optional_of Show = []

abbrev pub options_of : Command → List OptionName
options_of command = required_of command ++ optional_of command

-- the table of the options: what an option is called, and, where its value is a number, the least
-- and the greatest
abbrev pub option_text : OptionName → List ℕ
option_text Domain = codes "domain"
option_text Problem = codes "problem"
option_text Goals = codes "goals"
option_text MaxStates = codes "max-states"

abbrev pub range_of : OptionName → Option (ℕ × ℕ)
range_of Domain = None
range_of Problem = None
range_of Goals = None
range_of MaxStates = Some (1, 200000)

-- the word of an option
abbrev pub flag_of : OptionName → List ℕ
flag_of name = codes "--" ++ option_text name

-- a value has at least one byte and does not begin with a hyphen
abbrev pub IsValue : List ℕ → Type 0
IsValue [] = ⊥
IsValue (b ∷ bytes) = b ≢ 45

-- the text is 1 to 10 digits, leading zeros among them, that write a number of the range
pub record IsNumber (range : ℕ × ℕ) (text : List ℕ) (n : ℕ) : Type 0 where
  pub digits : AllDigits 10 text
  pub some : 0 < length text
  pub short : length text ≤ 10
  pub value : digits_value 10 text ≡ n
  pub least : range.0 ≤ n
  pub greatest : n ≤ range.1

-- an option with its value
pub record Item : Type 0 where
  pub name : OptionName
  pub value : List ℕ

-- one word in which an option stands with a value: '--name=value'
abbrev pub joined_of : OptionName → List ℕ → List ℕ
joined_of name value = flag_of name ++ codes "=" ++ value

-- the words are the item: '--name value' in two words, or '--name=value' in one
abbrev pub IsItem : List (List ℕ) → Item → Type 0
IsItem words item =
    IsValue item.value
    × ((words ≡ flag_of item.name ∷ item.value ∷ []) ⊎ (words ≡ joined_of item.name item.value ∷ []))

-- the words are the items, one behind the other
abbrev pub AreItems : List (List ℕ) → List Item → Type 0
AreItems words [] = words ≡ []
AreItems words (item ∷ items) =
    (front rest : List (List ℕ)) × (words ≡ front ++ rest) × IsItem front item × AreItems rest items

-- the words are items of the command, no option twice
pub record AreItemsOf (command : Command) (words : List (List ℕ)) (items : List Item) : Type 0 where
  pub spelled : AreItems words items
  pub options : All (λ item. Contains (options_of command) item.name) items
  pub once : AllPairs (λ i j. i.name ≢ j.name) items

-- the option is given with this value
abbrev pub Gives : List Item → OptionName → List ℕ → Type 0
Gives items name value = Contains items (record { name = name; value = value })

abbrev pub IsGiven : List Item → OptionName → Type 0
IsGiven items name = (value : List ℕ) × Gives items name value

abbrev pub NotGiven : List Item → OptionName → Type 0
NotGiven items name = IsGiven items name → ⊥

-- the number that the option is given, or the one that stands for it where it is not given
abbrev pub GivesNumber : List Item → OptionName → ℕ → ℕ → Type 0
GivesNumber items name default n =
    ((value : List ℕ) × (range : ℕ × ℕ) × Gives items name value × (range_of name ≡ Some range) × IsNumber range value n)
    ⊎ (NotGiven items name × (n ≡ default))

-- the value that the option is given, or nothing where it is not given
abbrev pub GivesText : List Item → OptionName → List ℕ → Type 0
GivesText items name value = Gives items name value ⊎ (NotGiven items name × (value ≡ []))

-- what the words ask for: the command, the names of its files and its limits; what the command does not
-- have is empty
pub record PlainJob : Type 0 where
  pub command : Command
  pub domain : List ℕ
  pub problem : List ℕ
  pub goals : List ℕ
  pub limits : Limits

-- the words ask for this job; where no limit on states is given it is 100,000, and the limit on sets,
-- which no command takes yet, is its default
pub record Reads (words : List (List ℕ)) (job : PlainJob) : Type 0 where
  pub rest : List (List ℕ)
  pub items : List Item
  pub whole : words ≡ command_text job.command ∷ rest
  pub are_items : AreItemsOf job.command rest items
  pub required : All (IsGiven items) (required_of job.command)
  pub domain : GivesText items Domain job.domain
  pub problem : GivesText items Problem job.problem
  pub goals : GivesText items Goals job.goals
  pub states : GivesNumber items MaxStates 100000 job.limits.states
  pub sets : job.limits.sets ≡ 200000

-- the word begins no item of the command
pub record BeginsNoItem (command : Command) (word : List ℕ) : Type 0 where
  pub bare : (name : OptionName) → Contains (options_of command) name → word ≢ flag_of name
  pub joined : (name : OptionName) (value : List ℕ) → Contains (options_of command) name → IsValue value → word ≢ joined_of name value

-- the first of the words is no item, nor the option of one, or is an option with no word behind it
abbrev pub IsFirstBad : Command → List (List ℕ) → Type 0
IsFirstBad command [] = ⊥
IsFirstBad command (word ∷ rest) =
    BeginsNoItem command word
    ⊎ ((rest ≡ []) × (name : OptionName) × Contains (options_of command) name × (word ≡ flag_of name))

-- the first of the words is an option that is not given before, and the second is no value
abbrev pub IsSecondBad : Command → List Item → List (List ℕ) → Type 0
IsSecondBad command items [] = ⊥
IsSecondBad command items (word ∷ []) = ⊥
IsSecondBad command items (word ∷ value ∷ rest) =
    (name : OptionName) × Contains (options_of command) name × NotGiven items name
    × (word ≡ flag_of name) × (IsValue value → ⊥)

-- the first of the words is an option that is given before, with a word behind it, or it is an item of
-- such an option in one word
abbrev pub IsFirstRepeated : Command → List Item → List (List ℕ) → Type 0
IsFirstRepeated command items [] = ⊥
IsFirstRepeated command items (word ∷ rest) =
    (name : OptionName) × Contains (options_of command) name × IsGiven items name
    × (((rest ≢ []) × (word ≡ flag_of name)) ⊎ ((value : List ℕ) × IsValue value × (word ≡ joined_of name value)))

-- the words begin with a command and items of it, no option twice, and what stands behind these
-- has the property; `place` is the number of the first word there, the command being number 1
pub record HasFaultAt (words : List (List ℕ)) (place : ℕ) (P : Command → List Item → List (List ℕ) → Type 0) : Type 0 where
  pub command : Command
  pub front : List (List ℕ)
  pub rest : List (List ℕ)
  pub items : List Item
  pub whole : words ≡ command_text command ∷ front ++ rest
  pub good : AreItemsOf command front items
  pub counted : place ≡ length front + 2
  pub fault : P command items rest

-- the words are a command and items of it, no option twice, which have the property
pub record AreItemsWith (words : List (List ℕ)) (P : Command → List Item → Type 0) : Type 0 where
  pub command : Command
  pub rest : List (List ℕ)
  pub items : List Item
  pub whole : words ≡ command_text command ∷ rest
  pub good : AreItemsOf command rest items
  pub fault : P command items

-- the name is the first of the names with the property
pub record IsFirstWith (names : List OptionName) (P : OptionName → Type 0) (name : OptionName) : Type 0 where
  pub before : List OptionName
  pub behind : List OptionName
  pub whole : names ≡ before ++ name ∷ behind
  pub has : P name
  pub none : All (λ other. P other → ⊥) before

-- the option's value is a number, and what is given is none of its range
abbrev pub GivesNoNumber : List Item → OptionName → Type 0
GivesNoNumber items name =
    (range : ℕ × ℕ) × (value : List ℕ) × (range_of name ≡ Some range) × Gives items name value
    × ((n : ℕ) → IsNumber range value n → ⊥)

-- what is at fault in the words: that there is no word; that the first is no command; the first word
-- that is at fault in the items, by its number from 1; the first option that is missing; or the first
-- that is no number of its range
abbrev pub IsUsageFault : List (List ℕ) → UsageFault → Type 0
IsUsageFault words NoCommand = words ≡ []
IsUsageFault words UnknownCommand =
    (word : List ℕ) × (rest : List (List ℕ)) × (words ≡ word ∷ rest) × ((command : Command) → word ≢ command_text command)
IsUsageFault words (BadItem place) =
    HasFaultAt words place (λ command items rest. IsFirstBad command rest)
    ⊎ ((first : ℕ) × (place ≡ first + 1) × HasFaultAt words first IsSecondBad)
IsUsageFault words (Repeated place) = HasFaultAt words place IsFirstRepeated
IsUsageFault words (Missing name) =
    AreItemsWith words (λ command items. IsFirstWith (required_of command) (NotGiven items) name)
IsUsageFault words (BadNumber name) =
    AreItemsWith words (λ command items. All (IsGiven items) (required_of command)
    × IsFirstWith (options_of command) (GivesNoNumber items) name)
