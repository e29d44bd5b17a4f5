-- What the functions that read words promise one another.
use Rattle.std.specs.Prelude.{◌≡◌, ◌≢◌, ◌⊎◌, ℕ, ◌+◌, ◌<◌, ◌≤◌, List, length, map, take, All, AllPairs, Contains, Some}
use Rattle.grd_base.specs.declared.limits.Limits.{Limits}
use Rattle.command_words.specs.declared.command.Command.{Command}
use Rattle.command_words.specs.declared.command.OptionName.{OptionName}
use Rattle.command_words.specs.declared.command.OptionName.TheVariants.{Domain, Problem, Goals, MaxStates}
use Rattle.command_words.specs.declared.faults.UsageFault.{UsageFault}
use Rattle.command_words.specs.declared.faults.UsageFault.TheVariants.{BadItem, Repeated as RepeatedAt}
use Rattle.command_words.specs.declared.words.Item.{Item as ReadItem}
use Rattle.command_words.specs.declared.words.Front.{Front}
use Rattle.command_words.specs.declared.words.FrontFault.{FrontFault}
use Rattle.command_words.specs.declared.words.FrontFault.TheVariants.{First, Second, Repeated}
use Rattle.command_words.specs.Commands.{Item, PlainJob, IsItem, IsNumber, Gives, GivesText, NotGiven, GivesNoNumber, IsFirstBad, IsSecondBad, IsFirstRepeated, options_of, range_of}

abbrev pub item_of : ReadItem → Item
item_of item = record { name = item.name; value = item.value.now }

abbrev pub items_of : List ReadItem → List Item
items_of items = map item_of items

-- no option is given twice
abbrev pub HasNoRepeats : List Item → Type 0
HasNoRepeats items = AllPairs (λ i j. i.name ≢ j.name) items

-- the text has no '='
abbrev pub HasNoEquals : List ℕ → Type 0
HasNoEquals text = All (λ b. b ≢ 61) text

-- the words begin with the item, which may stand behind the items before
pub record IsFront (command : Command) (items : List Item) (words : List (List ℕ)) (front : Front) : Type 0 where
  pub some : 0 < front.count
  pub fits : front.count ≤ length words
  pub spelled : IsItem (take front.count words) (item_of front.item)
  pub option : Contains (options_of command) front.item.name
  pub fresh : NotGiven items front.item.name

-- the words begin with no item that may stand behind the items before
abbrev pub IsFrontFault : Command → List Item → List (List ℕ) → FrontFault → Type 0
IsFrontFault command items words First = IsFirstBad command words
IsFrontFault command items words Second = IsSecondBad command items words
IsFrontFault command items words Repeated = IsFirstRepeated command items words

-- the fault of the words behind a command of which so many are items
abbrev pub usage_fault_of : FrontFault → ℕ → UsageFault
usage_fault_of First good = BadItem (good + 2)
usage_fault_of Second good = BadItem (good + 3)
usage_fault_of Repeated good = RepeatedAt (good + 2)

-- the limits with the number of an option
abbrev pub with_number_of : Limits → OptionName → ℕ → Limits
with_number_of limits Domain n = limits
with_number_of limits Problem n = limits
with_number_of limits Goals n = limits
with_number_of limits MaxStates n = record limits { states = n }

-- the number that the option is given, where it is one of the names, and else the one before
abbrev pub ReadsNumber : List OptionName → List Item → OptionName → ℕ → ℕ → Type 0
ReadsNumber names items name before n =
    (Contains names name × (value : List ℕ) × (range : ℕ × ℕ) × Gives items name value × (range_of name ≡ Some range) × IsNumber range value n)
    ⊎ ((Contains names name → NotGiven items name) × (n ≡ before))

-- each of the names that is given a number is given one of its range, and these stand in the limits
pub record ReadsLimits (names : List OptionName) (items : List Item) (before after : Limits) : Type 0 where
  pub good : All (λ name. GivesNoNumber items name → ⊥) names
  pub states : ReadsNumber names items MaxStates before.states after.states
  pub sets : after.sets ≡ before.sets

-- the job is that of the command, with what the items give, and has the limits
pub record IsJob (command : Command) (items : List Item) (limits : Limits) (job : PlainJob) : Type 0 where
  pub command_is : job.command ≡ command
  pub domain : GivesText items Domain job.domain
  pub problem : GivesText items Problem job.problem
  pub goals : GivesText items Goals job.goals
  pub limits_are : job.limits ≡ limits
