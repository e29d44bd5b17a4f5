-- The words of the options and of the commands: they differ, and no word of an option has a '='.
use Rattle.std.proofs.Common.{◌≡◌, ◌≢◌, ℕ, Bool, true, false, cond, eqb, List, [], ◌∷◌, ◌++◌, refl, sym, ◌∙◌, ap, rules, Option, Some, None}
use Rattle.std.specs.List.{All}
use Rattle.std.specs.Str.{bytes_eq}
use Rattle.std.proofs.lemmas.List.Elements.{All-head, All-tail, All-contains}
use Rattle.command_words.specs.declared.command.Command.{Command}
use Rattle.command_words.specs.declared.command.Command.TheVariants.{Cost, Wcd, Show}
use Rattle.command_words.specs.declared.command.OptionName.{OptionName}
use Rattle.command_words.specs.declared.command.OptionName.TheVariants.{Domain, Problem, Goals, MaxStates}
use Rattle.command_words.specs.Commands.{BeginsNoItem, command_text, flag_of, joined_of, options_of}
use Rattle.command_words.specs.Words.{HasNoEquals}

-- the command and the option that a word names
abbrev command_named : List ℕ → Option Command
command_named word = cond (bytes_eq word (command_text Cost)) (Some Cost)
    (cond (bytes_eq word (command_text Wcd)) (Some Wcd)
    (cond (bytes_eq word (command_text Show)) (Some Show) None))

named-command_text : (c : Command) → command_named (command_text c) ≡ Some c
named-command_text Cost = refl
named-command_text Wcd = refl
named-command_text Show = refl

abbrev pub option_named : List ℕ → Option OptionName
option_named word = cond (bytes_eq word (flag_of Domain)) (Some Domain)
    (cond (bytes_eq word (flag_of Problem)) (Some Problem)
    (cond (bytes_eq word (flag_of Goals)) (Some Goals)
    (cond (bytes_eq word (flag_of MaxStates)) (Some MaxStates) None)))

named-flag_of : (n : OptionName) → option_named (flag_of n) ≡ Some n
named-flag_of Domain = refl
named-flag_of Problem = refl
named-flag_of Goals = refl
named-flag_of MaxStates = refl

-- what stands before the first '=' of a word, and behind it
abbrev pub before_equals : List ℕ → List ℕ
before_equals [] = []
before_equals (b ∷ bs) = cond (eqb b 61) [] (b ∷ before_equals bs)

abbrev pub behind_equals : List ℕ → Option (List ℕ)
behind_equals [] = None
behind_equals (b ∷ bs) = cond (eqb b 61) (Some bs) (behind_equals bs)

behind-flag_of : (n : OptionName) → behind_equals (flag_of n) ≡ None
behind-flag_of Domain = refl
behind-flag_of Problem = refl
behind-flag_of Goals = refl
behind-flag_of MaxStates = refl

before-joined_of : (n : OptionName) (value : List ℕ) → before_equals (joined_of n value) ≡ flag_of n
before-joined_of Domain value = refl
before-joined_of Problem value = refl
before-joined_of Goals value = refl
before-joined_of MaxStates value = refl

behind-joined_of : (n : OptionName) (value : List ℕ) → behind_equals (joined_of n value) ≡ Some value
behind-joined_of Domain value = refl
behind-joined_of Problem value = refl
behind-joined_of Goals value = refl
behind-joined_of MaxStates value = refl

pub same_command : (c d : Command) → command_text c ≡ command_text d → c ≡ d
same_command c d e = let same : Some c ≡ Some d = sym (named-command_text c) ∙ ap command_named e ∙ named-command_text d in cc

pub same_option : (m n : OptionName) → flag_of m ≡ flag_of n → m ≡ n
same_option m n e = let same : Some m ≡ Some n = sym (named-flag_of m) ∙ ap option_named e ∙ named-flag_of n in cc

-- an option's word is no word with a '='
pub flag_not_joined : (m n : OptionName) (value : List ℕ) → flag_of m ≢ joined_of n value
flag_not_joined m n value e = let same : ◌≡◌ {A = Option (List ℕ)} None (Some value) = sym (behind-flag_of m) ∙ ap behind_equals e ∙ behind-joined_of n value in cc

pub same_joined_option : (m n : OptionName) (v w : List ℕ) → joined_of m v ≡ joined_of n w → m ≡ n
same_joined_option m n v w e = same_option m n (sym (before-joined_of m v) ∙ ap before_equals e ∙ before-joined_of n w)

pub same_joined_value : (m n : OptionName) (v w : List ℕ) → joined_of m v ≡ joined_of n w → v ≡ w
same_joined_value m n v w e = let same : Some v ≡ Some w = sym (behind-joined_of m v) ∙ ap behind_equals e ∙ behind-joined_of n w in cc

-- the same of words that are read
not_equals : (b : ℕ) → b ≢ 61 → eqb b 61 ≡ false
not_equals b h = each (eqb b 61) refl
  where
    each : (t : Bool) → eqb b 61 ≡ t → t ≡ false
    each true e = absurd (h (search rules))
    each false e = refl

pub behind_none : (word : List ℕ) → HasNoEquals word → behind_equals word ≡ None
behind_none [] h = refl
behind_none (b ∷ bs) h =
    let first : eqb b 61 ≡ false = not_equals b (All-head (λ c. c ≢ 61) b bs h) in
    let rest : behind_equals bs ≡ None = behind_none bs (All-tail (λ c. c ≢ 61) b bs h) in
    rw first rest

pub before_cut : (flag value : List ℕ) → HasNoEquals flag → before_equals (flag ++ 61 ∷ value) ≡ flag
before_cut [] value h = refl
before_cut (b ∷ bs) value h =
    let first : eqb b 61 ≡ false = not_equals b (All-head (λ c. c ≢ 61) b bs h) in
    rw first (ap (λ cs. b ∷ cs) (before_cut bs value (All-tail (λ c. c ≢ 61) b bs h)))

pub behind_cut : (flag value : List ℕ) → HasNoEquals flag → behind_equals (flag ++ 61 ∷ value) ≡ Some value
behind_cut [] value h = refl
behind_cut (b ∷ bs) value h =
    let first : eqb b 61 ≡ false = not_equals b (All-head (λ c. c ≢ 61) b bs h) in
    rw first (behind_cut bs value (All-tail (λ c. c ≢ 61) b bs h))

-- a word with no '=' that is no option's begins no item
pub begins_none_bare : (command : Command) (word : List ℕ) → HasNoEquals word → All (λ n. word ≢ flag_of n) (options_of command) → BeginsNoItem command word
begins_none_bare command word plain none = record {
  bare = λ n among. All-contains (λ m. word ≢ flag_of m) (options_of command) n none among;
  joined = λ n value among is_value e.
      let same : ◌≡◌ {A = Option (List ℕ)} None (Some value) = sym (behind_none word plain) ∙ ap behind_equals e ∙ behind-joined_of n value in cc;
}

-- nor does a word whose part before its first '=' is no option's
pub begins_none_joined : (command : Command) (flag value : List ℕ) → HasNoEquals flag → All (λ n. flag ≢ flag_of n) (options_of command) → BeginsNoItem command (flag ++ 61 ∷ value)
begins_none_joined command flag value plain none = record {
  bare = λ n among e. let same : ◌≡◌ {A = Option (List ℕ)} (Some value) None = sym (behind_cut flag value plain) ∙ ap behind_equals e ∙ behind-flag_of n in cc;
  joined = λ n v among is_value e. All-contains (λ m. flag ≢ flag_of m) (options_of command) n none among (sym (before_cut flag value plain) ∙ ap before_equals e ∙ before-joined_of n v);
}
