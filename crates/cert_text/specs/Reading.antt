-- What a line's words give, from the front: each function answers what it found and the words behind it.
use Rattle.std.specs.Prelude.{Result, Ok, Err, ℕ, ◌-◌, ◌^◌, Bool, true, false, not, ◌&&◌, ◌==◌, nat_lt, if◌then◌else◌, List, [], ◌∷◌, length, map, codes, min, Option, Some, None}
use Rattle.std.specs.List.{slice_split, find}
use Rattle.std.specs.Option.{option_map, option_and_then}
use Rattle.std.specs.Str.{all_ascii_digits, bytes_eq}
use Rattle.std.specs.Int.Digits.{number_from_digits}
use Rattle.grd_base.specs.declared.limits.Bound.{Bound}
use Rattle.grd_base.specs.declared.limits.Bound.TheVariants.{Steps as AtMost, Never}
use Rattle.cert_text.specs.Lines.{Line, Head, HeadTwo, Counts, GoalCost, Plan, Table, Cuts, Set, Steps, End, Verdict, Wcd, Prefix, Live, Design, Remove, Named, Tree, Branch, Leaf, LeafUse, Done}
use Rattle.cert_text.specs.Lines.{Spells, IsGood, IsOfNoKind, HoldsOverRange}
use Rattle.cert_text.specs.Values.{plain, keyword_text}
use Rattle.cert_text.specs.declared.line.CertLine.{CertLine}
use Rattle.cert_text.specs.declared.line.BadText.{BadText}
use Rattle.cert_text.specs.declared.line.BadText.TheVariants.{OfNoKind, OverRange, OutOfMemory}
use Rattle.cert_text.specs.declared.keyword.Keyword.{Keyword}
use Rattle.cert_text.specs.declared.keyword.Keyword.TheVariants as key

-- the words of a line's bytes
abbrev pub words : List ℕ → List (List ℕ)
words bytes = slice_split (λ b. b == 32) bytes

-- the words behind the space with which the rest of a line begins
abbrev pub words_left : List ℕ → List (List ℕ)
words_left [] = []
words_left (b ∷ bytes) = words bytes

-- ---- numbers

-- one digit, or more of which the first is no zero
abbrev pub begins_numeral : List ℕ → Bool
begins_numeral [] = false
begins_numeral (c ∷ []) = true
begins_numeral (c ∷ d ∷ cs) = not (c == 48)

abbrev pub is_numeral : List ℕ → Bool
is_numeral word = begins_numeral word && all_ascii_digits word

unfoldable pub value_of : List ℕ → ℕ
value_of ds = number_from_digits 10 (map (λ c. c - 48) ds)

-- the number of a word, at most this one
unfoldable pub number_up_to : ℕ → List ℕ → Option ℕ
number_up_to most word = if is_numeral word then Some (min (value_of word) most) else None

-- a number as a line has it in memory
abbrev pub number_of : List ℕ → Option ℕ
number_of word = number_up_to (2 ^ 32 - 1) word

abbrev pub is_no_space : ℕ → Bool
is_no_space b = not (b == 32)

-- a numeral over the range
abbrev pub is_over_range : List ℕ → Bool
is_over_range word = is_numeral word && nat_lt (2 ^ 32 - 1) (value_of word)

-- ---- the next words

infixl 10 ◌>>=◌
abbrev pub ◌>>=◌ : {X Y : Type 0} → Option X → (X → Option Y) → Option Y
o >>= f = option_and_then f o

abbrev pub next_word : List (List ℕ) → Option (List ℕ × List (List ℕ))
next_word [] = None
next_word (w ∷ ws) = Some (w, ws)

abbrev pub next_number : List (List ℕ) → Option (ℕ × List (List ℕ))
next_number [] = None
next_number (w ∷ ws) = option_map (λ n. (n, ws)) (number_of w)

-- this word
abbrev pub next_key : List ℕ → List (List ℕ) → Option (List (List ℕ))
next_key text [] = None
next_key text (w ∷ ws) = if bytes_eq w text then Some ws else None

-- a number, or this word
abbrev pub next_number_or : List ℕ → List (List ℕ) → Option (Option ℕ × List (List ℕ))
next_number_or text [] = None
next_number_or text (w ∷ ws) = if bytes_eq w text then Some (None, ws) else option_map (λ n. (Some n, ws)) (number_of w)

abbrev pub bound_of : Option ℕ → Bound
bound_of None = Never
bound_of (Some n) = AtMost n

-- numbers up to this word
abbrev pub numbers_up_to : List ℕ → List (List ℕ) → Option (List ℕ × List (List ℕ))
numbers_up_to text [] = None
numbers_up_to text (w ∷ ws) =
    if bytes_eq w text then Some ([], ws)
    else number_of w >>= λ n. option_map (λ found. (n ∷ found.0, found.1)) (numbers_up_to text ws)

-- numbers alone
abbrev pub all_numbers : List (List ℕ) → Option (List ℕ)
all_numbers [] = Some []
all_numbers (w ∷ ws) = number_of w >>= λ n. option_map (λ ns. n ∷ ns) (all_numbers ws)

-- no word more
abbrev pub ends_with : List (List ℕ) → Line → Option Line
ends_with [] line = Some line
ends_with (w ∷ ws) line = None

-- ---- the kinds, by the words behind the first

abbrev pub head_line : List (List ℕ) → Option Line
head_line ws =
    next_key (codes "certificate") ws >>= λ ws. next_word ws >>= λ version.
    if bytes_eq version.0 (codes "1") then ends_with version.1 Head
    else if bytes_eq version.0 (codes "2") then ends_with version.1 HeadTwo
    else None

abbrev pub counts_line : List (List ℕ) → Option Line
counts_line ws =
    next_number ws >>= λ atoms. next_number atoms.1 >>= λ actions. next_number actions.1 >>= λ goals.
    next_number goals.1 >>= λ observations. next_number observations.1 >>= λ budget.
    ends_with budget.1 (Counts atoms.0 actions.0 goals.0 observations.0 budget.0)

abbrev pub goal_line : List (List ℕ) → Option Line
goal_line ws =
    next_number ws >>= λ goal. next_key (codes "cost") goal.1 >>= λ ws.
    next_number_or (codes "none") ws >>= λ cost. ends_with cost.1 (GoalCost goal.0 cost.0)

-- a row's bound and state
abbrev pub row_of : List (List ℕ) → Option (Bound × List ℕ)
row_of ws =
    next_number_or (codes "never") ws >>= λ bound. next_key (codes "state") bound.1 >>= λ ws.
    option_map (λ state. (bound_of bound.0, state)) (all_numbers ws)

abbrev pub verdict_line : List (List ℕ) → Option Line
verdict_line ws =
    next_number ws >>= λ goal. next_word goal.1 >>= λ answer.
    if bytes_eq answer.0 (codes "yes") then ends_with answer.1 (Verdict goal.0 true)
    else if bytes_eq answer.0 (codes "no") then ends_with answer.1 (Verdict goal.0 false)
    else None

abbrev pub pair_line : ℕ → List (List ℕ) → Option Line
pair_line length ws =
    next_key (codes "goals") ws >>= λ ws. next_number ws >>= λ first. next_number first.1 >>= λ second.
    ends_with second.1 (Wcd (Some (length, first.0, second.0)))

abbrev pub wcd_of : Option ℕ × List (List ℕ) → Option Line
wcd_of (None, rest) = ends_with rest (Wcd None)
wcd_of (Some length, rest) = pair_line length rest

abbrev pub wcd_line : List (List ℕ) → Option Line
wcd_line ws = next_number_or (codes "none") ws >>= wcd_of

-- a live row has a goal
abbrev pub live_of : ℕ → List ℕ → List ℕ → Option Line
live_of depth [] state = None
live_of depth (goal ∷ goals) state = Some (Live depth (goal ∷ goals) state)

abbrev pub live_line : List (List ℕ) → Option Line
live_line ws =
    next_number ws >>= λ depth. next_key (codes "goals") depth.1 >>= λ ws.
    numbers_up_to (codes "state") ws >>= λ goals. all_numbers goals.1 >>= λ state.
    live_of depth.0 goals.0 state

abbrev pub design_line : List (List ℕ) → Option Line
design_line ws =
    next_number ws >>= λ count. next_key (codes "wcd") count.1 >>= λ ws.
    next_number_or (codes "none") ws >>= λ wcd. ends_with wcd.1 (Design count.0 wcd.0)

abbrev pub named_line : List (List ℕ) → Option Line
named_line ws =
    next_number ws >>= λ number. next_key (codes "goal") number.1 >>= λ ws. next_number ws >>= λ goal.
    next_key (codes "without") goal.1 >>= λ ws. option_map (λ removed. Named number.0 goal.0 removed) (all_numbers ws)

abbrev pub tree_line : List (List ℕ) → Option Line
tree_line ws = next_number ws >>= λ members. next_number members.1 >>= λ least. ends_with least.1 (Tree members.0 least.0)

abbrev pub branch_line : List (List ℕ) → Option Line
branch_line ws = next_number ws >>= λ first. next_number first.1 >>= λ second. ends_with second.1 (Branch first.0 second.0)

-- a leaf with the number of its table, behind this word
abbrev pub use_line : ℕ → List ℕ → List (List ℕ) → Option Line
use_line goal word ws =
    if bytes_eq word (codes "use") then (next_number ws >>= λ table. ends_with table.1 (LeafUse goal table.0))
    else None

abbrev pub leaf_of : ℕ → Option (List ℕ × List (List ℕ)) → Option Line
leaf_of goal None = Some (Leaf goal)
leaf_of goal (Some behind) = use_line goal behind.0 behind.1

abbrev pub leaf_line : List (List ℕ) → Option Line
leaf_line ws = next_number ws >>= λ goal. leaf_of goal.0 (next_word goal.1)

abbrev pub line_of : Keyword → List (List ℕ) → Option Line
line_of key.Grd ws = head_line ws
line_of key.Task ws = counts_line ws
line_of key.Goal ws = goal_line ws
line_of key.Plan ws = option_map Plan (all_numbers ws)
line_of key.Table ws = ends_with ws Table
line_of key.Cuts ws = option_map (λ row. Cuts row.0 row.1) (row_of ws)
line_of key.Set ws = option_map Set (all_numbers ws)
line_of key.Steps ws = option_map (λ row. Steps row.0 row.1) (row_of ws)
line_of key.End ws = ends_with ws End
line_of key.Verdict ws = verdict_line ws
line_of key.Wcd ws = wcd_line ws
line_of key.Prefix ws = option_map Prefix (all_numbers ws)
line_of key.Live ws = live_line ws
line_of key.Design ws = design_line ws
line_of key.Remove ws = option_map Remove (all_numbers ws)
line_of key.Named ws = named_line ws
line_of key.Tree ws = tree_line ws
line_of key.Branch ws = branch_line ws
line_of key.Leaf ws = leaf_line ws
line_of key.Done ws = ends_with ws Done

-- the words with which lines begin
abbrev pub keywords : List Keyword
keywords =
    key.Grd ∷ key.Task ∷ key.Goal ∷ key.Plan ∷ key.Table ∷ key.Cuts ∷ key.Set ∷ key.Steps ∷ key.End ∷ key.Verdict
    ∷ key.Wcd ∷ key.Prefix ∷ key.Live ∷ key.Design ∷ key.Remove ∷ key.Named ∷ key.Tree ∷ key.Branch ∷ key.Leaf ∷ key.Done ∷ []

abbrev pub keyword_of : List ℕ → Option Keyword
keyword_of word = find (λ keyword. bytes_eq word (keyword_text keyword)) keywords

-- the line that the words give, its numbers as they are in memory
abbrev pub read_words : List (List ℕ) → Option Line
read_words [] = None
read_words (w ∷ ws) = keyword_of w >>= λ keyword. line_of keyword ws

-- what the bytes of a line give
abbrev pub IsReading : List ℕ → Result CertLine BadText → Type 0
IsReading bytes (Ok line) = Spells bytes (plain line) × IsGood (plain line)
IsReading bytes (Err OfNoKind) = IsOfNoKind bytes
IsReading bytes (Err OverRange) = HoldsOverRange bytes
IsReading bytes (Err OutOfMemory) = Unit {0}
