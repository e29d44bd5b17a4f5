-- Where the brackets of a list of tokens are at fault.
use Rattle.std.specs.Prelude.{◌≡◌, ℕ, ◌-◌, ◌<◌, ◌≤◌, ◌⊎◌, Bool, true, false, List, [], ◌∷◌, ◌++◌, length}
use Rattle.std.specs.List.{count_by}
use Rattle.pddl_lexer.specs.declared.token.Token.{Token}
use Rattle.pddl_lexer.specs.declared.token.TokenKind.{TokenKind}
use Rattle.pddl_lexer.specs.declared.token.TokenKind.TheVariants.{Open, Close, Word}
use Rattle.pddl_lexer.specs.declared.faults.TreeFault.{TreeFault}
use Rattle.pddl_lexer.specs.declared.faults.TreeFault.TheVariants.{Nothing, TooDeep, Unopened, Trailing, Unclosed, OutOfMemory}

abbrev pub is_open : TokenKind → Bool
is_open Open = true
is_open Close = false
is_open Word = false

abbrev pub is_close : TokenKind → Bool
is_close Open = false
is_close Close = true
is_close Word = false

-- how many brackets open, and how many close
abbrev pub opens : List Token → ℕ
opens tokens = count_by (λ (t : Token). is_open t.kind) tokens

abbrev pub closes : List Token → ℕ
closes tokens = count_by (λ (t : Token). is_close t.kind) tokens

-- how many lists are open behind the tokens
abbrev pub depth : List Token → ℕ
depth tokens = opens tokens - closes tokens

-- the token, behind these, breaks the rule of this fault: an opening bracket where 64 lists are open,
-- a closing one where none is, a word or a second opening bracket where none is
abbrev pub IsAtFault : List Token → Token → TreeFault → Type 0
IsAtFault before t Nothing = ⊥
IsAtFault before t (TooDeep place) = (t.from ≡ place) × (t.kind ≡ Open) × (depth before ≡ 64)
IsAtFault before t (Unopened place) = (t.from ≡ place) × (t.kind ≡ Close) × (depth before ≡ 0)
IsAtFault before t (Trailing place) = (t.from ≡ place) × ((t.kind ≡ Word) ⊎ ((t.kind ≡ Open) × (0 < length before))) × (depth before ≡ 0)
IsAtFault before t (Unclosed place) = ⊥
IsAtFault before t OutOfMemory = ⊥

-- no token, behind those before it, breaks a rule
abbrev pub HasNoFault : List Token → Type 0
HasNoFault tokens = (before : List Token) (t : Token) (after : List Token) (fault : TreeFault) → before ++ t ∷ after ≡ tokens → IsAtFault before t fault → ⊥

-- the fault is that of the first token that breaks a rule
pub record IsFirstFault (tokens : List Token) (fault : TreeFault) : Type 0 where
  pub before : List Token
  pub token : Token
  pub after : List Token
  pub whole : before ++ token ∷ after ≡ tokens
  pub none_before : HasNoFault before
  pub here : IsAtFault before token fault

-- each bracket has its partner here
pub record IsBalanced (tokens : List Token) : Type 0 where
  pub even : opens tokens ≡ closes tokens
  pub opened : (front rest : List Token) → front ++ rest ≡ tokens → closes front ≤ opens front

-- the innermost opening bracket without a partner stands at the place
pub record IsLeftOpen (tokens : List Token) (place : ℕ) : Type 0 where
  pub before : List Token
  pub bracket : Token
  pub after : List Token
  pub whole : before ++ bracket ∷ after ≡ tokens
  pub at_place : bracket.from ≡ place
  pub opening : bracket.kind ≡ Open
  pub balanced : IsBalanced after

-- the fault of the tokens
abbrev pub IsFaultOf : List Token → TreeFault → Type 0
IsFaultOf tokens Nothing = tokens ≡ []
IsFaultOf tokens (TooDeep place) = IsFirstFault tokens (TooDeep place)
IsFaultOf tokens (Unopened place) = IsFirstFault tokens (Unopened place)
IsFaultOf tokens (Trailing place) = IsFirstFault tokens (Trailing place)
IsFaultOf tokens (Unclosed place) = HasNoFault tokens × IsLeftOpen tokens place
IsFaultOf tokens OutOfMemory = ⊥

-- the tokens are one whole list, of depth at most 64
pub record IsOneList (tokens : List Token) : Type 0 where
  pub begun : 0 < length tokens
  pub no_fault : HasNoFault tokens
  pub closed : depth tokens ≡ 0
