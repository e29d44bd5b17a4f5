-- Tokens and trees as marks.
use Rattle.std.proofs.Common.{◌≡◌, ℕ, List, [], ◌∷◌, ◌++◌, map, refl, sym, ap, ◌∙◌, append_assoc, append-nil}
use Rattle.pddl_lexer.specs.declared.token.Token.{Token}
use Rattle.pddl_lexer.specs.declared.token.TokenKind.{TokenKind}
use Rattle.pddl_lexer.specs.declared.token.TokenKind.TheVariants.{Open, Close, Word}
use Rattle.pddl_lexer.specs.declared.trees.Item.{Item}
use Rattle.pddl_lexer.specs.declared.trees.TreeList.{TreeList}
use Rattle.pddl_lexer.specs.declared.trees.Item.TheFolds.{fold_out-TreeList}
use Rattle.pddl_lexer.specs.Trees.{Mark, Opened, Closed, mark_by_kind, mark_of, join, marks_of_item, marks_of_list, marks_in, marks_at, marks_of_open}
use Rattle.pddl_lexer.specs.Reading.{marks_open}

-- a list laid flat is its open form and a closing bracket
pub marks_in-close : (l : TreeList) → marks_in l ≡ marks_of_open l ++ Closed ∷ []
marks_in-close = fold_out-TreeList (List Mark) (List Mark) marks_of_item marks_of_list

pub join_push : (items : List Item) (i : Item) → join (map marks_at (items ++ i ∷ [])) ≡ join (map marks_at items) ++ marks_at i
join_push [] i = append-nil (marks_at i)
join_push (j ∷ items) i = ap (λ ms. marks_at j ++ ms) (join_push items i) ∙ sym (append_assoc (marks_at j) (join (map marks_at items)) (marks_at i))

pub marks_open-push : (lists : List TreeList) (l : TreeList) → marks_open (lists ++ l ∷ []) ≡ marks_open lists ++ marks_of_open l
marks_open-push [] l = append-nil (marks_of_open l)
marks_open-push (k ∷ lists) l = ap (λ ms. marks_of_open k ++ ms) (marks_open-push lists l) ∙ sym (append_assoc (marks_of_open k) (marks_open lists) (marks_of_open l))

-- the token behind some marks
pub record Split (tokens : List Token) (cs : List Mark) (m : Mark) (bs : List Mark) : Type 0 where
  pub before : List Token
  pub token : Token
  pub after : List Token
  pub whole : before ++ token ∷ after ≡ tokens
  pub here : mark_of token ≡ m
  pub others : map mark_of after ≡ bs

split_more : (tokens : List Token) (cs : List Mark) (m : Mark) (bs : List Mark) (t : Token) (c : Mark) → Split tokens cs m bs → Split (t ∷ tokens) (c ∷ cs) m bs
split_more tokens cs m bs t c s = record { before = t ∷ s.before; token = s.token; after = s.after; whole = ap (λ ts. t ∷ ts) s.whole; here = s.here; others = s.others }

pub split : (tokens : List Token) (cs : List Mark) (m : Mark) (bs : List Mark) → cs ++ m ∷ bs ≡ map mark_of tokens → Split tokens cs m bs
split [] [] m bs e = cc
split (t ∷ tokens) [] m bs e = record { before = []; token = t; after = tokens; whole = refl; here = cc; others = cc }
split [] (c ∷ cs) m bs e = cc
split (t ∷ tokens) (c ∷ cs) m bs e =
    let tail : cs ++ m ∷ bs ≡ map mark_of tokens = cc in
    split_more tokens cs m bs t c (split tokens cs m bs tail)

pub no_marks : (tokens : List Token) → [] ≡ map mark_of tokens → tokens ≡ []
no_marks [] e = refl
no_marks (t ∷ tokens) e = cc

-- a token whose mark opens
pub opened_mark : (k : TokenKind) (t : Token) (at : ℕ) → mark_by_kind k t ≡ Opened at → (k ≡ Open) × (t.from ≡ at)
opened_mark Open t at e = (refl, cc)
opened_mark Close t at e = cc
opened_mark Word t at e = cc
