-- One more token, behind those that were read.
use Rattle.std.proofs.Common.{◌≡◌, ℕ, ◌+◌, ◌<◌, ◌≤◌, List, [], ◌∷◌, ◌++◌, map, length, inl, inr, refl, sym, ap, ◌∙◌, subst, arith, append_assoc, append-nil, length-append}
use Rattle.std.specs.Prelude.{Option, None, Some, Result, Ok, Err, IfOk, IfErr, IsOk, IsErrAnd, is_some, false, true, ◌==◌, ◌⊎◌}
use Rattle.std.specs.Option.{ok_or}
use Rattle.std.proofs.lemmas.Bool.{false≢true}
use Rattle.std.proofs.lemmas.Bool.Decides.{nat_tests}
use Rattle.std.proofs.lemmas.List.{map_push, length-map}
use Rattle.pddl_lexer.specs.declared.token.Token.{Token}
use Rattle.pddl_lexer.specs.declared.token.TokenKind.{TokenKind}
use Rattle.pddl_lexer.specs.declared.token.TokenKind.TheVariants.{Open, Close, Word}
use Rattle.pddl_lexer.specs.declared.faults.TreeFault.{TreeFault}
use Rattle.pddl_lexer.specs.declared.faults.TreeFault.TheVariants.{Nothing, Unclosed, OutOfMemory}
use Rattle.pddl_lexer.specs.declared.trees.TreeList.{TreeList}
use Rattle.pddl_lexer.specs.declared.trees.Reading.{Reading}
use Rattle.pddl_lexer.specs.declared.trees.Item.TheViews.{out-TreeList}
use Rattle.pddl_lexer.specs.Brackets.{depth, IsFaultOf, IsOneList}
use Rattle.pddl_lexer.specs.Trees.{Mark, Opened, Closed, Worded, mark_by_kind, mark_of, marks_in, marks_inside, marks_of_open, IsTreeOf, depth_in}
use Rattle.pddl_lexer.proofs.Depths.{not_too_deep}
use Rattle.pddl_lexer.specs.Reading.{IsRead, AddsTo, Refuses, marks_open, marks_done}
use Rattle.pddl_lexer.proofs.FaultLemmas.{no_fault_empty, no_fault_more, opens-more, closes-more, open_is_right, close_is_right, word_is_right, fault_of_first, one_fault, no_list}
use Rattle.pddl_lexer.proofs.Marks.{marks_in-close, marks_open-push, split, no_marks, opened_mark}
use Rattle.pddl_lexer.proofs.Evens.{IsEven, balanced, even_inside}

pub nothing_read : (r : Reading) → r.lists.items ≡ [] → r.done ≡ None → IsRead [] r
nothing_read r no_lists not_done = record {
  no_fault = no_fault_empty;
  deep = let none = ap length no_lists in omega (arith, none);
  shallow = let none = ap length no_lists in omega (arith, none);
  marks = ap (λ d. marks_done d ++ marks_open r.lists.items) not_done ∙ ap marks_open no_lists;
  alone = λ some. not_done;
}

pub some_len : (n : ℕ) → (n == 0) ≡ false → 0 < n
some_len n h = grind (arith, nat_tests)

pub no_len : (n : ℕ) → (n == 0) ≡ true → n ≡ 0
no_len n h = grind (arith, nat_tests)

pub none_of : (d : Option TreeList) → is_some d ≡ false → d ≡ None
none_of None h = refl
none_of (Some l) h = absurd (false≢true (sym h))

-- an item at the end of the last list
pub put_one : (old new rest : List TreeList) (l m : TreeList) (marks : List Mark) → old ≡ rest ++ l ∷ [] → new ≡ rest ++ m ∷ [] → marks_of_open m ≡ marks_of_open l ++ marks → AddsTo old new marks
put_one old new rest l m marks before after added = record {
  flat = ap marks_open after ∙ marks_open-push rest m ∙ ap (λ ms. marks_open rest ++ ms) added ∙ sym (append_assoc (marks_open rest) (marks_of_open l) marks)
      ∙ ap (λ ms. ms ++ marks) (sym (ap marks_open before ∙ marks_open-push rest l));
  same_length = omega (arith, ap length before, ap length after, length-append rest (l ∷ []), length-append rest (m ∷ []));
}

-- no list is closed while one is open, nor where none was
none_done : (lists : List TreeList) (d : Option TreeList) → (0 < length lists → d ≡ None) → (lists ≡ [] → d ≡ None) → d ≡ None
none_done [] d alone h = h refl
none_done (l ∷ lists) d alone h = alone (omega arith)

pub empty_list : (lists : List TreeList) → length lists ≡ 0 → lists ≡ []
empty_list [] h = refl
empty_list (l ∷ lists) h = absurd (omega (arith, h))

marks_more : (seen : List Token) (t : Token) (d d' : Option TreeList) (lists more : List TreeList) (m : Mark) → marks_done d ++ marks_open lists ≡ map mark_of seen
    → marks_open more ≡ marks_open lists ++ m ∷ [] → d' ≡ d → mark_of t ≡ m → marks_done d' ++ marks_open more ≡ map mark_of (seen ++ t ∷ [])
marks_more seen t d d' lists more m h e same mark =
    ap (λ v. marks_done v ++ marks_open more) same ∙ ap (λ ms. marks_done d ++ ms) e ∙ sym (append_assoc (marks_done d) (marks_open lists) (m ∷ []))
    ∙ ap (λ ms. ms ++ m ∷ []) h ∙ ap (λ n. map mark_of seen ++ n ∷ []) (sym mark) ∙ sym (map_push mark_of seen t)

mark-kind : (t : Token) (k : TokenKind) → t.kind ≡ k → mark_of t ≡ mark_by_kind k t
mark-kind t k e = ap (λ v. mark_by_kind v t) e

pub opened_one : (seen : List Token) (t : Token) (old new : Reading) (l : TreeList) → t.kind ≡ Open → IsRead seen old → new.lists.items ≡ old.lists.items ++ l ∷ [] → new.done ≡ old.done
    → marks_of_open l ≡ Opened t.from ∷ [] → (length old.lists.items ≡ 64 → ⊥) → (old.lists.items ≡ [] → old.done ≡ None) → IsRead (seen ++ t ∷ []) new
opened_one seen t old new l e h pushed same fresh not_full first =
    let not_done : old.done ≡ None = none_done old.lists.items old.done h.alone first in
    let longer : length new.lists.items ≡ length old.lists.items + 1 = omega (arith, ap length pushed, length-append old.lists.items (l ∷ [])) in
    let shallow : depth seen ≡ 64 → ⊥ = λ d. not_full (omega (arith, h.deep, d)) in
    let begun : depth seen ≡ 0 → length seen ≡ 0 = λ d.
    let no_lists : old.lists.items ≡ [] = empty_list old.lists.items (omega (arith, h.deep, d)) in
    ap length (no_marks seen (sym (ap (λ v. marks_done v ++ marks_open old.lists.items) not_done ∙ ap marks_open no_lists) ∙ h.marks)) in
    record {
      no_fault = no_fault_more seen t h.no_fault (open_is_right seen t e shallow begun);
      deep = omega (arith, h.deep, longer, opens-more seen t Open e, closes-more seen t Open e);
      shallow = let less : length old.lists.items < 64 = omega (arith, h.shallow, not_full) in omega (arith, less, longer);
      marks = marks_more seen t old.done new.done old.lists.items new.lists.items (Opened t.from) h.marks (ap marks_open pushed ∙ marks_open-push old.lists.items l ∙ ap (λ ms. marks_open old.lists.items ++ ms) fresh) same (mark-kind t Open e);
      alone = λ some. same ∙ not_done;
    }

pub word_one : (seen : List Token) (t : Token) (old new : Reading) (marks : List Mark) → t.kind ≡ Word → IsRead seen old → AddsTo old.lists.items new.lists.items marks → marks ≡ Worded t ∷ [] → new.done ≡ old.done
    → 0 < length old.lists.items → IsRead (seen ++ t ∷ []) new
word_one seen t old new marks e h added flat same some = record {
  no_fault = no_fault_more seen t h.no_fault (word_is_right seen t e (omega (arith, h.deep, some)));
  deep = omega (arith, h.deep, added.same_length, opens-more seen t Word e, closes-more seen t Word e);
  shallow = omega (arith, h.shallow, added.same_length);
  marks = marks_more seen t old.done new.done old.lists.items new.lists.items (Worded t) h.marks (added.flat ∙ ap (λ ms. marks_open old.lists.items ++ ms) flat) same (mark-kind t Word e);
  alone = λ more. same ∙ h.alone some;
}

module _ (seen : List Token) (t : Token) (old new : Reading) (rest : List TreeList) (l : TreeList) (e : t.kind ≡ Close) (h : IsRead seen old) (popped : old.lists.items ≡ rest ++ l ∷ []) where
  one_longer : length old.lists.items ≡ length rest + 1
  one_longer = omega (arith, ap length popped, length-append rest (l ∷ []))

  old_marks : marks_open old.lists.items ≡ marks_open rest ++ marks_of_open l
  old_marks = ap marks_open popped ∙ marks_open-push rest l

  pub closed_inner : (marks : List Mark) → AddsTo rest new.lists.items marks → marks ≡ marks_in l → new.done ≡ old.done → IsRead (seen ++ t ∷ []) new
  closed_inner marks added flat same = record {
    no_fault = no_fault_more seen t h.no_fault (close_is_right seen t e (omega (arith, h.deep, one_longer)));
    deep = omega (arith, h.deep, one_longer, added.same_length, opens-more seen t Close e, closes-more seen t Close e);
    shallow = omega (arith, h.shallow, one_longer, added.same_length);
    marks =
        let closed : marks_open new.lists.items ≡ marks_open old.lists.items ++ Closed ∷ [] =
        added.flat ∙ ap (λ ms. marks_open rest ++ ms) (flat ∙ marks_in-close l) ∙ sym (append_assoc (marks_open rest) (marks_of_open l) (Closed ∷ [])) ∙ ap (λ ms. ms ++ Closed ∷ []) (sym old_marks) in
        marks_more seen t old.done new.done old.lists.items new.lists.items Closed h.marks closed same (mark-kind t Close e);
    alone = λ some. same ∙ h.alone (omega (arith, one_longer));
  }

  pub closed_outer : rest ≡ [] → new.lists.items ≡ [] → new.done ≡ Some l → IsRead (seen ++ t ∷ []) new
  closed_outer outer no_lists done = record {
    no_fault = no_fault_more seen t h.no_fault (close_is_right seen t e (omega (arith, h.deep, one_longer)));
    deep = omega (arith, h.deep, one_longer, ap length outer, ap length no_lists, opens-more seen t Close e, closes-more seen t Close e);
    shallow = omega (arith, ap length no_lists);
    marks =
        let not_done : old.done ≡ None = h.alone (omega (arith, one_longer)) in
        let old_all : marks_of_open l ≡ map mark_of seen =
        ap (λ ls. marks_open ls ++ marks_of_open l) (sym outer) ∙ sym old_marks ∙ ap (λ d. marks_done d ++ marks_open old.lists.items) (sym not_done) ∙ h.marks in
        ap (λ d. marks_done d ++ marks_open new.lists.items) done ∙ ap (λ ls. marks_in l ++ marks_open ls) no_lists ∙ append-nil (marks_in l) ∙ marks_in-close l
        ∙ ap (λ ms. ms ++ Closed ∷ []) old_all ∙ ap (λ m. map mark_of seen ++ m ∷ []) (sym (mark-kind t Close e)) ∙ sym (map_push mark_of seen t);
    alone = λ some. absurd (omega (arith, some, ap length no_lists));
  }

-- the innermost open list, at the end
pub left_open : (tokens : List Token) (r : Reading) (rest : List TreeList) (l : TreeList) → IsRead tokens r → r.lists.items ≡ rest ++ l ∷ [] → IsFaultOf tokens (Unclosed (out-TreeList l).at)
left_open tokens r rest l h popped =
    let longer : length r.lists.items ≡ length rest + 1 = omega (arith, ap length popped, length-append rest (l ∷ [])) in
    let not_done : r.done ≡ None = h.alone (omega (arith, longer)) in
    let all : marks_open rest ++ Opened (out-TreeList l).at ∷ marks_inside l ≡ map mark_of tokens =
    sym (ap marks_open popped ∙ marks_open-push rest l) ∙ ap (λ d. marks_done d ++ marks_open r.lists.items) (sym not_done) ∙ h.marks in
    let s = split tokens (marks_open rest) (Opened (out-TreeList l).at) (marks_inside l) all in
    let opening = opened_mark s.token.kind s.token (out-TreeList l).at s.here in (
      h.no_fault,
      record {
        before = s.before;
        bracket = s.token;
        after = s.after;
        whole = s.whole;
        at_place = opening.1;
        opening = opening.0;
        balanced = balanced s.after (subst IsEven (sym s.others) (even_inside l));
      },
    )

pub one_list : (tokens : List Token) (r : Reading) (l : TreeList) → IsRead tokens r → r.lists.items ≡ [] → r.done ≡ Some l → IsOneList tokens
one_list tokens r l h no_lists done =
    let all : marks_of_open l ++ Closed ∷ [] ≡ map mark_of tokens =
    sym (ap (λ d. marks_done d ++ marks_open r.lists.items) done ∙ ap (λ ls. marks_in l ++ marks_open ls) no_lists ∙ append-nil (marks_in l) ∙ marks_in-close l) ∙ h.marks in
    record {
      begun = omega (arith, ap length all, length-append (marks_of_open l) (Closed ∷ []), length-map tokens mark_of);
      no_fault = h.no_fault;
      closed = omega (arith, h.deep, ap length no_lists);
    }

pub whole_list : (r : Reading) (result : Result TreeList TreeFault) → r.lists.items ≡ [] → result ≡ ok_or r.done Nothing → IfOk result (λ l. (tokens : List Token) → IsRead tokens r → IsOneList tokens)
whole_list r result no_lists e = subst (λ v. IfOk v (λ l. (tokens : List Token) → IsRead tokens r → IsOneList tokens)) (sym e) (by_done r.done refl)
  where
    by_done : (d : Option TreeList) → r.done ≡ d → IfOk (ok_or d Nothing) (λ l. (tokens : List Token) → IsRead tokens r → IsOneList tokens)
    by_done None done = tt
    by_done (Some l) done = λ tokens h. one_list tokens r l h no_lists done

-- a token that is refused
pub refused : (tokens before after : List Token) (t : Token) (r : Reading) (e : TreeFault) → before ++ t ∷ after ≡ tokens → IsRead before r → Refuses r t e → (e ≡ OutOfMemory) ⊎ IsFaultOf tokens e
refused tokens before after t r e whole h (inl memory) = inl memory
refused tokens before after t r e whole h (inr at) = inr (fault_of_first tokens before after t e whole h.no_fault (at before h))

-- what an answer rules out
pub settled_list : (tokens : List Token) (r : Result TreeList TreeFault) → IfErr r (λ e. (e ≡ OutOfMemory) ⊎ IsFaultOf tokens e) → IsOneList tokens → (r ≡ Err OutOfMemory) ⊎ IsOk r
settled_list tokens (Ok l) h one = inr refl
settled_list tokens (Err e) (inl memory) one = inl (ap Err memory)
settled_list tokens (Err e) (inr at) one = absurd (no_list tokens e at one)

pub settled_fault : (tokens : List Token) (r : Result TreeList TreeFault) → IfOk r (λ _. IsOneList tokens) → IfErr r (λ e. (e ≡ OutOfMemory) ⊎ IsFaultOf tokens e)
    → (f : TreeFault) → IsFaultOf tokens f → (r ≡ Err OutOfMemory) ⊎ (r ≡ Err f)
settled_fault tokens (Ok l) one h f at = absurd (no_list tokens f at one)
settled_fault tokens (Err e) one (inl memory) f at = inl (ap Err memory)
settled_fault tokens (Err e) one (inr here) f at = inr (ap Err (one_fault tokens e f here at))

-- a fault that is passed on
pub passed : (tokens : List Token) (r : Result TreeList TreeFault) (fault : TreeFault) → IsErrAnd r (λ y. y ≡ fault) → (fault ≡ OutOfMemory) ⊎ IsFaultOf tokens fault
    → IfErr r (λ e. (e ≡ OutOfMemory) ⊎ IsFaultOf tokens e)
passed tokens (Ok l) fault e h = absurd e
passed tokens (Err y) fault e h = subst (λ z. (z ≡ OutOfMemory) ⊎ IsFaultOf tokens z) (sym e) h

-- a tree that was read is not too deep
pub shallow_tree : (tokens : List Token) (r : Result TreeList TreeFault) → IfOk r (IsTreeOf tokens) → IfOk r (λ _. IsOneList tokens) → IfOk r (λ l. depth_in l ≤ 64)
shallow_tree tokens (Ok l) h one = not_too_deep tokens l h one.no_fault
shallow_tree tokens (Err e) h one = tt
