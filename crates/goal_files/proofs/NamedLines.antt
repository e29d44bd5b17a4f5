-- A line that is a list of names in brackets, with single spaces, and lines of such lists.
use Rattle.std.proofs.Common.{◌≡◌, ℕ, ◌-◌, Bool, true, false, cond, not, List, [], ◌∷◌, ◌++◌, length, map, filter, take, refl, sym, ap, ◌∙◌, subst, arith, append-nil, append_assoc, length-append}
use Rattle.std.specs.Prelude.{◌==◌, IsTrue}
use Rattle.std.specs.List.{AllByRecursion, flat_map, slice_index}
use Rattle.std.specs.Str.{str_to_ascii_lowercase}
use Rattle.std.specs.Str.Lines.{strip_carriage_return}
use Rattle.std.proofs.lemmas.Bool.Decides.{nat_tests}
use Rattle.std.proofs.lemmas.List.{get_or_push}
use Rattle.std.proofs.lemmas.List.Elements.{All-from_recursion}
use Rattle.std.proofs.lemmas.List.Splits.{slice_split_at}
use Rattle.pddl_reader.specs.Sections.{Pairwise}
use Rattle.goal_files.specs.SpelledLines.{SpellLines, as_lines}
use Rattle.pddl_reader.specs.Classes.{is_name_byte}
use Rattle.goal_files.specs.Lines.{lines_of, is_skipped, Piece, Blank, Open, Close, Run, bytes_of, IsPiece, FollowEachOther, Mark, Closes, Names, marks_of, BeginsAsName, atom_marks, IsGoalLine}

-- a name that a line spells as it stands: it begins as one, of bytes of names, in lower case
pub record IsPlainName (text : List ℕ) : Type 0 where
  pub begins : BeginsAsName text
  pub bytes : AllByRecursion (λ b. IsTrue (is_name_byte b)) text
  pub lower : str_to_ascii_lowercase text ≡ text

-- names, each behind a space, and the bracket that closes
abbrev pub names_behind : List (List ℕ) → List ℕ
names_behind [] = 41 ∷ []
names_behind (name ∷ names) = 32 ∷ (name ++ names_behind names)

-- a list of names in brackets
abbrev pub list_text : List ℕ → List (List ℕ) → List ℕ
list_text head names = 40 ∷ (head ++ names_behind names)

-- ---- its pieces

abbrev pieces_behind : List (List ℕ) → List Piece
pieces_behind [] = Close ∷ []
pieces_behind (name ∷ names) = Blank 32 ∷ Run name ∷ pieces_behind names

covers_behind : (names : List (List ℕ)) → flat_map bytes_of (pieces_behind names) ≡ names_behind names
covers_behind [] = refl
covers_behind (name ∷ names) = ap (λ bytes. 32 ∷ (name ++ bytes)) (covers_behind names)

run_is_piece : (name : List ℕ) → IsPlainName name → IsPiece (Run name)
run_is_piece [] is = absurd is.begins
run_is_piece (b ∷ bytes) is = (omega arith, is.bytes)

are_pieces : (names : List (List ℕ)) → AllByRecursion IsPlainName names → AllByRecursion IsPiece (pieces_behind names)
are_pieces [] all = (tt, tt)
are_pieces (name ∷ names) all = (refl, (run_is_piece name all.0, are_pieces names all.1))

follow_behind : (name : List ℕ) (names : List (List ℕ)) → FollowEachOther (Run name ∷ pieces_behind names)
follow_behind name [] = (tt, tt)
follow_behind name (next ∷ names) = (tt, (tt, follow_behind next names))

marks_behind : (names : List (List ℕ)) → AllByRecursion IsPlainName names → marks_of (pieces_behind names) ≡ map Names names ++ Closes ∷ []
marks_behind [] all = refl
marks_behind (name ∷ names) all =
    ap (λ text. Names text ∷ marks_of (pieces_behind names)) all.0.lower ∙ ap (λ marks. Names name ∷ marks) (marks_behind names all.1)

all_begin : (names : List (List ℕ)) → AllByRecursion IsPlainName names → AllByRecursion BeginsAsName names
all_begin [] all = tt
all_begin (name ∷ names) all = (all.0.begins, all_begin names all.1)

-- the line spells the list
pub spells_list : (head : List ℕ) (names : List (List ℕ)) → IsPlainName head → AllByRecursion IsPlainName names → IsGoalLine (list_text head names) ((head ∷ names) ∷ [])
spells_list head names is all =
    let begin : List Mark → List Mark = λ marks. Mark.Opens ∷ marks in
    record {
      pieces = Open ∷ Run head ∷ pieces_behind names;
      cut = record {
        covers = ap (λ bytes. 40 ∷ (head ++ bytes)) (covers_behind names);
        each = (tt, (run_is_piece head is, are_pieces names all));
        follow = (tt, follow_behind head names);
      };
      marks = ap (λ text. begin (Names text ∷ marks_of (pieces_behind names))) is.lower ∙ ap (λ marks. begin (Names head ∷ marks)) (marks_behind names all) ∙ sym (append-nil (atom_marks (head ∷ names)));
      some = omega arith;
      each = ((omega arith, (is.begins, all_begin names all)), tt);
    }

-- ---- it is a line of its own

abbrev StaysInLine : List ℕ → Type 0
StaysInLine bytes = AllByRecursion (λ b. (b == 10) ≡ false) bytes

name_stays : (bytes rest : List ℕ) → AllByRecursion (λ b. IsTrue (is_name_byte b)) bytes → StaysInLine rest → StaysInLine (bytes ++ rest)
name_stays [] rest all stays = stays
name_stays (b ∷ bytes) rest all stays =
    let named : is_name_byte b ≡ true = all.0 in
    let other : (b == 10) ≡ false = grind (arith, nat_tests) in
    (other, name_stays bytes rest all.1 stays)

behind_stays : (names : List (List ℕ)) → AllByRecursion IsPlainName names → StaysInLine (names_behind names)
behind_stays [] all = (refl, tt)
behind_stays (name ∷ names) all = (refl, name_stays name (names_behind names) all.0.bytes (behind_stays names all.1))

-- the bracket is the last byte
record EndsByBracket (bytes : List ℕ) : Type 0 where
  front : List ℕ
  whole : bytes ≡ front ++ 41 ∷ []

behind_ends : (names : List (List ℕ)) → EndsByBracket (names_behind names)
behind_ends [] = record { front = []; whole = refl }
behind_ends (name ∷ names) =
    let more = behind_ends names in
    record { front = 32 ∷ (name ++ more.front); whole = ap (λ bytes. 32 ∷ (name ++ bytes)) more.whole ∙ ap (λ bytes. 32 ∷ bytes) (sym (append_assoc name more.front (41 ∷ []))) }

bracket_stays : (front : List ℕ) → strip_carriage_return (front ++ 41 ∷ []) ≡ front ++ 41 ∷ []
bracket_stays front =
    let line : List ℕ = front ++ 41 ∷ [] in
    let last : slice_index line (length line - 1) ≡ 41 = get_or_push front 41 0 (length line - 1) (omega (arith, length-append front (41 ∷ []))) in
    ap (λ b. cond (b == 13) (take (length line - 1) line) line) last

not_stripped : (head : List ℕ) (names : List (List ℕ)) → strip_carriage_return (list_text head names) ≡ list_text head names
not_stripped head names =
    let more = behind_ends names in
    let whole : list_text head names ≡ (40 ∷ (head ++ more.front)) ++ 41 ∷ [] =
    ap (λ bytes. 40 ∷ (head ++ bytes)) more.whole ∙ ap (λ bytes. 40 ∷ bytes) (sym (append_assoc head more.front (41 ∷ []))) in
    ap strip_carriage_return whole ∙ bracket_stays (40 ∷ (head ++ more.front)) ∙ sym whole

pub line_of_list : (head : List ℕ) (names : List (List ℕ)) (rest : List ℕ) → IsPlainName head → AllByRecursion IsPlainName names
    → lines_of (list_text head names ++ 10 ∷ rest) ≡ list_text head names ∷ lines_of rest
line_of_list head names rest is all =
    let stays : StaysInLine (list_text head names) = (refl, name_stays head (names_behind names) is.bytes (behind_stays names all)) in
    ap (map strip_carriage_return) (slice_split_at (λ b. b == 10) (list_text head names) 10 rest (All-from_recursion (λ b. (b == 10) ≡ false) (list_text head names) stays) refl)
    ∙ ap (λ line. line ∷ lines_of rest) (not_stripped head names)

-- ---- texts one a line

-- a text that is a line, and is not skipped
pub record IsLine (line : List ℕ) : Type 0 where
  pub alone : (rest : List ℕ) → lines_of (line ++ 10 ∷ rest) ≡ line ∷ lines_of rest
  pub kept : is_skipped line ≡ false

pub list_is_line : (head : List ℕ) (names : List (List ℕ)) → IsPlainName head → AllByRecursion IsPlainName names → IsLine (list_text head names)
list_is_line head names is all = record { alone = λ rest. line_of_list head names rest is all; kept = refl }

module _ {X : Type 0} (Spells : List ℕ → X → Type 0) (text_of : X → List ℕ) where
  -- texts that are lines, one by one, spell what each spells
  pub lines_spell : (xs : List X) → AllByRecursion (λ x. IsLine (text_of x) × Spells (text_of x) x) xs → SpellLines Spells (as_lines (map text_of xs)) xs
  lines_spell [] all = tt
  lines_spell (x ∷ xs) all =
      let line : List ℕ = text_of x in
      let rest : List ℕ = as_lines (map text_of xs) in
      let keep : List ℕ → Bool = λ line. not (is_skipped line) in
      let lines : lines_of ((line ++ 10 ∷ []) ++ rest) ≡ line ∷ lines_of rest = ap lines_of (append_assoc line (10 ∷ []) rest) ∙ all.0.0.alone rest in
      let first : filter keep (line ∷ lines_of rest) ≡ line ∷ filter keep (lines_of rest) =
      ap (λ v. cond (not v) (line ∷ filter keep (lines_of rest)) (filter keep (lines_of rest))) all.0.0.kept in
      let both : Pairwise Spells (line ∷ filter keep (lines_of rest)) (x ∷ xs) = (all.0.1, lines_spell xs all.1) in
      subst (λ kept. Pairwise Spells kept (x ∷ xs)) (sym (ap (filter keep) lines ∙ first)) both
