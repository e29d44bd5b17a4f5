-- The words of a line, from its front.
use Rattle.std.proofs.Common.{◌≡◌, ℕ, suc, ◌+◌, ◌<◌, Bool, true, false, cond, List, [], ◌∷◌, ◌++◌, length, take, drop, All, refl, sym, ap, ◌∙◌, subst, arith, take-append-drop, length-drop, one-add, Option, Some, None}
use Rattle.std.specs.Prelude.{◌==◌}
use Rattle.std.specs.List.{AllByRecursion, prefix_len}
use Rattle.std.specs.Option.{option_map, option_and_then}
use Rattle.std.specs.Str.{str_to_ascii_lowercase}
use Rattle.std.proofs.lemmas.Bool.{false≢true}
use Rattle.std.proofs.lemmas.Bool.Decides.{nat_tests}
use Rattle.std.proofs.lemmas.List.Elements.{All-from_recursion}
use Rattle.pddl_reader.specs.Classes.{is_name_byte}
use Rattle.goal_files.specs.Lines.{is_blank, Piece, Blank, Open, Close, Run, IsCut, Mark, Opens, Closes, Names, marks_of}
use Rattle.goal_files.specs.Reading.{run_marks, front_of}
use Rattle.goal_files.proofs.Cuts.{StartsBy, extended, with_byte, cut_of, marks_at, with_blank, with_name, is_cut}

-- ---- the longest front whose bytes pass

pub front_passes : (p : ℕ → Bool) (xs : List ℕ) → AllByRecursion (λ b. p b ≡ true) (take (prefix_len p xs) xs)
front_passes p [] = tt
front_passes p (x ∷ xs) = by_test (p x) refl (front_passes p xs)
  where
    by_test : (b : Bool) → p x ≡ b → AllByRecursion (λ c. p c ≡ true) (take (prefix_len p xs) xs) → AllByRecursion (λ c. p c ≡ true) (take (cond b (1 + prefix_len p xs) 0) (x ∷ xs))
    by_test true e more = rw one-add (e, more)
    by_test false e more = tt

pub front_ends : (p : ℕ → Bool) (xs : List ℕ) → StartsBy (λ b. p b ≡ false) (drop (prefix_len p xs) xs)
front_ends p [] = tt
front_ends p (x ∷ xs) = by_test (p x) refl (front_ends p xs)
  where
    by_test : (b : Bool) → p x ≡ b → StartsBy (λ c. p c ≡ false) (drop (prefix_len p xs) xs) → StartsBy (λ c. p c ≡ false) (drop (cond b (1 + prefix_len p xs) 0) (x ∷ xs))
    by_test true e more = rw one-add more
    by_test false e more = e

-- ---- the words of a line by its front

pub marks_at-blank : (b : ℕ) (line : List ℕ) → is_blank b ≡ true → marks_at (b ∷ line) ≡ marks_at line
marks_at-blank b line h = at_rest (cut_of line)
  where
    at_rest : (found : Option (List Piece)) → option_map marks_of (option_and_then (with_byte b) found) ≡ option_map marks_of found
    at_rest None = refl
    at_rest (Some pieces) = ap (option_map marks_of) (with_blank b pieces h)

abbrev pub behind_mark : Mark → Option (List Mark) → Option (List Mark)
behind_mark mark = option_map (λ marks. mark ∷ marks)

pub marks_at-open : (line : List ℕ) → marks_at (40 ∷ line) ≡ behind_mark Opens (marks_at line)
marks_at-open line = at_rest (cut_of line)
  where
    at_rest : (found : Option (List Piece)) → option_map marks_of (option_and_then (with_byte 40) found) ≡ behind_mark Opens (option_map marks_of found)
    at_rest None = refl
    at_rest (Some pieces) = refl

pub marks_at-close : (line : List ℕ) → marks_at (41 ∷ line) ≡ behind_mark Closes (marks_at line)
marks_at-close line = at_rest (cut_of line)
  where
    at_rest : (found : Option (List Piece)) → option_map marks_of (option_and_then (with_byte 41) found) ≡ behind_mark Closes (option_map marks_of found)
    at_rest None = refl
    at_rest (Some pieces) = refl

-- where no byte of names stands at the front, no run does
first_is_no_run : (b : ℕ) (line : List ℕ) (pieces : List Piece) → StartsBy (λ c. is_name_byte c ≡ false) line → IsCut line pieces → extended b pieces ≡ Run (b ∷ []) ∷ pieces
first_is_no_run b line [] ends cut = refl
first_is_no_run b line (Blank c ∷ pieces) ends cut = refl
first_is_no_run b line (Open ∷ pieces) ends cut = refl
first_is_no_run b line (Close ∷ pieces) ends cut = refl
first_is_no_run b line (Run [] ∷ pieces) ends cut = absurd (omega (arith, cut.each.0.0))
first_is_no_run b line (Run (c ∷ more) ∷ pieces) ends cut =
    let first : is_name_byte c ≡ false = subst (StartsBy (λ x. is_name_byte x ≡ false)) (sym cut.covers) ends in
    absurd (false≢true (sym first ∙ cut.each.0.1.0))

cut_of-run : (b : ℕ) (bytes rest : List ℕ) → is_name_byte b ≡ true → AllByRecursion (λ c. is_name_byte c ≡ true) bytes → StartsBy (λ c. is_name_byte c ≡ false) rest
    → cut_of (b ∷ (bytes ++ rest)) ≡ option_map (λ pieces. Run (b ∷ bytes) ∷ pieces) (cut_of rest)
cut_of-run b [] rest h all ends = at_rest (cut_of rest) refl
  where
    at_rest : (found : Option (List Piece)) → cut_of rest ≡ found → option_and_then (with_byte b) found ≡ option_map (λ pieces. Run (b ∷ []) ∷ pieces) found
    at_rest None e = refl
    at_rest (Some pieces) e = with_name b pieces h ∙ ap Some (first_is_no_run b rest pieces ends (is_cut rest pieces e))
cut_of-run b (c ∷ bytes) rest h all ends = ap (option_and_then (with_byte b)) (cut_of-run c bytes rest all.0 all.1 ends) ∙ at_rest (cut_of rest)
  where
    at_rest : (found : Option (List Piece)) → option_and_then (with_byte b) (option_map (λ pieces. Run (c ∷ bytes) ∷ pieces) found) ≡ option_map (λ pieces. Run (b ∷ c ∷ bytes) ∷ pieces) found
    at_rest None = refl
    at_rest (Some pieces) = with_name b (Run (c ∷ bytes) ∷ pieces) h

option_map-behind : (bytes : List ℕ) (found : Option (List Piece)) → option_map marks_of (option_map (λ pieces. Run bytes ∷ pieces) found) ≡ behind_mark (Names (str_to_ascii_lowercase bytes)) (option_map marks_of found)
option_map-behind bytes None = refl
option_map-behind bytes (Some pieces) = refl

pub marks_at-run : (b : ℕ) (bytes rest : List ℕ) → is_name_byte b ≡ true → AllByRecursion (λ c. is_name_byte c ≡ true) bytes → StartsBy (λ c. is_name_byte c ≡ false) rest
    → marks_at (b ∷ (bytes ++ rest)) ≡ behind_mark (Names (str_to_ascii_lowercase (b ∷ bytes))) (marks_at rest)
marks_at-run b bytes rest h all ends = ap (option_map marks_of) (cut_of-run b bytes rest h all ends) ∙ option_map-behind (b ∷ bytes) (cut_of rest)

-- ---- the piece at the front

abbrev pub behind_marks : List Mark → Option (List Mark) → Option (List Mark)
behind_marks front = option_map (λ marks. front ++ marks)

behind_nothing : (found : Option (List Mark)) → found ≡ behind_marks [] found
behind_nothing None = refl
behind_nothing (Some marks) = refl

behind_one : (mark : Mark) (found : Option (List Mark)) → behind_mark mark found ≡ behind_marks (mark ∷ []) found
behind_one mark None = refl
behind_one mark (Some marks) = refl

-- the words stand in front of those of the rest
pub record HasFront (line : List ℕ) (front : List Mark) (rest : List ℕ) : Type 0 where
  pub marks : marks_at line ≡ behind_marks front (marks_at rest)
  pub less : length rest < length line

same_front : (line : List ℕ) (front marks : List Mark) (behind rest : List ℕ) → HasFront line front behind
    → ◌≡◌ {A = Option (List Mark × List ℕ)} (Some (front, behind)) (Some (marks, rest)) → HasFront line marks rest
same_front line front marks behind rest h e =
    let whole : ◌≡◌ {A = List Mark × List ℕ} (front, behind) (marks, rest) = cc in
    subst (λ (x : List Mark × List ℕ). HasFront line x.0 x.1) whole h

run_front : (b : ℕ) (line : List ℕ) → is_name_byte b ≡ true
    → HasFront (b ∷ line) (run_marks (take (prefix_len is_name_byte (b ∷ line)) (b ∷ line))) (drop (prefix_len is_name_byte (b ∷ line)) (b ∷ line))
run_front b line h = subst (λ n. HasFront (b ∷ line) (run_marks (take n (b ∷ line))) (drop n (b ∷ line))) (sym long) found
  where
    long : prefix_len is_name_byte (b ∷ line) ≡ suc (prefix_len is_name_byte line)
    long = ap (λ v. cond v (1 + prefix_len is_name_byte line) 0) h ∙ one-add (prefix_len is_name_byte line)

    found : HasFront (b ∷ line) (run_marks (b ∷ take (prefix_len is_name_byte line) line)) (drop (prefix_len is_name_byte line) line)
    found = let n = prefix_len is_name_byte line in record {
      marks = ap (λ s. marks_at (b ∷ s)) (sym (take-append-drop n line))
          ∙ marks_at-run b (take n line) (drop n line) h (front_passes is_name_byte line) (front_ends is_name_byte line)
          ∙ behind_one (Names (str_to_ascii_lowercase (b ∷ take n line))) (marks_at (drop n line));
      less = omega (arith, length-drop n line);
    }

-- what is found at the front, test by test
abbrev Found : Type 0
Found = Option (List Mark × List ℕ)

abbrev one_found : List Mark → List ℕ → Found
one_found marks line = Some (marks, line)

abbrev run_found : ℕ → List ℕ → Found
run_found b line = Some (run_marks (take (prefix_len is_name_byte (b ∷ line)) (b ∷ line)), drop (prefix_len is_name_byte (b ∷ line)) (b ∷ line))

abbrev by_name : ℕ → List ℕ → Found
by_name b line = cond (is_name_byte b) (run_found b line) None

abbrev by_close : ℕ → List ℕ → Found
by_close b line = cond (b == 41) (one_found (Closes ∷ []) line) (by_name b line)

abbrev by_open : ℕ → List ℕ → Found
by_open b line = cond (b == 40) (one_found (Opens ∷ []) line) (by_close b line)

pub front_found : (line : List ℕ) (marks : List Mark) (rest : List ℕ) → front_of line ≡ Some (marks, rest) → HasFront line marks rest
front_found [] marks rest e = cc
front_found (b ∷ line) marks rest e = at_blank (is_blank b) refl e
  where
    at_name : (v : Bool) → is_name_byte b ≡ v → cond v (run_found b line) None ≡ Some (marks, rest) → HasFront (b ∷ line) marks rest
    at_name true h e = same_front (b ∷ line) _ marks _ rest (run_front b line h) e
    at_name false h e = cc

    at_close : (v : Bool) → (b == 41) ≡ v → cond v (one_found (Closes ∷ []) line) (by_name b line) ≡ Some (marks, rest) → HasFront (b ∷ line) marks rest
    at_close true h e =
        let is : b ≡ 41 = grind (arith, nat_tests) in
        let found : HasFront (b ∷ line) (Closes ∷ []) line = record {
          marks = ap (λ x. marks_at (x ∷ line)) is ∙ marks_at-close line ∙ behind_one Closes (marks_at line);
          less = omega arith;
        } in
        same_front (b ∷ line) (Closes ∷ []) marks line rest found e
    at_close false h e = at_name (is_name_byte b) refl e

    at_open : (v : Bool) → (b == 40) ≡ v → cond v (one_found (Opens ∷ []) line) (by_close b line) ≡ Some (marks, rest) → HasFront (b ∷ line) marks rest
    at_open true h e =
        let is : b ≡ 40 = grind (arith, nat_tests) in
        let found : HasFront (b ∷ line) (Opens ∷ []) line = record {
          marks = ap (λ x. marks_at (x ∷ line)) is ∙ marks_at-open line ∙ behind_one Opens (marks_at line);
          less = omega arith;
        } in
        same_front (b ∷ line) (Opens ∷ []) marks line rest found e
    at_open false h e = at_close (b == 41) refl e

    at_blank : (v : Bool) → is_blank b ≡ v → cond v (one_found [] line) (by_open b line) ≡ Some (marks, rest) → HasFront (b ∷ line) marks rest
    at_blank true h e =
        let found : HasFront (b ∷ line) [] line = record { marks = marks_at-blank b line h ∙ behind_nothing (marks_at line); less = omega arith } in
        same_front (b ∷ line) [] marks line rest found e
    at_blank false h e = at_open (b == 40) refl e

-- where no piece is found, the line has no cut
pub no_front : (b : ℕ) (line : List ℕ) → front_of (b ∷ line) ≡ None → marks_at (b ∷ line) ≡ None
no_front b line e = at_rest (cut_of line)
  where
    at_name : (v : Bool) (pieces : List Piece) → cond v (run_found b line) None ≡ None → option_map marks_of (cond v (Some (extended b pieces)) None) ≡ None
    at_name true pieces e = cc
    at_name false pieces e = refl

    at_rest : (found : Option (List Piece)) → option_map marks_of (option_and_then (with_byte b) found) ≡ None
    at_rest None = refl
    at_rest (Some pieces) = at_blank (is_blank b) e
      where
        at_close : (v : Bool) → cond v (one_found (Closes ∷ []) line) (by_name b line) ≡ None → option_map marks_of (cond v (Some (Close ∷ pieces)) (cond (is_name_byte b) (Some (extended b pieces)) None)) ≡ None
        at_close true e = cc
        at_close false e = at_name (is_name_byte b) pieces e

        at_open : (v : Bool) → cond v (one_found (Opens ∷ []) line) (by_close b line) ≡ None
            → option_map marks_of (cond v (Some (Open ∷ pieces)) (cond (b == 41) (Some (Close ∷ pieces)) (cond (is_name_byte b) (Some (extended b pieces)) None))) ≡ None
        at_open true e = cc
        at_open false e = at_close (b == 41) e

        at_blank : (v : Bool) → cond v (one_found [] line) (by_open b line) ≡ None
            → option_map marks_of (cond v (Some (Blank b ∷ pieces)) (cond (b == 40) (Some (Open ∷ pieces)) (cond (b == 41) (Some (Close ∷ pieces)) (cond (is_name_byte b) (Some (extended b pieces)) None)))) ≡ None
        at_blank true e = cc
        at_blank false e = at_open (b == 40) e

-- ---- the bytes of a run

name_is_ascii : (b : ℕ) → is_name_byte b ≡ true → b < 128
name_is_ascii b h = grind (arith, nat_tests)

names_are_ascii : (bytes : List ℕ) → AllByRecursion (λ b. is_name_byte b ≡ true) bytes → AllByRecursion (λ b. b < 128) bytes
names_are_ascii [] h = tt
names_are_ascii (b ∷ bytes) h = (name_is_ascii b h.0, names_are_ascii bytes h.1)

pub run_is_ascii : (line : List ℕ) → All (λ b. b < 128) (take (prefix_len is_name_byte line) line)
run_is_ascii line =
    let run = take (prefix_len is_name_byte line) line in
    All-from_recursion (λ b. b < 128) run (names_are_ascii run (front_passes is_name_byte line))
