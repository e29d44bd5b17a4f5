-- The atoms of a line, word by word.
use Rattle.std.proofs.Common.{◌≡◌, ◌≢◌, ℕ, ◌<◌, Bool, true, false, cond, not, List, [], ◌∷◌, ◌++◌, length, map, refl, sym, ap, ◌∙◌, subst, arith, append_assoc, append-nil, Option, Some, None}
use Rattle.std.specs.Prelude.{◌==◌}
use Rattle.std.specs.List.{AllByRecursion, flat_map}
use Rattle.std.specs.Option.{option_map, option_and_then, MatchOption}
use Rattle.std.proofs.lemmas.Bool.{false≢true, eqb-true}
use Rattle.std.proofs.lemmas.Bool.Decides.{nat_tests}
use Rattle.goal_files.specs.Lines.{Piece, Mark, Opens, Closes, Names, marks_of, BeginsAsName, IsAtom, atom_marks, IsGoalLine}
use Rattle.goal_files.specs.Goals.{HasNoAtoms}
use Rattle.goal_files.specs.Reading.{front_of, begins_name, PlainReading, with_mark, with_marks, whole_atoms}
use Rattle.goal_files.proofs.Cuts.{cut_of, marks_at, cut_is, is_cut}
use Rattle.goal_files.proofs.Marks.{behind_marks, front_found, no_front}

abbrev Atoms : Type 0
Atoms = List (List (List ℕ))

abbrev Open : Type 0
Open = Option (List (List ℕ))

abbrev pub reading_of : Atoms → Open → PlainReading
reading_of atoms names = record { atoms = atoms; names = names }

abbrev pub nothing_read : PlainReading
nothing_read = record { atoms = []; names = None }

-- ---- a name

is_name : (name : List ℕ) → begins_name name ≡ true → BeginsAsName name
is_name [] e = absurd (false≢true e)
is_name (b ∷ name) e = let h : not (b == 45) ≡ true = e in grind (arith, nat_tests)

begins : (name : List ℕ) → BeginsAsName name → begins_name name ≡ true
begins [] h = absurd h
begins (b ∷ name) h = let other : b ≢ 45 = h in grind (arith, nat_tests)

-- ---- the words of a line with these atoms are read

names_read : (atoms : Atoms) (before names : List (List ℕ)) (more : List Mark) → AllByRecursion BeginsAsName names
    → with_marks (reading_of atoms (Some before)) (map Names names ++ more) ≡ with_marks (reading_of atoms (Some (before ++ names))) more
names_read atoms before [] more h = ap (λ ns. with_marks (reading_of atoms (Some ns)) more) (sym (append-nil before))
names_read atoms before (name ∷ names) more h =
    ap (λ v. option_and_then (λ next. with_marks next (map Names names ++ more)) (cond v (Some (reading_of atoms (Some (before ++ name ∷ [])))) None)) (begins name h.0)
    ∙ names_read atoms (before ++ name ∷ []) names more h.1
    ∙ ap (λ ns. with_marks (reading_of atoms (Some ns)) more) (append_assoc before (name ∷ []) names)

atom_read : (atoms : Atoms) (atom : List (List ℕ)) (more : List Mark) → IsAtom atom
    → with_marks (reading_of atoms None) (atom_marks atom ++ more) ≡ with_marks (reading_of (atoms ++ atom ∷ []) None) more
atom_read atoms [] more h = absurd (omega (arith, h.0))
atom_read atoms (name ∷ names) more h =
    ap (λ marks. with_marks (reading_of atoms (Some [])) marks) (append_assoc (map Names (name ∷ names)) (Closes ∷ []) more)
    ∙ names_read atoms [] (name ∷ names) (Closes ∷ more) h.1

atoms_read : (before atoms : Atoms) → AllByRecursion IsAtom atoms
    → with_marks (reading_of before None) (flat_map atom_marks atoms) ≡ Some (reading_of (before ++ atoms) None)
atoms_read before [] h = ap (λ all. Some (reading_of all None)) (sym (append-nil before))
atoms_read before (atom ∷ atoms) h =
    atom_read before atom (flat_map atom_marks atoms) h.0
    ∙ atoms_read (before ++ atom ∷ []) atoms h.1
    ∙ ap (λ all. Some (reading_of all None)) (append_assoc before (atom ∷ []) atoms)

-- ---- what was read stands in the words

abbrev open_marks : Open → List Mark
open_marks None = []
open_marks (Some names) = Opens ∷ map Names names

abbrev written : PlainReading → List Mark
written r = flat_map atom_marks r.atoms ++ open_marks r.names

abbrev AreOpen : Open → Type 0
AreOpen None = Unit {0}
AreOpen (Some names) = AllByRecursion BeginsAsName names

record IsReading (r : PlainReading) : Type 0 where
  atoms : AllByRecursion IsAtom r.atoms
  names : AreOpen r.names

-- these words are read from the first state to the second
record Reads (from to : PlainReading) (marks : List Mark) : Type 0 where
  whole : written from ++ marks ≡ written to
  keeps : IsReading to

all_push : {X : Type 0} (P : X → Type 0) (xs : List X) (x : X) → AllByRecursion P xs → P x → AllByRecursion P (xs ++ x ∷ [])
all_push P [] x all h = (h, tt)
all_push P (y ∷ xs) x all h = (all.0, all_push P xs x all.1 h)

flat_map-push : (atoms : Atoms) (atom : List (List ℕ)) → flat_map atom_marks (atoms ++ atom ∷ []) ≡ flat_map atom_marks atoms ++ atom_marks atom
flat_map-push [] atom = append-nil (atom_marks atom)
flat_map-push (first ∷ atoms) atom = ap (λ marks. atom_marks first ++ marks) (flat_map-push atoms atom) ∙ sym (append_assoc (atom_marks first) (flat_map atom_marks atoms) (atom_marks atom))

map-push : (names : List (List ℕ)) (name : List ℕ) → map Names (names ++ name ∷ []) ≡ map Names names ++ Names name ∷ []
map-push [] name = refl
map-push (first ∷ names) name = ap (λ marks. Names first ∷ marks) (map-push names name)

one_read : (atoms : Atoms) (names : Open) (mark : Mark) (to : PlainReading) → IsReading (reading_of atoms names) → with_mark (reading_of atoms names) mark ≡ Some to
    → Reads (reading_of atoms names) to (mark ∷ [])
one_read atoms None Opens to is e =
    let same : reading_of atoms (Some []) ≡ to = cc in
    let found : Reads (reading_of atoms None) (reading_of atoms (Some [])) (Opens ∷ []) = record {
      whole = ap (λ marks. marks ++ Opens ∷ []) (append-nil (flat_map atom_marks atoms));
      keeps = record { atoms = is.atoms; names = tt };
    } in
    subst (λ r. Reads (reading_of atoms None) r (Opens ∷ [])) same found
one_read atoms (Some names) Opens to is e = cc
one_read atoms None Closes to is e = cc
one_read atoms (Some []) Closes to is e = cc
one_read atoms (Some (name ∷ names)) Closes to is e =
    let atom : List (List ℕ) = name ∷ names in
    let same : reading_of (atoms ++ atom ∷ []) None ≡ to = cc in
    let found : Reads (reading_of atoms (Some atom)) (reading_of (atoms ++ atom ∷ []) None) (Closes ∷ []) = record {
      whole = append_assoc (flat_map atom_marks atoms) (Opens ∷ map Names atom) (Closes ∷ []) ∙ sym (append-nil (flat_map atom_marks (atoms ++ atom ∷ [])) ∙ flat_map-push atoms atom);
      keeps = record { atoms = all_push IsAtom atoms atom is.atoms (omega arith, is.names); names = tt };
    } in
    subst (λ r. Reads (reading_of atoms (Some atom)) r (Closes ∷ [])) same found
one_read atoms None (Names name) to is e = cc
one_read atoms (Some names) (Names name) to is e = at_name (begins_name name) refl e
  where
    at_name : (v : Bool) → begins_name name ≡ v → cond v (Some (reading_of atoms (Some (names ++ name ∷ [])))) None ≡ Some to
        → Reads (reading_of atoms (Some names)) to (Names name ∷ [])
    at_name false h e = cc
    at_name true h e =
        let same : reading_of atoms (Some (names ++ name ∷ [])) ≡ to = cc in
        let found : Reads (reading_of atoms (Some names)) (reading_of atoms (Some (names ++ name ∷ []))) (Names name ∷ []) = record {
          whole = append_assoc (flat_map atom_marks atoms) (Opens ∷ map Names names) (Names name ∷ []) ∙ ap (λ marks. flat_map atom_marks atoms ++ Opens ∷ marks) (sym (map-push names name));
          keeps = record { atoms = is.atoms; names = all_push BeginsAsName names name is.names (is_name name h) };
        } in
        subst (λ r. Reads (reading_of atoms (Some names)) r (Names name ∷ [])) same found

all_read : (from : PlainReading) (marks : List Mark) (to : PlainReading) → IsReading from → with_marks from marks ≡ Some to → Reads from to marks
all_read from [] to is e =
    let same : from ≡ to = cc in
    subst (λ r. Reads from r []) same (record { whole = append-nil (written from); keeps = is })
all_read from (mark ∷ marks) to is e = at_next (with_mark from mark) refl (λ next. all_read next marks to) e
  where
    at_next : (found : Option PlainReading) → with_mark from mark ≡ found
        → ((next : PlainReading) → IsReading next → with_marks next marks ≡ Some to → Reads next to marks)
        → option_and_then (λ next. with_marks next marks) found ≡ Some to → Reads from to (mark ∷ marks)
    at_next None k more e = cc
    at_next (Some next) k more e =
        let first = one_read from.atoms from.names mark next is k in
        let rest = more next first.keeps e in
        record {
          whole = sym (append_assoc (written from) (mark ∷ []) marks) ∙ ap (λ front. front ++ marks) first.whole ∙ rest.whole;
          keeps = rest.keeps;
        }

-- ---- the words of a line, from its front

-- what the words of a line make of what was read
abbrev pub read_on : PlainReading → List ℕ → Option PlainReading
read_on r line = option_and_then (with_marks r) (marks_at line)

with_marks-append : (r : PlainReading) (front back : List Mark) → with_marks r (front ++ back) ≡ option_and_then (λ next. with_marks next back) (with_marks r front)
with_marks-append r [] back = refl
with_marks-append r (mark ∷ front) back = at_next (λ next. with_marks-append next front back) (with_mark r mark)
  where
    at_next : ((next : PlainReading) → with_marks next (front ++ back) ≡ option_and_then (λ next. with_marks next back) (with_marks next front)) → (found : Option PlainReading)
        → option_and_then (λ next. with_marks next (front ++ back)) found ≡ option_and_then (λ next. with_marks next back) (option_and_then (λ next. with_marks next front) found)
    at_next more None = refl
    at_next more (Some next) = more next

abbrev no_next : PlainReading → Option PlainReading
no_next next = None

no_next_left : (found : Option PlainReading) → None ≡ option_and_then no_next found
no_next_left None = refl
no_next_left (Some next) = refl

-- one piece more is read
pub piece_read : (line : List ℕ) (marks : List Mark) (rest : List ℕ) (r : PlainReading) → front_of line ≡ Some (marks, rest)
    → read_on r line ≡ option_and_then (λ next. read_on next rest) (with_marks r marks)
piece_read line marks rest r e = ap (option_and_then (with_marks r)) (front_found line marks rest e).marks ∙ at_rest (marks_at rest)
  where
    at_rest : (found : Option (List Mark)) → option_and_then (with_marks r) (behind_marks marks found) ≡ option_and_then (λ next. option_and_then (with_marks next) found) (with_marks r marks)
    at_rest None = no_next_left (with_marks r marks)
    at_rest (Some more) = with_marks-append r marks more

pub less_left : (line : List ℕ) (marks : List Mark) (rest : List ℕ) → front_of line ≡ Some (marks, rest) → length rest < length line
less_left line marks rest e = (front_found line marks rest e).less

pub nothing_more : (r : PlainReading) (line : List ℕ) → front_of line ≡ None → (length line == 0) ≡ false → read_on r line ≡ None
nothing_more r [] e some = absurd (false≢true (sym some))
nothing_more r (b ∷ line) e some = ap (option_and_then (with_marks r)) (no_front b line e)

-- ---- what a line spells

whole_read : (line : List ℕ) (atoms : Atoms) → IsGoalLine line atoms → read_on nothing_read line ≡ Some (reading_of atoms None)
whole_read line atoms g =
    ap (option_and_then (with_marks nothing_read)) (ap (option_map marks_of) (cut_is line g.pieces g.cut) ∙ ap Some g.marks)
    ∙ atoms_read [] atoms g.each

pub line_spelled : (line : List ℕ) (r : PlainReading) (atoms : Atoms) → read_on nothing_read line ≡ Some r → whole_atoms r.atoms r.names ≡ Some atoms → IsGoalLine line atoms
line_spelled line r atoms e whole = at_cut (cut_of line) refl e
  where
    at_whole : (pieces : List Piece) → cut_of line ≡ Some pieces → (all : Atoms) (names : Open) → Reads nothing_read (reading_of all names) (marks_of pieces) → whole_atoms all names ≡ Some atoms → IsGoalLine line atoms
    at_whole pieces is [] names reads whole = cc
    at_whole pieces is (atom ∷ more) (Some names) reads whole = cc
    at_whole pieces is (atom ∷ more) None reads whole =
        let found : IsGoalLine line (atom ∷ more) = record {
          pieces = pieces;
          cut = is_cut line pieces is;
          marks = reads.whole ∙ append-nil (flat_map atom_marks (atom ∷ more));
          some = omega arith;
          each = reads.keeps.atoms;
        } in
        let same : atom ∷ more ≡ atoms = cc in
        subst (IsGoalLine line) same found

    at_cut : (found : Option (List Piece)) → cut_of line ≡ found → option_and_then (with_marks nothing_read) (option_map marks_of found) ≡ Some r → IsGoalLine line atoms
    at_cut None is e = cc
    at_cut (Some pieces) is e = at_whole pieces is r.atoms r.names (all_read nothing_read (marks_of pieces) r (record { atoms = tt; names = tt }) e) whole

pub no_reading : (line : List ℕ) → read_on nothing_read line ≡ None → HasNoAtoms line
no_reading line e atoms g =
    let no : ◌≡◌ {A = Option PlainReading} (Some (reading_of atoms None)) None = sym (whole_read line atoms g) ∙ e in
    cc

pub no_whole : (line : List ℕ) (r : PlainReading) → read_on nothing_read line ≡ Some r → whole_atoms r.atoms r.names ≡ None → HasNoAtoms line
no_whole line r e none atoms g =
    let same : reading_of atoms None ≡ r = let both : Some (reading_of atoms None) ≡ Some r = sym (whole_read line atoms g) ∙ e in cc in
    at_atoms atoms g.some (subst (λ (r : PlainReading). whole_atoms r.atoms r.names ≡ None) (sym same) none)
  where
    at_atoms : (atoms : Atoms) → 0 < length atoms → whole_atoms atoms None ≡ None → ⊥
    at_atoms [] some none = omega arith
    at_atoms (atom ∷ atoms) some none = cc

-- what is found at the end of a line is what the line spells
pub end_read : {X : Type 0} (f : X → Atoms) (found : Option X) (line rest : List ℕ) (r : PlainReading) → read_on nothing_read line ≡ read_on r rest → (length rest == 0) ≡ true
    → option_map f found ≡ whole_atoms r.atoms r.names → MatchOption found (HasNoAtoms line) (λ x. IsGoalLine line (f x))
end_read f found line (b ∷ rest) r e none is = absurd (omega (arith, eqb-true (length (b ∷ rest)) 0 none))
end_read f None line [] r e none is = no_whole line r e (sym is)
end_read f (Some x) line [] r e none is = line_spelled line r (f x) e (sym is)

-- a line spells one list of atoms
pub only_atoms : (line : List ℕ) (atoms others : Atoms) → IsGoalLine line atoms → IsGoalLine line others → atoms ≡ others
only_atoms line atoms others g h =
    let both : Some (reading_of atoms None) ≡ Some (reading_of others None) = sym (whole_read line atoms g) ∙ whole_read line others h in
    let same : reading_of atoms None ≡ reading_of others None = cc in
    ap (λ (r : PlainReading). r.atoms) same
