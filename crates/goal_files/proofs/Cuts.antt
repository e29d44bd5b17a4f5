-- The one cut of a line, byte by byte from its end, and the words of it.
use Rattle.std.proofs.Common.{◌≡◌, ℕ, ◌<◌, Bool, true, false, cond, List, [], ◌∷◌, ◌++◌, length, refl, sym, ap, ◌∙◌, subst, arith, length-append, Option, Some, None}
use Rattle.std.specs.Prelude.{◌==◌}
use Rattle.std.specs.List.{flat_map}
use Rattle.std.specs.Option.{option_map, option_and_then}
use Rattle.std.proofs.lemmas.Bool.Decides.{nat_tests}
use Rattle.pddl_reader.specs.Classes.{is_name_byte}
use Rattle.goal_files.specs.Lines.{is_blank, Piece, Blank, Open, Close, Run, bytes_of, IsPiece, MayFollow, FollowEachOther, IsCut, Mark, marks_of}

-- the first byte, if there is one
abbrev pub StartsBy : (ℕ → Type 0) → List ℕ → Type 0
StartsBy P [] = Unit {0}
StartsBy P (b ∷ bytes) = P b

-- a byte of names in front of pieces
abbrev pub extended : ℕ → List Piece → List Piece
extended b [] = Run (b ∷ []) ∷ []
extended b (Blank c ∷ pieces) = Run (b ∷ []) ∷ Blank c ∷ pieces
extended b (Open ∷ pieces) = Run (b ∷ []) ∷ Open ∷ pieces
extended b (Close ∷ pieces) = Run (b ∷ []) ∷ Close ∷ pieces
extended b (Run bytes ∷ pieces) = Run (b ∷ bytes) ∷ pieces

-- a byte in front of pieces
abbrev pub with_byte : ℕ → List Piece → Option (List Piece)
with_byte b pieces = cond (is_blank b) (Some (Blank b ∷ pieces)) (cond (b == 40) (Some (Open ∷ pieces)) (cond (b == 41) (Some (Close ∷ pieces)) (cond (is_name_byte b) (Some (extended b pieces)) None)))

abbrev pub cut_of : List ℕ → Option (List Piece)
cut_of [] = Some []
cut_of (b ∷ line) = option_and_then (with_byte b) (cut_of line)

-- the words of a line
abbrev pub marks_at : List ℕ → Option (List Mark)
marks_at line = option_map marks_of (cut_of line)

name_is_no_blank : (b : ℕ) → is_name_byte b ≡ true → is_blank b ≡ false
name_is_no_blank b h = grind (arith, nat_tests)

name_is_no_open : (b : ℕ) → is_name_byte b ≡ true → (b == 40) ≡ false
name_is_no_open b h = grind (arith, nat_tests)

name_is_no_close : (b : ℕ) → is_name_byte b ≡ true → (b == 41) ≡ false
name_is_no_close b h = grind (arith, nat_tests)

pub with_blank : (b : ℕ) (pieces : List Piece) → is_blank b ≡ true → with_byte b pieces ≡ Some (Blank b ∷ pieces)
with_blank b pieces h = ap (λ v. cond v (Some (Blank b ∷ pieces)) (cond (b == 40) (Some (Open ∷ pieces)) (cond (b == 41) (Some (Close ∷ pieces)) (cond (is_name_byte b) (Some (extended b pieces)) None)))) h

pub with_name : (b : ℕ) (pieces : List Piece) → is_name_byte b ≡ true → with_byte b pieces ≡ Some (extended b pieces)
with_name b pieces h =
    ap (λ v. cond v (Some (Blank b ∷ pieces)) (cond (b == 40) (Some (Open ∷ pieces)) (cond (b == 41) (Some (Close ∷ pieces)) (cond (is_name_byte b) (Some (extended b pieces)) None)))) (name_is_no_blank b h)
    ∙ ap (λ v. cond v (Some (Open ∷ pieces)) (cond (b == 41) (Some (Close ∷ pieces)) (cond (is_name_byte b) (Some (extended b pieces)) None))) (name_is_no_open b h)
    ∙ ap (λ v. cond v (Some (Close ∷ pieces)) (cond (is_name_byte b) (Some (extended b pieces)) None)) (name_is_no_close b h)
    ∙ ap (λ v. cond v (Some (extended b pieces)) None) h

-- a piece is not empty
nonempty : (p : Piece) → IsPiece p → 0 < length (bytes_of p)
nonempty (Blank b) h = omega arith
nonempty Open h = omega arith
nonempty Close h = omega arith
nonempty (Run bytes) h = h.0

rest_of_cut : (line : List ℕ) (p : Piece) (pieces : List Piece) → IsCut line (p ∷ pieces) → IsCut (flat_map bytes_of pieces) pieces
rest_of_cut line p [] h = record { covers = refl; each = h.each.1; follow = tt }
rest_of_cut line p (next ∷ pieces) h = record { covers = refl; each = h.each.1; follow = h.follow.1 }

behind : (line rest : List ℕ) (p : Piece) (pieces : List Piece) → IsCut line (p ∷ pieces) → flat_map bytes_of pieces ≡ rest → IsCut rest pieces
behind line rest p pieces h e = subst (λ s. IsCut s pieces) e (rest_of_cut line p pieces h)

-- a run that stands alone is not followed by one
extended_alone : (b c : ℕ) (pieces : List Piece) → FollowEachOther (Run (c ∷ []) ∷ pieces) → extended b pieces ≡ Run (b ∷ []) ∷ pieces
extended_alone b c [] h = refl
extended_alone b c (Blank d ∷ pieces) h = refl
extended_alone b c (Open ∷ pieces) h = refl
extended_alone b c (Close ∷ pieces) h = refl
extended_alone b c (Run bytes ∷ pieces) h = absurd h.0

same_follow : (xs ys : List ℕ) (next : Piece) → MayFollow (Run xs) next → MayFollow (Run ys) next
same_follow xs ys (Blank b) h = tt
same_follow xs ys Open h = tt
same_follow xs ys Close h = tt
same_follow xs ys (Run bytes) h = absurd h

follow_run : (xs ys : List ℕ) (pieces : List Piece) → FollowEachOther (Run xs ∷ pieces) → FollowEachOther (Run ys ∷ pieces)
follow_run xs ys [] h = tt
follow_run xs ys (next ∷ pieces) h = (same_follow xs ys next h.0, h.1)

-- the cut of a line is the one that is found
pub cut_is : (line : List ℕ) (pieces : List Piece) → IsCut line pieces → cut_of line ≡ Some pieces
cut_is [] [] h = refl
cut_is [] (p ∷ pieces) h = absurd (omega (arith, nonempty p h.each.0, ap length h.covers, length-append (bytes_of p) (flat_map bytes_of pieces)))
cut_is (b ∷ line) [] h = absurd (omega (arith, ap length h.covers))
cut_is (b ∷ line) (Blank c ∷ pieces) h =
    let same : c ≡ b = cc h.covers in
    let rest : flat_map bytes_of pieces ≡ line = cc h.covers in
    ap (option_and_then (with_byte b)) (cut_is line pieces (behind (b ∷ line) line (Blank c) pieces h rest))
    ∙ with_blank b pieces (subst (λ x. is_blank x ≡ true) same h.each.0) ∙ ap (λ x. Some (Blank x ∷ pieces)) (sym same)
cut_is (b ∷ line) (Open ∷ pieces) h =
    let same : 40 ≡ b = cc h.covers in
    let rest : flat_map bytes_of pieces ≡ line = cc h.covers in
    ap (option_and_then (with_byte b)) (cut_is line pieces (behind (b ∷ line) line Open pieces h rest))
    ∙ subst (λ x. with_byte x pieces ≡ Some (Open ∷ pieces)) same refl
cut_is (b ∷ line) (Close ∷ pieces) h =
    let same : 41 ≡ b = cc h.covers in
    let rest : flat_map bytes_of pieces ≡ line = cc h.covers in
    ap (option_and_then (with_byte b)) (cut_is line pieces (behind (b ∷ line) line Close pieces h rest))
    ∙ subst (λ x. with_byte x pieces ≡ Some (Close ∷ pieces)) same refl
cut_is (b ∷ line) (Run [] ∷ pieces) h = absurd (omega (arith, h.each.0.0))
cut_is (b ∷ line) (Run (c ∷ []) ∷ pieces) h =
    let same : c ≡ b = cc h.covers in
    let rest : flat_map bytes_of pieces ≡ line = cc h.covers in
    ap (option_and_then (with_byte b)) (cut_is line pieces (behind (b ∷ line) line (Run (c ∷ [])) pieces h rest))
    ∙ with_name b pieces (subst (λ x. is_name_byte x ≡ true) same h.each.0.1.0)
    ∙ ap Some (extended_alone b c pieces h.follow) ∙ ap (λ x. Some (Run (x ∷ []) ∷ pieces)) (sym same)
cut_is (b ∷ line) (Run (c ∷ d ∷ more) ∷ pieces) h =
    let same : c ≡ b = cc h.covers in
    let rest : d ∷ (more ++ flat_map bytes_of pieces) ≡ line = cc h.covers in
    let less : IsCut line (Run (d ∷ more) ∷ pieces) = record {
      covers = rest;
      each = ((omega arith, h.each.0.1.1), h.each.1);
      follow = follow_run (c ∷ d ∷ more) (d ∷ more) pieces h.follow;
    } in
    ap (option_and_then (with_byte b)) (cut_is line (Run (d ∷ more) ∷ pieces) less)
    ∙ with_name b (Run (d ∷ more) ∷ pieces) (subst (λ x. is_name_byte x ≡ true) same h.each.0.1.0)
    ∙ ap (λ x. Some (Run (x ∷ d ∷ more) ∷ pieces)) (sym same)

-- what is in front of pieces, as a piece of its own
follow_blank : (b : ℕ) (pieces : List Piece) → FollowEachOther pieces → FollowEachOther (Blank b ∷ pieces)
follow_blank b [] h = tt
follow_blank b (next ∷ pieces) h = (tt, h)

follow_open : (pieces : List Piece) → FollowEachOther pieces → FollowEachOther (Open ∷ pieces)
follow_open [] h = tt
follow_open (next ∷ pieces) h = (tt, h)

follow_close : (pieces : List Piece) → FollowEachOther pieces → FollowEachOther (Close ∷ pieces)
follow_close [] h = tt
follow_close (next ∷ pieces) h = (tt, h)

extended_cut : (b : ℕ) (line : List ℕ) (pieces : List Piece) → is_name_byte b ≡ true → IsCut line pieces → IsCut (b ∷ line) (extended b pieces)
extended_cut b line [] h cut = record { covers = ap (λ s. b ∷ s) cut.covers; each = ((omega arith, (h, tt)), tt); follow = tt }
extended_cut b line (Blank c ∷ pieces) h cut = record { covers = ap (λ s. b ∷ s) cut.covers; each = ((omega arith, (h, tt)), cut.each); follow = (tt, cut.follow) }
extended_cut b line (Open ∷ pieces) h cut = record { covers = ap (λ s. b ∷ s) cut.covers; each = ((omega arith, (h, tt)), cut.each); follow = (tt, cut.follow) }
extended_cut b line (Close ∷ pieces) h cut = record { covers = ap (λ s. b ∷ s) cut.covers; each = ((omega arith, (h, tt)), cut.each); follow = (tt, cut.follow) }
extended_cut b line (Run bytes ∷ pieces) h cut = record {
  covers = ap (λ s. b ∷ s) cut.covers;
  each = ((omega arith, (h, cut.each.0.1)), cut.each.1);
  follow = follow_run bytes (b ∷ bytes) pieces cut.follow;
}

byte_cut : (b : ℕ) (line : List ℕ) (pieces all : List Piece) → IsCut line pieces → with_byte b pieces ≡ Some all → IsCut (b ∷ line) all
byte_cut b line pieces all cut = at_blank (is_blank b) refl
  where
    at_name : (v : Bool) → is_name_byte b ≡ v → cond v (Some (extended b pieces)) None ≡ Some all → IsCut (b ∷ line) all
    at_name true h e = let same : extended b pieces ≡ all = cc in subst (IsCut (b ∷ line)) same (extended_cut b line pieces h cut)
    at_name false h e = cc

    at_close : (v : Bool) → (b == 41) ≡ v → cond v (Some (Close ∷ pieces)) (cond (is_name_byte b) (Some (extended b pieces)) None) ≡ Some all → IsCut (b ∷ line) all
    at_close true h e =
        let same : Close ∷ pieces ≡ all = cc in
        let is : b ≡ 41 = grind (arith, nat_tests) in
        subst (IsCut (b ∷ line)) same (record { covers = ap (λ s. 41 ∷ s) cut.covers ∙ ap (λ x. x ∷ line) (sym is); each = (tt, cut.each); follow = follow_close pieces cut.follow })
    at_close false h e = at_name (is_name_byte b) refl e

    at_open : (v : Bool) → (b == 40) ≡ v → cond v (Some (Open ∷ pieces)) (cond (b == 41) (Some (Close ∷ pieces)) (cond (is_name_byte b) (Some (extended b pieces)) None)) ≡ Some all → IsCut (b ∷ line) all
    at_open true h e =
        let same : Open ∷ pieces ≡ all = cc in
        let is : b ≡ 40 = grind (arith, nat_tests) in
        subst (IsCut (b ∷ line)) same (record { covers = ap (λ s. 40 ∷ s) cut.covers ∙ ap (λ x. x ∷ line) (sym is); each = (tt, cut.each); follow = follow_open pieces cut.follow })
    at_open false h e = at_close (b == 41) refl e

    at_blank : (v : Bool) → is_blank b ≡ v → cond v (Some (Blank b ∷ pieces)) (cond (b == 40) (Some (Open ∷ pieces)) (cond (b == 41) (Some (Close ∷ pieces)) (cond (is_name_byte b) (Some (extended b pieces)) None))) ≡ Some all → IsCut (b ∷ line) all
    at_blank true h e =
        let same : Blank b ∷ pieces ≡ all = cc in
        subst (IsCut (b ∷ line)) same (record { covers = ap (λ s. b ∷ s) cut.covers; each = (h, cut.each); follow = follow_blank b pieces cut.follow })
    at_blank false h e = at_open (b == 40) refl e

-- what is found is a cut
pub is_cut : (line : List ℕ) (pieces : List Piece) → cut_of line ≡ Some pieces → IsCut line pieces
is_cut [] pieces e = let same : [] ≡ pieces = cc in subst (IsCut []) same (record { covers = refl; each = tt; follow = tt })
is_cut (b ∷ line) pieces e = at_rest (is_cut line) (cut_of line) refl e
  where
    at_rest : ((rest : List Piece) → cut_of line ≡ Some rest → IsCut line rest) → (found : Option (List Piece)) → cut_of line ≡ found → option_and_then (with_byte b) found ≡ Some pieces → IsCut (b ∷ line) pieces
    at_rest before None is e = cc
    at_rest before (Some rest) is e = byte_cut b line rest pieces (before rest is) e
