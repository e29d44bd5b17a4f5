-- The text of a name and of objects in brackets, as far as it is written.
use Rattle.std.proofs.Common.{◌≡◌, ℕ, ◌+◌, ◌<◌, ◌≤◌, ◌^◌, List, [], ◌∷◌, ◌++◌, length, get_or, take, drop, codes, refl, sym, ap, ◌∙◌, subst, arith}
use Rattle.std.specs.List.{All, flat_map}
use Rattle.std.proofs.lemmas.List.{append_assoc, append-nil, length-map, length-append, take_more, take_all, take_at, drop_at, drop-drop, take-append-drop}
use Rattle.std.proofs.lemmas.List.Concat.{flat_map-append}
use Rattle.type_check.specs.Values.{PlainTyped, PlainTypedObject}
use Rattle.type_check.specs.Numbered.{object_texts}
use Rattle.type_check.specs.Ground.{text_at, bracketed}
use Rattle.ground_all.specs.Names.{IsWritten}
use Rattle.ground_all.specs.Sound.{IsSound}
use Rattle.ground_all.proofs.NameLaws.{text_short}

-- the names of objects, each behind a space
abbrev pub words : PlainTyped → List ℕ → List ℕ
words t objects = flat_map (λ k. codes " " ++ text_at (object_texts t) k) objects

-- the text in front of the object at this place
abbrev pub front : PlainTyped → List ℕ → List ℕ → ℕ → List ℕ
front t name objects i = codes "(" ++ name ++ words t (take i objects)

-- one object more
words_more : (t : PlainTyped) (objects : List ℕ) (i : ℕ) → i < length objects
    → words t (take (i + 1) objects) ≡ words t (take i objects) ++ (codes " " ++ text_at (object_texts t) (get_or objects i 0))
words_more t objects i within =
    let f : ℕ → List ℕ = λ k. codes " " ++ text_at (object_texts t) k in
    let k : ℕ = get_or objects i 0 in
    ap (flat_map f) (take_more objects i 0 within) ∙ flat_map-append f (take i objects) (k ∷ [])
    ∙ ap (λ piece. words t (take i objects) ++ piece) (append-nil (f k))

pub length-words_more : (t : PlainTyped) (objects : List ℕ) (i : ℕ) → i < length objects
    → length (words t (take (i + 1) objects)) ≡ length (words t (take i objects)) + 1 + length (text_at (object_texts t) (get_or objects i 0))
length-words_more t objects i within =
    ap length (words_more t objects i within) ∙ length-append (words t (take i objects)) (codes " " ++ text_at (object_texts t) (get_or objects i 0)) ∙ omega arith

-- the name of an object is no longer than a file
pub object_short : (t : PlainTyped) (objects : List ℕ) (i : ℕ) → IsSound t → All (λ k. k < length t.objects) objects → i < length objects
    → length (text_at (object_texts t) (get_or objects i 0)) ≤ 2 ^ 20
object_short t objects i sound known within =
    (text_short (object_texts t) (get_or objects i 0) sound.object_names
    (omega (arith, known i 0 within, length-map t.objects (λ (o : PlainTypedObject). o.name.text)))).short

-- the words of the first objects are no longer than all
words_within : (t : PlainTyped) (objects : List ℕ) (i : ℕ) → length (words t (take i objects)) ≤ length (words t objects)
words_within t objects i =
    let f : ℕ → List ℕ = λ k. codes " " ++ text_at (object_texts t) k in
    let whole : words t objects ≡ words t (take i objects) ++ words t (drop i objects) =
    ap (flat_map f) (sym (take-append-drop i objects)) ∙ flat_map-append f (take i objects) (drop i objects) in
    omega (arith, ap length whole, length-append (words t (take i objects)) (words t (drop i objects)))

pub length-bracketed : (t : PlainTyped) (name objects : List ℕ) → length (bracketed t name objects) ≡ length name + 2 + length (words t objects)
unfolding bracketed
length-bracketed t name objects =
    omega (arith, length-append (codes "(" ++ name ++ words t objects) (codes ")"), length-append (codes "(" ++ name) (words t objects))

-- what is left to write at an object
pub front_room : (t : PlainTyped) (name objects : List ℕ) (i : ℕ) → i < length objects
    → length (front t name objects i) + 1 + length (text_at (object_texts t) (get_or objects i 0)) + 1 ≤ length (bracketed t name objects)
front_room t name objects i within =
    omega (arith, length-append (codes "(" ++ name) (words t (take i objects)), length-words_more t objects i within, words_within t objects (i + 1), length-bracketed t name objects)

pub front_none : (t : PlainTyped) (name objects : List ℕ) → codes "(" ++ name ≡ front t name objects 0
front_none t name objects = sym (append-nil (codes "(" ++ name))

pub front_more : (t : PlainTyped) (name objects : List ℕ) (i : ℕ) → i < length objects
    → front t name objects i ++ codes " " ++ text_at (object_texts t) (get_or objects i 0) ≡ front t name objects (i + 1)
front_more t name objects i within =
    let text : List ℕ = text_at (object_texts t) (get_or objects i 0) in
    append_assoc (front t name objects i) (codes " ") text ∙ append_assoc (codes "(" ++ name) (words t (take i objects)) (codes " " ++ text)
    ∙ ap (λ bytes. codes "(" ++ name ++ bytes) (sym (words_more t objects i within))

pub front_all : (t : PlainTyped) (name objects : List ℕ) (i : ℕ) → length objects ≤ i → front t name objects i ++ codes ")" ≡ bracketed t name objects
unfolding bracketed
front_all t name objects i past = ap (λ objects. codes "(" ++ name ++ words t objects ++ codes ")") (take_all i objects past)

pub none_written : (old : List ℕ) → IsWritten [] old old 0
none_written old = record { place = refl; whole = refl }

-- one piece more
pub written : (front piece given old into new : List ℕ) (at after : ℕ) → IsWritten front old into at → given ≡ piece → after ≡ at + length given
    → new ≡ take at into ++ given ++ drop after into → IsWritten (front ++ piece) old new after
written front piece given old into new at after is same ends put =
    let one : take at into ≡ front = ap (take at) is.whole ∙ take_at front (drop at old) at (sym is.place) in
    let past : drop at into ≡ drop at old = ap (drop at) is.whole ∙ drop_at front (drop at old) at (sym is.place) in
    let rest : drop after into ≡ drop after old =
    ap (λ n. drop n into) ends ∙ sym (drop-drop (length given) at into) ∙ ap (drop (length given)) past ∙ drop-drop (length given) at old ∙ ap (λ n. drop n old) (sym ends) in
    record {
      place = omega (arith, ends, is.place, ap length same, length-append front piece);
      whole = put ∙ ap (λ bytes. bytes ++ given ++ drop after into) one ∙ ap (λ bytes. front ++ bytes ++ drop after into) same ∙ ap (λ bytes. front ++ piece ++ bytes) rest;
    }

-- the bracket behind all objects
pub written_all : (t : PlainTyped) (name objects old into new : List ℕ) (i at after : ℕ) → IsWritten (front t name objects i) old into at → length objects ≤ i
    → after ≡ at + 1 → new ≡ take at into ++ codes ")" ++ drop after into → IsWritten (bracketed t name objects) old new after
written_all t name objects old into new i at after is past ends put =
    subst (λ text. IsWritten text old new after) (front_all t name objects i past)
    (written (front t name objects i) (codes ")") (codes ")") old into new at after is refl ends put)
