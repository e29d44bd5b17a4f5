-- The text of an atom of the task tells it from all others.
use Rattle.std.proofs.Common.{◌≡◌, ◌≢◌, ◌-◌, inl, inr, cond, ℕ, ◌+◌, ◌<◌, ◌≤◌, Bool, true, false, List, [], ◌∷◌, ◌++◌, length, map, take, drop, get_or, codes, Some, slice_get, refl, sym, ap, ◌∙◌, subst, arith}
use mathlib.Core.Path.{ap₂}
use borrow.Rule.Slice.PartMut.{post_of}
use Rattle.std.specs.List.{All, Contains, filter, list_all}
use Rattle.std.proofs.lemmas.List.{append_assoc, append-nil, append_cancel_right, length-drop, take_all, drop_all, drop-drop, length-append, length-map, take_at, drop_at}
use Rattle.std.proofs.lemmas.Bool.{false≢true}
use Rattle.std.proofs.lemmas.List.Elements.{Contains-append_left, Contains-append_right, Contains-append_cases}
use Rattle.pddl_reader.specs.Classes.{is_name_byte}
use Rattle.std.proofs.lemmas.List.Kept.{AllPairs-filter}
use Rattle.std.proofs.lemmas.Option.{slice_get_within, get_or_from_slice_get}
use Rattle.type_check.specs.Values.{PlainTyped, PlainGroundAtom}
use Rattle.type_check.specs.Numbered.{predicate_texts, object_texts}
use Rattle.type_check.specs.Ground.{IsTypedAtom, text_at, atom_text}
use Rattle.ground_all.specs.Grounding.{is_watched, fluent_atoms, watched_atoms, TaskAtom, task_atoms, task_atom_text}
use Rattle.ground_all.specs.Grounding.TaskAtom.{Fluent, Complement}
use Rattle.ground_all.specs.Sound.{IsShortName, IsSound}
use Rattle.ground_all.specs.Names.{IsTextAt, IsWritten}
use Rattle.ground_all.proofs.BlockLists.{Differ, differ_append, differ_map, in_map}
use Rattle.ground_all.proofs.BlockLaws.{atoms_differ, atoms_typed}
use Rattle.ground_all.proofs.NameLaws.{same_place, same_atom, atom_objects, names_end, name_bytes, tail, tail-cons, tail_behind, bracketed_is, text_short, predicate_within}
use Rattle.ground_all.proofs.TextLaws.{written}

-- ---- the atoms of the task are different

base : TaskAtom → PlainGroundAtom
base (Fluent a) = a
base (Complement a) = a

task_atoms_differ : (t : PlainTyped) → IsSound t → Differ (task_atoms t)
unfolding task_atoms watched_atoms base
task_atoms_differ t sound =
    let atoms = atoms_differ t sound in
    differ_append (map Fluent (fluent_atoms t)) (map Complement (watched_atoms t))
    (differ_map Fluent (λ x y same. ap base same) (fluent_atoms t) atoms)
    (differ_map Complement (λ x y same. ap base same) (watched_atoms t) (AllPairs-filter (λ a b. a ≢ b) (λ a. is_watched t a.predicate) (fluent_atoms t) atoms))
    (λ a one other.
    let here = in_map Fluent (fluent_atoms t) a one in
    let there = in_map Complement (watched_atoms t) a other in
    apart here.0 there.0 (here.2 ∙ sym there.2))
  where
    apart : (x y : PlainGroundAtom) → ◌≡◌ {A = TaskAtom} (Fluent x) (Complement y) → ⊥
    apart x y same = cc

-- ---- their texts

-- the text of a fluent atom is not that of a complement, whose second word is in brackets
texts_apart : (t : PlainTyped) (a b : PlainGroundAtom) → IsSound t → IsTypedAtom t a → atom_text t a ≡ task_atom_text t (Complement b) → ⊥
texts_apart t a b sound typed e =
    let name = text_at (predicate_texts t) a.predicate in
    let short = text_short (predicate_texts t) a.predicate sound.predicate_names (predicate_within t a typed) in
    let rest : List ℕ = 40 ∷ (text_at (predicate_texts t) b.predicate ++ tail (object_texts t) b.objects) ++ codes ")" in
    let inner : task_atom_text t (Complement b) ≡ 40 ∷ (codes "not" ++ (32 ∷ rest)) =
    ap (λ text. codes "(not " ++ text ++ codes ")") (bracketed_is t (text_at (predicate_texts t) b.predicate) b.objects) in
    let whole : name ++ tail (object_texts t) a.objects ≡ codes "not" ++ (32 ∷ rest) = ap (drop 1) (sym (bracketed_is t name a.objects) ∙ e ∙ inner) in
    let ends = names_end name (codes "not") (tail (object_texts t) a.objects) (32 ∷ rest) (name_bytes name short) refl (tail_behind (object_texts t) a.objects) refl whole in
    no_bracket a.objects (atom_objects t a sound typed) ends.1
  where
    no_bracket : (objects : List ℕ) → All (λ k. k < length t.objects) objects
        → tail (object_texts t) objects ≡ 32 ∷ (40 ∷ (text_at (predicate_texts t) b.predicate ++ tail (object_texts t) b.objects) ++ codes ")") → ⊥
    no_bracket [] known same = absurd (let differ : ◌≡◌ {A = ℕ} 41 32 = ap (λ bytes. get_or bytes 0 0) same in omega arith)
    no_bracket (k ∷ objects) known same =
        let short = text_short (object_texts t) k sound.object_names (omega (arith, known 0 k (omega arith), length-map t.objects (λ o. o.name.text))) in
        named (text_at (object_texts t) k) (tail (object_texts t) objects) _ short (ap (drop 1) (sym (tail-cons (object_texts t) k objects) ∙ same))
      where
        named : (text back rest : List ℕ) → IsShortName text → text ++ back ≡ 40 ∷ rest → ⊥
        named [] back rest short same = cc short.is
        named (c ∷ text) back rest short same =
            let first : c ≡ 40 = ap (λ bytes. get_or bytes 0 0) same in
            bracket (subst (λ b. list_all is_name_byte (b ∷ text) ≡ true) first (name_bytes (c ∷ text) short))
          where
            bracket : list_all is_name_byte (40 ∷ text) ≡ true → ⊥
            bracket h = absurd (false≢true h)

same_task_atom : (t : PlainTyped) (x y : TaskAtom) → IsSound t → IsTypedAtom t (base x) → IsTypedAtom t (base y) → task_atom_text t x ≡ task_atom_text t y → x ≡ y
unfolding base
same_task_atom t (Fluent a) (Fluent b) sound one other e = ap Fluent (same_atom t a b sound one other e)
same_task_atom t (Fluent a) (Complement b) sound one other e = absurd (texts_apart t a b sound one e)
same_task_atom t (Complement a) (Fluent b) sound one other e = absurd (texts_apart t b a sound other (sym e))
same_task_atom t (Complement a) (Complement b) sound one other e =
    ap Complement (same_atom t a b sound one other (append_cancel_right (atom_text t a) (atom_text t b) (codes ")") (ap (drop 5) e)))

-- a member of a filtered list is one of the list
in_filter : {X : Type 0} (p : X → Bool) (xs : List X) (x : X) → Contains (filter p xs) x → Contains xs x
in_filter p [] x has = has
in_filter {X} p (y ∷ xs) x has = by (p y) has (in_filter p xs x)
  where
    by : (b : Bool) → Contains (cond b (y ∷ filter p xs) (filter p xs)) x → (Contains (filter p xs) x → Contains xs x) → Contains (y ∷ xs) x
    by true has more = elim (Contains-append_cases (y ∷ []) (filter p xs) x has) [
      | inl here ↦ Contains-append_left (y ∷ []) xs x here
      | inr rest ↦ Contains-append_right (y ∷ []) xs x (more rest)
    ]
    by false has more = Contains-append_right (y ∷ []) xs x (more has)

-- an atom of the task is one of a predicate's, or the complement of such
task_atom_typed : (t : PlainTyped) (k : ℕ) (x : TaskAtom) → slice_get (task_atoms t) k ≡ Some x → IsTypedAtom t (base x)
unfolding task_atoms watched_atoms base
task_atom_typed t k x at =
    let has : Contains (task_atoms t) x = (k, slice_get_within (task_atoms t) k x at, get_or_from_slice_get (task_atoms t) k x x at) in
    elim (Contains-append_cases (map Fluent (fluent_atoms t)) (map Complement (watched_atoms t)) x has) [
      | inl one ↦ let found = in_map Fluent (fluent_atoms t) x one in subst (λ y. IsTypedAtom t (base y)) found.2 (atoms_typed t found.0 found.1)
      | inr other ↦
          let found = in_map Complement (watched_atoms t) x other in
          subst (λ y. IsTypedAtom t (base y)) found.2 (atoms_typed t found.0 (in_filter (λ a. is_watched t a.predicate) (fluent_atoms t) found.0 found.1))
    ]

-- the text of an atom of the task is that of no other
pub task_text_at : (t : PlainTyped) (number : ℕ) (x : TaskAtom) (text : List ℕ) → IsSound t → slice_get (task_atoms t) number ≡ Some x → text ≡ task_atom_text t x
    → IsTextAt (task_atom_text t) (task_atoms t) number text
task_text_at t number x text sound at is = record {
  item = x;
  there = at;
  is = is;
  only = λ k other there e.
      let same : other ≡ x = same_task_atom t other x sound (task_atom_typed t k other there) (task_atom_typed t number x at) (e ∙ is) in
      same_place (task_atoms t) (task_atoms_differ t sound) k number x (there ∙ ap Some same) at;
}

-- ---- what is written

module _ (text old new : List ℕ) (at : ℕ) (is : IsWritten text old new at) where
  pub written_within : at ≤ length new
  written_within = omega (arith, is.place, ap length is.whole, length-append text (drop at old))

  pub written_front : take at new ≡ text
  written_front = ap (take at) is.whole ∙ take_at text (drop at old) at (sym is.place)

  pub written_rest : drop at new ≡ drop at old
  written_rest = ap (drop at) is.whole ∙ drop_at text (drop at old) at (sym is.place)

-- a text in the part behind a front that is written, and a piece behind both
module _ (front text old one sub two : List ℕ) (at len : ℕ) (is : IsWritten front old one at) (inner : IsWritten text (take (length one - at) (drop at one)) sub len)
    (put : two ≡ take at one ++ (sub ++ post_of at (length one - at) one)) (room : at ≤ length one) where
  behind_written : IsWritten (front ++ text) old two (at + len)
  behind_written =
      let back : List ℕ = drop at one in
      let many : length back ≡ length one - at = length-drop at one in
      let whole : take (length one - at) back ≡ drop at old = take_all (length one - at) back (omega arith) ∙ written_rest front old one at is in
      let rest : drop len (take (length one - at) back) ≡ drop (at + len) old = ap (drop len) whole ∙ drop-drop len at old in
      let none : post_of at (length one - at) one ≡ [] = drop_all (length one - at) back (omega arith) in
      record {
        place = omega (arith, is.place, inner.place, length-append front text);
        whole = put ∙ ap₂ (λ x y. x ++ (sub ++ y)) (written_front front old one at is) none ∙ ap (λ x. front ++ x) (append-nil sub ∙ inner.whole ∙ ap (λ x. text ++ x) rest)
            ∙ sym (append_assoc front text (drop (at + len) old));
      }

  pub ended : (given new : List ℕ) (end : ℕ) → end ≡ at + len + length given → new ≡ take (at + len) two ++ given ++ drop end two → IsWritten (front ++ text ++ given) old new end
  ended given new end ends text_is = written (front ++ text) given given old two new (at + len) end behind_written refl ends text_is

  -- there is room for what follows
  pub room_behind : at + len + 1 ≤ length old → at + len + 1 ≤ length two
  room_behind fits = omega (arith, fits, behind_written.place, ap length behind_written.whole, length-append (front ++ text) (drop (at + len) old), length-drop (at + len) old)
