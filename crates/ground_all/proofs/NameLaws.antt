-- The text of an atom or an action tells it from all others.
use Rattle.std.proofs.Common.{◌≡◌, ◌≢◌, ℕ, ◌<◌, ◌≤◌, ◌^◌, true, false, List, [], ◌∷◌, ◌++◌, length, get_or, drop, codes, Some, slice_get, refl, sym, ap, ◌∙◌, subst, arith, ⊎_elim}
use mathlib.Core.Path.{ap₂}
use Rattle.std.specs.Option.{option_map, unwrap_or}
use Rattle.std.specs.List.{All, AllPairs, flat_map, list_all}
use Rattle.std.proofs.lemmas.Bool.{false≢true, and_parts, cases_order}
use Rattle.std.proofs.lemmas.List.{append_assoc, length-map}
use Rattle.std.proofs.lemmas.List.Elements.{All-head, All-tail}
use Rattle.std.proofs.lemmas.Option.{slice_get_within, get_or_from_slice_get, unwrap_or-slice_get, slice_get-map, same_Some}
use Rattle.pddl_reader.specs.Classes.{is_name_byte}
use Rattle.type_check.specs.Values.{PlainTyped, PlainTypedPredicate, PlainTypedSchema, PlainGroundAtom, PlainGroundName}
use Rattle.type_check.specs.Numbered.{predicate_texts, schema_texts, object_texts}
use Rattle.type_check.specs.Ground.{IsTypedAtom, IsTypedName, text_at, bracketed, atom_text, action_text}
use Rattle.ground_all.specs.Grounding.{fluent_atoms, instances}
use Rattle.ground_all.specs.Names.{IsTextAt}
use Rattle.ground_all.specs.Found.{IsAtomAt, IsActionAt}
use Rattle.ground_all.specs.Sound.{IsShortName, AreNames, IsSound}
use Rattle.ground_all.proofs.TupleLaws.{fit_below}
use Rattle.ground_all.proofs.BlockLaws.{atoms_typed, instances_typed, instances_differ}

-- ---- different items

-- two places with the same item are one
pub same_place : {X : Type 0} (xs : List X) → AllPairs (λ a b. a ≢ b) xs → (j k : ℕ) (x : X) → slice_get xs j ≡ Some x → slice_get xs k ≡ Some x → j ≡ k
same_place xs differ j k x at there =
    let one : get_or xs j x ≡ x = get_or_from_slice_get xs j x x at in
    let other : get_or xs k x ≡ x = get_or_from_slice_get xs k x x there in
    ⊎_elim (λ e. e)
    (λ apart. absurd (⊎_elim (λ less. differ j k x less (slice_get_within xs k x there) (one ∙ sym other))
    (λ less. differ k j x less (slice_get_within xs j x at) (other ∙ sym one)) apart))
    (cases_order j k)

-- ---- names

-- the text does not go on with a byte of a name
abbrev pub IsBehind : List ℕ → Type 0
IsBehind [] = Unit {0}
IsBehind (b ∷ bytes) = is_name_byte b ≡ false

behind_name : (text : List ℕ) (b : ℕ) (bytes : List ℕ) → IsBehind text → text ≡ b ∷ bytes → is_name_byte b ≡ true → ⊥
behind_name text b bytes behind e named = false≢true (sym (subst IsBehind e behind) ∙ named)

-- names in front of two texts end at the same place
pub names_end : (n m r s : List ℕ) → list_all is_name_byte n ≡ true → list_all is_name_byte m ≡ true → IsBehind r → IsBehind s → n ++ r ≡ m ++ s → (n ≡ m) × (r ≡ s)
names_end [] [] r s named other behind after e = (refl, e)
names_end [] (y ∷ m) r s named other behind after e =
    absurd (behind_name r y (m ++ s) behind e (and_parts (is_name_byte y) (list_all is_name_byte m) other).0)
names_end (x ∷ n) [] r s named other behind after e =
    absurd (behind_name s x (n ++ r) after (sym e) (and_parts (is_name_byte x) (list_all is_name_byte n) named).0)
names_end (x ∷ n) (y ∷ m) r s named other behind after e =
    let first : x ≡ y = cc in
    let more = names_end n m r s (and_parts (is_name_byte x) (list_all is_name_byte n) named).1
    (and_parts (is_name_byte y) (list_all is_name_byte m) other).1 behind after (ap (drop 1) e) in
    (cc, more.1)

pub name_bytes : (text : List ℕ) → IsShortName text → list_all is_name_byte text ≡ true
name_bytes [] short = absurd (false≢true short.is)
name_bytes (b ∷ bytes) short = (and_parts _ (list_all is_name_byte (b ∷ bytes)) short.is).1

text_is : (texts : List (List ℕ)) (k : ℕ) → text_at texts k ≡ get_or texts k []
text_is texts k = unwrap_or-slice_get texts k []

pub text_short : (texts : List (List ℕ)) (k : ℕ) → AreNames texts → k < length texts → IsShortName (text_at texts k)
text_short texts k names within = subst IsShortName (sym (text_is texts k)) (names.each k [] within)

-- a name has one number
same_text : (texts : List (List ℕ)) (j k : ℕ) → AreNames texts → j < length texts → k < length texts → text_at texts j ≡ text_at texts k → j ≡ k
same_text texts j k names one other e =
    let same : get_or texts j [] ≡ get_or texts k [] = sym (text_is texts j) ∙ e ∙ text_is texts k in
    ⊎_elim (λ is. is)
    (λ apart. absurd (⊎_elim (λ less. names.differ j k [] less other same) (λ less. names.differ k j [] less one (sym same)) apart))
    (cases_order j k)

-- ---- names in brackets

-- the names of objects behind spaces, and the bracket
abbrev pub tail : List (List ℕ) → List ℕ → List ℕ
tail texts objects = flat_map (λ k. codes " " ++ text_at texts k) objects ++ codes ")"

pub tail_behind : (texts : List (List ℕ)) (objects : List ℕ) → IsBehind (tail texts objects)
tail_behind texts [] = refl
tail_behind texts (k ∷ objects) = refl

pub tail-cons : (texts : List (List ℕ)) (k : ℕ) (objects : List ℕ) → tail texts (k ∷ objects) ≡ 32 ∷ (text_at texts k ++ tail texts objects)
tail-cons texts k objects =
    ap (λ bytes. 32 ∷ bytes) (append_assoc (text_at texts k) (flat_map (λ k. codes " " ++ text_at texts k) objects) (codes ")"))

tail_more : (texts : List (List ℕ)) (k : ℕ) (objects : List ℕ) → tail texts [] ≡ tail texts (k ∷ objects) → ⊥
tail_more texts k objects e =
    let differ : ◌≡◌ {A = ℕ} 41 32 = ap (λ bytes. get_or bytes 0 0) (e ∙ tail-cons texts k objects) in
    absurd (omega arith)

tail_parts : (texts : List (List ℕ)) (j k : ℕ) (a b : List ℕ) → AreNames texts → j < length texts → k < length texts → tail texts (j ∷ a) ≡ tail texts (k ∷ b) → (j ≡ k) × (tail texts a ≡ tail texts b)
tail_parts texts j k a b names one other e =
    let whole : text_at texts j ++ tail texts a ≡ text_at texts k ++ tail texts b = ap (drop 1) (sym (tail-cons texts j a) ∙ e ∙ tail-cons texts k b) in
    let parts = names_end (text_at texts j) (text_at texts k) (tail texts a) (tail texts b)
    (name_bytes (text_at texts j) (text_short texts j names one)) (name_bytes (text_at texts k) (text_short texts k names other)) (tail_behind texts a) (tail_behind texts b) whole in
    (same_text texts j k names one other parts.0, parts.1)

same_tail : (texts : List (List ℕ)) (a b : List ℕ) → AreNames texts → All (λ k. k < length texts) a → All (λ k. k < length texts) b → tail texts a ≡ tail texts b → a ≡ b
same_tail texts [] [] names below under e = refl
same_tail texts [] (k ∷ b) names below under e = absurd (tail_more texts k b e)
same_tail texts (j ∷ a) [] names below under e = absurd (tail_more texts j a (sym e))
same_tail texts (j ∷ a) (k ∷ b) names below under e =
    let parts = tail_parts texts j k a b names (All-head (λ k. k < length texts) j a below) (All-head (λ k. k < length texts) k b under) e in
    ap₂ (λ k b. k ∷ b) parts.0 (same_tail texts a b names (All-tail (λ k. k < length texts) j a below) (All-tail (λ k. k < length texts) k b under) parts.1)

pub bracketed_is : (t : PlainTyped) (name objects : List ℕ) → bracketed t name objects ≡ 40 ∷ (name ++ tail (object_texts t) objects)
unfolding bracketed
bracketed_is t name objects =
    ap (λ bytes. 40 ∷ bytes) (append_assoc name (flat_map (λ k. codes " " ++ text_at (object_texts t) k) objects) (codes ")"))

same_bracketed : (t : PlainTyped) (n m a b : List ℕ) → IsSound t → IsShortName n → IsShortName m
    → All (λ k. k < length t.objects) a → All (λ k. k < length t.objects) b → bracketed t n a ≡ bracketed t m b → (n ≡ m) × (a ≡ b)
same_bracketed t n m a b sound named other below under e =
    let texts = object_texts t in
    let many : length t.objects ≡ length texts = sym (length-map t.objects (λ o. o.name.text)) in
    let whole : n ++ tail texts a ≡ m ++ tail texts b = ap (drop 1) (sym (bracketed_is t n a) ∙ e ∙ bracketed_is t m b) in
    let parts = names_end n m (tail texts a) (tail texts b) (name_bytes n named) (name_bytes m other) (tail_behind texts a) (tail_behind texts b) whole in
    (parts.0, same_tail texts a b sound.object_names (subst (λ count. All (λ k. k < count) a) many below) (subst (λ count. All (λ k. k < count) b) many under) parts.1)

-- ---- atoms

pub atom_objects : (t : PlainTyped) (a : PlainGroundAtom) → IsSound t → IsTypedAtom t a → All (λ k. k < length t.objects) a.objects
atom_objects t a sound typed =
    let within = slice_get_within t.predicates a.predicate typed.predicate typed.there in
    let is = get_or_from_slice_get t.predicates a.predicate typed.predicate typed.predicate typed.there in
    fit_below (length t.objects) typed.predicate.places a.objects (subst (λ q. All (All (λ k. k < length t.objects)) q.places) is (sound.predicate_objects a.predicate typed.predicate within)) typed.fit

pub predicate_within : (t : PlainTyped) (a : PlainGroundAtom) → IsTypedAtom t a → a.predicate < length (predicate_texts t)
predicate_within t a typed =
    let within = slice_get_within t.predicates a.predicate typed.predicate typed.there in
    omega (arith, length-map t.predicates (λ q. q.name.text))

pub same_atom : (t : PlainTyped) (a b : PlainGroundAtom) → IsSound t → IsTypedAtom t a → IsTypedAtom t b → atom_text t a ≡ atom_text t b → a ≡ b
same_atom t a b sound typed other e =
    let texts = predicate_texts t in
    let one = predicate_within t a typed in
    let two = predicate_within t b other in
    let parts = same_bracketed t (text_at texts a.predicate) (text_at texts b.predicate) a.objects b.objects sound
    (text_short texts a.predicate sound.predicate_names one) (text_short texts b.predicate sound.predicate_names two)
    (atom_objects t a sound typed) (atom_objects t b sound other) e in
    ap₂ (λ predicate objects. let atom : PlainGroundAtom = record { predicate = predicate; objects = objects } in atom)
    (same_text texts a.predicate b.predicate sound.predicate_names one two parts.0) parts.1

atom_has : (t : PlainTyped) (k : ℕ) (a : PlainGroundAtom) → slice_get (fluent_atoms t) k ≡ Some a → IsTypedAtom t a
atom_has t k a at =
    atoms_typed t a (k, slice_get_within (fluent_atoms t) k a at, get_or_from_slice_get (fluent_atoms t) k a a at)

predicate_text : (t : PlainTyped) (k : ℕ) (q : PlainTypedPredicate) → slice_get t.predicates k ≡ Some q → text_at (predicate_texts t) k ≡ q.name.text
predicate_text t k q declared =
    let name : PlainTypedPredicate → List ℕ = λ q. q.name.text in
    ap (λ text. unwrap_or text []) (slice_get-map name t.predicates k ∙ ap (option_map name) declared)

module _ (t : PlainTyped) (number : ℕ) (q : PlainTypedPredicate) (objects : List ℕ) (sound : IsSound t) (at : IsAtomAt t number q objects) where
  pub atom_short : length q.name.text ≤ 2 ^ 20
  atom_short =
      subst (λ text. length text ≤ 2 ^ 20) (predicate_text t at.atom.predicate q at.declared)
      (text_short (predicate_texts t) at.atom.predicate sound.predicate_names (predicate_within t at.atom (atom_has t number at.atom at.there))).short

  pub atom_known : All (λ k. k < length t.objects) objects
  atom_known = subst (All (λ k. k < length t.objects)) at.are (atom_objects t at.atom sound (atom_has t number at.atom at.there))

  pub text_of_atom : (atom : PlainGroundAtom) → slice_get (fluent_atoms t) number ≡ Some atom → bracketed t q.name.text objects ≡ atom_text t atom
  text_of_atom atom there =
      ap₂ (bracketed t) (sym (predicate_text t at.atom.predicate q at.declared)) (sym at.are)
      ∙ ap (atom_text t) (same_Some at.atom atom (sym at.there ∙ there))

-- ---- actions

pub action_objects : (t : PlainTyped) (n : PlainGroundName) → IsSound t → IsTypedName t n → All (λ k. k < length t.objects) n.objects
action_objects t n sound typed =
    let within = slice_get_within t.schemas n.schema typed.schema typed.there in
    let is = get_or_from_slice_get t.schemas n.schema typed.schema typed.schema typed.there in
    fit_below (length t.objects) typed.schema.places n.objects (subst (λ s. All (All (λ k. k < length t.objects)) s.places) is (sound.schema_objects n.schema typed.schema within)) typed.fit

schema_within : (t : PlainTyped) (n : PlainGroundName) → IsTypedName t n → n.schema < length (schema_texts t)
schema_within t n typed =
    let within = slice_get_within t.schemas n.schema typed.schema typed.there in
    omega (arith, length-map t.schemas (λ s. s.name.text))

pub same_action : (t : PlainTyped) (a b : PlainGroundName) → IsSound t → IsTypedName t a → IsTypedName t b → action_text t a ≡ action_text t b → a ≡ b
same_action t a b sound typed other e =
    let texts = schema_texts t in
    let one = schema_within t a typed in
    let two = schema_within t b other in
    let parts = same_bracketed t (text_at texts a.schema) (text_at texts b.schema) a.objects b.objects sound
    (text_short texts a.schema sound.schema_names one) (text_short texts b.schema sound.schema_names two)
    (action_objects t a sound typed) (action_objects t b sound other) e in
    ap₂ (λ schema objects. let name : PlainGroundName = record { schema = schema; objects = objects } in name)
    (same_text texts a.schema b.schema sound.schema_names one two parts.0) parts.1

action_has : (t : PlainTyped) (k : ℕ) (n : PlainGroundName) → slice_get (instances t) k ≡ Some n → IsTypedName t n
action_has t k n at =
    instances_typed t n (k, slice_get_within (instances t) k n at, get_or_from_slice_get (instances t) k n n at)

-- no other typed instance has the action's text
pub action_only : (t : PlainTyped) (number : ℕ) (name : PlainGroundName) → IsSound t → slice_get (instances t) number ≡ Some name
    → (k : ℕ) (other : PlainGroundName) → slice_get (instances t) k ≡ Some other → action_text t other ≡ action_text t name → k ≡ number
action_only t number name sound at k other there e =
    let same : other ≡ name = same_action t other name sound (action_has t k other there) (action_has t number name at) e in
    same_place (instances t) (instances_differ t sound) k number name (there ∙ ap Some same) at

schema_text : (t : PlainTyped) (k : ℕ) (s : PlainTypedSchema) → slice_get t.schemas k ≡ Some s → text_at (schema_texts t) k ≡ s.name.text
schema_text t k s declared =
    let name : PlainTypedSchema → List ℕ = λ s. s.name.text in
    ap (λ text. unwrap_or text []) (slice_get-map name t.schemas k ∙ ap (option_map name) declared)

module _ (t : PlainTyped) (number : ℕ) (s : PlainTypedSchema) (objects : List ℕ) (sound : IsSound t) (at : IsActionAt t number s objects) where
  pub action_short : length s.name.text ≤ 2 ^ 20
  action_short =
      subst (λ text. length text ≤ 2 ^ 20) (schema_text t at.name.schema s at.declared)
      (text_short (schema_texts t) at.name.schema sound.schema_names (schema_within t at.name (action_has t number at.name at.there))).short

  pub action_known : All (λ k. k < length t.objects) objects
  action_known = subst (All (λ k. k < length t.objects)) at.are (action_objects t at.name sound (action_has t number at.name at.there))

  pub text_of_action : (name : PlainGroundName) → slice_get (instances t) number ≡ Some name → bracketed t s.name.text objects ≡ action_text t name
  text_of_action name there =
      ap₂ (bracketed t) (sym (schema_text t at.name.schema s at.declared)) (sym at.are)
      ∙ ap (action_text t) (same_Some at.name name (sym at.there ∙ there))

  pub action_text_at : (text : List ℕ) → text ≡ bracketed t s.name.text objects → IsTextAt (action_text t) (instances t) number text
  action_text_at text is =
      let same : text ≡ action_text t at.name = is ∙ text_of_action at.name at.there in
      record {
        item = at.name;
        there = at.there;
        is = same;
        only = λ k other there e. action_only t number at.name sound at.there k other there (e ∙ same);
      }
