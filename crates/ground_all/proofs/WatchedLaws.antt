-- The watched atoms: which they are, how many, and where their complements stand among the atoms of the task.
use Rattle.std.proofs.Common.{◌≡◌, ℕ, suc, zero, ◌+◌, ◌^◌, ◌<◌, ◌≤◌, Bool, true, false, not, cond, ◌&&◌, ◌==◌, List, [], ◌∷◌, ◌++◌, length, map, take, get_or, sum, Some, refl, sym, ap, ◌∙◌, subst, zero-add, arith}
use mathlib.Core.Path.{ap₂}
use Rattle.std.specs.Prelude.{slice_get, if◌then◌else◌, EachIndex}
use Rattle.std.specs.List.{list_any, filter, flat_map}
use Rattle.std.specs.Option.{option_map}
use Rattle.std.proofs.lemmas.List.{ext_get_or, length-map, length-append, get_or-map, take_all}
use Rattle.std.proofs.lemmas.List.Elements.{filter-append}
use Rattle.std.proofs.lemmas.List.Folds.{flat_map-map}
use Rattle.std.proofs.lemmas.Option.{none-some, slice_get-map, slice_get_within, get_or_from_slice_get, same_Some}
use Rattle.grd_base.specs.declared.ids.AtomId.{AtomId}
use Rattle.strips_model.specs.Worlds.{places_of}
use Rattle.type_check.specs.Values.{PlainTyped, PlainTypedPredicate, PlainTypedSchema, PlainGroundAtom}
use Rattle.ground_all.specs.Tuples.{tuples, numbered}
use Rattle.ground_all.specs.Grounding.{is_fluent, is_watched, atoms_of, fluent_atoms, watched_atoms, task_atoms}
use Rattle.ground_all.specs.Grounding.TaskAtom.{Fluent, Complement}
use Rattle.ground_all.specs.Sound.{ArePlaces, IsSound}
use Rattle.ground_all.specs.Found.{atom_blocks, watched_blocks, watched_marks, watched_numbers, starts_of, IsPlaceIn, IsCounted, IsBaseOf}
use Rattle.ground_all.proofs.BlockLists.{place_within, length-numbered, numbered_at, length-blocks, get_front, get_behind}
use Rattle.ground_all.proofs.BlockCounts.{count_more}
use Rattle.ground_all.proofs.BlockLaws.{atoms_sum, few_blocks, length-few}
use Rattle.ground_all.proofs.ItemPlaces.{atom_list, predicate_there, predicate_of}
use Rattle.ground_all.proofs.ComplementLaws.{places_next}

-- ---- the marks of the predicates

mark_at : (t : PlainTyped) (i : ℕ) (q : PlainTypedPredicate) → slice_get t.predicates i ≡ Some q → slice_get (watched_marks t) i ≡ Some (is_watched t i)
mark_at t i q at =
    let f : ℕ × PlainTypedPredicate → Bool = λ x. is_watched t x.0 in
    slice_get-map f (numbered 0 t.predicates) i ∙ ap (option_map f) (numbered_at 0 t.predicates i q at) ∙ ap (λ k. Some (is_watched t k)) (zero-add i)

pub length-watched_marks : (t : PlainTyped) → length (watched_marks t) ≡ length t.predicates
length-watched_marks t = length-map (numbered 0 t.predicates) (λ (x : ℕ × PlainTypedPredicate). is_watched t x.0) ∙ length-numbered 0 t.predicates

-- the mark that is read at a predicate
mark_read : (t : PlainTyped) (marks : List Bool) (k : ℕ) (mark d : Bool) → marks ≡ watched_marks t → k < length t.predicates → get_or marks k d ≡ mark → mark ≡ is_watched t k
mark_read t marks k mark d are within read =
    let q = place_within t.predicates k within in
    sym read ∙ ap (λ (ms : List Bool). get_or ms k d) are ∙ get_or_from_slice_get (watched_marks t) k (is_watched t k) d (mark_at t k q.0 q.1)

-- the marks after all schemas
pub watched_all : (t : PlainTyped) (schemas : List PlainTypedSchema) → schemas ≡ t.schemas → (i : ℕ) (marks : List Bool) → length schemas ≤ i → length marks ≡ length t.predicates
    → EachIndex marks (λ k. get_or marks k false ≡ list_any (λ s. list_any (λ l. not l.positive && l.predicate == k) s.pre) (take i t.schemas)) → marks ≡ watched_marks t
watched_all t schemas same i marks past long each = ext_get_or false marks (watched_marks t) (long ∙ sym (length-watched_marks t)) mark
  where
    mark : (k : ℕ) → k < length marks → get_or marks k false ≡ get_or (watched_marks t) k false
    mark k within =
        let q = place_within t.predicates k (omega arith) in
        each k within ∙ ap (list_any (λ s. list_any (λ l. not l.positive && l.predicate == k) s.pre)) (take_all i t.schemas (omega (arith, ap length same)))
        ∙ sym (get_or_from_slice_get (watched_marks t) k (is_watched t k) false (mark_at t k q.0 q.1))

-- ---- the numbers of the watched atoms

module _ (t : PlainTyped) (marks : List Bool) (starts : List ℕ) (fluents : ℕ) (counted : IsCounted t marks starts fluents) (number k place : ℕ) (within : number < fluents)
    (found : (lengths : List ℕ) → starts ≡ starts_of 0 lengths → number < sum lengths → IsPlaceIn lengths number k place) where
  inside : number < length (fluent_atoms t)
  inside = omega (arith, within, counted.counted)

  is_place : IsPlaceIn (map length (atom_blocks t)) number k place
  is_place = atom_list t starts number k place counted.start inside found

  declared : k < length t.predicates
  declared = predicate_there t number k place is_place

  pub mark_within : k < length marks
  mark_within = omega (arith, declared, ap length counted.marked, length-watched_marks t)

  -- the next fluent atom, which is watched where its predicate is
  pub watched_next : (mark : Bool) (old new : List AtomId) → get_or marks k false ≡ mark → old ≡ places_of (λ a. is_watched t a.predicate) 0 (take number (fluent_atoms t))
      → new ≡ old ++ cond mark (record { 0 = number } ∷ []) [] → new ≡ places_of (λ a. is_watched t a.predicate) 0 (take (number + 1) (fluent_atoms t))
  watched_next mark old new read before step =
      let atoms = fluent_atoms t in
      let here = place_within atoms number inside in
      let q = place_within t.predicates k declared in
      let same : mark ≡ is_watched t (get_or atoms number here.0).predicate =
      mark_read t marks k mark false counted.marked declared read
      ∙ ap (is_watched t) (sym (ap (λ (a : PlainGroundAtom). a.predicate) (get_or_from_slice_get atoms number here.0 here.0 here.1) ∙ predicate_of t k q.0 q.1 number place is_place here.0 here.1)) in
      step ∙ ap₂ (λ xs b. let a : AtomId = record { 0 = number } in xs ++ cond b (a ∷ []) []) before same
      ∙ sym (places_next (λ a. is_watched t a.predicate) atoms number here.0 inside)

-- ---- how many atoms are watched

-- what a filter keeps of lists behind one another
filter_flat : {X A : Type 0} (p : A → Bool) (f : X → List A) (xs : List X) → filter p (flat_map f xs) ≡ flat_map (λ x. filter p (f x)) xs
filter_flat p f [] = refl
filter_flat p f (x ∷ xs) = filter-append p (f x) (flat_map f xs) ∙ ap (λ ys. filter p (f x) ++ ys) (filter_flat p f xs)

-- all of a list whose items pass alike, or none
filter_alike : {X A : Type 0} (p : A → Bool) (g : X → A) (b : Bool) → ((x : X) → p (g x) ≡ b) → (xs : List X) → filter p (map g xs) ≡ cond b (map g xs) []
filter_alike p g true alike [] = refl
filter_alike p g false alike [] = refl
filter_alike p g true alike (x ∷ xs) = ap₂ (λ c ys. cond c (g x ∷ ys) ys) (alike x) (filter_alike p g true alike xs)
filter_alike p g false alike (x ∷ xs) = ap₂ (λ c ys. cond c (g x ∷ ys) ys) (alike x) (filter_alike p g false alike xs)

-- the watched ones of a predicate's atoms
abbrev watched_at : PlainTyped → ℕ × PlainTypedPredicate → List PlainGroundAtom
watched_at t x = if is_watched t x.0 then (if is_fluent t x.0 then atoms_of x.0 x.1 else []) else []

watched_block : (t : PlainTyped) (x : ℕ × PlainTypedPredicate) → filter (λ a. is_watched t a.predicate) (if is_fluent t x.0 then atoms_of x.0 x.1 else []) ≡ watched_at t x
watched_block t x = by (is_fluent t x.0)
  where
    by : (b : Bool) → filter (λ a. is_watched t a.predicate) (cond b (atoms_of x.0 x.1) []) ≡ cond (is_watched t x.0) (cond b (atoms_of x.0 x.1) []) []
    by true = filter_alike (λ a. is_watched t a.predicate) (λ (objects : List ℕ). record { predicate = x.0; objects = objects }) (is_watched t x.0) (λ objects. refl) (tuples x.1.places)
    by false = none (is_watched t x.0)
      where
        none : (c : Bool) → ◌≡◌ {A = List PlainGroundAtom} [] (cond c [] [])
        none true = refl
        none false = refl

flat_same : {X A : Type 0} (f g : X → List A) → ((x : X) → f x ≡ g x) → (xs : List X) → flat_map f xs ≡ flat_map g xs
flat_same f g same [] = refl
flat_same f g same (x ∷ xs) = ap₂ ◌++◌ (same x) (flat_same f g same xs)

watched_are : (t : PlainTyped) → watched_atoms t ≡ flat_map (λ (b : List PlainGroundAtom). b) (watched_blocks t)
unfolding watched_atoms fluent_atoms
watched_are t =
    let atoms_at : ℕ × PlainTypedPredicate → List PlainGroundAtom = λ x. if is_fluent t x.0 then atoms_of x.0 x.1 else [] in
    filter_flat (λ a. is_watched t a.predicate) atoms_at (numbered 0 t.predicates)
    ∙ flat_same (λ x. filter (λ a. is_watched t a.predicate) (atoms_at x)) (watched_at t) (watched_block t) (numbered 0 t.predicates)
    ∙ sym (flat_map-map (λ (b : List PlainGroundAtom). b) (watched_at t) (numbered 0 t.predicates))

watched_sum : (t : PlainTyped) → length (watched_atoms t) ≡ sum (map length (watched_blocks t))
watched_sum t = ap length (watched_are t) ∙ length-blocks (watched_blocks t)

pub length-task_atoms : (t : PlainTyped) → length (task_atoms t) ≡ length (fluent_atoms t) + length (watched_atoms t)
unfolding task_atoms
length-task_atoms t = omega (
  arith,
  length-append (map Fluent (fluent_atoms t)) (map Complement (watched_atoms t)),
  length-map (fluent_atoms t) Fluent,
  length-map (watched_atoms t) Complement,
)

-- the counts together
pub task_atoms_sum : (t : PlainTyped) → length (task_atoms t) ≡ sum (map length (atom_blocks t)) + sum (map length (watched_blocks t))
task_atoms_sum t = omega (arith, length-task_atoms t, atoms_sum t, watched_sum t)

pub few_watched : (t : PlainTyped) → IsSound t → sum (map length (watched_blocks t)) ≤ 2 ^ 100
few_watched t sound = few_blocks (watched_at t) (λ q. ArePlaces q.places) (λ n q places. each n q places (is_watched t n) (is_fluent t n)) t.predicates sound.predicates sound.few_predicates
  where
    each : (n : ℕ) (q : PlainTypedPredicate) → ArePlaces q.places → (b c : Bool) → length (cond b (cond c (atoms_of n q) []) []) ≤ 2 ^ 80
    each n q places true true = length-few n q places
    each n q places true false = omega arith
    each n q places false c = omega arith

-- the count of one predicate more
module _ (t : PlainTyped) (counts : List ℕ) (marks : List Bool) (are : counts ≡ map length (atom_blocks t)) (marked : marks ≡ watched_marks t) (i : ℕ) where
  pub long_counts : length counts ≡ length t.predicates
  long_counts = ap length are ∙ length-map (atom_blocks t) (λ (b : List PlainGroundAtom). length b)
      ∙ length-map (numbered 0 t.predicates) (λ (x : ℕ × PlainTypedPredicate). if is_fluent t x.0 then atoms_of x.0 x.1 else []) ∙ length-numbered 0 t.predicates

  pub complement_counts_more : (count : ℕ) (mark : Bool) (old new : List ℕ) → i < length counts → count ≡ get_or counts i count → mark ≡ get_or marks i mark
      → old ≡ take i (map length (watched_blocks t)) → new ≡ old ++ (cond mark count 0) ∷ [] → new ≡ take (i + 1) (map length (watched_blocks t))
  complement_counts_more count mark old new within is read before more =
      let q = place_within t.predicates i (omega (arith, within, long_counts)) in
      let f : ℕ × PlainTypedPredicate → List PlainGroundAtom = watched_at t in
      let block : slice_get (watched_blocks t) i ≡ Some (watched_at t (i, q.0)) =
      slice_get-map f (numbered 0 t.predicates) i ∙ ap (option_map f) (numbered_at 0 t.predicates i q.0 q.1) ∙ ap (λ k. Some (watched_at t (k, q.0))) (zero-add i) in
      let atoms : List PlainGroundAtom = if is_fluent t i then atoms_of i q.0 else [] in
      let g : ℕ × PlainTypedPredicate → List PlainGroundAtom = λ x. if is_fluent t x.0 then atoms_of x.0 x.1 else [] in
      let fluent_block : slice_get (atom_blocks t) i ≡ Some atoms =
      slice_get-map g (numbered 0 t.predicates) i ∙ ap (option_map g) (numbered_at 0 t.predicates i q.0 q.1) ∙ ap (λ k. Some (g (k, q.0))) (zero-add i) in
      let many : count ≡ length atoms =
      is ∙ ap (λ (ns : List ℕ). get_or ns i count) are ∙ get_or-map (length {A = PlainGroundAtom}) (atom_blocks t) i atoms count (slice_get_within (atom_blocks t) i atoms fluent_block)
      ∙ ap length (get_or_from_slice_get (atom_blocks t) i atoms atoms fluent_block) in
      let mark_is : mark ≡ is_watched t i = mark_read t marks i mark mark marked (omega (arith, within, long_counts)) (sym read) in
      count_more (watched_blocks t) i (cond mark count 0) (watched_at t (i, q.0)) old new block before more
      (ap₂ (λ b n. cond b n 0) mark_is many ∙ counted (is_watched t i) atoms)
    where
      counted : (b : Bool) (atoms : List PlainGroundAtom) → cond b (length atoms) 0 ≡ length (cond b atoms [])
      counted true atoms = refl
      counted false atoms = refl

  pub complement_counts_all : (new : List ℕ) → length counts ≤ i → new ≡ take i (map length (watched_blocks t)) → new ≡ map length (watched_blocks t)
  complement_counts_all new past so_far =
      so_far ∙ take_all i (map length (watched_blocks t)) (omega (
        arith,
        past,
        long_counts,
        length-map (watched_blocks t) (λ (b : List PlainGroundAtom). length b),
        length-map (numbered 0 t.predicates) (watched_at t),
        length-numbered 0 t.predicates,
      ))

-- ---- where the complements stand

-- the items at which a test passes, and their places
module _ {A : Type 0} (p : A → Bool) where
  length-places : (b : ℕ) (xs : List A) → length (places_of p b xs) ≡ length (filter p xs)
  length-places b [] = refl
  length-places b (x ∷ xs) = by (p x) (length-places (b + 1) xs)
    where
      by : (c : Bool) → length (places_of p (b + 1) xs) ≡ length (filter p xs) → length (cond c (record { 0 = b } ∷ places_of p (b + 1) xs) (places_of p (b + 1) xs)) ≡ length (cond c (x ∷ filter p xs) (filter p xs))
      by true more = ap suc more
      by false more = more

  -- the k-th place is that of the k-th item
  record IsPlaced (b : ℕ) (xs : List A) (k : ℕ) (n : AtomId) : Type 0 where
    place : ℕ
    numbered : n.0 ≡ b + place
    item : A
    there : slice_get xs place ≡ Some item
    kept : slice_get (filter p xs) k ≡ Some item

  placed : (b : ℕ) (xs : List A) (k : ℕ) (n : AtomId) → slice_get (places_of p b xs) k ≡ Some n → IsPlaced b xs k n
  placed b [] k n at = absurd (none-some n at)
  placed b (x ∷ xs) k n at = by (p x) refl (λ j there. placed (b + 1) xs j n there) k at
    where
      next : (m : ℕ) → (b + 1) + m ≡ b + suc m
      next m = omega arith

      by : (c : Bool) → p x ≡ c → ((j : ℕ) → slice_get (places_of p (b + 1) xs) j ≡ Some n → IsPlaced (b + 1) xs j n) → (k : ℕ) → slice_get (cond c (record { 0 = b } ∷ places_of p (b + 1) xs) (places_of p (b + 1) xs)) k ≡ Some n → IsPlaced b (x ∷ xs) k n
      by true passes rest zero at =
          let first : n.0 ≡ b + 0 = sym (ap (λ (a : AtomId). a.0) (same_Some _ n at)) ∙ omega arith in
          record { place = 0; numbered = first; item = x; there = refl; kept = ap (λ c. slice_get (cond c (x ∷ filter p xs) (filter p xs)) 0) passes }
      by true passes rest (suc k) at =
          let more = rest k at in
          record { place = suc more.place; numbered = more.numbered ∙ next more.place; item = more.item; there = more.there; kept = ap (λ c. slice_get (cond c (x ∷ filter p xs) (filter p xs)) (suc k)) passes ∙ more.kept }
      by false passes rest k at =
          let more = rest k at in
          record { place = suc more.place; numbered = more.numbered ∙ next more.place; item = more.item; there = more.there; kept = ap (λ c. slice_get (cond c (x ∷ filter p xs) (filter p xs)) k) passes ∙ more.kept }

pub length-watched : (t : PlainTyped) → length (watched_numbers t) ≡ length (watched_atoms t)
unfolding watched_atoms
length-watched t = length-places (λ a. is_watched t a.predicate) 0 (fluent_atoms t)

-- all atoms of the task, by the numbers that are kept
pub length-kept : (t : PlainTyped) (fluents : ℕ) (watched : List AtomId) → fluents ≡ length (fluent_atoms t) → watched ≡ watched_numbers t → fluents + length watched ≡ length (task_atoms t)
length-kept t fluents watched counted listed = omega (arith, counted, ap length listed, length-watched t, length-task_atoms t)

-- a fluent atom of the task
pub fluent_base : (t : PlainTyped) (number : AtomId) → number.0 < length (fluent_atoms t) → IsBaseOf t number.0 number false
unfolding task_atoms
fluent_base t number within =
    let found = place_within (fluent_atoms t) number.0 within in
    record {
      atom = found.0;
      there = found.1;
      is = get_front (map Fluent (fluent_atoms t)) (map Complement (watched_atoms t)) number.0 (Fluent found.0) (slice_get-map Fluent (fluent_atoms t) number.0 ∙ ap (option_map Fluent) found.1);
    }

-- the complement of the atom at this place among the watched ones
pub complement_base : (t : PlainTyped) (k : ℕ) (fluent : AtomId) → slice_get (watched_numbers t) k ≡ Some fluent → IsBaseOf t (length (fluent_atoms t) + k) fluent true
unfolding task_atoms watched_atoms
complement_base t k fluent at =
    let is = placed (λ a. is_watched t a.predicate) 0 (fluent_atoms t) k fluent at in
    let number : is.place ≡ fluent.0 = omega (arith, is.numbered) in
    let behind : length (map Fluent (fluent_atoms t)) + k ≡ length (fluent_atoms t) + k = omega (arith, length-map (fluent_atoms t) Fluent) in
    record {
      atom = is.item;
      there = subst (λ n. slice_get (fluent_atoms t) n ≡ Some is.item) number is.there;
      is = subst (λ n. slice_get (task_atoms t) n ≡ Some (Complement is.item)) behind
          (get_behind (map Fluent (fluent_atoms t)) (map Complement (watched_atoms t)) k (Complement is.item) (slice_get-map Complement (watched_atoms t) k ∙ ap (option_map Complement) is.kept));
    }
