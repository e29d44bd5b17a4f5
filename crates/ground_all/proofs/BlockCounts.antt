-- How many items the blocks have, one by one.
use Rattle.std.proofs.Common.{◌≡◌, ℕ, ◌+◌, ◌<◌, ◌≤◌, Bool, true, false, List, [], ◌∷◌, ◌++◌, length, map, take, get_or, Some, refl, sym, ap, ◌∙◌, zero-add, arith}
use Rattle.std.specs.Prelude.{◌==◌, slice_get, if◌then◌else◌, EachIndex}
use Rattle.std.specs.List.{list_any}
use Rattle.std.specs.Option.{option_map}
use Rattle.std.proofs.lemmas.List.{ext_get_or, length-map, get_or-map, take_more, take_all}
use Rattle.std.proofs.lemmas.Option.{slice_get-map, slice_get-get_or, slice_get_within, get_or_from_slice_get}
use Rattle.type_check.specs.Values.{PlainTyped, PlainTypedPredicate, PlainTypedSchema, PlainGroundAtom, PlainGroundName}
use Rattle.ground_all.specs.Tuples.{tuples, numbered}
use Rattle.ground_all.specs.Grounding.{is_fluent, atoms_of, names_of_schema}
use Rattle.ground_all.specs.Found.{atom_blocks, name_blocks, fluent_marks}
use Rattle.ground_all.proofs.BlockLists.{length-numbered, numbered_at, place_within}
use Rattle.ground_all.proofs.BlockLaws.{atom_block_at, name_block_at}

-- the count of one block more
pub count_more : {X : Type 0} (blocks : List (List X)) (i n : ℕ) (block : List X) (old new : List ℕ) → slice_get blocks i ≡ Some block → old ≡ take i (map length blocks) → new ≡ old ++ n ∷ [] → n ≡ length block → new ≡ take (i + 1) (map length blocks)
count_more {X} blocks i n block old new at before more is =
    let many : List X → ℕ = λ b. length b in
    let within : i < length blocks = slice_get_within blocks i block at in
    let here : get_or (map many blocks) i 0 ≡ n = get_or-map many blocks i block 0 within ∙ ap many (get_or_from_slice_get blocks i block block at) ∙ sym is in
    more ∙ ap (λ ns. ns ++ n ∷ []) before ∙ ap (λ k. take i (map many blocks) ++ k ∷ []) (sym here) ∙ sym (take_more (map many blocks) i 0 (omega (arith, length-map blocks many)))

-- the element that a loop is at
item_here : {X : Type 0} (xs ys : List X) (i : ℕ) (x : X) → xs ≡ ys → i < length xs → x ≡ get_or xs i x → slice_get ys i ≡ Some x
item_here xs ys i x same within is = ap (λ zs. slice_get zs i) (sym same) ∙ slice_get-get_or xs i x within ∙ ap (λ y. Some y) (sym is)

-- whether a predicate is fluent
pub mark_at : (t : PlainTyped) (i : ℕ) (q : PlainTypedPredicate) → slice_get t.predicates i ≡ Some q → slice_get (fluent_marks t) i ≡ Some (is_fluent t i)
mark_at t i q at =
    let f : ℕ × PlainTypedPredicate → Bool = λ x. is_fluent t x.0 in
    slice_get-map f (numbered 0 t.predicates) i ∙ ap (option_map f) (numbered_at 0 t.predicates i q at) ∙ ap (λ k. Some (is_fluent t k)) (zero-add i)

pub length-marks : (t : PlainTyped) → length (fluent_marks t) ≡ length t.predicates
length-marks t = length-map (numbered 0 t.predicates) (λ (x : ℕ × PlainTypedPredicate). is_fluent t x.0) ∙ length-numbered 0 t.predicates

-- the marks after all schemas
pub marks_all : (t : PlainTyped) (schemas : List PlainTypedSchema) → schemas ≡ t.schemas → (i : ℕ) (marks : List Bool) → length schemas ≤ i → length marks ≡ length t.predicates
    → EachIndex marks (λ k. get_or marks k false ≡ list_any (λ s. list_any (λ l. l.predicate == k) s.effect) (take i t.schemas)) → marks ≡ fluent_marks t
marks_all t schemas same i marks past long each = ext_get_or false marks (fluent_marks t) (long ∙ sym (length-marks t)) mark
  where
    mark : (k : ℕ) → k < length marks → get_or marks k false ≡ get_or (fluent_marks t) k false
    mark k within =
        let q = place_within t.predicates k (omega arith) in
        each k within ∙ ap (list_any (λ s. list_any (λ l. l.predicate == k) s.effect)) (take_all i t.schemas (omega (arith, ap length same)))
        ∙ sym (get_or_from_slice_get (fluent_marks t) k (is_fluent t k) false (mark_at t k q.0 q.1))

module _ (t : PlainTyped) (schemas : List PlainTypedSchema) (same : schemas ≡ t.schemas) (i : ℕ) where
  pub name_counts_more : (n : ℕ) (s : PlainTypedSchema) (old new : List ℕ) → i < length schemas → s ≡ get_or schemas i s → old ≡ take i (map length (name_blocks t)) → new ≡ old ++ n ∷ [] → n ≡ length (tuples s.places)
      → new ≡ take (i + 1) (map length (name_blocks t))
  name_counts_more n s old new within is before more many =
      count_more (name_blocks t) i n (names_of_schema i s) old new (name_block_at t i s (item_here schemas t.schemas i s same within is)) before more
      (many ∙ sym (length-map (tuples s.places) (λ (objects : List ℕ). let a : PlainGroundName = record { schema = i; objects = objects } in a)))

  pub name_counts_all : (counts : List ℕ) → length schemas ≤ i → counts ≡ take i (map length (name_blocks t)) → counts ≡ map length (name_blocks t)
  name_counts_all counts past so_far =
      let blocks = numbered 0 t.schemas in
      so_far ∙ take_all i (map length (name_blocks t)) (omega (arith, length-map (name_blocks t) (λ (b : List PlainGroundName). length b), length-map blocks (λ (x : ℕ × PlainTypedSchema). names_of_schema x.0 x.1), length-numbered 0 t.schemas, ap length same))

module _ (t : PlainTyped) (predicates : List PlainTypedPredicate) (same : predicates ≡ t.predicates) (i : ℕ) where
  length-atoms : (q : PlainTypedPredicate) (b : Bool) → (if b then length (tuples q.places) else 0) ≡ length (if b then atoms_of i q else [])
  length-atoms q true = sym (length-map (tuples q.places) (λ (objects : List ℕ). let a : PlainGroundAtom = record { predicate = i; objects = objects } in a))
  length-atoms q false = refl

  pub atom_counts_more : (n : ℕ) (q : PlainTypedPredicate) (b : Bool) (old new : List ℕ) → i < length predicates → q ≡ get_or predicates i q → b ≡ get_or (fluent_marks t) i b → old ≡ take i (map length (atom_blocks t)) → new ≡ old ++ n ∷ []
      → n ≡ (if b then length (tuples q.places) else 0) → new ≡ take (i + 1) (map length (atom_blocks t))
  atom_counts_more n q b old new within is marked before more many =
      let at : slice_get t.predicates i ≡ Some q = item_here predicates t.predicates i q same within is in
      let mark : b ≡ is_fluent t i = marked ∙ get_or_from_slice_get (fluent_marks t) i (is_fluent t i) b (mark_at t i q at) in
      count_more (atom_blocks t) i n (if is_fluent t i then atoms_of i q else []) old new (atom_block_at t i q at) before more
      (many ∙ length-atoms q b ∙ ap (λ (b : Bool). length (if b then atoms_of i q else [])) mark)

  pub atom_counts_all : (counts : List ℕ) → length predicates ≤ i → counts ≡ take i (map length (atom_blocks t)) → counts ≡ map length (atom_blocks t)
  atom_counts_all counts past so_far =
      let blocks = numbered 0 t.predicates in
      so_far ∙ take_all i (map length (atom_blocks t)) (omega (arith, length-map (atom_blocks t) (λ (b : List PlainGroundAtom). length b), length-map blocks (λ (x : ℕ × PlainTypedPredicate). if is_fluent t x.0 then atoms_of x.0 x.1 else []), length-numbered 0 t.predicates, ap length same))
