-- The parents that entries give, by numbers.
use Rattle.std.proofs.Common.{◌≡◌, ℕ, ◌+◌, ◌-◌, ◌<◌, ◌≤◌, ◌⊎◌, false, cond, List, [], ◌∷◌, length, get_or, set, filter, drop, Option, Some, None, Contains, refl, sym, ap, ◌∙◌, inl, inr, arith}
use Rattle.std.specs.List.{IsDistinct}
use Rattle.std.specs.Option.{option_map}
use Rattle.std.specs.Str.{bytes_eq}
use Rattle.std.proofs.lemmas.Bool.{cases_eq}
use Rattle.std.proofs.lemmas.List.{get_or-map, length-map, length-set, get_or-set_same, get_or-set_other, ext_get_or, drop_more}
use Rattle.pddl_reader.specs.Values.{PlainTypedName}
use Rattle.type_check.specs.Types.{type_of, is_entry, parent_in, place_in}
use Rattle.type_check.specs.Chains.{parent_at, parents_in}
use Rattle.type_check.proofs.NameLaws.{eq-refl, eq-differs, has-Decides, place-read, place-at, place-below}

module _ (names : List (List ℕ)) where
  -- the parent of the type with this number
  pub parent_at-in : (es : List PlainTypedName) (k : ℕ) → k < length names → parent_at (parents_in names es) k ≡ option_map (place_in names) (parent_in es (get_or names k []))
  parent_at-in es k less = get_or-map (λ t. option_map (place_in names) (parent_in es t)) names k [] None less

  pub parent_at-place : (es : List PlainTypedName) (t : List ℕ) → Contains names t → parent_at (parents_in names es) (place_in names t) ≡ option_map (place_in names) (parent_in es t)
  parent_at-place es t known =
      parent_at-in es (place_in names t) (place-below names t known)
      ∙ ap (λ u. option_map (place_in names) (parent_in es u)) (place-read names t [] ((has-Decides names t).1 known))

  pub length-parents_in : (es : List PlainTypedName) → length (parents_in names es) ≡ length names
  length-parents_in es = length-map names (λ t. option_map (place_in names) (parent_in es t))

  module _ (distinct : IsDistinct bytes_eq names) (es : List PlainTypedName) (n : PlainTypedName) (known : Contains names n.name.text) where
    -- the type of the entry, and the types of other numbers
    here : parent_at (parents_in names (n ∷ es)) (place_in names n.name.text) ≡ Some (place_in names (type_of n))
    here =
        parent_at-place (n ∷ es) n.name.text known
        ∙ ap (λ b. option_map (place_in names) (cond b (Some (type_of n)) (parent_in es n.name.text))) (eq-refl n.name.text)

    elsewhere : (k : ℕ) → k < length names → (k ≡ place_in names n.name.text → ⊥) → parent_at (parents_in names es) k ≡ parent_at (parents_in names (n ∷ es)) k
    elsewhere k less differs =
        let other : n.name.text ≡ get_or names k [] → ⊥ = λ same. differs (sym (ap (place_in names) same ∙ place-at names k [] distinct less)) in
        parent_at-in es k less
        ∙ ap (λ b. option_map (place_in names) (cond b (Some (type_of n)) (parent_in es (get_or names k [])))) (sym (eq-differs n.name.text (get_or names k []) other))
        ∙ sym (parent_at-in (n ∷ es) k less)

    -- an entry more in front of the others
    pub parents-noted : set (parents_in names es) (place_in names n.name.text) (Some (place_in names (type_of n))) ≡ parents_in names (n ∷ es)
    parents-noted =
        let old = parents_in names es in
        let new = set old (place_in names n.name.text) (Some (place_in names (type_of n))) in
        let long : length new ≡ length names = length-set old (place_in names n.name.text) (Some (place_in names (type_of n))) ∙ length-parents_in es in
        ext_get_or None new (parents_in names (n ∷ es)) (long ∙ sym (length-parents_in (n ∷ es)))
        (λ k less. by k (omega (arith, less, long)) (cases_eq k (place_in names n.name.text)))
      where
        by : (k : ℕ) → k < length names → (k ≡ place_in names n.name.text) ⊎ (k ≡ place_in names n.name.text → ⊥)
            → get_or (set (parents_in names es) (place_in names n.name.text) (Some (place_in names (type_of n)))) k None ≡ get_or (parents_in names (n ∷ es)) k None
        by k less (inl same) =
            let at : place_in names n.name.text < length (parents_in names es) = omega (arith, less, same, length-parents_in es) in
            ap (λ j. get_or (set (parents_in names es) (place_in names n.name.text) (Some (place_in names (type_of n)))) j None) same
            ∙ get_or-set_same (parents_in names es) (place_in names n.name.text) (Some (place_in names (type_of n))) None at
            ∙ sym here
            ∙ sym (ap (λ j. get_or (parents_in names (n ∷ es)) j None) same)
        by k less (inr differs) =
            get_or-set_other (parents_in names es) (place_in names n.name.text) k (Some (place_in names (type_of n))) None differs ∙ elsewhere k less differs

pub none_left : {X : Type 0} (xs : List X) → drop (length xs) xs ≡ []
none_left [] = refl
none_left (x ∷ xs) = none_left xs

-- the entries from a place on, and from the next
module _ (xs : List PlainTypedName) (j : ℕ) (x : PlainTypedName) (past : 0 < j) (within : j ≤ length xs) (is : x ≡ get_or xs (j - 1) x) where
  next : drop (j - 1) xs ≡ x ∷ drop j xs
  next =
      let one : (j - 1) + 1 ≡ j = omega (arith, past) in
      drop_more xs (j - 1) x (omega (arith, past, within)) ∙ ap (λ y. y ∷ drop ((j - 1) + 1) xs) (sym is) ∙ ap (λ k. x ∷ drop k xs) one

  pub entries_kept : is_entry x ≡ false → filter is_entry (drop (j - 1) xs) ≡ filter is_entry (drop j xs)
  entries_kept entry = ap (filter is_entry) next ∙ ap (λ b. cond b (x ∷ filter is_entry (drop j xs)) (filter is_entry (drop j xs))) entry

-- an entry whose type has this number
module _ (names : List (List ℕ)) (distinct : IsDistinct bytes_eq names) (n : PlainTypedName) (known : Contains names n.name.text) (old : List (Option ℕ)) (k : ℕ) (is_number : k ≡ place_in names n.name.text) where
  pub number_within : length old ≡ length names → k < length old
  number_within same = omega (arith, is_number, same, place-below names n.name.text known)

  pub noted : (p : Option ℕ) → p ≡ Some (place_in names (type_of n)) → (es : List PlainTypedName) → old ≡ parents_in names es → set old k p ≡ parents_in names (n ∷ es)
  noted p given es is =
      ap (λ j. set old j p) is_number ∙ ap (set old (place_in names n.name.text)) given
      ∙ ap (λ ps. set ps (place_in names n.name.text) (Some (place_in names (type_of n)))) is ∙ parents-noted names distinct es n known
