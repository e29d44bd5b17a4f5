-- A list of words begins with an item in at most one way, and is items in at most one way.
use Rattle.std.proofs.Common.{◌≡◌, ◌≢◌, ◌⊎◌, ℕ, ◌+◌, ◌-◌, ◌<◌, ◌≤◌, List, [], ◌∷◌, ◌++◌, length, get_or, take, drop, map, refl, sym, ◌∙◌, ap, subst, inl, inr, arith, append_assoc, length-append, length-drop, Some, slice_get}
use mathlib.Core.Path.{ap₂}
use Rattle.std.specs.Prelude.{AllPairs}
use Rattle.std.specs.List.{All, Contains}
use Rattle.std.proofs.Math.Seq.{get_or-append_seam, take-add}
use Rattle.std.proofs.lemmas.List.{append-nil, get_or_append_left, get_or_default, drop_more, drop-map, take_rest, take-append-drop, length-take-le}
use Rattle.std.proofs.lemmas.List.Elements.{All-contains, All-push, Contains-append_right}
use Rattle.std.proofs.lemmas.List.Quantifiers.{all_pairs_push}
use Rattle.command_words.specs.declared.command.Command.{Command}
use Rattle.command_words.specs.declared.command.OptionName.{OptionName}
use Rattle.command_words.specs.declared.words.Item.{Item as ReadItem}
use Rattle.command_words.specs.declared.words.Front.{Front}
use Rattle.command_words.specs.declared.words.FrontFault.{FrontFault}
use Rattle.command_words.specs.declared.words.FrontFault.TheVariants.{First, Second, Repeated}
use Rattle.command_words.specs.Commands.{Item, HasFaultAt, IsFirstBad, IsSecondBad, IsFirstRepeated, IsUsageFault, command_text, IsItem, AreItems, AreItemsOf, NotGiven, options_of, flag_of, joined_of}
use Rattle.command_words.specs.Words.{item_of, items_of, usage_fault_of, IsFront, IsFrontFault}
use Rattle.command_words.proofs.WordsTable.{same_option, same_joined_option, same_joined_value, flag_not_joined}

-- so many of the words are items of the command
pub record AreRead (command : Command) (words : List (List ℕ)) (at : ℕ) (items : List Item) : Type 0 where
  pub within : at ≤ length words
  pub good : AreItemsOf command (take at words) items

-- the words begin with the item, and the rest stands behind it
pub record Begins (words : List (List ℕ)) (item : Item) (rest : List (List ℕ)) : Type 0 where
  pub front : List (List ℕ)
  pub whole : words ≡ front ++ rest
  pub is_item : IsItem front item

-- two items with the same option and value are the same
same_item : (i j : Item) → i.name ≡ j.name → i.value ≡ j.value → i ≡ j
same_item i j n v = let join : OptionName → List ℕ → Item = λ n v. record { name = n; value = v } in ap₂ join n v

-- the words begin with at most one item
pub item_once : (words : List (List ℕ)) (i j : Item) (r s : List (List ℕ)) → Begins words i r → Begins words j s → (i ≡ j) × (r ≡ s)
item_once words i j r s bi bj = each bi.is_item.1 bj.is_item.1
  where
    each : (bi.front ≡ flag_of i.name ∷ i.value ∷ []) ⊎ (bi.front ≡ joined_of i.name i.value ∷ []) → (bj.front ≡ flag_of j.name ∷ j.value ∷ []) ⊎ (bj.front ≡ joined_of j.name j.value ∷ []) → (i ≡ j) × (r ≡ s)
    each (inl x) (inl y) =
        let e : flag_of i.name ∷ i.value ∷ r ≡ flag_of j.name ∷ j.value ∷ s = ap (λ f. f ++ r) (sym x) ∙ sym bi.whole ∙ bj.whole ∙ ap (λ f. f ++ s) y in
        let flags : flag_of i.name ≡ flag_of j.name = cc in
        (same_item i j (same_option i.name j.name flags) (cc), cc)
    each (inl x) (inr y) =
        let e : flag_of i.name ∷ i.value ∷ r ≡ joined_of j.name j.value ∷ s = ap (λ f. f ++ r) (sym x) ∙ sym bi.whole ∙ bj.whole ∙ ap (λ f. f ++ s) y in
        let heads : flag_of i.name ≡ joined_of j.name j.value = cc in
        absurd (flag_not_joined i.name j.name j.value heads)
    each (inr x) (inl y) =
        let e : joined_of i.name i.value ∷ r ≡ flag_of j.name ∷ j.value ∷ s = ap (λ f. f ++ r) (sym x) ∙ sym bi.whole ∙ bj.whole ∙ ap (λ f. f ++ s) y in
        let heads : flag_of j.name ≡ joined_of i.name i.value = cc in
        absurd (flag_not_joined j.name i.name i.value heads)
    each (inr x) (inr y) =
        let e : joined_of i.name i.value ∷ r ≡ joined_of j.name j.value ∷ s = ap (λ f. f ++ r) (sym x) ∙ sym bi.whole ∙ bj.whole ∙ ap (λ f. f ++ s) y in
        let heads : joined_of i.name i.value ≡ joined_of j.name j.value = cc in
        (same_item i j (same_joined_option i.name j.name i.value j.value heads) (same_joined_value i.name j.name i.value j.value heads), cc)

-- the items behind are those before with some more, which stand in front of the rest
pub record More (few : List Item) (rest : List (List ℕ)) (many : List Item) (behind : List (List ℕ)) : Type 0 where
  pub items : List Item
  pub words : List (List ℕ)
  pub all : many ≡ few ++ items
  pub are_items : AreItems words items
  pub whole : rest ≡ words ++ behind

more_cons : (i j : Item) (few many : List Item) (r s : List (List ℕ)) → i ≡ j → More few r many s → More (i ∷ few) r (j ∷ many) s
more_cons i j few many r s e m = record {
  items = m.items;
  words = m.words;
  all = cc (m.all);
  are_items = m.are_items;
  whole = m.whole;
}

-- of two readings of the same words one goes on where the other ends
pub compare_items : (few many : List Item) (f g r s : List (List ℕ)) → AreItems f few → AreItems g many → f ++ r ≡ g ++ s → More few r many s ⊎ More many s few r
compare_items [] many f g r s a b e = inl (record {
  items = many;
  words = g;
  all = refl;
  are_items = b;
  whole = ap (λ h. h ++ r) (sym a) ∙ e;
})
compare_items (i ∷ few) [] f g r s a b e = inr (record {
  items = i ∷ few;
  words = f;
  all = refl;
  are_items = a;
  whole = ap (λ h. h ++ s) (sym b) ∙ sym e;
})
compare_items (i ∷ few) (j ∷ many) f g r s a b e =
    let bi : Begins (f ++ r) i (a.1 ++ r) = record { front = a.0; whole = ap (λ h. h ++ r) a.2 ∙ append_assoc a.0 a.1 r; is_item = a.3 } in
    let bj : Begins (f ++ r) j (b.1 ++ s) = record { front = b.0; whole = e ∙ ap (λ h. h ++ s) b.2 ∙ append_assoc b.0 b.1 s; is_item = b.3 } in
    let same = item_once (f ++ r) i j (a.1 ++ r) (b.1 ++ s) bi bj in
    elim (compare_items few many a.1 b.1 r s a.4 b.4 same.1) [
      | inl m ↦ inl (more_cons i j few many r s same.0 m)
      | inr m ↦ inr (more_cons j i many few s r (sym same.0) m)
    ]

-- no item of the command whose option is not given before stands in front of the words
pub record Ends (command : Command) (items : List Item) (words : List (List ℕ)) : Type 0 where
  pub none : (item : Item) (rest : List (List ℕ)) → Begins words item rest → Contains (options_of command) item.name → NotGiven items item.name → ⊥

-- an option that is given in front of a list without repeats is not given behind
not_before : (few more : List Item) (item : Item) → AllPairs (λ i j. i.name ≢ j.name) (few ++ item ∷ more) → NotGiven few item.name
not_before few more item once given =
    let all : List Item = few ++ item ∷ more in
    let other : Item = record { name = item.name; value = given.0 } in
    let at : ℕ = given.1.0 in
    let behind : length few < length all = omega (arith, length-append few (item ∷ more)) in
    let at_other : get_or all at other ≡ other = get_or_append_left few (item ∷ more) other at given.1.1 ∙ given.1.2 in
    let at_item : get_or all (length few) other ≡ item = get_or-append_seam few item more other in
    let differ : (get_or all at other).name ≢ (get_or all (length few) other).name = once at (length few) other given.1.1 behind in
    differ (ap (λ i. i.name) at_other ∙ sym (ap (λ i. i.name) at_item))

-- where no item begins, no more are read
no_more : (command : Command) (few more many : List Item) (g r s : List (List ℕ)) → Ends command few r → many ≡ few ++ more → AreItems g more → r ≡ g ++ s
    → All (λ item. Contains (options_of command) item.name) many → AllPairs (λ i j. i.name ≢ j.name) many → more ≡ []
no_more command few [] many g r s ends whole are r_is options once = refl
no_more command few (item ∷ more) many g r s ends whole are r_is options once =
    let begins : Begins r item (are.1 ++ s) = record { front = are.0; whole = r_is ∙ ap (λ h. h ++ s) are.2 ∙ append_assoc are.0 are.1 s; is_item = are.3 } in
    let among : Contains many item = subst (λ all. Contains all item) (sym whole) (Contains-append_right few (item ∷ more) item (0, omega arith, refl)) in
    let Once : List Item → Type 0 = λ all. AllPairs (λ i j. i.name ≢ j.name) all in
    absurd (ends.none item (are.1 ++ s) begins (All-contains (λ i. Contains (options_of command) i.name) many item options among) (not_before few more item (subst Once whole once)))

-- what more reads is nothing, where it ends
same_more : (command : Command) (few many : List Item) (r s : List (List ℕ)) → More few r many s → Ends command few r
    → All (λ item. Contains (options_of command) item.name) many → AllPairs (λ i j. i.name ≢ j.name) many → (few ≡ many) × (r ≡ s)
same_more command few many r s more ends options once =
    let none : more.items ≡ [] = no_more command few more.items many more.words r s ends more.all more.are_items more.whole options once in
    let no_words : more.words ≡ [] = subst (AreItems more.words) none more.are_items in
    (sym (more.all ∙ ap (λ m. few ++ m) none ∙ append-nil few), more.whole ∙ ap (λ w. w ++ s) no_words)

-- the items in front of words, up to where no more can be read, are unique
pub items_once : (command : Command) (few many : List Item) (f g r s : List (List ℕ)) → AreItemsOf command f few → AreItemsOf command g many → f ++ r ≡ g ++ s
    → Ends command few r → Ends command many s → (few ≡ many) × (r ≡ s)
items_once command few many f g r s a b e ends_few ends_many =
    elim (compare_items few many f g r s a.spelled b.spelled e) [
      | inl more ↦ same_more command few many r s more ends_few b.options b.once
      | inr more ↦ let same = same_more command many few s r more ends_many a.options a.once in (sym same.0, sym same.1)
    ]

-- one word and those behind it are what stands behind the words before it
pub words_behind : {X Y : Type 0} (f : X → Y) (xs : List X) (i : ℕ) (x : X) → i < length xs → x ≡ get_or xs i x
    → f x ∷ map f (take (length xs - (i + 1)) (drop (i + 1) xs)) ≡ drop i (map f xs)
words_behind f xs i x within is =
    ap (λ y. f y ∷ map f (take (length xs - (i + 1)) (drop (i + 1) xs))) is
    ∙ ap (λ ys. f (get_or xs i x) ∷ map f ys) (take_rest xs (i + 1))
    ∙ ap (map f) (sym (drop_more xs i x within))
    ∙ sym (drop-map f i xs)

-- what is read there, in the words of the loop
pub read_here : (P : List Item → List (List ℕ) → Type 0) (here items : List ReadItem) (text word : List ℕ) (rest words : List (List ℕ))
    → here ≡ items → text ≡ word → word ∷ rest ≡ words → P (items_of here) (text ∷ rest) → P (items_of items) words
read_here P here items text word rest words same_items same_text whole h =
    subst (λ ws. P (items_of items) ws) whole (subst (λ t. P (items_of items) (t ∷ rest)) same_text (subst (λ is. P (items_of is) (text ∷ rest)) same_items h))

are_items_push : (f g : List (List ℕ)) (items : List Item) (item : Item) → AreItems f items → IsItem g item → AreItems (f ++ g) (items ++ item ∷ [])
are_items_push f g [] item are is = (g, [], ap (λ h. h ++ g) are ∙ sym (append-nil g), is, refl)
are_items_push f g (i ∷ items) item are is =
    (are.0, are.1 ++ g, ap (λ h. h ++ g) are.2 ∙ append_assoc are.0 are.1 g, are.3, are_items_push are.1 g items item are.4 is)

-- one item more is read
pub read_more : (command : Command) (words : List (List ℕ)) (at : ℕ) (items : List Item) (front : Front) → AreRead command words at items
    → IsFront command items (drop at words) front → AreRead command words (at + front.count) (items ++ item_of front.item ∷ [])
read_more command words at items front read is = record {
  within = omega (arith, read.within, is.fits, length-drop at words);
  good = record {
    spelled = rw (take-add at front.count words) (are_items_push (take at words) (take front.count (drop at words)) items item read.good.spelled is.spelled);
    options = All-push (λ i. Contains (options_of command) i.name) items item read.good.options is.option;
    once = all_pairs_push (λ i j. i.name ≢ j.name) items item read.good.once differ;
  };
}
  where
    item : Item
    item = item_of front.item

    differ : (k : ℕ) (d : Item) → k < length items → (get_or items k d).name ≢ item.name
    differ k d within same =
        let found : Item = get_or items k d in
        let other : Item = record { name = item.name; value = found.value } in
        is.fresh (found.value, (k, within, get_or_default items k other d within ∙ same_item found other same refl))

-- where no item is read on, the fault is one of all words
fault_at : (command : Command) (words : List (List ℕ)) (at : ℕ) (items : List Item) (P : Command → List Item → List (List ℕ) → Type 0) → AreRead command words at items
    → P command items (drop at words) → HasFaultAt (command_text command ∷ words) (at + 2) P
fault_at command words at items P read is = record {
  command = command;
  front = take at words;
  rest = drop at words;
  items = items;
  whole = ap (λ w. command_text command ∷ w) (sym (take-append-drop at words));
  good = read.good;
  counted = ap (λ n. n + 2) (sym (length-take-le at words read.within));
  fault = is;
}

pub front_fault : (command : Command) (words : List (List ℕ)) (at : ℕ) (items : List Item) (fault : FrontFault) → AreRead command words at items
    → IsFrontFault command items (drop at words) fault → IsUsageFault (command_text command ∷ words) (usage_fault_of fault at)
front_fault command words at items First read is = inl (fault_at command words at items (λ c _ rest. IsFirstBad c rest) read is)
front_fault command words at items Second read is = inr (at + 2, omega arith, fault_at command words at items IsSecondBad read is)
front_fault command words at items Repeated read is = fault_at command words at items IsFirstRepeated read is

-- the first word and those behind it are the words
pub first_and_rest : {X Y : Type 0} (f : X → Y) (xs : List X) (x : X) → Some x ≡ slice_get xs 0 → map f xs ≡ f x ∷ map f (take (length xs - 1) (drop 1 xs))
first_and_rest f [] x is = cc
first_and_rest f (y ∷ ys) x is =
    let same : y ≡ x = cc in
    ap (λ z. f z ∷ map f ys) same ∙ ap (λ zs. f x ∷ map f zs) (sym (take_rest (y ∷ ys) 1))
