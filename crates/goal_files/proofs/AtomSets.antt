-- Sets of atoms: each atom once, at its first place.
use Rattle.std.proofs.Common.{◌≡◌, ℕ, ◌+◌, ◌<◌, Bool, true, false, cond, not, ◌||◌, ◌&&◌, eqb, List, [], ◌∷◌, ◌++◌, length, map, filter, take, zero, suc, get_or, refl, sym, ap, ◌∙◌, subst, arith, append-nil}
use mathlib.Core.Path.{ap₂}
use Rattle.std.specs.List.{list_any}
use Rattle.std.specs.Str.{bytes_eq}
use Rattle.indexmap.specs.IndexSet.{insert_key}
use Rattle.std.proofs.lemmas.Bool.{eqb-true, and_from, false≢true, false_from_ne_true}
use Rattle.std.proofs.lemmas.Bool.Decides.{Decides-eqb}
use Rattle.std.proofs.lemmas.List.{map_push, take_more}
use Rattle.std.proofs.lemmas.List.Elements.{filter-append}
use Rattle.std.proofs.lemmas.Slice.Eq.{bytes_eq-Decides}
use Rattle.pddl_reader.specs.Sections.{Pairwise}
use Rattle.type_check.specs.Values.{PlainGroundAtom, PlainTyped, is_same_atom}
use Rattle.goal_files.specs.Ground.{IsAtomOf, without_repeats}
use Rattle.goal_files.specs.LineReading.{with_atom, IsGoalOf}

-- ---- keys in the place of atoms

module _ {K : Type 0} (view : K → PlainGroundAtom) (eq : K → K → Bool) (agree : (x y : K) → eq x y ≡ is_same_atom (view x) (view y)) where
  any_key : (k : K) (keys : List K) → list_any (eq k) keys ≡ list_any (is_same_atom (view k)) (map view keys)
  any_key k [] = refl
  any_key k (key ∷ keys) = ap (λ b. b || list_any (eq k) keys) (agree k key) ∙ ap (λ b. is_same_atom (view k) (view key) || b) (any_key k keys)

  -- with a key that is put in
  pub atom_added : (old new : List K) (k : K) → new ≡ insert_key eq old k → map view new ≡ with_atom (map view old) (view k)
  atom_added old new k e = ap (map view) e ∙ by_test (list_any (eq k) old) (list_any (is_same_atom (view k)) (map view old)) (any_key k old)
    where
      by_test : (b d : Bool) → b ≡ d → map view (cond b old (old ++ k ∷ [])) ≡ cond d (map view old) (map view old ++ view k ∷ [])
      by_test true true e = refl
      by_test true false e = cc
      by_test false true e = cc
      by_test false false e = map_push view old k

-- ---- atoms that are the same

and-true_both : (a b : Bool) → (a && b) ≡ true → (a ≡ true) × (b ≡ true)
and-true_both true b e = (refl, e)
and-true_both false b e = absurd (false≢true e)

same_is : (a b : PlainGroundAtom) → is_same_atom a b ≡ true → a ≡ b
same_is a b e =
    let both = and-true_both (eqb a.predicate b.predicate) (bytes_eq a.objects b.objects) e in
    let made : ℕ → List ℕ → PlainGroundAtom = λ predicate objects. record { predicate = predicate; objects = objects } in
    ap₂ made (eqb-true a.predicate b.predicate both.0) ((bytes_eq-Decides a.objects b.objects).0 both.1)

is_same : (a : PlainGroundAtom) → is_same_atom a a ≡ true
is_same a = and_from (eqb a.predicate a.predicate) (bytes_eq a.objects a.objects) ((Decides-eqb a.predicate a.predicate).1 refl) ((bytes_eq-Decides a.objects a.objects).1 refl)

same_back : (a b : PlainGroundAtom) → is_same_atom a b ≡ true → is_same_atom b a ≡ true
same_back a b e = subst (λ x. is_same_atom b x ≡ true) (sym (same_is a b e)) (is_same b)

differ_back : (a b : PlainGroundAtom) → is_same_atom a b ≡ false → is_same_atom b a ≡ false
differ_back a b e = false_from_ne_true (is_same_atom b a) (λ same. false≢true (sym e ∙ same_back b a same))

-- ---- one atom more

abbrev others : PlainGroundAtom → List PlainGroundAtom → List PlainGroundAtom
others x atoms = filter (λ b. not (is_same_atom x b)) atoms

-- among those that are not the same as another, an atom is found as among all
any_other : (a x : PlainGroundAtom) (atoms : List PlainGroundAtom) → is_same_atom x a ≡ false → list_any (is_same_atom a) (others x atoms) ≡ list_any (is_same_atom a) atoms
any_other a x [] apart = refl
any_other a x (b ∷ atoms) apart = by_test (is_same_atom x b) refl (any_other a x atoms apart)
  where
    differs : is_same_atom x b ≡ true → is_same_atom a b ≡ false
    differs same = false_from_ne_true (is_same_atom a b) (λ e. false≢true (sym apart ∙ subst (λ y. is_same_atom x y ≡ true) (sym (same_is a b e)) same))

    by_test : (v : Bool) → is_same_atom x b ≡ v → list_any (is_same_atom a) (others x atoms) ≡ list_any (is_same_atom a) atoms
        → list_any (is_same_atom a) (cond (not v) (b ∷ others x atoms) (others x atoms)) ≡ (is_same_atom a b || list_any (is_same_atom a) atoms)
    by_test true same e = e ∙ sym (ap (λ w. w || list_any (is_same_atom a) atoms) (differs same))
    by_test false other e = ap (λ w. is_same_atom a b || w) e

-- an atom behind others is left out, or stands behind
others_more : (a x : PlainGroundAtom) (kept : List PlainGroundAtom) → x ∷ others x (with_atom kept a) ≡ with_atom (x ∷ others x kept) a
others_more a x kept = by_test (is_same_atom x a) refl
  where
    -- what is left of the atom
    left : (v : Bool) → is_same_atom x a ≡ v → others x (kept ++ a ∷ []) ≡ others x kept ++ cond v [] (a ∷ [])
    left v e = filter-append (λ b. not (is_same_atom x b)) kept (a ∷ []) ∙ ap (λ l. others x kept ++ l) (one v e)
      where
        one : (v : Bool) → is_same_atom x a ≡ v → cond (not (is_same_atom x a)) (a ∷ []) [] ≡ cond v [] (a ∷ [])
        one true e = ap (λ v. cond (not v) (a ∷ []) []) e
        one false e = ap (λ v. cond (not v) (a ∷ []) []) e

    again : (v : Bool) → others x (kept ++ a ∷ []) ≡ others x kept ++ [] → x ∷ others x (cond v kept (kept ++ a ∷ [])) ≡ x ∷ others x kept
    again true e = refl
    again false e = ap (λ l. x ∷ l) (e ∙ append-nil (others x kept))

    anew : (v w : Bool) → w ≡ v → others x (kept ++ a ∷ []) ≡ others x kept ++ a ∷ []
        → x ∷ others x (cond v kept (kept ++ a ∷ [])) ≡ cond w (x ∷ others x kept) ((x ∷ others x kept) ++ a ∷ [])
    anew true true same e = refl
    anew true false same e = cc
    anew false true same e = cc
    anew false false same e = ap (λ l. x ∷ l) e

    by_test : (v : Bool) → is_same_atom x a ≡ v → x ∷ others x (with_atom kept a) ≡ with_atom (x ∷ others x kept) a
    by_test true e =
        again (list_any (is_same_atom a) kept) (left true e)
        ∙ sym (ap (λ w. cond (w || list_any (is_same_atom a) (others x kept)) (x ∷ others x kept) ((x ∷ others x kept) ++ a ∷ [])) (same_back x a e))
    by_test false e =
        anew (list_any (is_same_atom a) kept) (is_same_atom a x || list_any (is_same_atom a) (others x kept))
        (ap (λ w. w || list_any (is_same_atom a) (others x kept)) (differ_back x a e) ∙ any_other a x kept e) (left false e)

without_repeats-push : (atoms : List PlainGroundAtom) (a : PlainGroundAtom) → without_repeats (atoms ++ a ∷ []) ≡ with_atom (without_repeats atoms) a
without_repeats-push [] a = refl
without_repeats-push (x ∷ atoms) a = ap (λ l. x ∷ others x l) (without_repeats-push atoms a) ∙ others_more a x (without_repeats atoms)

-- ---- the goal of a line's atoms, one by one

abbrev Spelled : Type 0
Spelled = List (List (List ℕ))

module _ (t : PlainTyped) where
  pairs_push : (atoms : Spelled) (ground_atoms : List PlainGroundAtom) (atom : List (List ℕ)) (a : PlainGroundAtom) → Pairwise (IsAtomOf t) atoms ground_atoms → IsAtomOf t atom a → Pairwise (IsAtomOf t) (atoms ++ atom ∷ []) (ground_atoms ++ a ∷ [])
  pairs_push [] [] atom a h is = (is, tt)
  pairs_push [] (b ∷ ground_atoms) atom a h is = absurd h
  pairs_push (first ∷ atoms) [] atom a h is = absurd h
  pairs_push (first ∷ atoms) (b ∷ ground_atoms) atom a h is = (h.0, pairs_push atoms ground_atoms atom a h.1 is)

  pair_at : (atoms : Spelled) (ground_atoms : List PlainGroundAtom) (i : ℕ) (d : List (List ℕ)) → Pairwise (IsAtomOf t) atoms ground_atoms → i < length atoms → (a : PlainGroundAtom) × IsAtomOf t (get_or atoms i d) a
  pair_at [] ground_atoms i d h within = absurd (omega arith)
  pair_at (atom ∷ atoms) [] i d h within = absurd h
  pair_at (atom ∷ atoms) (a ∷ ground_atoms) zero d h within = (a, h.0)
  pair_at (atom ∷ atoms) (a ∷ ground_atoms) (suc i) d h within = pair_at atoms ground_atoms i d h.1 (omega arith)

  pub no_atoms : (old : List PlainGroundAtom) → old ≡ [] → IsGoalOf t [] old
  no_atoms old e = record { ground_atoms = []; are_atoms = tt; once = e }

  module _ (atoms : Spelled) (i : ℕ) (atom : List (List ℕ)) (here : (i < length atoms) × (atom ≡ get_or atoms i atom)) where
    pub goal_more : (old new : List PlainGroundAtom) (a : PlainGroundAtom) → IsGoalOf t (take i atoms) old → IsAtomOf t atom a → new ≡ with_atom old a → IsGoalOf t (take (i + 1) atoms) new
    goal_more old new a h is more = record {
      ground_atoms = h.ground_atoms ++ a ∷ [];
      are_atoms = subst (λ l. Pairwise (IsAtomOf t) l (h.ground_atoms ++ a ∷ [])) (sym (take_more atoms i atom here.0 ∙ ap (λ x. take i atoms ++ x ∷ []) (sym here.1)))
          (pairs_push (take i atoms) h.ground_atoms atom a h.are_atoms is);
      once = more ∙ ap (λ l. with_atom l a) h.once ∙ sym (without_repeats-push h.ground_atoms a);
    }

    pub no_goal : (ground_atoms : List PlainGroundAtom) → ((a : PlainGroundAtom) → IsAtomOf t atom a → ⊥) → Pairwise (IsAtomOf t) atoms ground_atoms → ⊥
    no_goal ground_atoms none h =
        let found = pair_at atoms ground_atoms i atom h here.0 in
        none found.0 (subst (λ x. IsAtomOf t x found.0) (sym here.1) found.1)
