-- Marks of types by their numbers, and the types that lie below them.
use Rattle.std.proofs.Common.{◌≡◌, ℕ, ◌<◌, ◌⊎◌, Bool, true, false, eqb, List, [], ◌∷◌, ◌++◌, length, get_or, set, Contains, refl, sym, ap, ◌∙◌, subst, inl, inr, arith}
use Rattle.std.specs.Prelude.{IsTrue, ◌↔◌}
use Rattle.std.specs.List.{Any}
use Rattle.std.proofs.lemmas.Bool.{true≢false, eqb-true, eqb-false}
use Rattle.std.proofs.lemmas.List.{get_or-set_other, get_or-set_same, length-set, map_push}
use Rattle.std.proofs.lemmas.List.Elements.{Contains-append_left, Contains-push, Contains-push_cases}
use Rattle.pddl_reader.specs.Forms.{Word}
use Rattle.pddl_reader.specs.Values.{PlainDomain}
use Rattle.type_check.specs.Types.{object_type, texts, type_names, place_in, LiesUnder}
use Rattle.type_check.specs.Chains.{LeadsTo, MeetsMark, AreMarks, IsNumberAmong, type_parents}
use Rattle.type_check.proofs.NameLaws.{place-same}
use Rattle.type_check.proofs.TypeLaws.{above_known, leads_by_names, leads_by_numbers, number_within, object_first, object_known}

module _ (d : PlainDomain) where
  module _ (words : List Word) (w : Word) where
    among_more : (k : ℕ) → IsNumberAmong d words k → IsNumberAmong d (words ++ w ∷ []) k
    among_more k (t, there, known, is) =
        (t, subst (λ ts. Contains ts t) (sym (map_push (λ (v : Word). v.text) words w)) (Contains-append_left (texts words) (w.text ∷ []) t there), known, is)

    among_here : (k : ℕ) → Contains (type_names d) w.text → k ≡ place_in (type_names d) w.text → IsNumberAmong d (words ++ w ∷ []) k
    among_here k known is = (w.text, subst (λ ts. Contains ts w.text) (sym (map_push (λ (v : Word). v.text) words w)) (Contains-push (texts words) w.text), known, is)

    among_cases : (k : ℕ) → IsNumberAmong d (words ++ w ∷ []) k → IsNumberAmong d words k ⊎ (Contains (type_names d) w.text × (k ≡ place_in (type_names d) w.text))
    among_cases k (t, there, known, is) = by (Contains-push_cases (texts words) w.text t (subst (λ ts. Contains ts t) (map_push (λ (v : Word). v.text) words w) there))
      where
        by : Contains (texts words) t ⊎ (w.text ≡ t) → IsNumberAmong d words k ⊎ (Contains (type_names d) w.text × (k ≡ place_in (type_names d) w.text))
        by (inl before) = inl (t, before, known, is)
        by (inr same) = inr (subst (Contains (type_names d)) (sym same) known, is ∙ ap (place_in (type_names d)) (sym same))

    -- one more word, which is a type or none
    pub mark_more : (marks : List Bool) (at : ℕ) → AreMarks d words marks → Contains (type_names d) w.text → at ≡ place_in (type_names d) w.text → AreMarks d (words ++ w ∷ []) (set marks at true)
    mark_more marks at are known is = record { each = length-set marks at true ∙ are.each; marked = λ k. by k (eqb k at) refl }
      where
        within : at < length marks
        within = omega (arith, is, are.each, number_within d w.text known)

        by : (k : ℕ) (b : Bool) → eqb k at ≡ b → IsTrue (get_or (set marks at true) k false) ↔ IsNumberAmong d (words ++ w ∷ []) k
        by k true e = (
          λ marked. among_here k known (eqb-true k at e ∙ is),
          λ there. ap (λ i. get_or (set marks at true) i false) (eqb-true k at e) ∙ get_or-set_same marks at true false within,
        )
        by k false e =
            let kept : get_or (set marks at true) k false ≡ get_or marks k false = get_or-set_other marks at k true false (eqb-false k at e) in (
              λ marked. among_more k ((are.marked k).0 (sym kept ∙ marked)),
              λ there. kept ∙ (are.marked k).1 (before (among_cases k there)),
            )
          where
            before : IsNumberAmong d words k ⊎ (Contains (type_names d) w.text × (k ≡ place_in (type_names d) w.text)) → IsNumberAmong d words k
            before (inl there) = there
            before (inr (_, here)) = absurd (eqb-false k at e (here ∙ sym is))

    pub mark_none : (marks : List Bool) → AreMarks d words marks → (Contains (type_names d) w.text → ⊥) → AreMarks d (words ++ w ∷ []) marks
    mark_none marks are unknown = record { each = are.each; marked = λ k. (λ marked. among_more k ((are.marked k).0 marked), λ there. (are.marked k).1 (before k (among_cases k there))) }
      where
        before : (k : ℕ) → IsNumberAmong d words k ⊎ (Contains (type_names d) w.text × (k ≡ place_in (type_names d) w.text)) → IsNumberAmong d words k
        before k (inl there) = there
        before k (inr (known, _)) = absurd (unknown known)

  module _ (words : List Word) (marks : List Bool) (are : AreMarks d words marks) where
    some_under : (s t : List ℕ) → Contains (texts words) t → LiesUnder d s t → Any (LiesUnder d s) (texts words)
    some_under s t (i, less, is) under = (i, t, less, is, under)

    -- where `object` is marked, all types lie below a word
    pub under_object : IsTrue (get_or marks 0 false) → (s : List ℕ) → Any (LiesUnder d s) (texts words)
    under_object marked s =
        let there = (are.marked 0).0 marked in
        let same : there.0 ≡ object_type = place-same (type_names d) there.0 object_type there.2 (object_known d) (sym there.3 ∙ sym (object_first d)) in
        some_under s there.0 there.1 (inl same)

    -- else those alone whose chains meet a mark
    pub meets_under : get_or marks 0 false ≡ false → (s : List ℕ) → Contains (type_names d) s → MeetsMark (type_parents d) marks (place_in (type_names d) s) ↔ Any (LiesUnder d s) (texts words)
    meets_under none s known = (down, λ (i, t, less, is, under). up i t less is under)
      where
        down : MeetsMark (type_parents d) marks (place_in (type_names d) s) → Any (LiesUnder d s) (texts words)
        down (k, way, marked) =
            let there = (are.marked k).0 marked in
            some_under s there.0 there.1 (inr (leads_by_numbers d s there.0 known there.2 (subst (LeadsTo (type_parents d) (place_in (type_names d) s)) there.3 way)))

        up : (i : ℕ) (t : List ℕ) → i < length (texts words) → get_or (texts words) i t ≡ t → LiesUnder d s t → MeetsMark (type_parents d) marks (place_in (type_names d) s)
        up i t less is (inl same) =
            let marked = (are.marked 0).1 (t, (i, less, is), subst (Contains (type_names d)) (sym same) (object_known d), sym (object_first d) ∙ ap (place_in (type_names d)) (sym same)) in
            absurd (true≢false (sym marked ∙ none))
        up i t less is (inr way) =
            let known_t = above_known d way.0 s t known way.1 in
            (place_in (type_names d) t, leads_by_names d s t known way, (are.marked (place_in (type_names d) t)).1 (t, (i, less, is), known_t, refl))
