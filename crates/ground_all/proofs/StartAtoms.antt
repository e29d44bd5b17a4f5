-- The initial atoms are typed: their predicates are declared, and their objects fit.
use Rattle.std.proofs.Common.{◌≡◌, ℕ, suc, ◌<◌, Bool, true, false, cond, List, [], ◌∷◌, ◌++◌, length, map, get_or, codes, ap, Option, Some, None, slice_get, refl, sym, ◌∙◌, subst, arith}
use Rattle.std.specs.List.{All, Any, Contains}
use Rattle.std.specs.Str.{bytes_eq}
use Rattle.std.proofs.lemmas.Bool.{false_from_ne_true}
use Rattle.std.proofs.lemmas.Slice.Eq.{bytes_eq-Decides}
use Rattle.pddl_reader.specs.Kinds.{Start}
use Rattle.pddl_reader.specs.Classes.{head_feature}
use Rattle.std.proofs.lemmas.List.{length-map}
use Rattle.std.proofs.lemmas.List.Elements.{All-head, All-tail, All-map}
use Rattle.std.proofs.lemmas.Option.{none-some, slice_get_within, get_or_from_slice_get}
use Rattle.grd_base.specs.declared.roles.FileRole.TheVariants.{Problem}
use Rattle.pddl_reader.specs.Forms.{Word}
use Rattle.pddl_reader.specs.Values.{PlainTypedName, PlainTerm, PlainLiteral, PlainPredicate, PlainDomain, PlainProblem}
use Rattle.pddl_reader.specs.Values.PlainTerm.{Variable, Constant}
use Rattle.pddl_reader.specs.Sections.{Pairwise}
use Rattle.type_check.specs.declared.faults.TypeKind.TheVariants.{UnknownName, UnboundVariable, WrongType}
use Rattle.type_check.specs.Types.{texts, names_of, first_type, place_in, LiesUnder, FitsTypes}
use Rattle.type_check.specs.Checks.{Check, OneOf, Fits, Passes, fault_at}
use Rattle.type_check.specs.Rules.{predicate_names, find_predicate, find_name, equality, fit_checks, literal_checks, all_objects, IsWellTyped}
use Rattle.type_check.specs.Values.{PlainTyped}
use Rattle.type_check.specs.Typing.{ObjectFits, ArePlaces as ArePlacesOf, IsTypedPredicate, IsTyped, term_name, ground_atom}
use Rattle.type_check.specs.Ground.{FitPlaces, IsTypedAtom}
use Rattle.type_check.proofs.Passed.{init_pass}
use Rattle.type_check.proofs.NameLists.{contains_none, place_within, name_found}
use Rattle.type_check.proofs.Pairs.{pairs_at}
use Rattle.ground_all.proofs.SeenLiterals.{something, TermPasses, literal_seen}

-- an object that was read has a type
abbrev pub HasType : PlainTypedName → Type 0
HasType n = 0 < length n.types

-- the type of an object whose types fit lies under one of the others
type_fits : (d : PlainDomain) (types : List Word) (others : List (List ℕ)) → 0 < length types → FitsTypes d (texts types) others → Any (LiesUnder d (first_type types)) others
type_fits d [] others some fits = absurd (omega arith)
type_fits d (t ∷ types) others some fits = All-head (λ s. Any (LiesUnder d s) others) t.text (texts types) fits

holds_at : {X : Type 0} (P : X → Type 0) (xs : List X) (k : ℕ) (x : X) → All P xs → slice_get xs k ≡ Some x → P x
holds_at P xs k x all at = subst P (get_or_from_slice_get xs k x x at) (all k x (slice_get_within xs k x at))

-- ---- predicates

-- an atom of the start is no equality
no_equality : (text : List ℕ) → head_feature Start text ≡ None → codes "=" ≡ text → ⊥
no_equality text plain same = none-some _ (sym (subst (λ w. head_feature Start w ≡ None) (sym same) plain))

-- a predicate that is found and no equality is declared
declared_seen : (predicates : List PlainPredicate) (text : List ℕ) (q : PlainPredicate) → (codes "=" ≡ text → ⊥) → find_predicate (predicates ++ equality ∷ []) text ≡ Some q
    → slice_get predicates (place_in (predicate_names predicates) text) ≡ Some q
unfolding equality
declared_seen [] text q other found = absurd (none-some q (sym (ap (λ b. cond b (Some equality) None) (false_from_ne_true (bytes_eq (codes "=") text) (λ e. other ((bytes_eq-Decides (codes "=") text).0 e)))) ∙ found))
declared_seen (p ∷ predicates) text q other found = by (bytes_eq p.name.text text) found (declared_seen predicates text q other)
  where
    by : (b : Bool) → cond b (Some p) (find_predicate (predicates ++ equality ∷ []) text) ≡ Some q
        → (find_predicate (predicates ++ equality ∷ []) text ≡ Some q → slice_get predicates (place_in (predicate_names predicates) text) ≡ Some q)
        → slice_get (p ∷ predicates) (cond b 0 (suc (place_in (predicate_names predicates) text))) ≡ Some q
    by true found rest = found
    by false found rest = rest found

module _ (d : PlainDomain) (p : PlainProblem) (typed : All HasType (all_objects d p)) where
  abbrev number : PlainTerm → ℕ
  number t = place_in (names_of (all_objects d p)) (term_name t)

  abbrev Fitting : PlainTerm → PlainTypedName → Type 0
  Fitting t place = TermPasses d Problem [] (all_objects d p) t place

  object_fits : (w : Word) (place : PlainTypedName) → Contains (names_of (all_objects d p)) w.text → (found : Option PlainTypedName) → find_name (all_objects d p) w.text ≡ found
      → All (Passes d) (fit_checks Problem w found place) → ObjectFits d p place.types (place_in (names_of (all_objects d p)) w.text)
  object_fits w place has None is h =
      let within : place_in (names_of (all_objects d p)) w.text < length (all_objects d p) =
      omega (arith, place_within (names_of (all_objects d p)) w.text has, length-map (all_objects d p) (λ (n : PlainTypedName). n.name.text)) in
      absurd (something (all_objects d p) (place_in (names_of (all_objects d p)) w.text) within (sym (name_found (all_objects d p) w.text has) ∙ is))
  object_fits w place has (Some o) is h =
      let at = sym (name_found (all_objects d p) w.text has) ∙ is in
      let fits : Check = record { need = Fits (texts o.types) (texts place.types); fault = fault_at WrongType Problem w.at } in
      (o, at, type_fits d o.types (texts place.types) (holds_at HasType (all_objects d p) (place_in (names_of (all_objects d p)) w.text) o typed at) (All-head (Passes d) fits [] h))

  term_fits : (t : PlainTerm) (place : PlainTypedName) → Fitting t place → ObjectFits d p place.types (number t)
  term_fits (Variable w) place h =
      let bound : Check = record { need = OneOf [] w.text; fault = fault_at UnboundVariable Problem w.at } in
      absurd (contains_none w.text (All-head (Passes d) bound (fit_checks Problem w (find_name [] w.text) place) h.passes))
  term_fits (Constant w) place h =
      let known : Check = record { need = OneOf (names_of (all_objects d p)) w.text; fault = fault_at UnknownName Problem w.at } in
      let found = find_name (all_objects d p) w.text in
      let rest = fit_checks Problem w found place in
      object_fits w place (All-head (Passes d) known rest h.passes) found refl (All-tail (Passes d) known rest h.passes)

  terms_fit : (terms : List PlainTerm) (parameters : List PlainTypedName) (places : List (List ℕ)) → Pairwise Fitting terms parameters → ArePlacesOf d p parameters places → FitPlaces places (map number terms)
  terms_fit [] [] [] h are = tt
  terms_fit [] [] (place ∷ places) h are = absurd are
  terms_fit [] (n ∷ parameters) places h are = absurd h
  terms_fit (t ∷ terms) [] places h are = absurd h
  terms_fit (t ∷ terms) (n ∷ parameters) [] h are = absurd are
  terms_fit (t ∷ terms) (n ∷ parameters) (place ∷ places) h are = ((are.0.fit (number t)).1 (term_fits t n h.0), terms_fit terms parameters places h.1 are.1)

  pub init_typed : IsWellTyped d p → All (λ l. head_feature Start l.predicate.text ≡ None) p.init → (t : PlainTyped) → IsTyped d p t → All (IsTypedAtom t) t.init
  init_typed well plain t made =
      subst (All (IsTypedAtom t)) (sym made.init)
      (All-map (IsTypedAtom t) (ground_atom d p) p.init (λ k l within. atom_typed (get_or p.init k l) (init_pass d p well k l within) (plain k l within)))
    where
      atom_typed : (l : PlainLiteral) → All (Passes d) (literal_checks Problem d [] (all_objects d p) l) → head_feature Start l.predicate.text ≡ None → IsTypedAtom t (ground_atom d p l)
      atom_typed l h plain =
          let seen = literal_seen d Problem [] (all_objects d p) l h in
          let there = declared_seen d.predicates l.predicate.text seen.predicate (no_equality l.predicate.text plain) seen.there in
          let at = pairs_at (IsTypedPredicate d p) d.predicates t.predicates _ seen.predicate made.predicates there in
          record { predicate = at.0; there = at.1; fit = terms_fit l.terms seen.predicate.parameters at.0.places seen.terms at.2.places }
