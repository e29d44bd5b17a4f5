-- What the checks of a literal tell of its predicate and of its terms.
use Rattle.std.proofs.Common.{◌≡◌, ℕ, zero, suc, ◌<◌, List, [], ◌∷◌, length, Option, Some, None, slice_get, refl, sym, ◌∙◌, arith}
use Rattle.std.specs.List.{All, Contains}
use Rattle.std.proofs.lemmas.List.{length-map}
use Rattle.std.proofs.lemmas.List.Elements.{All-head, All-tail, All-map}
use Rattle.grd_base.specs.declared.roles.FileRole.{FileRole}
use Rattle.pddl_reader.specs.Values.{PlainTypedName, PlainTerm, PlainLiteral, PlainPredicate, PlainDomain}
use Rattle.pddl_reader.specs.Values.PlainTerm.{Variable, Constant}
use Rattle.pddl_reader.specs.Sections.{Pairwise}
use Rattle.type_check.specs.declared.faults.TypeKind.TheVariants.{UnknownPredicate, WrongCount, UnboundVariable}
use Rattle.type_check.specs.Types.{names_of, place_in}
use Rattle.type_check.specs.Checks.{Check, OneOf, SameCount, Passes, fault_at}
use Rattle.type_check.specs.Rules.{predicate_names, known_predicates, find_predicate, find_name, fit_checks, term_checks, terms_checks, fitting_checks, literal_checks}
use Rattle.type_check.specs.Typing.{typed_term, typed_literal}
use Rattle.type_check.proofs.Passed.{all_left, all_right}
use Rattle.type_check.proofs.NameLists.{place_within, predicate_found}
use Rattle.type_check.proofs.Pairs.{pairs_tell}
use Rattle.ground_all.specs.Sound.{IsTermOf, IsLiteralOf}

-- the term passes at a place of the parameter's types
pub record TermPasses (d : PlainDomain) (file : FileRole) (parameters objects : List PlainTypedName) (t : PlainTerm) (place : PlainTypedName) : Type 0 where
  pub passes : All (Passes d) (term_checks file parameters objects t place)

-- the literal's predicate is declared, or it is an equality; and each term passes at its place
pub record IsSeen (d : PlainDomain) (file : FileRole) (parameters objects : List PlainTypedName) (l : PlainLiteral) : Type 0 where
  pub predicate : PlainPredicate
  pub there : find_predicate (known_predicates d) l.predicate.text ≡ Some predicate
  pub terms : Pairwise (TermPasses d file parameters objects) l.terms predicate.parameters

pub something : {X : Type 0} (xs : List X) (k : ℕ) → k < length xs → slice_get xs k ≡ None → ⊥
something [] k within none = omega arith
something (x ∷ xs) zero within none = cc
something (x ∷ xs) (suc k) within none = something xs k (omega arith) none

module _ (d : PlainDomain) (file : FileRole) (parameters objects : List PlainTypedName) where
  terms_pass : (terms : List PlainTerm) (places : List PlainTypedName) → length terms ≡ length places
      → All (Passes d) (terms_checks file parameters objects terms places) → Pairwise (TermPasses d file parameters objects) terms places
  terms_pass [] [] same h = tt
  terms_pass [] (place ∷ places) same h = absurd (omega arith)
  terms_pass (t ∷ terms) [] same h = absurd (omega arith)
  terms_pass (t ∷ terms) (place ∷ places) same h =
      let here = term_checks file parameters objects t place in
      let rest = terms_checks file parameters objects terms places in
      (record { passes = all_left (Passes d) here rest h }, terms_pass terms places (omega arith) (all_right (Passes d) here rest h))

  seen_by : (l : PlainLiteral) → Contains (predicate_names (known_predicates d)) l.predicate.text → (found : Option PlainPredicate) → find_predicate (known_predicates d) l.predicate.text ≡ found
      → All (Passes d) (fitting_checks file parameters objects l found) → IsSeen d file parameters objects l
  seen_by l has None is h =
      let within : place_in (predicate_names (known_predicates d)) l.predicate.text < length (known_predicates d) =
      omega (arith, place_within (predicate_names (known_predicates d)) l.predicate.text has, length-map (known_predicates d) (λ (q : PlainPredicate). q.name.text)) in
      absurd (something (known_predicates d) (place_in (predicate_names (known_predicates d)) l.predicate.text) within (sym (predicate_found (known_predicates d) l.predicate.text has) ∙ is))
  seen_by l has (Some q) is h =
      let count : Check = record { need = SameCount (length l.terms) (length q.parameters); fault = fault_at WrongCount file l.predicate.at } in
      let terms = terms_checks file parameters objects l.terms q.parameters in
      record {
        predicate = q;
        there = is;
        terms = terms_pass l.terms q.parameters (All-head (Passes d) count terms h) (All-tail (Passes d) count terms h);
      }

  pub literal_seen : (l : PlainLiteral) → All (Passes d) (literal_checks file d parameters objects l) → IsSeen d file parameters objects l
  literal_seen l h =
      let declared : Check = record { need = OneOf (predicate_names (known_predicates d)) l.predicate.text; fault = fault_at UnknownPredicate file l.predicate.at } in
      let found = find_predicate (known_predicates d) l.predicate.text in
      let rest = fitting_checks file parameters objects l found in
      seen_by l (All-head (Passes d) declared rest h) found refl (All-tail (Passes d) declared rest h)

  -- a variable is one of the parameters
  term_within : (t : PlainTerm) (place : PlainTypedName) → TermPasses d file parameters objects t place → IsTermOf (length parameters) (typed_term (names_of parameters) (names_of objects) t)
  term_within (Variable w) place h =
      let bound : Check = record { need = OneOf (names_of parameters) w.text; fault = fault_at UnboundVariable file w.at } in
      let has : Contains (names_of parameters) w.text = All-head (Passes d) bound (fit_checks file w (find_name parameters w.text) place) h.passes in
      omega (arith, place_within (names_of parameters) w.text has, length-map parameters (λ (n : PlainTypedName). n.name.text))
  term_within (Constant w) place h = tt

  pub literal_within : (l : PlainLiteral) → All (Passes d) (literal_checks file d parameters objects l)
      → IsLiteralOf (length parameters) (typed_literal d (names_of parameters) (names_of objects) l)
  literal_within l h =
      let seen = literal_seen l h in
      All-map (IsTermOf (length parameters)) (typed_term (names_of parameters) (names_of objects)) l.terms
      (pairs_tell (TermPasses d file parameters objects) (λ t. IsTermOf (length parameters) (typed_term (names_of parameters) (names_of objects) t)) term_within
      l.terms seen.predicate.parameters seen.terms)
