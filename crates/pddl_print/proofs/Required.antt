-- The requirements of a domain, one by one, and what tells them.
use Rattle.std.proofs.Common.{◌≡◌, ℕ, Bool, true, false, List, [], ◌∷◌, ◌++◌, sym, codes}
use Rattle.std.specs.Prelude.{All, if◌then◌else◌}
use Rattle.std.specs.Str.{bytes_eq}
use Rattle.std.proofs.lemmas.Bool.Decides.{same_from_decides}
use Rattle.std.proofs.lemmas.Slice.Eq.{bytes_eq-Decides}
use Rattle.std.proofs.lemmas.List.Elements.{All-nil, All-cons}
use Rattle.pddl_reader.specs.Values.{PlainSchema}
use Rattle.pddl_reader.specs.Classes.{is_equality}
use Rattle.pddl_print.specs.Canonical.{is_negated_atom, is_of_equality, has_precondition, requirements}

-- each that may be there has the property
pub all_requirements : (P : List ℕ → Type 0) → P (codes ":strips") → P (codes ":typing") → P (codes ":negative-preconditions") → P (codes ":equality")
    → (actions : List PlainSchema) → All P (requirements actions)
all_requirements P strips typing negative equality actions =
    let negated = has_precondition is_negated_atom actions in
    let equal = has_precondition is_of_equality actions in
    let asked : List (List ℕ) = (if negated then codes ":negative-preconditions" ∷ [] else []) ++ (if equal then codes ":equality" ∷ [] else []) in
    All-cons P (codes ":strips") (codes ":typing" ∷ asked) strips (All-cons P (codes ":typing") asked typing (all_asked negated equal))
  where
    all_asked : (negated equal : Bool) → All P ((if negated then codes ":negative-preconditions" ∷ [] else []) ++ (if equal then codes ":equality" ∷ [] else []))
    all_asked true true = All-cons P (codes ":negative-preconditions") (codes ":equality" ∷ []) negative (All-cons P (codes ":equality") [] equality (All-nil P))
    all_asked true false = All-cons P (codes ":negative-preconditions") [] negative (All-nil P)
    all_asked false true = All-cons P (codes ":equality") [] equality (All-nil P)
    all_asked false false = All-nil P

-- the sign of an equality, compared from the other side
pub is_sign : (text : List ℕ) → bytes_eq text (codes "=") ≡ is_equality text
is_sign text =
    let back = bytes_eq-Decides (codes "=") text in
    same_from_decides (bytes_eq text (codes "=")) (is_equality text) (bytes_eq-Decides text (codes "=")) (λ h. sym (back.0 h), λ e. back.1 (sym e))
