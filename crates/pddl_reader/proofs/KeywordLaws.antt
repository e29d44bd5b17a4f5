-- Texts and keywords: what they name, and that they differ.
use Rattle.std.proofs.Common.{◌≡◌, ◌≢◌, ℕ, Bool, true, false, not, List, [], ◌∷◌, zero, suc, ◌<◌, arith, length, get_or, refl, sym, ap, ◌∙◌, subst, inl, inr, Contains, codes, Option, Some, None, if◌then◌else◌, true≢false}
use Rattle.std.specs.List.{list_any}
use Rattle.std.specs.Str.{bytes_eq}
use Rattle.std.proofs.lemmas.Bool.{and_cases, and_parts, not-true, not-false, false_from_ne_true}
use Rattle.std.proofs.lemmas.List.Folds.{Any-from_list_any, list_any-from_Any}
use Rattle.pddl_reader.specs.Sections.{part_keyword, keyword_of}
use Rattle.pddl_reader.specs.Classes.{section_feature}
use Rattle.pddl_reader.proofs.NameLaws.{same_bytes, bytes_same, other_bytes, choice}
use Rattle.pddl_reader.specs.Reading.{part_by, kind_by, same_kind, is_repeated}
use Rattle.pddl_reader.specs.declared.kinds.SectionKind.{SectionKind}
use Rattle.pddl_reader.specs.declared.kinds.SectionKind.TheVariants.{Requirements, Types, Constants, Predicates, Action, Domain, Objects, Init, Goal}
use Rattle.pddl_reader.specs.declared.kinds.ActionPart.{ActionPart}
use Rattle.pddl_reader.specs.declared.kinds.ActionPart.TheVariants.{Parameters, Precondition, Effect}

pub Contains-first : {X : Type 0} (x : X) (xs : List X) → Contains (x ∷ xs) x
Contains-first x xs = (zero, omega arith, refl)

pub Contains-later : {X : Type 0} (y : X) (xs : List X) (x : X) → Contains xs x → Contains (y ∷ xs) x
Contains-later y xs x h = let within : h.0 < length xs = h.1 in (suc h.0, omega arith, h.2)

pub Contains-none : {X : Type 0} (x : X) → Contains [] x → ⊥
Contains-none x h = let within : h.0 < 0 = h.1 in omega arith

pub Contains-past : {X : Type 0} (y : X) (xs : List X) (x : X) → y ≢ x → Contains (y ∷ xs) x → Contains xs x
Contains-past y xs x other h = at h.0 h.1 h.2
  where
    at : (k : ℕ) → k < length (y ∷ xs) → get_or (y ∷ xs) k x ≡ x → Contains xs x
    at zero within same = absurd (other same)
    at (suc k) within same = (k, omega arith, same)

same_some : {A : Type 0} (x y : A) → Some x ≡ Some y → x ≡ y
same_some x y h = cc

-- what differs in its keywords is looked up by them
module _ {X : Type 0} (keyword : X → List ℕ) (differ : (x y : X) → keyword x ≡ keyword y → x ≡ y) where
  pub Contains-from_keyword : (x : X) (given : List X) → list_any (λ y. bytes_eq (keyword x) (keyword y)) given ≡ true → Contains given x
  Contains-from_keyword x given h =
      let found = Any-from_list_any (λ y. bytes_eq (keyword x) (keyword y)) given h in
      let same : found.1 ≡ x = differ found.1 x (same_bytes (keyword x) (keyword found.1) found.4) in
      (found.0, found.2, subst (λ y. get_or given found.0 y ≡ y) same found.3)

  pub keyword-from_Contains : (x : X) (given : List X) → Contains given x → list_any (λ y. bytes_eq (keyword x) (keyword y)) given ≡ true
  keyword-from_Contains x given h = list_any-from_Any (λ y. bytes_eq (keyword x) (keyword y)) given (h.0, x, h.1, h.2, bytes_same (keyword x) (keyword x) refl)

  pub none_by_keyword : (x : X) (given : List X) → (Contains given x → ⊥) → list_any (λ y. bytes_eq (keyword x) (keyword y)) given ≡ false
  none_by_keyword x given none = false_from_ne_true _ (λ h. none (Contains-from_keyword x given h))

  pub not-Contains_from_keyword : (x : X) (given : List X) → list_any (λ y. bytes_eq (keyword x) (keyword y)) given ≡ false → Contains given x → ⊥
  not-Contains_from_keyword x given h has = true≢false (sym (keyword-from_Contains x given has) ∙ h)

part_by_keyword : (p : ActionPart) → part_by (part_keyword p) ≡ Some p
part_by_keyword Parameters = refl
part_by_keyword Precondition = refl
part_by_keyword Effect = refl

pub part_by-from : (text : List ℕ) (p : ActionPart) → text ≡ part_keyword p → part_by text ≡ Some p
part_by-from text p h = ap part_by h ∙ part_by_keyword p

pub part_by-Some : (text : List ℕ) (p : ActionPart) → part_by text ≡ Some p → text ≡ part_keyword p
part_by-Some text p h =
    choice (bytes_eq (codes ":parameters") text) (Some Parameters) behind_parameters (Some p) h (text ≡ part_keyword p) (one Parameters)
    (λ _ e. choice (bytes_eq (codes ":precondition") text) (Some Precondition) behind_precondition (Some p) e (text ≡ part_keyword p) (one Precondition)
    (λ _ k. choice (bytes_eq (codes ":effect") text) (Some Effect) None (Some p) k (text ≡ part_keyword p) (one Effect) (λ _ no. absurd (cc))))
  where
    behind_precondition : Option ActionPart
    behind_precondition = if bytes_eq (codes ":effect") text then Some Effect else None

    behind_parameters : Option ActionPart
    behind_parameters = if bytes_eq (codes ":precondition") text then Some Precondition else behind_precondition

    one : (q : ActionPart) → bytes_eq (part_keyword q) text ≡ true → Some q ≡ Some p → text ≡ part_keyword p
    one q e s = same_bytes (part_keyword q) text e ∙ ap part_keyword (same_some q p s)

pub part_by-None : (text : List ℕ) → part_by text ≡ None → (p : ActionPart) → text ≢ part_keyword p
part_by-None text h p e = absurd (cc (h, part_by-from text p e))

pub parts_differ : (p q : ActionPart) → part_keyword p ≡ part_keyword q → p ≡ q
parts_differ p q h = same_some p q (sym (part_by-from (part_keyword q) p (sym h)) ∙ part_by_keyword q)

all_kinds : List SectionKind
all_kinds = Requirements ∷ Types ∷ Constants ∷ Predicates ∷ Action ∷ Domain ∷ Objects ∷ Init ∷ Goal ∷ []

kind_by_keyword : (k : SectionKind) → kind_by all_kinds (keyword_of k) ≡ Some k
unfolding all_kinds
kind_by_keyword Requirements = refl
kind_by_keyword Types = refl
kind_by_keyword Constants = refl
kind_by_keyword Predicates = refl
kind_by_keyword Action = refl
kind_by_keyword Domain = refl
kind_by_keyword Objects = refl
kind_by_keyword Init = refl
kind_by_keyword Goal = refl

pub kinds_differ : (a b : SectionKind) → keyword_of a ≡ keyword_of b → a ≡ b
kinds_differ a b h = same_some a b (sym (kind_by_keyword a) ∙ ap (kind_by all_kinds) h ∙ kind_by_keyword b)

pub kind_by-Some : (kinds : List SectionKind) (text : List ℕ) (k : SectionKind)
    → kind_by kinds text ≡ Some k → Contains kinds k × (text ≡ keyword_of k)
kind_by-Some [] text k h = absurd (cc)
kind_by-Some (kind ∷ kinds) text k h =
    choice (bytes_eq (keyword_of kind) text) (Some kind) (kind_by kinds text) (Some k) h (Contains (kind ∷ kinds) k × (text ≡ keyword_of k))
    (λ e s. subst (λ x. Contains (kind ∷ kinds) x × (text ≡ keyword_of x)) (same_some kind k s)
    (Contains-first kind kinds, same_bytes (keyword_of kind) text e))
    (λ e s. let rest = kind_by-Some kinds text k s in (Contains-later kind kinds k rest.0, rest.1))

pub kind_by-from : (kinds : List SectionKind) (text : List ℕ) (k : SectionKind) → Contains kinds k → text ≡ keyword_of k → kind_by kinds text ≡ Some k
kind_by-from [] text k has same = absurd (Contains-none k has)
kind_by-from (kind ∷ kinds) text k has same = each (bytes_eq (keyword_of kind) text) refl (λ later. kind_by-from kinds text k later same)
  where
    each : (b : Bool) → bytes_eq (keyword_of kind) text ≡ b → (Contains kinds k → kind_by kinds text ≡ Some k)
        → (if b then Some kind else kind_by kinds text) ≡ Some k
    each true e rest = ap Some (kinds_differ kind k (sym (same_bytes (keyword_of kind) text e) ∙ same))
    each false e rest = rest (Contains-past kind kinds k (λ h. other_bytes (keyword_of kind) text e (same ∙ sym (ap keyword_of h))) has)

pub kind_by-None : (kinds : List SectionKind) (text : List ℕ) → kind_by kinds text ≡ None → (k : SectionKind) → Contains kinds k → text ≢ keyword_of k
kind_by-None kinds text h k has e = absurd (cc (h, kind_by-from kinds text k has e))

-- no keyword names a feature
pub no_feature : (k : SectionKind) → section_feature (keyword_of k) ≡ None
no_feature Requirements = refl
no_feature Types = refl
no_feature Constants = refl
no_feature Predicates = refl
no_feature Action = refl
no_feature Domain = refl
no_feature Objects = refl
no_feature Init = refl
no_feature Goal = refl

pub same_kind-true : (a b : SectionKind) → same_kind a b ≡ true → a ≡ b
same_kind-true a b h = sym (kinds_differ b a (same_bytes (keyword_of a) (keyword_of b) h))

pub same_kind-from : (a b : SectionKind) → a ≡ b → same_kind a b ≡ true
same_kind-from a b h = bytes_same (keyword_of a) (keyword_of b) (ap keyword_of (sym h))

-- a kind is repeated where it is given before and is not that of actions
pub not_repeated : (k : SectionKind) (given : List SectionKind) → is_repeated k given ≡ false → Contains given k → k ≡ Action
not_repeated k given h has =
    elim (and_cases (not (same_kind k Action)) (list_any (same_kind k) given) h) [
      | inl e ↦ same_kind-true k Action (not-false (same_kind k Action) e)
      | inr e ↦ absurd (not-Contains_from_keyword keyword_of kinds_differ k given e has)
    ]

pub repeated : (k : SectionKind) (given : List SectionKind) → is_repeated k given ≡ true → (k ≢ Action) × Contains given k
repeated k given h =
    let both = and_parts (not (same_kind k Action)) (list_any (same_kind k) given) h in
    (λ e. true≢false (sym (same_kind-from k Action e) ∙ not-true (same_kind k Action) both.0), Contains-from_keyword keyword_of kinds_differ k given both.1)

pub not_repeated-from : (k : SectionKind) (given : List SectionKind) → (Contains given k → k ≡ Action) → is_repeated k given ≡ false
not_repeated-from k given h =
    false_from_ne_true (is_repeated k given) (λ e. let both = repeated k given e in both.0 (h both.1))
