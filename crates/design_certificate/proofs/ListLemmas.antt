-- Lists of actions as sets: one more member, one member less, and the choices of a branch.
use Rattle.std.proofs.Common.{◌≡◌, ◌+◌, ◌≤◌, ◌⊎◌, ◌||◌, eqb, cond, Bool, true, false, List, [], ◌∷◌, ◌++◌, length, refl, sym, ◌∙◌, ap, subst, inl, inr, arith}
use Rattle.std.specs.Prelude.{IsTrue, nat_lt}
use Rattle.std.specs.List.{list_any}
use Rattle.std.proofs.lemmas.Bool.{cases_Bool, false≢true, or_cases, or_parts, eqb-true, eq-eqb}
use Rattle.std.proofs.lemmas.List.Folds.{list_any-append}
use Rattle.grd_base.specs.declared.ids.ActionId.{ActionId}
use Rattle.grd_base.specs.Rising.{has_id}
use Rattle.design_certificate.specs.Trees.{with_id, firsts_outside}

pub or_first : (a b : Bool) → IsTrue a → IsTrue (a || b)
or_first true b h = refl
or_first false b h = absurd (false≢true h)

pub or_second : (a b : Bool) → IsTrue b → IsTrue (a || b)
or_second true b h = refl
or_second false b h = h

or_again : (a b : Bool) → (a || (a || b)) ≡ (a || b)
or_again true b = refl
or_again false b = refl

or_swapped : (a b c : Bool) → (a || (b || c)) ≡ (b || (a || c))
or_swapped true true c = refl
or_swapped true false c = refl
or_swapped false b c = refl

-- a test is not true and false
pub not_both : (b : Bool) → b ≡ true → b ≡ false → ⊥
not_both b is is_not = false≢true (sym is_not ∙ is)

pub same_id : (a b : ActionId) → eqb a.0 b.0 ≡ true → a ≡ b
same_id a b e = ap (λ n. record { 0 = n }) (eqb-true a.0 b.0 e)

-- a member is the first or one of the rest
pub member_cases : (x : ActionId) (xs : List ActionId) (a : ActionId) → IsTrue (has_id (x ∷ xs) a) → (x ≡ a) ⊎ IsTrue (has_id xs a)
member_cases x xs a h = elim (or_cases (eqb x.0 a.0) (has_id xs a) h) [ inl here ↦ inl (same_id x a here) | inr later ↦ inr later ]

pub member_first : (x : ActionId) (xs : List ActionId) → IsTrue (has_id (x ∷ xs) x)
member_first x xs = or_first (eqb x.0 x.0) (has_id xs x) (eq-eqb x.0 x.0 refl)

pub member_later : (x : ActionId) (xs : List ActionId) (a : ActionId) → IsTrue (has_id xs a) → IsTrue (has_id (x ∷ xs) a)
member_later x xs a h = or_second (eqb x.0 a.0) (has_id xs a) h

pub member_left : (xs ys : List ActionId) (a : ActionId) → IsTrue (has_id xs a) → IsTrue (has_id (xs ++ ys) a)
member_left xs ys a h = list_any-append (λ b. eqb b.0 a.0) xs ys ∙ or_first (has_id xs a) (has_id ys a) h

pub member_right : (xs ys : List ActionId) (a : ActionId) → IsTrue (has_id ys a) → IsTrue (has_id (xs ++ ys) a)
member_right xs ys a h = list_any-append (λ b. eqb b.0 a.0) xs ys ∙ or_second (has_id xs a) (has_id ys a) h

pub member_either : (xs ys : List ActionId) (a : ActionId) → IsTrue (has_id (xs ++ ys) a) → IsTrue (has_id xs a) ⊎ IsTrue (has_id ys a)
member_either xs ys a h = or_cases (has_id xs a) (has_id ys a) (sym (list_any-append (λ b. eqb b.0 a.0) xs ys) ∙ h)

-- a list with one more action has it and the others
pub with_id_has : (xs : List ActionId) (a b : ActionId) → has_id (with_id xs a) b ≡ (eqb a.0 b.0 || has_id xs b)
with_id_has [] a b = refl
with_id_has (x ∷ xs) a b =
    let rest = if_same x xs a b (with_id_has xs a b) in
    elim (cases_Bool (nat_lt a.0 x.0)) [
      | inl low ↦ ap (λ c. has_id (cond c (a ∷ x ∷ xs) (cond (eqb a.0 x.0) (x ∷ xs) (x ∷ with_id xs a))) b) low
      | inr past ↦ ap (λ c. has_id (cond c (a ∷ x ∷ xs) (cond (eqb a.0 x.0) (x ∷ xs) (x ∷ with_id xs a))) b) past ∙ rest
    ]
  where
    if_same : (x : ActionId) (xs : List ActionId) (a b : ActionId) → has_id (with_id xs a) b ≡ (eqb a.0 b.0 || has_id xs b)
        → has_id (cond (eqb a.0 x.0) (x ∷ xs) (x ∷ with_id xs a)) b ≡ (eqb a.0 b.0 || (eqb x.0 b.0 || has_id xs b))
    if_same x xs a b ih = elim (cases_Bool (eqb a.0 x.0)) [
      | inl same ↦
          ap (λ c. has_id (cond c (x ∷ xs) (x ∷ with_id xs a)) b) same
          ∙ sym (or_again (eqb x.0 b.0) (has_id xs b)) ∙ ap (λ n. eqb n b.0 || (eqb x.0 b.0 || has_id xs b)) (sym (eqb-true a.0 x.0 same))
      | inr other ↦
          ap (λ c. has_id (cond c (x ∷ xs) (x ∷ with_id xs a)) b) other
          ∙ ap (λ c. eqb x.0 b.0 || c) ih ∙ or_swapped (eqb x.0 b.0) (eqb a.0 b.0) (has_id xs b)
    ]

-- and is at most one longer
pub with_id_length : (xs : List ActionId) (a : ActionId) → length (with_id xs a) ≤ length xs + 1
with_id_length [] a = omega arith
with_id_length (x ∷ xs) a =
    let ih = with_id_length xs a in
    elim (cases_Bool (nat_lt a.0 x.0)) [
      | inl low ↦
          let e : length (with_id (x ∷ xs) a) ≡ length (a ∷ x ∷ xs) = ap (λ c. length (cond c (a ∷ x ∷ xs) (cond (eqb a.0 x.0) (x ∷ xs) (x ∷ with_id xs a)))) low in
          omega (arith, e)
      | inr past ↦ elim (cases_Bool (eqb a.0 x.0)) [
        | inl same ↦
            let e : length (with_id (x ∷ xs) a) ≡ length (x ∷ xs) =
            ap (λ c. length (cond c (a ∷ x ∷ xs) (cond (eqb a.0 x.0) (x ∷ xs) (x ∷ with_id xs a)))) past ∙ ap (λ c. length (cond c (x ∷ xs) (x ∷ with_id xs a))) same in
            omega (arith, e)
        | inr other ↦
            let e : length (with_id (x ∷ xs) a) ≡ length (x ∷ with_id xs a) =
            ap (λ c. length (cond c (a ∷ x ∷ xs) (cond (eqb a.0 x.0) (x ∷ xs) (x ∷ with_id xs a)))) past ∙ ap (λ c. length (cond c (x ∷ xs) (x ∷ with_id xs a))) other in
            omega (arith, e, ih)
      ]
    ]

pub with_id_cases : (xs : List ActionId) (a b : ActionId) → IsTrue (has_id (with_id xs a) b) → (a ≡ b) ⊎ IsTrue (has_id xs b)
with_id_cases xs a b h = elim (or_cases (eqb a.0 b.0) (has_id xs b) (sym (with_id_has xs a b) ∙ h)) [ inl here ↦ inl (same_id a b here) | inr old ↦ inr old ]

pub with_id_new : (xs : List ActionId) (a b : ActionId) → a ≡ b → IsTrue (has_id (with_id xs a) b)
with_id_new xs a b same = with_id_has xs a b ∙ or_first (eqb a.0 b.0) (has_id xs b) (eq-eqb a.0 b.0 (ap (λ (x : ActionId). x.0) same))

pub with_id_old : (xs : List ActionId) (a b : ActionId) → IsTrue (has_id xs b) → IsTrue (has_id (with_id xs a) b)
with_id_old xs a b h = with_id_has xs a b ∙ or_second (eqb a.0 b.0) (has_id xs b) h

-- the rest of a list without one of its members
pub record LessOne (xs : List ActionId) (a : ActionId) : Type 0 where
  pub rest : List ActionId
  pub shorter : length xs ≡ length rest + 1
  pub others : (b : ActionId) → IsTrue (has_id xs b) → (a ≡ b) ⊎ IsTrue (has_id rest b)

pub less_one : (xs : List ActionId) (a : ActionId) → IsTrue (has_id xs a) → LessOne xs a
less_one [] a h = absurd (false≢true h)
less_one (x ∷ xs) a h = elim (cases_Bool (eqb x.0 a.0)) [
  | inl same ↦ record {
    rest = xs;
    shorter = omega arith;
    others = λ b member. elim (member_cases x xs b member) [ inl here ↦ inl (sym (same_id x a same) ∙ here) | inr later ↦ inr later ];
  }
  | inr other ↦
      let there : IsTrue (has_id xs a) = elim (or_cases (eqb x.0 a.0) (has_id xs a) h) [ inl same ↦ absurd (not_both (eqb x.0 a.0) same other) | inr later ↦ later ] in
      let less = less_one xs a there in
      record {
        rest = x ∷ less.rest;
        shorter = omega (arith, less.shorter);
        others = λ b member. elim (member_cases x xs b member) [
          | inl here ↦ inr (subst (λ y. IsTrue (has_id (x ∷ less.rest) y)) here (member_first x less.rest))
          | inr later ↦ elim (less.others b later) [ inl same ↦ inl same | inr left ↦ inr (member_later x less.rest b left) ]
        ];
      }
]

-- a list with one more action at its end
pub member_pushed : (xs : List ActionId) (a b : ActionId) → IsTrue (has_id (xs ++ a ∷ []) b) → (a ≡ b) ⊎ IsTrue (has_id xs b)
member_pushed xs a b h = elim (member_either xs (a ∷ []) b h) [
  | inl old ↦ inr old
  | inr new ↦ elim (member_cases a [] b new) [ inl same ↦ inl same | inr none ↦ absurd (false≢true none) ]
]

pushed_not : (xs : List ActionId) (a b : ActionId) → has_id xs b ≡ false → eqb a.0 b.0 ≡ false → has_id (xs ++ a ∷ []) b ≡ false
pushed_not xs a b old new = list_any-append (λ c. eqb c.0 b.0) xs (a ∷ []) ∙ ap (λ c. c || (eqb a.0 b.0 || false)) old ∙ ap (λ c. c || false) new

-- each action of the sequence that is not kept is one of the firsts
pub firsts_have : (kept p : List ActionId) (b : ActionId) → IsTrue (has_id p b) → has_id kept b ≡ false → IsTrue (has_id (firsts_outside kept p) b)
firsts_have kept [] b member free = absurd (false≢true member)
firsts_have kept (a ∷ p) b member free =
    let more = a ∷ firsts_outside (kept ++ a ∷ []) p in
    let less = firsts_outside kept p in
    elim (cases_Bool (has_id kept a)) [
      | inl known ↦
          ap (λ c. has_id (cond c less more) b) known ∙ (elim (member_cases a p b member) [
            | inl here ↦ absurd (not_both (has_id kept b) (subst (λ x. IsTrue (has_id kept x)) here known) free)
            | inr later ↦ firsts_have kept p b later free
          ])
      | inr fresh ↦
          ap (λ c. has_id (cond c less more) b) fresh ∙ (elim (cases_Bool (eqb a.0 b.0)) [
            | inl here ↦ or_first (eqb a.0 b.0) (has_id (firsts_outside (kept ++ a ∷ []) p) b) here
            | inr other ↦
                let later : IsTrue (has_id p b) = elim (or_cases (eqb a.0 b.0) (has_id p b) member) [ inl here ↦ absurd (not_both (eqb a.0 b.0) here other) | inr later ↦ later ] in
                let still : has_id (kept ++ a ∷ []) b ≡ false = pushed_not kept a b free other in
                or_second (eqb a.0 b.0) (has_id (firsts_outside (kept ++ a ∷ []) p) b) (firsts_have (kept ++ a ∷ []) p b later still)
          ])
    ]

-- and the firsts are actions of the sequence
pub firsts_among : (kept p : List ActionId) (b : ActionId) → IsTrue (has_id (firsts_outside kept p) b) → IsTrue (has_id p b)
firsts_among kept [] b member = member
firsts_among kept (a ∷ p) b member =
    let more = a ∷ firsts_outside (kept ++ a ∷ []) p in
    let less = firsts_outside kept p in
    elim (cases_Bool (has_id kept a)) [
      | inl known ↦ member_later a p b (firsts_among kept p b (sym (ap (λ c. has_id (cond c less more) b) known) ∙ member))
      | inr fresh ↦ elim (member_cases a (firsts_outside (kept ++ a ∷ []) p) b (sym (ap (λ c. has_id (cond c less more) b) fresh) ∙ member)) [
        | inl here ↦ subst (λ x. IsTrue (has_id (a ∷ p) x)) here (member_first a p)
        | inr later ↦ member_later a p b (firsts_among (kept ++ a ∷ []) p b later)
      ]
    ]

-- none of a list is in a set
pub none_met : (r xs : List ActionId) → list_any (λ a. has_id r a) xs ≡ false → (b : ActionId) → IsTrue (has_id xs b) → has_id r b ≡ false
none_met r [] none b member = absurd (false≢true member)
none_met r (x ∷ xs) none b member =
    let parts = or_parts (has_id r x) (list_any (λ a. has_id r a) xs) none in
    elim (member_cases x xs b member) as (λ _. has_id r b ≡ false) [
      | inl here ↦ subst (λ y. has_id r y ≡ false) here parts.0
      | inr later ↦ none_met r xs parts.1 b later
    ]
