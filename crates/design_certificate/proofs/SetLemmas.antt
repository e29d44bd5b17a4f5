-- Rising sets of actions: what covers a larger set beside a smaller one, and the set with one more action.
use Rattle.std.proofs.Common.{◌≡◌, ◌↔◌, ℕ, zero, suc, ◌+◌, ◌<◌, ◌≤◌, ◌⊎◌, eqb, cond, Bool, true, false, List, [], ◌∷◌, length, refl, sym, ap, subst, inl, inr, arith}
use Rattle.std.specs.Prelude.{IsTrue, nat_lt, Contains}
use Rattle.std.specs.List.{AllByRecursion}
use Rattle.std.proofs.lemmas.Bool.{cases_Bool, false≢true, ltb-true, ltb-false, eqb-false, cases_eq}
use Rattle.grd_base.specs.declared.ids.ActionId.{ActionId}
use Rattle.grd_base.specs.Rising.{IsRising, has_id}
use Rattle.strips_model.proofs.RisingLists.{not_below, rising_same}
use Rattle.design_certificate.specs.Designs.{AreAmong}
use Rattle.design_certificate.specs.Trees.{with_id}
use Rattle.design_certificate.proofs.ListLemmas.{not_both, member_cases, member_first, member_later, with_id_new, with_id_old, with_id_cases, less_one}

-- a larger set is a rising one and so many others
pub record Others (r xs : List ActionId) : Type 0 where
  pub rest : List ActionId
  pub counted : length xs + length rest ≡ length r
  pub covered : (a : ActionId) → IsTrue (has_id r a) → IsTrue (has_id xs a) ⊎ IsTrue (has_id rest a)

pub others : (xs r : List ActionId) → IsRising xs → AreAmong xs r → Others r xs
others [] r rise among = record { rest = r; counted = omega arith; covered = λ a member. inr member }
others (x ∷ xs) r rise among =
    let less = less_one r x (among x (member_first x xs)) in
    let still : AreAmong xs less.rest = λ b member. elim (less.others b (among b (member_later x xs b member))) [
      | inl same ↦ absurd (not_both (has_id xs b) member (subst (λ y. has_id xs y ≡ false) same (not_below (λ (a : ActionId). a.0) x.0 xs rise.0)))
      | inr there ↦ there
    ] in
    let more = others xs less.rest rise.1 still in
    record {
      rest = more.rest;
      counted = omega (arith, more.counted, less.shorter);
      covered = λ a member. elim (less.others a member) [
        | inl same ↦ inl (subst (λ y. IsTrue (has_id (x ∷ xs) y)) same (member_first x xs))
        | inr there ↦ elim (more.covered a there) [ inl old ↦ inl (member_later x xs a old) | inr other ↦ inr other ]
      ];
    }

above_with : (n : ℕ) (xs : List ActionId) (a : ActionId) → n < a.0 → AllByRecursion (λ y. n < y.0) xs → AllByRecursion (λ y. n < y.0) (with_id xs a)
above_with n [] a low above = (low, tt)
above_with n (x ∷ xs) a low above =
    let more = above_with n xs a low above.1 in
    elim (cases_Bool (nat_lt a.0 x.0)) [
      | inl below ↦ subst (λ c. AllByRecursion (λ y. n < y.0) (cond c (a ∷ x ∷ xs) (cond (eqb a.0 x.0) (x ∷ xs) (x ∷ with_id xs a)))) (sym below) (low, above)
      | inr past ↦ subst (λ c. AllByRecursion (λ y. n < y.0) (cond c (a ∷ x ∷ xs) (cond (eqb a.0 x.0) (x ∷ xs) (x ∷ with_id xs a)))) (sym past) (elim (cases_Bool (eqb a.0 x.0)) [
        | inl same ↦ subst (λ c. AllByRecursion (λ y. n < y.0) (cond c (x ∷ xs) (x ∷ with_id xs a))) (sym same) above
        | inr other ↦ subst (λ c. AllByRecursion (λ y. n < y.0) (cond c (x ∷ xs) (x ∷ with_id xs a))) (sym other) (above.0, more)
      ])
    ]

above_lower : (n m : ℕ) (xs : List ActionId) → n < m → AllByRecursion (λ y. m < y.0) xs → AllByRecursion (λ y. n < y.0) xs
above_lower n m [] low above = tt
above_lower n m (x ∷ xs) low above = (omega (arith, above.0), above_lower n m xs low above.1)

-- a rising list with one more action rises
pub with_id_rises : (xs : List ActionId) (a : ActionId) → IsRising xs → IsRising (with_id xs a)
with_id_rises [] a rise = (tt, tt)
with_id_rises (x ∷ xs) a rise =
    let more = with_id_rises xs a rise.1 in
    elim (cases_Bool (nat_lt a.0 x.0)) [
      | inl below ↦
          let low : a.0 < x.0 = ltb-true a.0 x.0 below in
          subst (λ c. IsRising (cond c (a ∷ x ∷ xs) (cond (eqb a.0 x.0) (x ∷ xs) (x ∷ with_id xs a)))) (sym below) ((low, above_lower a.0 x.0 xs low rise.0), rise)
      | inr past ↦ subst (λ c. IsRising (cond c (a ∷ x ∷ xs) (cond (eqb a.0 x.0) (x ∷ xs) (x ∷ with_id xs a)))) (sym past) (elim (cases_Bool (eqb a.0 x.0)) [
        | inl same ↦ subst (λ c. IsRising (cond c (x ∷ xs) (x ∷ with_id xs a))) (sym same) rise
        | inr other ↦
            let high : x.0 ≤ a.0 = ltb-false a.0 x.0 past in
            let differ : a.0 ≡ x.0 → ⊥ = eqb-false a.0 x.0 other in
            let low : x.0 < a.0 = elim (cases_eq a.0 x.0) [ inl same ↦ absurd (differ same) | inr apart ↦ omega arith ] in
            subst (λ c. IsRising (cond c (x ∷ xs) (x ∷ with_id xs a))) (sym other) (above_with x.0 xs a low rise.0, more)
      ])
    ]

-- two rising lists with the same members are the same
pub same_members : (xs ys : List ActionId) → IsRising xs → IsRising ys → ((a : ActionId) → has_id xs a ≡ has_id ys a) → xs ≡ ys
same_members xs ys rise also same = rising_same (λ (a : ActionId). a.0) (λ a b e. ap (λ n. record { 0 = n }) e) xs ys rise also (λ n. same (record { 0 = n }))

-- a member by its test and by its place
pub has_from_contains : (xs : List ActionId) (a : ActionId) → Contains xs a → IsTrue (has_id xs a)
has_from_contains [] a there = absurd (omega (arith, there.1))
has_from_contains (x ∷ xs) a (zero, within, is) = subst (λ y. IsTrue (has_id (x ∷ xs) y)) is (member_first x xs)
has_from_contains (x ∷ xs) a (suc k, within, is) = member_later x xs a (has_from_contains xs a (k, omega arith, is))

pub contains_from_has : (xs : List ActionId) (a : ActionId) → IsTrue (has_id xs a) → Contains xs a
contains_from_has [] a h = absurd (false≢true h)
contains_from_has (x ∷ xs) a h = elim (member_cases x xs a h) [
  | inl here ↦ (0, omega arith, here)
  | inr later ↦ let there = contains_from_has xs a later in (suc there.0, omega (arith, there.1), there.2)
]

same_tests : (x y : Bool) → (IsTrue x → IsTrue y) → (IsTrue y → IsTrue x) → x ≡ y
same_tests true y to from = sym (to refl)
same_tests false true to from = from refl
same_tests false false to from = refl

-- a rising list that has one more action is the list with that action put in
pub set_with : (xs more : List ActionId) (a : ActionId) → IsRising xs → IsRising more → ((b : ActionId) → Contains more b ↔ ((b ≡ a) ⊎ Contains xs b)) → more ≡ with_id xs a
set_with xs more a rise also members = same_members more (with_id xs a) also (with_id_rises xs a rise) (λ b. same_tests (has_id more b) (has_id (with_id xs a) b)
    (λ h. elim ((members b).0 (contains_from_has more b h)) as (λ _. IsTrue (has_id (with_id xs a) b)) [
      | inl new ↦ with_id_new xs a b (sym new)
      | inr old ↦ with_id_old xs a b (has_from_contains xs b old)
    ])
    (λ h. elim (with_id_cases xs a b h) as (λ _. IsTrue (has_id more b)) [
      | inl new ↦ has_from_contains more b ((members b).1 (inl (sym new)))
      | inr old ↦ has_from_contains more b ((members b).1 (inr (contains_from_has xs b old)))
    ]))
