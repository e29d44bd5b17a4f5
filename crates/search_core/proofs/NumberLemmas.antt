-- Whether some mark shows a number.
use Rattle.std.proofs.Common.{◌≡◌, ℕ, zero, suc, List, [], ◌∷◌, refl, sym, ap, ◌∙◌, Some, None, Option, Bool, true, false, true≢false, ◌||◌}
use Rattle.std.specs.Prelude.{slice_get}
use Rattle.std.specs.List.{list_any}
use Rattle.std.proofs.lemmas.Option.{same_Some, none-some}
use Rattle.grd_base.specs.declared.limits.Bound.{Bound}
use Rattle.grd_base.specs.declared.limits.Bound.TheVariants.{Steps, Never}
use Rattle.search_core.specs.Progress.{Entry}
use Rattle.search_core.specs.Visits.{is_number, has_number_mark}

-- some entry has a mark that shows a number
pub record HasNumber {S M : Type 0} (entries : List (Entry S M)) : Type 0 where
  pub place : ℕ
  pub entry : Entry S M
  pub at : slice_get entries place ≡ Some entry
  pub mark : M
  pub mark_is : entry.1.mark ≡ Some mark
  pub number : ℕ
  pub bound_is : entry.1.bound ≡ Steps number

-- each mark shows `Never`
abbrev pub HasNoNumber : {S M : Type 0} → List (Entry S M) → Type 0
HasNoNumber {S} {M} entries = (i : ℕ) (e : Entry S M) (m : M) → slice_get entries i ≡ Some e → e.1.mark ≡ Some m → e.1.bound ≡ Never

left_false : (a b : Bool) → (a || b) ≡ false → a ≡ false
left_false true b h = absurd (true≢false h)
left_false false b h = refl

right_false : (a b : Bool) → (a || b) ≡ false → b ≡ false
right_false true b h = absurd (true≢false h)
right_false false b h = h

module _ {S M : Type 0} where
  later_number : (x : Entry S M) (xs : List (Entry S M)) → HasNumber xs → HasNumber (x ∷ xs)
  later_number x xs h = record { place = suc h.place; entry = h.entry; at = h.at; mark = h.mark; mark_is = h.mark_is; number = h.number; bound_is = h.bound_is }

  first_number : (x : Entry S M) (xs : List (Entry S M)) (b : Bound) (o : Option M) → x.1.bound ≡ b → x.1.mark ≡ o → is_number b o ≡ true → HasNumber (x ∷ xs)
  first_number x xs (Steps n) (Some m) bound mark is = record { place = 0; entry = x; at = refl; mark = m; mark_is = mark; number = n; bound_is = bound }
  first_number x xs (Steps n) None bound mark is = absurd (true≢false (sym is))
  first_number x xs Never o bound mark is = absurd (true≢false (sym is))

  by_first : (x : Entry S M) (xs : List (Entry S M)) (b : Bool) → has_number_mark x ≡ b → (b || list_any has_number_mark xs) ≡ true → (list_any has_number_mark xs ≡ true → HasNumber xs) → HasNumber (x ∷ xs)
  by_first x xs true at is more = first_number x xs x.1.bound x.1.mark refl refl at
  by_first x xs false at is more = later_number x xs (more is)

  pub any_number : (xs : List (Entry S M)) → list_any has_number_mark xs ≡ true → HasNumber xs
  any_number [] is = absurd (true≢false (sym is))
  any_number (x ∷ xs) is = by_first x xs (has_number_mark x) refl is (λ rest. any_number xs rest)

  never_at : (x : Entry S M) (b : Bound) (o : Option M) (m : M) → x.1.bound ≡ b → o ≡ Some m → is_number b o ≡ false → x.1.bound ≡ Never
  never_at x (Steps n) None m bound mark is = absurd (none-some m mark)
  never_at x (Steps n) (Some k) m bound mark is = absurd (true≢false is)
  never_at x Never o m bound mark is = bound

  pub no_number : (xs : List (Entry S M)) → list_any has_number_mark xs ≡ false → HasNoNumber xs
  no_number [] is i e m got mark = absurd (none-some e got)
  no_number (x ∷ xs) is zero e m got mark = let same : x ≡ e = same_Some _ _ got in
      ap (λ (g : Entry S M). g.1.bound) (sym same) ∙ never_at x x.1.bound x.1.mark m refl (ap (λ (g : Entry S M). g.1.mark) same ∙ mark) (left_false (has_number_mark x) (list_any has_number_mark xs) is)
  no_number (x ∷ xs) is (suc i) e m got mark = no_number xs (right_false (has_number_mark x) (list_any has_number_mark xs) is) i e m got mark
