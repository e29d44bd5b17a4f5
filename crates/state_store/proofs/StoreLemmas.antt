-- Lists of states as an index set keeps them.
use Rattle.std.proofs.Common.{◌≡◌, ℕ, ◌+◌, Bool, true, false, not, cond, ◌||◌, Decides, List, [], ◌∷◌, ◌++◌, length, refl, sym, subst, ◌∙◌, inl, inr, true≢false, arith, Contains}
use Rattle.std.specs.List.{All, list_any, IsDistinct, position_or_len}
use Rattle.std.proofs.lemmas.List.Elements.{All-get_or, All-push}
use Rattle.std.proofs.lemmas.Map.Made.{AllPairs-from_IsDistinct, is_member-Decides}
use Rattle.indexmap.specs.IndexSet.{insert_key}
use Rattle.grd_base.specs.declared.bits.Bits.{Bits}
use Rattle.grd_base.specs.Bits.{members, IsWhole}
use Rattle.grd_base.proofs.SameLemmas.{bits_eq, bits_eq-Decides, same_by_members}
use Rattle.state_store.specs.Store.{AreDistinct, IsNumbered, IsStore}

-- a test that no element passes has its first place past the end
past_all : {S : Type 0} (p : S → Bool) (xs : List S) → list_any p xs ≡ false → position_or_len p xs ≡ length xs
past_all p [] none = refl
past_all p (x ∷ xs) none = by (p x) (past_all p xs) none
  where
    by : (b : Bool) → (list_any p xs ≡ false → position_or_len p xs ≡ length xs) → (b || list_any p xs) ≡ false
        → cond (not b) (1 + position_or_len p xs) 0 ≡ length (x ∷ xs)
    by true rest h = absurd (true≢false h)
    by false rest h = let more : position_or_len p xs ≡ length xs = rest h in omega arith

-- what an insertion at the end leaves, and the place that it gives
pub numbered_by : {S : Type 0} (eq : S → S → Bool) → ((a b : S) → Decides (eq a b) (a ≡ b)) → (old new : List S) (s : S) (n : ℕ)
    → new ≡ insert_key eq old s → n ≡ position_or_len (eq s) old → IsNumbered old new s n
numbered_by {S} eq decides old new s n is at = by (list_any (eq s) old) refl is
  where
    has : Decides (list_any (eq s) old) (Contains old s)
    has = is_member-Decides decides old s

    by : (b : Bool) → list_any (eq s) old ≡ b → new ≡ cond b old (old ++ s ∷ []) → IsNumbered old new s n
    by true held same = inl (has.0 held, same)
    by false held more = inr (λ there. true≢false (sym (has.1 there) ∙ held), more, at ∙ past_all (eq s) old held)

module _ {W : ℕ} where
  -- different states have different members
  distinct_members : (states : List (Bits W)) → All IsWhole states → IsDistinct bits_eq states → AreDistinct states
  distinct_members states whole unique i j d before within same =
      AllPairs-from_IsDistinct bits_eq-Decides states unique i j d before within
      (same_by_members _ _ (All-get_or IsWhole states i d (omega arith) whole) (All-get_or IsWhole states j d within whole) same)

  -- a whole state is inserted
  pub store_more : (old new : List (Bits W)) (s : Bits W) → IsStore old → IsWhole s → new ≡ insert_key bits_eq old s → IsDistinct bits_eq new → IsStore new
  store_more old new s store whole_s is unique =
      let whole : All IsWhole new = by (list_any (bits_eq s) old) is in
      record { whole = whole; distinct = distinct_members new whole unique; narrow = store.narrow }
    where
      by : (b : Bool) → new ≡ cond b old (old ++ s ∷ []) → All IsWhole new
      by true same = subst (All IsWhole) (sym same) store.whole
      by false more = subst (All IsWhole) (sym more) (All-push IsWhole old s store.whole whole_s)
