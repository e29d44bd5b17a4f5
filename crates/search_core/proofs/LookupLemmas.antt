-- Look-ups of states, where states that compare equal are the same.
use Rattle.std.proofs.Common.{◌≡◌, ℕ, zero, suc, Bool, true, false, cond, ◌<◌, List, [], ◌∷◌, length, get_or, refl, sym, ap, subst, ◌∙◌, true≢false, Option, Some, None, arith}
use Rattle.std.specs.Prelude.{slice_get, MatchBool, IfSome, IfNone}
use Rattle.std.specs.List.{position}
use Rattle.std.specs.Option.{is_some}
use Rattle.std.specs.Map.{lookup, keys_of}
use Rattle.std.specs.declared.cmp.Ordering.{Ordering}
use Rattle.std.specs.declared.cmp.Ordering.TheVariants.{Equal}
use Rattle.std.specs.Cmp.{IsTotalOrder, tied_itself, Equal-is}
use Rattle.std.specs.Ordering.{is_eq}
use Rattle.std.proofs.lemmas.Map.Entries.{place_from_lookup}
use Rattle.std.proofs.lemmas.List.Quantifiers.{position-Some}
use Rattle.std.proofs.lemmas.Option.{same_Some, none-some}
use Rattle.search_core.specs.Entries.{IsHeld, IsHeldAt, IsFresh}

pub none_of : {X : Type 0} (o : Option X) → is_some o ≡ false → o ≡ None
none_of None h = refl
none_of (Some x) h = absurd (true≢false h)

-- a look-up that misses fails at every place
missed_at : {K X : Type 0} (test : K → Bool) (es : List (K × X)) → is_some (lookup test es) ≡ false → (k : ℕ) (e : K × X) → slice_get es k ≡ Some e → test e.0 ≡ false
missed_at test [] none k e at = absurd (none-some e at)
missed_at {K} {X} test (x ∷ es) none zero e at = ap (λ (y : K × X). test y.0) (sym (same_Some x e at)) ∙ first (test x.0) none
  where
    first : (b : Bool) → is_some (cond b (Some x.1) (lookup test es)) ≡ false → b ≡ false
    first true h = absurd (true≢false h)
    first false h = refl
missed_at test (x ∷ es) none (suc k) e at = missed_at test es (rest (test x.0) none) k e at
  where
    rest : (b : Bool) → is_some (cond b (Some x.1) (lookup test es)) ≡ false → is_some (lookup test es) ≡ false
    rest true h = absurd (true≢false h)
    rest false h = h

-- the entry whose key stands at a place
entry_at : {K X : Type 0} (es : List (K × X)) (i : ℕ) (d : K) → i < length (keys_of es) → (e : K × X) × (slice_get es i ≡ Some e) × (e.0 ≡ get_or (keys_of es) i d)
entry_at [] i d within = absurd (omega arith)
entry_at (e ∷ es) zero d within = (e, refl, refl)
entry_at (e ∷ es) (suc i) d within = entry_at es i d (omega arith)

module _ {K : Type 0} (eq : K → K → Bool) (cmp : K → K → Ordering) (total : IsTotalOrder cmp) (matches : (x y : K) → eq x y ≡ is_eq (cmp x y)) (same : (x y : K) → cmp x y ≡ Equal → x ≡ y) where
  same_by_eq : (x y : K) → eq x y ≡ true → x ≡ y
  same_by_eq x y h = same x y ((Equal-is (cmp x y)).0 (sym (matches x y) ∙ h))

  eq_itself : (x : K) → eq x x ≡ true
  eq_itself x = matches x x ∙ ap is_eq (tied_itself total x)

  found : {X : Type 0} (es : List (K × X)) (s : K) → is_some (lookup (eq s) es) ≡ true → IsHeld es s
  found {X} es s is = by (lookup (eq s) es) refl is
    where
      by : (o : Option X) → lookup (eq s) es ≡ o → is_some o ≡ true → IsHeld es s
      by None e h = absurd (true≢false (sym h))
      by (Some v) e h =
          let p = place_from_lookup (eq s) es v e in
          record { place = p.0; entry = (p.1, v); at = p.2; state_is = sym (same_by_eq s p.1 p.3) }

  -- a look-up by place that hits
  pub held_at : {X : Type 0} (es : List (K × X)) (s : K) (o : Option ℕ) → o ≡ position (eq s) (keys_of es) → IfSome o (IsHeldAt es s)
  held_at es s None is = tt
  held_at es s (Some i) is =
      let p = position-Some (eq s) (keys_of es) i s (sym is) in
      let e = entry_at es i s p.0 in
      record { entry = e.0; at = e.1; state_is = e.2 ∙ sym (same_by_eq s _ p.1) }

  absent : {X : Type 0} (es : List (K × X)) (s : K) → is_some (lookup (eq s) es) ≡ false → IsFresh es s
  absent es s none held =
      let P : K → Type 0 = λ t. eq s t ≡ true in
      true≢false (sym (subst P (sym held.state_is) (eq_itself s)) ∙ missed_at (eq s) es none held.place held.entry held.at)

  -- whether a look-up hits tells whether the state is held
  pub held_or_not : {X : Type 0} (es : List (K × X)) (s : K) (b : Bool) → b ≡ is_some (lookup (eq s) es) → MatchBool b (IsHeld es s) (IsFresh es s)
  held_or_not es s true is = found es s (sym is)
  held_or_not es s false is = absent es s (sym is)

  -- one by place tells the same
  pub fresh_by : {X : Type 0} (es : List (K × X)) (s : K) (o : Option ℕ) → is_some o ≡ is_some (lookup (eq s) es) → IfNone o (IsFresh es s)
  fresh_by es s None is = absent es s (sym is)
  fresh_by es s (Some i) is = tt

  -- a state that is not held is looked up in vain
  pub lookup_fresh : {X : Type 0} (es : List (K × X)) (s : K) → IsFresh es s → lookup (eq s) es ≡ None
  lookup_fresh es s fresh = by (is_some (lookup (eq s) es)) refl
    where
      by : (b : Bool) → is_some (lookup (eq s) es) ≡ b → lookup (eq s) es ≡ None
      by true is = absurd (fresh (found es s is))
      by false is = none_of (lookup (eq s) es) is
