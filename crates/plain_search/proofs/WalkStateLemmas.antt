-- Look-ups among the visited states.
use Rattle.std.proofs.Common.{◌≡◌, ℕ, zero, suc, Bool, true, false, cond, Decides, List, [], ◌∷◌, ◌++◌, length, get_or, refl, sym, ap, ◌∙◌, inl, inr, Option, Some, None, true≢false, arith, ◌≤◌}
use Rattle.std.specs.Prelude.{slice_get, IfSome, IfNone, position}
use Rattle.std.specs.Option.{is_some, option_map}
use Rattle.std.specs.Map.{lookup, keys_of, values_of}
use Rattle.std.proofs.lemmas.Map.Entries.{place_from_lookup}
use Rattle.std.proofs.lemmas.List.{map_push, length-map}
use Rattle.std.proofs.lemmas.List.Quantifiers.{position-Some}
use Rattle.std.proofs.lemmas.Option.{slice_get-get_or}
use mathlib.Core.Path.{subst}
use Rattle.grd_base.specs.declared.bits.Bits.{Bits}
use Rattle.grd_base.specs.Bits.{members}
use Rattle.grd_base.proofs.SameLemmas.{bits_eq, bits_eq-Decides, same_by_members}
use Rattle.plain_search.specs.declared.visited.Step.{Step}
use Rattle.grd_base.specs.Bits.{IsWhole}
use Rattle.plain_search.specs.Walks.{Visit, visit_of, visits, AreWhole, HasState, IsNoted}
use Rattle.plain_search.proofs.WalkPlaceLemmas.{pushed_cases, Any-from_at, at_from_Any, at_of_map, map_at}

pub none_of : {X : Type 0} (o : Option X) → is_some o ≡ false → o ≡ None
none_of None h = refl
none_of (Some x) h = absurd (true≢false h)

module _ {W : ℕ} where
  pub length-visits : (es : List (Bits W × Step)) → length (visits es) ≡ length es
  length-visits es = length-map es visit_of

  -- the visit at the place of a step
  pub visit_at : (es : List (Bits W × Step)) (k : ℕ) (step : Step) → slice_get (values_of es) k ≡ Some step
      → (v : Visit) × (slice_get (visits es) k ≡ Some v) × (v.parent ≡ step.parent) × (v.action ≡ step.action)
  visit_at es k step at =
      let e = at_of_map (λ (e : Bits W × Step). e.1) es k step at in
      (visit_of e.0, map_at visit_of es k e.0 e.1, ap (λ (s : Step). s.parent) e.2, ap (λ (s : Step). s.action) e.2)

  -- a look-up that misses fails at every place
  missed_at : (test : Bits W → Bool) (es : List (Bits W × Step)) → is_some (lookup test es) ≡ false → (k : ℕ) (e : Bits W × Step) → slice_get es k ≡ Some e → test e.0 ≡ false
  missed_at test [] none k e at = cc
  missed_at test (x ∷ es) none zero e at = let same : x ≡ e = cc in ap (λ (y : Bits W × Step). test y.0) (sym same) ∙ first (test x.0) none
    where
      first : (b : Bool) → is_some (cond b (Some x.1) (lookup test es)) ≡ false → b ≡ false
      first true h = absurd (true≢false h)
      first false h = refl
  missed_at test (x ∷ es) none (suc k) e at = missed_at test es (rest (test x.0) none) k e at
    where
      rest : (b : Bool) → is_some (cond b (Some x.1) (lookup test es)) ≡ false → is_some (lookup test es) ≡ false
      rest true h = absurd (true≢false h)
      rest false h = h

  pub found : (es : List (Bits W × Step)) (s : Bits W) → is_some (lookup (bits_eq s) es) ≡ true → HasState (visits es) (members s)
  found es s is = by (lookup (bits_eq s) es) refl is
    where
      by : (o : Option Step) → lookup (bits_eq s) es ≡ o → is_some o ≡ true → HasState (visits es) (members s)
      by None e h = absurd (true≢false (sym h))
      by (Some v) e h =
          let p = place_from_lookup (bits_eq s) es v e in
          let same : s ≡ p.1 = (bits_eq-Decides s p.1).0 p.3 in
          Any-from_at (λ (x : Visit). x.state ≡ members s) (visits es) p.0 (visit_of (p.1, v)) (map_at visit_of es p.0 (p.1, v) p.2) (ap members (sym same))

  pub absent : (es : List (Bits W × Step)) (s : Bits W) → AreWhole es → IsWhole s → is_some (lookup (bits_eq s) es) ≡ false → HasState (visits es) (members s) → ⊥
  absent es s whole whole_s none has =
      let a = at_from_Any (λ (x : Visit). x.state ≡ members s) (visits es) has in
      let b = at_of_map visit_of es a.0 a.1 a.2 in
      let alike : members b.0.0 ≡ members s = ap (λ (x : Visit). x.state) b.2 ∙ a.3 in
      let same : b.0.0 ≡ s = same_by_members b.0.0 s (whole a.0 b.0 b.1) whole_s alike in
      true≢false (sym ((bits_eq-Decides s b.0.0).1 (sym same)) ∙ missed_at (bits_eq s) es none a.0 b.0 b.1)

  -- the place that a look-up gives has the state, and where it gives none the state is not visited
  pub place_found : (es : List (Bits W × Step)) (s : Bits W) (r : Option ℕ) → r ≡ position (bits_eq s) (keys_of es)
      → IfSome r (λ place. option_map (λ (v : Visit). v.state) (slice_get (visits es) place) ≡ Some (members s))
  place_found es s None is = tt
  place_found es s (Some place) is =
      let p = position-Some (bits_eq s) (keys_of es) place s (sym is) in
      let e = at_of_map (λ (x : Bits W × Step). x.0) es place (get_or (keys_of es) place s) (slice_get-get_or (keys_of es) place s p.0) in
      let same : s ≡ e.0.0 = (bits_eq-Decides s e.0.0).0 (ap (bits_eq s) e.2 ∙ p.1) in
      ap (option_map (λ (v : Visit). v.state)) (map_at visit_of es place e.0 e.1) ∙ ap (λ (b : Bits W). Some (members b)) (sym same)

  pub place_none : (es : List (Bits W × Step)) (s : Bits W) (r : Option ℕ) → AreWhole es → IsWhole s → is_some r ≡ is_some (lookup (bits_eq s) es)
      → IfNone r (HasState (visits es) (members s) → ⊥)
  place_none es s None whole whole_s is = absent es s whole whole_s (sym is)
  place_none es s (Some place) whole whole_s is = tt

  pub whole_pushed : (es : List (Bits W × Step)) (s : Bits W) (step : Step) → AreWhole es → IsWhole s → AreWhole (es ++ (s, step) ∷ [])
  whole_pushed es s step whole whole_s k e at = elim (pushed_cases es (s, step) e k at) [
    | inl old ↦ whole k e old
    | inr new ↦ subst (λ (x : Bits W × Step). IsWhole x.0) (sym new.1) whole_s
  ]

  pub noted_new : (es fs : List (Bits W × Step)) (s : Bits W) (step : Step) → (HasState (visits es) (members s) → ⊥) → fs ≡ es ++ (s, step) ∷ [] → IsNoted (visits es) (visits fs) (visit_of (s, step))
  noted_new es fs s step fresh e = inr (fresh, ap visits e ∙ map_push visit_of es (s, step))

  -- the state at a place, or none past the end
  pub state_there : (vs : List Visit) (k : ℕ) (s : Bits W) → option_map members (Some s) ≡ option_map (λ (v : Visit). v.state) (slice_get vs k)
      → (v : Visit) × (slice_get vs k ≡ Some v) × (v.state ≡ members s)
  state_there [] k s e = cc
  state_there (v ∷ vs) zero s e = (v, refl, cc)
  state_there (v ∷ vs) (suc k) s e = state_there vs k s e

pub no_state : (vs : List Visit) (k : ℕ) → None ≡ option_map (λ (v : Visit). v.state) (slice_get vs k) → length vs ≤ k
no_state [] k e = omega arith
no_state (v ∷ vs) zero e = cc
no_state (v ∷ vs) (suc k) e = let rest : length vs ≤ k = no_state vs k e in omega arith
