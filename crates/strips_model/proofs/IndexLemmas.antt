-- The lists of an index of actions, one of which is exchanged.
use Rattle.std.proofs.Common.{◌≡◌, ◌≢◌, ℕ, ◌<◌, List, [], length, map, get_or, slice_set, sym, ◌∙◌, ap, subst, arith, Option, Some, None, refl}
use Rattle.std.specs.Prelude.{slice_get, All}
use Rattle.std.specs.Option.{option_map, unwrap_or}
use Rattle.std.proofs.lemmas.List.{length-map, get_or-map, map-set, get_or-set_same, get_or-set_other}
use Rattle.std.proofs.lemmas.Option.{slice_get-map, slice_get_within, get_or_from_slice_get, unwrap_or-slice_get}
use Rattle.grd_base.specs.declared.ids.ActionId.{ActionId}
use Rattle.strips_model.specs.Index.{listed}

module _ {X : Type 0} (f : X → List ActionId) (xs : List X) where
  -- where each list is empty, each atom has the empty list
  pub listed_none : (n : ℕ) → All (λ x. f x ≡ []) xs → listed (map f xs) n ≡ []
  listed_none n empty = ap (λ o. unwrap_or o []) (slice_get-map f xs n) ∙ by (slice_get xs n) refl
    where
      by : (o : Option X) → slice_get xs n ≡ o → unwrap_or (option_map f o) [] ≡ []
      by None at = refl
      by (Some x) at = subst (λ y. f y ≡ []) (get_or_from_slice_get xs n x x at) (empty n x (slice_get_within xs n x at))

  -- an atom whose list is exchanged has the new one
  pub listed_new : (i : ℕ) (x : X) → i < length xs → listed (map f (slice_set xs i x)) i ≡ f x
  listed_new i x within =
      let long : length (map f xs) ≡ length xs = length-map xs f in
      unwrap_or-slice_get (map f (slice_set xs i x)) i [] ∙ ap (λ ys. get_or ys i []) (map-set f xs i x) ∙ get_or-set_same (map f xs) i (f x) [] (omega arith)

  -- and each other atom keeps its own
  pub listed_kept : (i n : ℕ) (x : X) → n ≢ i → listed (map f (slice_set xs i x)) n ≡ listed (map f xs) n
  listed_kept i n x other =
      unwrap_or-slice_get (map f (slice_set xs i x)) n [] ∙ ap (λ ys. get_or ys n []) (map-set f xs i x) ∙ get_or-set_other (map f xs) i n (f x) [] other
      ∙ sym (unwrap_or-slice_get (map f xs) n [])

  -- the list of an atom that has one
  pub listed_at : (i : ℕ) (d : X) → i < length xs → listed (map f xs) i ≡ f (get_or xs i d)
  listed_at i d within = unwrap_or-slice_get (map f xs) i [] ∙ get_or-map f xs i d [] within
