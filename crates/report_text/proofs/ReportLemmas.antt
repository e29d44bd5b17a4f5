-- The report, goal by goal.
use Rattle.std.proofs.Common.{◌≡◌, ℕ, ◌+◌, ◌<◌, ◌≤◌, List, [], ◌∷◌, ◌++◌, length, map, get_or, take, sym, ◌∙◌, ap, append_assoc, append-nil, add-zero, suc, arith, Option, Some, length-take}
use Rattle.std.specs.Prelude.{slice_get, unwrap_or}
use Rattle.std.specs.Option.{option_map}
use Rattle.std.proofs.lemmas.List.{take_more, take_all, length-map, length-take-le, get_or-map}
use Rattle.std.proofs.lemmas.Option.{slice_get-map}
use Rattle.grd_base.specs.declared.ids.ActionId.{ActionId}
use Rattle.ground_all.specs.Names.{IsTextAt}
use Rattle.report_text.specs.Reports.{cost_line, cost_lines}

-- a text that was written to the front of bytes of its length is all of them
pub whole_text : {X : Type 0} (text_of : X → List ℕ) (items : List X) (number n size : ℕ) (bytes : List ℕ)
    → n ≤ length bytes → length bytes ≡ size → ((item : X) → slice_get items number ≡ Some item → size ≡ length (text_of item))
    → IsTextAt text_of items number (take n bytes) → bytes ≡ unwrap_or (slice_get (map text_of items) number) []
whole_text text_of items number n size bytes within many sized text =
    let front : length (take n bytes) ≡ n = length-take-le n bytes within in
    let long : length (take n bytes) ≡ size = ap length text.is ∙ sym (sized text.item text.there) in
    let there = slice_get-map text_of items number ∙ ap (option_map text_of) text.there in
    sym (take_all n bytes (omega arith)) ∙ text.is ∙ sym (ap (λ o. unwrap_or o []) there)

-- one goal more
pub cost_lines-push : (ns : List (List ℕ)) (k : ℕ) (xs : List (Option (List ActionId))) (x : Option (List ActionId))
    → cost_lines ns k (xs ++ x ∷ []) ≡ cost_lines ns k xs ++ cost_line ns (k + length xs) x
cost_lines-push ns k [] x = append-nil (cost_line ns k x) ∙ ap (λ n. cost_line ns n x) (sym (add-zero k))
cost_lines-push ns k (y ∷ xs) x =
    ap (λ t. cost_line ns k y ++ t) (cost_lines-push ns (k + 1) xs x ∙ ap (λ n. cost_lines ns (k + 1) xs ++ cost_line ns n x) (shift (length xs)))
    ∙ sym (append_assoc (cost_line ns k y) (cost_lines ns (k + 1) xs) (cost_line ns (k + suc (length xs)) x))
  where
    shift : (n : ℕ) → k + 1 + n ≡ k + suc n
    shift n = omega arith

-- the line of the next goal
pub cost_report_more : {A : Type 0} (ns : List (List ℕ)) (h : A → Option (List ActionId)) (xs : List A) (i : ℕ) (x : A) (start old new : List ℕ)
    → i < length xs → x ≡ get_or xs i x
    → old ≡ start ++ cost_lines ns 1 (take i (map h xs))
    → new ≡ old ++ cost_line ns (i + 1) (h x)
    → new ≡ start ++ cost_lines ns 1 (take (i + 1) (map h xs))
cost_report_more ns h xs i x start old new within is before step =
    let many : length (map h xs) ≡ length xs = length-map xs h in
    let here : get_or (map h xs) i (h x) ≡ h x = get_or-map h xs i x (h x) within ∙ ap h (sym is) in
    let more : take (i + 1) (map h xs) ≡ take i (map h xs) ++ h x ∷ [] =
    take_more (map h xs) i (h x) (omega arith) ∙ ap (λ y. take i (map h xs) ++ y ∷ []) here in
    let place : i + 1 ≡ 1 + length (take i (map h xs)) = omega (arith, length-take i (map h xs)) in
    step ∙ ap (λ t. t ++ cost_line ns (i + 1) (h x)) before
    ∙ append_assoc start (cost_lines ns 1 (take i (map h xs))) (cost_line ns (i + 1) (h x))
    ∙ ap (λ t. start ++ t) (ap (λ n. cost_lines ns 1 (take i (map h xs)) ++ cost_line ns n (h x)) place
    ∙ sym (cost_lines-push ns 1 (take i (map h xs)) (h x)) ∙ ap (cost_lines ns 1) (sym more))
