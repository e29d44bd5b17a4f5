-- The sets of the lists of a mark: for each list the one that shows that the goal has no level without it.
use Rattle.std.proofs.Common.{◌≡◌, ◌≤◌, ◌<◌, ℕ, zero, suc, ◌+◌, true, false, List, [], ◌∷◌, ◌++◌, length, map, take, get_or, refl, sym, ◌∙◌, ap, subst, inl, inr, arith}
use Rattle.std.specs.Prelude.{All}
use Rattle.std.proofs.lemmas.Bool.{cases_Bool, cases_eq, false≢true}
use Rattle.std.proofs.lemmas.List.{length-append, length-map, get_or-map, get_or_push, get_or_append_left, same_lists, take_all, take_more, length-take-le}
use Rattle.grd_base.specs.declared.ids.AtomId.{AtomId}
use Rattle.grd_base.specs.declared.ids.ActionId.{ActionId}
use Rattle.grd_base.specs.declared.ids.GoalId.{GoalId}
use Rattle.grd_base.specs.declared.limits.Bound.{Bound}
use Rattle.grd_base.specs.declared.limits.Bound.TheVariants.{Steps, Never}
use Rattle.grd_base.specs.Rising.{has_id}
use Rattle.grd_base.specs.Sets.{IsSubset}
use Rattle.strips_model.specs.Values.{PlainTask, IsTask, AreAtoms}
use Rattle.strips_model.specs.Plans.{State, IsOver, set_of, goal_holds}
use Rattle.strips_model.specs.StateLists.{atoms_in}
use Rattle.strips_model.specs.Cuts.{cut, IsFamily}
use Rattle.strips_model.proofs.StateListLemmas.{are_atoms}
use Rattle.level_bounds.proofs.FamilyLaws.{set_is}
use Rattle.cut_bounds.specs.CutMarks.{reached_around, AreAsMany, IsCutMark, IsEnough, sets_around}
use Rattle.cut_bounds.specs.Around.{IsAround}
use Rattle.cut_bounds.proofs.MarkLaws.{around_has, cut_in_list}

-- a set of the atoms that are reached around a list is around it
pub around_set : (t : PlainTask) (g : GoalId) (task : IsTask t) (removed : List ActionId) (s : State) (list : List ActionId) (wide : ℕ) (set : List AtomId) → set_of set ≡ reached_around t removed list s → AreAtoms wide set
    → goal_holds t g (reached_around t removed list s) ≡ false → IsAround t g removed s list set
around_set t g task removed s list wide set same are needed = record {
  contains = let P : State → Type 0 = λ u. IsSubset s u in subst P (sym same) (around_has t g removed s task list);
  leaves_open = ap (goal_holds t g) same ∙ needed;
  cut_in = λ a is. cut_in_list t g removed s task list a (ap (λ u. cut t removed u a) (sym same) ∙ is);
  exact = exact;
  atoms = λ over. subst (AreAtoms t.atoms) (sym (exact over)) (are_atoms (reached_around t removed list s) t.atoms);
}
  where
    exact : IsOver t s → set ≡ atoms_in t (reached_around t removed list s)
    exact over = set_is t (list ++ removed) s task over wide set t.atoms same are

-- each set is around its list
pub record AreAround (t : PlainTask) (g : GoalId) (removed : List ActionId) (s : State) (lists : List (List ActionId)) (sets : List (List AtomId)) : Type 0 where
  pub long : length sets ≡ length lists
  pub each : (i : ℕ) (d : List ActionId) (e : List AtomId) → i < length lists → IsAround t g removed s (get_or lists i d) (get_or sets i e)

module _ (t : PlainTask) (g : GoalId) (removed : List ActionId) (s : State) where
  pub around_none : (lists : List (List ActionId)) → AreAround t g removed s (take 0 lists) []
  around_none lists = record { long = refl; each = λ i d e low. absurd (omega (arith, low)) }

  pub around_more : (lists : List (List ActionId)) (i : ℕ) (d : List ActionId) → i < length lists → (sets : List (List AtomId)) (set : List AtomId) → AreAround t g removed s (take i lists) sets
      → IsAround t g removed s (get_or lists i d) set → AreAround t g removed s (take (i + 1) lists) (sets ++ set ∷ [])
  around_more lists i d within sets set so_far next =
      let front : length (take i lists) ≡ i = length-take-le i lists (omega (arith, within)) in
      let more : take (i + 1) lists ≡ take i lists ++ get_or lists i d ∷ [] = take_more lists i d within in
      subst (λ (l : List (List ActionId)). AreAround t g removed s l (sets ++ set ∷ [])) (sym more) (record {
        long = omega (arith, length-append sets (set ∷ []), length-append (take i lists) (get_or lists i d ∷ []), so_far.long);
        each = λ j b e low. elim (cases_eq j i) [
          | inl same ↦
              let in_lists : get_or (take i lists ++ get_or lists i d ∷ []) j b ≡ get_or lists i d = get_or_push (take i lists) (get_or lists i d) b j (front ∙ sym same) in
              let in_sets : get_or (sets ++ set ∷ []) j e ≡ set = get_or_push sets set e j (so_far.long ∙ front ∙ sym same) in
              subst (λ (l : List ActionId). IsAround t g removed s l (get_or (sets ++ set ∷ []) j e)) (sym in_lists) (subst (λ (u : List AtomId). IsAround t g removed s (get_or lists i d) u) (sym in_sets) next)
          | inr other ↦
              let before : j < length (take i lists) = omega (arith, low, length-append (take i lists) (get_or lists i d ∷ []), front) in
              let in_lists : get_or (take i lists ++ get_or lists i d ∷ []) j b ≡ get_or (take i lists) j b = get_or_append_left (take i lists) (get_or lists i d ∷ []) b j before in
              let in_sets : get_or (sets ++ set ∷ []) j e ≡ get_or sets j e = get_or_append_left sets (set ∷ []) e j (omega (arith, before, so_far.long)) in
              subst (λ (l : List ActionId). IsAround t g removed s l (get_or (sets ++ set ∷ []) j e)) (sym in_lists) (subst (λ (u : List AtomId). IsAround t g removed s (get_or (take i lists) j b) u) (sym in_sets) (so_far.each j b e before))
        ];
      })

  pub around_all : (lists : List (List ActionId)) (i : ℕ) → length lists ≤ i → (sets : List (List AtomId)) → AreAround t g removed s (take i lists) sets → AreAround t g removed s lists sets
  around_all lists i past sets are = subst (λ (l : List (List ActionId)). AreAround t g removed s l sets) (take_all i lists past) are

  module _ (lists : List (List ActionId)) (sets : List (List AtomId)) (are : AreAround t g removed s lists sets) where
    pub around_family : (bound : Bound) → IsCutMark t g removed s lists bound → IsFamily t g removed s sets
    around_family bound mark = record {
      contain = λ k e within. (are.each k [] e (omega (arith, within, are.long))).contains;
      leave_open = λ k e within. (are.each k [] e (omega (arith, within, are.long))).leaves_open;
      apart = λ i j e low high a in_i in_j.
          mark.apart i j [] low (omega (arith, high, are.long)) a ((are.each i [] e (omega (arith, low, high, are.long))).cut_in a in_i) ((are.each j [] e (omega (arith, high, are.long))).cut_in a in_j);
    }

    pub around_enough : (bound : Bound) → IsCutMark t g removed s lists bound → IsEnough t removed sets bound
    around_enough bound mark = by bound mark.many
      where
        by : (b : Bound) → AreAsMany lists b → IsEnough t removed sets b
        by (Steps n) many = are.long ∙ many.0
        by Never none = (
          are.long ∙ ap length none,
          λ k e within a. elim (cases_Bool (cut t removed (set_of (get_or sets k e)) a)) as (λ _. cut t removed (set_of (get_or sets k e)) a ≡ false) [
            | inl is ↦
                let low : k < length lists = omega (arith, within, are.long) in
                let in_list : has_id (get_or lists k []) a ≡ true = (are.each k [] e low).cut_in a is in
                absurd (false≢true (sym (ap (λ (l : List ActionId). has_id l a) (one_empty k (omega (arith, low, ap length none)))) ∙ ap (λ (ls : List (List ActionId)). has_id (get_or ls k []) a) (sym none) ∙ in_list))
            | inr out ↦ out
          ],
        )
          where
            one_empty : (k : ℕ) → k < 1 → get_or {A = List ActionId} ([] ∷ []) k [] ≡ []
            one_empty zero low = refl
            one_empty (suc k) low = absurd (omega (arith, low))

    pub around_exact : IsOver t s → sets ≡ sets_around t removed s lists
    around_exact over =
        let f : List ActionId → List AtomId = λ list. atoms_in t (reached_around t removed list s) in
        same_lists sets (map f lists) (are.long ∙ sym (length-map lists f))
        (λ i e within. let low : i < length lists = omega (arith, within, are.long) in (are.each i [] e low).exact over ∙ sym (get_or-map f lists i [] e low))

    pub around_atoms : IsOver t s → All (AreAtoms t.atoms) sets
    around_atoms over k e within = (are.each k [] e (omega (arith, within, are.long))).atoms over
