-- What lists that show a bound say of the ways to the goal.
use Rattle.std.proofs.Common.{◌≡◌, ◌≤◌, ◌<◌, ℕ, zero, suc, ◌+◌, Option, Some, None, Bool, true, false, not, ◌&&◌, ◌||◌, List, [], ◌∷◌, ◌++◌, length, map, get_or, refl, sym, ◌∙◌, ap, subst, inl, inr, arith}
use Rattle.std.specs.Prelude.{All, AllPairs, IsTrue, slice_get}
use Rattle.std.specs.Option.{option_map_or}
use Rattle.std.proofs.lemmas.Bool.{cases_Bool, false≢true, and_parts}
use Rattle.std.proofs.lemmas.List.{length-map, length-append}
use Rattle.std.proofs.lemmas.List.Elements.{All-nil, All-cons, All-tail, All-push}
use Rattle.std.proofs.lemmas.List.Kept.{AllPairs-cons}
use Rattle.std.proofs.lemmas.List.Quantifiers.{all_pairs_push}
use Rattle.grd_base.specs.declared.ids.AtomId.{AtomId}
use Rattle.grd_base.specs.declared.ids.ActionId.{ActionId}
use Rattle.grd_base.specs.declared.ids.GoalId.{GoalId}
use Rattle.grd_base.specs.declared.limits.Bound.{Bound}
use Rattle.grd_base.specs.declared.limits.Bound.TheVariants.{Steps, Never}
use Rattle.grd_base.specs.Rising.{has_id}
use Rattle.grd_base.specs.Sets.{IsSubset}
use Rattle.strips_model.specs.Values.{Goal, PlainTask, IsTask}
use Rattle.strips_model.specs.Plans.{State, IsOver, set_of, has_all, satisfies, goal_holds, Reaches}
use Rattle.strips_model.specs.StateLists.{atoms_in}
use Rattle.strips_model.specs.Cuts.{cut, leads_out, AreDisjoint, IsEmptyCut, AreApart, IsFamily}
use Rattle.strips_model.specs.Levels.{grown, after_rounds, IsLevel}
use Rattle.strips_model.proofs.StateListLemmas.{atoms_have}
use Rattle.level_bounds.specs.Floors.{MeetsBound}
use Rattle.strips_model.proofs.LevelLaws.{goal_more, set_within, rounds_rise, rounds_over, grown_mono, closed_never}
use Rattle.strips_model.proofs.CutLaws.{closed_empty, empty_closed}
use Rattle.strips_model.proofs.LevelNumbers.{rounds_end}
use Rattle.cut_bounds.specs.CutMarks.{reached_around, ShareNone, AreAsMany, IsCutMark, IsEntering, IsClosedUnder, IsZone, goal_atoms}
use Rattle.cut_bounds.proofs.ReachLemmas.{Meets, disjoint_met, cut_met}

-- an action of two lists in one is in one of them
pub has_append : (xs ys : List ActionId) (a : ActionId) → has_id (xs ++ ys) a ≡ (has_id xs a || has_id ys a)
has_append [] ys a = refl
has_append (x ∷ xs) ys a = grind (arith, has_append xs ys a)

-- what holds of a list's images
pub all_map : {X Y : Type 0} (f : X → Y) (P : X → Type 0) (Q : Y → Type 0) → ((x : X) → P x → Q (f x)) → (xs : List X) → All P xs → All Q (map f xs)
all_map f P Q each [] all = All-nil Q
all_map f P Q each (x ∷ xs) all = All-cons Q (f x) (map f xs) (each x (all 0 x (omega arith))) (all_map f P Q each xs (All-tail P x xs all))

pub pairs_map : {X Y : Type 0} (f : X → Y) (R : X → X → Type 0) (Q : Y → Y → Type 0) → ((x y : X) → R x y → Q (f x) (f y)) → (xs : List X) → AllPairs R xs → AllPairs Q (map f xs)
pairs_map f R Q each [] all = λ i j d low high. absurd (omega (arith, high))
pairs_map f R Q each (x ∷ xs) all =
    AllPairs-cons Q (f x) (map f xs) (all_map f (R x) (Q (f x)) (λ y r. each x y r) xs (λ k d within. all 0 (suc k) d (omega arith) (omega arith)))
    (pairs_map f R Q each xs (λ i j d low high. all (suc i) (suc j) d (omega arith) (omega arith)))

module _ (t : PlainTask) (g : GoalId) (removed : List ActionId) (s : State) where
  module _ (task : IsTask t) where
    -- the cut of what is reached around a list is within the list
    pub cut_in_list : (list : List ActionId) (a : ActionId) → cut t removed (reached_around t removed list s) a ≡ true → has_id list a ≡ true
    unfolding cut
    cut_in_list list a is =
        let u : State = reached_around t removed list s in
        let parts = and_parts (not (has_id removed a)) (option_map_or (leads_out u) (slice_get t.actions a.0) false) is in
        let empty : cut t (list ++ removed) u a ≡ false = closed_empty t (list ++ removed) u (rounds_end t task (list ++ removed) s) a in
        by (has_id list a) (has_id removed a) (has_append list removed a) parts.0 parts.1 empty
      where
        by : (b c : Bool) → has_id (list ++ removed) a ≡ (b || c) → not c ≡ true → option_map_or (leads_out (reached_around t removed list s)) (slice_get t.actions a.0) false ≡ true
            → (not (has_id (list ++ removed) a) && option_map_or (leads_out (reached_around t removed list s)) (slice_get t.actions a.0) false) ≡ false → b ≡ true
        by true c in_either kept leads empty = refl
        by false true in_either kept leads empty = absurd (false≢true kept)
        by false false in_either kept leads empty =
            absurd (false≢true (sym empty ∙ ap (λ b. not b && option_map_or (leads_out (reached_around t removed list s)) (slice_get t.actions a.0) false) in_either ∙ leads))

    -- the state is within what is reached
    pub around_has : (list : List ActionId) → IsSubset s (reached_around t removed list s)
    unfolding after_rounds
    around_has list = rounds_rise t (list ++ removed) s 0 t.atoms (omega arith)

    module _ (lists : List (List ActionId)) (bound : Bound) (mark : IsCutMark t g removed s lists bound) where
      cuts_apart_by : (c d : List ActionId) → ShareNone c d → AreDisjoint (cut t removed (reached_around t removed c s)) (cut t removed (reached_around t removed d s))
      cuts_apart_by c d share a in_c in_d = share a (cut_in_list c a in_c) (cut_in_list d a in_d)

      -- no way to the goal is shorter than the bound
      pub mark_steps : (p : List ActionId) → Reaches t g removed s p → MeetsBound bound (length p)
      mark_steps p reaches = by bound mark.many
        where
          meets : All (λ (list : List ActionId). Meets (cut t removed (reached_around t removed list s)) p) lists
          meets k d within = cut_met t g removed p s (reached_around t removed (get_or lists k d) s) (around_has (get_or lists k d)) (mark.needed k d within) reaches

          by : (b : Bound) → AreAsMany lists b → MeetsBound b (length p)
          by (Steps n) many =
              let fewer : length lists ≤ length p = disjoint_met (λ (list : List ActionId). cut t removed (reached_around t removed list s)) lists p meets
              (λ i j d low high. cuts_apart_by (get_or lists i d) (get_or lists j d) (mark.apart i j d low high)) in
              omega (arith, many.0, fewer)
          by Never none =
              let P : List (List ActionId) → Type 0 = λ ls. All (λ (list : List ActionId). Meets (cut t removed (reached_around t removed list s)) p) ls in
              let m = subst P none meets 0 [] (omega arith) in
              false≢true (cut_in_list [] m.1 m.4)

      -- lists of the atoms that are reached around each list are a family
      module _ (around : List ActionId → List AtomId) (is : (list : List ActionId) → set_of (around list) ≡ reached_around t removed list s) where
        pub mark_family : IsFamily t g removed s (map around lists)
        mark_family = record {
          contain = all_map around (λ (list : List ActionId). goal_holds t g (reached_around t removed list s) ≡ false) (λ u. IsSubset s (set_of u))
              (λ list unmet. let P : State → Type 0 = λ u. IsSubset s u in subst P (sym (is list)) (around_has list)) lists mark.needed;
          leave_open = all_map around (λ (list : List ActionId). goal_holds t g (reached_around t removed list s) ≡ false) (λ u. goal_holds t g (set_of u) ≡ false)
              (λ list needed. ap (goal_holds t g) (is list) ∙ needed) lists mark.needed;
          apart = pairs_map around ShareNone (AreApart t removed)
              (λ c d share a in_c in_d.
              let P : State → Type 0 = λ u. cut t removed u a ≡ true in
              share a (cut_in_list c a (subst P (is c) in_c)) (cut_in_list d a (subst P (is d) in_d))) lists mark.apart;
        }

        -- for `Never` the one set has an empty cut
        pub mark_empty : bound ≡ Never → All (λ u. IsEmptyCut (cut t removed (set_of u))) (map around lists)
        mark_empty never =
            let P : Bound → Type 0 = λ b. AreAsMany lists b in
            let Q : List (List ActionId) → Type 0 = λ ls. All (λ u. IsEmptyCut (cut t removed (set_of u))) (map around ls) in
            let R : State → Type 0 = λ u. IsEmptyCut (cut t removed u) in
            subst Q (sym (subst P never mark.many)) (All-cons (λ u. IsEmptyCut (cut t removed (set_of u))) (around []) []
            (subst R (sym (is [])) (closed_empty t removed (reached_around t removed [] s) (rounds_end t task removed s))) (All-nil (λ u. IsEmptyCut (cut t removed (set_of u)))))

    -- the atoms of the task that are reached around a list, where the state is one of the task's
    pub atoms_around : IsOver t s → (list : List ActionId) → set_of (atoms_in t (reached_around t removed list s)) ≡ reached_around t removed list s
    atoms_around over list = atoms_have (reached_around t removed list s) t.atoms (rounds_over t task (list ++ removed) s over t.atoms)

    -- a mark shows `Never` only where the goal has no level
    pub mark_never : (lists : List (List ActionId)) → IsCutMark t g removed s lists Never → IsLevel t g removed s None
    mark_never lists mark =
        let P : List (List ActionId) → Type 0 = λ ls. All (λ (list : List ActionId). goal_holds t g (reached_around t removed list s) ≡ false) ls in
        let open_last : goal_holds t g (after_rounds t removed s t.atoms) ≡ false = subst P mark.many mark.needed 0 [] (omega arith) in
        closed_never t g removed s t.atoms (rounds_end t task removed s)
        (λ j low. elim (cases_Bool (goal_holds t g (after_rounds t removed s j))) [
          | inl holds ↦ absurd (false≢true (sym open_last ∙ goal_more t g (after_rounds t removed s j) (after_rounds t removed s t.atoms) (rounds_rise t removed s j t.atoms low) holds))
          | inr unmet ↦ unmet
        ])

  -- a list with the actions that lead out of a set that contains the state: the reached atoms stay in the
  -- set, so that a goal that it leaves open is not reached
  module _ (list : List ActionId) (u : State) (within : IsSubset s u) (has : (a : ActionId) → cut t removed u a ≡ true → has_id list a ≡ true) where
    none_leads : IsEmptyCut (cut t (list ++ removed) u)
    unfolding cut
    none_leads a = by (has_id list a) (has_id removed a) (has_append list removed a) (has a)
      where
        leads : Bool
        leads = option_map_or (leads_out u) (slice_get t.actions a.0) false

        by : (b c : Bool) → has_id (list ++ removed) a ≡ (b || c) → ((not c && leads) ≡ true → b ≡ true) → (not (has_id (list ++ removed) a) && leads) ≡ false
        by true c in_either more = ap (λ x. not x && leads) in_either
        by false true in_either more = ap (λ x. not x && leads) in_either
        by false false in_either more = elim (cases_Bool leads) [
          | inl is ↦ absurd (false≢true (more is))
          | inr none ↦ ap (λ x. not x && leads) in_either ∙ none
        ]

    stays_within : (k : ℕ) → IsSubset (after_rounds t (list ++ removed) s k) u
    unfolding after_rounds
    stays_within zero = within
    stays_within (suc k) =
        let P : State → Type 0 = λ v. IsSubset (grown t (list ++ removed) (after_rounds t (list ++ removed) s k)) v in
        subst P (empty_closed t (list ++ removed) u none_leads) (grown_mono t (list ++ removed) (after_rounds t (list ++ removed) s k) u (stays_within k))

    pub open_around : goal_holds t g u ≡ false → goal_holds t g (reached_around t removed list s) ≡ false
    open_around unmet = elim (cases_Bool (goal_holds t g (reached_around t removed list s))) [
      | inl holds ↦ absurd (false≢true (sym unmet ∙ goal_more t g (reached_around t removed list s) u (stays_within t.atoms) holds))
      | inr still ↦ still
    ]

  -- the cuts of sets, as lists: where each set has the state and leaves the goal open, and no two cuts share
  -- an action, no two lists do, and each is needed
  module _ {X : Type 0} (set : X → State) (list_of : X → List ActionId) (exact : (x : X) (a : ActionId) → has_id (list_of x) a ≡ cut t removed (set x) a) where
    sets_apart : (xs : List X) → AllPairs (λ x y. AreDisjoint (cut t removed (set x)) (cut t removed (set y))) xs → AllPairs ShareNone (map list_of xs)
    sets_apart xs apart = pairs_map list_of (λ x y. AreDisjoint (cut t removed (set x)) (cut t removed (set y))) ShareNone (λ x y disjoint a in_x in_y. disjoint a (sym (exact x a) ∙ in_x) (sym (exact y a) ∙ in_y)) xs apart

    sets_needed : (xs : List X) → All (λ x. IsSubset s (set x) × (goal_holds t g (set x) ≡ false)) xs → All (λ (list : List ActionId). goal_holds t g (reached_around t removed list s) ≡ false) (map list_of xs)
    sets_needed xs around = all_map list_of (λ x. IsSubset s (set x) × (goal_holds t g (set x) ≡ false)) (λ (list : List ActionId). goal_holds t g (reached_around t removed list s) ≡ false)
        (λ x both. open_around (list_of x) (set x) both.0 (λ a leads. exact x a ∙ leads) both.1) xs around

    -- as many lists as sets, where no cut is empty
    pub mark_of_sets : (xs : List X) → All (λ x. IsSubset s (set x) × (goal_holds t g (set x) ≡ false)) xs → AllPairs (λ x y. AreDisjoint (cut t removed (set x)) (cut t removed (set y))) xs
        → All (λ x. IsEmptyCut (cut t removed (set x)) → ⊥) xs → IsCutMark t g removed s (map list_of xs) (Steps (length xs))
    mark_of_sets xs around apart full = record {
      apart = sets_apart xs apart;
      needed = sets_needed xs around;
      many = (length-map xs list_of, all_map list_of (λ x. IsEmptyCut (cut t removed (set x)) → ⊥) (λ (list : List ActionId). 0 < length list) (λ x not. some_in x (list_of x) refl not) xs full);
    }
      where
        some_in : (x : X) (list : List ActionId) → list_of x ≡ list → (IsEmptyCut (cut t removed (set x)) → ⊥) → 0 < length list
        some_in x [] is not = absurd (not (λ a. sym (exact x a) ∙ ap (λ (l : List ActionId). has_id l a) is))
        some_in x (y ∷ list) is not = omega arith

  -- so the family that shows a level gives a mark
  pub mark_of_family : (list_of : List AtomId → List ActionId) → ((u : List AtomId) (a : ActionId) → has_id (list_of u) a ≡ cut t removed (set_of u) a)
      → (sets : List (List AtomId)) → IsFamily t g removed s sets → All (λ u. IsEmptyCut (cut t removed (set_of u)) → ⊥) sets → IsCutMark t g removed s (map list_of sets) (Steps (length sets))
  mark_of_family list_of exact sets family full = mark_of_sets set_of list_of exact sets (λ k d within. (family.contain k d within, family.leave_open k d within)) family.apart full

  -- one set with an empty cut shows `Never`
  pub never_of_set : (u : State) → IsSubset s u → goal_holds t g u ≡ false → IsEmptyCut (cut t removed u) → IsCutMark t g removed s ([] ∷ []) Never
  never_of_set u within unmet empty = record {
    apart = AllPairs-cons ShareNone [] [] (All-nil (ShareNone [])) (λ i j d low high. absurd (omega (arith, high)));
    needed = All-cons (λ (l : List ActionId). goal_holds t g (reached_around t removed l s) ≡ false) [] []
        (open_around [] u within (λ a leads. absurd (false≢true (sym (empty a) ∙ leads))) unmet) (All-nil (λ (l : List ActionId). goal_holds t g (reached_around t removed l s) ≡ false));
    many = refl;
  }

  -- no list yet
  pub mark_none : IsCutMark t g removed s [] (Steps 0)
  mark_none = record {
    apart = λ i j d low high. absurd (omega (arith, high));
    needed = All-nil (λ (list : List ActionId). goal_holds t g (reached_around t removed list s) ≡ false);
    many = (omega arith, All-nil (λ (list : List ActionId). 0 < length list));
  }

  -- one list more
  pub mark_push : (lists : List (List ActionId)) (n : ℕ) (list : List ActionId) → IsCutMark t g removed s lists (Steps n) → 0 < length list → All (λ (other : List ActionId). ShareNone other list) lists
      → goal_holds t g (reached_around t removed list s) ≡ false → IsCutMark t g removed s (lists ++ list ∷ []) (Steps (n + 1))
  mark_push lists n list mark some apart unmet = record {
    apart = all_pairs_push ShareNone lists list mark.apart apart;
    needed = All-push (λ (other : List ActionId). goal_holds t g (reached_around t removed other s) ≡ false) lists list mark.needed unmet;
    many = (omega (arith, length-append lists (list ∷ []), mark.many.0), All-push (λ (other : List ActionId). 0 < length other) lists list mark.many.1 some);
  }

-- actions that enter the zone from a set outside it are none of those under which it is closed
pub zone_apart : (t : PlainTask) (u zone : State) (used list : List ActionId) → IsClosedUnder t zone used → ((n : ℕ) → IsTrue (u n) → IsTrue (zone n) → ⊥)
    → ((a : ActionId) → IsTrue (has_id list a) → IsEntering t u zone a) → ShareNone used list
zone_apart t u zone used list closed outside enters a in_used in_list =
    let e : IsEntering t u zone a = enters a in_list in
    let (m, needs, inside) = closed a e.action e.atom in_used e.at e.adds e.inside in
    outside m (set_within u e.action.pre e.applies m needs) inside

-- a goal that holds has all of its atoms
pub holds_all : (t : PlainTask) (g : GoalId) (u : State) → goal_holds t g u ≡ true → has_all u (goal_atoms t g) ≡ true
holds_all t g u h = by (slice_get t.goals g.0) h
  where
    by : (o : Option Goal) → option_map_or (λ goal. satisfies goal u) o false ≡ true → has_all u (option_map_or (λ goal. goal.atoms) o []) ≡ true
    by None h = absurd (false≢true h)
    by (Some goal) h = (and_parts (not goal.blocked) (has_all u goal.atoms) h).1

module _ (t : PlainTask) (g : GoalId) (removed : List ActionId) (s : State) (lists : List (List ActionId)) (zone reached : State) (list : List ActionId) (z : IsZone t g removed s lists zone reached list) where
  -- the goal is open in what is reached, and so around the list
  zone_needed : goal_holds t g (reached_around t removed list s) ≡ false
  zone_needed = open_around t g removed s list reached z.has_state z.has_cut (elim (cases_Bool (goal_holds t g reached)) [
    | inl holds ↦ absurd (z.outside z.goal_atom (set_within reached (goal_atoms t g) (holds_all t g reached holds) z.goal_atom z.of_goal) z.in_zone)
    | inr unmet ↦ unmet
  ])

  -- one list more
  pub zone_more : (n : ℕ) → IsCutMark t g removed s lists (Steps n) → 0 < length list → IsCutMark t g removed s (lists ++ list ∷ []) (Steps (n + 1))
  zone_more n mark some = mark_push t g removed s lists n list mark some
      (λ k d within. zone_apart t reached zone (get_or lists k d) list (z.closed k d within) z.outside z.enters) zone_needed

  -- no action leads into the zone
  pub zone_never : list ≡ [] → IsCutMark t g removed s ([] ∷ []) Never
  zone_never none =
      let P : List ActionId → Type 0 = λ l. goal_holds t g (reached_around t removed l s) ≡ false in
      record {
        apart = AllPairs-cons ShareNone [] [] (All-nil (ShareNone [])) (λ i j d low high. absurd (omega (arith, high)));
        needed = All-cons (λ (l : List ActionId). goal_holds t g (reached_around t removed l s) ≡ false) [] [] (subst P none zone_needed) (All-nil (λ (l : List ActionId). goal_holds t g (reached_around t removed l s) ≡ false));
        many = refl;
      }
