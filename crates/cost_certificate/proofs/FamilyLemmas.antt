-- Sets that join a family, and the fault of one that does not.
use Rattle.std.proofs.Common.{◌≡◌, ◌↔◌, ◌⊎◌, ◌||◌, ◌==◌, ℕ, ◌+◌, ◌<◌, ◌≤◌, false, IsTrue, List, [], ◌∷◌, ◌++◌, length, Vec, Global, map, take, drop, get_or, Contains, refl, sym, ◌∙◌, ap, subst, inl, inr, arith}
use Rattle.std.specs.Prelude.{All, Any}
use Rattle.std.proofs.lemmas.Bool.{false≢true, or_cases, or_left, or_right, eqb-true, false_from_ne_true}
use Rattle.std.proofs.lemmas.List.{take-append-drop, take_all, take_more, drop_more, length-take-le, length-map, get_or-map}
use Rattle.std.proofs.lemmas.List.Elements.{All-nil, All-push, All-contains, Contains-push_cases, Contains-append_left, Contains-get_or}
use Rattle.std.proofs.lemmas.List.Quantifiers.{Any-push, all_pairs_push}
use Rattle.grd_base.specs.declared.ids.AtomId.{AtomId}
use Rattle.grd_base.specs.declared.ids.ActionId.{ActionId}
use Rattle.grd_base.specs.declared.ids.GoalId.{GoalId}
use Rattle.grd_base.specs.declared.limits.Bound.{Bound}
use Rattle.grd_base.specs.Sets.{IsSubset}
use Rattle.strips_model.specs.Values.{PlainTask}
use Rattle.strips_model.specs.Plans.{State, set_of, goal_holds}
use Rattle.strips_model.specs.Cuts.{cut, AreApart, IsEmptyCut, IsFamily}
use Rattle.cost_certificate.specs.declared.cuts.Seen.{Seen}
use Rattle.cost_certificate.specs.declared.kinds.CheckKind.{CheckKind}
use Rattle.cost_certificate.specs.declared.kinds.CheckKind.TheVariants.{TooFewCuts}
use Rattle.cost_certificate.specs.Faults.{FailsSet, FailsSets, IsFirstBad}
use Rattle.cost_certificate.specs.Seen.{IsCutList, IsSeen, JoinsFamily}
use Rattle.cost_certificate.proofs.CutLemmas.{AreGathered}

-- an element that passes is one of the list
passing : {X : Type 0} (P : X → Type 0) (xs : List X) (x : X) → Contains xs x → P x → Any P xs
passing P xs x there p = (there.0, x, there.1, there.2, p)

-- some element of a list with one more passes where one of the list or the last does
any_pushed : {X : Type 0} (P : X → Type 0) (xs : List X) (y : X) → Any P (xs ++ y ∷ []) ↔ (Any P xs ⊎ P y)
any_pushed {X} P xs y = (
  λ any. elim (Contains-push_cases xs y any.1 (any.0, any.2, any.3)) [
    | inl there ↦ inl (passing P xs any.1 there any.4)
    | inr last ↦ inr (subst P (sym last) any.4)
  ],
  λ h. elim h [
    | inl any ↦ passing P (xs ++ y ∷ []) any.1 (Contains-append_left xs (y ∷ []) any.1 (any.0, any.2, any.3)) any.4
    | inr p ↦ Any-push P xs y p
  ],
)

-- a list of a cut's actions is empty exactly where the cut is
empty_list : (t : PlainTask) (removed : List ActionId) (u : State) (actions : List ActionId) → IsCutList t removed u actions → IsTrue (length actions == 0) ↔ IsEmptyCut (cut t removed u)
empty_list t removed u actions list = (
  λ none a. false_from_ne_true _ (λ leads. let there = (list a).1 leads in let none_left : length actions ≡ 0 = eqb-true _ _ none in absurd (omega (arith, there.1))),
  λ empty. by actions list empty,
)
  where
    by : (xs : List ActionId) → IsCutList t removed u xs → IsEmptyCut (cut t removed u) → IsTrue (length xs == 0)
    by [] list empty = refl
    by (x ∷ xs) list empty = absurd (false≢true (sym (empty x) ∙ (list x).0 (0, omega arith, refl)))

module _ (t : PlainTask) (removed : List ActionId) where
  -- at the start nothing was seen
  pub seen_none : (seen : Seen) → seen.actions.keys ≡ [] → seen.has_empty ≡ false → IsSeen t removed [] seen
  seen_none seen keys flag = record {
    actions = λ a. (λ there. absurd (nothing a (subst (λ (ks : List ActionId). Contains ks a) keys there)), λ any. absurd (omega (arith, any.2)));
    empty = (λ told. absurd (false≢true (sym flag ∙ told)), λ any. absurd (omega (arith, any.2)));
  }
    where
      nothing : (a : ActionId) → Contains [] a → ⊥
      nothing a there = omega (arith, there.1)

  module _ (before : List (List AtomId)) (u : List AtomId) (actions : List ActionId) (old : Seen) (seen : IsSeen t removed before old) (list : IsCutList t removed (set_of u) actions) where
    -- a cut with an action that was seen meets that of an earlier set
    pub sets_meet : Any (λ a. Contains old.actions.keys a) actions → All (λ v. AreApart t removed v u) before → ⊥
    sets_meet any apart =
        let a = any.1 in
        let met = (seen.actions a).0 any.4 in
        All-contains (λ (v : List AtomId). AreApart t removed v u) before met.1 apart (met.0, met.2, met.3) a met.4 ((list a).0 (any.0, any.2, any.3))

    -- and one without is apart from all of theirs
    pub sets_apart : (Any (λ a. Contains old.actions.keys a) actions → ⊥) → All (λ v. AreApart t removed v u) before
    sets_apart none k d within a in_v in_u =
        let v = get_or before k d in
        let met : Any (λ w. IsTrue (cut t removed (set_of w) a)) before = passing (λ (w : List AtomId). IsTrue (cut t removed (set_of w) a)) before v (Contains-get_or before k d within) in_v in
        none (passing (λ (b : ActionId). Contains old.actions.keys b) actions a ((list a).1 in_u) ((seen.actions a).1 met))

    -- then the actions that were seen are those of one more cut
    pub seen_more : (new : Seen) → AreGathered old.actions.keys actions new.actions.keys → new.has_empty ≡ (old.has_empty || (length actions == 0)) → IsSeen t removed (before ++ u ∷ []) new
    seen_more new keys flag = record {
      actions = λ a.
          let both = any_pushed (λ (w : List AtomId). IsTrue (cut t removed (set_of w) a)) before u in (
            λ there. both.1 (elim ((keys a).0 there) [ inl first ↦ inl ((seen.actions a).0 first) | inr here ↦ inr ((list a).0 here) ]),
            λ any. (keys a).1 (elim (both.0 any) [ inl first ↦ inl ((seen.actions a).1 first) | inr here ↦ inr ((list a).1 here) ]),
          );
      empty =
          let both = any_pushed (λ (w : List AtomId). IsEmptyCut (cut t removed (set_of w))) before u in
          let none = empty_list t removed (set_of u) actions list in (
            λ told. both.1 (elim (or_cases old.has_empty (length actions == 0) (sym flag ∙ told)) [ inl first ↦ inl (seen.empty.0 first) | inr here ↦ inr (none.0 here) ]),
            λ any. flag ∙ (elim (both.0 any) [ inl first ↦ or_left _ _ (seen.empty.1 first) | inr here ↦ or_right _ _ (none.1 here) ]),
          );
    }

  -- a set that contains the state, leaves the goal open and is apart from the others joins their family
  pub family_more : (g : GoalId) (s : State) (before : List (List AtomId)) (u : List AtomId) → IsFamily t g removed s before
      → IsSubset s (set_of u) → goal_holds t g (set_of u) ≡ false → All (λ v. AreApart t removed v u) before → IsFamily t g removed s (before ++ u ∷ [])
  family_more g s before u family contains open_goal apart = record {
    contain = All-push (λ (v : List AtomId). IsSubset s (set_of v)) before u family.contain contains;
    leave_open = All-push (λ (v : List AtomId). goal_holds t g (set_of v) ≡ false) before u family.leave_open open_goal;
    apart = all_pairs_push (AreApart t removed) before u family.apart apart;
  }

-- a list around one of its places
around : {X : Type 0} (xs : List X) (i : ℕ) (x : X) → i < length xs → x ≡ get_or xs i x → xs ≡ take i xs ++ x ∷ drop (i + 1) xs
around xs i x within at = sym (take-append-drop i xs) ∙ ap (λ rest. take i xs ++ rest) (drop_more xs i x within) ∙ ap (λ y. take i xs ++ y ∷ drop (i + 1) xs) (sym at)

-- the element at a place is the first bad one where it is bad and all before it are good
pub first_bad : {X : Type 0} (Good Bad : X → Type 0) (xs : List X) (i : ℕ) (x : X) → i < length xs → x ≡ get_or xs i x → All Good (take i xs) → Bad x → IsFirstBad Good Bad xs i
first_bad Good Bad xs i x within at good bad = record {
  before = take i xs;
  item = x;
  behind = drop (i + 1) xs;
  whole = around xs i x within at;
  counted = sym (length-take-le i xs (omega arith));
  good = good;
  bad = bad;
}

-- a vector that was read at a place gives the set at that place of the family
pub set_read : (vectors inside : List (Vec AtomId Global)) (sets : List (List AtomId)) (i : ℕ) (v : Vec AtomId Global) (u : List AtomId) → map (λ w. w.items) inside ≡ sets → vectors ≡ inside
    → i < length vectors → v ≡ get_or vectors i v → u ≡ v.items → (i < length sets) × (u ≡ get_or sets i u)
set_read vectors inside sets i v u same from within at is =
    let items : Vec AtomId Global → List AtomId = λ w. w.items in
    let mapped : map items vectors ≡ sets = ap (map items) from ∙ same in
    let long : length sets ≡ length vectors = sym (ap length mapped) ∙ length-map vectors items in
    (omega arith, is ∙ ap items at ∙ sym (get_or-map items vectors i v u within) ∙ ap (λ zs. get_or zs i u) mapped)

-- as many sets as vectors
pub sets_length : (vectors inside : List (Vec AtomId Global)) (sets : List (List AtomId)) → map (λ w. w.items) inside ≡ sets → vectors ≡ inside → length sets ≡ length vectors
sets_length vectors inside sets same from = sym (ap length same) ∙ length-map inside (λ (w : Vec AtomId Global). w.items) ∙ sym (ap length from)

module _ (t : PlainTask) (g : GoalId) (removed : List ActionId) (s : State) where
  -- no sets are a family
  pub family_none : IsFamily t g removed s []
  family_none = record {
    contain = All-nil (λ (u : List AtomId). IsSubset s (set_of u));
    leave_open = All-nil (λ (u : List AtomId). goal_holds t g (set_of u) ≡ false);
    apart = λ i j d lt within. absurd (omega arith);
  }

  -- at the end all sets are a family, and all their cuts are seen
  pub family_whole : (sets : List (List AtomId)) (i : ℕ) (seen : Seen) → length sets ≤ i → IsFamily t g removed s (take i sets) → IsSeen t removed (take i sets) seen
      → IsFamily t g removed s sets × IsSeen t removed sets seen
  family_whole sets i seen all family told = subst (λ front. IsFamily t g removed s front × IsSeen t removed front seen) (take_all i sets all) (family, told)

  module _ (sets : List (List AtomId)) (i : ℕ) (u : List AtomId) (within : i < length sets) (at : u ≡ get_or sets i u) where
    -- one more set joins the family of the front
    pub family_grows : (old new : Seen) → JoinsFamily t g removed s old new u → IsFamily t g removed s (take i sets) → IsSeen t removed (take i sets) old
        → IsFamily t g removed s (take (i + 1) sets) × IsSeen t removed (take (i + 1) sets) new
    family_grows old new joins family seen =
        let more : take (i + 1) sets ≡ take i sets ++ u ∷ [] = take_more sets i u within ∙ ap (λ v. take i sets ++ v ∷ []) (sym at) in
        subst (λ front. IsFamily t g removed s front × IsSeen t removed front new) (sym more) (joins (take i sets) seen family)

    -- the first set that does not join is the fault
    pub set_fails : (bound : Bound) (kind : CheckKind) → IsFamily t g removed s (take i sets) → FailsSet t g removed s (take i sets) u kind → FailsSets t g removed s bound sets kind i
    set_fails bound TooFewCuts family fails = absurd fails
    set_fails bound kind family fails = record {
      before = take i sets;
      set = u;
      behind = drop (i + 1) sets;
      whole = around sets i u within at;
      counted = sym (length-take-le i sets (omega arith));
      family = family;
      fails = fails;
    }
