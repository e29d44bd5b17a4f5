-- Usable actions, and their lists by atoms: how they are filed, and gathered again.
use Rattle.std.proofs.Common.{◌≡◌, ◌≢◌, ◌↔◌, ◌⊎◌, ◌==◌, ℕ, ◌+◌, ◌<◌, ◌≤◌, Bool, true, false, not, ◌&&◌, ◌||◌, ltb, List, [], ◌∷◌, ◌++◌, length, take, get_or, refl, sym, ◌∙◌, ap, subst, inl, inr, arith, Option, Some, None}
use Rattle.std.specs.Prelude.{slice_get, Contains, All, IsTrue}
use Rattle.std.specs.Option.{unwrap_or, option_map_or}
use Rattle.std.proofs.lemmas.Bool.{cases_eq, cases_lt, or_cases, or_left, or_right, both_ways, false≢true, not-true, not_from_false, not_from_true, and_left, and_parts, and_from, and_right, lt-ltb, le-ltb, eq-eqb, eqb-true, ne_eqb}
use Rattle.std.proofs.lemmas.Option.{slice_get_past, slice_get_within, get_or_from_slice_get}
use Rattle.std.proofs.lemmas.List.{take_all}
use Rattle.std.proofs.lemmas.List.Folds.{list_any_more}
use Rattle.std.proofs.lemmas.List.Elements.{All-nil, Contains-append_left, Contains-append_right, Contains-append_cases, Contains-push_cases, All-contains, All-contains_itself, All-get_or, All-weaker}
use Rattle.grd_base.specs.declared.ids.AtomId.{AtomId}
use Rattle.grd_base.specs.declared.ids.ActionId.{ActionId}
use Rattle.grd_base.specs.Rising.{has_id}
use Rattle.strips_model.specs.Values.{GroundAction, PlainTask, IsTask, IsActionBelow}
use Rattle.strips_model.specs.Plans.{State, set_of}
use Rattle.strips_model.specs.Index.{listed}
use Rattle.level_bounds.specs.Waves.{is_usable, AreFiled}

module _ (t : PlainTask) (removed : List ActionId) where
  -- a usable action is one of the task's
  pub usable_parts : (a : ActionId) → is_usable t removed a ≡ true → (act : GroundAction) × (slice_get t.actions a.0 ≡ Some act) × (has_id removed a ≡ false) × (act.blocked ≡ false)
  usable_parts a h =
      let parts = and_parts (not (has_id removed a)) (option_map_or (λ act. not act.blocked) (slice_get t.actions a.0) false) h in
      by (not-true _ parts.0) (slice_get t.actions a.0) refl parts.1
    where
      by : has_id removed a ≡ false → (o : Option GroundAction) → slice_get t.actions a.0 ≡ o → option_map_or (λ act. not act.blocked) o false ≡ true
          → (act : GroundAction) × (slice_get t.actions a.0 ≡ Some act) × (has_id removed a ≡ false) × (act.blocked ≡ false)
      by kept None at is = absurd (false≢true is)
      by kept (Some act) at is = (act, at, kept, not-true _ is)

  pub usable_from : (a : ActionId) (act : GroundAction) → slice_get t.actions a.0 ≡ Some act → has_id removed a ≡ false → act.blocked ≡ false → is_usable t removed a ≡ true
  usable_from a act at kept free =
      and_from (not (has_id removed a)) _ (not_from_false _ kept) (ap (λ o. option_map_or (λ (x : GroundAction). not x.blocked) o false) at ∙ not_from_false _ free)

  pub unusable_removed : (a : ActionId) → has_id removed a ≡ true → is_usable t removed a ≡ false
  unusable_removed a out = and_left (not (has_id removed a)) _ (not_from_true _ out)

  pub unusable_blocked : (a : ActionId) (act : GroundAction) → slice_get t.actions a.0 ≡ Some act → act.blocked ≡ true → is_usable t removed a ≡ false
  unusable_blocked a act at blocked = and_right (not (has_id removed a)) _ (ap (λ o. option_map_or (λ (x : GroundAction). not x.blocked) o false) at ∙ not_from_true _ blocked)

-- an action of the task is over its atoms
pub action_below : (t : PlainTask) → IsTask t → (a : ActionId) (act : GroundAction) → slice_get t.actions a.0 ≡ Some act → IsActionBelow t.atoms act
action_below t is a act at =
    subst (IsActionBelow t.atoms) (get_or_from_slice_get t.actions a.0 act act at) (All-get_or (IsActionBelow t.atoms) t.actions a.0 act (slice_get_within t.actions a.0 act at) is.actions)

-- the atoms of one more element of a list
taken : (xs : List AtomId) (i : ℕ) (d : AtomId) → i < length xs → (n : ℕ) → set_of (take (i + 1) xs) n ≡ (set_of (take i xs) n || (get_or xs i d).0 == n)
taken xs i d within n = list_any_more (λ (a : AtomId). a.0 == n) xs i d within

-- what a list with some more elements contains
appended : (xs ys zs : List ActionId) → zs ≡ xs ++ ys → (x : ActionId) → Contains zs x ↔ (Contains xs x ⊎ Contains ys x)
appended xs ys zs is x = (
  λ there. Contains-append_cases xs ys x (subst (λ (l : List ActionId). Contains l x) is there),
  λ h. subst (λ (l : List ActionId). Contains l x) (sym is) (elim h [ inl first ↦ Contains-append_left xs ys x first | inr later ↦ Contains-append_right xs ys x later ]),
)

-- the action is in the list of an atom of the set
abbrev pub IsNeeding : List (List ActionId) → State → ActionId → Type 0
IsNeeding lists s a = (n : ℕ) × IsTrue (s n) × Contains (listed lists n) a

-- the set with one more atom
abbrev IsSetMore : State → ℕ → State → Type 0
IsSetMore s k more = (n : ℕ) → more n ≡ (s n || k == n)

needing_one : (lists : List (List ActionId)) (s more : State) (k : ℕ) → IsSetMore s k more → (a : ActionId) → IsNeeding lists more a ↔ (IsNeeding lists s a ⊎ Contains (listed lists k) a)
needing_one lists s more k is a = (
  λ h. elim (or_cases (s h.0) (k == h.0) (sym (is h.0) ∙ h.1)) [
    | inl old ↦ inl (h.0, old, h.2)
    | inr new ↦ inr (subst (λ n. Contains (listed lists n) a) (sym (eqb-true k h.0 new)) h.2)
  ],
  λ h. elim h [
    | inl old ↦ (old.0, is old.0 ∙ or_left (s old.0) _ old.1, old.2)
    | inr new ↦ (k, is k ∙ or_right (s k) _ (eq-eqb k k refl), new)
  ],
)

-- the list of one more atom is put behind those found
pub needing_more : (lists : List (List ActionId)) (atoms : List AtomId) (i : ℕ) (d : AtomId) → i < length atoms → (found last new : List ActionId) → last ≡ listed lists (get_or atoms i d).0 → new ≡ found ++ last
    → ((a : ActionId) → Contains found a ↔ IsNeeding lists (set_of (take i atoms)) a) → (a : ActionId) → Contains new a ↔ IsNeeding lists (set_of (take (i + 1) atoms)) a
needing_more lists atoms i d within found last new same is so_far a =
    let k = (get_or atoms i d).0 in
    let one = needing_one lists (set_of (take i atoms)) (set_of (take (i + 1) atoms)) k (taken atoms i d within) a in
    let list = appended found (listed lists k) new (is ∙ ap (λ l. found ++ l) same) a in (
      λ there. one.1 (elim (list.0 there) [ inl old ↦ inl ((so_far a).0 old) | inr late ↦ inr late ]),
      λ h. list.1 (elim (one.0 h) [ inl old ↦ inl ((so_far a).1 old) | inr late ↦ inr late ]),
    )

pub needing_all : (lists : List (List ActionId)) (atoms : List AtomId) (i : ℕ) → length atoms ≤ i → (found : List ActionId) → ((a : ActionId) → Contains found a ↔ IsNeeding lists (set_of (take i atoms)) a)
    → (a : ActionId) → Contains found a ↔ IsNeeding lists (set_of atoms) a
needing_all lists atoms i past found so_far a = subst (λ (l : List AtomId). Contains found a ↔ IsNeeding lists (set_of l) a) (take_all i atoms past) (so_far a)

-- the members below the number
abbrev pub members_below : State → ℕ → State
members_below s n m = ltb m n && s m

-- a number other than n is below n + 1 where it is below n
ltb_other : (m n : ℕ) → n ≢ m → ltb m (n + 1) ≡ ltb m n
ltb_other m n other = elim (cases_lt m n) [
  | inl below ↦ lt-ltb m (n + 1) (omega arith) ∙ sym (lt-ltb m n below)
  | inr past ↦ le-ltb m (n + 1) (omega arith) ∙ sym (le-ltb m n past)
]

pub or_false : (b : Bool) → b ≡ (b || false)
or_false true = refl
or_false false = refl

below_in : (s : State) (n : ℕ) → s n ≡ true → IsSetMore (members_below s n) n (members_below s (n + 1))
below_in s n is m = elim (cases_eq n m) [
  | inl same ↦ and_from (ltb m (n + 1)) (s m) (lt-ltb m (n + 1) (omega arith)) (ap s (sym same) ∙ is) ∙ sym (or_right (members_below s n m) (n == m) (eq-eqb n m same))
  | inr other ↦ ap (λ b. b && s m) (ltb_other m n other) ∙ or_false (members_below s n m) ∙ ap (λ b. members_below s n m || b) (sym (ne_eqb n m other))
]

below_out : (s : State) (n : ℕ) → s n ≡ false → (m : ℕ) → members_below s (n + 1) m ≡ members_below s n m
below_out s n is m = elim (cases_eq n m) [
  | inl same ↦
      let out : s m ≡ false = ap s (sym same) ∙ is in
      and_right (ltb m (n + 1)) (s m) out ∙ sym (and_right (ltb m n) (s m) out)
  | inr other ↦ ap (λ b. b && s m) (ltb_other m n other)
]

-- no action is in a list past the last
pub listed_within : (lists : List (List ActionId)) (n : ℕ) (a : ActionId) → Contains (listed lists n) a → n < length lists
listed_within lists n a there = elim (cases_lt n (length lists)) [
  | inl within ↦ within
  | inr past ↦
      let none : listed lists n ≡ [] = ap (λ o. unwrap_or o []) (slice_get_past lists n past) in
      let nowhere : Contains {X = ActionId} [] a = subst (λ (l : List ActionId). Contains l a) none there in
      absurd (omega (arith, nowhere.1))
]

-- the candidates are those at the start, and those in the lists of the atoms of the set
abbrev pub AreAdded : List (List ActionId) → List ActionId → State → List ActionId → Type 0
AreAdded lists start s candidates = (a : ActionId) → Contains candidates a ↔ (Contains start a ⊎ IsNeeding lists s a)

pub added_in : (lists : List (List ActionId)) (start candidates found new : List ActionId) (s : State) (n : ℕ) → s n ≡ true → found ≡ listed lists n → new ≡ candidates ++ found
    → AreAdded lists start (members_below s n) candidates → AreAdded lists start (members_below s (n + 1)) new
added_in lists start candidates found new s n member same is so_far a =
    let one = needing_one lists (members_below s n) (members_below s (n + 1)) n (below_in s n member) a in
    let list = appended candidates (listed lists n) new (is ∙ ap (λ l. candidates ++ l) same) a in (
      λ there. elim (list.0 there) [
        | inl old ↦ elim ((so_far a).0 old) [ inl first ↦ inl first | inr needs ↦ inr (one.1 (inl needs)) ]
        | inr last ↦ inr (one.1 (inr last))
      ],
      λ h. list.1 (elim h [
        | inl first ↦ inl ((so_far a).1 (inl first))
        | inr needs ↦ elim (one.0 needs) [ inl old ↦ inl ((so_far a).1 (inr old)) | inr last ↦ inr last ]
      ]),
    )

pub added_out : (lists : List (List ActionId)) (start candidates : List ActionId) (s : State) (n : ℕ) → s n ≡ false → AreAdded lists start (members_below s n) candidates
    → AreAdded lists start (members_below s (n + 1)) candidates
added_out lists start candidates s n out so_far a = (
  λ there. elim ((so_far a).0 there) [ inl first ↦ inl first | inr needs ↦ inr (needs.0, below_out s n out needs.0 ∙ needs.1, needs.2) ],
  λ h. (so_far a).1 (elim h [ inl first ↦ inl first | inr needs ↦ inr (needs.0, sym (below_out s n out needs.0) ∙ needs.1, needs.2) ]),
)

pub added_all : (lists : List (List ActionId)) (start candidates : List ActionId) (s : State) (n : ℕ) → length lists ≤ n → AreAdded lists start (members_below s n) candidates → AreAdded lists start s candidates
added_all lists start candidates s n past so_far a = (
  λ there. elim ((so_far a).0 there) [ inl first ↦ inl first | inr needs ↦ inr (needs.0, (and_parts (ltb needs.0 n) (s needs.0) needs.1).1, needs.2) ],
  λ h. (so_far a).1 (elim h [
    | inl first ↦ inl first
    | inr needs ↦ inr (needs.0, and_from (ltb needs.0 n) (s needs.0) (lt-ltb needs.0 n (omega (arith, listed_within lists needs.0 a needs.2))) needs.1, needs.2)
  ]),
)

only_one : (a b : ActionId) → Contains (a ∷ []) b → a ≡ b
only_one a b there = elim (Contains-push_cases [] a b there) [ inl none ↦ absurd (omega (arith, none.1)) | inr same ↦ same ]

-- the lists are those at the start, with the action in the list of each atom of the set
abbrev pub AreListed : List (List ActionId) → ActionId → State → List (List ActionId) → Type 0
AreListed start a s lists = (n : ℕ) (b : ActionId) → Contains (listed lists n) b ↔ (Contains (listed start n) b ⊎ ((b ≡ a) × IsTrue (s n)))

pub listed_more : (start lists new : List (List ActionId)) (a : ActionId) (atoms : List AtomId) (i : ℕ) (d : AtomId) → i < length atoms
    → listed new (get_or atoms i d).0 ≡ listed lists (get_or atoms i d).0 ++ a ∷ [] → ((n : ℕ) → n ≢ (get_or atoms i d).0 → listed new n ≡ listed lists n)
    → AreListed start a (set_of (take i atoms)) lists → AreListed start a (set_of (take (i + 1) atoms)) new
listed_more start lists new a atoms i d within last others so_far n b =
    let p = (get_or atoms i d).0 in
    let more = taken atoms i d within n in
    elim (cases_eq n p) [
      | inl same ↦
          let longer : listed new n ≡ listed lists n ++ a ∷ [] = ap (listed new) same ∙ last ∙ ap (λ (m : ℕ). listed lists m ++ a ∷ []) (sym same) in
          let list = appended (listed lists n) (a ∷ []) (listed new n) longer b in
          let is_in : set_of (take (i + 1) atoms) n ≡ true = more ∙ or_right (set_of (take i atoms) n) (p == n) (eq-eqb p n (sym same)) in (
            λ there. elim (list.0 there) [
              | inl old ↦ elim ((so_far n b).0 old) [ inl first ↦ inl first | inr filed ↦ inr (filed.0, is_in) ]
              | inr last ↦ inr (sym (only_one a b last), is_in)
            ],
            λ h. elim h [
              | inl first ↦ list.1 (inl ((so_far n b).1 (inl first)))
              | inr filed ↦ list.1 (inr (0, omega arith, sym filed.0))
            ],
          )
      | inr other ↦
          let kept : listed new n ≡ listed lists n = others n other in
          let same_set : set_of (take (i + 1) atoms) n ≡ set_of (take i atoms) n = more ∙ ap (λ b. set_of (take i atoms) n || b) (ne_eqb p n (λ e. other (sym e))) ∙ sym (or_false _) in (
            λ there. elim ((so_far n b).0 (subst (λ (l : List ActionId). Contains l b) kept there)) [ inl first ↦ inl first | inr filed ↦ inr (filed.0, same_set ∙ filed.1) ],
            λ h. subst (λ (l : List ActionId). Contains l b) (sym kept) ((so_far n b).1 (elim h [ inl first ↦ inl first | inr filed ↦ inr (filed.0, sym same_set ∙ filed.1) ])),
          )
    ]

pub listed_all : (start lists : List (List ActionId)) (a : ActionId) (atoms : List AtomId) (i : ℕ) → length atoms ≤ i → AreListed start a (set_of (take i atoms)) lists → AreListed start a (set_of atoms) lists
listed_all start lists a atoms i past so_far = subst (λ (l : List AtomId). AreListed start a (set_of l) lists) (take_all i atoms past) so_far

module _ (t : PlainTask) (removed : List ActionId) where
  -- at the start no action is filed
  pub filed_none : (lists : List (List ActionId)) → length lists ≡ t.atoms → ((n : ℕ) → listed lists n ≡ []) → AreFiled t removed 0 [] lists
  filed_none lists long empty = record {
    atoms = long;
    apart = All-nil (λ a. is_usable t removed a ≡ true);
    listed_usable = λ n. subst (All (λ a. is_usable t removed a ≡ true)) (sym (empty n)) (All-nil (λ a. is_usable t removed a ≡ true));
    found_apart = λ a act at below. absurd (omega arith);
    found_listed = λ a act at below. absurd (omega arith);
  }

  module _ (i : ℕ) (free : List ActionId) (lists : List (List ActionId)) (filed : AreFiled t removed i free lists) where
    -- an action that is not usable is left out
    pub filed_out : is_usable t removed (record { 0 = i }) ≡ false → AreFiled t removed (i + 1) free lists
    filed_out out = record {
      atoms = filed.atoms;
      apart = filed.apart;
      listed_usable = filed.listed_usable;
      found_apart = λ a act at below usable. filed.found_apart a act at (before a below usable) usable;
      found_listed = λ a act at below usable. filed.found_listed a act at (before a below usable) usable;
    }
      where
        before : (a : ActionId) → a.0 < i + 1 → is_usable t removed a ≡ true → a.0 < i
        before a below usable = elim (cases_eq a.0 i) [
          | inl same ↦ absurd (both_ways (is_usable t removed a) (ap (λ n. is_usable t removed (record { 0 = n })) same ∙ out) usable)
          | inr other ↦ omega arith
        ]

    -- a usable one is filed with the atoms that it needs, or apart
    pub filed_in : (act : GroundAction) → slice_get t.actions i ≡ Some act → is_usable t removed (record { 0 = i }) ≡ true
        → (more_free : List ActionId) (more_lists : List (List ActionId)) → length more_lists ≡ length lists
        → ((b : ActionId) → Contains more_free b ↔ (Contains free b ⊎ ((b ≡ record { 0 = i }) × (act.pre ≡ []))))
        → AreListed lists (record { 0 = i }) (set_of act.pre) more_lists → AreFiled t removed (i + 1) more_free more_lists
    filed_in act at usable more_free more_lists long apart are_listed = record {
      atoms = long ∙ filed.atoms;
      apart = All-weaker (Contains more_free) (λ b. is_usable t removed b ≡ true) (λ b there. elim ((apart b).0 there) [
        | inl old ↦ All-contains (λ x. is_usable t removed x ≡ true) free b filed.apart old
        | inr new ↦ ap (is_usable t removed) new.0 ∙ usable
      ]) more_free (All-contains_itself more_free);
      listed_usable = λ n. All-weaker (Contains (listed more_lists n)) (λ b. is_usable t removed b ≡ true) (λ b there. elim ((are_listed n b).0 there) [
        | inl old ↦ All-contains (λ x. is_usable t removed x ≡ true) (listed lists n) b (filed.listed_usable n) old
        | inr new ↦ ap (is_usable t removed) new.0 ∙ usable
      ]) (listed more_lists n) (All-contains_itself (listed more_lists n));
      found_apart = λ b x there below may none. elim (cases_eq b.0 i) [
        | inl same ↦ (apart b).1 (inr (ap (λ n. record { 0 = n }) same, ap (λ (y : GroundAction). y.pre) (is_act b x there same) ∙ none))
        | inr other ↦ (apart b).1 (inl (filed.found_apart b x there (omega arith) may none))
      ];
      found_listed = λ b x there below may n needs. elim (cases_eq b.0 i) [
        | inl same ↦ (are_listed n b).1 (inr (ap (λ m. record { 0 = m }) same, ap (λ (y : GroundAction). set_of y.pre n) (is_act b x there same) ∙ needs))
        | inr other ↦ (are_listed n b).1 (inl (filed.found_listed b x there (omega arith) may n needs))
      ];
    }
      where
        is_act : (b : ActionId) (x : GroundAction) → slice_get t.actions b.0 ≡ Some x → b.0 ≡ i → act ≡ x
        is_act b x there same =
            let e : Some act ≡ Some x = sym at ∙ ap (slice_get t.actions) (sym same) ∙ there in
            cc
