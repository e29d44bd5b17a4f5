-- A walk in layers: what keeps it one, and how many states it visits.
use Rattle.std.proofs.Common.{◌≡◌, ℕ, zero, suc, ◌+◌, ◌<◌, ◌≤◌, cond, get_or, List, [], ◌∷◌, ◌++◌, length, map, refl, sym, ◌∙◌, ap, inl, inr, arith, Some, None}
use Rattle.std.specs.Prelude.{slice_get, nat_lt, if◌then◌else◌}
use Rattle.std.specs.Option.{option_and_then}
use Rattle.std.proofs.lemmas.List.{length-map, length_push}
use Rattle.std.proofs.lemmas.Bool.{cases_lt, cases_eq, lt-ltb, le-ltb}
use Rattle.std.proofs.lemmas.Option.{slice_get_within, slice_get-get_or}
use mathlib.Core.Path.{subst}
use Rattle.grd_base.specs.declared.ids.ActionId.{ActionId}
use Rattle.strips_model.specs.Values.{PlainTask}
use Rattle.strips_model.specs.Plans.{State, after, step, start_of}
use Rattle.grd_base.specs.Counts.{MoreThan}
use Rattle.plain_search.specs.Walks.{Visit, HasState, IsNoted, AreWays, HasVisit, IsWalk, Expands, IsExpanded}
use Rattle.plain_search.specs.Depths.{IsBegun}
use Rattle.plain_search.proofs.MoveLemmas.{IsGap}
use Rattle.plain_search.proofs.WalkPlaceLemmas.{pushed_cases, pushed_old, pushed_new, old_at, same_at, at_from_Any, Any-from_at, at_of_map}
use Rattle.plain_search.proofs.WalkPlanLemmas.{some_same, after_push, after_nothing, no_action}

-- the paths, with another one from the place n on
pub grown : (ℕ → List ActionId) → ℕ → List ActionId → ℕ → List ActionId
grown path n p k = if nat_lt k n then path k else p

pub grown-old : (path : ℕ → List ActionId) (n : ℕ) (p : List ActionId) (k : ℕ) → k < n → grown path n p k ≡ path k
unfolding grown
grown-old path n p k low = ap (λ b. cond b (path k) p) (lt-ltb k n low)

pub grown-new : (path : ℕ → List ActionId) (n : ℕ) (p : List ActionId) → grown path n p n ≡ p
unfolding grown
grown-new path n p = ap (λ b. cond b (path n) p) (le-ltb n n (omega arith))

module _ (path : ℕ → List ActionId) (vs : List Visit) where
  weaken : (u : State) (n m : ℕ) → n ≤ m → HasVisit path vs u n → HasVisit path vs u m
  weaken u n m le h = record { place = h.place; visit = h.visit; at = h.at; state = h.state; short = omega (arith, h.short) }

  has_visit_pushed : (w : Visit) (p : List ActionId) (u : State) (n : ℕ) → HasVisit path vs u n → HasVisit (grown path (length vs) p) (vs ++ w ∷ []) u n
  has_visit_pushed w p u n h =
      let within : h.place < length vs = slice_get_within vs h.place h.visit h.at in
      let same : length (grown path (length vs) p h.place) ≡ length (path h.place) = ap length (grown-old path (length vs) p h.place within) in
      record { place = h.place; visit = h.visit; at = pushed_old vs w h.visit h.place h.at; state = h.state; short = omega (arith, h.short) }

  ways_pushed : (w : Visit) (p : List ActionId) → AreWays path vs → 0 < length vs → w.parent < length vs → p ≡ path w.parent ++ w.action ∷ [] → AreWays (grown path (length vs) p) (vs ++ w ∷ [])
  ways_pushed w p ways some low is =
      let more : ℕ → List ActionId = grown path (length vs) p in
      record {
        first = grown-old path (length vs) p 0 some ∙ ways.first;
        lower = λ k v positive at. elim (pushed_cases vs w v k at) [
          | inl old ↦ ways.lower k v positive old
          | inr new ↦ let same : v.parent ≡ w.parent = ap (λ (x : Visit). x.parent) new.1 in omega (arith, new.0)
        ];
        later = λ k v positive at. elim (pushed_cases vs w v k at) [
          | inl old ↦
              let within : k < length vs = slice_get_within vs k v old in
              let lower : v.parent < k = ways.lower k v positive old in
              grown-old path (length vs) p k within ∙ ways.later k v positive old
              ∙ ap (λ q. q ++ v.action ∷ []) (sym (grown-old path (length vs) p v.parent (omega arith)))
          | inr new ↦
              let here : more k ≡ p = ap more new.0 ∙ grown-new path (length vs) p in
              let before : more w.parent ≡ path w.parent = grown-old path (length vs) p w.parent low in
              subst (λ (x : Visit). more k ≡ more x.parent ++ x.action ∷ []) (sym new.1) (here ∙ is ∙ ap (λ q. q ++ w.action ∷ []) (sym before))
        ];
      }

module _ (t : PlainTask) (head part : ℕ) (vs : List Visit) (is : IsWalk t head part vs) where
  -- an action that leads to a visited state
  pub pass_known : (h : Visit) (a : ActionId) (x : State) → slice_get vs head ≡ Some h → a.0 ≡ part → step t h.state a ≡ Some x → HasState vs x → IsWalk t head (part + 1) vs
  pass_known h a x at_h is_part to_x known = record {
    path = is.path;
    ways = is.ways;
    leads = is.leads;
    first = is.first;
    rise = is.rise;
    near = is.near;
    differ = is.differ;
    closed = is.closed;
    begun = λ v b u at low e. elim (cases_eq b.0 part) [
      | inl same ↦
          let one : h ≡ v = same_at vs head h v at_h at in
          let alike : a ≡ b = ap (λ n. record { 0 = n }) (is_part ∙ sym same) in
          let to : step t v.state b ≡ Some x = ap (λ (y : Visit). step t y.state b) (sym one) ∙ ap (step t h.state) (sym alike) ∙ to_x in
          let k = at_from_Any (λ (y : Visit). y.state ≡ x) vs known in
          record {
            place = k.0;
            visit = k.1;
            at = k.2;
            state = k.3 ∙ some_same x u (sym to ∙ e);
            short = is.near k.0 (slice_get_within vs head h at_h) (slice_get_within vs k.0 k.1 k.2);
          }
      | inr other ↦ is.begun v b u at (omega arith) e
    ];
  }

  -- an action that leads to a new state
  pub push_new : (h : Visit) (a : ActionId) (x : State) → slice_get vs head ≡ Some h → a.0 ≡ part → step t h.state a ≡ Some x
      → (HasState vs x → ⊥) → IsWalk t head (part + 1) (vs ++ record { state = x; parent = head; action = a } ∷ [])
  push_new h a x at_h is_part to_x fresh =
      let new : Visit = record { state = x; parent = head; action = a } in
      let n : ℕ = length vs in
      let p : List ActionId = is.path head ++ a ∷ [] in
      let more : ℕ → List ActionId = grown is.path n p in
      let within : head < n = slice_get_within vs head h at_h in
      let long : length p ≡ length (is.path head) + 1 = length_push (is.path head) a in
      let head_same : length (more head) ≡ length (is.path head) = ap length (grown-old is.path n p head within) in
      let n_new : length (vs ++ new ∷ []) ≡ n + 1 = length_push vs new in
      record {
        path = more;
        ways = ways_pushed is.path vs new p is.ways (omega arith) within refl;
        leads = λ k v at. elim (pushed_cases vs new v k at) [
          | inl old ↦ ap (after t [] (start_of t)) (grown-old is.path n p k (slice_get_within vs k v old)) ∙ is.leads k v old
          | inr here ↦
              ap (after t [] (start_of t)) (ap more here.0 ∙ grown-new is.path n p) ∙ after_push t (start_of t) (is.path head) a
              ∙ ap (option_and_then (λ u. step t u a)) (is.leads head h at_h) ∙ to_x ∙ ap (λ (y : Visit). Some y.state) (sym here.1)
        ];
        first = has_visit_pushed is.path vs new p (start_of t) 0 is.first;
        rise = λ j k le within_k. elim (cases_lt k n) [
          | inl old ↦
              let same_j : length (more j) ≡ length (is.path j) = ap length (grown-old is.path n p j (omega arith)) in
              let same_k : length (more k) ≡ length (is.path k) = ap length (grown-old is.path n p k old) in
              omega (arith, is.rise j k le old)
          | inr past ↦
              let is_n : k ≡ n = omega arith in
              let same_k : length (more k) ≡ length p = ap length (ap more is_n ∙ grown-new is.path n p) in
              elim (cases_lt j n) [
                | inl old ↦
                    let same_j : length (more j) ≡ length (is.path j) = ap length (grown-old is.path n p j old) in
                    omega (arith, is.near j within old)
                | inr there ↦ let same : length (more j) ≡ length (more k) = ap (λ i. length (more i)) (omega arith) in omega arith
              ]
        ];
        near = λ k _ within_k. elim (cases_lt k n) [
          | inl old ↦
              let same_k : length (more k) ≡ length (is.path k) = ap length (grown-old is.path n p k old) in
              omega (arith, is.near k within old)
          | inr past ↦
              let is_n : k ≡ n = omega arith in
              let same_k : length (more k) ≡ length p = ap length (ap more is_n ∙ grown-new is.path n p) in
              omega arith
        ];
        differ = λ j k v w lt at_v at_w same. elim (pushed_cases vs new w k at_w) [
          | inl old ↦
              let k_in : k < n = slice_get_within vs k w old in
              is.differ j k v w lt (old_at vs new v j (omega arith) at_v) old same
          | inr here ↦
              let old_v : slice_get vs j ≡ Some v = old_at vs new v j (omega (arith, here.0)) at_v in
              fresh (Any-from_at (λ (y : Visit). y.state ≡ x) vs j v old_v (same ∙ ap (λ (y : Visit). y.state) here.1))
        ];
        closed = λ k v b u lt at_v e.
            let same_k : length (more k) ≡ length (is.path k) = ap length (grown-old is.path n p k (omega arith)) in
            weaken more (vs ++ new ∷ []) u _ _ (omega arith) (has_visit_pushed is.path vs new p u _ (is.closed k v b u lt (old_at vs new v k (omega arith) at_v) e));
        begun = λ v b u at_v low e.
            let old_v : slice_get vs head ≡ Some v = old_at vs new v head within at_v in
            elim (cases_eq b.0 part) [
              | inl same ↦
                  let one : h ≡ v = same_at vs head h v at_h old_v in
                  let alike : a ≡ b = ap (λ m. record { 0 = m }) (is_part ∙ sym same) in
                  let to : step t v.state b ≡ Some x = ap (λ (y : Visit). step t y.state b) (sym one) ∙ ap (step t h.state) (sym alike) ∙ to_x in
                  let same_n : length (more n) ≡ length p = ap length (grown-new is.path n p) in
                  record { place = n; visit = new; at = pushed_new vs new; state = some_same x u (sym to ∙ e); short = omega arith }
              | inr other ↦ weaken more (vs ++ new ∷ []) u _ _ (omega arith) (has_visit_pushed is.path vs new p u _ (is.begun v b u old_v (omega arith) e))
            ];
      }

  -- all actions are followed
  pub next_head : length t.actions ≤ part → head < length vs → IsWalk t (head + 1) 0 vs
  next_head all within = record {
    path = is.path;
    ways = is.ways;
    leads = is.leads;
    first = is.first;
    rise = is.rise;
    differ = is.differ;
    near = λ k within_next within_k. omega (arith, is.near k within within_k, is.rise head (head + 1) (omega arith) within_next);
    closed = λ k v a u lt at e. elim (cases_eq k head) [
      | inl same ↦
          let at_h : slice_get vs head ≡ Some v = subst (λ i. slice_get vs i ≡ Some v) same at in
          elim (cases_lt a.0 part) [
            | inl low ↦ subst (λ i. HasVisit is.path vs u (length (is.path i) + 1)) (sym same) (is.begun v a u at_h low e)
            | inr past ↦ absurd (let none : step t v.state a ≡ None = no_action t v.state a (omega arith) in cc)
          ]
      | inr other ↦ is.closed k v a u (omega arith) at e
    ];
    begun = λ v a u at low e. absurd (omega arith);
  }

  -- more visits than the limit, each with the property
  pub many_visits : (P : State → Type 0) → ((k : ℕ) (v : Visit) → slice_get vs k ≡ Some v → P v.state) → (limit : ℕ) → limit < length vs → MoreThan limit P
  many_visits P each limit many =
      let states : List State = map (λ v. v.state) vs in
      let same : length states ≡ length vs = length-map vs (λ v. v.state) in
      record {
        items = states;
        many = omega arith;
        differ = λ i j d lt within_j alike.
            let x = at_of_map (λ (v : Visit). v.state) vs i (get_or states i d) (slice_get-get_or states i d (omega arith)) in
            let y = at_of_map (λ (v : Visit). v.state) vs j (get_or states j d) (slice_get-get_or states j d within_j) in
            is.differ i j x.0 y.0 lt x.1 y.1 (x.2 ∙ alike ∙ sym y.2);
        have = λ k d within_k.
            let x = at_of_map (λ (v : Visit). v.state) vs k (get_or states k d) (slice_get-get_or states k d within_k) in
            subst P x.2 (each k x.0 x.1);
      }

-- one action more, from the state at the head
module _ (t : PlainTask) (limit head : ℕ) (from : State) (a : ActionId) (vs : List Visit) (is : Expands t limit head a.0 from vs) where
  module _ (x : State) (to_x : step t from a ≡ Some x) where
    follow_known : HasState vs x → Expands t limit head (a.0 + 1) from vs
    follow_known known = record {
      walk = pass_known t head a.0 vs is.walk is.visit a x is.here refl (ap (λ s. step t s a) is.state ∙ to_x) known;
      few = is.few;
      visit = is.visit;
      here = is.here;
      state = is.state;
    }

    pub pushed : (HasState vs x → ⊥) → IsWalk t head (a.0 + 1) (vs ++ record { state = x; parent = head; action = a } ∷ [])
    pushed fresh = push_new t head a.0 vs is.walk is.visit a x is.here refl (ap (λ s. step t s a) is.state ∙ to_x) fresh

    pub follow_noted : (ws : List Visit) → IsNoted vs ws (record { state = x; parent = head; action = a }) → length ws ≤ limit → Expands t limit head (a.0 + 1) from ws
    follow_noted ws noted few = elim noted [
      | inl known ↦ subst (λ us. Expands t limit head (a.0 + 1) from us) (sym known.1) (follow_known known.0)
      | inr fresh ↦ record {
        walk = subst (λ us. IsWalk t head (a.0 + 1) us) (sym fresh.1) (pushed fresh.0);
        few = few;
        visit = is.visit;
        here = subst (λ us. slice_get us head ≡ Some is.visit) (sym fresh.1) (pushed_old vs (record { state = x; parent = head; action = a }) is.visit head is.here);
        state = is.state;
      }
    ]

pub walk_begins : (t : PlainTask) (first : Visit) → first.state ≡ start_of t → IsWalk t 0 0 (first ∷ [])
walk_begins t first is_start =
    let none : ℕ → List ActionId = λ k. [] in
    record {
      path = none;
      ways = record {
        first = refl;
        lower = λ k v positive at. absurd (let within : k < 1 = slice_get_within (first ∷ []) k v at in omega arith);
        later = λ k v positive at. absurd (let within : k < 1 = slice_get_within (first ∷ []) k v at in omega arith);
      };
      leads = λ k v at. after_nothing t (start_of t) ∙ ap Some (sym is_start ∙ ap (λ (x : Visit). x.state) (sym (only k v at)));
      first = record { place = 0; visit = first; at = refl; state = is_start; short = omega arith };
      rise = λ j k le within. omega arith;
      near = λ k within within_k. omega arith;
      differ = λ j k v w lt p q same. (let within : k < 1 = slice_get_within (first ∷ []) k w q in omega arith);
      closed = λ k v a u lt at e. absurd (omega arith);
      begun = λ v a u at low e. absurd (omega arith);
    }
  where
    only : (k : ℕ) (v : Visit) → slice_get (first ∷ []) k ≡ Some v → v ≡ first
    only zero v at = cc
    only (suc k) v at = cc

-- the actions that are passed over lead nowhere
pub expands_on : (t : PlainTask) (limit head part more : ℕ) (from : State) (vs : List Visit) → IsGap t part more → Expands t limit head part from vs → Expands t limit head more from vs
expands_on t limit head part more from vs gap is =
    let walk = is.walk in
    record {
      walk = record {
        path = walk.path;
        ways = walk.ways;
        leads = walk.leads;
        first = walk.first;
        rise = walk.rise;
        near = walk.near;
        differ = walk.differ;
        closed = walk.closed;
        begun = λ v a u at low e. walk.begun v a u at (gap v.state u a e low) e;
      };
      few = is.few;
      visit = is.visit;
      here = is.here;
      state = is.state;
    }

-- all actions of the state at the head are followed
pub head_done : (t : PlainTask) (limit head part : ℕ) (from : State) (vs : List Visit) → length t.actions ≤ part → Expands t limit head part from vs → IsExpanded t limit (head + 1) vs
head_done t limit head part from vs all is = record { walk = next_head t head part vs is.walk all (slice_get_within vs head is.visit is.here); few = is.few }

-- the start alone
pub begins : (t : PlainTask) (limit : ℕ) (ws : List Visit) → IsBegun t ws → 1 ≤ limit → IsExpanded t limit 0 ws
begins t limit ws is some =
    record { walk = subst (λ us. IsWalk t 0 0 us) (sym is.only) (walk_begins t is.visit is.state); few = omega (arith, ap length is.only) }
