-- A walk in layers, and how deep its visits are.
use Rattle.std.proofs.Common.{◌≡◌, ℕ, zero, suc, ◌+◌, ◌-◌, ◌<◌, ◌≤◌, ◌⊎◌, get_or, List, [], ◌∷◌, ◌++◌, length, take, replicate, refl, sym, ◌∙◌, ap, inl, inr, arith, Some}
use Rattle.std.specs.Prelude.{slice_get}
use Rattle.std.proofs.lemmas.List.{length_push}
use Rattle.std.proofs.lemmas.Grind.{common_steps}
use Rattle.std.proofs.lemmas.Bool.{cases_lt}
use Rattle.std.proofs.lemmas.Option.{slice_get_within, slice_get_read}
use mathlib.Core.Path.{subst}
use Rattle.grd_base.specs.declared.ids.ActionId.{ActionId}
use Rattle.strips_model.specs.Values.{PlainTask}
use Rattle.strips_model.specs.Plans.{State, step}
use Rattle.grd_base.specs.Counts.{MoreThan}
use Rattle.plain_search.specs.Walks.{Visit, HasState, IsNoted, AreWays, IsWalk}
use Rattle.plain_search.specs.Layers.{IsWithin, IsLayered}
use Rattle.plain_search.specs.Depths.{IsBegun, AreDepths, IsDeepened, Deepens}
use Rattle.plain_search.proofs.MoveLemmas.{IsGap}
use Rattle.plain_search.proofs.WalkPlaceLemmas.{pushed_cases, pushed_old, pushed_new, old_at, there}
use Rattle.plain_search.proofs.WalkPlanLemmas.{some_same}
use Rattle.plain_search.proofs.WalkLemmas.{pushed, follow_noted, expands_on, head_done, many_visits, begins}

-- the depth of a visit is the length of the path to it
module _ (path : ℕ → List ActionId) (vs : List Visit) (ds : List ℕ) (ways : AreWays path vs) (are : AreDepths vs ds) where
  depth_below : (n k : ℕ) → k < n → k < length vs → slice_get ds k ≡ Some (length (path k))
  depth_below zero k low within = absurd (omega arith)
  depth_below (suc n) zero low within = are.first ∙ ap (λ p. Some (length p)) (sym ways.first)
  depth_below (suc n) (suc k) low within =
      let v = there vs (suc k) within in
      let lower : v.0.parent < suc k = ways.lower (suc k) v.0 (omega arith) v.1 in
      let before : slice_get ds v.0.parent ≡ Some (length (path v.0.parent)) = depth_below n v.0.parent (omega arith) (omega arith) in
      are.later (suc k) (length (path v.0.parent)) v.0 (omega arith) v.1 before
      ∙ ap Some (sym (ap length (ways.later (suc k) v.0 (omega arith) v.1) ∙ length_push (path v.0.parent) v.0.action))

  pub depth_of : (k : ℕ) → k < length vs → slice_get ds k ≡ Some (length (path k))
  depth_of k within = depth_below (k + 1) k (omega arith) within

  pub depth_is : (k n : ℕ) → slice_get ds k ≡ Some n → n ≡ length (path k)
  depth_is k n at =
      let within : k < length ds = slice_get_within ds k n at in
      some_same n (length (path k)) (sym at ∙ depth_of k (omega (arith, are.same_length)))

  depths_pushed : (v : Visit) (n deeper : ℕ) → 0 < length vs → v.parent < length vs → slice_get ds v.parent ≡ Some n → deeper ≡ n + 1 → AreDepths (vs ++ v ∷ []) (ds ++ deeper ∷ [])
  depths_pushed v n deeper some low at_parent next =
      let same : length ds ≡ length vs = are.same_length in
      record {
        same_length = omega (arith, length_push vs v, length_push ds deeper);
        first = pushed_old ds deeper 0 0 are.first;
        later = λ k m w positive at before. elim (pushed_cases vs v w k at) [
          | inl old ↦
              let within : k < length vs = slice_get_within vs k w old in
              let lower : w.parent < k = ways.lower k w positive old in
              pushed_old ds deeper (m + 1) k (are.later k m w positive old (old_at ds deeper m w.parent (omega arith) before))
          | inr new ↦
              let low_w : w.parent < length ds = subst (λ (x : Visit). x.parent < length ds) (sym new.1) (omega arith) in
              let at_w : slice_get ds w.parent ≡ Some n = subst (λ (x : Visit). slice_get ds x.parent ≡ Some n) (sym new.1) at_parent in
              let alike : m ≡ n = some_same m n (sym (old_at ds deeper m w.parent low_w before) ∙ at_w) in
              ap (slice_get (ds ++ deeper ∷ [])) (new.0 ∙ sym same) ∙ pushed_new ds deeper ∙ ap Some (next ∙ ap (λ i. i + 1) (sym alike))
        ];
      }

-- the depth that is read at the place of a visit
pub depth_read : (vs : List Visit) (ds : List ℕ) (k n : ℕ) (v : Visit) → AreDepths vs ds → slice_get vs k ≡ Some v → n ≡ get_or ds k n → slice_get ds k ≡ Some n
depth_read vs ds k n v are at read =
    let within : k < length ds = omega (arith, are.same_length, slice_get_within vs k v at) in
    slice_get_read ds (length ds) k n refl within read

-- a list of the old depths, and of the new one where there is a new visit
resized_same : (ds : List ℕ) (n deeper : ℕ) → n ≡ length ds → take n ds ++ replicate (n - length ds) deeper ≡ ds
resized_same ds n deeper e = grind (arith, common_steps)

resized_more : (ds : List ℕ) (n deeper : ℕ) → n ≡ length ds + 1 → take n ds ++ replicate (n - length ds) deeper ≡ ds ++ deeper ∷ []
resized_more ds n deeper e = grind (arith, common_steps)

-- no visit is deeper than the successors of the state at the head
near_head : (t : PlainTask) (head part depth k : ℕ) (vs : List Visit) (ds : List ℕ) (walk : IsWalk t head part vs) → AreDepths vs ds → slice_get ds head ≡ Some depth → k < length vs
    → length (walk.path k) ≤ depth + 1
near_head t head part depth k vs ds walk are here within =
    let at_head : head < length ds = slice_get_within ds head depth here in
    omega (arith, are.same_length, depth_is walk.path vs ds walk.ways are head depth here, walk.near k (omega (arith, are.same_length)) within)

-- one action more, from the state at the head
module _ (t : PlainTask) (limit head : ℕ) (from : State) (a : ActionId) (deeper : ℕ) (vs : List Visit) (ds : List ℕ) (is : Deepens t limit head a.0 from deeper vs ds) where
  module _ (x : State) (to_x : step t from a ≡ Some x) where
    more_depths : AreDepths (vs ++ record { state = x; parent = head; action = a } ∷ []) (ds ++ deeper ∷ [])
    more_depths =
        let within : head < length vs = slice_get_within vs head is.walk.visit is.walk.here in
        depths_pushed is.walk.walk.path vs ds is.walk.walk.ways is.depths (record { state = x; parent = head; action = a }) is.depth deeper (omega arith) within is.here is.next

    pub deepen_noted : (ws : List Visit) (es : List ℕ) → IsNoted vs ws (record { state = x; parent = head; action = a }) → length ws ≤ limit
        → es ≡ take (length ws) ds ++ replicate (length ws - length ds) deeper → Deepens t limit head (a.0 + 1) from deeper ws es
    deepen_noted ws es noted few resized =
        let walk = follow_noted t limit head from a vs is.walk x to_x ws noted few in
        elim noted [
          | inl known ↦
              let same : es ≡ ds = resized ∙ resized_same ds (length ws) deeper (ap length known.1 ∙ sym is.depths.same_length) in
              record {
                walk = walk;
                depths = subst (λ us. AreDepths us es) (sym known.1) (subst (λ fs. AreDepths vs fs) (sym same) is.depths);
                depth = is.depth;
                here = ap (λ fs. slice_get fs head) same ∙ is.here;
                next = is.next;
              }
          | inr fresh ↦
              let long : length ws ≡ length vs + 1 = ap length fresh.1 ∙ length_push vs (record { state = x; parent = head; action = a }) in
              let more : es ≡ ds ++ deeper ∷ [] = resized ∙ resized_more ds (length ws) deeper (omega (arith, is.depths.same_length)) in
              record {
                walk = walk;
                depths = subst (λ us. AreDepths us es) (sym fresh.1) (subst (λ fs. AreDepths (vs ++ record { state = x; parent = head; action = a } ∷ []) fs) (sym more) more_depths);
                depth = is.depth;
                here = ap (λ fs. slice_get fs head) more ∙ pushed_old ds deeper is.depth head is.here;
                next = is.next;
              }
        ]

    pub deepen_many : length vs ≡ limit → (HasState vs x → ⊥) → MoreThan limit (IsWithin t deeper)
    deepen_many full fresh =
        let new : Visit = record { state = x; parent = head; action = a } in
        let ws : List Visit = vs ++ new ∷ [] in
        let walk : IsWalk t head (a.0 + 1) ws = pushed t limit head from a vs is.walk x to_x fresh in
        many_visits t head (a.0 + 1) ws walk (IsWithin t deeper)
        (λ k v at. (
          walk.path k,
          walk.leads k v at,
          omega (arith, is.next, near_head t head (a.0 + 1) is.depth k ws (ds ++ deeper ∷ []) walk more_depths (pushed_old ds deeper is.depth head is.here) (slice_get_within ws k v at)),
        ))
        limit (omega (arith, length_push vs new))

pub more_steps : (t : PlainTask) (limit fewer steps : ℕ) → fewer ≤ steps → MoreThan limit (IsWithin t fewer) → MoreThan limit (IsWithin t steps)
more_steps t limit fewer steps le more = record {
  items = more.items;
  many = more.many;
  differ = more.differ;
  have = λ k d within. let is = more.have k d within in (is.0, is.1, omega (arith, is.2));
}

-- the actions that are passed over lead nowhere
pub deepens_on : (t : PlainTask) (limit head part more : ℕ) (from : State) (deeper : ℕ) (vs : List Visit) (ds : List ℕ) → IsGap t part more → Deepens t limit head part from deeper vs ds → Deepens t limit head more from deeper vs ds
deepens_on t limit head part more from deeper vs ds gap is =
    record { walk = expands_on t limit head part more from vs gap is.walk; depths = is.depths; depth = is.depth; here = is.here; next = is.next }

-- all actions of the state at the head are followed
pub deepened : (t : PlainTask) (limit head part : ℕ) (from : State) (deeper : ℕ) (vs : List Visit) (ds : List ℕ) → length t.actions ≤ part → Deepens t limit head part from deeper vs ds
    → IsDeepened t limit deeper (head + 1) vs ds
deepened t limit head part from deeper vs ds all is =
    let walk : IsWalk t head part vs = is.walk.walk in
    record {
      walk = head_done t limit head part from vs all is.walk;
      depths = is.depths;
      within = λ k n at.
          let within_k : k < length ds = slice_get_within ds k n at in
          omega (arith, is.next, depth_is walk.path vs ds walk.ways is.depths k n at, near_head t head part is.depth k vs ds walk is.depths is.here (omega (arith, is.depths.same_length)));
    }

-- the start alone
pub deepens_begun : (t : PlainTask) (limit steps : ℕ) (vs : List Visit) → IsBegun t vs → 1 ≤ limit → IsDeepened t limit steps 0 vs (0 ∷ [])
deepens_begun t limit steps vs is some =
    let one : length vs ≡ 1 = ap length is.only in
    record {
      walk = begins t limit vs is some;
      depths = record {
        same_length = omega arith;
        first = refl;
        later = λ k n v positive at before. absurd (let within : k < length vs = slice_get_within vs k v at in omega arith);
      };
      within = λ k n at. omega (arith, only_zero k n at);
    }
  where
    only_zero : (k n : ℕ) → slice_get (0 ∷ []) k ≡ Some n → n ≡ 0
    only_zero zero n at = cc
    only_zero (suc k) n at = cc

-- the visits are those within so many steps, once all less deep ones are before the head
pub layered : (t : PlainTask) (limit steps head : ℕ) (vs : List Visit) (ds : List ℕ) → IsDeepened t limit steps head vs ds
    → (length vs ≤ head) ⊎ ((n : ℕ) × (slice_get ds head ≡ Some n) × (steps ≤ n)) → IsLayered t steps vs ds
layered t limit steps head vs ds is end =
    let walk : IsWalk t head 0 vs = is.walk.walk in
    record {
      path = walk.path;
      ways = walk.ways;
      leads = walk.leads;
      first = walk.first;
      same_length = is.depths.same_length;
      depth = depth_of walk.path vs ds walk.ways is.depths;
      within = λ k within. is.within k (length (walk.path k)) (depth_of walk.path vs ds walk.ways is.depths k within);
      rise = walk.rise;
      differ = walk.differ;
      closed = λ k v a u at low e. elim (cases_lt k head) [
        | inl before ↦ walk.closed k v a u before at e
        | inr past ↦
            let within : k < length vs = slice_get_within vs k v at in
            absurd (elim end [
              | inl all ↦ omega arith
              | inr deep ↦ omega (arith, deep.2, walk.rise head k past within, depth_is walk.path vs ds walk.ways is.depths head deep.0 deep.1)
            ])
      ];
    }
