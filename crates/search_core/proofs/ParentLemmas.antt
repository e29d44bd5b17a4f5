-- The way back from a found state to the start.
use Rattle.std.proofs.Common.{◌≡◌, ℕ, ◌+◌, ◌<◌, ◌≤◌, List, [], ◌∷◌, ◌++◌, length, reverse, refl, sym, ap, subst, ◌∙◌, Some, arith}
use Rattle.std.specs.Prelude.{slice_get}
use Rattle.std.proofs.lemmas.List.{length-map, reverse-append}
use Rattle.std.proofs.lemmas.Option.{same_Some, slice_get_within}
use Rattle.grd_base.specs.declared.ids.ActionId.{ActionId}
use Rattle.search_core.specs.Spaces.{Successors, IsWalk, end_of, actions_of}
use Rattle.search_core.specs.declared.ways.Way.{Way}
use Rattle.search_core.specs.declared.nodes.Node.{Node}
use Rattle.search_core.specs.Nodes.{Entry, IsAfter, AreLinked, HaveParents, IsWayAt}

-- a walk from a state to the end, whose actions are the path so far, last first
pub record IsRest {S : Type 0} (next : Successors S) (s : S) (depth deeper : ℕ) (path : List ActionId) (end : S) : Type 0 where
  pub walk : List (ActionId × S)
  pub steps : IsWalk next s walk
  pub carries : actions_of walk ≡ reverse path
  pub ends : end_of s walk ≡ end
  pub long : length walk + depth ≤ deeper

-- from an entry with this way the path so far leads to the one at `to`
pub record IsOnWay {S M : Type 0} (entries : List (Entry S M)) (to : ℕ) (path : List ActionId) (way : Way) : Type 0 where
  pub place : ℕ
  pub entry : Entry S M
  pub at : slice_get entries place ≡ Some entry
  pub way_is : entry.1.way ≡ way
  pub rest : (next : Successors S) (start : S) → AreLinked next start entries → (e : Entry S M) → slice_get entries to ≡ Some e → IsRest next entry.0 entry.1.way.depth e.1.way.depth path e.0

module _ {S M : Type 0} (entries : List (Entry S M)) (to : ℕ) where
  pub way_first : (k : S) (v : Node M) → slice_get entries to ≡ Some (k, v) → IsOnWay entries to [] v.way
  way_first k v at = record {
    place = to;
    entry = (k, v);
    at = at;
    way_is = refl;
    rest = λ next start linked e got.
        let same : (k, v) ≡ e = same_Some _ _ (sym at ∙ got) in
        let P : Entry S M → Type 0 = λ f. IsRest next k v.way.depth f.1.way.depth [] f.0 in
        subst P same (record { walk = []; steps = tt; carries = refl; ends = refl; long = omega arith });
  }

  -- where the parent stands
  pub parent_within : HaveParents entries → (path : List ActionId) (way : Way) → 0 < way.depth → IsOnWay entries to path way → way.parent < length entries
  parent_within parents path way above on =
      let P : Way → Type 0 = λ w. w.parent < length entries in
      let up : 0 < on.entry.1.way.depth = omega (arith, above, ap (λ (w : Way). w.depth) on.way_is) in
      let before = parents on.place on.entry on.at up in
      subst P on.way_is (slice_get_within entries on.entry.1.way.parent before.0 before.1)

  module _ (parents : HaveParents entries) (path : List ActionId) (way : Way) (above : 0 < way.depth) (on : IsOnWay entries to path way) (k : S) (v : Node M) (got : slice_get entries way.parent ≡ Some (k, v)) where
    up : 0 < on.entry.1.way.depth
    up = omega (arith, above, ap (λ (w : Way). w.depth) on.way_is)

    pub way_lower : v.way.depth < way.depth
    way_lower =
        let before = parents on.place on.entry on.at up in
        let P : Way → Type 0 = λ w. slice_get entries w.parent ≡ Some before.0 in
        let same : before.0 ≡ (k, v) = same_Some _ _ (sym (subst P on.way_is before.1) ∙ got) in
        let d : before.0.1.way.depth ≡ v.way.depth = ap (λ (f : Entry S M). f.1.way.depth) same in
        omega (arith, d, before.2, ap (λ (w : Way). w.depth) on.way_is)

    pub way_more : IsOnWay entries to (path ++ way.action ∷ []) v.way
    way_more = record {
      place = way.parent;
      entry = (k, v);
      at = got;
      way_is = refl;
      rest = λ next start linked e got_e.
          let after : IsAfter next entries on.entry.0 on.entry.1.way = linked.later on.place on.entry on.at up in
          let P : Way → Type 0 = λ w. slice_get entries w.parent ≡ Some after.before in
          let same : after.before ≡ (k, v) = same_Some _ _ (sym (subst P on.way_is after.at) ∙ got) in
          let rest : IsRest next on.entry.0 on.entry.1.way.depth e.1.way.depth path e.0 = on.rest next start linked e got_e in
          let action : on.entry.1.way.action ≡ way.action = ap (λ (w : Way). w.action) on.way_is in
          let Q : Entry S M → Type 0 = λ f. IsRest next f.0 f.1.way.depth e.1.way.depth (path ++ on.entry.1.way.action ∷ []) e.0 in
          let A : ActionId → Type 0 = λ a. IsRest next k v.way.depth e.1.way.depth (path ++ a ∷ []) e.0 in
          subst A action (subst Q same (record {
            walk = (on.entry.1.way.action, on.entry.0) ∷ rest.walk;
            steps = (after.step, rest.steps);
            carries = ap (λ actions. on.entry.1.way.action ∷ actions) rest.carries ∙ sym (reverse-append path (on.entry.1.way.action ∷ []));
            ends = rest.ends;
            long = let long : length rest.walk + on.entry.1.way.depth ≤ e.1.way.depth = rest.long in omega (arith, long, after.deeper);
          }));
    }

  pub way_end : (path : List ActionId) (way : Way) → way.depth ≤ 0 → IsOnWay entries to path way → (next : Successors S) (start : S) → AreLinked next start entries → IsWayAt next start entries to (reverse path)
  way_end path way low on next start linked e got =
      let rest : IsRest next on.entry.0 on.entry.1.way.depth e.1.way.depth path e.0 = on.rest next start linked e got in
      let first : on.entry.0 ≡ start = linked.first on.place on.entry on.at (omega (arith, low, ap (λ (w : Way). w.depth) on.way_is)) in
      record {
        leads = record {
          walk = rest.walk;
          steps = let P : S → Type 0 = λ s. IsWalk next s rest.walk in subst P first rest.steps;
          carries = rest.carries;
          ends = let P : S → Type 0 = λ s. end_of s rest.walk ≡ e.0 in subst P first rest.ends;
        };
        no_longer = let a : length (reverse path) ≡ length rest.walk = ap length (sym rest.carries) ∙ length-map rest.walk (λ (step : ActionId × S). step.0) in omega (arith, a, rest.long);
      }
