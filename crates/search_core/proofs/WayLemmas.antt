-- The way back from a found state to the start.
use Rattle.std.proofs.Common.{◌≡◌, ℕ, ◌+◌, ◌<◌, List, [], ◌∷◌, ◌++◌, length, reverse, refl, sym, ap, subst, ◌∙◌, Some, arith}
use Rattle.std.specs.Prelude.{Contains, slice_get}
use Rattle.std.proofs.lemmas.List.{length-map, reverse-append}
use Rattle.std.proofs.lemmas.Option.{same_Some, slice_get_within}
use Rattle.grd_base.specs.declared.ids.ActionId.{ActionId}
use Rattle.search_core.specs.Spaces.{Successors, IsWalk, end_of, actions_of}
use Rattle.search_core.specs.Progress.{Entry, AreLinked, HaveEarlierParents, IsChild, IsWayOn}
use Rattle.search_core.proofs.PlaceLemmas.{some_at}

-- a walk from an entry's state to the end, whose actions are the path so far, last first
pub record IsRest {S : Type 0} (next : Successors S) (s : S) (depth deeper : ℕ) (path : List ActionId) (end : S) : Type 0 where
  pub walk : List (ActionId × S)
  pub steps : IsWalk next s walk
  pub carries : actions_of walk ≡ reverse path
  pub ends : end_of s walk ≡ end
  pub long : length walk + depth ≡ deeper + 1

-- from the entry at this place the path so far leads through the one at `to`, and on by the last step
pub record IsOnWay {S M : Type 0} (entries : List (Entry S M)) (to : ℕ) (last : ActionId) (path : List ActionId) (place : ℕ) : Type 0 where
  pub entry : Entry S M
  pub at : slice_get entries place ≡ Some entry
  pub rest : (next : Successors S) (start : S) → AreLinked next start entries → (e : Entry S M) (end : S) → slice_get entries to ≡ Some e → Contains (next e.0) (last, end)
      → IsRest next entry.0 entry.1.way.depth e.1.way.depth path end

module _ {S M : Type 0} (entries : List (Entry S M)) (to : ℕ) (last : ActionId) where
  pub way_first : to < length entries → IsOnWay entries to last (last ∷ []) to
  way_first within =
      let here : (e : Entry S M) × (slice_get entries to ≡ Some e) = some_at entries to within in
      record {
        entry = here.0;
        at = here.1;
        rest = λ next start linked e end got step.
            let same : here.0 ≡ e = same_Some _ _ (sym here.1 ∙ got) in
            let P : Entry S M → Type 0 = λ f. Contains (next f.0) (last, end) in
            let deep : here.0.1.way.depth ≡ e.1.way.depth = ap (λ (f : Entry S M). f.1.way.depth) same in
            record {
              walk = (last, end) ∷ [];
              steps = (subst P (sym same) step, tt);
              carries = refl;
              ends = refl;
              long = omega (arith, deep);
            };
      }

  pub way_more : HaveEarlierParents entries → (path : List ActionId) (place : ℕ) (entry : Entry S M) → slice_get entries place ≡ Some entry → 0 < place
      → IsOnWay entries to last path place → IsOnWay entries to last (path ++ entry.1.way.action ∷ []) entry.1.way.parent
  way_more earlier path place entry got above on =
      let lower : entry.1.way.parent < place = earlier place entry above got in
      let within : place < length entries = slice_get_within entries place entry got in
      let before : (e : Entry S M) × (slice_get entries entry.1.way.parent ≡ Some e) = some_at entries entry.1.way.parent (omega arith) in
      let same : on.entry ≡ entry = same_Some _ _ (sym on.at ∙ got) in
      record {
        entry = before.0;
        at = before.1;
        rest = λ next start linked e end got_e step.
            let child : IsChild next entries entry.0 entry.1.way place = linked.later place entry above got in
            let parent : child.before ≡ before.0 = same_Some _ _ (sym child.at ∙ before.1) in
            let P : Entry S M → Type 0 = λ f. IsRest next f.0 f.1.way.depth e.1.way.depth path end in
            let Q : Entry S M → Type 0 = λ f. IsRest next f.0 f.1.way.depth e.1.way.depth (path ++ entry.1.way.action ∷ []) end in
            let rest : IsRest next entry.0 entry.1.way.depth e.1.way.depth path end = subst P same (on.rest next start linked e end got_e step) in
            subst Q parent (record {
              walk = (entry.1.way.action, entry.0) ∷ rest.walk;
              steps = (child.step, rest.steps);
              carries = ap (λ actions. entry.1.way.action ∷ actions) rest.carries ∙ sym (reverse-append path (entry.1.way.action ∷ []));
              ends = rest.ends;
              long = let long : length rest.walk + entry.1.way.depth ≡ e.1.way.depth + 1 = rest.long in omega (arith, long, child.deeper);
            });
      }

  pub way_end : (path : List ActionId) (place : ℕ) → place ≡ 0 → IsOnWay entries to last path place → (next : Successors S) (start : S) → AreLinked next start entries → IsWayOn next start entries to last (reverse path)
  way_end path place zero on_place next start linked e end got step =
      let Q : ℕ → Type 0 = λ n. IsOnWay entries to last path n in
      let on : IsOnWay entries to last path 0 = subst Q zero on_place in
      let first = linked.first on.entry on.at in
      let rest : IsRest next on.entry.0 on.entry.1.way.depth e.1.way.depth path end = on.rest next start linked e end got step in
      record {
        leads = record {
          walk = rest.walk;
          steps = let P : S → Type 0 = λ s. IsWalk next s rest.walk in subst P first.0 rest.steps;
          carries = rest.carries;
          ends = let P : S → Type 0 = λ s. end_of s rest.walk ≡ end in subst P first.0 rest.ends;
        };
        long = let a : length (reverse path) ≡ length rest.walk = ap length (sym rest.carries) ∙ length-map rest.walk (λ (step : ActionId × S). step.0) in omega (arith, a, rest.long, first.1);
      }
