-- On each way to a done state some state waits, with a total that is no more than the way's length.
use Rattle.std.proofs.Common.{◌≡◌, ℕ, ◌+◌, ◌≤◌, List, [], ◌∷◌, length, refl, sym, ap, subst, ◌∙◌, ◌⊎◌, inl, inr, Some, Option, Bool, true, false, true≢false, arith}
use Rattle.std.specs.Prelude.{slice_get}
use Rattle.std.proofs.lemmas.List.{length-map}
use Rattle.std.proofs.lemmas.List.Elements.{All-contains}
use Rattle.std.proofs.lemmas.Bool.{cases_Bool}
use Rattle.grd_base.specs.declared.ids.ActionId.{ActionId}
use Rattle.grd_base.specs.declared.limits.Bound.{Bound}
use Rattle.grd_base.specs.declared.limits.Bound.TheVariants.{Steps, Never}
use Rattle.search_core.specs.declared.queue.Ticket.{Ticket}
use Rattle.search_core.specs.Spaces.{Successors, IsWalk, end_of, actions_of, IsDoneWithin, IsAdmissible, IsAtMostSteps}
use Rattle.search_core.specs.Nodes.{Entry, IsHeldBy, IsNoDeeper, IsTotalAtMost, IsPlaced, AreNodes, AreClosed}

-- some state waits, with a total of at most n
pub record SomeWaits {S M : Type 0} (entries : List (Entry S M)) (n : ℕ) : Type 0 where
  pub place : ℕ
  pub entry : Entry S M
  pub at : slice_get entries place ≡ Some entry
  pub waits : entry.1.waits ≡ true
  pub low : IsTotalAtMost entry.1.way.depth entry.1.bound n

-- a done state at the end of a walk
pub done_of : {S : Type 0} (next : Successors S) (is_done : S → Bool) (s : S) (walk : List (ActionId × S)) → IsWalk next s walk → is_done (end_of s walk) ≡ true → IsDoneWithin next is_done s (length walk)
done_of next is_done s walk steps done = record {
  path = actions_of walk;
  end = end_of s walk;
  leads = record { walk = walk; steps = steps; carries = refl; ends = refl };
  short = omega (arith, length-map walk (λ (t : ActionId × _). t.0));
  done = done;
}

module _ {S M : Type 0} (next : Successors S) (is_done : S → Bool) (level : S → Option ℕ) (shows : S → M → Bound → Type 0) (law : (s : S) (m : M) (b : Bound) → shows s m b → IsAdmissible next is_done (level s) s b)
    (start : S) (limit kept : ℕ) (entries : List (Entry S M)) (tickets : List Ticket) (nodes : AreNodes next is_done level shows start limit kept entries tickets) where
  at_most_steps : (i : ℕ) (e : Entry S M) (b : Bound) → slice_get entries i ≡ Some e → e.1.bound ≡ b → IsAtMostSteps next is_done e.0 b
  at_most_steps i e b got is = let P : Bound → Type 0 = λ c. IsAtMostSteps next is_done e.0 c in subst P is (law e.0 e.1.mark e.1.bound (nodes.each i e got).shown).below_steps

  placed_at : (i : ℕ) (e : Entry S M) (b : Bound) → slice_get entries i ≡ Some e → e.1.bound ≡ b → IsPlaced b e.1.waits e.1.expanded
  placed_at i e b got is = let P : Bound → Type 0 = λ c. IsPlaced c e.1.waits e.1.expanded in subst P is (nodes.each i e got).placed

  -- a state that waits is itself the one
  itself : (i : ℕ) (e : Entry S M) (b : Bound) (n : ℕ) → slice_get entries i ≡ Some e → e.1.bound ≡ b → e.1.waits ≡ true → IsDoneWithin next is_done e.0 n → SomeWaits entries (e.1.way.depth + n)
  itself i e (Steps k) n got is waits within =
      let low : k ≤ n = at_most_steps i e (Steps k) got is n within in
      let P : Bound → Type 0 = λ b. IsTotalAtMost e.1.way.depth b (e.1.way.depth + n) in
      record { place = i; entry = e; at = got; waits = waits; low = subst P (sym is) (omega (arith, low)) }
  itself i e Never n got is waits within = absurd (at_most_steps i e Never got is n within)

  more_waits : (m n : ℕ) → m ≤ n → SomeWaits entries m → SomeWaits entries n
  more_waits m n le w = record { place = w.place; entry = w.entry; at = w.at; waits = w.waits; low = up w.entry.1.bound w.low }
    where
      up : (b : Bound) → IsTotalAtMost w.entry.1.way.depth b m → IsTotalAtMost w.entry.1.way.depth b n
      up (Steps k) h = omega (arith, le, h)
      up Never h = h

  near_of : (b : Bound) (i : ℕ) (e : Entry S M) (n depth : ℕ) → slice_get entries i ≡ Some e → e.1.bound ≡ b → IsDoneWithin next is_done e.0 n → IsNoDeeper b e.1.way.depth depth → e.1.way.depth ≤ depth
  near_of (Steps k) i e n depth got is within h = h
  near_of Never i e n depth got is within h = absurd (at_most_steps i e Never got is n within)

  module _ (closed : AreClosed next entries) where
    expanded_of : (b : Bound) (e : Entry S M) → IsPlaced b e.1.waits e.1.expanded → IsAtMostSteps next is_done e.0 b → (n : ℕ) → IsDoneWithin next is_done e.0 n → e.1.waits ≡ false → e.1.expanded ≡ true
    expanded_of (Steps k) e placed lower n within still = elim placed [ inl waits ↦ absurd (true≢false (sym waits ∙ still)) | inr expanded ↦ expanded ]
    expanded_of Never e placed lower n within still = absurd (lower n within)

    -- from a held state on
    pub waiting_from : (walk : List (ActionId × S)) (i : ℕ) (e : Entry S M) → slice_get entries i ≡ Some e → IsWalk next e.0 walk → is_done (end_of e.0 walk) ≡ true → SomeWaits entries (e.1.way.depth + length walk)
    waiting_from [] i e got steps done = by (cases_Bool e.1.waits)
      where
        within : IsDoneWithin next is_done e.0 0
        within = done_of next is_done e.0 [] tt done

        by : (e.1.waits ≡ true) ⊎ (e.1.waits ≡ false) → SomeWaits entries (e.1.way.depth + 0)
        by (inl waits) = itself i e e.1.bound 0 got refl waits within
        by (inr still) =
            let expanded : e.1.expanded ≡ true = expanded_of e.1.bound e (nodes.each i e got).placed (at_most_steps i e e.1.bound got refl) 0 within still in
            absurd (true≢false (sym done ∙ ((nodes.each i e got).expanded expanded).not_done))
    waiting_from (step ∷ rest) i e got steps done = by (cases_Bool e.1.waits) (λ j f got_f walk_f done_f. waiting_from rest j f got_f walk_f done_f)
      where
        within : IsDoneWithin next is_done e.0 (length (step ∷ rest))
        within = done_of next is_done e.0 (step ∷ rest) steps done

        by : (e.1.waits ≡ true) ⊎ (e.1.waits ≡ false)
            → ((j : ℕ) (f : Entry S M) → slice_get entries j ≡ Some f → IsWalk next f.0 rest → is_done (end_of f.0 rest) ≡ true → SomeWaits entries (f.1.way.depth + length rest))
            → SomeWaits entries (e.1.way.depth + length (step ∷ rest))
        by (inl waits) more = itself i e e.1.bound (length (step ∷ rest)) got refl waits within
        by (inr still) more =
            let expanded : e.1.expanded ≡ true = expanded_of e.1.bound e (nodes.each i e got).placed (at_most_steps i e e.1.bound got refl) (length (step ∷ rest)) within still in
            let held : IsHeldBy entries step.1 (e.1.way.depth + 1) = All-contains (λ (s : ActionId × S). IsHeldBy entries s.1 (e.1.way.depth + 1)) (next e.0) step (closed i e got expanded still) steps.0 in
            let P : S → Type 0 = λ t. IsWalk next t rest in
            let Q : S → Type 0 = λ t. is_done (end_of t rest) ≡ true in
            let walk : IsWalk next held.entry.0 rest = subst P (sym held.state_is) steps.1 in
            let end : is_done (end_of held.entry.0 rest) ≡ true = subst Q (sym held.state_is) done in
            let low : held.entry.1.way.depth ≤ e.1.way.depth + 1 = near_of held.entry.1.bound held.place held.entry (length rest) (e.1.way.depth + 1) held.at refl (done_of next is_done held.entry.0 rest walk end) held.no_deeper in
            more_waits (held.entry.1.way.depth + length rest) (e.1.way.depth + length (step ∷ rest)) (omega (arith, low)) (more held.place held.entry held.at walk end)

    -- from the start
    pub waiting_on_way : IsHeldBy entries start 0 → (n : ℕ) → IsDoneWithin next is_done start n → SomeWaits entries n
    waiting_on_way root n d =
        let P : S → Type 0 = λ t. IsWalk next t d.leads.walk in
        let Q : S → Type 0 = λ t. end_of t d.leads.walk ≡ d.end in
        let walk : IsWalk next root.entry.0 d.leads.walk = subst P (sym root.state_is) d.leads.steps in
        let ends : end_of root.entry.0 d.leads.walk ≡ d.end = subst Q (sym root.state_is) d.leads.ends in
        let done : is_done (end_of root.entry.0 d.leads.walk) ≡ true = ap is_done ends ∙ d.done in
        let long : length d.leads.walk ≡ length d.path = sym (length-map d.leads.walk (λ (t : ActionId × S). t.0)) ∙ ap length d.leads.carries in
        let low : root.entry.1.way.depth ≤ 0 = near_of root.entry.1.bound root.place root.entry (length d.leads.walk) 0 root.at refl (done_of next is_done root.entry.0 d.leads.walk walk done) root.no_deeper in
        more_waits (root.entry.1.way.depth + length d.leads.walk) n (omega (arith, low, long, d.short)) (waiting_from d.leads.walk root.place root.entry root.at walk done)
