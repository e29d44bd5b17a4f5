-- Entries that were added, or whose depth was lowered.
use Rattle.std.proofs.Common.{◌≡◌, ℕ, ◌≤◌, List, [], ◌∷◌, ◌++◌, refl, sym, ap, subst, ◌∙◌, ◌⊎◌, inl, inr, Some, arith}
use Rattle.std.specs.Prelude.{slice_get, Contains, All}
use Rattle.std.proofs.lemmas.Option.{same_Some}
use Rattle.std.proofs.lemmas.Bool.{cases_eq}
use Rattle.indexmap.specs.Layout.{set_value_at}
use Rattle.grd_base.specs.declared.ids.ActionId.{ActionId}
use Rattle.grd_base.specs.declared.limits.Bound.{Bound}
use Rattle.grd_base.specs.declared.limits.Bound.TheVariants.{Steps, Never}
use Rattle.search_core.specs.Spaces.{Successors}
use Rattle.search_core.specs.declared.nodes.Node.{Node}
use Rattle.search_core.specs.declared.ways.Way.{Way}
use Rattle.search_core.specs.declared.queue.Ticket.{Ticket}
use Rattle.search_core.specs.Nodes.{Entry, IsHeldBy, IsNoDeeper, IsTotalAtMost, IsAfter, IsTicket, AreHeldBy}
use Rattle.search_core.specs.Turns.{IsEased, IsEasedAt}
use Rattle.search_core.proofs.PlaceLemmas.{get_push_old, get_set_here, get_set_other}

no_deeper_eased : (b c : Bound) (d e n : ℕ) → c ≡ b → e ≤ d → IsNoDeeper b d n → IsNoDeeper c e n
no_deeper_eased (Steps k) c d e n same low h = let P : Bound → Type 0 = λ b. IsNoDeeper b e n in subst P (sym same) (omega (arith, low, h))
no_deeper_eased Never c d e n same low h = let P : Bound → Type 0 = λ b. IsNoDeeper b e n in subst P (sym same) tt

total_eased : (b c : Bound) (d e n : ℕ) → c ≡ b → e ≤ d → IsTotalAtMost d b n → IsTotalAtMost e c n
total_eased (Steps k) c d e n same low h = let P : Bound → Type 0 = λ b. IsTotalAtMost e b n in subst P (sym same) (omega (arith, low, h))
total_eased Never c d e n same low h = absurd h

module _ {S M : Type 0} where
  module _ (xs ys : List (Entry S M)) (eased : IsEased xs ys) where
    pub held_eased : (s : S) (depth : ℕ) → IsHeldBy xs s depth → IsHeldBy ys s depth
    held_eased s depth h =
        let f : IsEasedAt ys h.place h.entry = eased.each h.place h.entry h.at in
        record {
          place = h.place;
          entry = f.entry;
          at = f.at;
          state_is = f.state_is ∙ h.state_is;
          no_deeper = no_deeper_eased h.entry.1.bound f.entry.1.bound h.entry.1.way.depth f.entry.1.way.depth depth f.bound_is f.no_deeper h.no_deeper;
        }

    pub all_held_eased : (depth : ℕ) (steps : List (ActionId × S)) → AreHeldBy xs depth steps → AreHeldBy ys depth steps
    all_held_eased depth steps all k d within = held_eased _ depth (all k d within)

    pub after_eased : (next : Successors S) (s : S) (way : Way) → IsAfter next xs s way → IsAfter next ys s way
    after_eased next s way h =
        let f : IsEasedAt ys way.parent h.before = eased.each way.parent h.before h.at in
        let P : S → Type 0 = λ t. Contains (next t) (way.action, s) in
        record {
          before = f.entry;
          at = f.at;
          step = subst P (sym f.state_is) h.step;
          deeper = let low : f.entry.1.way.depth ≤ h.before.1.way.depth = f.no_deeper in omega (arith, low, h.deeper);
        }

    pub ticket_eased : (t : Ticket) → IsTicket xs t → IsTicket ys t
    ticket_eased t h =
        let f : IsEasedAt ys t.place.0 h.entry = eased.each t.place.0 h.entry h.at in
        record {
          entry = f.entry;
          at = f.at;
          no_less = total_eased h.entry.1.bound f.entry.1.bound h.entry.1.way.depth f.entry.1.way.depth t.total f.bound_is f.no_deeper h.no_less;
        }

    pub tickets_eased : (ts : List Ticket) → All (IsTicket xs) ts → All (IsTicket ys) ts
    tickets_eased ts all k d within = ticket_eased _ (all k d within)

  pub eased_refl : (xs : List (Entry S M)) → IsEased xs xs
  eased_refl xs = record { each = λ i e at. record { entry = e; at = at; state_is = refl; no_deeper = omega arith; bound_is = refl } }

  pub eased_trans : (xs ys zs : List (Entry S M)) → IsEased xs ys → IsEased ys zs → IsEased xs zs
  eased_trans xs ys zs a b = record {
    each = λ i e at.
        let f : IsEasedAt ys i e = a.each i e at in
        let g : IsEasedAt zs i f.entry = b.each i f.entry f.at in
        record {
          entry = g.entry;
          at = g.at;
          state_is = g.state_is ∙ f.state_is;
          no_deeper = omega (arith, g.no_deeper, f.no_deeper);
          bound_is = g.bound_is ∙ f.bound_is;
        };
  }

  pub eased_push : (xs : List (Entry S M)) (e : Entry S M) → IsEased xs (xs ++ e ∷ [])
  eased_push xs y = record { each = λ i e at. record { entry = e; at = get_push_old xs y i e at; state_is = refl; no_deeper = omega arith; bound_is = refl } }

  pub eased_set : (xs : List (Entry S M)) (place : ℕ) (w : Node M) (e : Entry S M) → slice_get xs place ≡ Some e → w.way.depth ≤ e.1.way.depth → w.bound ≡ e.1.bound → IsEased xs (set_value_at xs place w)
  eased_set xs place w e at low same = record { each = λ i f at_i. by i f at_i (cases_eq i place) }
    where
      by : (i : ℕ) (f : Entry S M) → slice_get xs i ≡ Some f → (i ≡ place) ⊎ (i ≡ place → ⊥) → IsEasedAt (set_value_at xs place w) i f
      by i f at_i (inl here) =
          let is : e ≡ f = same_Some e f (sym at ∙ ap (λ n. slice_get xs n) (sym here) ∙ at_i) in
          let P : ℕ → Type 0 = λ n. slice_get (set_value_at xs place w) n ≡ Some (e.0, w) in
          let Q : Entry S M → Type 0 = λ g. IsEasedAt (set_value_at xs place w) i g in
          subst Q is (record { entry = (e.0, w); at = subst P (sym here) (get_set_here xs place w e at); state_is = refl; no_deeper = low; bound_is = same })
      by i f at_i (inr other) = record { entry = f; at = get_set_other xs place w i f other at_i; state_is = refl; no_deeper = omega arith; bound_is = refl }
