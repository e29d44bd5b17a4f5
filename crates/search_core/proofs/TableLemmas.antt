-- What rows that refute rule out.
use Rattle.std.proofs.Common.{◌≡◌, ℕ, zero, suc, ◌-◌, ◌≤◌, List, [], ◌∷◌, length, refl, sym, ap, subst, ◌∙◌, Some, None, Option, Bool, true, true≢false, arith}
use Rattle.std.specs.Prelude.{Contains, MatchOption, All}
use Rattle.std.proofs.lemmas.List.{length-map}
use Rattle.std.proofs.lemmas.List.Elements.{All-contains}
use Rattle.grd_base.specs.declared.ids.ActionId.{ActionId}
use Rattle.grd_base.specs.declared.limits.Bound.{Bound}
use Rattle.grd_base.specs.declared.limits.Bound.TheVariants.{Steps, Never}
use Rattle.search_core.specs.declared.rows.KeptRow.{KeptRow}
use Rattle.search_core.specs.Spaces.{Successors, IsWalk, end_of, actions_of, IsDoneWithin, IsAdmissible, IsAtMostSteps, IsAbove, IsAtLeast}
use Rattle.search_core.specs.Tables.{HasRow, HasNeverRow, IsRefuted, IsRefutedBySteps, IsRefutedByMark}

-- rows that refute leave no walk to a done state
module _ {S M : Type 0} (next : Successors S) (is_done : S → Bool) (level : S → Option ℕ) (shows : S → M → Bound → Type 0) (law : (s : S) (m : M) (b : Bound) → shows s m b → IsAdmissible next is_done (level s) s b)
    (rows : List (KeptRow S M)) (refuted : All (IsRefuted next is_done shows rows) rows) where
  done_of : (s : S) (walk : List (ActionId × S)) → IsWalk next s walk → is_done (end_of s walk) ≡ true → IsDoneWithin next is_done s (length (actions_of walk))
  done_of s walk steps done = record {
    path = actions_of walk;
    end = end_of s walk;
    leads = record { walk = walk; steps = steps; carries = refl; ends = refl };
    short = omega arith;
    done = done;
  }

  -- a mark rules out a walk that is no longer than the row's number
  mark_rules : (s : S) (m : M) (bound : Bound) (n : ℕ) → IsAtLeast bound n → IsRefutedByMark (shows s) m bound → IsDoneWithin next is_done s n → ⊥
  mark_rules s m (Steps k) n least by within = shown_rules by.0 (law s m by.0 by.1).below_steps by.2
    where
      shown_rules : (b : Bound) → IsAtMostSteps next is_done s b → IsAbove b k → ⊥
      shown_rules (Steps j) lower above = let h : j ≤ n = lower n within in omega (arith, h, above, least)
      shown_rules Never lower above = lower n within
  mark_rules s m Never n least by within = (law s m Never by).below_steps n within

  within_more : (s : S) (a b : ℕ) → a ≤ b → IsDoneWithin next is_done s a → IsDoneWithin next is_done s b
  within_more s a b le d = record { path = d.path; end = d.end; leads = d.leads; short = omega (arith, d.short); done = d.done }

  row_of_any : (s : S) (n : ℕ) → HasRow rows s n → (row : KeptRow S M) × IsRefuted next is_done shows rows row × (row.state ≡ s) × IsAtLeast row.bound n
  row_of_any s n has = (has.1, All-contains (IsRefuted next is_done shows rows) rows has.1 refuted (has.0, has.2, has.3), has.4.0, has.4.1)

  row_from_never : (t : S) (n : ℕ) → HasNeverRow rows t → HasRow rows t n
  row_from_never t n has = let P : Bound → Type 0 = λ b. IsAtLeast b n in (has.0, has.1, has.2, has.3, (has.4.0, subst P (sym has.4.1) tt))

  -- the row of a successor
  row_after : (s : S) (bound : Bound) (n : ℕ) (step : ActionId × S) → IsRefutedBySteps next rows s bound → IsAtLeast bound (suc n) → Contains (next s) step → HasRow rows step.1 n
  row_after s (Steps zero) n step by least has = absurd (omega (arith, least))
  row_after s (Steps (suc k)) n step by least has = weaken (All-contains (λ (t : ActionId × S). HasRow rows t.1 k) (next s) step by has)
    where
      weaken_bound : (b : Bound) → IsAtLeast b k → IsAtLeast b n
      weaken_bound (Steps j) h = omega (arith, h, least)
      weaken_bound Never h = tt

      weaken : HasRow rows step.1 k → HasRow rows step.1 n
      weaken h = (h.0, h.1, h.2, h.3, (h.4.0, weaken_bound h.1.bound h.4.1))
  row_after s Never n step by least has = row_from_never step.1 n (All-contains (λ (t : ActionId × S). HasNeverRow rows t.1) (next s) step by has)

  -- no row leaves a walk to a done state that is as short as its bound
  pub refutes : (walk : List (ActionId × S)) (s : S) (n : ℕ) → HasRow rows s n → IsWalk next s walk → is_done (end_of s walk) ≡ true → length walk ≤ n → ⊥
  refutes [] s n has steps done short =
      let row = row_of_any s n has in true≢false (sym (ap is_done row.2 ∙ done) ∙ row.1.not_done)
  refutes (step ∷ rest) s n has steps done short =
      let row = row_of_any s n has in
      by_mark row.0.mark row.0.state row.0.bound row.1.why row.2 row.3 (λ k more. refutes rest step.1 k more steps.1 done)
    where
      by_mark : (o : Option M) (t : S) (b : Bound) → MatchOption o (IsRefutedBySteps next rows t b) (λ mark. IsRefutedByMark (shows t) mark b) → t ≡ s → IsAtLeast b n → ((k : ℕ) → HasRow rows step.1 k → length rest ≤ k → ⊥) → ⊥
      by_mark None t b why same least more =
          let P : ℕ → Type 0 = λ j. IsAtLeast b j in
          let up : n ≡ suc (n - 1) = omega (arith, short) in
          more (n - 1) (row_after t b (n - 1) step why (subst P up least) (let Q : S → Type 0 = λ u. Contains (next u) step in subst Q (sym same) steps.0)) (omega (arith, short))
      by_mark (Some m) t b why same least more =
          let Q : S → Type 0 = λ u. IsDoneWithin next is_done u n in
          mark_rules t m b n least why (subst Q (sym same) (within_more s (length (actions_of (step ∷ rest))) n (omega (arith, short, length-map rest (λ (t : ActionId × S). t.0))) (done_of s (step ∷ rest) steps done)))

  pub refutes_all : (s : S) (n : ℕ) → HasRow rows s n → IsDoneWithin next is_done s n → ⊥
  refutes_all s n has d =
      let long : length d.leads.walk ≡ length d.path = sym (length-map d.leads.walk (λ (t : ActionId × S). t.0)) ∙ ap length d.leads.carries in
      refutes d.leads.walk s n has d.leads.steps (ap is_done d.leads.ends ∙ d.done) (omega (arith, long, d.short))

  pub refutes_ever : (s : S) (n : ℕ) → HasNeverRow rows s → IsDoneWithin next is_done s n → ⊥
  refutes_ever s n has d = refutes_all s n (row_from_never s n has) d
