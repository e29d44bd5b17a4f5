-- What valid live rows mean: no sequence that begins short plans of two goals is longer than they say.
use Rattle.std.proofs.Common.{◌≡◌, ℕ, ◌+◌, ◌-◌, ◌≤◌, List, [], ◌∷◌, ◌++◌, length, sym, ◌∙◌, ap, subst, arith, Option, Some}
use Rattle.std.specs.Prelude.{◌≢◌, Contains}
use Rattle.std.proofs.Math.ListN.{get_or}
use Rattle.std.proofs.lemmas.List.Elements.{All-contains}
use Rattle.grd_base.specs.declared.ids.ActionId.{ActionId}
use Rattle.grd_base.specs.declared.ids.GoalId.{GoalId}
use Rattle.strips_model.specs.Values.{PlainTask}
use Rattle.strips_model.specs.Plans.{State, set_of, start_of, step_without, Reaches, IsPlan}
use Rattle.strips_model.specs.Common.{IsCommon}
use Rattle.cost_certificate.specs.Tables.{IsValidTable}
use Rattle.design_certificate.specs.Designs.{AreCosts, Gives}
use Rattle.design_certificate.specs.Live.{PlainLiveRow, PlainLiveRows, StaysLive, Follows, IsFollowed, Begins, IsValidLive, BeginsShort}
use Rattle.design_certificate.proofs.RowLemmas.{RowsRefute, row_refutes}
use Rattle.design_certificate.proofs.SequenceLemmas.{reaches_first}
use Rattle.design_certificate.proofs.CostLemmas.{cost_given}

module _ (law : RowsRefute) (t : PlainTask) (costs : List (Option ℕ)) (removed : List ActionId) (len : ℕ) (live : PlainLiveRows) (valid : IsValidLive t costs removed len live) where
  -- the sequence leads on to the goal from the row's state, with no more actions than the goal is given
  record LeadsOn (row : PlainLiveRow) (g : GoalId) (p : List ActionId) : Type 0 where
    pub there : Contains row.goals g
    pub reaches : Reaches t g removed (set_of row.state) p
    pub number : ℕ
    pub gives : Gives costs g number
    pub short : row.depth + length p ≤ number

  -- behind the first action the goal stays live
  stays : (row : PlainLiveRow) (g : GoalId) (a : ActionId) (p : List ActionId) (u : State) → LeadsOn row g (a ∷ p) → Reaches t g removed u p → StaysLive costs live.tables row u g
  stays row g a p u on reaches =
      let left : ℕ = on.number - (row.depth + 1) in
      let adds_up : on.number ≡ row.depth + 1 + left = omega (arith, on.short) in
      record {
        there = on.there;
        left = left;
        number = subst (λ n. Gives costs g n) adds_up on.gives;
        open_there = λ k d within same has.
            let x = get_or live.tables k d in
            let far = row_refutes law t g removed x.1 u left (subst (λ h. IsValidTable t h removed x.1) same (valid.tables k d within)) has p reaches in
            omega (arith, far, on.short);
      }

  -- and in the row that follows it leads on
  on_there : (row next : PlainLiveRow) (g : GoalId) (a : ActionId) (p : List ActionId) (u : State) → LeadsOn row g (a ∷ p) → Reaches t g removed u p → Follows costs live row u next → LeadsOn next g p
  on_there row next g a p u on reaches follows = record {
    there = follows.goals g (stays row g a p u on reaches);
    reaches = subst (λ s. Reaches t g removed s p) (sym follows.state) reaches;
    number = on.number;
    gives = on.gives;
    short = omega (arith, on.short, follows.depth);
  }

  -- a sequence with which two goals are led on to is no longer than the rows say
  walk : (q : List ActionId) (row : PlainLiveRow) (i j : GoalId) (x y : List ActionId) → Contains live.rows row → i ≢ j → LeadsOn row i (q ++ x) → LeadsOn row j (q ++ y)
      → row.depth + length q ≤ len
  walk [] row i j x y at differ on also = let low : row.depth ≤ len = All-contains (λ r. r.depth ≤ len) live.rows row valid.deep at in omega (arith, low)
  walk (a ∷ q) row i j x y at differ on also =
      let f = reaches_first t i removed (set_of row.state) a (q ++ x) on.reaches in
      let h = reaches_first t j removed (set_of row.state) a (q ++ y) also.reaches in
      let same : h.0 ≡ f.0 = some_same h.0 f.0 (sym h.1 ∙ f.1) in
      let reaches : Reaches t j removed f.0 (q ++ y) = subst (λ u. Reaches t j removed u (q ++ y)) same h.2 in
      let followed = All-contains (λ r. (b : ActionId) (u : State) → step_without t removed (set_of r.state) b ≡ Some u → IsFollowed costs len live r u) live.rows row valid.followed at a f.0 f.1 in
      let next = followed i j differ (stays row i a (q ++ x) f.0 on f.2) (stays row j a (q ++ y) f.0 also reaches) in
      let (k, there, within, is, follows) = next.1 in
      let rest : there.depth + length q ≤ len =
      walk q there i j x y (k, within, is) differ (on_there row there i a (q ++ x) f.0 on f.2 follows) (on_there row there j a (q ++ y) f.0 also reaches follows) in
      omega (arith, rest, follows.depth)
    where
      some_same : (u v : State) → Some u ≡ Some v → u ≡ v
      some_same u v e = cc

  pub short_begins : (i j : GoalId) (b c : ℕ) (q : List ActionId) → i ≢ j → Gives costs i b → Gives costs j c
      → BeginsShort t i removed b q → BeginsShort t j removed c q → length q ≤ len
  short_begins i j b c q differ gives also (p, plan, short, (x, is)) (p', plan', short', (y, is')) =
      let (k, row, within, at, begins) = valid.begins in
      let low : row.depth + length q ≤ len =
      walk q row i j x y (k, within, at) differ
      (start row begins i b p (q ++ x) gives plan short is) (start row begins j c p' (q ++ y) also plan' short' is') in
      omega (arith, low)
    where
      start : (row : PlainLiveRow) → Begins t costs row → (g : GoalId) (n : ℕ) (p whole : List ActionId) → Gives costs g n → IsPlan t g removed p → length p ≤ n → p ≡ whole → LeadsOn row g whole
      start row begins g n p whole gives plan short is =
          let same : length p ≡ length whole = ap length is in
          record {
            there = begins.goals g (n, gives);
            reaches = subst (λ s. Reaches t g removed s whole) (sym begins.state) (subst (λ z. Reaches t g removed (start_of t) z) is plan);
            number = n;
            gives = gives;
            short = omega (arith, short, same, begins.depth);
          }

  -- so, where the numbers are the costs, no common sequence is longer
  pub common_short : AreCosts t removed costs → (i j : GoalId) (q : List ActionId) → IsCommon t removed i j q → length q ≤ len
  common_short are i j q common =
      let first = common.first in
      let second = common.second in
      short_begins i j (length first.0) (length second.0) q common.different
      (cost_given t removed costs are i (length first.0) first.1.1) (cost_given t removed costs are j (length second.0) second.1.1)
      (first.0, first.1.0, omega arith, first.2) (second.0, second.1.0, omega arith, second.2)
