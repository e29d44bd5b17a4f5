-- The rows grow by those of a search.
use Rattle.std.proofs.Common.{subst, sym}
use Rattle.std.specs.Prelude.{IfOk}
use Rattle.optimal_search.specs.Space.{successors_of, holds_in, IsState}
use Rattle.optimal_search.specs.Floors.{ShowsBound}
use Rattle.optimal_search.specs.Kept.{rows_in}
use Rattle.optimal_search.specs.Oracles.{PlainOracle, KnowsAllOf, AreRight, known_by}
use Rattle.optimal_search.proofs.KeptLemmas.{refuted_kept, states_kept}
use Rattle.optimal_search.proofs.AskLaws.{known_after}
use Rattle.optimal_search.proofs.RowLaws.{known_grows}
use Rattle.optimal_search.proofs.oracle.Oracle.keep.Goals as goal

-- the rows of the search are right for what the fields ask about
pub invariant_of-self : goal.invariant_of-self
invariant_of-self g c =
    let o = c.self.inside in
    let t = o.space.task in
    let is = c.self.invariant.0 in
    let old = rows_in o.kept.proved.entries in
    let new = rows_in c.keep.new.self.proved.entries in
    let rows = c.args.rows.items in
    let Right : PlainOracle → Type 0 = λ x. AreRight x.task x.goal x.removed rows in
    let right = subst Right (sym c.self.view_is) c.requires in (
      record {
        wide = is.wide;
        atoms = is.atoms;
        goal_in = is.goal_in;
        right = record {
          states = states_kept (IsState t) old rows new c.keep.ensures.made is.right.states right.states;
          refuted = refuted_kept (successors_of t o.space.removed) (holds_in t o.space.goal) (ShowsBound t o.space.goal o.space.removed) old rows new c.keep.ensures.made c.keep.ensures.grows
              is.right.refuted right.refuted;
        };
      },
      c.self.invariant.1,
    )

pub returns-clause-grows : goal.returns-clause-grows
returns-clause-grows g c =
    let o = c.self.inside in
    let t = o.space.task in
    let new = rows_in c.keep.new.self.proved.entries in
    let Grows : PlainOracle → Type 0 = λ x. KnowsAllOf x.known (known_by t new) in
    subst Grows c.self.view_is (known_grows t (rows_in o.kept.proved.entries) new c.self.invariant.0.right.states c.keep.ensures.grows)

pub returns-clause-held : goal.returns-clause-held
returns-clause-held g c =
    let o = c.self.inside in
    let t = o.space.task in
    let rows = c.args.rows.items in
    let new = rows_in c.keep.new.self.proved.entries in
    let Right : PlainOracle → Type 0 = λ x. AreRight x.task x.goal x.removed rows in
    let Held : PlainOracle → Type 0 = λ x. IfOk c.keep.result (λ _. KnowsAllOf (known_by x.task rows) (known_by t new)) in
    let right = subst Right (sym c.self.view_is) c.requires in
    subst Held c.self.view_is (known_after t rows new right.states c.keep.result c.keep.ensures.held)
