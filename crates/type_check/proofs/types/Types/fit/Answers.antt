use Rattle.std.proofs.Common.{◌≡◌, ◌∙◌, ℕ, ◌<◌, Bool, List, Any, Contains, get_or, length, false, true, refl, arith, rules, sym, ap, subst}
use Rattle.std.specs.Prelude.{◌↔◌}
use Rattle.std.proofs.lemmas.Bool.{false≢true}
use Rattle.std.proofs.lemmas.List.{get_or_default}
use Rattle.pddl_reader.specs.Forms.{Word}
use Rattle.pddl_reader.specs.Values.{PlainDomain}
use Rattle.type_check.specs.Types.{LiesUnder, texts, type_names, place_in}
use Rattle.type_check.specs.Chains.{MeetsMark, type_parents}
use Rattle.type_check.proofs.FitLaws.{all_at, each_found, not_each, each_more}
use Rattle.type_check.proofs.MarkLaws.{under_object, meets_under}
use Rattle.type_check.proofs.NameLaws.{written_back}
use Rattle.type_check.proofs.TypeLaws.{length-type_parents, some_type}
use Rattle.type_check.proofs.types.Types.fit.Goals as goal

pub index-requires : goal.index-requires
index-requires c = omega (arith, c.in_ok-marks.ensures.each, length-type_parents c.args.self.now, some_type c.args.self.now)

pub returns-then-index : goal.returns-then-index
returns-then-index c =
    let some : 0 < length c.in_ok-marks.marks.items = omega (arith, c.in_ok-marks.ensures.each, length-type_parents c.args.self.now, some_type c.args.self.now) in
    let marked : get_or c.in_ok-marks.marks.items 0 false ≡ true =
    sym (get_or_default c.in_ok-marks.marks.items 0 c.index.result.now false some) ∙ sym c.index.ensures ∙ c.if-index.true in (
      λ e k t less. under_object c.args.self.now c.args.others.now c.in_ok-marks.marks.items c.in_ok-marks.ensures marked (get_or (texts c.args.types.now) k t),
      λ all. refl,
    )

pub loop-name-init : goal.loop-name-init
loop-name-init c =
    let none : get_or c.in_ok-marks.marks.items 0 false ≡ false = search rules in (
      λ k t less. absurd (omega (arith, less)),
      c.in_ok-marks.ensures.each,
      λ s known. meets_under c.args.self.now c.args.others.now c.in_ok-marks.marks.items c.in_ok-marks.ensures none s known,
    )

pub meets_mark-requires-clause-known : goal.meets_mark-requires-clause-known
meets_mark-requires-clause-known c =
    let text : c.as_str.result.now ≡ c.name-item.result.text = search rules in
    subst (Contains (type_names c.args.self.now)) (sym text)
    (all_at (Contains (type_names c.args.self.now)) c.args.types.now c.loop-name.name-index c.name-item.result c.loop-name-test.true c.name-item.is c.requires.known)

pub returns-then-not-meets_mark : goal.returns-then-not-meets_mark
returns-then-not-meets_mark c =
    let d = c.args.self.now in
    let text : c.as_str.result.now ≡ c.name-item.result.text = search rules in
    let lent : c.deref_mut.result.now ≡ c.loop-name.marks.items = search rules in
    let known = subst (Contains (type_names d)) (sym text) (all_at (Contains (type_names d)) c.args.types.now c.loop-name.name-index c.name-item.result c.loop-name-test.true c.name-item.is c.requires.known) in
    let met = subst (λ ms. MeetsMark (type_parents d) ms (place_in (type_names d) c.as_str.result.now) ↔ Any (LiesUnder d c.as_str.result.now) (texts c.args.others.now)) (sym lent) (c.loop-name.invariant.2 c.as_str.result.now known) in (
      λ e. cc,
      λ all.
          absurd
          (not_each (λ s. Any (LiesUnder d s) (texts c.args.others.now)) c.args.types.now c.loop-name.name-index c.name-item.result c.loop-name-test.true c.name-item.is
          (λ fits. false≢true (c.if-not-meets_mark.ensures.met.1 (met.1 (subst (λ s. Any (LiesUnder d s) (texts c.args.others.now)) (sym text) fits)))) all),
    )

-- what is met after a walk is what was met before
after_walk : (d : PlainDomain) (others : List Word) (old lent new back : List Bool) (s : List ℕ) → lent ≡ old → back ≡ new
    → (MeetsMark (type_parents d) new (place_in (type_names d) s) ↔ MeetsMark (type_parents d) lent (place_in (type_names d) s))
    → (MeetsMark (type_parents d) old (place_in (type_names d) s) ↔ Any (LiesUnder d s) (texts others))
    → (MeetsMark (type_parents d) back (place_in (type_names d) s) ↔ Any (LiesUnder d s) (texts others))
after_walk d others old lent new back s is was turn before =
    let there = subst (λ ms. MeetsMark (type_parents d) ms (place_in (type_names d) s) ↔ Any (LiesUnder d s) (texts others)) (sym is) before in
    subst (λ ms. MeetsMark (type_parents d) ms (place_in (type_names d) s) ↔ Any (LiesUnder d s) (texts others)) (sym was)
    (λ met. there.0 (turn.0 met), λ under. turn.1 (there.1 under))

pub loop-name-preserved : goal.loop-name-preserved
loop-name-preserved c =
    let d = c.args.self.now in
    let text : c.as_str.result.now ≡ c.name-item.result.text = search rules in
    let lent : c.deref_mut.result.now ≡ c.loop-name.marks.items = search rules in
    let known = subst (Contains (type_names d)) (sym text) (all_at (Contains (type_names d)) c.args.types.now c.loop-name.name-index c.name-item.result c.loop-name-test.true c.name-item.is c.requires.known) in
    let met = subst (λ ms. MeetsMark (type_parents d) ms (place_in (type_names d) c.as_str.result.now) ↔ Any (LiesUnder d c.as_str.result.now) (texts c.args.others.now)) (sym lent) (c.loop-name.invariant.2 c.as_str.result.now known) in
    let same : length c.meets_mark.new.marks ≡ length c.loop-name.marks.items = c.meets_mark.ensures.each ∙ sym c.loop-name.invariant.1 in
    let back = written_back c.loop-name.marks.items c.meets_mark.new.marks c.loop-name.marks.len (search rules) same in (
      each_more (λ s. Any (LiesUnder d s) (texts c.args.others.now)) c.args.types.now c.loop-name.name-index c.name-item.result c.loop-name-test.true c.name-item.is c.loop-name.invariant.0
          (subst (λ s. Any (LiesUnder d s) (texts c.args.others.now)) text (met.0 (c.meets_mark.ensures.met.0 cc))),
      ap length back ∙ c.meets_mark.ensures.each,
      λ s known_s.
          after_walk d c.args.others.now c.loop-name.marks.items c.deref_mut.result.now c.meets_mark.new.marks _ s lent back (c.meets_mark.ensures.same (place_in (type_names d) s))
          (c.loop-name.invariant.2 s known_s),
    )

pub returns : goal.returns
returns c = (
  λ e.
      each_found (λ s. Any (LiesUnder c.args.self.now s) (texts c.args.others.now)) c.args.types.now
      (λ k t less. c.loop-name.invariant.0 k t (omega (arith, less, c.loop-name-test.false, c.loop-name.auto.name-index-end))),
  λ all. refl,
)
