use Rattle.std.proofs.Common.{◌≡◌, false, length, refl, sym, ap, ◌∙◌, inl, arith}
use Rattle.std.specs.Option.{is_some}
use Rattle.std.specs.Map.{lookup}
use Rattle.indexmap.proofs.CallerLemmas.{insert_entry-new}
use Rattle.grd_base.specs.Bits.{IsWhole}
use Rattle.grd_base.proofs.SameLemmas.{bits_eq}
use Rattle.plain_search.proofs.WalkStateLemmas.{found, absent, none_of, whole_pushed, noted_new}
use Rattle.plain_search.proofs.visited.Visited.note.Goals as goal

pub returns-then-contains_key-clause-noted : goal.returns-then-contains_key-clause-noted
returns-then-contains_key-clause-noted g c = rw (← c.self.view_is) (inl (found c.self.inside.steps.entries c.args.state (sym c.contains_key.ensures ∙ c.if-contains_key.true), refl))

pub returns-then-len-limit-clause-many : goal.returns-then-len-limit-clause-many
returns-then-len-limit-clause-many g c _ =
    let whole : IsWhole c.args.state = c.whole.ensures in
    let same : length c.self.inside.steps.entries ≡ length c.args.self.now = ap length c.self.view_is in
    (omega arith, rw (← c.self.view_is) (absent c.self.inside.steps.entries c.args.state c.self.invariant.0 whole (sym c.contains_key.ensures ∙ c.if-contains_key.false)))

pub invariant_of-self-2 : goal.invariant_of-self-2
invariant_of-self-2 g c =
    let whole : IsWhole c.args.state = c.whole.ensures in
    let none : is_some (lookup (bits_eq c.args.state) c.self.inside.steps.entries) ≡ false = sym c.contains_key.ensures ∙ c.if-contains_key.false in
    rw (c.in_ok-insert.ensures.entries ∙ insert_entry-new bits_eq c.self.inside.steps c.args.state c.args.step (none_of _ none))
    (whole_pushed c.self.inside.steps.entries c.args.state c.args.step c.self.invariant.0 whole, c.requires.width)

pub returns-clause-noted : goal.returns-clause-noted
returns-clause-noted g c =
    let whole : IsWhole c.args.state = c.whole.ensures in
    let none : is_some (lookup (bits_eq c.args.state) c.self.inside.steps.entries) ≡ false = sym c.contains_key.ensures ∙ c.if-contains_key.false in
    rw (← c.self.view_is)
    (noted_new c.self.inside.steps.entries c.insert.new.self.entries c.args.state c.args.step
    (absent c.self.inside.steps.entries c.args.state c.self.invariant.0 whole none)
    (c.in_ok-insert.ensures.entries ∙ insert_entry-new bits_eq c.self.inside.steps c.args.state c.args.step (none_of _ none)))
