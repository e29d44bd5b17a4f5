use Rattle.std.proofs.Common.{◌≡◌, ◌-◌, length, map, string_bytes, vec_len, sym, ap, ◌∙◌, arith, length-take}
use Rattle.std.specs.Prelude.{◌==◌}
use Rattle.std.proofs.lemmas.Bool.{false≢true}
use Rattle.std.proofs.lemmas.List.{length-map}
use Rattle.goal_files.proofs.LineFaults.{no_list, other_lists}
use Rattle.goal_files.proofs.observations.read_names.Goals as goal

pub returns-in_default : goal.returns-in_default
returns-in_default c = no_list c.args.line.now (rw c.in_default.is at c.in_ok-lists.ensures)

pub returns : goal.returns
returns c =
    let lists = c.in-Some.lists.items in
    let spells = rw c.in-Some.is at c.in_ok-lists.ensures in
    other_lists c.args.line.now _ spells
    (λ names one.
    let none : vec_len c.pop-names.new.self ≡ 0 = omega (arith, ap length one, length-map lists (λ a. map string_bytes a.items), ap length c.pop-names.ensures.rest, length-take (vec_len c.in-Some.lists - 1) lists, c.in-Some.lists.ok.0, c.pop-names.new.self.ok.0) in
    false≢true (sym (sym c.is_empty.ensures ∙ c.if-is_empty.false) ∙ ap (λ n. n == 0) none))
