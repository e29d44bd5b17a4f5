use Rattle.pddl_reader.proofs.ClassLemmas.{is_name_by}
use Rattle.pddl_reader.proofs.classes.is_name.Goals as goal

pub returns-then-first-ne45 : goal.returns-then-first-ne45
returns-then-first-ne45 c = is_name_by c.args.text.now c.in-Some.first.now c.in-Some.ensures.value c.if-first-ne45.true c.are_name_bytes.result c.are_name_bytes.ensures
