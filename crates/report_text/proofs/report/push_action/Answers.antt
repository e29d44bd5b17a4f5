use Rattle.std.proofs.Common.{◌≡◌, length, arith, rules}
use Rattle.std.proofs.lemmas.Grind.{common_steps}
use Rattle.type_check.specs.Ground.{action_text}
use Rattle.ground_all.specs.Grounding.{instances}
use Rattle.report_text.specs.Reports.{action_names, name_of}
use Rattle.report_text.proofs.ReportLemmas.{whole_text}
use Rattle.report_text.proofs.report.push_action.Goals as goal

pub returns : goal.returns
returns c =
    let typed = c.args.world.now.typed in
    let many : length c.action_name.new.into ≡ c.action_name_len-length.result = search rules in
    let whole : c.action_name.new.into ≡ name_of (action_names typed) c.args.a =
    whole_text (action_text typed) (instances typed) c.args.a.0 c.action_name.result c.action_name_len-length.result c.action_name.new.into
    c.action_name.ensures.length many c.action_name_len-length.ensures c.action_name.ensures.text in
    grind (arith, common_steps)
