use Rattle.std.proofs.Common.{◌<◌, length, arith, sym}
use Rattle.std.proofs.lemmas.Bool.Decides.{nat_tests}
use Rattle.cert_text.proofs.WordLaws.{ends_with_some}
use Rattle.cert_text.specs.Values.{plain}
use Rattle.cert_text.proofs.kinds.ended.Goals as goal

pub returns-else-is_empty : goal.returns-else-is_empty
returns-else-is_empty c =
    let some : 0 < length c.args.rest.now = grind (arith, nat_tests) in
    sym (ends_with_some c.args.rest.now (plain c.args.line) some)
