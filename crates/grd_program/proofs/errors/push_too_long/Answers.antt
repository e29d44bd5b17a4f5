use Rattle.std.proofs.Common.{◌++◌, codes, string_bytes, append_assoc, ap, sym, ◌∙◌}
use Rattle.std.specs.Fmt.{decimal}
use Rattle.grd_program.proofs.errors.push_too_long.Goals as goal

pub returns : goal.returns
returns c =
    let name = c.name_of-name.result.now in
    let what = codes ": longer than " in
    let number = decimal c.args.limit in
    rw (← c.name_of-name.ensures)
    (c.in_ok-write.ensures.bytes ∙ ap (λ t. string_bytes c.args.line.now ++ t)
    (sym (append_assoc (name ++ what) number (codes " bytes") ∙ append_assoc name what (number ++ codes " bytes"))))
