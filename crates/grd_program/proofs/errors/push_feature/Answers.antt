use Rattle.std.proofs.Common.{◌++◌, codes, string_bytes, append_assoc, ap, sym, ◌∙◌}
use Rattle.std.specs.Fmt.{decimal}
use Rattle.grd_program.proofs.errors.push_feature.Goals as goal

pub returns : goal.returns
returns c =
    let name = c.feature_name-name.result.now in
    let front = codes "byte " ++ decimal c.args.at in
    rw (← c.feature_name-name.ensures)
    (c.in_ok-write.ensures.bytes ∙ ap (λ t. string_bytes c.args.line.now ++ t) (sym (append_assoc front (codes ": ") (codes "unsupported " ++ name))))
