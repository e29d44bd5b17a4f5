use Rattle.std.proofs.Common.{◌++◌, ◌^◌, ◌<◌, length, sym, ap, ◌∙◌, subst, arith}
use Rattle.pddl_print.specs.Canonical.{domain_text}
use Rattle.pddl_print.specs.Spells.{SpellsDomain}
use Rattle.pddl_print.proofs.Combined.{canonical_domain}
use Rattle.pddl_print.proofs.print.print_domain.Goals as goal

pub returns-clause-spells : goal.returns-clause-spells
returns-clause-spells c =
    let domain = c.args.domain.now in
    let out = c.put_domain.new.out in
    let is = c.in_ok-put_domain.ensures ∙ ap (λ bytes. bytes ++ domain_text domain) c.new-text.ensures.items in
    let small : length out.items < 2 ^ 63 = omega (arith, out.ok.0, out.ok.1, out.small) in
    subst (λ text. SpellsDomain text domain) (sym is)
    (canonical_domain c.requires.text domain c.requires.spells (subst (λ bytes. length bytes < 2 ^ 63) is small))
