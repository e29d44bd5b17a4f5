use Rattle.std.proofs.Common.{◌^◌, ◌≤◌, length, sym, subst}
use Rattle.grd_base.specs.declared.roles.FileRole.TheVariants.{Domain}
use Rattle.pddl_reader.specs.Spelling.{IsDomainText}
use Rattle.pddl_reader.specs.Faults.{IsDomainFault}
use Rattle.grd_program.specs.Causes.{HasDomainCause, FailsDomain}
use Rattle.grd_program.specs.Runs.{SpellsOnly}
use Rattle.grd_program.proofs.FileLemmas.{has, only_value, only_fault, no_value, plain_fault, plain_text, pddl_cause}
use Rattle.grd_program.proofs.files.domain_of.Goals as goal

pub returns-in-Ok-clause-spelled : goal.returns-in-Ok-clause-spelled
returns-in-Ok-clause-spelled g c =
    has _ c.in_ok-text.text.items (SpellsOnly IsDomainText c.in-Ok.domain) c.in_ok-text.ensures.whole c.in_ok-text.ensures.short
    (subst (SpellsOnly IsDomainText c.in-Ok.domain) c.deref.ensures.value
    (c.in-Ok.ensures.spelled, only_value (IsDomainText c.deref.result.now) c.read_domain.result c.read_domain.ensures.exactly c.in-Ok.domain c.in-Ok.is))

pub returns-in-Ok-clause-is_spelled : goal.returns-in-Ok-clause-is_spelled
returns-in-Ok-clause-is_spelled g c = record { text = c.deref.result.now; spells = c.in-Ok.ensures.spelled }

pub returns-in-Ok-clause-short : goal.returns-in-Ok-clause-short
returns-in-Ok-clause-short g c = record {
  text = c.deref.result.now;
  short = subst (λ bytes. length bytes ≤ 2 ^ 20) (sym c.deref.ensures.value) c.in_ok-text.ensures.short;
  spells = c.in-Ok.ensures.spelled;
}

pub returns-clause-cause : goal.returns-clause-cause
returns-clause-cause g c =
    let fault = c.in-Err.fault in
    pddl_cause (HasDomainCause (g.F.Shelf.told c.args.shelf.now c.args.name.now) (g.F.Shelf.faults c.args.shelf.now) (g.F.Shelf.faults c.text_of.new.shelf) c.args.name.now)
    Domain fault c.pddl_status.result c.pddl_status.ensures.memory c.pddl_status.ensures.refused tt
    (λ plain. let fails : IsDomainFault c.deref.result.now fault = plain_fault (IsDomainFault c.deref.result.now) fault (c.read_domain.ensures.fault fault c.in-Err.is) plain in (
      plain_text (IsDomainFault c.deref.result.now) (λ h. h) (λ tree h. h.0) fault fails,
      c.in_ok-text.ensures.quiet,
      has _ c.in_ok-text.text.items (FailsDomain fault) c.in_ok-text.ensures.whole c.in_ok-text.ensures.short
          (subst (FailsDomain fault) c.deref.ensures.value (record {
            has = fails;
            only = only_fault (IsDomainFault c.deref.result.now) c.read_domain.result c.read_domain.ensures.fault_exactly fault c.in-Err.is plain;
            no_domain = no_value (IsDomainText c.deref.result.now) c.read_domain.result c.read_domain.ensures.exactly fault c.in-Err.is plain;
          })),
    ))
