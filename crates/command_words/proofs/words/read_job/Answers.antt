use Rattle.std.proofs.Common.{◌≡◌, refl, subst, ◌∷◌, map, List, ℕ, string_bytes}
use Rattle.std.specs.List.{All}
use Rattle.command_words.specs.declared.words.TheConstants.{DEFAULT_LIMITS}
use Rattle.command_words.specs.declared.faults.UsageFault.TheVariants.{BadNumber}
use Rattle.command_words.specs.Commands.{IsGiven, IsFirstWith, GivesNoNumber, IsUsageFault, command_text, options_of, required_of}
use Rattle.command_words.specs.Words.{items_of, ReadsLimits, IsJob}
use Rattle.command_words.proofs.WordsGiven.{job_read}
use Rattle.command_words.proofs.words.read_job.Goals as goal

pub returns-in-Ok-clause-read : goal.returns-in-Ok-clause-read
returns-in-Ok-clause-read c =
    let words : List (List ℕ) = map string_bytes c.args.words.now in
    let read = subst (λ is. ReadsLimits (options_of c.args.command) (items_of is) DEFAULT_LIMITS c.in-Ok.limits) c.deref-2.ensures.value c.in-Ok.ensures in
    let job = subst (λ is. IsJob c.args.command (items_of is) c.in-Ok.limits c.in_ok-job_of-in-Ok.field-0) c.deref-in-Ok.ensures.value c.in_ok-job_of-in-Ok.ensures in
    let given = subst (λ is. All (IsGiven (items_of is)) (required_of c.args.command)) c.deref.ensures.value
    (subst (All (IsGiven (items_of c.deref.result.now))) c.required.ensures c.in_default.ensures) in
    job_read c.args.command words (items_of c.in_ok-items.items.items) c.in-Ok.limits c.in_ok-job_of-in-Ok.field-0 c.in_ok-items.ensures.items given read job

pub returns-clause-fault : goal.returns-clause-fault
returns-clause-fault c f e =
    let words : List (List ℕ) = map string_bytes c.args.words.now in
    let items = items_of c.in_ok-items.items.items in
    let fault_is : BadNumber c.in-Err.name ≡ f = cc in
    let given = subst (λ is. All (IsGiven (items_of is)) (required_of c.args.command)) c.deref.ensures.value
    (subst (All (IsGiven (items_of c.deref.result.now))) c.required.ensures c.in_default.ensures) in
    let first = subst (λ is. IsFirstWith (options_of c.args.command) (GivesNoNumber (items_of is)) c.in-Err.name) c.deref-2.ensures.value c.in-Err.ensures in
    let is : IsUsageFault (command_text c.args.command ∷ words) (BadNumber c.in-Err.name) = record {
      command = c.args.command;
      rest = words;
      items = items;
      whole = refl;
      good = c.in_ok-items.ensures.items;
      fault = (given, first);
    } in
    subst (IsUsageFault (command_text c.args.command ∷ words)) fault_is is
