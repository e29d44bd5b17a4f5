use Rattle.std.proofs.Common.{◌≡◌, sym, ◌∙◌, ap, subst, ◌∷◌, map, take, drop, length, ◌-◌, List, ℕ, IfOk, string_bytes}
use Rattle.command_words.specs.declared.faults.UsageFault.TheVariants.{UnknownCommand}
use Rattle.command_words.specs.Commands.{IsUsageFault, Reads, command_text}
use Rattle.command_words.proofs.WordsItems.{first_and_rest}
use Rattle.command_words.proofs.WordsOnce.{only_job, only_fault}
use Rattle.command_words.proofs.words.read_words.Goals as goal

pub returns-in_default-named-clause-fault : goal.returns-in_default-named-clause-fault
returns-in_default-named-clause-fault c f e =
    let words : List (List ℕ) = map string_bytes c.args.words.now in
    let fault_is : UnknownCommand ≡ f = cc in
    let whole = first_and_rest string_bytes c.args.words.now c.in-Some.first.now c.in-Some.ensures.value in
    let is : IsUsageFault words UnknownCommand = (_, _, whole, λ command same. c.in_default-named.ensures command (c.as_str.ensures.value ∙ same)) in
    subst (IsUsageFault words) fault_is is

-- the words are those that the job is read from
words_are : (c : goal.After-read_job) → command_text c.in-Some-named.command ∷ map string_bytes (take (length c.args.words.now - 1) (drop 1 c.args.words.now)) ≡ map string_bytes c.args.words.now
words_are c =
    ap (λ text. text ∷ map string_bytes (take (length c.args.words.now - 1) (drop 1 c.args.words.now))) (sym c.in-Some-named.ensures ∙ c.as_str.ensures.value)
    ∙ sym (first_and_rest string_bytes c.args.words.now c.in-Some.first.now c.in-Some.ensures.value)

pub returns-clause-fault : goal.returns-clause-fault
returns-clause-fault c f e = subst (λ words. IsUsageFault words f) (words_are c) (c.read_job.ensures.fault f e)

pub returns-clause-read_exactly : goal.returns-clause-read_exactly
returns-clause-read_exactly c job is =
    only_job (map string_bytes c.args.words.now) c.read_job.result job
    (subst (λ words. IfOk c.read_job.result (Reads words)) (words_are c) c.read_job.ensures.read)
    (λ f e. subst (λ words. IsUsageFault words f) (words_are c) (c.read_job.ensures.fault f e)) is

pub returns-clause-fault_exactly : goal.returns-clause-fault_exactly
returns-clause-fault_exactly c f is =
    only_fault (map string_bytes c.args.words.now) c.read_job.result f
    (subst (λ words. IfOk c.read_job.result (Reads words)) (words_are c) c.read_job.ensures.read)
    (λ g e. subst (λ words. IsUsageFault words g) (words_are c) (c.read_job.ensures.fault g e)) is
