use Rattle.std.proofs.Common.{subst, MatchResult}
use Rattle.command_words.specs.declared.words.TheConstants.{DEFAULT_LIMITS}
use Rattle.command_words.specs.Commands.{IsFirstWith, GivesNoNumber, required_of, optional_of}
use Rattle.command_words.specs.Words.{items_of, ReadsLimits}
use Rattle.command_words.proofs.WordsGiven.{both_read}
use Rattle.command_words.proofs.words.read_limits.Goals as goal

pub returns : goal.returns
returns c =
    let items = items_of c.args.items.now in
    let first = subst (λ names. ReadsLimits names items DEFAULT_LIMITS c.in_ok-limits.limits) c.required.ensures c.in_ok-limits.ensures in
    let second = subst (λ names. MatchResult c.with_numbers-2.result (ReadsLimits names items c.in_ok-limits.limits) (IsFirstWith names (GivesNoNumber items))) c.optional.ensures c.with_numbers-2.ensures in
    both_read (required_of c.args.command) (optional_of c.args.command) items DEFAULT_LIMITS c.in_ok-limits.limits c.with_numbers-2.result first second
