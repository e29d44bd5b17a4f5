use Rattle.std.proofs.Common.{◌≡◌, ℕ, List, length, Any, Contains}
use Rattle.std.specs.Prelude.{◌↔◌}
use Rattle.type_check.specs.Types.{LiesUnder, texts, type_names, place_in}
use Rattle.type_check.specs.Chains.{MeetsMark, type_parents}
use Rattle.type_check.proofs.FitLaws.{EachBefore}
use Rattle.type_check.proofs.types.Types.fit.Given as goal

abbrev pub invariant-loop-name : goal.invariant-loop-name
invariant-loop-name l =
    EachBefore (λ s. Any (LiesUnder l.self s) (texts l.others)) l.types l.name-index
    × (length l.marks.items ≡ length (type_parents l.self))
    × ((s : List ℕ) → Contains (type_names l.self) s → MeetsMark (type_parents l.self) l.marks.items (place_in (type_names l.self) s) ↔ Any (LiesUnder l.self s) (texts l.others))
