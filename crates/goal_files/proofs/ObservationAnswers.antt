-- The observations of a text over a typed domain and problem, and what is at fault in one that gives
-- none.
use Rattle.std.proofs.Common.{◌≡◌, ℕ, ◌<◌, List, length, refl, sym, ap, ◌∙◌, subst, inl, inr, arith, Result, Err}
use Rattle.std.specs.Prelude.{◌⊎◌}
use Rattle.std.specs.Result.{IfOk, IsOkAnd, IfErr}
use Rattle.type_check.specs.Values.{PlainTyped, PlainGroundName}
use Rattle.type_check.specs.Typing.{IsTypedTask}
use Rattle.goal_files.specs.Ground.{IsActionOf}
use Rattle.goal_files.specs.SpelledLines.{SpellLines}
use Rattle.goal_files.specs.Observations.{SpellsAction, SpellsObservations, HasNoList, HasUnknownAction, IsObsFault}
use Rattle.goal_files.specs.LineReading.{kept_lines, StopsBy, IsObsLineFault}
use Rattle.goal_files.specs.declared.faults.ObsFault.{ObsFault}
use Rattle.goal_files.specs.declared.faults.ObsFault.TheVariants.{Shape, UnknownAction, TooManyObservations, OutOfMemory}
use Rattle.goal_files.proofs.GroundLaws.{one_action}
use Rattle.goal_files.proofs.LineFaults.{one_list}
use Rattle.goal_files.proofs.LineLaws.{first_bad}
use Rattle.goal_files.proofs.LineAnswers.{same_values, SpellsNone, same_number, not_both, none_bad, answered_exactly, refused_exactly}

abbrev Actions : Type 0
Actions = List PlainGroundName

-- the fault of a line is that of the text
pub line_fault : (t : PlainTyped) (text : List ℕ) (f : ObsFault) → StopsBy (SpellsAction t) (IsObsLineFault t) (kept_lines text) f → (f ≡ OutOfMemory) ⊎ IsObsFault t text f
line_fault t text (Shape n) stops = inr (first_bad (SpellsAction t) text stops.0 n HasNoList stops.1 stops.2.0 stops.2.1)
line_fault t text (UnknownAction n) stops = inr (first_bad (SpellsAction t) text stops.0 n (HasUnknownAction t) stops.1 stops.2.0 stops.2.1)
line_fault t text (TooManyObservations n) stops = absurd stops.2
line_fault t text OutOfMemory stops = inl refl

module _ (t : PlainTyped) (task : IsTypedTask t) where
  -- ---- a line spells one action

  pub one_spelled : (line : List ℕ) (n m : PlainGroundName) → SpellsAction t line n → SpellsAction t line m → n ≡ m
  one_spelled line n m g h =
      one_action t g.names n m task g.is_action (subst (λ names. IsActionOf t names m) (one_list line h.names g.names h.spelled g.spelled) h.is_action)

  only_actions : (text : List ℕ) (actions others : Actions) → SpellLines (SpellsAction t) text actions → SpellLines (SpellsAction t) text others → actions ≡ others
  only_actions text actions others g h = same_values (SpellsAction t) one_spelled _ actions others g h

  no_list_none : SpellsNone (SpellsAction t) HasNoList
  no_list_none line none n spells = none spells.names spells.spelled

  unknown_none : SpellsNone (SpellsAction t) (HasUnknownAction t)
  unknown_none line unknown n spells = unknown.1 n spells

  apart : (line : List ℕ) → HasNoList line → HasUnknownAction t line → ⊥
  apart line none unknown = none unknown.0.0 unknown.0.1

  -- ---- what is at fault

  module _ (text : List ℕ) where
    -- where the lines spell actions, the fault is in their count
    count_fault : (actions : Actions) (f : ObsFault) → SpellLines (SpellsAction t) text actions → IsObsFault t text f → (f ≡ TooManyObservations (length actions)) × (1024 < length actions)
    count_fault actions (Shape n) spells h = absurd (none_bad (SpellsAction t) text HasNoList n actions no_list_none h spells)
    count_fault actions (UnknownAction n) spells h = absurd (none_bad (SpellsAction t) text (HasUnknownAction t) n actions unknown_none h spells)
    count_fault actions (TooManyObservations n) spells h =
        let same : length actions ≡ n = ap length (only_actions text actions h.0.0 spells h.0.1) ∙ h.0.2 in
        (ap TooManyObservations (sym same), omega (arith, h.1))
    count_fault actions OutOfMemory spells h = absurd h

    no_fault : (actions : Actions) (f : ObsFault) → SpellsObservations t text actions → IsObsFault t text f → ⊥
    no_fault actions f s h = let many = (count_fault actions f s.lines h).1 in omega (arith, s.few)

    one_fault : (f g : ObsFault) → IsObsFault t text f → IsObsFault t text g → f ≡ g
    one_fault (Shape n) (Shape m) h k = ap Shape (same_number (SpellsAction t) text HasNoList n m no_list_none h k)
    one_fault (Shape n) (UnknownAction m) h k = absurd (not_both (SpellsAction t) text HasNoList (HasUnknownAction t) n m no_list_none unknown_none apart h k)
    one_fault (Shape n) (TooManyObservations m) h k = absurd (none_bad (SpellsAction t) text HasNoList n k.0.0 no_list_none h k.0.1)
    one_fault (Shape n) OutOfMemory h k = absurd k
    one_fault (UnknownAction n) (Shape m) h k = absurd (not_both (SpellsAction t) text HasNoList (HasUnknownAction t) m n no_list_none unknown_none apart k h)
    one_fault (UnknownAction n) (UnknownAction m) h k = ap UnknownAction (same_number (SpellsAction t) text (HasUnknownAction t) n m unknown_none h k)
    one_fault (UnknownAction n) (TooManyObservations m) h k = absurd (none_bad (SpellsAction t) text (HasUnknownAction t) n k.0.0 unknown_none h k.0.1)
    one_fault (UnknownAction n) OutOfMemory h k = absurd k
    one_fault (TooManyObservations n) g h k = ap TooManyObservations (sym h.0.2) ∙ sym (count_fault h.0.0 g h.0.1 k).0
    one_fault OutOfMemory g h k = absurd h

    one_answer : (actions others : Actions) → SpellsObservations t text actions → SpellsObservations t text others → actions ≡ others
    one_answer actions others g h = only_actions text actions others g.lines h.lines

    module _ {V : Type 0} (items : V → Actions) (result : Result V ObsFault) (ok : IfOk result (λ v. SpellsObservations t text (items v))) (err : IfErr result (λ f. (f ≡ OutOfMemory) ⊎ IsObsFault t text f)) where
      pub spelled_exactly : (actions : Actions) → SpellsObservations t text actions → IsOkAnd result (λ v. items v ≡ actions) ⊎ (result ≡ Err OutOfMemory)
      spelled_exactly = answered_exactly (SpellsObservations t text) (IsObsFault t text) OutOfMemory one_answer one_fault no_fault items result ok err

      pub fault_exactly : (f : ObsFault) → IsObsFault t text f → (result ≡ Err f) ⊎ (result ≡ Err OutOfMemory)
      fault_exactly = refused_exactly (SpellsObservations t text) (IsObsFault t text) OutOfMemory one_answer one_fault no_fault items result ok err
