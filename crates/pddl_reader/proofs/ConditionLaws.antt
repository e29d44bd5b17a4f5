-- Literals and conditions as they are read: their values and what is at fault in them.
use Rattle.std.proofs.Common.{◌≡◌, ℕ, Bool, true, false, cond, ◌&&◌, ◌||◌, List, [], ◌∷◌, ◌++◌, refl, ap, ◌∙◌, subst, sym, inl, inr, Ok, Err}
use Rattle.std.specs.Prelude.{codes}
use Rattle.std.specs.Str.{bytes_eq}
use Rattle.std.proofs.lemmas.Bool.{both_ways, cond-true, cond-false, and_parts, and_left, and_from, or_parts, not-true}
use Rattle.pddl_reader.specs.declared.faults.PddlFault.{PddlFault}
use Rattle.pddl_reader.specs.declared.faults.PddlFault.TheVariants.{Shape}
use Rattle.pddl_reader.specs.declared.kinds.Part.{Part}
use Rattle.pddl_reader.specs.Forms.{Word, Form, Forms, Leaf, Group, End, Then, forms_in, place_of}
use Rattle.pddl_reader.specs.Values.{PlainLiteral}
use Rattle.pddl_reader.specs.Classes.{is_name, takes_equality, takes_negation, is_equality, is_predicate_name, is_predicate}
use Rattle.pddl_reader.specs.Conditions.{IsAtom, IsLiteral, IsCondition, AreConditions}
use Rattle.pddl_reader.specs.Faults.{IsNegationFault, IsConditionFault, AreConditionsFault}
use Rattle.pddl_reader.specs.Reading.{Read, and_then, atom_at, negative_of, negation_in, condition_at, conditions_at}
use Rattle.pddl_reader.proofs.EachLaws.{and_then-Ok, and_then-Err, and_then-from}
use Rattle.pddl_reader.proofs.NameLaws.{same_bytes, bytes_same, other_bytes, choice}
use Rattle.pddl_reader.proofs.AtomLaws.{atom_spells, atom_reads, atom_faults, atom_good}

-- a predicate is neither of the words that a condition begins with
name_other : (text : List ℕ) → is_predicate_name text ≡ true → (bytes_eq (codes "and") text ≡ false) × (bytes_eq (codes "not") text ≡ false)
name_other text h =
    let parts = and_parts (is_name text) _ h in
    let others = or_parts (bytes_eq (codes "and") text) (bytes_eq (codes "not") text || false) (not-true _ parts.1) in
    (others.0, (or_parts (bytes_eq (codes "not") text) false others.1).0)

equality_other : (text : List ℕ) → is_equality text ≡ true → (bytes_eq (codes "and") text ≡ false) × (bytes_eq (codes "not") text ≡ false)
equality_other text h =
    subst (λ x. (bytes_eq (codes "and") x ≡ false) × (bytes_eq (codes "not") x ≡ false)) (sym (same_bytes (codes "=") text h)) (refl, refl)

predicate_other : (part : Part) (text : List ℕ) → is_predicate part text ≡ true → (bytes_eq (codes "and") text ≡ false) × (bytes_eq (codes "not") text ≡ false)
predicate_other part text h =
    choice (is_predicate_name text) true (takes_equality part && is_equality text) true (either (is_predicate_name text) h) ((bytes_eq (codes "and") text ≡ false) × (bytes_eq (codes "not") text ≡ false))
    (λ named e. name_other text named)
    (λ other e. equality_other text (and_parts (takes_equality part) (is_equality text) e).1)
  where
    either : (b : Bool) → (b || (takes_equality part && is_equality text)) ≡ true → cond b true (takes_equality part && is_equality text) ≡ true
    either true k = refl
    either false k = k

-- the literal behind 'not'
negation_spells : (part : Part) (at : ℕ) (rest : Forms) (l : PlainLiteral) → negation_in part at (forms_in rest) ≡ Ok l
    → (inner : Form) × (rest ≡ Then inner End) × (l.positive ≡ false) × IsAtom part inner l.predicate l.terms
negation_spells part at End l h = absurd (cc)
negation_spells part at (Then f End) l h =
    let read = and_then-Ok (atom_at part f) (λ m. Ok (negative_of m)) l h in
    let same : negative_of read.0 ≡ l = cc in
    let spelt = atom_spells part f read.0 read.1 in
    subst (λ m. (inner : Form) × (Then f End ≡ Then inner End) × (m.positive ≡ false) × IsAtom part inner m.predicate m.terms) same
    (f, refl, refl, spelt.1)
negation_spells part at (Then f (Then g rest)) l h =
    let read = and_then-Ok (atom_at part f) (λ m. Err (Shape (place_of g))) l h in
    absurd (cc)

negation_reads : (part : Part) (at : ℕ) (inner : Form) (l : PlainLiteral) → l.positive ≡ false → IsAtom part inner l.predicate l.terms → negation_in part at (inner ∷ []) ≡ Ok l
negation_reads part at inner l negative is =
    let atom : PlainLiteral = record { positive = true; predicate = l.predicate; terms = l.terms } in
    and_then-from (atom_at part inner) (λ m. Ok (negative_of m)) atom (Ok l) (atom_reads part inner atom refl is)
    (ap (λ b. Ok (record l { positive = b })) (sym negative))

negation_faults : (part : Part) (at : ℕ) (forms : List Form) (fault : PddlFault) → negation_in part at forms ≡ Err fault → IsNegationFault part at forms fault
negation_faults part at [] fault h = cc
negation_faults part at (f ∷ []) fault h =
    elim (and_then-Err (atom_at part f) (λ m. Ok (negative_of m)) fault h) [
      | inl atom ↦ atom_faults part f fault atom
      | inr (m, e, k) ↦ absurd (cc)
    ]
negation_faults part at (f ∷ g ∷ forms) fault h =
    elim (and_then-Err (atom_at part f) (λ m. Err (Shape (place_of g))) fault h) [
      | inl atom ↦ inl (atom_faults part f fault atom)
      | inr (m, e, k) ↦ inr (atom_good part f m e, cc)
    ]

-- one literal, by its head
abbrev pub is_negation : Part → Word → Bool
is_negation part w = bytes_eq (codes "not") w.text && takes_negation part

abbrev pub literal_at : Part → ℕ → Word → Forms → Read PlainLiteral
literal_at part at w rest = cond (is_negation part w) (negation_in part at (forms_in rest)) (atom_at part (Group at (Then (Leaf w) rest)))

module _ (part : Part) where
  literal_spells : (at : ℕ) (w : Word) (rest : Forms) (l : PlainLiteral) → literal_at part at w rest ≡ Ok l → IsLiteral part (Group at (Then (Leaf w) rest)) l
  literal_spells at w rest l h =
      choice (is_negation part w) (negation_in part at (forms_in rest)) (atom_at part (Group at (Then (Leaf w) rest))) (Ok l) h (IsLiteral part (Group at (Then (Leaf w) rest)) l)
      (λ good e.
      let is = and_parts (bytes_eq (codes "not") w.text) (takes_negation part) good in
      let spelt = negation_spells part at rest l e in
      inr (
        spelt.2,
        is.1,
        at,
        w,
        spelt.0,
        ap (λ r. Group at (Then (Leaf w) r)) spelt.1,
        same_bytes (codes "not") w.text is.0,
        spelt.3,
      ))
      (λ bad e. inl (atom_spells part (Group at (Then (Leaf w) rest)) l e))

  -- a literal begins with no 'and'
  literal_reads : (at : ℕ) (w : Word) (rest : Forms) (l : PlainLiteral) → IsLiteral part (Group at (Then (Leaf w) rest)) l
      → (bytes_eq (codes "and") w.text ≡ false) × (literal_at part at w rest ≡ Ok l)
  literal_reads at w rest l (inl (positive, is)) =
      let same : w ≡ l.predicate = cc (is.whole) in
      let other = predicate_other part w.text (subst (λ p. is_predicate part p.text ≡ true) (sym same) is.name) in (
        other.0,
        cond-false (is_negation part w) (negation_in part at (forms_in rest)) (atom_at part (Group at (Then (Leaf w) rest))) (and_left (bytes_eq (codes "not") w.text) (takes_negation part) other.1)
            ∙ atom_reads part (Group at (Then (Leaf w) rest)) l positive is,
      )
  literal_reads at w rest l (inr (negative, takes, a, head, inner, whole, is, atom)) =
      let same : w ≡ head = cc in
      let behind : rest ≡ Then inner End = cc in
      let named : w.text ≡ codes "not" = ap (λ (x : Word). x.text) same ∙ is in (
        ap (bytes_eq (codes "and")) named,
        cond-true (is_negation part w) (negation_in part at (forms_in rest)) (atom_at part (Group at (Then (Leaf w) rest)))
            (and_from (bytes_eq (codes "not") w.text) (takes_negation part) (bytes_same (codes "not") w.text named) takes)
            ∙ ap (λ r. negation_in part at (forms_in r)) behind
            ∙ negation_reads part at inner l negative atom,
      )

  mutual
    pub condition_spells : (f : Form) (ls : List PlainLiteral) → condition_at part f ≡ Ok ls → IsCondition part f ls
    condition_spells (Leaf w) ls h = absurd (cc)
    condition_spells (Group at End) ls h = cc
    condition_spells (Group at (Then (Group a inner) rest)) ls h = absurd (cc)
    condition_spells (Group at (Then (Leaf w) rest)) ls h =
        choice (bytes_eq (codes "and") w.text) (conditions_at part rest) (and_then (literal_at part at w rest) (λ l. Ok (l ∷ []))) (Ok ls) h
        (IsCondition part (Group at (Then (Leaf w) rest)) ls)
        (λ good e. inl (same_bytes (codes "and") w.text good, conditions_spell rest ls e))
        (λ bad e.
        let read = and_then-Ok (literal_at part at w rest) (λ l. Ok (l ∷ [])) ls e in
        inr (read.0, cc, literal_spells at w rest read.0 read.1))

    conditions_spell : (forms : Forms) (ls : List PlainLiteral) → conditions_at part forms ≡ Ok ls → AreConditions part forms ls
    conditions_spell End ls h = cc
    conditions_spell (Then f rest) ls h =
        let front = and_then-Ok (condition_at part f) (λ front. and_then (conditions_at part rest) (λ more. Ok (front ++ more))) ls h in
        let more = and_then-Ok (conditions_at part rest) (λ more. Ok (front.0 ++ more)) ls front.2 in
        (front.0, more.0, cc, condition_spells f front.0 front.1, conditions_spell rest more.0 more.1)

  mutual
    pub condition_reads : (f : Form) (ls : List PlainLiteral) → IsCondition part f ls → condition_at part f ≡ Ok ls
    condition_reads (Leaf w) ls h = absurd h
    condition_reads (Group at End) ls h = ap (λ l. Ok l) (sym h)
    condition_reads (Group at (Then (Group a inner) rest)) ls h = absurd h
    condition_reads (Group at (Then (Leaf w) rest)) ls (inl (is, are)) =
        cond-true (bytes_eq (codes "and") w.text) (conditions_at part rest) (and_then (literal_at part at w rest) (λ l. Ok (l ∷ []))) (bytes_same (codes "and") w.text is)
        ∙ conditions_read rest ls are
    condition_reads (Group at (Then (Leaf w) rest)) ls (inr (l, e, is)) =
        let read = literal_reads at w rest l is in
        cond-false (bytes_eq (codes "and") w.text) (conditions_at part rest) (and_then (literal_at part at w rest) (λ l. Ok (l ∷ []))) read.0
        ∙ and_then-from (literal_at part at w rest) (λ m. Ok (m ∷ [])) l (Ok ls) read.1 (ap (λ l. Ok l) (sym e))

    conditions_read : (forms : Forms) (ls : List PlainLiteral) → AreConditions part forms ls → conditions_at part forms ≡ Ok ls
    conditions_read End ls h = ap (λ l. Ok l) (sym h)
    conditions_read (Then f rest) ls (front, more, e, is, are) =
        and_then-from (condition_at part f) (λ xs. and_then (conditions_at part rest) (λ ys. Ok (xs ++ ys))) front (Ok ls) (condition_reads f front is)
        (and_then-from (conditions_at part rest) (λ ys. Ok (front ++ ys)) more (Ok ls) (conditions_read rest more are) (ap (λ l. Ok l) (sym e)))

  literal_faults : (at : ℕ) (w : Word) (rest : Forms) (fault : PddlFault) → bytes_eq (codes "and") w.text ≡ false → literal_at part at w rest ≡ Err fault
      → IsConditionFault part (Group at (Then (Leaf w) rest)) fault
  literal_faults at w rest fault other h =
      choice (is_negation part w) (negation_in part at (forms_in rest)) (atom_at part (Group at (Then (Leaf w) rest))) (Err fault) h
      (IsConditionFault part (Group at (Then (Leaf w) rest)) fault)
      (λ good e.
      let is = and_parts (bytes_eq (codes "not") w.text) (takes_negation part) good in
      inr (inl (same_bytes (codes "not") w.text is.0, is.1, negation_faults part at (forms_in rest) fault e)))
      (λ bad e.
      inr (inr (
        other_bytes (codes "and") w.text other,
        λ is takes. both_ways (is_negation part w) bad (and_from (bytes_eq (codes "not") w.text) (takes_negation part) (bytes_same (codes "not") w.text is) takes),
        atom_faults part (Group at (Then (Leaf w) rest)) fault e,
      )))

  mutual
    pub condition_faults : (f : Form) (fault : PddlFault) → condition_at part f ≡ Err fault → IsConditionFault part f fault
    condition_faults (Leaf w) fault h = cc
    condition_faults (Group at End) fault h = absurd (cc)
    condition_faults (Group at (Then (Group a inner) rest)) fault h = cc
    condition_faults (Group at (Then (Leaf w) rest)) fault h =
        choice (bytes_eq (codes "and") w.text) (conditions_at part rest) (and_then (literal_at part at w rest) (λ l. Ok (l ∷ []))) (Err fault) h
        (IsConditionFault part (Group at (Then (Leaf w) rest)) fault)
        (λ good e. inl (same_bytes (codes "and") w.text good, conditions_fault rest fault e))
        (λ bad e. elim (and_then-Err (literal_at part at w rest) (λ l. Ok (l ∷ [])) fault e) [
          | inl literal ↦ literal_faults at w rest fault bad literal
          | inr (l, e', k) ↦ absurd (cc)
        ])

    conditions_fault : (forms : Forms) (fault : PddlFault) → conditions_at part forms ≡ Err fault → AreConditionsFault part forms fault
    conditions_fault End fault h = absurd (cc)
    conditions_fault (Then f rest) fault h =
        elim (and_then-Err (condition_at part f) (λ front. and_then (conditions_at part rest) (λ more. Ok (front ++ more))) fault h) [
          | inl first ↦ inl (condition_faults f fault first)
          | inr (front, e, k) ↦ elim (and_then-Err (conditions_at part rest) (λ more. Ok (front ++ more)) fault k) [
            | inl later ↦ inr ((front, condition_spells f front e), conditions_fault rest fault later)
            | inr (more, e', k') ↦ absurd (cc)
          ]
        ]
