-- Terms and atoms as they are read: their values and what is at fault in them.
use Rattle.std.proofs.Common.{◌≡◌, ℕ, true, false, cond, ◌&&◌, eqb, List, [], ◌∷◌, refl, ap, ◌∙◌, subst, sym, inl, inr, Option, Some, None, Ok, Err}
use Rattle.std.proofs.lemmas.Bool.{cond-true, cond-false, and_parts, eqb-true, false≢true}
use Rattle.pddl_reader.specs.declared.faults.PddlFault.{PddlFault}
use Rattle.pddl_reader.specs.declared.faults.PddlFault.TheVariants.{Shape}
use Rattle.pddl_reader.specs.declared.faults.Feature.{Feature}
use Rattle.pddl_reader.specs.declared.kinds.Part.{Part}
use Rattle.pddl_reader.specs.declared.kinds.Part.TheVariants.{Precondition, Effect, Start}
use Rattle.pddl_reader.specs.Forms.{Word, Form, Leaf, Group, forms_in, group, place_of}
use Rattle.pddl_reader.specs.Values.{PlainTerm, PlainLiteral}
use Rattle.pddl_reader.specs.Values.PlainTerm.{Variable, Constant}
use Rattle.pddl_reader.specs.Classes.{is_name, is_variable, is_predicate, head_feature}
use Rattle.pddl_reader.specs.Conditions.{IsTerm, AreTerms, has_enough, IsAtom}
use Rattle.pddl_reader.specs.Sections.{Pairwise}
use Rattle.pddl_reader.specs.Faults.{IsTermForm, IsNoTerm, IsAtomListFault, IsAtomFault, IsAtomForm}
use Rattle.pddl_reader.specs.Reading.{Read, and_then, each_at, takes_variables, term_at, atom_by, atom_in, atom_at}
use Rattle.pddl_reader.proofs.EachLaws.{and_then-Ok, and_then-Err, and_then-from, each_spells, each_reads, each_faults}
use Rattle.pddl_reader.proofs.NameLaws.{choice}
use Rattle.pddl_reader.proofs.TypedLaws.{forms_back, forms_there}

-- a variable is no name
variable_is_other : (text : List ℕ) → is_variable text ≡ true → is_name text ≡ false
variable_is_other [] h = refl
variable_is_other (b ∷ bytes) h =
    let e : b ≡ 63 = eqb-true b 63 ((and_parts (eqb b 63) (is_name bytes) h).0) in
    subst (λ x. is_name (x ∷ bytes) ≡ false) (sym e) refl

-- a term that is no name is a variable where those may stand
abbrev by_variable : Part → Word → Read PlainTerm
by_variable part w = cond (takes_variables part && is_variable w.text) (Ok (Variable w)) (Err (Shape w.at))

variable_spells : (part : Part) (w : Word) → (takes_variables part && is_variable w.text) ≡ true → IsTerm part (Leaf w) (Variable w)
variable_spells Precondition w h = (refl, h)
variable_spells Effect w h = (refl, h)
variable_spells Start w h = absurd (false≢true h)

variable_reads : (part : Part) (f : Form) (w : Word) → IsTerm part f (Variable w) → (f ≡ Leaf w) × ((takes_variables part && is_variable w.text) ≡ true) × (is_variable w.text ≡ true)
variable_reads Precondition f w h = (h.0, h.1, h.1)
variable_reads Effect f w h = (h.0, h.1, h.1)
variable_reads Start f w h = absurd h

module _ (part : Part) where
  pub term_spells : (f : Form) (t : PlainTerm) → term_at part f ≡ Ok t → IsTerm part f t
  term_spells (Leaf w) t h =
      choice (is_name w.text) (Ok (Constant w)) (by_variable part w) (Ok t) h (IsTerm part (Leaf w) t)
      (λ good e. let same : Constant w ≡ t = cc in subst (IsTerm part (Leaf w)) same (refl, good))
      (λ bad e. choice (takes_variables part && is_variable w.text) (Ok (Variable w)) (Err (Shape w.at)) (Ok t) e (IsTerm part (Leaf w) t)
      (λ good k. let same : Variable w ≡ t = cc in subst (IsTerm part (Leaf w)) same (variable_spells part w good))
      (λ other k. absurd (cc)))
  term_spells (Group at forms) t h = absurd (cc)

  pub term_reads : (f : Form) (t : PlainTerm) → IsTerm part f t → term_at part f ≡ Ok t
  term_reads f (Constant w) h =
      subst (λ g. term_at part g ≡ Ok (Constant w)) (sym h.0) (cond-true (is_name w.text) (Ok (Constant w)) (by_variable part w) h.1)
  term_reads f (Variable w) h =
      let is = variable_reads part f w h in
      subst (λ g. term_at part g ≡ Ok (Variable w)) (sym is.0)
      (cond-false (is_name w.text) (Ok (Constant w)) (by_variable part w) (variable_is_other w.text is.2)
      ∙ cond-true (takes_variables part && is_variable w.text) (Ok (Variable w)) (Err (Shape w.at)) is.1)

  term_good : (f : Form) (t : PlainTerm) → term_at part f ≡ Ok t → IsTermForm part f
  term_good f t h = (t, term_spells f t h)

  -- what has a fault is no term, since a term would be read, and the fault is its place
  pub term_fault_place : (f : Form) (fault : PddlFault) → term_at part f ≡ Err fault → fault ≡ Shape (place_of f)
  term_fault_place (Leaf w) fault h =
      choice (is_name w.text) (Ok (Constant w)) (by_variable part w) (Err fault) h (fault ≡ Shape w.at)
      (λ good e. absurd (cc))
      (λ bad e. choice (takes_variables part && is_variable w.text) (Ok (Variable w)) (Err (Shape w.at)) (Err fault) e (fault ≡ Shape w.at)
      (λ good k. absurd (cc)) (λ other k. cc))
  term_fault_place (Group at forms) fault h = cc

  term_faults : (f : Form) (fault : PddlFault) → term_at part f ≡ Err fault → IsNoTerm part f fault
  term_faults f fault h = (λ good. let read = term_reads f good.0 good.1 in cc, term_fault_place f fault h)

  terms_spell : (forms : List Form) (terms : List PlainTerm) → Pairwise (IsTerm part) forms terms → AreTerms part forms terms
  terms_spell [] [] h = tt
  terms_spell [] (t ∷ terms) h = absurd h
  terms_spell (f ∷ forms) [] h = absurd h
  terms_spell (f ∷ forms) (t ∷ terms) h = (h.0, terms_spell forms terms h.1)

  terms_pair : (forms : List Form) (terms : List PlainTerm) → AreTerms part forms terms → Pairwise (IsTerm part) forms terms
  terms_pair [] [] h = tt
  terms_pair [] (t ∷ terms) h = absurd h
  terms_pair (f ∷ forms) [] h = absurd h
  terms_pair (f ∷ forms) (t ∷ terms) h = (h.0, terms_pair forms terms h.1)

  -- an atom by its head
  abbrev atom_of : Word → List PlainTerm → PlainLiteral
  atom_of w terms = record { positive = true; predicate = w; terms = terms }

  abbrev pub terms_behind : Word → List Form → Read PlainLiteral
  terms_behind w forms = and_then (each_at (term_at part) forms) (λ terms. Ok (atom_of w terms))

  -- what stands behind a predicate, where it is enough
  abbrev pub behind_predicate : ℕ → Word → List Form → Read PlainLiteral
  behind_predicate at w forms = cond (has_enough w.text forms) (terms_behind w forms) (Err (Shape at))

  atom_by_spells : (feature : Option Feature) (at : ℕ) (w : Word) (forms : List Form) (l : PlainLiteral) → head_feature part w.text ≡ feature
      → atom_by feature part at w forms ≡ Ok l → (l.positive ≡ true) × IsAtom part (group at (Leaf w ∷ forms)) l.predicate l.terms
  atom_by_spells (Some feature) at w forms l plain h = absurd (cc)
  atom_by_spells None at w forms l plain h =
      choice (is_predicate part w.text) (behind_predicate at w forms) (Err (Shape w.at)) (Ok l) h ((l.positive ≡ true) × IsAtom part (group at (Leaf w ∷ forms)) l.predicate l.terms)
      (λ good some.
      choice (has_enough w.text forms) (terms_behind w forms) (Err (Shape at)) (Ok l) some ((l.positive ≡ true) × IsAtom part (group at (Leaf w ∷ forms)) l.predicate l.terms)
      (λ enough e.
      let read = and_then-Ok (each_at (term_at part) forms) (λ terms. Ok (atom_of w terms)) l e in
      let same : atom_of w read.0 ≡ l = cc in
      let are = terms_spell forms read.0 (each_spells (term_at part) (IsTerm part) term_spells forms read.0 read.1) in
      subst (λ m. (m.positive ≡ true) × IsAtom part (group at (Leaf w ∷ forms)) m.predicate m.terms) same
      (refl, record { at = at; forms = forms; whole = refl; name = good; plain = plain; enough = enough; are_terms = are }))
      (λ bare e. absurd (cc)))
      (λ bad e. absurd (cc))

  atom_in_spells : (at : ℕ) (forms : List Form) (l : PlainLiteral) → atom_in part at forms ≡ Ok l → (l.positive ≡ true) × IsAtom part (group at forms) l.predicate l.terms
  atom_in_spells at [] l h = absurd (cc)
  atom_in_spells at (Group a inner ∷ forms) l h = absurd (cc)
  atom_in_spells at (Leaf w ∷ forms) l h = atom_by_spells (head_feature part w.text) at w forms l refl h

  pub atom_spells : (f : Form) (l : PlainLiteral) → atom_at part f ≡ Ok l → (l.positive ≡ true) × IsAtom part f l.predicate l.terms
  atom_spells (Leaf w) l h = absurd (cc)
  atom_spells (Group at forms) l h =
      subst (λ fs. (l.positive ≡ true) × IsAtom part (Group at fs) l.predicate l.terms) (forms_back forms) (atom_in_spells at (forms_in forms) l h)

  -- the literal of an atom is given by its predicate and its terms
  positive_is : (l : PlainLiteral) → l.positive ≡ true → atom_of l.predicate l.terms ≡ l
  positive_is l e = ap (λ b. record l { positive = b }) (sym e)

  pub atom_in_reads : (at : ℕ) (w : Word) (forms : List Form) (terms : List PlainTerm) → is_predicate part w.text ≡ true → head_feature part w.text ≡ None
      → has_enough w.text forms ≡ true → AreTerms part forms terms → atom_in part at (Leaf w ∷ forms) ≡ Ok (atom_of w terms)
  atom_in_reads at w forms terms name plain enough are =
      ap (λ feature. atom_by feature part at w forms) plain
      ∙ cond-true (is_predicate part w.text) (behind_predicate at w forms) (Err (Shape w.at)) name
      ∙ cond-true (has_enough w.text forms) (terms_behind w forms) (Err (Shape at)) enough
      ∙ and_then-from (each_at (term_at part) forms) (λ ts. Ok (atom_of w ts)) terms (Ok (atom_of w terms))
      (each_reads (term_at part) (IsTerm part) term_reads forms terms (terms_pair forms terms are)) refl

  pub atom_reads : (f : Form) (l : PlainLiteral) → l.positive ≡ true → IsAtom part f l.predicate l.terms → atom_at part f ≡ Ok l
  atom_reads f l positive is =
      let list : List Form = Leaf l.predicate ∷ is.forms in
      ap (atom_at part) is.whole
      ∙ ap (atom_in part is.at) (forms_there list)
      ∙ atom_in_reads is.at l.predicate is.forms l.terms is.name is.plain is.enough is.are_terms
      ∙ ap (λ m. Ok m) (positive_is l positive)

  atom_by_faults : (feature : Option Feature) (at : ℕ) (w : Word) (forms : List Form) (fault : PddlFault) → head_feature part w.text ≡ feature
      → atom_by feature part at w forms ≡ Err fault → IsAtomListFault part at (Leaf w ∷ forms) fault
  atom_by_faults (Some feature) at w forms fault is h = inl (feature, is, cc)
  atom_by_faults None at w forms fault plain h =
      choice (is_predicate part w.text) (behind_predicate at w forms) (Err (Shape w.at)) (Err fault) h (IsAtomListFault part at (Leaf w ∷ forms) fault)
      (λ good some.
      choice (has_enough w.text forms) (terms_behind w forms) (Err (Shape at)) (Err fault) some (IsAtomListFault part at (Leaf w ∷ forms) fault)
      (λ enough e. elim (and_then-Err (each_at (term_at part) forms) (λ terms. Ok (atom_of w terms)) fault e) [
        | inl term ↦ inr (inr (inr (plain, good, enough, each_faults (term_at part) (IsTermForm part) (IsNoTerm part) term_good term_faults forms fault term)))
        | inr (terms, e', k) ↦ absurd (cc)
      ])
      (λ bare e. inr (inr (inl (plain, good, bare, cc)))))
      (λ bad e. inr (inl (plain, bad, cc)))

  pub atom_in_faults : (at : ℕ) (forms : List Form) (fault : PddlFault) → atom_in part at forms ≡ Err fault → IsAtomListFault part at forms fault
  atom_in_faults at [] fault h = cc
  atom_in_faults at (Group a inner ∷ forms) fault h = cc
  atom_in_faults at (Leaf w ∷ forms) fault h = atom_by_faults (head_feature part w.text) at w forms fault refl h

  pub atom_faults : (f : Form) (fault : PddlFault) → atom_at part f ≡ Err fault → IsAtomFault part f fault
  atom_faults (Leaf w) fault h = cc
  atom_faults (Group at forms) fault h = atom_in_faults at (forms_in forms) fault h

  pub atom_good : (f : Form) (l : PlainLiteral) → atom_at part f ≡ Ok l → IsAtomForm part f
  atom_good f l h = let spelt = atom_spells f l h in (l.predicate, l.terms, spelt.1)
