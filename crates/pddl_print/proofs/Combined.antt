-- The canonical text of a value that some text spells: it spells the value again, and no other. Like any
-- text that is read, it has fewer than 2^63 bytes.
use Rattle.std.proofs.Common.{◌≡◌, ℕ, ◌^◌, ◌<◌, List, [], ◌∷◌, length, refl, sym, ◌∙◌, subst, arith, codes}
use Rattle.pddl_reader.specs.Forms.{Form}
use Rattle.pddl_reader.specs.Values.{PlainDomain, PlainProblem}
use Rattle.pddl_reader.specs.Spelling.{IsFormOf, IsDomainText, IsProblemText}
use Rattle.pddl_print.specs.Canonical.{domain_text, problem_text}
use Rattle.pddl_print.specs.CanonicalForms.{domain_form, problem_form}
use Rattle.pddl_print.specs.CanonicalParts.{domain_parts, problem_parts}
use Rattle.pddl_print.specs.Layouts.{Parts, IsWritable, unplaced_form}
use Rattle.pddl_print.specs.Spells.{SpellsDomain, SpellsProblem}
use Rattle.pddl_print.proofs.CanonicalLaid.{IsCanonical, domain_laid, problem_laid}
use Rattle.pddl_print.proofs.CanonicalPuts.{keyword}
use Rattle.pddl_print.proofs.Again.{domain_again, problem_again}
use Rattle.pddl_print.proofs.LayoutForms.{layout}
use Rattle.pddl_print.proofs.LayoutWords.{words_of_text}
use Rattle.pddl_reader.proofs.NamesOf.{names_of_domain, names_of_problem}
use Rattle.pddl_print.proofs.OneDomain.{one_domain, one_problem}

-- the word of a type that is not written
object_writable : IsWritable (codes "object")
object_writable = keyword (codes "object") (omega arith) refl refl

-- a canonical text has a form that is the canonical one but for places
form_of_canonical : (parts : Parts) (text : List ℕ) (f : Form) → IsCanonical parts text f → length text < 2 ^ 63 → (g : Form) × IsFormOf text g × (unplaced_form g ≡ f)
form_of_canonical parts text f is few =
    let made = layout parts (10 ∷ []) is.laid is.shallow (refl, tt) (subst (λ bytes. length bytes < 2 ^ 63) is.whole few) in
    (made.0, subst (λ bytes. IsFormOf bytes made.0) (sym is.whole) made.1, made.2 ∙ is.form)

pub canonical_domain : (text : List ℕ) (d : PlainDomain) → IsDomainText text d → length (domain_text d) < 2 ^ 63 → SpellsDomain (domain_text d) d
canonical_domain text d h few =
    let names = names_of_domain IsWritable h.form d object_writable h.is_domain (words_of_text text h.form h.is_form) in
    let made = form_of_canonical (domain_parts d) (domain_text d) (domain_form d) (domain_laid d names) few in
    let again = domain_again h.form made.0 d h.is_domain made.2 in
    let spells : IsDomainText (domain_text d) again.0 = record { form = made.0; is_form = made.1; is_domain = again.1 } in
    record {
      value = again.0;
      spells = spells;
      same = again.2;
      only = λ other is. one_domain (domain_text d) other again.0 is spells;
    }

pub canonical_problem : (text : List ℕ) (p : PlainProblem) → IsProblemText text p → length (problem_text p) < 2 ^ 63 → SpellsProblem (problem_text p) p
canonical_problem text p h few =
    let names = names_of_problem IsWritable h.form p object_writable h.is_problem (words_of_text text h.form h.is_form) in
    let made = form_of_canonical (problem_parts p) (problem_text p) (problem_form p) (problem_laid p names) few in
    let again = problem_again h.form made.0 p h.is_problem made.2 in
    let spells : IsProblemText (problem_text p) again.0 = record { form = made.0; is_form = made.1; is_problem = again.1 } in
    record {
      value = again.0;
      spells = spells;
      same = again.2;
      only = λ other is. one_problem (problem_text p) other again.0 is spells;
    }
