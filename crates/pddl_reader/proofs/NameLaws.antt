-- Texts by their bytes, and names.
use Rattle.std.proofs.Common.{◌≡◌, ◌≢◌, ℕ, Bool, true, false, cond, List, refl, sym, Ok, Err}
use Rattle.std.specs.Str.{bytes_eq}
use Rattle.std.proofs.lemmas.Bool.{both_ways, cond-true, false_from_ne_true}
use Rattle.std.proofs.lemmas.Slice.Eq.{bytes_eq-Decides}
use Rattle.pddl_reader.specs.declared.faults.PddlFault.{PddlFault}
use Rattle.pddl_reader.specs.declared.faults.PddlFault.TheVariants.{Shape}
use Rattle.pddl_reader.specs.Forms.{Word, Form, Leaf, Group}
use Rattle.pddl_reader.specs.Classes.{is_name}
use Rattle.pddl_reader.specs.Typed.{IsNameWord}
use Rattle.pddl_reader.specs.Faults.{IsNameForm, IsNoName}
use Rattle.pddl_reader.specs.Reading.{name_at}

pub same_bytes : (a b : List ℕ) → bytes_eq a b ≡ true → b ≡ a
same_bytes a b h = sym ((bytes_eq-Decides a b).0 h)

pub bytes_same : (a b : List ℕ) → b ≡ a → bytes_eq a b ≡ true
bytes_same a b h = (bytes_eq-Decides a b).1 (sym h)

pub other_bytes : (a b : List ℕ) → bytes_eq a b ≡ false → b ≢ a
other_bytes a b h e = both_ways (bytes_eq a b) h (bytes_same a b e)

pub bytes_other : (a b : List ℕ) → b ≢ a → bytes_eq a b ≡ false
bytes_other a b h = false_from_ne_true (bytes_eq a b) (λ e. h (same_bytes a b e))

-- what a choice gives, by its test
pub choice : {X : Type 0} (b : Bool) (x y z : X) → cond b x y ≡ z → (P : Type 0) → (b ≡ true → x ≡ z → P) → (b ≡ false → y ≡ z → P) → P
choice true x y z h P good bad = good refl h
choice false x y z h P good bad = bad refl h

pub name_spells : (f : Form) (name : Word) → name_at f ≡ Ok name → (f ≡ Leaf name) × IsNameWord name
name_spells (Leaf w) name h =
    choice (is_name w.text) (Ok w) (Err (Shape w.at)) (Ok name) h ((Leaf w ≡ Leaf name) × IsNameWord name)
    (λ good e. let same : w ≡ name = cc in (cc, rw same at good))
    (λ bad e. absurd (cc))
name_spells (Group at forms) name h = absurd (cc)

pub name_reads : (w : Word) → IsNameWord w → name_at (Leaf w) ≡ Ok w
name_reads w h = cond-true (is_name w.text) (Ok w) (Err (Shape w.at)) h

pub name_good : (f : Form) (name : Word) → name_at f ≡ Ok name → IsNameForm f
name_good f name h = let spelt = name_spells f name h in (name, spelt.0, spelt.1)

pub name_faults : (f : Form) (fault : PddlFault) → name_at f ≡ Err fault → IsNoName f fault
name_faults (Leaf w) fault h =
    choice (is_name w.text) (Ok w) (Err (Shape w.at)) (Err fault) h (IsNoName (Leaf w) fault)
    (λ good e. absurd (cc))
    (λ bad e. (λ form. let same : w ≡ form.0 = cc in both_ways (is_name w.text) bad (rw (← same) at form.2), cc))
name_faults (Group at forms) fault h = (λ good. absurd (cc), cc)
