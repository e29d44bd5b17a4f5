-- Forms that are given but for their places: what they begin with, and what stands behind.
use Rattle.std.proofs.Common.{◌≡◌, ℕ, List, [], ◌∷◌, ◌++◌, map, refl, sym, ap, ◌∙◌}
use Rattle.std.specs.Prelude.{All}
use Rattle.std.proofs.lemmas.List.Elements.{All-head, All-tail}
use Rattle.pddl_reader.specs.Forms.{Word, Form, Forms, Leaf, Group, End, Then, forms_in, group}
use Rattle.pddl_reader.specs.Sections.{Pairwise}
use Rattle.pddl_reader.proofs.TypedLaws.{forms_back, forms_there}
use Rattle.pddl_print.specs.Layouts.{unplaced_form, unplaced_forms}
use Rattle.pddl_print.specs.CanonicalForms.{word}

abbrev text_of : Form → List ℕ
text_of (Leaf w) = w.text
text_of (Group at forms) = []

abbrev inside_of : Form → List Form
inside_of (Leaf w) = []
inside_of (Group at forms) = forms_in forms

pub leaf_again : (g : Form) (text : List ℕ) → unplaced_form g ≡ word text → (w : Word) × (g ≡ Leaf w) × (w.text ≡ text)
leaf_again (Leaf w) text e = (w, refl, ap text_of e)
leaf_again (Group at forms) text e = absurd (cc)

unplaced_in : (forms : Forms) → forms_in (unplaced_forms forms) ≡ map unplaced_form (forms_in forms)
unplaced_in End = refl
unplaced_in (Then f rest) = ap (λ fs. unplaced_form f ∷ fs) (unplaced_in rest)

pub group_again : (g : Form) (forms : List Form) → unplaced_form g ≡ group 0 forms
    → (at : ℕ) × (inner : List Form) × (g ≡ group at inner) × (map unplaced_form inner ≡ forms)
group_again (Leaf w) forms e = absurd (cc)
group_again (Group at fs) forms e = (
  at,
  forms_in fs,
  ap (λ x. Group at x) (sym (forms_back fs)),
  sym (unplaced_in fs) ∙ ap inside_of e ∙ forms_there forms,
)

-- lists of forms that begin with a form, with a word, and with forms in brackets
pub record FormFirst (gs : List Form) (f : Form) (fs : List Form) : Type 0 where
  pub first : Form
  pub rest : List Form
  pub whole : gs ≡ first ∷ rest
  pub same : unplaced_form first ≡ f
  pub behind : map unplaced_form rest ≡ fs

pub record WordFirst (gs : List Form) (text : List ℕ) (fs : List Form) : Type 0 where
  pub first : Word
  pub rest : List Form
  pub whole : gs ≡ Leaf first ∷ rest
  pub same : first.text ≡ text
  pub behind : map unplaced_form rest ≡ fs

pub record GroupFirst (gs forms fs : List Form) : Type 0 where
  pub at : ℕ
  pub inner : List Form
  pub rest : List Form
  pub whole : gs ≡ group at inner ∷ rest
  pub inside : map unplaced_form inner ≡ forms
  pub behind : map unplaced_form rest ≡ fs

pub form_first : (gs : List Form) (f : Form) (fs : List Form) → map unplaced_form gs ≡ f ∷ fs → FormFirst gs f fs
form_first [] f fs e = absurd (cc)
form_first (g ∷ gs) f fs e = record { first = g; rest = gs; whole = refl; same = cc; behind = cc }

pub word_first : (gs : List Form) (text : List ℕ) (fs : List Form) → map unplaced_form gs ≡ word text ∷ fs → WordFirst gs text fs
word_first gs text fs e =
    let begins = form_first gs (word text) fs e in
    let leaf = leaf_again begins.first text begins.same in
    record {
      first = leaf.0;
      rest = begins.rest;
      whole = begins.whole ∙ ap (λ f. f ∷ begins.rest) leaf.1;
      same = leaf.2;
      behind = begins.behind;
    }

pub group_first : (gs forms fs : List Form) → map unplaced_form gs ≡ group 0 forms ∷ fs → GroupFirst gs forms fs
group_first gs forms fs e =
    let begins = form_first gs (group 0 forms) fs e in
    let inside = group_again begins.first forms begins.same in
    record {
      at = inside.0;
      inner = inside.1;
      rest = begins.rest;
      whole = begins.whole ∙ ap (λ f. f ∷ begins.rest) inside.2;
      inside = inside.3;
      behind = begins.behind;
    }

pub none_again : (gs : List Form) → map unplaced_form gs ≡ [] → gs ≡ []
none_again [] e = refl
none_again (g ∷ gs) e = absurd (cc)

-- forms behind forms
pub both_again : (gs xs ys : List Form) → map unplaced_form gs ≡ xs ++ ys
    → (front back : List Form) × (gs ≡ front ++ back) × (map unplaced_form front ≡ xs) × (map unplaced_form back ≡ ys)
both_again gs [] ys e = ([], gs, refl, refl, e)
both_again gs (x ∷ xs) ys e =
    let begins = form_first gs x (xs ++ ys) e in
    let rest = both_again begins.rest xs ys begins.behind in (
      begins.first ∷ rest.0,
      rest.1,
      begins.whole ∙ ap (λ fs. begins.first ∷ fs) rest.2,
      cc (begins.same, rest.3),
      rest.4,
    )

-- values that are each spelled again
module _ {X : Type 0} (form : X → Form) (unplace : X → X) (R : Form → X → Type 0) (Q : X → Type 0)
    (one : (x : X) (g : Form) → Q x → unplaced_form g ≡ form x → (y : X) × R g y × (unplace y ≡ unplace x)) where
  pub each_again : (xs : List X) (gs : List Form) → All Q xs → map unplaced_form gs ≡ map form xs
      → (ys : List X) × Pairwise R gs ys × (map unplace ys ≡ map unplace xs)
  each_again [] [] all e = ([], tt, refl)
  each_again [] (g ∷ gs) all e = absurd (cc)
  each_again (x ∷ xs) [] all e = absurd (cc)
  each_again (x ∷ xs) (g ∷ gs) all e =
      let first = one x g (All-head Q x xs all) (cc) in
      let rest = each_again xs gs (All-tail Q x xs all) (cc) in
      (first.0 ∷ rest.0, (first.1, rest.1), cc (first.2, rest.2))

-- related one by one, list behind list
pub pairs_both : {X Y : Type 0} (R : X → Y → Type 0) (xs : List X) (ys : List Y) (front : List X) (more : List Y)
    → Pairwise R xs ys → Pairwise R front more → Pairwise R (xs ++ front) (ys ++ more)
pairs_both R [] [] front more are then = then
pairs_both R [] (y ∷ ys) front more are then = absurd are
pairs_both R (x ∷ xs) [] front more are then = absurd are
pairs_both R (x ∷ xs) (y ∷ ys) front more are then = (are.0, pairs_both R xs ys front more are.1 then)

pub pairs_map : {X Y Z : Type 0} (R : X → Z → Type 0) (make : Y → Z) (xs : List X) (ys : List Y)
    → Pairwise (λ x y. R x (make y)) xs ys → Pairwise R xs (map make ys)
pairs_map R make [] [] are = tt
pairs_map R make [] (y ∷ ys) are = absurd are
pairs_map R make (x ∷ xs) [] are = absurd are
pairs_map R make (x ∷ xs) (y ∷ ys) are = (are.0, pairs_map R make xs ys are.1)
