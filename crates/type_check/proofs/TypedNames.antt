-- The names of a typed domain and problem are those of its files: each is a name in lower case, and no
-- longer than a file may be.
use Rattle.std.proofs.Common.{◌≡◌, ℕ, ◌-◌, ◌≤◌, ◌^◌, List, [], ◌∷◌, length, map, take, drop, refl, sym, subst, arith, codes, length-drop}
use mathlib.Core.Path.{ap₂}
use Rattle.std.specs.Prelude.{IsTrue}
use Rattle.std.specs.List.{All}
use Rattle.std.specs.Char.{to_ascii_lowercase}
use Rattle.std.specs.Str.{str_to_ascii_lowercase}
use Rattle.std.proofs.lemmas.List.{length-map, length-take}
use Rattle.std.proofs.lemmas.List.Elements.{All-append, All-map, All-weaker}
use Rattle.std.proofs.lemmas.Str.Ascii.{lowercase-lowercase}
use Rattle.pddl_lexer.specs.declared.token.Token.{Token}
use Rattle.pddl_lexer.specs.declared.trees.Item.{Item}
use Rattle.pddl_lexer.specs.declared.trees.TreeList.{TreeList}
use Rattle.pddl_lexer.specs.declared.trees.Item.TheOpen.{Item-F, TreeList-F}
use Rattle.pddl_lexer.specs.declared.trees.Item.TheFolds.{map-Item, fold-roll-Item, fold-roll-TreeList, ind-TreeList}
use Rattle.pddl_reader.specs.Kinds.{Names}
use Rattle.pddl_reader.specs.Classes.{is_name}
use Rattle.pddl_reader.specs.Forms.{Form, group, forms_of, word_of, form_of_item, form_of_list, form_at, form_of}
use Rattle.pddl_reader.specs.Items.{forms_at}
use Rattle.pddl_reader.specs.Spelling.{IsFormOf}
use Rattle.pddl_reader.specs.Values.{PlainTypedName, PlainDomain, PlainProblem}
use Rattle.pddl_reader.specs.Words.{AllWords, AllWordsOf}
use Rattle.pddl_reader.proofs.NamesOfValues.{SoundTyped, SoundSchema, SoundPredicate, SoundDomain, SoundProblem}
use Rattle.pddl_reader.proofs.NamesOf.{domain_sound, problem_sound}
use Rattle.type_check.specs.Rules.{all_objects}
use Rattle.type_check.specs.Values.{PlainTypedObject, PlainTypedPredicate, PlainTypedSchema, PlainTyped}
use Rattle.type_check.specs.Typing.{typed_object, IsShortDomain, IsShortProblem, IsTypedPredicate, IsTypedSchema, IsTypedTask}
use Rattle.type_check.proofs.Pairs.{pairs_give}

-- in lower case, and no longer than a file may be
pub record IsFileWord (text : List ℕ) : Type 0 where
  pub short : length text ≤ 2 ^ 20
  pub lower : str_to_ascii_lowercase text ≡ text

pub record IsFileName (text : List ℕ) : Type 0 where
  pub is : IsTrue (is_name text)
  pub word : IsFileWord text

-- ---- the words of a text

lower_again : (bytes : List ℕ) → str_to_ascii_lowercase (str_to_ascii_lowercase bytes) ≡ str_to_ascii_lowercase bytes
lower_again [] = refl
lower_again (b ∷ bytes) = ap₂ ◌∷◌ (lowercase-lowercase b) (lower_again bytes)

file_word : (text : List ℕ) (t : Token) → length text ≤ 2 ^ 20 → IsFileWord (word_of text t).text
file_word text t few =
    let size = t.to - t.from in
    let behind = drop t.from text in
    record {
      short = omega (arith, length-map (take size behind) to_ascii_lowercase, length-take size behind, length-drop t.from text);
      lower = lower_again (take size behind);
    }

module _ (text : List ℕ) (few : length text ≤ 2 ^ 20) where
  abbrev IsItemOfWords : Item → Type 0
  IsItemOfWords i = AllWords IsFileWord (form_at text i)

  abbrev IsListOfWords : TreeList → Type 0
  IsListOfWords l = AllWords IsFileWord (form_of text l)

  items_words : (items : List ((i : Item) × IsItemOfWords i)) → AllWordsOf IsFileWord (forms_of (forms_at text (map (λ e. e.0) items)))
  items_words [] = tt
  items_words (e ∷ items) = (e.1, items_words items)

  abbrev IsItemLayer : Item-F Item TreeList → Type 0
  IsItemLayer i = AllWords IsFileWord (form_of_item text (map-Item Item TreeList Form Form (form_at text) (form_of text) i))

  abbrev IsListLayer : TreeList-F Item TreeList → Type 0
  IsListLayer l = AllWords IsFileWord (group l.at (forms_at text l.items.items))

  item_layer : (y : Item-F ((i : Item) × IsItemOfWords i) ((l : TreeList) × IsListOfWords l))
      → IsItemLayer (map-Item ((i : Item) × IsItemOfWords i) ((l : TreeList) × IsListOfWords l) Item TreeList (λ e. e.0) (λ e. e.0) y)
  item_layer (Item-F.Word t) = file_word text t few
  item_layer (Item-F.List e) = e.1

  tree_words : (l : TreeList) → IsListOfWords l
  tree_words = ind-TreeList IsItemOfWords IsListOfWords
      (λ x y is.
      subst (AllWords IsFileWord) (sym (fold-roll-Item Form Form (form_of_item text) form_of_list x)) (subst IsItemLayer is (item_layer y)))
      (λ x y is.
      subst (AllWords IsFileWord) (sym (fold-roll-TreeList Form Form (form_of_item text) form_of_list x)) (subst IsListLayer is (items_words y.items.items)))

  file_words : (f : Form) → IsFormOf text f → AllWords IsFileWord f
  file_words f is = subst (AllWords IsFileWord) (sym is.form) (tree_words is.tree)

-- ---- the names of a domain and a problem

object_word : IsFileWord (codes "object")
object_word = record { short = omega arith; lower = refl }

pub domain_names : (d : PlainDomain) → IsShortDomain d → SoundDomain IsFileWord d
domain_names d is = domain_sound IsFileWord is.spells.form d object_word is.spells.is_domain (file_words is.text is.short is.spells.form is.spells.is_form)

pub problem_names : (p : PlainProblem) → IsShortProblem p → SoundProblem IsFileWord p
problem_names p is = problem_sound IsFileWord is.spells.form p object_word is.spells.is_problem (file_words is.text is.short is.spells.form is.spells.is_form)

-- ---- the names of what they make

module _ (t : PlainTyped) (task : IsTypedTask t) where
  abbrev d : PlainDomain
  d = task.domain

  abbrev p : PlainProblem
  p = task.problem

  pub objects_sound : All (SoundTyped IsFileWord Names) (all_objects d p)
  objects_sound = All-append (SoundTyped IsFileWord Names) d.constants p.objects (domain_names d task.is_domain).constants (problem_names p task.is_problem).objects

  pub predicates_named : All (λ (q : PlainTypedPredicate). IsFileName q.name.text) t.predicates
  predicates_named =
      pairs_give (IsTypedPredicate d p) (SoundPredicate IsFileWord) (λ (q : PlainTypedPredicate). IsFileName q.name.text)
      (λ q u is h. subst (λ w. IsFileName w.text) (sym is.name) (record { is = h.name; word = h.named })) d.predicates t.predicates task.made.predicates (domain_names d task.is_domain).predicates

  pub schemas_named : All (λ (s : PlainTypedSchema). IsFileName s.name.text) t.schemas
  schemas_named =
      pairs_give (IsTypedSchema d p) (SoundSchema IsFileWord) (λ (s : PlainTypedSchema). IsFileName s.name.text)
      (λ a s is h. subst (λ w. IsFileName w.text) (sym is.name) (record { is = h.name; word = h.named })) d.actions t.schemas task.made.schemas (domain_names d task.is_domain).actions

  pub objects_named : All (λ (o : PlainTypedObject). IsFileName o.name.text) t.objects
  objects_named =
      subst (All (λ (o : PlainTypedObject). IsFileName o.name.text)) (sym task.made.objects)
      (All-map (λ (o : PlainTypedObject). IsFileName o.name.text) (typed_object d) (all_objects d p)
      (All-weaker (SoundTyped IsFileWord Names) (λ (n : PlainTypedName). IsFileName n.name.text) (λ n is. record { is = is.name; word = is.named.name }) (all_objects d p) objects_sound))
