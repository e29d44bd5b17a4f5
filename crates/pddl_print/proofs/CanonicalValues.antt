-- What the canonical parts of each value put before others.
use Rattle.std.proofs.Common.{◌≡◌, ℕ, true, false, List, [], ◌∷◌, ◌++◌, map, refl, sym, ap, ◌∙◌, arith, append_assoc, codes}
use Rattle.std.specs.Prelude.{All, if◌then◌else◌}
use Rattle.std.specs.List.{flat_map}
use Rattle.std.proofs.lemmas.List.{map-id}
use Rattle.std.proofs.lemmas.List.Concat.{flat_map_single}
use Rattle.std.proofs.lemmas.List.Elements.{All-head}
use Rattle.pddl_reader.specs.Forms.{Word, group}
use Rattle.pddl_reader.specs.Values.{PlainTypedName, PlainTerm, PlainLiteral, PlainSchema, PlainPredicate}
use Rattle.pddl_reader.specs.Values.PlainTerm.{Variable, Constant}
use Rattle.pddl_print.specs.Canonical.{spaced, separated, name_text, type_text, typed_text, term_text, atom_text, literal_text, condition_text, predicate_text, action_text, section_text}
use Rattle.pddl_reader.specs.Words.{AllTyped, AllTerm, AllLiteral, AllSchema, AllPredicate}
use Rattle.pddl_print.specs.CanonicalForms.{word, name_form, type_form, typed_forms, term_form, atom_form, literal_form, condition_form, predicate_form, action_form, section_forms}
use Rattle.pddl_print.specs.CanonicalParts.{written, bracketed, space, each_parts, spaced_parts, name_parts, type_parts, typed_parts, term_parts, atom_parts, literal_parts, condition_parts, predicate_parts, schema_parts, action_parts, section_parts}
use Rattle.pddl_print.specs.Layouts.{Parts, Last, IsWritable}
use Rattle.pddl_print.proofs.CanonicalPuts.{Puts, BeginsApart, keyword, puts_word, puts_blank, puts_brackets, puts_bracket_line, puts_both, puts_nothing, puts_text, puts_forms, puts_within, puts_each, puts_spaced, spaced_apart, puts_separated, puts_line}

abbrev pub IsWritableWord : Word → Type 0
IsWritableWord w = IsWritable w.text

pub puts_name : (w : Word) → IsWritableWord w → Puts (name_parts w) (name_text w) (name_form w ∷ []) 0
puts_name w is = puts_word w.text is

puts_names : (words : List Word) → All IsWritableWord words → Puts (spaced_parts name_parts words) (spaced (map name_text words)) (map name_form words) 0
puts_names words all =
    puts_forms (map name_form words) (flat_map_single name_form words) (puts_spaced name_parts name_text (λ w. name_form w ∷ []) 0 IsWritableWord puts_name words all)

puts_either : (words : List Word) → All IsWritableWord words
    → Puts (bracketed (written (codes "either") (spaced_parts name_parts words Last))) (codes "(either" ++ spaced (map name_text words) ++ codes ")") (group 0 (word (codes "either") ∷ map name_form words) ∷ []) 1
puts_either words all =
    puts_brackets (puts_both (puts_word (codes "either") (keyword (codes "either") (omega arith) refl refl)) (puts_names words all) (spaced_apart name_parts words))

puts_type : (types : List Word) → All IsWritableWord types → Puts (type_parts types) (type_text types) (type_form types ∷ []) 1
puts_type [] all = puts_either [] all
puts_type (t ∷ []) all = puts_within 1 (omega arith) (puts_name t (All-head IsWritableWord t [] all))
puts_type (t ∷ u ∷ more) all = puts_either (t ∷ u ∷ more) all

pub puts_typed : (n : PlainTypedName) → AllTyped IsWritable n → Puts (typed_parts n) (typed_text n) (typed_forms n) 1
puts_typed n h =
    puts_text (typed_text n) (sym (append_assoc (name_text n.name) (codes " - ") (type_text n.types)))
    (puts_both (puts_within 1 (omega arith) (puts_name n.name h.name))
    (puts_blank 32 refl (puts_both (puts_within 1 (omega arith) (puts_word (codes "-") (keyword (codes "-") (omega arith) refl refl))) (puts_blank 32 refl (puts_type n.types h.types)) (λ behind begins. tt)))
    (λ behind begins. tt))

puts_term : (t : PlainTerm) → AllTerm IsWritable t → Puts (term_parts t) (term_text t) (term_form t ∷ []) 0
puts_term (Variable w) is = puts_name w is
puts_term (Constant w) is = puts_name w is

puts_atom : (l : PlainLiteral) → AllLiteral IsWritable l → Puts (atom_parts l) (atom_text l) (atom_form l ∷ []) 1
puts_atom l h =
    puts_brackets
    (puts_both (puts_name l.predicate h.predicate)
    (puts_forms (map term_form l.terms) (flat_map_single term_form l.terms) (puts_spaced term_parts term_text (λ t. term_form t ∷ []) 0 (AllTerm IsWritable) puts_term l.terms h.terms))
    (spaced_apart term_parts l.terms))

puts_literal : (l : PlainLiteral) → AllLiteral IsWritable l → Puts (literal_parts l) (literal_text l) (literal_form l ∷ []) 2
puts_literal l h =
    elim l.positive as (λ p.
    Puts (λ behind. if p then atom_parts l behind else bracketed (written (codes "not") (space (atom_parts l Last))) behind)
    (if p then atom_text l else codes "(not " ++ atom_text l ++ codes ")") ((if p then atom_form l else group 0 (word (codes "not") ∷ atom_form l ∷ [])) ∷ []) 2) [
      | true ↦ puts_within 2 (omega arith) (puts_atom l h)
      | false ↦
          puts_brackets
          (puts_both (puts_within 1 (omega arith) (puts_word (codes "not") (keyword (codes "not") (omega arith) refl refl)))
          (puts_blank 32 refl (puts_atom l h)) (λ behind begins. tt))
    ]

pub puts_literals : (ls : List PlainLiteral) → All (AllLiteral IsWritable) ls → Puts (spaced_parts literal_parts ls) (spaced (map literal_text ls)) (map literal_form ls) 2
puts_literals ls all =
    puts_forms (map literal_form ls) (flat_map_single literal_form ls) (puts_spaced literal_parts literal_text (λ l. literal_form l ∷ []) 2 (AllLiteral IsWritable) puts_literal ls all)

-- literals behind a keyword, in brackets
pub puts_condition : (ls : List PlainLiteral) → All (AllLiteral IsWritable) ls → Puts (condition_parts ls) (condition_text ls) (condition_form ls ∷ []) 3
puts_condition ls all =
    puts_brackets
    (puts_both (puts_within 2 (omega arith) (puts_word (codes "and") (keyword (codes "and") (omega arith) refl refl))) (puts_literals ls all) (spaced_apart literal_parts ls))

puts_predicate : (p : PlainPredicate) → AllPredicate IsWritable p → Puts (predicate_parts p) (predicate_text p) (predicate_form p ∷ []) 2
puts_predicate p h =
    puts_brackets
    (puts_both (puts_within 1 (omega arith) (puts_name p.name h.name))
    (puts_spaced typed_parts typed_text typed_forms 1 (AllTyped IsWritable) puts_typed p.parameters h.parameters) (spaced_apart typed_parts p.parameters))

-- the lines of an action, as they are put, from the left to the right
action_left : (key s1 name s2 s3 parameters s4 s5 s6 pre s7 s8 effect s9 : List ℕ)
    → (((((((key ++ (s1 ++ name)) ++ s2) ++ (s3 ++ (parameters ++ s4))) ++ s5) ++ (s6 ++ pre)) ++ s7) ++ (s8 ++ effect)) ++ s9
    ≡ key ++ (s1 ++ (name ++ (s2 ++ (s3 ++ (parameters ++ (s4 ++ (s5 ++ (s6 ++ (pre ++ (s7 ++ (s8 ++ (effect ++ s9))))))))))))
action_left key s1 name s2 s3 parameters s4 s5 s6 pre s7 s8 effect s9 = simp append_assoc

-- nine pieces, from the left to the right
pub nine_right : (a b c d e f g h i : List ℕ) → a ++ b ++ c ++ d ++ e ++ f ++ g ++ h ++ i ≡ a ++ (b ++ (c ++ (d ++ (e ++ (f ++ (g ++ (h ++ i)))))))
nine_right a b c d e f g h i = simp append_assoc

action_bytes : (name parameters pre effect : List ℕ)
    → 40 ∷ ((codes ":action" ++ 32 ∷ name ++ 10 ∷ codes ":parameters" ++ 32 ∷ 40 ∷ (parameters ++ 41 ∷ []) ++ 10 ∷ codes ":precondition" ++ 32 ∷ pre ++ 10 ∷ codes ":effect" ++ 32 ∷ effect) ++ 41 ∷ 10 ∷ [])
    ≡ codes "(:action " ++ name ++ codes "\n:parameters (" ++ parameters ++ codes ")\n:precondition " ++ pre ++ codes "\n:effect " ++ effect ++ codes ")\n"
action_bytes name parameters pre effect =
    ap (λ bytes. 40 ∷ bytes) (action_left (codes ":action") (32 ∷ []) name (10 ∷ codes ":parameters") (32 ∷ 40 ∷ []) parameters (41 ∷ []) (10 ∷ codes ":precondition") (32 ∷ []) pre (10 ∷ codes ":effect") (32 ∷ []) effect (41 ∷ 10 ∷ []))
    ∙ sym (nine_right (codes "(:action ") name (codes "\n:parameters (") parameters (codes ")\n:precondition ") pre (codes "\n:effect ") effect (codes ")\n"))

puts_schema : (a : PlainSchema) → AllSchema IsWritable a
    → Puts (schema_parts a)
    (codes ":action" ++ 32 ∷ name_text a.name ++ 10 ∷ codes ":parameters" ++ 32 ∷ 40 ∷ (separated (map typed_text a.parameters) ++ 41 ∷ [])
    ++ 10 ∷ codes ":precondition" ++ 32 ∷ condition_text a.pre ++ 10 ∷ codes ":effect" ++ 32 ∷ condition_text a.effect)
    (word (codes ":action") ∷ name_form a.name ∷ word (codes ":parameters") ∷ group 0 (flat_map typed_forms a.parameters)
    ∷ word (codes ":precondition") ∷ condition_form a.pre ∷ word (codes ":effect") ∷ condition_form a.effect ∷ []) 3
puts_schema a h =
    puts_both
    (puts_both
    (puts_both
    (puts_both
    (puts_both
    (puts_both
    (puts_both (fixed (codes ":action") (keyword (codes ":action") (omega arith) refl refl)) (puts_blank 32 refl (puts_within 3 (omega arith) (puts_name a.name h.name))) (λ behind begins. tt))
    (puts_blank 10 refl (fixed (codes ":parameters") (keyword (codes ":parameters") (omega arith) refl refl))) (λ behind begins. tt))
    (puts_blank 32 refl (puts_within 3 (omega arith) (puts_brackets (puts_separated typed_parts typed_text typed_forms 1 (AllTyped IsWritable) puts_typed a.parameters h.parameters)))) (λ behind begins. tt))
    (puts_blank 10 refl (fixed (codes ":precondition") (keyword (codes ":precondition") (omega arith) refl refl))) (λ behind begins. tt))
    (puts_blank 32 refl (puts_condition a.pre h.pre)) (λ behind begins. tt))
    (puts_blank 10 refl (fixed (codes ":effect") (keyword (codes ":effect") (omega arith) refl refl))) (λ behind begins. tt))
    (puts_blank 32 refl (puts_condition a.effect h.effect)) (λ behind begins. tt)
  where
    fixed : (text : List ℕ) → IsWritable text → Puts (written text) text (word text ∷ []) 3
    fixed text is = puts_within 3 (omega arith) (puts_word text is)

puts_action : (a : PlainSchema) → AllSchema IsWritable a → Puts (action_parts a) (action_text a) (action_form a ∷ []) 4
puts_action a h =
    puts_text (action_text a) (action_bytes (name_text a.name) (separated (map typed_text a.parameters)) (condition_text a.pre) (condition_text a.effect))
    (puts_bracket_line (puts_schema a h))

pub puts_actions : (actions : List PlainSchema) → All (AllSchema IsWritable) actions
    → Puts (each_parts action_parts actions) (flat_map action_text actions) (map action_form actions) 4
puts_actions actions all =
    puts_forms (map action_form actions) (flat_map_single action_form actions)
    (puts_each action_parts action_text (λ a. action_form a ∷ []) 4 (AllSchema IsWritable) puts_action (λ a behind begins. tt) actions all)

pub actions_apart : (actions : List PlainSchema) → BeginsApart (each_parts action_parts actions)
actions_apart [] behind begins = begins
actions_apart (a ∷ actions) behind begins = tt

pub section_apart : {X : Type 0} (key : List ℕ) (put : X → Parts → Parts) (items : List X) → BeginsApart (section_parts key put items)
section_apart key put [] behind begins = begins
section_apart key put (item ∷ items) behind begins = tt

pub puts_words : (key : List ℕ) → IsWritable key → (texts : List (List ℕ)) → All IsWritable texts
    → Puts (section_parts key written texts) (section_text key texts) (section_forms key (map word texts)) 4
puts_words key is [] all = puts_nothing 4
puts_words key is (t ∷ texts) all =
    puts_within 4 (omega arith)
    (puts_forms (section_forms key (map word (t ∷ texts))) (ap (λ fs. group 0 (word key ∷ fs) ∷ []) (flat_map_single word (t ∷ texts)))
    (puts_text (section_text key (t ∷ texts)) (ap (section_text key) (map-id (t ∷ texts)))
    (puts_line written (λ text. text) (λ text. word text ∷ []) 0 IsWritable puts_word key is t texts all)))

pub puts_typed_section : (key : List ℕ) → IsWritable key → (names : List PlainTypedName) → All (AllTyped IsWritable) names
    → Puts (section_parts key typed_parts names) (section_text key (map typed_text names)) (section_forms key (flat_map typed_forms names)) 4
puts_typed_section key is [] all = puts_nothing 4
puts_typed_section key is (n ∷ names) all = puts_within 4 (omega arith) (puts_line typed_parts typed_text typed_forms 1 (AllTyped IsWritable) puts_typed key is n names all)

pub puts_predicates : (predicates : List PlainPredicate) → All (AllPredicate IsWritable) predicates
    → Puts (section_parts (codes ":predicates") predicate_parts predicates) (section_text (codes ":predicates") (map predicate_text predicates)) (section_forms (codes ":predicates") (map predicate_form predicates)) 4
puts_predicates [] all = puts_nothing 4
puts_predicates (p ∷ predicates) all =
    puts_within 4 (omega arith)
    (puts_forms (section_forms (codes ":predicates") (map predicate_form (p ∷ predicates)))
    (ap (λ fs. group 0 (word (codes ":predicates") ∷ fs) ∷ []) (flat_map_single predicate_form (p ∷ predicates)))
    (puts_line predicate_parts predicate_text (λ q. predicate_form q ∷ []) 2 (AllPredicate IsWritable) puts_predicate (codes ":predicates") (keyword (codes ":predicates") (omega arith) refl refl) p predicates all))
