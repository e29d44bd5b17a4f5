-- The canonical parts of a domain and of a problem are laid out, and have the canonical text and form.
use Rattle.std.proofs.Common.{◌≡◌, ℕ, ◌<◌, List, [], ◌∷◌, ◌++◌, map, refl, sym, ap, ◌∙◌, arith, append_assoc, append-nil, codes}
use Rattle.std.specs.List.{flat_map}
use Rattle.std.proofs.lemmas.List.Elements.{All-nil}
use Rattle.pddl_reader.specs.Forms.{Word, Form, group}
use Rattle.pddl_reader.specs.Values.{PlainSchema, PlainDomain, PlainProblem}
use Rattle.pddl_print.specs.Canonical.{spaced, name_text, typed_text, literal_text, predicate_text, action_text, section_text, requirements, domain_text, problem_text}
use Rattle.pddl_reader.specs.Words.{AllLiteral, AllDomain, AllProblem}
use Rattle.pddl_print.specs.CanonicalForms.{word, name_form, typed_forms, literal_form, condition_form, predicate_form, action_form, section_forms, requirements_form, domain_form, problem_form}
use Rattle.pddl_print.specs.CanonicalParts.{written, typed_parts, literal_parts, predicate_parts, named_parts, sections_parts, requirements_parts, domain_parts, init_parts, goal_parts, problem_parts}
use Rattle.pddl_print.specs.Layouts.{Parts, Last, parts_bytes, parts_forms, parts_depth, IsWritable, AreLaid}
use Rattle.pddl_print.proofs.CanonicalPuts.{NoWordFirst, Puts, keyword, puts_word, puts_blank, puts_brackets, puts_bracket_line, puts_both, puts_within, spaced_apart}
use Rattle.pddl_print.proofs.Required.{all_requirements}
use Rattle.pddl_print.proofs.CanonicalValues.{IsWritableWord, puts_name, puts_literals, puts_condition, nine_right, puts_actions, actions_apart, section_apart, puts_words, puts_typed_section, puts_predicates}

-- the parts, in brackets at the end of a line, are laid out, and have this text and this form
pub record IsCanonical (parts : Parts) (text : List ℕ) (f : Form) : Type 0 where
  pub laid : AreLaid parts
  pub shallow : parts_depth parts < 64
  pub whole : text ≡ 40 ∷ (parts_bytes parts ++ 41 ∷ 10 ∷ [])
  pub form : group 0 (parts_forms parts) ≡ f

canonical : {put : Parts → Parts} {bytes : List ℕ} {forms : List Form} (text : List ℕ) → Puts put bytes forms 4 → 40 ∷ (bytes ++ 41 ∷ 10 ∷ []) ≡ text → IsCanonical (put Last) text (group 0 forms)
canonical {put} {bytes} {forms} text h same =
    let deep = h.deep Last 4 (omega arith) (omega arith) in
    record {
      laid = h.laid Last tt tt;
      shallow = omega arith;
      whole = sym same ∙ ap (λ bs. 40 ∷ (bs ++ 41 ∷ 10 ∷ [])) (sym (h.bytes Last ∙ append-nil bytes));
      form = ap (group 0) (h.spelt Last ∙ append-nil forms);
    }

fixed : (text : List ℕ) → IsWritable text → Puts (written text) text (word text ∷ []) 4
fixed text is = puts_within 4 (omega arith) (puts_word text is)

named : (key : List ℕ) → IsWritable key → (w : Word) → IsWritableWord w
    → Puts (named_parts key w) (40 ∷ ((key ++ 32 ∷ name_text w) ++ 41 ∷ 10 ∷ [])) (group 0 (word key ∷ name_form w ∷ []) ∷ []) 4
named key is w name =
    puts_within 4 (omega arith) (puts_bracket_line (puts_both (puts_word key is) (puts_blank 32 refl (puts_name w name)) (λ behind begins. tt)))

required : (actions : List PlainSchema) → Puts (requirements_parts actions) (section_text (codes ":requirements") (requirements actions)) (requirements_form actions ∷ []) 4
required actions =
    puts_words (codes ":requirements") (keyword (codes ":requirements") (omega arith) refl refl) (requirements actions)
    (all_requirements IsWritable (keyword (codes ":strips") (omega arith) refl refl) (keyword (codes ":typing") (omega arith) refl refl)
    (keyword (codes ":negative-preconditions") (omega arith) refl refl) (keyword (codes ":equality") (omega arith) refl refl) actions)

sections : (d : PlainDomain) → AllDomain IsWritable d
    → Puts (sections_parts d)
    (section_text (codes ":types") (map typed_text d.types) ++ section_text (codes ":constants") (map typed_text d.constants)
    ++ section_text (codes ":predicates") (map predicate_text d.predicates) ++ flat_map action_text d.actions)
    (section_forms (codes ":types") (flat_map typed_forms d.types) ++ section_forms (codes ":constants") (flat_map typed_forms d.constants)
    ++ section_forms (codes ":predicates") (map predicate_form d.predicates) ++ map action_form d.actions) 4
sections d h =
    puts_both
    (puts_both
    (puts_both (puts_typed_section (codes ":types") (keyword (codes ":types") (omega arith) refl refl) d.types h.types)
    (puts_typed_section (codes ":constants") (keyword (codes ":constants") (omega arith) refl refl) d.constants h.constants)
    (section_apart (codes ":constants") typed_parts d.constants))
    (puts_predicates d.predicates h.predicates) (section_apart (codes ":predicates") predicate_parts d.predicates))
    (puts_actions d.actions h.actions) (actions_apart d.actions)

domain_left : (define s1 key s2 name s3 required types constants predicates actions s4 : List ℕ)
    → (((define ++ (s1 ++ ((key ++ (s2 ++ name)) ++ s3))) ++ required) ++ (((types ++ constants) ++ predicates) ++ actions)) ++ s4
    ≡ define ++ (s1 ++ (key ++ (s2 ++ (name ++ (s3 ++ (required ++ (types ++ (constants ++ (predicates ++ (actions ++ s4))))))))))
domain_left define s1 key s2 name s3 required types constants predicates actions s4 = simp append_assoc

domain_bytes : (name required types constants predicates actions : List ℕ)
    → 40 ∷ ((codes "define" ++ 32 ∷ 40 ∷ (codes "domain" ++ 32 ∷ name ++ 41 ∷ 10 ∷ []) ++ required ++ (types ++ constants ++ predicates ++ actions)) ++ 41 ∷ 10 ∷ [])
    ≡ codes "(define (domain " ++ name ++ codes ")\n" ++ required ++ types ++ constants ++ predicates ++ actions ++ codes ")\n"
domain_bytes name required types constants predicates actions =
    ap (λ bytes. 40 ∷ bytes) (domain_left (codes "define") (32 ∷ 40 ∷ []) (codes "domain") (32 ∷ []) name (41 ∷ 10 ∷ []) required types constants predicates actions (41 ∷ 10 ∷ []))
    ∙ sym (nine_right (codes "(define (domain ") name (codes ")\n") required types constants predicates actions (codes ")\n"))

sections_apart : (d : PlainDomain) (behind : Parts) → NoWordFirst behind → NoWordFirst (sections_parts d behind)
sections_apart d behind begins =
    section_apart (codes ":types") typed_parts d.types _
    (section_apart (codes ":constants") typed_parts d.constants _
    (section_apart (codes ":predicates") predicate_parts d.predicates _ (actions_apart d.actions behind begins)))

pub domain_laid : (d : PlainDomain) → AllDomain IsWritable d → IsCanonical (domain_parts d) (domain_text d) (domain_form d)
domain_laid d h =
    canonical (domain_text d)
    (puts_both
    (puts_both
    (puts_both (fixed (codes "define") (keyword (codes "define") (omega arith) refl refl))
    (puts_blank 32 refl (named (codes "domain") (keyword (codes "domain") (omega arith) refl refl) d.name h.name)) (λ behind begins. tt))
    (required d.actions) (λ behind begins. tt))
    (sections d h) (sections_apart d))
    (domain_bytes (name_text d.name) (section_text (codes ":requirements") (requirements d.actions)) (section_text (codes ":types") (map typed_text d.types)) (section_text (codes ":constants") (map typed_text d.constants))
    (section_text (codes ":predicates") (map predicate_text d.predicates)) (flat_map action_text d.actions))

start : (p : PlainProblem) → AllProblem IsWritable p
    → Puts (init_parts p) (40 ∷ ((codes ":init" ++ spaced (map literal_text p.init)) ++ 41 ∷ 10 ∷ [])) (group 0 (word (codes ":init") ∷ map literal_form p.init) ∷ []) 4
start p h =
    puts_within 4 (omega arith)
    (puts_bracket_line
    (puts_both (puts_within 2 (omega arith) (puts_word (codes ":init") (keyword (codes ":init") (omega arith) refl refl))) (puts_literals p.init h.init) (spaced_apart literal_parts p.init)))

-- the goal, which is empty
empty_goal : Puts goal_parts (codes "(:goal (and))") (group 0 (word (codes ":goal") ∷ condition_form [] ∷ []) ∷ []) 4
empty_goal =
    puts_brackets
    (puts_both (puts_within 3 (omega arith) (puts_word (codes ":goal") (keyword (codes ":goal") (omega arith) refl refl)))
    (puts_blank 32 refl (puts_condition [] (All-nil (AllLiteral IsWritable)))) (λ behind begins. tt))

problem_left : (define s1 key s2 name s3 s4 of s5 domain s6 objects s7 first init s8 end s9 : List ℕ)
    → (((define ++ (s1 ++ ((key ++ (s2 ++ name)) ++ s3))) ++ (s4 ++ ((of ++ (s5 ++ domain)) ++ s6))) ++ (objects ++ ((s7 ++ ((first ++ init) ++ s8)) ++ end))) ++ s9
    ≡ define ++ (s1 ++ (key ++ (s2 ++ (name ++ (s3 ++ (s4 ++ (of ++ (s5 ++ (domain ++ (s6 ++ (objects ++ (s7 ++ (first ++ (init ++ (s8 ++ (end ++ s9))))))))))))))))
problem_left define s1 key s2 name s3 s4 of s5 domain s6 objects s7 first init s8 end s9 = simp append_assoc

problem_bytes : (name domain objects init : List ℕ)
    → 40 ∷ ((codes "define" ++ 32 ∷ 40 ∷ (codes "problem" ++ 32 ∷ name ++ 41 ∷ 10 ∷ []) ++ 40 ∷ (codes ":domain" ++ 32 ∷ domain ++ 41 ∷ 10 ∷ []) ++ (objects ++ (40 ∷ (codes ":init" ++ init ++ 41 ∷ 10 ∷ []) ++ codes "(:goal (and))"))) ++ 41 ∷ 10 ∷ [])
    ≡ codes "(define (problem " ++ name ++ codes ")\n(:domain " ++ domain ++ codes ")\n" ++ objects ++ codes "(:init" ++ init ++ codes ")\n(:goal (and)))\n"
problem_bytes name domain objects init =
    ap (λ bytes. 40 ∷ bytes)
    (problem_left (codes "define") (32 ∷ 40 ∷ []) (codes "problem") (32 ∷ []) name (41 ∷ 10 ∷ []) (40 ∷ []) (codes ":domain") (32 ∷ []) domain (41 ∷ 10 ∷ [])
    objects (40 ∷ []) (codes ":init") init (41 ∷ 10 ∷ []) (codes "(:goal (and))") (41 ∷ 10 ∷ []))
    ∙ sym (nine_right (codes "(define (problem ") name (codes ")\n(:domain ") domain (codes ")\n") objects (codes "(:init") init (codes ")\n(:goal (and)))\n"))

pub problem_laid : (p : PlainProblem) → AllProblem IsWritable p → IsCanonical (problem_parts p) (problem_text p) (problem_form p)
problem_laid p h =
    canonical (problem_text p)
    (puts_both
    (puts_both
    (puts_both (fixed (codes "define") (keyword (codes "define") (omega arith) refl refl))
    (puts_blank 32 refl (named (codes "problem") (keyword (codes "problem") (omega arith) refl refl) p.name h.name)) (λ behind begins. tt))
    (named (codes ":domain") (keyword (codes ":domain") (omega arith) refl refl) p.domain h.domain) (λ behind begins. tt))
    (puts_both (puts_typed_section (codes ":objects") (keyword (codes ":objects") (omega arith) refl refl) p.objects h.objects)
    (puts_both (start p h) empty_goal (λ behind begins. tt)) (λ behind begins. tt))
    (λ behind begins. section_apart (codes ":objects") typed_parts p.objects _ tt))
    (problem_bytes (name_text p.name) (name_text p.domain) (section_text (codes ":objects") (map typed_text p.objects)) (spaced (map literal_text p.init)))
