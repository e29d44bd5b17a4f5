-- A text spells at most one domain and at most one problem.
use Rattle.std.proofs.Common.{◌≡◌, ℕ, List, [], ◌∷◌, length, refl, sym, ap, ap₂, ◌∙◌, subst, arith, length-append}
use Rattle.std.specs.List.{flat_map}
use Rattle.pddl_lexer.specs.declared.token.Token.{Token}
use Rattle.pddl_lexer.specs.Pieces.{Piece, bytes_of, IsCut}
use Rattle.pddl_lexer.specs.Tokens.{AreTokens, tokens_from}
use Rattle.pddl_lexer.specs.Trees.{IsTreeOf}
use Rattle.pddl_lexer.proofs.Cuts.{one_piece, bytes_nonempty, first_piece, rest_of_cut}
use Rattle.pddl_reader.specs.Forms.{Form, Leaf, group}
use Rattle.pddl_reader.specs.Values.{PlainDomain, PlainProblem}
use Rattle.pddl_reader.specs.Spelling.{IsDomain, IsProblem, IsFormOf, IsDomainText, IsProblemText}
use Rattle.pddl_reader.proofs.OneForm.{same_form}
use Rattle.pddl_reader.proofs.DocumentLaws.{domain_reads, problem_reads}

-- an empty text has no piece
no_piece : (p : Piece) (pieces : List Piece) → IsCut [] (p ∷ pieces) → ⊥
no_piece p pieces h = omega (arith, bytes_nonempty p h.each.0, ap length h.covers, length-append (bytes_of p) (flat_map bytes_of pieces))

-- a text has one cut
one_cut : (ps qs : List Piece) (text : List ℕ) → IsCut text ps → IsCut text qs → ps ≡ qs
one_cut [] [] text h k = refl
one_cut [] (q ∷ qs) text h k = absurd (no_piece q qs (subst (λ s. IsCut s (q ∷ qs)) (sym h.covers) k))
one_cut (p ∷ ps) [] text h k = absurd (no_piece p ps (subst (λ s. IsCut s (p ∷ ps)) (sym k.covers) h))
one_cut (p ∷ ps) (q ∷ qs) [] h k = absurd (no_piece p ps h)
one_cut (p ∷ ps) (q ∷ qs) (b ∷ bytes) h k =
    let same = one_piece b bytes p q (flat_map bytes_of ps) (flat_map bytes_of qs) (first_piece (b ∷ bytes) p ps h) (first_piece (b ∷ bytes) q qs k) in
    ap₂ (λ x xs. x ∷ xs) same.0
    (one_cut ps qs (flat_map bytes_of ps) (rest_of_cut (b ∷ bytes) p ps h) (subst (λ s. IsCut s qs) (sym same.1) (rest_of_cut (b ∷ bytes) q qs k)))

one_tokens : (text : List ℕ) (tokens others : List Token) → AreTokens text tokens → AreTokens text others → tokens ≡ others
one_tokens text tokens others h k = sym h.give ∙ ap (tokens_from 0) (one_cut h.pieces k.pieces text h.cut k.cut) ∙ k.give

one_form : (text : List ℕ) (f g : Form) → IsFormOf text f → IsFormOf text g → f ≡ g
one_form text f g h k =
    let here = subst (λ tokens. IsTreeOf tokens h.tree) (one_tokens text h.tokens k.tokens h.are_tokens k.are_tokens) h.is_tree in
    h.form ∙ same_form text k.tokens h.tree k.tree here k.is_tree ∙ sym k.form

domain_of_form : (f : Form) (d e : PlainDomain) → IsDomain f d → IsDomain f e → d ≡ e
domain_of_form f d e h k =
    let whole = h.document.whole in
    let forms = Leaf h.document.define ∷ group h.document.head_at (Leaf h.document.head ∷ Leaf d.name ∷ []) ∷ h.document.forms in
    let one = domain_reads h.document.at forms d (subst (λ g. IsDomain g d) whole h) in
    let other = domain_reads h.document.at forms e (subst (λ g. IsDomain g e) whole k) in
    cc (sym one ∙ other)

problem_of_form : (f : Form) (p q : PlainProblem) → IsProblem f p → IsProblem f q → p ≡ q
problem_of_form f p q h k =
    let whole = h.document.whole in
    let forms = Leaf h.document.define ∷ group h.document.head_at (Leaf h.document.head ∷ Leaf p.name ∷ []) ∷ h.document.forms in
    let one = problem_reads h.document.at forms p (subst (λ g. IsProblem g p) whole h) in
    let other = problem_reads h.document.at forms q (subst (λ g. IsProblem g q) whole k) in
    cc (sym one ∙ other)

pub one_domain : (text : List ℕ) (d e : PlainDomain) → IsDomainText text d → IsDomainText text e → d ≡ e
one_domain text d e h k =
    domain_of_form h.form d e h.is_domain (subst (λ f. IsDomain f e) (one_form text k.form h.form k.is_form h.is_form) k.is_domain)

pub one_problem : (text : List ℕ) (p q : PlainProblem) → IsProblemText text p → IsProblemText text q → p ≡ q
one_problem text p q h k =
    problem_of_form h.form p q h.is_problem (subst (λ f. IsProblem f q) (one_form text k.form h.form k.is_form h.is_form) k.is_problem)
