-- The children of a branch, as they are gone through.
use Rattle.std.proofs.Common.{◌≡◌, ℕ, ◌+◌, ◌<◌, ◌≤◌, List, [], ◌∷◌, length, map, take, drop, get_or, refl, sym, subst, inl, inr, arith, Option, Some, None}
use Rattle.std.specs.Prelude.{IfSome, IfNone}
use Rattle.std.proofs.lemmas.Bool.{cases_lt}
use Rattle.std.proofs.lemmas.List.{drop_more, drop_all, take_more}
use Rattle.grd_base.specs.declared.ids.ActionId.{ActionId}
use Rattle.strips_model.specs.Values.{PlainTask}
use Rattle.cost_certificate.specs.declared.kinds.CheckKind.{CheckKind}
use Rattle.cost_certificate.specs.declared.kinds.CheckKind.TheVariants.{BadLine}
use Rattle.design_certificate.specs.Trees.{PlainNamed, PlainNodes, with_id, IsValidNode, AreValidChildren}
use Rattle.design_certificate.specs.declared.node.Node.{Node}
use Rattle.design_certificate.specs.Nodes.{plain_node, children_of}
use Rattle.design_certificate.specs.Ranges.{AreNodesOver, IsNodeOver}
use Rattle.design_certificate.specs.TreeFaults.{FailsNode, FailsChildren}

-- the plain children
abbrev pub plain_children : List Node → PlainNodes
plain_children ns = children_of (map plain_node ns)

module _ (t : PlainTask) (costs : List (Option ℕ)) (named : List PlainNamed) (m len : ℕ) (removed seen : List ActionId) where
  -- what is asked of some children, the choices being the actions from the place on
  abbrev pub AreValidFrom : ℕ → List Node → Type 0
  AreValidFrom at ns = AreValidChildren t costs named m len removed (take at seen) (drop at seen) (plain_children ns)

  abbrev pub FailFrom : CheckKind → ℕ → List Node → Type 0
  FailFrom kind at ns = FailsChildren t costs named m len kind removed (take at seen) (drop at seen) (plain_children ns)

  -- those so far are valid: what the rest tells is told of all
  pub record AreGoing (from : ℕ) (all : List Node) (at : ℕ) (rest : List Node) : Type 0 where
    pub low : at ≤ length seen
    pub over : AreNodesOver t (plain_children rest)
    pub valid : AreValidFrom at rest → AreValidFrom from all
    pub fails : (kind : CheckKind) → FailFrom kind at rest → FailFrom kind from all

  module _ (from : ℕ) (all : List Node) (at i : ℕ) (a : ActionId) (going : AreGoing from all at (drop i all)) where
    -- a child for which there is no choice
    pub one_too_many : (d : Node) → i < length all → at ≡ length seen → FailFrom BadLine from all
    one_too_many d within full =
        going.fails BadLine
        (subst (λ ns. FailFrom BadLine at ns) (sym (drop_more all i d within))
        (subst (λ xs. FailsChildren t costs named m len BadLine removed (take at seen) xs (plain_children (get_or all i d ∷ drop (i + 1) all))) (sym (drop_all at seen (omega (arith, full)))) refl))

    -- a choice for which there is no child
    pub one_too_few : length all ≤ i → at < length seen → FailFrom BadLine from all
    one_too_few past more =
        going.fails BadLine
        (subst (λ ns. FailFrom BadLine at ns) (sym (drop_all i all past))
        (subst (λ xs. FailsChildren t costs named m len BadLine removed (take at seen) xs (plain_children [])) (sym (drop_more seen at a more)) refl))

    -- as many children as choices
    pub all_valid : length all ≤ i → at ≡ length seen → AreValidFrom from all
    all_valid past full =
        going.valid
        (subst (λ ns. AreValidFrom at ns) (sym (drop_all i all past))
        (subst (λ xs. AreValidChildren t costs named m len removed (take at seen) xs (plain_children [])) (sym (drop_all at seen (omega (arith, full)))) tt))

    module _ (d : Node) (within : i < length all) (more : at < length seen) where
      -- the next child over the task
      pub child_over : IsNodeOver t (plain_node (get_or all i d))
      child_over = (subst (λ ns. AreNodesOver t (plain_children ns)) (drop_more all i d within) going.over).0

      -- a child that fails
      pub child_fails : (kind : CheckKind) → FailsNode t costs named m len kind (with_id removed (get_or seen at a)) (take at seen) (plain_node (get_or all i d)) → FailFrom kind from all
      child_fails kind fails =
          going.fails kind
          (subst (λ ns. FailFrom kind at ns) (sym (drop_more all i d within))
          (subst (λ xs. FailsChildren t costs named m len kind removed (take at seen) xs (plain_children (get_or all i d ∷ drop (i + 1) all))) (sym (drop_more seen at a more)) (inl fails)))

      -- a valid child
      pub child_valid : IsValidNode t costs named m len (with_id removed (get_or seen at a)) (take at seen) (plain_node (get_or all i d)) → AreGoing from all (at + 1) (drop (i + 1) all)
      child_valid valid = record {
        low = omega (arith, more);
        over = (subst (λ ns. AreNodesOver t (plain_children ns)) (drop_more all i d within) going.over).1;
        valid = λ rest.
            going.valid
            (subst (λ ns. AreValidFrom at ns) (sym (drop_more all i d within))
            (subst (λ xs. AreValidChildren t costs named m len removed (take at seen) xs (plain_children (get_or all i d ∷ drop (i + 1) all))) (sym (drop_more seen at a more))
            (valid, subst (λ kept. AreValidChildren t costs named m len removed kept (drop (at + 1) seen) (plain_children (drop (i + 1) all))) (take_more seen at a more) rest)));
        fails = λ kind rest.
            going.fails kind
            (subst (λ ns. FailFrom kind at ns) (sym (drop_more all i d within))
            (subst (λ xs. FailsChildren t costs named m len kind removed (take at seen) xs (plain_children (get_or all i d ∷ drop (i + 1) all))) (sym (drop_more seen at a more))
            (inr (valid, subst (λ kept. FailsChildren t costs named m len kind removed kept (drop (at + 1) seen) (plain_children (drop (i + 1) all))) (take_more seen at a more) rest))));
      }

-- what is told of an answer is told of what it holds
pub some_told : {X : Type 0} (P : X → Type 0) (o : Option X) (x : X) → o ≡ Some x → IfSome o P → P x
some_told P o x is told = subst (λ p. IfSome p P) is told

pub none_told : {X : Type 0} (P : Type 0) (o : Option X) → o ≡ None → IfNone o P → P
none_told {X} P o is told = subst (λ (p : Option X). IfNone p P) is told

module _ (t : PlainTask) (costs : List (Option ℕ)) (named : List PlainNamed) (m len : ℕ) (removed seen : List ActionId) (from : ℕ) (all : List Node) (at i : ℕ) (child : Node) (a : ActionId)
    (going : AreGoing t costs named m len removed seen from all at (drop i all)) (within : i < length all) (more : at ≡ length seen → ⊥)
    (is : child ≡ get_or all i child) (more_removed : List ActionId) (with_it : more_removed ≡ with_id removed (get_or seen at a)) where
  left : at < length seen
  left = elim (cases_lt at (length seen)) [ inl low ↦ low | inr past ↦ absurd (more (omega (arith, past, going.low))) ]

  pub node_over : IsNodeOver t (plain_node child)
  node_over = subst (λ n. IsNodeOver t (plain_node n)) (sym is) (child_over t costs named m len removed seen from all at i a going child within left)

  pub node_fails : (kind : CheckKind) → FailsNode t costs named m len kind more_removed (take at seen) (plain_node child) → FailFrom t costs named m len removed seen kind from all
  node_fails kind fails =
      child_fails t costs named m len removed seen from all at i a going child within left kind
      (subst (λ r. FailsNode t costs named m len kind r (take at seen) (plain_node (get_or all i child))) with_it
      (subst (λ n. FailsNode t costs named m len kind more_removed (take at seen) (plain_node n)) is fails))

  pub node_valid : IsValidNode t costs named m len more_removed (take at seen) (plain_node child) → AreGoing t costs named m len removed seen from all (at + 1) (drop (i + 1) all)
  node_valid valid =
      child_valid t costs named m len removed seen from all at i a going child within left
      (subst (λ r. IsValidNode t costs named m len r (take at seen) (plain_node (get_or all i child))) with_it
      (subst (λ n. IsValidNode t costs named m len more_removed (take at seen) (plain_node n)) is valid))
