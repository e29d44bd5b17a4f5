-- What is passed where a domain and a problem are well typed, part by part.
use Rattle.std.proofs.Common.{List, [], ◌∷◌, ◌++◌}
use Rattle.std.specs.List.{All, flat_map}
use Rattle.std.proofs.lemmas.List.Elements.{All-nil, All-cons, All-head, All-tail}
use Rattle.grd_base.specs.declared.roles.FileRole.TheVariants.{Domain, Problem}
use Rattle.pddl_reader.specs.Values.{PlainDomain, PlainProblem}
use Rattle.type_check.specs.Types.{names_of, entries}
use Rattle.type_check.specs.Checks.{Check, Passes}
use Rattle.type_check.specs.Rules.{checks_behind, checks_of_each, type_checks, names_checks, predicate_checks, action_checks, literal_checks, domain_checks, all_objects, count_checks, is_for_domain, problem_checks, checks_of, IsWellTyped}

-- ---- what holds of all elements of two lists

pub all_left : {X : Type 0} (P : X → Type 0) (xs ys : List X) → All P (xs ++ ys) → All P xs
all_left P [] ys h = All-nil P
all_left P (x ∷ xs) ys h = All-cons P x xs (All-head P x (xs ++ ys) h) (all_left P xs ys (All-tail P x (xs ++ ys) h))

pub all_right : {X : Type 0} (P : X → Type 0) (xs ys : List X) → All P (xs ++ ys) → All P ys
all_right P [] ys h = h
all_right P (x ∷ xs) ys h = all_right P xs ys (All-tail P x (xs ++ ys) h)

pub holds_between : {X : Type 0} (P : X → Type 0) (before behind : List X) (x : X) → All P (before ++ x ∷ behind) → P x
holds_between P before behind x h = All-head P x behind (all_right P before (x ∷ behind) h)

-- ---- what the checks of each item tell of it

pub each_tells : {X : Type 0} (d : PlainDomain) (checks : List X → X → List Check) (P : X → Type 0)
    → ((before : List X) (x : X) → All (Passes d) (checks before x) → P x)
    → (before xs : List X) → All (Passes d) (checks_behind checks before xs) → All P xs
each_tells d checks P tells before [] h = All-nil P
each_tells d checks P tells before (x ∷ xs) h =
    let behind = checks_behind checks (before ++ x ∷ []) xs in
    All-cons P x xs (tells before x (all_left (Passes d) (checks before x) behind h))
    (each_tells d checks P tells (before ++ x ∷ []) xs (all_right (Passes d) (checks before x) behind h))

pub all_flat : {X Y : Type 0} (P : Y → Type 0) (f : X → List Y) (xs : List X) → All P (flat_map f xs) → All (λ x. All P (f x)) xs
all_flat P f [] h = All-nil (λ x. All P (f x))
all_flat P f (x ∷ xs) h =
    All-cons (λ x. All P (f x)) x xs (all_left P (f x) (flat_map f xs) h) (all_flat P f xs (all_right P (f x) (flat_map f xs) h))

-- ---- the parts

module _ (d : PlainDomain) (p : PlainProblem) (well : IsWellTyped d p) where
  abbrev types : List Check
  types = checks_of_each type_checks (entries d)

  abbrev constants : List Check
  constants = names_checks Domain d [] d.constants

  abbrev predicates : List Check
  predicates = checks_of_each (predicate_checks d) d.predicates

  abbrev actions : List Check
  actions = checks_of_each (action_checks d) d.actions

  domain_pass : All (Passes d) (types ++ constants ++ predicates ++ actions)
  unfolding checks_of domain_checks
  domain_pass = all_left (Passes d) (domain_checks d) (problem_checks d p) well

  pub constants_pass : All (Passes d) (names_checks Domain d [] d.constants)
  constants_pass =
      all_right (Passes d) types constants
      (all_left (Passes d) (types ++ constants) predicates (all_left (Passes d) (types ++ constants ++ predicates) actions domain_pass))

  pub predicates_pass : All (Passes d) (checks_of_each (predicate_checks d) d.predicates)
  predicates_pass = all_right (Passes d) (types ++ constants) predicates (all_left (Passes d) (types ++ constants ++ predicates) actions domain_pass)

  pub actions_pass : All (Passes d) (checks_of_each (action_checks d) d.actions)
  actions_pass = all_right (Passes d) (types ++ constants ++ predicates) actions domain_pass

  abbrev objects : List Check
  objects = names_checks Problem d (names_of d.constants) p.objects

  abbrev atoms : List Check
  atoms = flat_map (literal_checks Problem d [] (all_objects d p)) p.init

  problem_pass : All (Passes d) (objects ++ count_checks d p ++ atoms)
  unfolding checks_of problem_checks
  problem_pass = All-tail (Passes d) (is_for_domain d p) (objects ++ count_checks d p ++ atoms) (all_right (Passes d) (domain_checks d) (problem_checks d p) well)

  pub objects_pass : All (Passes d) (names_checks Problem d (names_of d.constants) p.objects)
  objects_pass = all_left (Passes d) objects (count_checks d p) (all_left (Passes d) (objects ++ count_checks d p) atoms problem_pass)

  pub counts_pass : All (Passes d) (count_checks d p)
  counts_pass = all_right (Passes d) objects (count_checks d p) (all_left (Passes d) (objects ++ count_checks d p) atoms problem_pass)

  pub init_pass : All (λ l. All (Passes d) (literal_checks Problem d [] (all_objects d p) l)) p.init
  init_pass = all_flat (Passes d) (literal_checks Problem d [] (all_objects d p)) p.init (all_right (Passes d) (objects ++ count_checks d p) atoms problem_pass)
