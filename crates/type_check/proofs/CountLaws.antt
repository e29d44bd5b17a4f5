-- How many constants and objects there may be, and which is the first that is too many.
use Rattle.std.proofs.Common.{◌≡◌, ℕ, suc, ◌+◌, ◌-◌, ◌<◌, ◌≤◌, List, [], ◌∷◌, ◌++◌, length, map, get_or, drop, refl, sym, ap, ◌∙◌, subst, arith, length-append}
use mathlib.Core.Path.{ap₂}
use Rattle.std.specs.Prelude.{All}
use Rattle.std.proofs.lemmas.List.{drop_more, drop_all, get_or_append_left, get_or-append_right, get_or-map}
use Rattle.std.proofs.lemmas.List.Elements.{All-nil}
use Rattle.grd_base.specs.declared.roles.FileRole.{FileRole}
use Rattle.grd_base.specs.declared.roles.FileRole.TheVariants.{Domain, Problem}
use Rattle.pddl_reader.specs.Values.{PlainTypedName, PlainDomain}
use Rattle.type_check.specs.declared.faults.CheckTypeFault.TheVariants.{Typing}
use Rattle.type_check.specs.declared.faults.TypeKind.TheVariants.{TooManyObjects}
use Rattle.type_check.specs.Checks.{Check, AtMost, Passes, fault_at}
use Rattle.type_check.specs.Tables.{HasFault}
use Rattle.type_check.proofs.FirstFaults.{fault_here}

abbrev pub count_check : ℕ → ℕ → FileRole × PlainTypedName → Check
count_check total limit o = record { need = AtMost total limit; fault = fault_at TooManyObjects o.0 o.1.name.at }

module _ (d : PlainDomain) (total limit : ℕ) (files : List (FileRole × PlainTypedName)) (many : total ≡ length files) where
  pub too_many : (o : FileRole × PlainTypedName) → limit < length files → get_or files limit o ≡ o
      → HasFault d (map (count_check total limit) (drop limit files)) (Typing (fault_at TooManyObjects o.0 o.1.name.at))
  too_many o within is =
      subst (λ rest. HasFault d (map (count_check total limit) rest) (Typing (fault_at TooManyObjects o.0 o.1.name.at)))
      (sym (drop_more files limit o within ∙ ap (λ x. x ∷ drop (limit + 1) files) is))
      (fault_here d (count_check total limit o) (map (count_check total limit) (drop (limit + 1) files)) (λ few. omega arith))

  pub not_too_many : length files ≤ limit → All (Passes d) (map (count_check total limit) (drop limit files))
  not_too_many few =
      subst (λ rest. All (Passes d) (map (count_check total limit) rest)) (sym (drop_all limit files few)) (All-nil (Passes d))

abbrev in_domain : List PlainTypedName → List (FileRole × PlainTypedName)
in_domain names = map (λ n. (Domain, n)) names

abbrev in_problem : List PlainTypedName → List (FileRole × PlainTypedName)
in_problem names = map (λ n. (Problem, n)) names

in_domain-long : (names : List PlainTypedName) → length (in_domain names) ≡ length names
in_domain-long [] = refl
in_domain-long (n ∷ names) = ap suc (in_domain-long names)

in_problem-long : (names : List PlainTypedName) → length (in_problem names) ≡ length names
in_problem-long [] = refl
in_problem-long (n ∷ names) = ap suc (in_problem-long names)

module _ (constants objects : List PlainTypedName) where
  abbrev pub with_files : List (FileRole × PlainTypedName)
  with_files = in_domain constants ++ in_problem objects

  pub length-with_files : length with_files ≡ length constants + length objects
  length-with_files =
      length-append {A = FileRole × PlainTypedName} (in_domain constants) (in_problem objects) ∙ ap₂ ◌+◌ (in_domain-long constants) (in_problem-long objects)

  pub constant_at : (k : ℕ) (n : PlainTypedName) → k < length constants → n ≡ get_or constants k n → get_or with_files k (Domain, n) ≡ (Domain, n)
  constant_at k n within is =
      let long = in_domain-long constants in
      get_or_append_left {A = FileRole × PlainTypedName} (in_domain constants) (in_problem objects) (Domain, n) k (omega arith)
      ∙ get_or-map {X = PlainTypedName} {Y = FileRole × PlainTypedName} (λ m. (Domain, m)) constants k n (Domain, n) within
      ∙ ap {B = FileRole × PlainTypedName} (λ (m : PlainTypedName). (Domain, m)) (sym is)

  pub object_at : (k : ℕ) (n : PlainTypedName) → length constants ≤ k → k - length constants < length objects → n ≡ get_or objects (k - length constants) n → get_or with_files k (Problem, n) ≡ (Problem, n)
  object_at k n behind within is =
      get_or-append_right {X = FileRole × PlainTypedName} (in_domain constants) (in_problem objects) (length constants) k (Problem, n) (in_domain-long constants) behind
      ∙ get_or-map {X = PlainTypedName} {Y = FileRole × PlainTypedName} (λ m. (Problem, m)) objects (k - length constants) n (Problem, n) within
      ∙ ap {B = FileRole × PlainTypedName} (λ (m : PlainTypedName). (Problem, m)) (sym is)
