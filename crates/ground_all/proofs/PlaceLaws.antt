-- The places of parameters: as many, each a short rising list of objects that are there.
use Rattle.std.proofs.Common.{ℕ, ◌+◌, ◌-◌, ◌<◌, ◌≤◌, List, [], ◌∷◌, length, arith}
use Rattle.std.specs.List.{All, AllByRecursion, Contains}
use Rattle.std.proofs.lemmas.List.Elements.{All-weaker, All-contains_itself, recursion_from_All}
use Rattle.std.proofs.lemmas.Option.{slice_get_within}
use Rattle.grd_base.specs.Rising.{IsRisingBy}
use Rattle.pddl_reader.specs.Values.{PlainTypedName, PlainDomain, PlainProblem}
use Rattle.type_check.specs.Rules.{all_objects, IsWellTyped}
use Rattle.type_check.specs.Typing.{IsPlace, ArePlaces as ArePlacesOf}
use Rattle.type_check.proofs.Known.{few_objects}
use Rattle.type_check.proofs.Pairs.{pairs_length, pairs_give}
use Rattle.ground_all.specs.Sound.{ArePlaces, AreBelow}

-- ---- rising lists of numbers

-- a rising list of numbers from low on and below count
rising_from : (low count : ℕ) (xs : List ℕ) → AllByRecursion (λ k. low ≤ k) xs → AllByRecursion (λ k. k < count) xs → IsRisingBy (λ k. k) xs → length xs ≤ count - low
rising_from low count [] from below rises = omega arith
rising_from low count (x ∷ xs) from below rises = omega (arith, rising_from (x + 1) count xs (above xs rises.0) below.1 rises.1, from.0, below.0)
  where
    above : (ys : List ℕ) → AllByRecursion (λ y. x < y) ys → AllByRecursion (λ k. x + 1 ≤ k) ys
    above [] h = tt
    above (y ∷ ys) h = (omega (arith, h.0), above ys h.1)

all_from_none : (xs : List ℕ) → AllByRecursion (λ k. 0 ≤ k) xs
all_from_none [] = tt
all_from_none (x ∷ xs) = (omega arith, all_from_none xs)

rising_below : (count : ℕ) (xs : List ℕ) → All (λ k. k < count) xs → IsRisingBy (λ k. k) xs → length xs ≤ count
rising_below count xs below rises =
    omega (arith, rising_from 0 count xs (all_from_none xs) (recursion_from_All (λ k. k < count) xs below) rises)

-- ---- places

module _ (d : PlainDomain) (p : PlainProblem) where
  place_below : (n : PlainTypedName) (place : List ℕ) → IsPlace d p n place → All (λ k. k < length (all_objects d p)) place
  place_below n place is =
      All-weaker (Contains place) (λ k. k < length (all_objects d p))
      (λ k has. let fit = (is.fit k).0 has in slice_get_within (all_objects d p) k fit.0 fit.1) place (All-contains_itself place)

  pub places_below : (parameters : List PlainTypedName) (places : List (List ℕ)) → ArePlacesOf d p parameters places → AreBelow (length (all_objects d p)) places
  places_below parameters places are =
      pairs_give (IsPlace d p) (λ n. Unit {0}) (All (λ k. k < length (all_objects d p))) (λ n place is h. place_below n place is) parameters places are (λ k e within. tt)

  pub places_sound : IsWellTyped d p → (parameters : List PlainTypedName) (places : List (List ℕ)) → ArePlacesOf d p parameters places → length parameters ≤ 8 → ArePlaces places
  places_sound well parameters places are few = record {
    few = omega (arith, few, pairs_length (IsPlace d p) parameters places are);
    rise = pairs_give (IsPlace d p) (λ n. Unit {0}) (IsRisingBy (λ k. k)) (λ n place is h. is.rises) parameters places are (λ k e within. tt);
    short = pairs_give (IsPlace d p) (λ n. Unit {0}) (λ place. length place ≤ 1024)
        (λ n place is h. omega (arith, rising_below (length (all_objects d p)) place (place_below n place is) is.rises, few_objects d p well)) parameters places are (λ k e within. tt);
  }
