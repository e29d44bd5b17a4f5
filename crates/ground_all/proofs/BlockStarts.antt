-- The list in which an item stands, by the first numbers of the lists.
use Rattle.std.proofs.Common.{◌≡◌, ℕ, zero, suc, ◌+◌, ◌-◌, ◌<◌, ◌≤◌, true, false, leb, List, length, take, get_or, sum, ap, inl, inr, arith}
use Rattle.std.specs.List.Sorted.{IsNonDecreasing, IsPartitionPoint}
use Rattle.std.proofs.lemmas.Bool.{leb-true, leb-false, cases_lt}
use Rattle.std.proofs.lemmas.List.{take-take, take_all}
use Rattle.std.proofs.lemmas.List.Sums.{sum_by-take-le, sum_by_more}
use Rattle.ground_all.specs.Found.{starts_of, IsPlaceIn}
use Rattle.ground_all.proofs.BlockLists.{length-starts_of, start_at}

sums_rise : (lengths : List ℕ) (i j : ℕ) → i ≤ j → sum (take i lengths) ≤ sum (take j lengths)
sums_rise lengths i j before = omega (arith, sum_by-take-le (λ (n : ℕ). n) (take j lengths) i, ap sum (take-take i j lengths before))

pub starts_rise : (lengths : List ℕ) → IsNonDecreasing (starts_of 0 lengths)
starts_rise lengths i j d before within =
    let many = length-starts_of 0 lengths in
    omega (arith, start_at 0 lengths i d (omega (arith, many)), start_at 0 lengths j d (omega (arith, many)), sums_rise lengths i j before)

module _ (lengths starts : List ℕ) (number n : ℕ) (are : starts ≡ starts_of 0 lengths) (less : number < sum lengths) (bound : n ≤ length starts)
    (point : IsPartitionPoint (λ start. leb start number ≡ true) (λ start. leb start number ≡ false) starts n) where
  many : length starts ≡ length lengths
  many = omega (arith, ap length are, length-starts_of 0 lengths)

  start_is : (i : ℕ) → i < length lengths → get_or starts i 0 ≡ sum (take i lengths)
  start_is i within = omega (arith, ap (λ (xs : List ℕ). get_or xs i 0) are, start_at 0 lengths i 0 within)

  -- the number stands before the list at which the search stops
  before_next : number < sum (take n lengths)
  before_next =
      elim (cases_lt n (length lengths)) [
        | inl within ↦ omega (arith, leb-false (get_or starts n 0) number (point.1 n 0 (omega arith) (omega (arith, many))), start_is n within)
        | inr past ↦ omega (arith, ap sum (take_all n lengths past))
      ]

  pub some_start : 1 ≤ n
  some_start = first n before_next
    where
      first : (n : ℕ) → number < sum (take n lengths) → 1 ≤ n
      first zero less = absurd (omega arith)
      first (suc n) less = omega arith

  pub start_within : n - 1 < length starts
  start_within = omega (arith, some_start)

  pub start_before : get_or starts (n - 1) 0 ≤ number
  start_before = leb-true (get_or starts (n - 1) 0) number (point.0 (n - 1) 0 (omega arith) (omega (arith, some_start)))

  pub place_found : IsPlaceIn lengths number (n - 1) (number - get_or starts (n - 1) 0)
  place_found =
      let one : n - 1 < length lengths = omega (arith, start_within, many) in
      let start = start_is (n - 1) one in
      let next : n - 1 + 1 ≡ n = omega (arith, some_start) in
      record {
        one = one;
        within = omega (arith, start, start_before, before_next, sum_by_more (λ (k : ℕ). k) lengths (n - 1) 0 one, ap (λ (k : ℕ). sum (take k lengths)) next);
        whole = omega (arith, start, start_before);
      }
