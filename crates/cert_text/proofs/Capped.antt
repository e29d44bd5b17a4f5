-- A line as it is in memory, where a number over the range is the greatest of the range.
use Rattle.std.proofs.Common.{◌≡◌, ℕ, ◌-◌, ◌^◌, ◌<◌, List, [], ◌∷◌, ◌++◌, map, refl, arith, Option, Some, None, min}
use Rattle.std.specs.List.{AllByRecursion}
use Rattle.std.specs.Option.{option_map}
use Rattle.grd_base.specs.declared.limits.Bound.{Bound}
use Rattle.grd_base.specs.declared.limits.Bound.TheVariants.{Steps as AtMost, Never}
use Rattle.cert_text.specs.Lines.{Line, Head, HeadTwo, Counts, GoalCost, Plan, Table, Cuts, Set, Steps, End, Verdict, Wcd, Prefix, Live, Design, Remove, Named, Tree, Branch, Leaf, LeafUse, Done, Word, Key, Number, words_of, IsInRange}

abbrev pub cap : ℕ → ℕ
cap n = min n (2 ^ 32 - 1)

abbrev pub caps : List ℕ → List ℕ
caps ns = map cap ns

abbrev pub cap_option : Option ℕ → Option ℕ
cap_option o = option_map cap o

abbrev pub cap_bound : Bound → Bound
cap_bound (AtMost n) = AtMost (cap n)
cap_bound Never = Never

abbrev pub cap_pair : Option (ℕ × ℕ × ℕ) → Option (ℕ × ℕ × ℕ)
cap_pair None = None
cap_pair (Some w) = Some (cap w.0, cap w.1, cap w.2)

abbrev pub capped : Line → Line
capped Head = Head
capped HeadTwo = HeadTwo
capped (Counts atoms actions goals observations budget) = Counts (cap atoms) (cap actions) (cap goals) (cap observations) (cap budget)
capped (GoalCost goal cost) = GoalCost (cap goal) (cap_option cost)
capped (Plan actions) = Plan (caps actions)
capped Table = Table
capped (Cuts bound state) = Cuts (cap_bound bound) (caps state)
capped (Set atoms) = Set (caps atoms)
capped (Steps bound state) = Steps (cap_bound bound) (caps state)
capped End = End
capped (Verdict goal recognised) = Verdict (cap goal) recognised
capped (Wcd pair) = Wcd (cap_pair pair)
capped (Prefix actions) = Prefix (caps actions)
capped (Live depth goals state) = Live (cap depth) (caps goals) (caps state)
capped (Design count wcd) = Design (cap count) (cap_option wcd)
capped (Remove actions) = Remove (caps actions)
capped (Named number goal removed) = Named (cap number) (cap goal) (caps removed)
capped (Tree members least) = Tree (cap members) (cap least)
capped (Branch first second) = Branch (cap first) (cap second)
capped (Leaf goal) = Leaf (cap goal)
capped (LeafUse goal table) = LeafUse (cap goal) (cap table)
capped Done = Done

-- ---- a line whose numbers are in range is itself

cap_same : (n : ℕ) → n < 2 ^ 32 → cap n ≡ n
cap_same n h = omega arith

caps_same : (ns : List ℕ) → AllByRecursion IsInRange (map Number ns) → caps ns ≡ ns
caps_same [] h = refl
caps_same (n ∷ ns) h = rw (cap_same n h.0, caps_same ns h.1) refl

split_words : (ns : List ℕ) (w : Word) (ws : List Word) → AllByRecursion IsInRange (map Number ns ++ w ∷ ws) → AllByRecursion IsInRange (map Number ns) × AllByRecursion IsInRange ws
split_words [] w ws h = (tt, h.1)
split_words (n ∷ ns) w ws h = let more = split_words ns w ws h.1 in ((h.0, more.0), more.1)

pub capped_same : (l : Line) → AllByRecursion IsInRange (words_of l) → capped l ≡ l
capped_same Head h = refl
capped_same HeadTwo h = refl
capped_same (Counts a b c d e) h = rw (cap_same a h.1.0, cap_same b h.1.1.0, cap_same c h.1.1.1.0, cap_same d h.1.1.1.1.0, cap_same e h.1.1.1.1.1.0) refl
capped_same (GoalCost g None) h = rw (cap_same g h.1.0) refl
capped_same (GoalCost g (Some c)) h = rw (cap_same g h.1.0, cap_same c h.1.1.1.0) refl
capped_same (Plan ns) h = rw (caps_same ns h.1) refl
capped_same Table h = refl
capped_same (Cuts Never ns) h = rw (caps_same ns h.1.1.1) refl
capped_same (Cuts (AtMost n) ns) h = rw (cap_same n h.1.0, caps_same ns h.1.1.1) refl
capped_same (Set ns) h = rw (caps_same ns h.1) refl
capped_same (Steps Never ns) h = rw (caps_same ns h.1.1.1) refl
capped_same (Steps (AtMost n) ns) h = rw (cap_same n h.1.0, caps_same ns h.1.1.1) refl
capped_same End h = refl
capped_same (Verdict g r) h = rw (cap_same g h.1.0) refl
capped_same (Wcd None) h = refl
capped_same (Wcd (Some w)) h = rw (cap_same w.0 h.1.0, cap_same w.1 h.1.1.1.0, cap_same w.2 h.1.1.1.1.0) refl
capped_same (Prefix ns) h = rw (caps_same ns h.1) refl
capped_same (Live d gs ns) h =
    let parts = split_words gs (Key _) (map Number ns) h.1.1.1 in
    rw (cap_same d h.1.0, caps_same gs parts.0, caps_same ns parts.1) refl
capped_same (Design m None) h = rw (cap_same m h.1.0) refl
capped_same (Design m (Some w)) h = rw (cap_same m h.1.0, cap_same w h.1.1.1.0) refl
capped_same (Remove ns) h = rw (caps_same ns h.1) refl
capped_same (Named n g ns) h = rw (cap_same n h.1.0, cap_same g h.1.1.1.0, caps_same ns h.1.1.1.1.1) refl
capped_same (Tree m t) h = rw (cap_same m h.1.0, cap_same t h.1.1.0) refl
capped_same (Branch i j) h = rw (cap_same i h.1.0, cap_same j h.1.1.0) refl
capped_same (Leaf g) h = rw (cap_same g h.1.0) refl
capped_same (LeafUse g n) h = rw (cap_same g h.1.0, cap_same n h.1.1.1.0) refl
capped_same Done h = refl
