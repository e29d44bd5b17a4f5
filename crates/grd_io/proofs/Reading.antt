-- A file that is read piece by piece.
use Rattle.std.proofs.Common.{◌≡◌, ℕ, ◌+◌, ◌<◌, ◌≤◌, List, [], ◌++◌, take, drop, length, Some, None, sym, ap, ◌∙◌, length-append, length-take, length-drop, arith}
use Rattle.std.specs.Prelude.{IfSome, unwrap_or}
use Rattle.std.proofs.Math.Seq.{take-add}
use Rattle.std.proofs.lemmas.List.{take_all}
use Rattle.grd_io.specs.Bytes.{Told, IsReadAt, IsWholeFile, IsLongerFile}

-- these bytes are the front of the file, and none where there is no file
abbrev pub IsFront : Told → List ℕ → Type 0
IsFront told bytes = IfSome told (λ file. bytes ≡ take (length bytes) (unwrap_or file []))

grown_front : (whole bytes more : List ℕ) (n : ℕ) → bytes ≡ take (length bytes) whole → more ≡ take n (drop (length bytes) whole) → n ≤ length (drop (length bytes) whole) → bytes ++ more ≡ take (length (bytes ++ more)) whole
grown_front whole bytes more n front next within =
    let size : length more ≡ n = ap length next ∙ omega (arith, length-take n (drop (length bytes) whole)) in
    let joined : bytes ++ more ≡ take (length bytes + n) whole = ap (λ bs. bs ++ more) front ∙ ap (λ bs. take (length bytes) whole ++ bs) next ∙ sym (take-add (length bytes) n whole) in
    let total : length (bytes ++ more) ≡ length bytes + n = length-append bytes more ∙ ap (λ k. length bytes + k) size in
    joined ∙ ap (λ k. take k whole) (sym total)

pub front_more : (told : Told) (bytes now : List ℕ) (from room n : ℕ) → from ≡ length bytes → IsFront told bytes → IsReadAt told from room now n → IsFront told (bytes ++ take n now)
front_more None bytes now from room n place front read = tt
front_more (Some None) bytes now from room n place front read = absurd read.part
front_more (Some (Some whole)) bytes now from room n place front read =
    let next : take n now ≡ take n (drop (length bytes) whole) = read.part.same ∙ ap (λ k. take n (drop k whole)) place in
    grown_front whole bytes (take n now) n front next (omega (arith, read.part.left, place, length-drop (length bytes) whole))

pub front_whole : (told : Told) (bytes now : List ℕ) (from room n : ℕ) → from ≡ length bytes → IsFront told bytes → IsReadAt told from room now n → 0 < room → n ≡ 0 → IsWholeFile told bytes
front_whole None bytes now from room n place front read given end = tt
front_whole (Some None) bytes now from room n place front read given end = absurd read.part
front_whole (Some (Some whole)) bytes now from room n place front read given end =
    let over : length whole ≤ length bytes = omega (arith, read.part.end given end, place) in
    ap (λ bs. Some bs) (sym (front ∙ take_all (length bytes) whole over))

pub front_longer : (told : Told) (bytes : List ℕ) (limit : ℕ) → IsFront told bytes → limit < length bytes → IsLongerFile told limit
front_longer None bytes limit front over = tt
front_longer (Some None) bytes limit front over = let size = ap length front in absurd (omega (arith, size, over, length-take {A = ℕ} (length bytes) []))
front_longer (Some (Some whole)) bytes limit front over = let size = ap length front in omega (arith, size, over, length-take (length bytes) whole)
