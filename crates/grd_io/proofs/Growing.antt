-- Bytes that grow piece by piece.
use Rattle.std.proofs.Common.{◌≡◌, ℕ, ◌+◌, List, ◌++◌, take, drop, Option, Some, None, sym, ap, subst, refl, ◌∙◌, append_assoc}
use Rattle.std.specs.Option.{option_map}
use Rattle.std.proofs.Math.Seq.{take-add}
use Rattle.grd_io.specs.Bytes.{Told, IsThere, extended, grown_file}

-- a second piece behind a first
pub grown_more : (old mid new : Option (List ℕ)) (piece : List ℕ) (done n : ℕ) → mid ≡ extended old (take done piece) → new ≡ extended mid (take n (drop done piece)) → new ≡ extended old (take (done + n) piece)
grown_more None mid new piece done n first second = second ∙ ap (option_map (λ bytes. bytes ++ take n (drop done piece))) first
grown_more (Some bytes) mid new piece done n first second =
    second ∙ ap (option_map (λ bytes. bytes ++ take n (drop done piece))) first
    ∙ ap (λ bs. Some bs) (append_assoc bytes (take done piece) (take n (drop done piece)) ∙ ap (λ bs. bytes ++ bs) (sym (take-add done n piece)))

-- the same of a file
pub file_more : (old mid new : Told) (piece : List ℕ) (done n : ℕ) → mid ≡ grown_file old (take done piece) → new ≡ grown_file mid (take n (drop done piece)) → new ≡ grown_file old (take (done + n) piece)
file_more None mid new piece done n first second = second ∙ ap (λ told. grown_file told (take n (drop done piece))) first
file_more (Some file) mid new piece done n first second =
    let middle = extended file (take done piece) in
    second ∙ ap (λ told. grown_file told (take n (drop done piece))) first
    ∙ ap (λ f. Some f) (grown_more file middle (extended middle (take n (drop done piece))) piece done n refl refl)

-- a file that grew is there
pub still_there : (before now : Told) (more : List ℕ) → now ≡ grown_file before more → IsThere before → IsThere now
still_there before now more grown there = subst IsThere (sym grown) (each before there)
  where
    each : (told : Told) → IsThere told → IsThere (grown_file told more)
    each None h = tt
    each (Some None) h = absurd (cc)
    each (Some (Some bytes)) h = refl
