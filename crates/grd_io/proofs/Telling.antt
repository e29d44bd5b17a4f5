-- Files of distinct names are each told by their name.
use Rattle.std.proofs.Common.{◌≡◌, ℕ, List, [], ◌∷◌, Bool, true, false, Some, ◌||◌, ◌&&◌, refl}
use Rattle.std.specs.List.{All, AllByRecursion, IsDistinct, list_any}
use Rattle.std.specs.Map.{keys_of}
use Rattle.std.specs.Str.{bytes_eq}
use Rattle.std.proofs.lemmas.Bool.{not-true}
use Rattle.std.proofs.lemmas.Cmp.{nat_list_eq_equiv}
use Rattle.std.proofs.lemmas.Map.Entries.{lookup_from_place}
use Rattle.std.proofs.lemmas.Option.{slice_get-get_or}
use Rattle.grd_io.specs.Devices.{NamedFile, file_of, have_distinct_names}

neither : (a b : Bool) → (a || b) ≡ false → (a ≡ false) × (b ≡ false)
neither true b h = absurd (cc)
neither false b h = (refl, h)

both : (a b : Bool) → (a && b) ≡ true → (a ≡ true) × (b ≡ true)
both true b h = (refl, h)
both false b h = absurd (cc)

apart : (name : List ℕ) (files : List NamedFile) → list_any (λ other. bytes_eq name other.0) files ≡ false → AllByRecursion (λ other. bytes_eq name other ≡ false) (keys_of files)
apart name [] h = tt
apart name (file ∷ files) h = let parts = neither _ _ h in (parts.0, apart name files parts.1)

distinct : (files : List NamedFile) → have_distinct_names files ≡ true → IsDistinct bytes_eq (keys_of files)
unfolding IsDistinct
distinct [] h = tt
distinct (file ∷ files) h =
    let parts = both _ _ h in (apart file.0 files (not-true _ parts.0), distinct files parts.1)

pub told_each : (files : List NamedFile) → have_distinct_names files ≡ true → All (λ file. file_of files file.0 ≡ Some file.1) files
told_each files h k d within = lookup_from_place nat_list_eq_equiv files k _ _ (distinct files h) (slice_get-get_or files k d within)
