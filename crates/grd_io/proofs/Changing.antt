-- A file in memory is changed, or added, and every other stays.
use Rattle.std.proofs.Common.{◌≡◌, ℕ, ◌<◌, List, [], ◌∷◌, ◌++◌, take, length, set, get_or, Bool, true, false, cond, Some, None, refl, sym, ap, subst, ◌∙◌, arith, suc, zero}
use Rattle.std.specs.Prelude.{Result, Ok, Err, OnErr, IsSomeAnd, String, Vec, string_bytes, slice_get, unwrap_or}
use Rattle.std.specs.Option.{option_map}
use Rattle.std.specs.Str.{bytes_eq}
use Rattle.std.specs.declared.alloc.Global.{Global}
use Rattle.std.proofs.lemmas.List.{length-map, map-append, map-set}
use Rattle.std.proofs.Math.Seq.{map-set_same}
use Rattle.std.proofs.lemmas.Option.{slice_get-map, slice_get-get_or}
use Rattle.std.proofs.lemmas.Slice.Eq.{bytes_eq-Decides}
use Rattle.grd_io.specs.Devices.{NamedFile, file_of, plain_files, IsFirstOf, IsChanged}

pub is_name : (x name : List ℕ) → bytes_eq x name ≡ true → x ≡ name
is_name x name is = (bytes_eq-Decides x name).0 is

is_same : (x name : List ℕ) → x ≡ name → bytes_eq x name ≡ true
is_same x name is = (bytes_eq-Decides x name).1 is

not_name : (x name : List ℕ) → (x ≡ name → ⊥) → bytes_eq x name ≡ false
not_name x name ne = go (bytes_eq x name) refl
  where
    go : (b : Bool) → bytes_eq x name ≡ b → b ≡ false
    go true is = absurd (ne (is_name x name is))
    go false is = refl

-- the first file has another name, where none of a list has this one
other_name : (file : NamedFile) (files : List NamedFile) (name : List ℕ) → file_of (file ∷ files) name ≡ None → (bytes_eq name file.0 ≡ false) × (file_of files name ≡ None)
other_name file files name none = go (bytes_eq name file.0) refl none
  where
    go : (b : Bool) → bytes_eq name file.0 ≡ b → cond b (Some file.1) (file_of files name) ≡ None → (bytes_eq name file.0 ≡ false) × (file_of files name ≡ None)
    go true is h = absurd (cc)
    go false is h = (is, h)

-- the file of this name is changed, and every other is as it was
abbrev IsSet : List NamedFile → List NamedFile → List ℕ → List ℕ → Type 0
IsSet before now name bytes = (x : List ℕ) → file_of now x ≡ cond (bytes_eq x name) (Some bytes) (file_of before x)

changed : (before now : List NamedFile) (name bytes : List ℕ) → IsSet before now name bytes → IsChanged before now name bytes
changed before now name bytes is = record {
  file = is name ∙ ap (λ b. cond b (Some bytes) (file_of before name)) (is_same name name refl);
  others = λ x ne. is x ∙ ap (λ b. cond b (Some bytes) (file_of before x)) (not_name x name ne);
}

-- behind a file of another name
set_behind : (file : NamedFile) (before now : List NamedFile) (name bytes : List ℕ) → bytes_eq name file.0 ≡ false → IsSet before now name bytes → IsSet (file ∷ before) (file ∷ now) name bytes
set_behind file before now name bytes other is x = go (bytes_eq x name) refl (bytes_eq x file.0) refl
  where
    go : (b : Bool) → bytes_eq x name ≡ b → (d : Bool) → bytes_eq x file.0 ≡ d → cond d (Some file.1) (file_of now x) ≡ cond b (Some bytes) (cond d (Some file.1) (file_of before x))
    go true b true d = absurd (let same = is_name x name b in let e = subst (λ y. bytes_eq y file.0 ≡ true) same d in cc)
    go true b false d = is x ∙ ap (λ c. cond c (Some bytes) (file_of before x)) b
    go false b true d = refl
    go false b false d = is x ∙ ap (λ c. cond c (Some bytes) (file_of before x)) b

set_first : (files : List NamedFile) (place : ℕ) (file : NamedFile) (name bytes : List ℕ) → file_of (take place files) name ≡ None → slice_get files place ≡ Some file → file.0 ≡ name → IsSet files (set files place (file.0, bytes)) name bytes
set_first [] place file name bytes first at named = absurd (cc)
set_first (e ∷ es) zero file name bytes first at named = λ x. go x (bytes_eq x name) refl
  where
    head : e.0 ≡ name
    head = ap (λ o. (unwrap_or o e).0) at ∙ named

    go : (x : List ℕ) (b : Bool) → bytes_eq x name ≡ b → cond (bytes_eq x file.0) (Some bytes) (file_of es x) ≡ cond (bytes_eq x name) (Some bytes) (cond (bytes_eq x e.0) (Some e.1) (file_of es x))
    go x true b = ap (λ n. cond (bytes_eq x n) (Some bytes) (file_of es x)) named ∙ ap (λ c. cond c (Some bytes) (file_of es x)) b ∙ sym (ap (λ c. cond c (Some bytes) (cond (bytes_eq x e.0) (Some e.1) (file_of es x))) b)
    go x false b = ap (λ n. cond (bytes_eq x n) (Some bytes) (file_of es x)) named ∙ ap (λ c. cond c (Some bytes) (file_of es x)) b
        ∙ sym (ap (λ n. cond (bytes_eq x n) (Some e.1) (file_of es x)) head ∙ ap (λ c. cond c (Some e.1) (file_of es x)) b)
        ∙ sym (ap (λ c. cond c (Some bytes) (cond (bytes_eq x e.0) (Some e.1) (file_of es x))) b)
set_first (e ∷ es) (suc place) file name bytes first at named =
    let parts = other_name e (take place es) name first in
    set_behind e es (set es place (file.0, bytes)) name bytes parts.0 (set_first es place file name bytes parts.1 at named)

set_last : (files : List NamedFile) (name bytes : List ℕ) → file_of files name ≡ None → IsSet files (files ++ (name, bytes) ∷ []) name bytes
set_last [] name bytes none = λ x. refl
set_last (e ∷ es) name bytes none =
    let parts = other_name e es name none in
    set_behind e es (es ++ (name, bytes) ∷ []) name bytes parts.0 (set_last es name bytes parts.1)

first_bytes : (files : List NamedFile) (place : ℕ) (file : NamedFile) (name : List ℕ) → file_of (take place files) name ≡ None → slice_get files place ≡ Some file → file.0 ≡ name → file_of files name ≡ Some file.1
first_bytes [] place file name first at named = absurd (cc)
first_bytes (e ∷ es) zero file name first at named =
    let is : e ≡ file = ap (λ o. unwrap_or o e) at in
    ap (λ c. cond c (Some e.1) (file_of es name)) (is_same name e.0 (sym (ap (λ f. f.0) is ∙ named))) ∙ ap (λ f. Some f.1) is
first_bytes (e ∷ es) (suc place) file name first at named =
    let parts = other_name e (take place es) name first in
    ap (λ c. cond c (Some e.1) (file_of es name)) parts.0 ∙ first_bytes es place file name parts.1 at named

-- no file of this name yet, after one more
none_yet : (files : List NamedFile) (place : ℕ) (file : NamedFile) (name : List ℕ) → file_of (take place files) name ≡ None → slice_get files place ≡ Some file → bytes_eq name file.0 ≡ false → file_of (take (suc place) files) name ≡ None
none_yet [] place file name first at other = refl
none_yet (e ∷ es) zero file name first at other =
    let is : e ≡ file = ap (λ o. unwrap_or o e) at in
    ap (λ c. cond c (Some e.1) None) (ap (λ f. bytes_eq name f.0) is ∙ other)
none_yet (e ∷ es) (suc place) file name first at other =
    let parts = other_name e (take place es) name first in
    ap (λ c. cond c (Some e.1) (file_of (take (suc place) es) name)) parts.0 ∙ none_yet es place file name parts.1 at other

-- the same at a next place
pub none_at_next : (files : List NamedFile) (place next : ℕ) (file : NamedFile) (name : List ℕ) → next ≡ suc place → file_of (take place files) name ≡ None → slice_get files place ≡ Some file → bytes_eq name file.0 ≡ false → file_of (take next files) name ≡ None
none_at_next files place next file name is first at other = ap (λ n. file_of (take n files) name) is ∙ none_yet files place file name first at other

-- an entry of a vector of files
abbrev pub Entry : Type 0
Entry = String Global × Vec ℕ Global

abbrev pub plain : Entry → NamedFile
plain entry = (string_bytes entry.0, entry.1.items)

pub plain_at : (raw : List Entry) (place : ℕ) (entry : Entry) → place < length raw → entry ≡ get_or raw place entry → slice_get (plain_files raw) place ≡ Some (plain entry)
plain_at raw place entry within is = slice_get-map plain raw place ∙ ap (option_map plain) (slice_get-get_or raw place entry within ∙ ap (λ e. Some e) (sym is))

named_at : (files : List NamedFile) (name : List ℕ) (place : ℕ) (file : NamedFile) → IsFirstOf files name place → slice_get files place ≡ Some file → file.0 ≡ name
named_at files name place file found at = subst (λ o. IsSomeAnd o (λ f. f.0 ≡ name)) at found.named

-- the bytes of a file are replaced
pub changed_at : (raw : List Entry) (place : ℕ) (entry : Entry) (more : Vec ℕ Global) (name bytes : List ℕ) → entry ≡ get_or raw place entry → more.items ≡ bytes → IsFirstOf (plain_files raw) name place → IsChanged (plain_files raw) (plain_files (set raw place (entry.0, more))) name bytes
changed_at raw place entry more name bytes is items found =
    let at = plain_at raw place entry (omega (arith, found.within, length-map raw plain)) is in
    let named = named_at (plain_files raw) name place (plain entry) found at in
    let same : plain_files (set raw place (entry.0, more)) ≡ set (plain_files raw) place (string_bytes entry.0, bytes) = map-set plain raw place (entry.0, more) ∙ ap (λ bs. set (plain_files raw) place (string_bytes entry.0, bs)) items in
    subst (λ files. IsChanged (plain_files raw) files name bytes) (sym same)
    (changed (plain_files raw) _ name bytes (set_first (plain_files raw) place (plain entry) name bytes found.first at named))

-- the bytes of the first file of a name
pub bytes_at : (raw : List Entry) (place : ℕ) (entry : Entry) (name : List ℕ) → entry ≡ get_or raw place entry → IsFirstOf (plain_files raw) name place → file_of (plain_files raw) name ≡ Some entry.1.items
bytes_at raw place entry name is found =
    let at = plain_at raw place entry (omega (arith, found.within, length-map raw plain)) is in
    first_bytes (plain_files raw) place (plain entry) name found.first at (named_at (plain_files raw) name place (plain entry) found at)

-- a vector is unchanged for contracts, where an entry is replaced by one of the same bytes
pub same_at : (raw : List Entry) (place : ℕ) (entry : Entry) (same : Vec ℕ Global) → entry ≡ get_or raw place entry → same.items ≡ entry.1.items → plain_files (set raw place (entry.0, same)) ≡ plain_files raw
same_at raw place entry same is items = map-set_same plain raw place (entry.0, same) entry (ap (λ bs. (string_bytes entry.0, bs)) items ∙ ap plain is)

-- a file of a new name is added
pub changed_last : (raw now : List Entry) (entry : Entry) (name : List ℕ) → now ≡ raw ++ entry ∷ [] → string_bytes entry.0 ≡ name → entry.1.items ≡ [] → file_of (plain_files raw) name ≡ None → IsChanged (plain_files raw) (plain_files now) name []
changed_last raw now entry name is named items none =
    let same : plain_files now ≡ plain_files raw ++ (name, []) ∷ [] = ap plain_files is ∙ map-append plain raw (entry ∷ []) ∙ ap (λ n. plain_files raw ++ (n, entry.1.items) ∷ []) named ∙ ap (λ bs. plain_files raw ++ (name, bs) ∷ []) items in
    subst (λ files. IsChanged (plain_files raw) files name []) (sym same) (changed (plain_files raw) _ name [] (set_last (plain_files raw) name [] none))

-- a fact that holds however a call ended holds where it was refused
pub refused : {T E P : Type 0} (r : Result T E) → P → OnErr r P
refused (Ok value) p = tt
refused (Err fault) p = p
