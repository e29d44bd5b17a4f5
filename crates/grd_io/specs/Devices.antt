-- What contracts see of the devices of this crate.
use Rattle.std.specs.Prelude.{◌≡◌, ◌<◌, Some, None, IsSomeAnd, slice_get, take, length, ℕ, ◌+◌, ◌-◌, ◌^◌, ◌==◌, ◌&&◌, not, min, List, [], ◌∷◌, map, Bool, true, Option, String, Vec, string_bytes}
use Rattle.std.specs.Option.{option_map}
use Rattle.std.specs.List.{list_any}
use Rattle.std.specs.Map.{lookup}
use Rattle.std.specs.Str.{bytes_eq}
use Rattle.std.specs.declared.alloc.Global.{Global}
use Rattle.std.specs.Io.KnownBytes.{Appends}
use Rattle.grd_io.specs.Counts.{Failure}

-- the numbers, from 1, of the calls of a device that fail, how many calls were made, and how many
-- bytes one call gives or takes at most
pub record DeviceCalls : Type 0 where
  pub failing : List ℕ
  pub made : ℕ
  pub step : ℕ

-- no call was made yet
abbrev pub no_calls : List ℕ → ℕ → DeviceCalls
no_calls failing step = record { failing = failing; made = 0; step = step }

-- a step that no piece exceeds: one call takes all of it
abbrev pub any_step : ℕ
any_step = 2 ^ 64 - 1

-- one more call was made; the count stands still at its last value
abbrev pub after_call : DeviceCalls → DeviceCalls
after_call calls = record { failing = calls.failing; made = min (calls.made + 1) (2 ^ 64 - 1); step = calls.step }

-- the call that was made last is one of those that fail
abbrev pub is_failing : DeviceCalls → Bool
is_failing calls = list_any (λ n. n == calls.made) calls.failing

-- a name and the bytes of its file
abbrev pub NamedFile : Type 0
NamedFile = List ℕ × List ℕ

-- the bytes of the first file of this name
abbrev pub file_of : List NamedFile → List ℕ → Option (List ℕ)
file_of files name = lookup (bytes_eq name) files

-- a vector's files, as names and bytes
abbrev pub plain_files : List (String Global × Vec ℕ Global) → List NamedFile
plain_files files = map (λ file. (string_bytes file.0, file.1.items)) files

-- no two files have one name
abbrev pub have_distinct_names : List NamedFile → Bool
have_distinct_names [] = true
have_distinct_names (file ∷ files) = not (list_any (λ other. bytes_eq file.0 other.0) files) && have_distinct_names files

-- the first file of this name is at this place
pub record IsFirstOf (files : List NamedFile) (name : List ℕ) (place : ℕ) : Type 0 where
  pub within : place < length files
  pub named : IsSomeAnd (slice_get files place) (λ file. file.0 ≡ name)
  pub first : file_of (take place files) name ≡ None

-- the file of this name has these bytes now, and every other is as it was
pub record IsChanged (before now : List NamedFile) (name bytes : List ℕ) : Type 0 where
  pub file : file_of now name ≡ Some bytes
  pub others : (x : List ℕ) → (x ≡ name → ⊥) → file_of now x ≡ file_of before x

-- a shelf in memory: its files, its calls and its failures
pub record MemoryFiles : Type 0 where
  pub files : List NamedFile
  pub calls : DeviceCalls
  pub failed : List Failure

-- a sink in memory: its bytes, its calls and its count of faults
pub record MemoryBytes : Type 0 where
  pub bytes : List ℕ
  pub calls : DeviceCalls
  pub faults : ℕ

-- a file that is open for writing: its name, and what its writer is known to hold
pub record CreatedFile : Type 0 where
  pub name : List ℕ
  pub known : Option (List ℕ)

-- the file of this name, which was created last, took these bytes
pub record HasTaken (before now : CreatedFile) (name bytes : List ℕ) : Type 0 where
  pub named : before.name ≡ name
  pub stays : now.name ≡ name
  pub grown : Appends before.known now.known bytes

-- the same of the file that was created last, if any
abbrev pub HaveTaken : Option CreatedFile → Option CreatedFile → List ℕ → List ℕ → Type 0
HaveTaken before now name bytes = IsSomeAnd before (λ file. IsSomeAnd now (λ same. HasTaken file same name bytes))

-- the name of the file that was created last, if any
abbrev pub created_name : Option CreatedFile → Option (List ℕ)
created_name created = option_map (λ file. file.name) created

-- a shelf of the host: the file that it created last, if any, and its failures
pub record HostFiles : Type 0 where
  pub created : Option CreatedFile
  pub failed : List Failure

-- a sink of the host: what its writer is known to hold, and its count of faults
pub record HostBytes : Type 0 where
  pub known : Option (List ℕ)
  pub faults : ℕ
