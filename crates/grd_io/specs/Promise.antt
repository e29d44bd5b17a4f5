-- The promise: what the clauses of public calls cite of this crate, in the order in which to read it.
-- What is left out serves private contracts alone.

-- What reads and writes do to the bytes that a device tells.
pub use Rattle.grd_io.specs.Bytes.{extended, IsTaken, IsPartlyTaken, Told, IsPart, IsReadAt, IsWholeFile}
pub use Rattle.grd_io.specs.Bytes.{IsLongerFile, IsThere, emptied, grown_file, IsAppended, IsPartlyAppended, OthersStay}
-- Counts of faults.
pub use Rattle.grd_io.specs.Causes.{Rose, HasCause, HasShelfCause}
-- Counts kept as a list of failures.
pub use Rattle.grd_io.specs.Counts.{Failure, is_failure_of, count_of}
-- What contracts see of the devices of this crate.
pub use Rattle.grd_io.specs.Devices.{DeviceCalls, no_calls, any_step, after_call, is_failing}
pub use Rattle.grd_io.specs.Devices.{NamedFile, file_of, plain_files, have_distinct_names}
pub use Rattle.grd_io.specs.Devices.{MemoryFiles, MemoryBytes, CreatedFile, HasTaken, HaveTaken, created_name}
pub use Rattle.grd_io.specs.Devices.{HostFiles, HostBytes}
-- The faults of a shelf as those of a whole read.
pub use Rattle.grd_io.specs.Faults.{read_fault_of}
