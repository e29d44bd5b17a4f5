use Rattle.std.proofs.Common.{◌≡◌, ◌-◌, ◌≤◌, None, take, length}
use Rattle.grd_io.specs.Devices.{file_of, plain_files}
use Rattle.grd_io.proofs.files.place_of.Given as goal

abbrev pub invariant-loop-place : goal.invariant-loop-place
invariant-loop-place l = record {
  within : l.place ≤ length l.files;
  first : file_of (take l.place (plain_files l.files)) l.name ≡ None;
}

abbrev pub decreases-loop-place : goal.decreases-loop-place
decreases-loop-place l = length l.files - l.place
