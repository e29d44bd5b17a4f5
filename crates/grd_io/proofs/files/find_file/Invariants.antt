use Rattle.std.proofs.Common.{◌≡◌, drop}
use Rattle.grd_io.specs.Devices.{file_of, plain_files}
use Rattle.grd_io.proofs.files.find_file.Given as goal

abbrev pub invariant-loop-file : goal.invariant-loop-file
invariant-loop-file l = file_of (plain_files (drop l.file-index l.files)) l.name ≡ file_of (plain_files l.files) l.name
