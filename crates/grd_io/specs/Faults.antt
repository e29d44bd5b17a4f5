-- The faults of a shelf as those of a whole read.
use Rattle.grd_io.specs.declared.faults.ShelfFault.{ShelfFault}
use Rattle.grd_io.specs.declared.faults.ShelfFault.TheVariants.{Failed, OutOfMemory}
use Rattle.grd_io.specs.declared.faults.ReadFault.{ReadFault}
use Rattle.grd_io.specs.declared.faults.ReadFault.TheVariants.{Failed as ReadFailed, OutOfMemory as ReadOutOfMemory}

-- a shelf's fault as that of a whole read
abbrev pub read_fault_of : ShelfFault → ReadFault
read_fault_of Failed = ReadFailed
read_fault_of OutOfMemory = ReadOutOfMemory
