-- Which fault of reading a file's bytes is which fault of reading a recording.
use Rattle.psl_base.specs.declared.reading.ReadAllFault.{ReadAllFault}
use Rattle.psl_base.specs.declared.reading.ReadAllFault.TheVariants.{ReadFault as CannotRead, TooLong as IsTooLong, NoMemory as HasNoMemory}
use Rattle.vcd_reader.specs.declared.fault.VcdFault.{VcdFault}
use Rattle.vcd_reader.specs.declared.fault.VcdFault.TheVariants.{TooLong, ReadFault, NoMemory}

-- the fault of reading a file's bytes
abbrev pub fault_of : ReadAllFault → VcdFault
fault_of CannotRead = ReadFault
fault_of IsTooLong = TooLong
fault_of HasNoMemory = NoMemory
