-- Which fault of reading a file's bytes is which fault of reading a netlist.
use Rattle.psl_base.specs.declared.reading.ReadAllFault.{ReadAllFault}
use Rattle.psl_base.specs.declared.reading.ReadAllFault.TheVariants.{ReadFault as CannotRead, TooLong as IsTooLong, NoMemory as HasNoMemory}
use Rattle.blif_model.specs.declared.fault.BlifFault.{BlifFault}
use Rattle.blif_model.specs.declared.fault.BlifFault.TheVariants.{TooLong, ReadFault, NoMemory}

-- the fault of reading a file's bytes
abbrev pub fault_of : ReadAllFault → BlifFault
fault_of CannotRead = ReadFault
fault_of IsTooLong = TooLong
fault_of HasNoMemory = NoMemory
