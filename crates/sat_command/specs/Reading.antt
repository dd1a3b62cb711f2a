-- The faults of reading a file.
use Rattle.psl_base.specs.declared.reading.ReadAllFault.{ReadAllFault}
use Rattle.psl_base.specs.declared.reading.ReadAllFault.TheVariants as reading
use Rattle.sat_command.specs.declared.report.Fault.{Fault}
use Rattle.sat_command.specs.declared.report.Fault.TheVariants as faults

abbrev pub fault_of_reading : ReadAllFault → Fault
fault_of_reading reading.ReadFault = faults.CannotRead
fault_of_reading reading.TooLong = faults.TooLong
fault_of_reading reading.NoMemory = faults.NoMemory
