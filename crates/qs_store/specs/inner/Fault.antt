-- How a fault of the dictionary is told.
use Rattle.qs_dict.specs.declared.fault.DictFault.{DictFault}
use Rattle.qs_store.specs.declared.fault.StoreFault.{StoreFault}
use Rattle.qs_store.specs.declared.fault.StoreFault.TheVariants as store_fault
use Rattle.qs_dict.specs.declared.fault.DictFault.TheVariants.{Full, Memory}

-- a fault of the dictionary is one of the store
abbrev pub store_fault_of : DictFault → StoreFault
store_fault_of Full = store_fault.Full
store_fault_of Memory = store_fault.Memory
