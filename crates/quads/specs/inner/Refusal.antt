-- Why data aren't put into a store, as a job tells it, and the lines of refusals.
use Rattle.std.specs.Prelude.{ℕ, List}
use Rattle.qs_terms.specs.declared.fault.QFault.{QFault}
use Rattle.qs_terms.specs.declared.fault.QFault.TheVariants as fault
use Rattle.qs_store.specs.declared.fault.StoreFault.{StoreFault}
use Rattle.qs_store.specs.declared.fault.StoreFault.TheVariants.{Full, Memory}
use Rattle.qs_store_load.specs.declared.fault.LoadFault.{LoadFault}
use Rattle.qs_store_load.specs.declared.fault.LoadFault.TheVariants as load
use Rattle.qs_results.specs.Lines.{fault_line, data_fault_line}
use Rattle.quads.specs.Due.{line}
use Rattle.quads.specs.inner.Outcomes.{script_line}
use Rattle.quads.specs.declared.refusal.Refusal.{Refusal}
use Rattle.quads.specs.declared.refusal.Refusal.TheVariants.{Data, Script, Fault}

abbrev pub fault_of : StoreFault → QFault
fault_of Full = fault.Full
fault_of Memory = fault.Memory

abbrev pub refusal_of : LoadFault → Refusal
refusal_of (load.Text f) = Data f
refusal_of (load.Store f) = Fault (fault_of f)

abbrev pub refusal_text : Refusal → List ℕ
refusal_text (Data f) = line (data_fault_line f)
refusal_text (Script n) = line (script_line n)
refusal_text (Fault f) = line (fault_line f)
