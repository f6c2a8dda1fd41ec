-- What the script logs.
use Rattle.qs_service_reactor.specs.Log as log
use Rattle.tests_reactor.specs.declared.entry.Entry.{Entry}
use Rattle.tests_reactor.specs.declared.entry.Entry.TheVariants.{Got, Put, Fin}

abbrev pub io_of : Entry → log.Io
io_of (Got place bytes) = log.Got place bytes.items
io_of (Put place bytes) = log.Put place bytes.items
io_of (Fin place) = log.Fin place
