-- When the system has no descriptor or no memory left to accept a connection.
use Rattle.std.specs.Prelude.{◌≡◌, ◌==◌, ◌||◌, ℤ, pos, negsuc, Bool, true, false, Option, None}
use Rattle.std.specs.Prelude.{Some, IsTrue}
use Rattle.std.specs.IoError.{error_kind, raw_os_error}
use Rattle.std.specs.declared.io.Error.{Error}
use Rattle.std.specs.declared.io.ErrorKind.{ErrorKind}
use Rattle.std.specs.declared.io.ErrorKind.TheVariants.{OutOfMemory}
use Rattle.qs_service_reactor.specs.declared.arrivals.Arrivals.{Arrivals}
use Rattle.qs_service_reactor.specs.declared.arrivals.Arrivals.TheVariants.{None as Nobody, Pending}
use Rattle.qs_service_reactor.specs.declared.arrivals.Arrivals.TheVariants.{Short}

-- the errors of Linux that say so: ENOMEM, ENFILE, EMFILE and ENOBUFS
abbrev pub is_shortage_code : ℤ → Bool
is_shortage_code (pos n) = n == 12 || n == 23 || n == 24 || n == 105
is_shortage_code (negsuc n) = false

abbrev pub IsShortageOf : Option ℤ → ErrorKind → Type 0
IsShortageOf (Some code) kind = IsTrue (is_shortage_code code)
IsShortageOf None kind = kind ≡ OutOfMemory

-- a fault of the system that says so, or a growth that was refused
abbrev pub IsShortage : Error → Type 0
IsShortage fault = IsShortageOf (raw_os_error fault) (error_kind fault)

-- somebody may be waiting for whom there is no descriptor or no memory
abbrev pub is_short : Arrivals → Bool
is_short Nobody = false
is_short Pending = false
is_short Short = true
