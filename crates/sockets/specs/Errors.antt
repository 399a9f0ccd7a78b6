-- What a system error means for a listener.
use Rattle.std.specs.Prelude.{◌==◌, ◌||◌, if◌then◌else◌, ℕ, ℤ, Bool, Option, None, Some, Ok, Err, Result, unsigned_abs}
use Rattle.std.specs.IoError.{raw_os_error}
use Rattle.std.specs.declared.io.Error.{Error}
use Rattle.mio.specs.declared.net.listener.TcpListener.{TcpListener}
use Rattle.connections.specs.declared.network.AcceptOutcome.{AcceptOutcome}
use Rattle.connections.specs.declared.network.AcceptOutcome.TheVariants.{Nobody, NotNow, Full}
use Rattle.sockets.specs.declared.socket.Socket.{Socket}
use Rattle.sockets.specs.declared.loopback.Loopback.{Loopback}

-- a system error number, without its sign, or 0 if there is none
abbrev pub number_in : Option ℤ → ℕ
number_in None = 0
number_in (Some code) = unsigned_abs code

-- the error number on Linux
abbrev pub errno_of : Error → ℕ
errno_of error = number_in (raw_os_error error)

-- there is no descriptor or memory left for another connection: ENOMEM, ENFILE, EMFILE, ENOSPC, ENOBUFS
abbrev pub is_out_of_room : Error → Bool
is_out_of_room error = errno_of error == 12 || errno_of error == 23 || errno_of error == 24 || errno_of error == 28 || errno_of error == 105

-- the meaning of an error from a listener; EAGAIN is 11
abbrev pub outcome_of : Error → AcceptOutcome Socket
outcome_of error = if errno_of error == 11 then Nobody else (if is_out_of_room error then Full else NotNow)

-- the machine has no [::1]: EAFNOSUPPORT, EADDRNOTAVAIL
abbrev pub has_no_ipv6 : Error → Bool
has_no_ipv6 error = errno_of error == 97 || errno_of error == 99

-- The listeners on a port that is bound at 127.0.0.1, given the result of binding [::1]: both; or only the one at 127.0.0.1, if the machine has no [::1]; otherwise the error.
abbrev pub loopback_of : TcpListener → Result TcpListener Error → Result Loopback Error
loopback_of ipv4 (Ok ipv6) = Ok (record { ipv4 = ipv4; ipv6 = Some ipv6 })
loopback_of ipv4 (Err error) = if has_no_ipv6 error then Ok (record { ipv4 = ipv4; ipv6 = None }) else Err error
