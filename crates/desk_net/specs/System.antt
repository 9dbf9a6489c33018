-- Values of the system: the minute of a time, and the addresses of doors.
use Rattle.std.specs.Prelude.{◌≡◌, ℕ, [], ◌∷◌, Option, None, Some, option_map}
use Rattle.std.specs.Time.{system_time_nanos}
use Rattle.std.specs.Net.Addr.{MatchIp, ipv4_octets}
use Rattle.std.specs.Net.Socket.{socket_ip, socket_port}
use Rattle.std.specs.declared.time.SystemTime.{SystemTime}
use Rattle.std.specs.declared.net.socket_addr.SocketAddr.{SocketAddr}
use Rattle.desk_net.specs.Clocks.{moment_in}

-- the whole minutes since 1970 of the time that the system returned
abbrev pub IsMinuteOf : Option SystemTime → ℕ → Type 0
IsMinuteOf None m = ⊥
IsMinuteOf (Some time) m = moment_in (system_time_nanos time) ≡ Some m

-- the address 127.0.0.1, which only this machine can reach (RFC 1122, 3.2.1.3), with this port
abbrev pub IsLocal : ℕ → SocketAddr → Type 0
IsLocal port address = MatchIp (socket_ip address) (λ ip. ipv4_octets ip ≡ 127 ∷ 0 ∷ 0 ∷ 1 ∷ []) (λ _. ⊥) × (socket_port address ≡ port)

-- the port of the address at which a door listens
abbrev pub port_at : Option SocketAddr → Option ℕ
port_at = option_map socket_port
