-- What is printed of an IP and of an address: dotted numbers, or hex groups of which the longest run of zeros, two or more, is
-- `::` (RFC 5952); in front of a port, hex groups stand in brackets.
use Rattle.std.specs.Prelude.{ℕ, List, ◌++◌, codes, decimal}
use Rattle.std.specs.Net.Addr.{segments_of}
use Rattle.std.specs.Net.Text.{ipv4_text, ipv6_text}
use Rattle.wire.specs.declared.types.IpAddr.{IpAddr}
use Rattle.wire.specs.declared.types.IpAddr.TheVariants.{V4, V6}
use Rattle.wire.specs.declared.types.SocketAddr.{SocketAddr}

abbrev pub ip_text : IpAddr → List ℕ
ip_text (V4 o) = ipv4_text o
ip_text (V6 o) = ipv6_text (segments_of o)

abbrev pub before_port : IpAddr → List ℕ
before_port (V4 o) = ipv4_text o
before_port (V6 o) = codes "[" ++ ipv6_text (segments_of o) ++ codes "]"

abbrev pub address_text : SocketAddr → List ℕ
address_text a = before_port a.ip ++ codes ":" ++ decimal a.port
