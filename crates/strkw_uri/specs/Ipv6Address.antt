-- IPv6address as RFC 3986 section 3.2.2 writes it, in nine alternatives. A law says that it derives
-- what `IsIpv6` derives, which counts groups.
use Rattle.std.specs.Prelude.{codes}
use Rattle.strkw_text.specs.Abnf.{Form, ◌⨾◌, ◌∣◌, Literal, Optional, Times, Exactly}
use Rattle.strkw_net.specs.Addresses.{IsIpv4, H16}

-- h16 ":"
abbrev pub GroupAndColon : Form
GroupAndColon = H16 ⨾ Literal (codes ":")

-- ls32 = ( h16 ":" h16 ) / IPv4address
abbrev pub Ls32 : Form
Ls32 = GroupAndColon ⨾ H16 ∣ IsIpv4

-- IPv6address =                            6( h16 ":" ) ls32
--             /                       "::" 5( h16 ":" ) ls32
--             / [               h16 ] "::" 4( h16 ":" ) ls32
--             / [ *1( h16 ":" ) h16 ] "::" 3( h16 ":" ) ls32
--             / [ *2( h16 ":" ) h16 ] "::" 2( h16 ":" ) ls32
--             / [ *3( h16 ":" ) h16 ] "::"    h16 ":"   ls32
--             / [ *4( h16 ":" ) h16 ] "::"              ls32
--             / [ *5( h16 ":" ) h16 ] "::"              h16
--             / [ *6( h16 ":" ) h16 ] "::"
abbrev pub Ipv6Address : Form
Ipv6Address =
    Exactly 6 GroupAndColon ⨾ Ls32
    ∣ Literal (codes "::") ⨾ Exactly 5 GroupAndColon ⨾ Ls32
    ∣ Optional H16 ⨾ Literal (codes "::") ⨾ Exactly 4 GroupAndColon ⨾ Ls32
    ∣ Optional (Times 0 1 GroupAndColon ⨾ H16) ⨾ Literal (codes "::") ⨾ Exactly 3 GroupAndColon
    ⨾ Ls32
    ∣ Optional (Times 0 2 GroupAndColon ⨾ H16) ⨾ Literal (codes "::") ⨾ Exactly 2 GroupAndColon
    ⨾ Ls32
    ∣ Optional (Times 0 3 GroupAndColon ⨾ H16) ⨾ Literal (codes "::") ⨾ GroupAndColon ⨾ Ls32
    ∣ Optional (Times 0 4 GroupAndColon ⨾ H16) ⨾ Literal (codes "::") ⨾ Ls32
    ∣ Optional (Times 0 5 GroupAndColon ⨾ H16) ⨾ Literal (codes "::") ⨾ H16
    ∣ Optional (Times 0 6 GroupAndColon ⨾ H16) ⨾ Literal (codes "::")
