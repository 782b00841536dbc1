-- The header of a capture file (pcap 2.4): 24 bytes with a magic number at 0, the version at 4 and 6,
-- and the link type at 20. The time zone, the accuracy of the times and the limit of captured bytes,
-- at 8, 12 and 16, are not looked at.
use Rattle.std.specs.Prelude.{ℕ, ◌%◌, Bool, ◌&&◌, nat_lt, ◌==◌, if◌then◌else◌, List, length, Option, Some, None, Result, Ok, Err}
use Rattle.packet_headers.specs.declared.frame.Link.{Link}
use Rattle.packet_headers.specs.declared.frame.Link.TheVariants.{Ethernet, Raw}
use Rattle.packet_headers.specs.declared.capture.CaptureFault.{CaptureFault}
use Rattle.packet_headers.specs.declared.capture.CaptureFault.TheVariants.{ShortHeader, BadMagic, BadVersion, LinkType}
use Rattle.packet_headers.specs.declared.byte_order.Endian.{Endian}
use Rattle.packet_headers.specs.declared.byte_order.Endian.TheVariants.{Little, Big}
use Rattle.packet_headers.specs.declared.capture.Resolution.{Resolution}
use Rattle.packet_headers.specs.declared.capture.Resolution.TheVariants.{Microseconds, Nanoseconds}
use Rattle.packet_headers.specs.declared.capture.Layout.{Layout}
use Rattle.packet_headers.specs.declared.capture.Form.{Form}
use Rattle.packet_headers.specs.ByteOrder.{little_u32_at, big_u32_at, u16_at, u32_at}

-- what a magic number says of the times
abbrev pub resolution_of : ℕ → Option Resolution
resolution_of magic =
    (if magic == 0xa1b2c3d4 then Some Microseconds else (if magic == 0xa1b23c4d then Some Nanoseconds else None))

-- all numbers of a file are in the order in which its magic number reads as one of the two
abbrev pub layout_of : Option Resolution → Option Resolution → Option Layout
layout_of (Some resolution) big = Some (record { order = Little; resolution = resolution })
layout_of None (Some resolution) = Some (record { order = Big; resolution = resolution })
layout_of None None = None

abbrev pub layout_at : List ℕ → Option Layout
layout_at bytes = layout_of (resolution_of (little_u32_at bytes 0)) (resolution_of (big_u32_at bytes 0))

abbrev pub has_version : Endian → List ℕ → Bool
has_version order bytes = u16_at order bytes 4 == 2 && u16_at order bytes 6 == 4

-- the link type is the lower half of its word
abbrev pub link_number : Endian → List ℕ → ℕ
link_number order bytes = u32_at order bytes 20 % 65536

abbrev pub link_of : ℕ → Option Link
link_of number = (if number == 1 then Some Ethernet else (if number == 101 then Some Raw else None))

abbrev pub form_of : Layout → ℕ → Option Link → Result Form CaptureFault
form_of layout number (Some link) = Ok (record { layout = layout; link = link })
form_of layout number None = Err (LinkType number)

-- what is behind the magic number
abbrev pub form_in : List ℕ → Option Layout → Result Form CaptureFault
form_in bytes None = Err BadMagic
form_in bytes (Some layout) =
    let number = link_number layout.order bytes in
    (if has_version layout.order bytes then form_of layout number (link_of number) else Err BadVersion)

-- the form that the header gives the file, or the first of its faults
unfoldable pub header_of : List ℕ → Result Form CaptureFault
header_of bytes = (if nat_lt (length bytes) 24 then Err ShortHeader else form_in bytes (layout_at bytes))
