-- Bytes of a file from one place up to another.
use Rattle.std.specs.Prelude.{ℕ, ◌≤◌, List, length}
use Rattle.packet_headers.specs.declared.frame.Span.{Span}

abbrev pub span_of : ℕ → ℕ → Span
span_of start end = record { start = start; end = end }

-- the span of no bytes
abbrev pub empty_span : Span
empty_span = span_of 0 0

abbrev pub IsSpanIn : List ℕ → Span → Type 0
IsSpanIn bytes span = (span.start ≤ span.end) × (span.end ≤ length bytes)
