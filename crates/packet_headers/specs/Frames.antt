-- The frames of several captures.
use Rattle.std.specs.Prelude.{ℕ, ◌+◌, List, [], ◌∷◌, length}
use Rattle.packet_headers.specs.declared.frame.Capture.{Capture}

-- how many frames the captures have
abbrev pub frames_in : List Capture → ℕ
frames_in [] = 0
frames_in (c ∷ cs) = length c.frames.items + frames_in cs
