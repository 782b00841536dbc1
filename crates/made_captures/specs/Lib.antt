pub mod MadePacket
pub mod MadeCapture
pub mod MadeFrames
pub mod Laws
pub mod Internal
