pub mod PowerOfTwo
