pub mod Helped
