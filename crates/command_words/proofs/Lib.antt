pub mod ByClap
pub mod Numbers
pub mod PlainWord
pub mod ShortWords
pub mod Wanting
pub mod Within
