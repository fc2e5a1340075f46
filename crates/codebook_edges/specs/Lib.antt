pub mod TextLaws
pub mod Texts
