pub mod Found
pub mod TextLaws
pub mod Whole
pub mod RefusalLaws
