pub mod Refusal
pub mod RefusalVariants
pub mod Said
pub mod SaidVariants
pub mod Who
