-- What the code that writes ELF files holds, by the definitions.
pub mod Held
